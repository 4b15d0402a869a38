use Rattle.dom_base.proofs.Std.{Some, sym, subst, ap, ◌∙◌}
use Rattle.std.proofs.lemmas.Map.Made.{lookup_key_passes}
use Rattle.dom_base.specs.contracts.OwnerPartialEq.TheImpl as OwnerImpl
use Rattle.dom_tree.specs.Table.{StandsAt}
use Rattle.dom_tree.proofs.OwnerLists.{one_owner}
use Rattle.dom_tree.proofs.table.KeyTable.place.Goals as goal

pub returns : goal.returns
returns c = subst (λ o. StandsAt c.args.self.now o (Some c.get-last.result)) (one_owner c.in-Some.found.now c.args.owner (sym c.eq.ensures ∙ c.if-eq.true))
    (c.in-Some.field-0-1.now, sym c.in-Some.ensures.entry, c.in-Some.ensures.value)

pub returns-2 : goal.returns-2
returns-2 c =
    let key = c.in_ok-place.field-0-1.now in
    let value = c.in_ok-place.field-0-2.now in
    let entries = c.args.self.now.components.entries in
    let same = one_owner c.args.owner key (lookup_key_passes (OwnerImpl.ghosts.eq c.args.owner) entries key (sym c.in_ok-place.ensures.key)) in
    (value, c.in_ok-place.ensures.entry ∙ ap (λ k. Some (k, value)) (sym same), sym c.in_ok-place.ensures.value)
