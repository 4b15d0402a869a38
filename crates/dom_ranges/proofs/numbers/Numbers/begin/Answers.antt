use Rattle.dom_ranges.proofs.Cited.{[], refl, sym, ap, ◌∙◌, option_map_or, Numbers, written-same, none_from}
use Rattle.dom_base.proofs.Std.{get}
use Rattle.dom_ranges.proofs.SlotLists.{slots-same}
use Rattle.dom_base.specs.contracts.OwnerPartialEq.TheImpl as OwnerImpl
use Rattle.dom_ranges.proofs.numbers.Numbers.begin.Goals as goal

pub returns-in_ok-insert-clause-slots : goal.returns-in_ok-insert-clause-slots
returns-in_ok-insert-clause-slots c =
    let n = c.args.self.now in
    let r : Numbers = record { page = n.page; components = c.insert.new.self; alloc = n.alloc } in
    let none = none_from (get OwnerImpl.ghosts.eq n.components c.args.owner) (sym c.if-not-contains_key.ensures) in
    slots-same n r refl (written-same (λ v. v.items) (get OwnerImpl.ghosts.eq n.components) (get OwnerImpl.ghosts.eq r.components) c.args.owner c.new.result
    c.in_ok-insert.ensures.updates.0 (ap (λ found. option_map_or (λ v. v.items) found []) none ∙ sym c.new.ensures.items))
