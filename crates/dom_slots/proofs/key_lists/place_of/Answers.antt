use Rattle.dom_base.proofs.Std.{length, sym, ap, ◌∙◌, unwrap_or, insert}
use Rattle.node_arena.specs.Nodes.{insert_before}
use Rattle.dom_slots.proofs.Places.{place-or-end, inserted-there}
use Rattle.dom_slots.proofs.key_lists.place_of.Goals as goal

pub returns-in-Some-clause-place : goal.returns-in-Some-clause-place
returns-in-Some-clause-place c =
    λ node.
    let xs = c.args.list.now in
    let b = c.in-Some.key in
    ap (λ i. insert xs i node) (c.unwrap_or.ensures ∙ (ap (λ o. unwrap_or o (length xs)) c.position_of.ensures ∙ place-or-end b xs))
    ∙ (inserted-there b xs node ∙ ap (λ o. insert_before xs node o) (sym c.in-Some.is))
