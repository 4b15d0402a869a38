use Rattle.dom_base.proofs.Std.{[], ◌∷◌, ◌++◌}
use Rattle.dom_tree.proofs.KeyLists.{lent-written, room_of}
use Rattle.dom_tree.proofs.OwnerLists.{of_ok}
use Rattle.dom_tree.proofs.table.KeyTable.push.Goals as goal

pub returns-in-Some : goal.returns-in-Some
returns-in-Some c =
    let t = c.args.self.now in
    let old = c.pair_mut.result.1.now in
    let new = c.push-in-Some.new.self in
    lent-written t c.args.owner c.in-Component.is c.in-Some.place c.pair_mut.result.0.now old new c.in-Some.ensures c.pair_mut.ensures.value
    c.pair_mut.ensures.unique c.args.key
    (of_ok c.push-in-Some.result (old.items ++ c.args.key ∷ []) old.items new.items
    (c.push-in-Some.ensures.succeeds (room_of t c.args.owner c.in-Component.is c.in-Some.place c.pair_mut.result.0.now old new c.in-Some.ensures
    c.pair_mut.ensures.value c.requires))
    c.push-in-Some.ensures.items)
