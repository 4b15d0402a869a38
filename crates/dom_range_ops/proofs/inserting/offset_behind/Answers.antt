use Rattle.dom_range_ops.proofs.Cited.{◌≡◌, ◌≤◌, false, sym, ap, ◌∙◌, arith, kind_of, has_data, index_of, part_of, name_in, owner_in, trees_in, index_limited}
use Rattle.dom_range_ops.proofs.InsertedRanges.{length-limited}
use Rattle.dom_range_ops.proofs.inserting.offset_behind.Goals.{in-Some, in-None, in-Fragment, in_default}
use Rattle.dom_range_ops.proofs.inserting.offset_behind.Goals as goal

pub index-place-requires : goal.index-place-requires
index-place-requires c = (c.requires.child_is_child c.in-Some.child c.in-Some.is).node

pub overflow_add-result : goal.overflow_add-result
overflow_add-result c =
    let d = c.args.doc.now in
    let few : c.match-reference.place ≤ 1000000 = elim c.match-reference.branch [
      | in-Some w ↦
          let child = c.requires.child_is_child w.in-Some.child w.in-Some.is in
          let o = owner_in d c.args.parent in
          let less = index_limited (part_of d.world o) (c.laws.ensures.parts o) (c.laws.ensures.limited o) (name_in d w.in-Some.child)
          (name_in d c.args.parent) child.child in
          let is = w.place-is ∙ w.index-place.ensures ∙ ap (λ q. index_of (part_of d.world q).trees (name_in d w.in-Some.child)) child.owner in
          omega (arith, less, is)
      | in-None w ↦
          let o = owner_in d c.args.parent in
          let less = length-limited (part_of d.world o) (c.laws.ensures.parts o) (c.laws.ensures.limited o) (name_in d c.args.parent) c.requires.open in
          let is = w.place-is ∙ w.length-place.ensures in
          omega (arith, less, is)
    ] in
    let size : c.match-kind.size ≤ 1000000 = elim c.match-kind.branch [
      | in-Fragment w ↦
          let o = owner_in d c.args.node in
          let plain : has_data (kind_of (trees_in d c.args.node) (name_in d c.args.node)) ≡ false = ap has_data (sym c.kind.ensures ∙ w.in-Fragment.is) in
          let less = length-limited (part_of d.world o) (c.laws.ensures.parts o) (c.laws.ensures.limited o) (name_in d c.args.node) plain in
          let is = w.size-is ∙ w.length-size.ensures in
          omega (arith, less, is)
      | in_default w ↦ let is = w.size-is in omega (arith, is)
    ] in
    omega (arith, few, size)
