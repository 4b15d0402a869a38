use Rattle.dom_base.proofs.Std.{◌≡◌, ℕ, ◌+◌, length, ap, sym, ◌∙◌, arith, refl, true, false, not, and_left, and_right, and_from}
use Rattle.node_arena.specs.Nodes.{children_of, next_of}
use Rattle.node_arena.proofs.Lists.{contains-head_of}
use Rattle.dom_tree.specs.Definitions.{nodes_of}
use Rattle.dom_tree.proofs.Walks.{among-next, few_children, none_left}
use Rattle.dom_tree.proofs.Kept.{within}
use Rattle.dom_tree.proofs.Children.{rest_of, rest_of-head, rest_of-next, tally, tally-yes, tally-no, tally-length}
use Rattle.dom_tree.proofs.Children.{is_counted, is_counted-split, apart_test, shows_element_count}
use Rattle.dom_tree.proofs.forest.Forest.element_count.Goals as goal
use Rattle.dom_tree.proofs.forest.Forest.element_count.Goals.{then-is_element+then-ne, else-is_element, else-is_element-via-then-is_element+else-ne}
use Rattle.dom_tree.proofs.forest.Forest.element_count.Goals.{else-is_element-via-else-is_element}

pub loop-at-init : goal.loop-at-init
loop-at-init c = (
  c.first-at.ensures.node,
  λ k e. contains-head_of (children_of c.self.inside.arena.children c.args.key) k (sym c.first-at.ensures.value ∙ e),
  ap (λ ks. 0 + tally (is_counted (nodes_of c.self.inside.arena.payloads) c.args.apart) ks)
      (rest_of-head (children_of c.self.inside.arena.children c.args.key) c.first-at.result c.first-at.ensures.value) ∙ omega arith,
)

pub overflow_add-count : goal.overflow_add-count
overflow_add-count c =
    let few = c.self.invariant.kept.few in
    let inside = within c.self.view_is c.self.invariant.kept c.args.key c.requires.key_is_node in
    let paired = c.self.invariant.kept.paired in
    let below = few_children c.self.inside.arena.children c.self.invariant.kept.forest c.args.key (omega arith) in
    let rest = rest_of-next c.self.invariant.kept.forest c.args.key c.loop-at.invariant.1 c.in-Some.child c.in-Some.is refl in
    let counted = is_counted (nodes_of c.self.inside.arena.payloads) c.args.apart in
    let was = ap (tally counted) rest in
    let on : counted c.in-Some.child ≡ true =
    is_counted-split c.self.view_is c.self.invariant.kept c.in-Some.child c.args.apart
    (c.loop-at.invariant.0 c.in-Some.child c.in-Some.is) c.requires.apart_is_node ∙
    and_from _ _ (sym c.if-is_element.ensures) (sym (c.if-ne.ensures ∙ ap not (apart_test c.args.apart c.in-Some.child))) in
    omega (
      arith,
      was,
      c.loop-at.invariant.2,
      tally-yes counted c.in-Some.child
          (rest_of (children_of c.self.inside.arena.children c.args.key) (next_of c.self.inside.arena.children c.in-Some.child)) on,
      tally-length counted (children_of c.self.inside.arena.children c.args.key),
    )

pub loop-at-smaller : goal.loop-at-smaller
loop-at-smaller c =
    omega (
      arith,
      ap (length {A = ℕ})
          (rest_of-next c.self.invariant.kept.forest c.args.key c.loop-at.invariant.1 c.in-Some.child c.in-Some.is c.next-at.ensures.value),
    )

pub loop-at-preserved : goal.loop-at-preserved
loop-at-preserved c =
    let counted = is_counted (nodes_of c.self.inside.arena.payloads) c.args.apart in
    let left = rest_of (children_of c.self.inside.arena.children c.args.key) c.next-at.result in
    let rest = rest_of-next c.self.invariant.kept.forest c.args.key c.loop-at.invariant.1 c.in-Some.child c.in-Some.is c.next-at.ensures.value in
    let was = ap (tally counted) rest in
    let split = is_counted-split c.self.view_is c.self.invariant.kept c.in-Some.child c.args.apart
    (c.loop-at.invariant.0 c.in-Some.child c.in-Some.is) c.requires.apart_is_node in (
      c.next-at.ensures.node,
      among-next c.self.invariant.kept.forest c.args.key c.loop-at.invariant.1 c.in-Some.child c.in-Some.is c.next-at.ensures.value,
      elim c.if-is_element.branch [
        | then-is_element+then-ne w ↦
            let on = split ∙ and_from _ _ (sym w.if-is_element.ensures) (sym (w.if-ne.ensures ∙ ap not (apart_test c.args.apart c.in-Some.child))) in
            omega (arith, w.count-is, was, c.loop-at.invariant.2, tally-yes counted c.in-Some.child left on)
        | else-is_element w ↦
            let off : counted c.in-Some.child ≡ false = split ∙ elim w.else-is_element.branch [
              | else-is_element-via-then-is_element+else-ne w' ↦
                  and_right _ _ (sym (w'.if-ne.ensures ∙ ap not (apart_test c.args.apart c.in-Some.child)))
              | else-is_element-via-else-is_element w' ↦ and_left _ _ (sym w'.if-is_element.ensures)
            ] in
            omega (arith, w.count-is, was, c.loop-at.invariant.2, tally-no counted c.in-Some.child left off)
      ],
    )

pub returns : goal.returns
returns c =
    let ends = ap (tally (is_counted (nodes_of c.self.inside.arena.payloads) c.args.apart))
    (ap (rest_of (children_of c.self.inside.arena.children c.args.key)) (none_left c.loop-at.at c.in_default.not-Some)) in
    let counted = c.loop-at.invariant.2 in
    let count : c.loop-at.count ≡ tally (is_counted (nodes_of c.self.inside.arena.payloads) c.args.apart)
    (children_of c.self.inside.arena.children c.args.key) = omega arith in
    count ∙ shows_element_count c.self.view_is c.self.invariant.kept c.args.key c.args.apart c.requires.key_is_node
