use Rattle.dom_base.proofs.Std.{ℕ, length, arith, ap, sym, ◌∙◌, refl, ◌||◌, or_left, list_any}
use Rattle.node_arena.specs.Nodes.{children_of}
use Rattle.node_arena.proofs.Lists.{contains-head_of}
use Rattle.dom_tree.specs.Definitions.{nodes_of}
use Rattle.dom_tree.proofs.Walks.{among-next, none_left}
use Rattle.dom_tree.proofs.Children.{rest_of, rest_of-head, rest_of-next, is_text_key, shows_text}
use Rattle.dom_tree.proofs.Children.{shows_has_text}
use Rattle.dom_tree.proofs.forest.Forest.has_text.Goals as goal

pub loop-at-init : goal.loop-at-init
loop-at-init c = (
  c.first-at.ensures.node,
  λ k e. contains-head_of (children_of c.self.inside.arena.children c.args.key) k (sym c.first-at.ensures.value ∙ e),
  ap (list_any (is_text_key (nodes_of c.self.inside.arena.payloads)))
      (rest_of-head (children_of c.self.inside.arena.children c.args.key) c.first-at.result c.first-at.ensures.value),
)

pub returns-then-is_text : goal.returns-then-is_text
returns-then-is_text c =
    let shown = shows_text c.self.view_is c.self.invariant.kept c.in-Some.child (c.loop-at.invariant.0 c.in-Some.child c.in-Some.is) in
    let here = sym shown ∙ sym c.if-is_text.ensures in
    let rest = rest_of-next c.self.invariant.kept.forest c.args.key c.loop-at.invariant.1 c.in-Some.child c.in-Some.is refl in
    sym (sym c.loop-at.invariant.2 ∙ (ap (list_any (is_text_key (nodes_of c.self.inside.arena.payloads))) rest ∙
    or_left _ _ here))
    ∙ shows_has_text c.self.view_is c.self.invariant.kept c.args.key c.requires

pub loop-at-smaller : goal.loop-at-smaller
loop-at-smaller c =
    omega (
      arith,
      ap (length {A = ℕ})
          (rest_of-next c.self.invariant.kept.forest c.args.key c.loop-at.invariant.1 c.in-Some.child c.in-Some.is c.next-at.ensures.value),
    )

pub loop-at-preserved : goal.loop-at-preserved
loop-at-preserved c =
    let shown = shows_text c.self.view_is c.self.invariant.kept c.in-Some.child (c.loop-at.invariant.0 c.in-Some.child c.in-Some.is) in
    let here = sym shown ∙ sym c.if-is_text.ensures in
    let rest = rest_of-next c.self.invariant.kept.forest c.args.key c.loop-at.invariant.1 c.in-Some.child c.in-Some.is c.next-at.ensures.value in (
      c.next-at.ensures.node,
      among-next c.self.invariant.kept.forest c.args.key c.loop-at.invariant.1 c.in-Some.child c.in-Some.is c.next-at.ensures.value,
      sym (ap (λ b. b || list_any (is_text_key (nodes_of c.self.inside.arena.payloads))
          (rest_of (children_of c.self.inside.arena.children c.args.key) c.next-at.result)) here) ∙
          (sym (ap (list_any (is_text_key (nodes_of c.self.inside.arena.payloads))) rest) ∙ c.loop-at.invariant.2),
    )

pub returns : goal.returns
returns c =
    sym (sym (shows_has_text c.self.view_is c.self.invariant.kept c.args.key c.requires)
    ∙ (sym c.loop-at.invariant.2 ∙ (ap (list_any (is_text_key (nodes_of c.self.inside.arena.payloads)))
    (ap (rest_of (children_of c.self.inside.arena.children c.args.key)) (none_left c.loop-at.at c.in_default.not-Some)))))
