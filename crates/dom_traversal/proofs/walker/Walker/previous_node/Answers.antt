use Rattle.dom_traversal.proofs.Cited.{◌≡◌, ℕ, true, sym, ap, subst, ◌∙◌, Option, option_map, accepts, is_inclusive_ancestor, last_of, name_at, up_to_node}
use Rattle.dom_traversal.proofs.Cited.{walker_nodes, ComesBack, filter_of, IsWalkerOf, KeyedWalker, walker_view}
use Rattle.dom_traversal.proofs.Climbing.{walker-within}
use Rattle.dom_traversal.proofs.Backward.{Returns-begin, ComesBack-key, back-hit, back-miss}
use Rattle.dom_traversal.proofs.Beginning.{move-step}
use Rattle.dom_base.specs.declared.Move.TheVariants as moves
use Rattle.dom_traversal.proofs.walker.Walker.previous_node.Goals as goal

pub back-at-requires-clause-comes : goal.back-at-requires-clause-comes
back-at-requires-clause-comes c =
    let f = c.args.forest.now in
    let w : KeyedWalker = record { root = c.self.inside.root; current = c.self.inside.current; filter = filter_of c.self.inside.filter } in
    let placed = subst (IsWalkerOf f) (sym c.self.view_is) c.requires in
    let at = walker-within c.law_nodes_stand_once.ensures.once c.law_nodes_stand_once.ensures.only placed (sym c.if-not-is_inclusive_ancestor.ensures) in
    subst (λ (v : KeyedWalker). ComesBack f v c.self.inside.current) c.self.view_is
    (ComesBack-key f w c.self.inside.current placed.current (Returns-begin f.trees (walker_view f.names w) at))

pub returns-then-accepts-clause-value : goal.returns-then-accepts-clause-value
returns-then-accepts-clause-value c =
    let f = c.args.forest.now in
    let w = c.args.self.now in
    let v = walker_view f.names w in
    let x = name_at f.names c.in-Some.key in
    let accepted = sym (ap (λ (u : KeyedWalker). accepts f.trees u.filter x) c.self.view_is) ∙ sym c.if-accepts.ensures in
    let inside = subst (λ (u : KeyedWalker). is_inclusive_ancestor f.trees (name_at f.names u.root) (name_at f.names u.current) ≡ true)
    c.self.view_is (sym c.if-not-is_inclusive_ancestor.ensures) in
    back-hit f.trees v x accepted (c.loop-at.invariant.comes c.in-Some.key c.in-Some.is).path
    ∙ (ap (λ (o : Option ℕ). last_of (walker_nodes f.trees v (up_to_node f.trees v.root (option_map (name_at f.names) o)))) (sym c.in-Some.is)
    ∙ (c.loop-at.invariant.left ∙ move-step f.trees v moves.Previous inside))

pub loop-at-preserved : goal.loop-at-preserved
loop-at-preserved c =
    let f = c.args.forest.now in
    let w = c.args.self.now in
    let v = walker_view f.names w in
    let x = name_at f.names c.in-Some.key in
    let passed = sym (ap (λ (u : KeyedWalker). accepts f.trees u.filter x) c.self.view_is) ∙ sym c.if-accepts.ensures in
    record {
      comes = c.back-at-in-Some.ensures.comes;
      left =
          ap last_of (c.back-at-in-Some.ensures.value ∙ sym (back-miss f.trees v x passed))
          ∙ (ap (λ (o : Option ℕ). last_of (walker_nodes f.trees v (up_to_node f.trees v.root (option_map (name_at f.names) o))))
          (sym c.in-Some.is) ∙ c.loop-at.invariant.left);
    }
