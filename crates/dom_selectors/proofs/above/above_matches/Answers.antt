-- What is remembered of the parent, and what is found.
use Rattle.dom_selectors.proofs.Cited.{◌≡◌, Some, true, false, refl, ap, sym, subst, ◌∙◌, list_any, complex_matches, name_at, complex_from, combinator_view}
use Rattle.dom_selectors.proofs.Cited.{IsKnown, NamedTrees}
use Rattle.dom_selectors.specs.Known.{from_child}
use Rattle.dom_selectors.proofs.Remembered.{found_below, from_parent, from_root, said_below}
use Rattle.dom_selectors.proofs.above.above_matches.Goals.{After-matches_from}
use Rattle.dom_selectors.proofs.above.above_matches.Goals as goal

pub returns-in_default-clause-value : goal.returns-in_default-clause-value
returns-in_default-clause-value c =
    let f = c.args.node.now.whole in
    let law = rw c.forest-forest.ensures at c.law_nodes_stand_once.ensures in
    sym (ap (list_any (complex_matches f.trees (complex_from c.args.left.now.first.now c.args.left.now.links.now)))
    (from_root f law.once law.only (combinator_view c.args.left.now.combinator) c.requires.upward (name_at f.names c.args.node.now.key)
    (sym c.in_default.ensures.value)))

pub matches_from-requires-clause-above : goal.matches_from-requires-clause-above
matches_from-requires-clause-above c =
    subst (λ (g : NamedTrees). IsKnown g (complex_from c.args.left.now.first.now c.args.left.now.links.now) c.args.known.now.above)
    (sym (c.in-Some.ensures.same c.in-Some.parent refl)) c.requires.known.above

pub returns-then-is_at-clause-value : goal.returns-then-is_at-clause-value
returns-then-is_at-clause-value c =
    let f = c.args.node.now.whole in
    let p = sym c.in-Some.ensures.value ∙ ap (λ k. Some (name_at f.names k)) (sym c.key-key.ensures.value) in
    sym (said_below f (complex_from c.args.left.now.first.now c.args.left.now.links.now) (combinator_view c.args.left.now.combinator) true
    c.args.known.now.matching c.requires.known.matching c.key-key.result (c.is_at.ensures c.if-is_at.true) (name_at f.names c.args.node.now.key) p)

-- what was found at the parent
found : (c : After-matches_from) → list_any (complex_matches c.args.node.now.whole.trees (complex_from c.args.left.now.first.now c.args.left.now.links.now))
    (from_child c.args.node.now.whole.trees (combinator_view c.args.left.now.combinator) (name_at c.args.node.now.whole.names c.in-Some.parent.key)) ≡
    c.matches_from.result
found c =
    let d = complex_from c.args.left.now.first.now c.args.left.now.links.now in
    let how = combinator_view c.args.left.now.combinator in
    sym (subst (λ (g : NamedTrees).
    c.matches_from.result ≡ list_any (complex_matches g.trees d) (from_child g.trees how (name_at g.names c.in-Some.parent.key)))
    (c.in-Some.ensures.same c.in-Some.parent refl) c.matches_from.ensures.value)

-- what was found above the parent
above : (c : After-matches_from) → IsKnown c.args.node.now.whole (complex_from c.args.left.now.first.now c.args.left.now.links.now) c.matches_from.new.above
above c =
    subst (λ (g : NamedTrees). IsKnown g (complex_from c.args.left.now.first.now c.args.left.now.links.now) c.matches_from.new.above)
    (c.in-Some.ensures.same c.in-Some.parent refl) c.matches_from.ensures.above

pub returns-then-matches_from-clause-value : goal.returns-then-matches_from-clause-value
returns-then-matches_from-clause-value c =
    let f = c.args.node.now.whole in
    let law = rw c.forest-forest.ensures at c.law_nodes_stand_once.ensures in
    sym (ap (list_any (complex_matches f.trees (complex_from c.args.left.now.first.now c.args.left.now.links.now)))
    (from_parent f law.once law.only (combinator_view c.args.left.now.combinator) c.requires.upward (name_at f.names c.args.node.now.key)
    (name_at f.names c.in-Some.parent.key) (sym c.in-Some.ensures.value)) ∙ found c.before.before ∙ c.if-matches_from.true)

pub returns-then-matches_from-clause-known : goal.returns-then-matches_from-clause-known
returns-then-matches_from-clause-known c =
    let f = c.args.node.now.whole in
    let law = rw c.forest-forest.ensures at c.law_nodes_stand_once.ensures in
    let d = complex_from c.args.left.now.first.now c.args.left.now.links.now in
    let how = combinator_view c.args.left.now.combinator in
    record {
      failing = c.requires.known.failing;
      matching = found_below f law.once law.only d how c.requires.upward true c.key-key.result
          (ap (λ k. list_any (complex_matches f.trees d) (from_child f.trees how (name_at f.names k))) c.key-key.ensures.value
          ∙ found c.before.before ∙ c.if-matches_from.true);
      above = above c.before.before;
    }

pub returns-clause-value : goal.returns-clause-value
returns-clause-value c =
    let f = c.args.node.now.whole in
    let law = rw c.forest-forest.ensures at c.law_nodes_stand_once.ensures in
    sym (ap (list_any (complex_matches f.trees (complex_from c.args.left.now.first.now c.args.left.now.links.now)))
    (from_parent f law.once law.only (combinator_view c.args.left.now.combinator) c.requires.upward (name_at f.names c.args.node.now.key)
    (name_at f.names c.in-Some.parent.key) (sym c.in-Some.ensures.value)) ∙ found c.before.before ∙ c.if-matches_from.false)

pub returns-clause-known : goal.returns-clause-known
returns-clause-known c =
    let f = c.args.node.now.whole in
    let law = rw c.forest-forest.ensures at c.law_nodes_stand_once.ensures in
    let d = complex_from c.args.left.now.first.now c.args.left.now.links.now in
    let how = combinator_view c.args.left.now.combinator in
    record {
      failing = found_below f law.once law.only d how c.requires.upward false c.key-key.result
          (ap (λ k. list_any (complex_matches f.trees d) (from_child f.trees how (name_at f.names k))) c.key-key.ensures.value
          ∙ found c.before.before ∙ c.if-matches_from.false);
      matching = c.requires.known.matching;
      above = above c.before.before;
    }
