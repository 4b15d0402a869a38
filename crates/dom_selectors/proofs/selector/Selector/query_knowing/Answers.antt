-- The nodes that match are taken, one after another.
use Rattle.dom_selectors.proofs.Cited.{◌≡◌, ◌<◌, ℕ, Bool, [], ◌∷◌, ◌++◌, length, refl, sym, ap, subst, ◌∙◌, arith, map, filter, All}
use Rattle.dom_selectors.proofs.Cited.{All-push, NodeName, query_all, selector_matches, name_at, above-itself, IsWithin-itself}
use Rattle.dom_selectors.proofs.Cited.{List, suc, key_in, nodes_behind, nodes_from, none-some, selector_view}
use Rattle.dom_selectors.specs.Known.{SelectorAsks}
use Rattle.dom_selectors.proofs.QueryLaws.{behind_top, left_here, nothing_known, taken, left_out}
use Rattle.dom_selectors.proofs.selector.Selector.query_knowing.Goals.{then-some_matches+in_ok-take, else-some_matches}
use Rattle.dom_selectors.proofs.selector.Selector.query_knowing.Goals as goal

pub next_with-at-requires-clause-stands : goal.next_with-at-requires-clause-stands
next_with-at-requires-clause-stands g c = rw c.at.ensures (record {
  node = c.requires.node;
  within = above-itself c.args.forest.now.trees (name_at c.args.forest.now.names c.args.top) (c.law_nodes_stand_once.ensures.once c.args.top c.requires.node);
})

pub loop-at-init : goal.loop-at-init
loop-at-init g c =
    let f = c.args.forest.now in
    let law = c.law_nodes_stand_once.ensures in
    let test : NodeName → Bool = selector_matches f.trees (selector_view c.args.self.now) in
    let e = rw c.at.ensures at c.next_with-at.ensures in
    let asks : SelectorAsks (selector_view c.args.self.now) c.of_kind-asks.result = rw c.of_kind-asks.ensures c.requires.asks in
    record {
      same = e.same;
      stands = e.stands;
      has = e.has;
      known = nothing_known f c.nothing-known.result c.nothing-known.ensures.failing c.nothing-known.ensures.matching c.nothing-known.ensures.above
          c.args.self.now.complexes.items;
      nodes = subst (All (λ k. k < length f.names)) (sym c.in_ok-found.ensures.items) (λ k d h. absurd (omega (arith, h)));
      all = ap (λ xs. map (name_at f.names) xs ++ filter test (nodes_from f c.args.top c.next_with-at.result)) c.in_ok-found.ensures.items
          ∙ e.passed test (λ x. c.signs-signs.ensures f.trees x) (λ x. asks f.trees x) (λ x m j none. absurd (none-some j none))
          ∙ ap (filter test) (behind_top f.trees (name_at f.names c.args.top) (IsWithin-itself f law.once law.only c.args.top c.requires.node));
    }

pub some_matches-requires-clause-unasked : goal.some_matches-requires-clause-unasked
some_matches-requires-clause-unasked g c = rw (c.loop-at.invariant.same c.in-Some.node c.in-Some.is)
    (left_here c.of_kind-asks.result c.args.forest.now.trees (name_at c.args.forest.now.names c.in-Some.node.key) c.as_slice-complexes.result.now
    c.first_unasked-unasked.result.now c.first_unasked-unasked.ensures (c.loop-at.invariant.has c.in-Some.node.key (ap key_in c.in-Some.is)))

pub some_matches-requires-clause-known : goal.some_matches-requires-clause-known
some_matches-requires-clause-known g c = rw (c.loop-at.invariant.same c.in-Some.node c.in-Some.is, c.as_slice-complexes.ensures.value) c.loop-at.invariant.known

pub some_matches-requires-clause-left : goal.some_matches-requires-clause-left
some_matches-requires-clause-left g c = rw c.as_slice-complexes.ensures.value c.requires.left

pub loop-at-smaller : goal.loop-at-smaller
loop-at-smaller g c =
    let f = c.args.forest.now in
    let longer : length (nodes_from f c.args.top c.loop-at.at) ≡ suc (length (nodes_behind f c.args.top c.in-Some.node.key)) =
    ap (λ o. length (nodes_from f c.args.top o)) c.in-Some.is in
    omega (arith, c.next_with-at-in-Some.ensures.shorter, longer)

pub loop-at-preserved : goal.loop-at-preserved
loop-at-preserved g c =
    let f = c.args.forest.now in
    let k = c.in-Some.node.key in
    let x = name_at f.names k in
    let test : NodeName → Bool = selector_matches f.trees (selector_view c.args.self.now) in
    let same = c.loop-at.invariant.same c.in-Some.node c.in-Some.is in
    let stands = c.loop-at.invariant.stands k (ap key_in c.in-Some.is) in
    let rest = nodes_behind f c.args.top k in
    let matched : test x ≡ c.some_matches.result = sym (rw (same, c.as_slice-complexes.ensures.value) at c.some_matches.ensures.value) in
    let e = c.next_with-at-in-Some.ensures in
    let asks : SelectorAsks (selector_view c.args.self.now) c.of_kind-asks.result = rw c.of_kind-asks.ensures c.requires.asks in
    let known = rw (same, c.as_slice-complexes.ensures.value) at c.some_matches.ensures.known in
    let below = rw c.as_slice-complexes.ensures.value at c.failing_below-failing.ensures in
    let passed = λ (ks : List ℕ). ap (λ r. map (name_at f.names) ks ++ r) (e.passed test (λ y. c.signs-signs.ensures f.trees y)
    (λ y. asks f.trees y) (below f known)) in
    let before : map (name_at f.names) c.loop-at.found.items ++ filter test (x ∷ rest) ≡ _ =
    ap (λ o. map (name_at f.names) c.loop-at.found.items ++ filter test (nodes_from f c.args.top o)) (sym c.in-Some.is) ∙ c.loop-at.invariant.all in
    let left : All (λ j. j < length f.names) c.if-some_matches.found.items ×
    (map (name_at f.names) c.if-some_matches.found.items ++ filter test rest ≡ query_all f.trees (selector_view c.args.self.now) (name_at f.names c.args.top)) =
    elim c.if-some_matches.branch [
      | then-some_matches+in_ok-take w ↦
          let grown : c.if-some_matches.found.items ≡ c.loop-at.found.items ++ k ∷ [] =
          rw w.found-is w.in_ok-take.ensures ∙ ap (λ (j : ℕ). c.loop-at.found.items ++ j ∷ []) w.key.ensures.value in (
            subst (All (λ j. j < length f.names)) (sym grown)
                (All-push (λ j. j < length f.names) c.loop-at.found.items k c.loop-at.invariant.nodes stands.node),
            ap (λ ks. map (name_at f.names) ks ++ filter test rest) grown
                ∙ taken (name_at f.names) test c.loop-at.found.items k rest (matched ∙ w.if-some_matches.true) ∙ before,
          )
      | else-some_matches w ↦
          let same_found : c.if-some_matches.found.items ≡ c.loop-at.found.items = rw w.found-is refl in (
            subst (All (λ j. j < length f.names)) (sym same_found) c.loop-at.invariant.nodes,
            ap (λ ks. map (name_at f.names) ks ++ filter test rest) same_found
                ∙ left_out (name_at f.names) test c.loop-at.found.items k rest (matched ∙ w.if-some_matches.false) ∙ before,
          )
    ] in
    record {
      same = e.same;
      stands = e.stands;
      has = e.has;
      known = known;
      nodes = left.0;
      all = passed c.if-some_matches.found.items ∙ left.1;
    }
