use Rattle.dom_ranges.proofs.Cited.{◌≡◌, inl, inr, ℕ, ◌<◌, ◌≤◌, ◌++◌, ◌∷◌, Bool, true, false, not, Option, Some, None, is_some, nat_lt, nat_le, refl, sym, ap}
use Rattle.dom_ranges.proofs.Cited.{subst, ◌∙◌, arith, eqb-true, not-false, leb-true, ltb-true, le-leb, lt-ltb, false_from_ne_true, append_assoc, index_of}
use Rattle.dom_ranges.proofs.Cited.{name_at, depth_at, path_at, Reaches}
use Rattle.dom_ranges.proofs.Before.{before-same, before-up, before-down, before-beside}
use Rattle.dom_ranges.proofs.Climbing.{path-reached, path-through, reached-deep, reached-here, first-through, first-same}
use Rattle.dom_ranges.proofs.order.is_before.Goals as goal

-- whether an index was found below a limit
abbrev IsBelow : Option ℕ → ℕ → ℕ → Type 0
IsBelow r i limit = ((k : ℕ) → r ≡ Some k → (k ≡ i) × (k < limit)) × (r ≡ None → limit ≤ i)

some_below : (r : Option ℕ) (i limit : ℕ) → IsBelow r i limit → is_some r ≡ nat_lt i limit
some_below None i limit h = sym (false_from_ne_true (nat_lt i limit) (λ e. omega (arith, h.1 refl, ltb-true i limit e)))
some_below (Some k) i limit h = sym (lt-ltb i limit (let w = h.0 k refl in omega (arith, w.0, w.1)))

none_below : (t : Bool) (r : Option ℕ) (i limit : ℕ) → is_some r ≡ not t → IsBelow r i limit → t ≡ nat_le limit i
none_below true None i limit e h = sym (le-leb limit i (h.1 refl))
none_below false None i limit e h = cc
none_below true (Some k) i limit e h = cc
none_below false (Some k) i limit e h = sym (false_from_ne_true (nat_le limit i) (λ f. let w = h.0 k refl in omega (arith, w.0, w.1, leb-true limit i f)))

pub part-first_side-requires-clause-one_tree : goal.part-first_side-requires-clause-one_tree
part-first_side-requires-clause-one_tree c =
    let f = c.args.forest.now in
    let e = c.law_nodes_stand_once.ensures in
    let v = path-reached f e.once e.only c.args.first.0 c.climb-first_top.result.0 c.climb-first_top.result.1 c.climb-first_top.ensures.reached in
    let w = path-reached f e.once e.only c.args.second.0 c.climb-second_top.result.0 c.climb-second_top.result.1 c.climb-second_top.ensures.reached in
    sym (first-through f e.once e.only c.args.first.0 c.climb-first_top.result.0 v.0 c.climb-first_top.ensures.node v.1)
    ∙ (first-same f e.once e.only c.args.first.0 c.args.second.0 c.requires.first_is_node c.requires.second_is_node c.requires.one_tree
    ∙ first-through f e.once e.only c.args.second.0 c.climb-second_top.result.0 w.0 c.climb-second_top.ensures.node w.1)

pub returns-then-ne : goal.returns-then-ne
returns-then-ne c =
    let f = c.args.forest.now in
    let e = c.law_nodes_stand_once.ensures in
    let v = path-reached f e.once e.only c.args.first.0 c.climb-first_top.result.0 c.climb-first_top.result.1 c.climb-first_top.ensures.reached in
    let w = path-reached f e.once e.only c.args.second.0 c.climb-second_top.result.0 c.climb-second_top.result.1 c.climb-second_top.ensures.reached in
    let b = c.part-first_side.ensures.beside in
    let i = index_of f.trees (name_at f.names c.part-first_side.result.0) in
    let j = index_of f.trees (name_at f.names c.part-first_side.result.1) in
    c.comes_first.ensures
    ∙ sym (before-beside f.trees (name_at f.names c.args.first.0) (name_at f.names c.args.second.0) c.args.first.1 c.args.second.1 b.path i j
    (b.first_rest ++ v.0, v.1 ∙ (ap (λ path. path ++ v.0) b.first_path ∙ append_assoc b.path (i ∷ b.first_rest) v.0))
    (b.second_rest ++ w.0, w.1 ∙ (ap (λ path. path ++ w.0) b.second_path ∙ append_assoc b.path (j ∷ b.second_rest) w.0))
    b.apart)

pub returns-in-Some-default : goal.returns-in-Some-default
returns-in-Some-default c =
    let f = c.args.forest.now in
    let e = c.law_nodes_stand_once.ensures in
    let child = c.in-Some-default.child in
    let same : c.climb-first_top.result.0 ≡ c.climb-second_top.result.0 =
    eqb-true c.climb-first_top.result.0 c.climb-second_top.result.0 (not-false _ (sym c.if-ne.ensures)) in
    let reached : Reaches f c.args.first.0 c.climb-first_top.result.0 (Some child) =
    subst (Reaches f c.args.first.0 c.climb-first_top.result.0) c.in-Some-default.is-0 c.climb-first_top.ensures.reached in
    let deep = reached-deep f e.once e.only c.args.first.0 c.climb-first_top.result.0 child reached in
    let level : depth_at f c.args.second.0 ≡ depth_at f c.climb-second_top.result.0 = elim c.climb_together-first_gauge.ensures.root [
      | inl e ↦ absurd (omega (arith, e, deep, c.climb-first_top.ensures.depth))
      | inr e ↦ omega (arith, e, c.climb-second_top.ensures.depth)
    ] in
    let here : c.args.second.0 ≡ c.climb-first_top.result.0 =
    reached-here f e.once e.only c.args.second.0 c.climb-second_top.result.0 c.climb-second_top.result.1 c.climb-second_top.ensures.reached level ∙ sym same in
    let w = path-through f e.once e.only c.args.first.0 c.climb-first_top.result.0 child reached in
    let i = index_of f.trees (name_at f.names child) in
    c.is_some.ensures
    ∙ (some_below c.index_below.result i c.args.second.1 (c.index_below.ensures.below, c.index_below.ensures.none)
    ∙ sym (before-up f.trees (name_at f.names c.args.first.0) (name_at f.names c.args.second.0) c.args.first.1 c.args.second.1 i w.0
    (w.1 ∙ ap (λ k. path_at f k ++ i ∷ w.0) (sym here))))

pub returns-in-None-Some : goal.returns-in-None-Some
returns-in-None-Some c =
    let f = c.args.forest.now in
    let e = c.law_nodes_stand_once.ensures in
    let child = c.in-None-Some.child in
    let same : c.climb-first_top.result.0 ≡ c.climb-second_top.result.0 =
    eqb-true c.climb-first_top.result.0 c.climb-second_top.result.0 (not-false _ (sym c.if-ne.ensures)) in
    let here : c.args.first.0 ≡ c.climb-first_top.result.0 =
    subst (Reaches f c.args.first.0 c.climb-first_top.result.0) c.in-None-Some.is-0 c.climb-first_top.ensures.reached in
    let reached : Reaches f c.args.second.0 c.climb-second_top.result.0 (Some child) =
    subst (Reaches f c.args.second.0 c.climb-second_top.result.0) c.in-None-Some.is-1 c.climb-second_top.ensures.reached in
    let w = path-through f e.once e.only c.args.second.0 c.climb-second_top.result.0 child reached in
    let i = index_of f.trees (name_at f.names child) in
    none_below c.is_none.result c.index_below-in-None-Some.result i c.args.first.1 c.is_none.ensures
    (c.index_below-in-None-Some.ensures.below, c.index_below-in-None-Some.ensures.none)
    ∙ sym (before-down f.trees (name_at f.names c.args.first.0) (name_at f.names c.args.second.0) c.args.first.1 c.args.second.1 i w.0
    (w.1 ∙ ap (λ k. path_at f k ++ i ∷ w.0) (sym (here ∙ same))))

pub returns-in-None-None : goal.returns-in-None-None
returns-in-None-None c =
    let f = c.args.forest.now in
    let same : c.climb-first_top.result.0 ≡ c.climb-second_top.result.0 =
    eqb-true c.climb-first_top.result.0 c.climb-second_top.result.0 (not-false _ (sym c.if-ne.ensures)) in
    let first : c.args.first.0 ≡ c.climb-first_top.result.0 =
    subst (Reaches f c.args.first.0 c.climb-first_top.result.0) c.in-None-None.is-0 c.climb-first_top.ensures.reached in
    let second : c.args.second.0 ≡ c.climb-second_top.result.0 =
    subst (Reaches f c.args.second.0 c.climb-second_top.result.0) c.in-None-None.is-1 c.climb-second_top.ensures.reached in
    sym (before-same f.trees (name_at f.names c.args.first.0) (name_at f.names c.args.second.0) c.args.first.1 c.args.second.1
    (ap (name_at f.names) (first ∙ (same ∙ sym second))))
