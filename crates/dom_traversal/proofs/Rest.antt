-- What a search forward leaves: the accepted nodes behind the one that it found.
use Rattle.dom_traversal.proofs.Cited.{◌≡◌, ◌⊎◌, inl, inr, ℕ, Bool, true, false, not, cond, ◌&&◌, List, [], ◌∷◌, Option, Some, None, refl, sym, ap, subst, ◌∙◌}
use Rattle.dom_traversal.proofs.Cited.{filter, list_any, cases_Bool, none-some, same_Some, above-within, accepts, after-in, all_single, ancestors, behind}
use Rattle.dom_traversal.proofs.Cited.{Filter, filter-no, filter-same, filter-yes, first_of, In, inclusive_descendants, is_inclusive_ancestor, is_reject}
use Rattle.dom_traversal.proofs.Cited.{is_shown, IsWithin-key, items_after, iterator_next_node, name_at, name_eq, name_eq-from, name_eq-other, NamedTrees}
use Rattle.dom_traversal.proofs.Cited.{no_first, node_in, NodeName, rejects, Single, Skip, StandAlone, StandOnce, StandsIn, verdict_at, Walker, walker_move}
use Rattle.dom_traversal.proofs.Cited.{walker_nodes, within-member, IsIteratorOf, IsWalkerOf, iterator_rest, iterator_view, KeyedIterator, KeyedWalker}
use Rattle.dom_traversal.proofs.Cited.{walker_rest, walker_view}
use Rattle.dom_model.proofs.Model.{Next}
use Rattle.dom_traversal.proofs.Fewer.{first-in}

-- ---- in a list in which no name stands twice

rest-here : (p : NodeName → Bool) (y : NodeName) (xs : List NodeName) → Single xs → Some y ≡ first_of (filter p xs) →
    filter p xs ≡ y ∷ filter p (items_after name_eq y xs)
rest-here p y [] s e = absurd (none-some y (sym e))
rest-here p y (x ∷ xs) s e = elim (cases_Bool (p x)) [
  | inl h ↦
      let same = same_Some y x (e ∙ ap first_of (filter-yes p x xs h)) in
      filter-yes p x xs h
      ∙ (ap (λ z. z ∷ filter p xs) (sym same)
      ∙ ap (λ b. y ∷ filter p (cond b xs (items_after name_eq y xs))) (sym (name_eq-from y x same)))
  | inr h ↦
      let later = e ∙ ap first_of (filter-no p x xs h) in
      let apart = name_eq-other y x (λ same. s.0 (subst (λ z. In z xs) same (first-in p y xs later))) in
      filter-no p x xs h
      ∙ (rest-here p y xs s.1 later
      ∙ ap (λ b. y ∷ filter p (cond b xs (items_after name_eq y xs))) (sym apart))
]

rest-behind : (p : NodeName → Bool) (x y : NodeName) (xs : List NodeName) → Single xs → Some y ≡ first_of (filter p (items_after name_eq x xs)) →
    filter p (items_after name_eq x xs) ≡ y ∷ filter p (items_after name_eq y xs)
rest-behind p x y [] s e = absurd (none-some y (sym e))
rest-behind p x y (z ∷ zs) s e = elim (cases_Bool (name_eq x z)) [
  | inl h ↦
      let first = e ∙ ap (λ b. first_of (filter p (cond b zs (items_after name_eq x zs)))) h in
      let apart = name_eq-other y z (λ same. s.0 (subst (λ v. In v zs) same (first-in p y zs first))) in
      ap (λ b. filter p (cond b zs (items_after name_eq x zs))) h
      ∙ (rest-here p y zs s.1 first
      ∙ ap (λ b. y ∷ filter p (cond b zs (items_after name_eq y zs))) (sym apart))
  | inr h ↦
      let later = e ∙ ap (λ b. first_of (filter p (cond b zs (items_after name_eq x zs)))) h in
      let there = after-in x y zs (first-in p y (items_after name_eq x zs) later) in
      let apart = name_eq-other y z (λ same. s.0 (subst (λ v. In v zs) same there)) in
      ap (λ b. filter p (cond b zs (items_after name_eq x zs))) h
      ∙ (rest-behind p x y zs s.1 later
      ∙ ap (λ b. y ∷ filter p (cond b zs (items_after name_eq y zs))) (sym apart))
]

-- ---- iterators

module _ (f : NamedTrees) (once : StandOnce f) (only : StandAlone f) where
  single : (top k : ℕ) → StandsIn f top k → Single (inclusive_descendants f.trees (name_at f.names top))
  single top k stands = all_single f.trees (name_at f.names top) (name_at f.names k) (IsWithin-key f once only top k stands)

  pub iterator-rest : (i : KeyedIterator) (k : ℕ) → IsIteratorOf f i → Some (name_at f.names k) ≡ iterator_next_node f.trees (iterator_view f.names i) →
      iterator_rest f i ≡ name_at f.names k ∷ iterator_rest f record i { reference = k; before = false }
  iterator-rest i k placed e = by (cases_Bool i.before)
    where
      p : NodeName → Bool
      p = accepts f.trees i.filter

      at : NodeName
      at = name_at f.names i.reference

      all : List NodeName
      all = inclusive_descendants f.trees (name_at f.names i.root)

      alone : Single all
      alone = single i.root i.reference placed.reference

      ahead : Bool → List NodeName
      ahead b = cond b (at ∷ items_after name_eq at all) (items_after name_eq at all)

      from_reference : Some (name_at f.names k) ≡ first_of (filter p (at ∷ items_after name_eq at all)) →
          filter p (at ∷ items_after name_eq at all) ≡ name_at f.names k ∷ filter p (items_after name_eq (name_at f.names k) all)
      from_reference first = elim (cases_Bool (p at)) [
        | inl h ↦
            let same = same_Some (name_at f.names k) at (first ∙ ap first_of (filter-yes p at (items_after name_eq at all) h)) in
            filter-yes p at (items_after name_eq at all) h ∙ ap (λ z. z ∷ filter p (items_after name_eq z all)) (sym same)
        | inr h ↦
            let later = first ∙ ap first_of (filter-no p at (items_after name_eq at all) h) in
            filter-no p at (items_after name_eq at all) h ∙ rest-behind p at (name_at f.names k) all alone later
      ]

      by : (i.before ≡ true) ⊎ (i.before ≡ false) → iterator_rest f i ≡ name_at f.names k ∷ iterator_rest f record i { reference = k; before = false }
      by (inl h) =
          ap (λ b. filter p (ahead b)) h ∙ from_reference (e ∙ ap (λ b. first_of (filter p (ahead b))) h)
      by (inr h) =
          ap (λ b. filter p (ahead b)) h ∙ rest-behind p at (name_at f.names k) all alone (e ∙ ap (λ b. first_of (filter p (ahead b))) h)

  -- ---- walkers

  found-behind : (w : KeyedWalker) (o : Option NodeName) → o ≡ walker_move f.trees (walker_view f.names w) Next →
      is_inclusive_ancestor f.trees (name_at f.names w.root) (name_at f.names w.current) ≡ true →
      o ≡ first_of (walker_nodes f.trees (walker_view f.names w) (behind f.trees (name_at f.names w.root) (name_at f.names w.current)))
  found-behind w o e h =
      e ∙ ap (λ b. cond b
      (first_of (walker_nodes f.trees (walker_view f.names w) (behind f.trees (name_at f.names w.root) (name_at f.names w.current)))) None) h

  -- a walker that finds a node is within its root's tree
  pub walker-inside : (w : KeyedWalker) (y : NodeName) → Some y ≡ walker_move f.trees (walker_view f.names w) Next →
      is_inclusive_ancestor f.trees (name_at f.names w.root) (name_at f.names w.current) ≡ true
  walker-inside w y e = elim (cases_Bool (is_inclusive_ancestor f.trees (name_at f.names w.root) (name_at f.names w.current))) [
    | inl h ↦ h
    | inr h ↦ absurd (none-some y (sym (e ∙ ap (λ b. cond b (first_of (walker_nodes f.trees (walker_view f.names w)
        (behind f.trees (name_at f.names w.root) (name_at f.names w.current)))) None) h)))
  ]

  -- a filter without a name rejects nothing
  nothing-rejected : (g : Filter) (y : NodeName) → g.named ≡ None → rejects f.trees g y ≡ false
  nothing-rejected g y e =
      ap (λ o. is_reject (cond (is_shown g.shown (node_in f.trees y).kind) (verdict_at o (node_in f.trees y)) (Some Skip))) e
      ∙ by (is_shown g.shown (node_in f.trees y).kind)
    where
      by : (b : Bool) → is_reject (cond b None (Some Skip)) ≡ false
      by true = refl
      by false = refl

  none-passed : (w : Walker) (xs : List NodeName) → w.filter.named ≡ None →
      list_any (λ a. rejects f.trees w.filter a && not (is_inclusive_ancestor f.trees a w.current)) xs ≡ false
  none-passed w [] e = refl
  none-passed w (a ∷ xs) e = rw (nothing-rejected w.filter a e) (none-passed w xs e)

  pub walker-nodes : (w : Walker) (ys : List NodeName) → w.filter.named ≡ None → walker_nodes f.trees w ys ≡ filter (accepts f.trees w.filter) ys
  walker-nodes w ys e = filter-same _ (accepts f.trees w.filter) ys (λ y i.
      ap (λ b. accepts f.trees w.filter y && not b) (none-passed w (ancestors f.trees y) e) ∙ all (accepts f.trees w.filter y))
    where
      all : (b : Bool) → (b && true) ≡ b
      all true = refl
      all false = refl

  pub walker-rest : (w : KeyedWalker) (k : ℕ) → IsWalkerOf f w → w.filter.named ≡ None →
      Some (name_at f.names k) ≡ walker_move f.trees (walker_view f.names w) Next →
      walker_rest f w ≡ name_at f.names k ∷ walker_rest f record w { current = k }
  walker-rest w k placed plain e =
      let inside = walker-inside w (name_at f.names k) e in
      let back = behind f.trees (name_at f.names w.root) (name_at f.names w.current) in
      rest-behind (accepts f.trees w.filter) (name_at f.names w.current) (name_at f.names k) (inclusive_descendants f.trees (name_at f.names w.root))
      (single w.root w.current record { node = placed.current; within = inside })
      (found-behind w (Some (name_at f.names k)) e inside ∙ ap first_of (walker-nodes (walker_view f.names w) back plain))

  pub walker-end : (w : KeyedWalker) → w.filter.named ≡ None →
      is_inclusive_ancestor f.trees (name_at f.names w.root) (name_at f.names w.current) ≡ true →
      None ≡ walker_move f.trees (walker_view f.names w) Next → walker_rest f w ≡ []
  walker-end w plain inside e =
      let back = behind f.trees (name_at f.names w.root) (name_at f.names w.current) in
      no_first (walker_rest f w) (sym (found-behind w None e inside ∙ ap first_of (walker-nodes (walker_view f.names w) back plain)))

  pub walker-stays : (w : KeyedWalker) (k : ℕ) → IsWalkerOf f w → Some (name_at f.names k) ≡ walker_move f.trees (walker_view f.names w) Next →
      is_inclusive_ancestor f.trees (name_at f.names w.root) (name_at f.names k) ≡ true
  walker-stays w k placed e =
      let inside = walker-inside w (name_at f.names k) e in
      let here = IsWithin-key f once only w.root w.current record { node = placed.current; within = inside } in
      let back = behind f.trees (name_at f.names w.root) (name_at f.names w.current) in
      above-within f.trees (name_at f.names w.root) (name_at f.names k)
      (within-member f.trees (name_at f.names w.root) (name_at f.names w.current) (name_at f.names k) here
      (after-in (name_at f.names w.current) (name_at f.names k) (inclusive_descendants f.trees (name_at f.names w.root))
      (first-in _ (name_at f.names k) back (found-behind w (Some (name_at f.names k)) e inside))))
