-- The plan of a deletion, step by step.
use Rattle.dom_range_ops.proofs.Cited.{◌≡◌, ℕ, true, false, List, [], ◌∷◌, map, Option, is_some, sym, ap, subst, ◌∙◌, ◌-◌, option_map_or, cond-true, cond-false}
use Rattle.dom_range_ops.proofs.Cited.{NodeName, Owner, Plan, ◌and_then◌, in_turn, doing, remove_plan, observed, plan_of_range, is_in_one_data, new_place}
use Rattle.dom_range_ops.proofs.Cited.{both_at, name_eq, range_at, Range, at, is_collapsed, cutting_data, outermost_contained, deleting_contents, deleting}
use Rattle.dom_range_ops.proofs.Cited.{set_range, Trees, part_of, world_after, DocState, made, planned, stepped, name_in, owner_in, trees_in, IsAlone}
use Rattle.dom_range_ops.proofs.Cited.{made_then, planned_then, Points, IsRangeIn, IsOfPoints, cutting, range_at_points, keeps-cutting_data}
use Rattle.dom_range_ops.proofs.Cited.{keeps-deleting_contents, keeps-and_then, keeps-each, keeps-removing, own_moves, own_rules}
use Rattle.dom_range_ops.proofs.InsertedRanges.{range-kept}

module _ (ts : Trees) (r : Range NodeName) where
  -- the plan where both ends are not in one Text or Comment
  abbrev pub apart : Plan
  apart = cutting_data ts r r.start.node and_then in_turn (remove_plan observed) (outermost_contained ts r) and_then cutting_data ts r r.end.node

-- ---- the steps of a `Doc`

-- a part of a node's data goes
abbrev pub with_cut : ℕ → Option (ℕ × ℕ) → DocState → DocState
with_cut k part d = planned (owner_in d k) (cutting (name_in d k) part) d

-- nodes of the owner of a key leave their parents
abbrev pub without_nodes : ℕ → List ℕ → DocState → DocState
without_nodes k ks d = planned (owner_in d k) (in_turn (remove_plan observed) (map (name_in d) ks)) d

-- a range stands at one place
abbrev pub with_range_at : Owner → ℕ → ℕ × ℕ → DocState → DocState
with_range_at o k place d = stepped o (set_range k (both_at (at (name_in d place.0) place.1))) d

module _ (d : DocState) (points : Points) (h : IsRangeIn d points) (alone : IsAlone d.world (owner_in d points.start.0)) where
  abbrev o : Owner
  o = owner_in d points.start.0

  abbrev ts : Trees
  ts = trees_in d points.start.0

  abbrev r : Range NodeName
  r = range_at_points d.names points

  -- the data at the one end that there is
  pub contents-cut : (part : Option (ℕ × ℕ)) → is_in_one_data ts r ≡ true → cutting (name_in d points.start.0) part ≡ cutting_data ts r r.start.node →
      with_cut points.start.0 part d ≡ planned (owner_in d points.start.0) (deleting_contents ts r) d
  contents-cut part one cut = ap (λ (f : Plan). planned o f d)
      (cut ∙ sym (cond-true (is_in_one_data ts r) (cutting_data ts r r.start.node) (apart ts r) one))

  -- the data at the start, the nodes between, the data at the end
  pub contents-made : (first_part last_part : Option (ℕ × ℕ)) (ks : List ℕ) → is_in_one_data ts r ≡ false →
      (cutting (name_in d points.start.0) first_part ≡ cutting_data ts r r.start.node) ×
      (cutting (name_in d points.end.0) last_part ≡ cutting_data ts r r.end.node) → map (name_in d) ks ≡ outermost_contained ts r →
      with_cut points.end.0 last_part (without_nodes points.start.0 ks (with_cut points.start.0 first_part d)) ≡
      planned (owner_in d points.start.0) (deleting_contents ts r) d
  contents-made first_part last_part ks one cuts found =
      let first = cutting_data ts r r.start.node in
      let removals = in_turn (remove_plan observed) (outermost_contained ts r) in
      let last = cutting_data ts r r.end.node in
      let cut = keeps-cutting_data (own_rules o) ts r r.start.node in
      let out = keeps-each (own_moves o) (remove_plan observed) (keeps-removing (own_moves o) observed) (outermost_contained ts r) in
      ap (λ (f : Plan). with_cut points.end.0 last_part (without_nodes points.start.0 ks (planned o f d))) cuts.0
      ∙ ap (λ xs. with_cut points.end.0 last_part (planned o (in_turn (remove_plan observed) xs) (planned o first d))) found
      ∙ ap (λ q. planned q (cutting r.end.node last_part) (planned o removals (planned o first d))) h.owner
      ∙ ap (λ (f : Plan). planned o f (planned o removals (planned o first d))) cuts.1
      ∙ ap (planned o last) (planned_then o first removals d alone cut)
      ∙ planned_then o (first and_then removals) last d alone (keeps-and_then (own_moves o) first removals cut out)
      ∙ ap (λ (f : Plan). planned o f d) (sym (cond-false (is_in_one_data ts r) first (apart ts r) one))

-- The contents of an owner's live range are deleted.
module _ (d : DocState) (o : Owner) (k : ℕ) (points : Points) (here : IsOfPoints d o k points) (alone : IsAlone d.world (owner_in d points.start.0))
    (e : DocState) (deleted : e ≡ planned (owner_in d points.start.0)
    (deleting_contents (trees_in d points.start.0) (range_at_points d.names points)) d) where
  abbrev contents : Plan
  contents = deleting_contents (trees_in d points.start.0) (range_at_points d.names points)

  -- the range is there still
  pub deletion-there : is_some (range_at (part_of d.world o) k) ≡ true → is_some (range_at (part_of e.world o) k) ≡ true
  deletion-there =
      subst (λ (q : Owner). is_some (range_at (part_of d.world q) k) ≡ true → is_some (range_at (part_of e.world q) k) ≡ true) here.owner
      (range-kept contents alone (keeps-deleting_contents (own_rules (owner_in d points.start.0)) (trees_in d points.start.0) (range_at_points d.names points))
      (ap (λ (s : DocState). s.world) deleted) k)

  -- a node keeps its owner
  pub deletion-owner : (j : ℕ) → owner_in d j ≡ owner_in d points.start.0 → owner_in e j ≡ o
  deletion-owner j own = ap (λ (s : DocState). owner_in s j) deleted ∙ own ∙ here.owner

  -- and the range goes to its new place
  pub deletion-done : (place : ℕ × ℕ) {g : DocState} → is_collapsed name_eq (range_at_points d.names points) ≡ false →
      at (name_in d place.0) place.1 ≡ new_place (trees_in d points.start.0) (range_at_points d.names points) → g ≡ with_range_at o k place e →
      g.world ≡ made o (λ p. plan_of_range p k (deleting k)) d.world
  deletion-done place wide place_is put =
      let r = range_at_points d.names points in
      let q = owner_in d points.start.0 in
      let ts = trees_in d points.start.0 in
      let setting = doing (set_range k (both_at (new_place ts r))) in
      ap (λ (s : DocState). s.world) (put ∙ ap (with_range_at o k place) deleted)
      ∙ ap (λ b. world_after o (made q contents d.world) (set_range k (both_at b) ∷ [])) place_is
      ∙ ap (λ n. world_after n (made q contents d.world) (set_range k (both_at (new_place ts r)) ∷ [])) (sym here.owner)
      ∙ sym (made_then q contents setting d.world alone (keeps-deleting_contents (own_rules q) ts r))
      ∙ ap (world_after q d.world) (sym (cond-false (is_collapsed name_eq r) [] ((contents and_then setting) (part_of d.world q)) wide))
      ∙ ap (λ (m : Option (Range NodeName)). world_after q d.world (option_map_or (λ (s : Range NodeName). deleting k s (part_of d.world q)) m []))
      (sym (ap (λ n. range_at (part_of d.world n) k) here.owner ∙ here.there))
      ∙ ap (λ n. made n (λ p. plan_of_range p k (deleting k)) d.world) here.owner
