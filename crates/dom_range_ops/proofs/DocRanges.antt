-- A live range of a `Doc`: its points, and what the forest has of it.
use Rattle.dom_range_ops.proofs.Cited.{◌≡◌, ◌<◌, ◌≤◌, ℕ, zero, suc, List, [], ◌∷◌, length, map, Option, Some, None, Result, Ok, Err, sym, ap, subst, ◌∙◌, IfOk}
use Rattle.dom_range_ops.proofs.Cited.{slice_get, AllByRecursion, option_flatten, option_map_or, NodeName, Owner, Command, effect, Effect, is_in_one_data}
use Rattle.dom_range_ops.proofs.Cited.{new_place, pieces_of, boundaries, Part, range_at, Boundary, same_root, Range, from_to, cutting_data, outermost_contained}
use Rattle.dom_range_ops.proofs.Cited.{range_text_of, Trees, Node, kind_of, has_data, children_of, root_of, length_of, part_of, EndsWithin, HasBounds, DocState}
use Rattle.dom_range_ops.proofs.Cited.{name_in, owner_in, trees_in, same_root-own, Points, read_own, stays_own, StandOnce, StandAlone, Once-forest, Has-forest}
use Rattle.dom_range_ops.proofs.Cited.{NamedTrees, name_at, AreOwned, trees_of_owner, In, AreLeaves, IsRangeIn, cutting, AreSpanned, range_at_points}
use Rattle.dom_range_ops.proofs.Cited.{text_among, nodes_around}
use Rattle.dom_model.proofs.Model.{nothing}
use Rattle.dom_worlds.specs.Definitions.{IsWithin}
use Rattle.dom_range_ops.proofs.OneTree.{HasOneTree}
use Rattle.dom_range_ops.proofs.OwnTexts.{text-is}
use Rattle.dom_range_ops.proofs.DeletionOwn.{outermost-own, outermost-owner, one-own, cutting-own, place-own, place-owner, keys-own}
use Rattle.dom_range_ops.proofs.PieceOwn.{pieces-own}

-- what follows for a value that was given
pub if-ok : {X E : Type 0} {P Q : X → Type 0} (m : Result X E) → ((x : X) → P x → Q x) → IfOk m P → IfOk m Q
if-ok (Ok x) f p = f x p
if-ok (Err e) f p = tt

-- ---- the points of a live range

-- a range that was not dropped is within its nodes
pub within-at : (p : Part) (k : ℕ) (r : Range NodeName) → HasBounds p → range_at p k ≡ Some r → IsWithin p.trees r.start × IsWithin p.trees r.end
within-at p k r h there = subst (EndsWithin p.trees) there (each p.ranges k h.ranges)
  where
    each : (rs : List (Option (Range NodeName))) (k : ℕ) → AllByRecursion (EndsWithin p.trees) rs → EndsWithin p.trees (option_flatten (slice_get rs k))
    each [] k g = tt
    each (None ∷ rs) zero g = tt
    each (Some r ∷ rs) zero g = g.0
    each (r ∷ rs) (suc k) g = each rs k g.1

-- a range is what its ends are answered to be
pub read-points : (p : Part) {q : Part} (k : ℕ) {r : Range NodeName} {b c : Boundary NodeName} → range_at p k ≡ Some r →
    effect p (Command.range_get k) ≡ Effect.tables q [] (boundaries b c) → r ≡ from_to b c
read-points p {q} k {r} {b} {c} there is =
    let e : Effect.tables p [] (boundaries r.start r.end) ≡ Effect.tables q [] (boundaries b c) =
    sym (ap (λ o. option_map_or (λ (range : Range NodeName). Effect.tables p [] (boundaries range.start range.end)) o
    (Effect.tables p [] nothing)) there) ∙ is in
    let first : r.start ≡ b = cc in
    let second : r.end ≡ c = cc in
    ap (λ x. from_to x r.end) first ∙ ap (from_to b) second

-- ---- a range that is read in the forest

-- a range of a `Doc`, and its forest
pub record RangeRead : Type 0 where
  pub forest : NamedTrees
  pub doc : DocState
  pub points : Points
  pub once : StandOnce forest
  pub only : StandAlone forest
  pub owned : AreOwned forest.trees
  pub names : forest.names ≡ doc.names
  pub trees : (o : Owner) → trees_of_owner o forest.trees ≡ (part_of doc.world o).trees
  pub range : IsRangeIn doc points

module _ (f : NamedTrees) (d : DocState) (points : Points) (once : StandOnce f) (only : StandAlone f) (owned : AreOwned f.trees) (names : f.names ≡ d.names)
    (trees : (o : Owner) → trees_of_owner o f.trees ≡ (part_of d.world o).trees) (range : IsRangeIn d points) where
  abbrev pub range-read : RangeRead
  range-read = record {
    forest = f;
    doc = d;
    points = points;
    once = once;
    only = only;
    owned = owned;
    names = names;
    trees = trees;
    range = range;
  }

module _ (m : RangeRead) where
  abbrev f : NamedTrees
  f = m.forest

  abbrev o : Owner
  o = owner_in m.doc m.points.start.0

  abbrev ts : Trees
  ts = trees_in m.doc m.points.start.0

  -- the range in the forest's names, which are the `Doc`'s
  abbrev r : Range NodeName
  r = range_at_points m.forest.names m.points

  -- what the owner's trees have of it
  same : {A : Type 0} (F : Trees → Range NodeName → A) {x : A} → x ≡ F (trees_of_owner o m.forest.trees) r → x ≡ F ts (range_at_points m.doc.names m.points)
  same F e = e ∙ (ap (λ us. F us r) (m.trees o) ∙ ap (λ ns. F ts (range_at_points ns m.points)) m.names)

  node : (k : ℕ) → k < length m.doc.names → k < length m.forest.names
  node k l = subst (λ (ns : List NodeName). k < length ns) (sym m.names) l

  owner : (k : ℕ) → (name_at m.forest.names k).owner ≡ owner_in m.doc k
  owner k = ap (λ (ns : List NodeName). (name_at ns k).owner) m.names

  start : r.start.node.owner ≡ o
  start = owner m.points.start.0

  end : r.end.node.owner ≡ o
  end = owner m.points.end.0 ∙ m.range.owner

  -- both ends are nodes of one tree
  one : HasOneTree m.forest.trees r
  one =
      let single = Once-forest f m.once m.only in
      let first = Has-forest f m.once m.points.start.0 (node m.points.start.0 m.range.start) in
      let last = Has-forest f m.once m.points.end.0 (node m.points.end.0 m.range.end) in
      record {
        once = single;
        start = first;
        end = last;
        one_root = same (λ us s. same_root us s.start.node s.end.node) (same_root-own f.trees m.owned single o r.start.node r.end.node
            (record { owner = start; there = first }) (record { owner = end; there = last })) ∙ m.range.ends.one_root;
      }

  -- no Text and no Comment of their tree has children
  leaves-in : AreLeaves m.forest m.points
  leaves-in x i k =
      let mine = (stays_own f.trees m.owned o (root_of f.trees r.start.node) (stays_own f.trees m.owned o r.start.node start).root).inside x i in
      let read = read_own f.trees m.owned o x mine in
      let kind = ap (λ (n : Node). n.kind) read.node ∙ ap (λ us. kind_of us x) (m.trees o) in
      read.children ∙ (ap (λ us. children_of us x) (m.trees o) ∙ m.range.leaves x (ap has_data (sym kind) ∙ k))

  -- both ends are nodes of one tree, the second within its node
  pub spanned-in : AreSpanned m.forest m.points
  spanned-in = record {
    ends = record { start = node m.points.start.0 m.range.start; end = node m.points.end.0 m.range.end; one_root = one.one_root };
    within = subst (λ n. m.points.end.1 ≤ n) (sym (same (λ us s. length_of us s.end.node) (read_own f.trees m.owned o r.end.node end).size)) m.range.within;
    leaves = leaves-in;
  }

  -- ---- what the forest answers

  -- the text
  pub text-in : text_among m.forest.trees r (nodes_around m.forest.trees r) ≡
      range_text_of (trees_in m.doc m.points.start.0) (range_at_points m.doc.names m.points)
  text-in = same range_text_of (text-is f.trees m.owned o r one start end)

  -- whether both ends are in one Text or Comment
  pub one-in : is_in_one_data m.forest.trees r ≡ is_in_one_data (trees_in m.doc m.points.start.0) (range_at_points m.doc.names m.points)
  one-in = same is_in_one_data (one-own f.trees m.owned o r one start end)

  -- what is cut at a node of the owner
  pub cut-in : (k : ℕ) (part : Option (ℕ × ℕ)) → owner_in m.doc k ≡ owner_in m.doc m.points.start.0 →
      cutting (name_at m.forest.names k) part ≡ cutting_data m.forest.trees r (name_at m.forest.names k) →
      cutting (name_in m.doc k) part ≡ cutting_data (trees_in m.doc m.points.start.0) (range_at_points m.doc.names m.points) (name_in m.doc k)
  cut-in k part own is =
      let x = name_at f.names k in
      subst (λ ns. cutting (name_at ns k) part ≡ cutting_data ts (range_at_points m.doc.names m.points) (name_at ns k)) m.names
      (is ∙ same (λ us s. cutting_data us s x) (cutting-own f.trees m.owned o r one start end x (owner k ∙ own)))

  -- the outermost contained nodes, which are the owner's
  pub found-in : (ks : List ℕ) → map (name_at m.forest.names) ks ≡ outermost_contained m.forest.trees r →
      map (name_in m.doc) ks ≡ outermost_contained (trees_in m.doc m.points.start.0) (range_at_points m.doc.names m.points)
  found-in ks found = ap (λ ns. map (name_at ns) ks) (sym m.names) ∙ (found ∙ same outermost_contained (outermost-own f.trees m.owned o r one start end))

  pub found-own : (ks : List ℕ) → AllByRecursion (λ k. k < length m.forest.names) ks → map (name_at m.forest.names) ks ≡ outermost_contained m.forest.trees r →
      AllByRecursion (λ k. (k < length m.doc.names) × (owner_in m.doc k ≡ owner_in m.doc m.points.start.0)) ks
  found-own ks nodes found =
      subst (λ (ns : List NodeName). AllByRecursion (λ k. (k < length ns) × ((name_at ns k).owner ≡ o)) ks) m.names
      (keys-own f.names (name_at f.names) o ks nodes (λ x i. outermost-owner f.trees m.owned o r one start end x (subst (In x) found i)))

  -- where the range stands afterwards, at a node of the owner
  pub place-in : new_place m.forest.trees r ≡ new_place (trees_in m.doc m.points.start.0) (range_at_points m.doc.names m.points)
  place-in = same new_place (place-own f.trees m.owned o r one start end)

  pub place-there : (new_place m.forest.trees r).node.owner ≡ owner_in m.doc m.points.start.0
  place-there = ap (λ (b : Boundary NodeName). b.node.owner) (place-own f.trees m.owned o r one start end) ∙ place-owner f.trees m.owned o r one start end

  -- its pieces
  pub pieces-in : pieces_of m.forest.trees r ≡ pieces_of (trees_in m.doc m.points.start.0) (range_at_points m.doc.names m.points)
  pieces-in = same pieces_of (pieces-own f.trees m.owned o r one start end)
