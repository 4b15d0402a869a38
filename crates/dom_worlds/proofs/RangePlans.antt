-- Ends of ranges and their contents: deletions keep the ends within their nodes.
use Rattle.dom_base.proofs.Std.{zero, suc, ◌≡◌, ◌≤◌, ℕ, true, false, not, List, [], ◌∷◌, ◌++◌, filter, take, length, Option, Some, None, unwrap_or, refl, sym}
use Rattle.dom_base.proofs.Std.{ap, ◌∙◌, arith, true≢false, subst, length-append, length-take, ◌-◌, Bool, ◌&&◌, AllByRecursion, option_map_or, cond-true}
use Rattle.dom_base.proofs.Std.{cond-false, not-true, and_parts, if◌then◌else◌, min, or_left, or_right}
use Rattle.dom_model.proofs.Model.{NodeName, name_eq, is_in, last_of, items_before, Trees, subtree, trees_below, children_of, parent_of, index_of, length_of}
use Rattle.dom_model.proofs.Model.{times_in, inclusive_ancestors, is_inclusive_ancestor, root_of, Node, node_in, kind_of, has_data, names_of, nodes, Part}
use Rattle.dom_model.proofs.Model.{Boundary, same_root, is_before, Range, at, is_collapsed, is_contained, new_place, behind_node, cut_start, cut_end}
use Rattle.dom_model.proofs.Model.{is_in_one_data, both_at, name_eq-true, name_eq-same, character_data, Step, set_range, queue_record, part_step, after, Plan}
use Rattle.dom_model.proofs.Model.{◌and_then◌, in_turn, doing, steps_of, observed, remove_plan, replacing_data, cutting_data, outermost_contained}
use Rattle.dom_model.proofs.Model.{deleting_contents, deleting}
use Rattle.dom_worlds.specs.Definitions.{times_among, IsPart}
use Rattle.dom_worlds.proofs.Bounds.{IsRoomy, nowhere, HasRoom, room-set}
use Rattle.dom_worlds.proofs.ChildPairs.{children-childs, held-length}
use Rattle.dom_worlds.proofs.Contained.{IsSpared, spared-first, spared-up_to, below-rest}
use Rattle.dom_worlds.proofs.Descents.{ancestor-inside}
use Rattle.dom_worlds.proofs.FollowPaths.{root-itself}
use Rattle.dom_worlds.proofs.InsideAncestors.{parent-there}
use Rattle.dom_worlds.proofs.ChildCounts.{kids, rooted, kids-below, root-below, index-below, length-children}
use Rattle.dom_worlds.proofs.Roots.{length-kids, self-above, root-above, length-data}
use Rattle.dom_worlds.proofs.RangeBounds.{IsOpen, AreChildren, room-then, room-removals, room-replacing_data}
use Rattle.dom_worlds.proofs.PlanChildren.{IsChild, IsNot, child-removals, child-replacing_data}
use Rattle.dom_worlds.proofs.TableSteps.{HasNode}
use Rattle.dom_worlds.proofs.TableRecords.{IfSome, last-all, before-all, inside-alone}
use Rattle.dom_worlds.proofs.Lists.{all-append, all-then, by_cases, or-later, all-passed, either_way}
use Rattle.dom_worlds.proofs.TextBounds.{children-among, kids-open, replaced-here}
use Rattle.dom_worlds.proofs.Trees.{ancestors-root, ancestors-there, all-in}
use Rattle.dom_worlds.proofs.PlanPlaces.{Changed, still, after-append, leads-nothing}
use Rattle.dom_worlds.proofs.PlanTexts.{leads-removals, leads-replacing_data}
use Rattle.dom_worlds.proofs.Bounds as bounds

-- Some children of a node before which a boundary does not come: so many that it is within the node, and they are spared.
pub record IsRoomAt (p : Part) (r : Range NodeName) (b : Boundary NodeName) : Type 0 where
  pub held : List NodeName
  pub count : b.offset ≤ length held
  pub once : (z : NodeName) → times_among held z ≤ 1
  pub children : AreChildren held b.node p
  pub opened : IsOpen p b.node
  pub spared : IsSpared p.trees r b.node held

-- where they stay, it is within the node
pub room-at : {p q : Part} {r : Range NodeName} {b : Boundary NodeName} (k : IsRoomAt p r b) → IsPart q → IsOpen q b.node → AreChildren k.held b.node q →
    b.offset ≤ length_of q.trees b.node
room-at {q} {b} k i o c =
    let a = held-length q.trees k.held b.node k.once c.0 in let l = length-kids q.trees b.node i.unique o in let m = k.count in omega arith

-- the first of some
all-taken : (P : NodeName → Type 0) (m : ℕ) (xs : List NodeName) → AllByRecursion P xs → AllByRecursion P (take m xs)
all-taken P zero xs h = tt
all-taken P (suc m) [] h = tt
all-taken P (suc m) (x ∷ xs) h = (h.0, all-taken P m xs h.1)

-- are there no more often
among-taken : (m : ℕ) (xs : List NodeName) (z : NodeName) → times_among (take m xs) z ≤ times_among xs z
among-taken zero xs z = omega arith
among-taken (suc m) [] z = omega arith
among-taken (suc m) (x ∷ xs) z = let h = among-taken m xs z in omega arith

-- nor those up to one
among-up_to : (a : NodeName) (xs : List NodeName) (z : NodeName) → is_in name_eq a xs ≡ true →
    times_among (items_before name_eq a xs ++ a ∷ []) z ≤ times_among xs z
among-up_to a [] z h = absurd (true≢false (sym h))
among-up_to a (x ∷ xs) z h =
    by_cases (name_eq a x)
    (λ e. subst (λ ys. times_among (ys ++ a ∷ []) z ≤ times_among (x ∷ xs) z) (sym (cond-true (name_eq a x) [] (x ∷ items_before name_eq a xs) e))
    (let same = ap (λ y. times_among (y ∷ []) z) (name_eq-true a x e) in omega arith))
    (λ e. subst (λ ys. times_among (ys ++ a ∷ []) z ≤ times_among (x ∷ xs) z) (sym (cond-false (name_eq a x) [] (x ∷ items_before name_eq a xs) e))
    (let b = among-up_to a xs z (or-later (name_eq a x) (is_in name_eq a xs) e h) in omega arith))

-- The start itself, where its node has children.
room-start : (p : Part) (r : Range NodeName) → IsPart p → HasNode p r.start.node → IsOpen p r.start.node →
    r.start.offset ≤ length_of p.trees r.start.node → IsRoomAt p r r.start
room-start p r i t o le =
    let ts = p.trees in
    let y = r.start.node in
    let all = children_of ts y in
    record {
      held = take r.start.offset all;
      count = let a = length-take r.start.offset all in let b = length-children ts y i.unique in let c = length-kids ts y i.unique o in omega arith;
      once = λ z. let a = among-taken r.start.offset all z in let b = children-among ts y z in let u = i.unique z in omega arith;
      children = (all-taken (λ x. IsChild x y p) r.start.offset all (children-childs ts y), t);
      opened = o;
      spared = spared-first ts r i.unique t;
    }

-- Just behind a node above the start.
room-behind : {p : Part} {y : NodeName} (r : Range NodeName) (a : NodeName) → IsRoomy nowhere p → HasNode p a → parent_of p.trees a ≡ Some y →
    is_inclusive_ancestor p.trees a r.start.node ≡ true → IsRoomAt p r (at y (suc (index_of p.trees a)))
room-behind {p} {y} r a w t e above =
    let ts = p.trees in
    let all = children_of ts y in
    let listed : is_in name_eq a all ≡ true = root-below ts a y w.part.unique e in
    let before = items_before name_eq a all in
    let below = index-below ts a y w.part.unique e in
    let each = children-childs ts y in
    record {
      held = before ++ a ∷ [];
      count = let s : index_of ts a ≡ length before =
          ap (λ (o : Option NodeName). length (items_before name_eq a (option_map_or (children_of ts) o (a ∷ [])))) e in let l =
          length-append before (a ∷ []) in omega arith;
      once = λ z. let b = among-up_to a all z listed in let c = children-among ts y z in let u = w.part.unique z in omega arith;
      children = (
        all-append (λ x. IsChild x y p) before (a ∷ []) (before-all (λ x. IsChild x y p) a all each)
            (all-in (λ x. IsChild x y p) a all each listed, tt),
        parent-there ts a y e,
      );
      opened = kids-open p y w.room (omega arith);
      spared = spared-up_to ts r a w.part.unique e above;
    }

-- A node of the list of ancestors is an ancestor.
listed-each : (xs : List NodeName) → AllByRecursion (λ a. is_in name_eq a xs ≡ true) xs
listed-each [] = tt
listed-each (x ∷ xs) = (
  or_left (name_eq x x) (is_in name_eq x xs) (Rattle.dom_model.proofs.OwnerLaws.name_eq-same x),
  all-then (λ a. is_in name_eq a xs ≡ true) (λ a. is_in name_eq a (x ∷ xs) ≡ true)
      (λ a h. or_right (name_eq a x) (is_in name_eq a xs) h) xs (listed-each xs),
)

-- a node in whose tree another one stands has children
pub above-kids : (p : Part) (x z : NodeName) → IsPart p → is_inclusive_ancestor p.trees x z ≡ true → name_eq x z ≡ false → 1 ≤ kids p.trees x
above-kids p x z i h d =
    let ts = p.trees in
    let a = ancestor-inside ts x z h in let b = inside-alone ts x z i.unique in let c = below-rest ts x z d in
    let e = kids-below ts x i.unique in
    let f = some-rooted (trees_below (subtree ts x)) z (omega arith) in omega arith
  where
    some-rooted : (us : Trees) (z : NodeName) → 1 ≤ times_in us z → 1 ≤ rooted us
    some-rooted Rattle.dom_model.specs.Tree.none z h = absurd (omega arith)
    some-rooted (Rattle.dom_model.specs.Tree.tree n c r) z h = omega arith

-- A range of a part with room, whose ends are nodes of one tree.
module _ (p : Part) (r : Range NodeName) (i : IsPart p) (h : HasRoom nowhere p) (t : HasNode p r.start.node) (te : HasNode p r.end.node)
    (one : same_root p.trees r.start.node r.end.node ≡ true) where
  -- Where the start node is no inclusive ancestor of the end node, the new place is behind a node above the start.
  room-outer : is_inclusive_ancestor p.trees r.start.node r.end.node ≡ false →
      let above = filter (λ a. not (is_inclusive_ancestor p.trees a r.end.node)) (inclusive_ancestors p.trees r.start.node) in
      IsRoomAt p r (behind_node p.trees (unwrap_or (last_of above) r.start.node))
  room-outer apart =
      let ts = p.trees in
      let start = r.start.node in
      let outside = λ (a : NodeName). not (is_inclusive_ancestor ts a r.end.node) in
      let above = filter outside (inclusive_ancestors ts start) in
      let F : NodeName → Type 0 = λ a. (HasNode p a × (root_of ts a ≡ root_of ts start)) × (is_inclusive_ancestor ts a start ≡ true) in
      let all : AllByRecursion F (inclusive_ancestors ts start) =
      Rattle.dom_worlds.proofs.Trees.all-both (λ a. HasNode p a × (root_of ts a ≡ root_of ts start)) (λ a. is_inclusive_ancestor ts a start ≡ true)
      (inclusive_ancestors ts start)
      (Rattle.dom_worlds.proofs.Trees.all-both (HasNode p) (λ a. root_of ts a ≡ root_of ts start) (inclusive_ancestors ts start)
      (ancestors-there ts start) (ancestors-root ts i.unique start)) (listed-each (inclusive_ancestors ts start)) in
      let G : NodeName → Type 0 = λ a. F a × (outside a ≡ true) in
      let kept : AllByRecursion G above = Rattle.dom_worlds.proofs.TableRecords.all-kept F outside (inclusive_ancestors ts start) all in
      let own : G start = (((t, refl), self-above ts start t), ap not apart) in
      chosen (last_of above) (last-all G above kept) own
    where
      placed : (a : NodeName) → HasNode p a → root_of p.trees a ≡ root_of p.trees r.start.node → is_inclusive_ancestor p.trees a r.start.node ≡ true →
          not (is_inclusive_ancestor p.trees a r.end.node) ≡ true → {o : Option NodeName} → parent_of p.trees a ≡ o →
          IsRoomAt p r (at (unwrap_or o a) (suc (index_of p.trees a)))
      placed a ta same up out {o = None} e =
          let ts = p.trees in
          let root = root-itself ts a i.unique ta e in
          let end_root : root_of ts r.end.node ≡ a = sym (name_eq-true (root_of ts r.start.node) (root_of ts r.end.node) one) ∙ sym same ∙ root in
          absurd (true≢false (sym (ap (λ x. is_inclusive_ancestor ts x r.end.node) (sym end_root) ∙ root-above ts r.end.node te) ∙
          not-true (is_inclusive_ancestor ts a r.end.node) out))
      placed a ta same up out {o = Some y} e = room-behind r a (record { part = i; room = h }) ta e up

      chosen : (o : Option NodeName) → IfSome
          (λ a. ((HasNode p a × (root_of p.trees a ≡ root_of p.trees r.start.node)) × (is_inclusive_ancestor p.trees a r.start.node ≡ true)) ×
          (not (is_inclusive_ancestor p.trees a r.end.node) ≡ true)) o →
          (((HasNode p r.start.node × (root_of p.trees r.start.node ≡ root_of p.trees r.start.node)) ×
          (is_inclusive_ancestor p.trees r.start.node r.start.node ≡ true)) ×
          (not (is_inclusive_ancestor p.trees r.start.node r.end.node) ≡ true)) → IsRoomAt p r (behind_node p.trees (unwrap_or o r.start.node))
      chosen None k own = placed r.start.node own.0.0.0 own.0.0.1 own.0.1 own.1 refl
      chosen (Some a) k own = placed a k.0.0.0 k.0.0.1 k.0.1 k.1 refl

  -- The new place has room, unless it is in a Text or a Comment.
  pub room-place_new : r.start.offset ≤ length_of p.trees r.start.node → (is_inclusive_ancestor p.trees r.start.node r.end.node ≡ true →
      IsOpen p r.start.node) → IsRoomAt p r (new_place p.trees r)
  room-place_new le opened =
      let above = filter (λ a. not (is_inclusive_ancestor p.trees a r.end.node)) (inclusive_ancestors p.trees r.start.node) in
      Rattle.dom_worlds.proofs.Lists.which_way (IsRoomAt p r) (is_inclusive_ancestor p.trees r.start.node r.end.node) r.start
      (behind_node p.trees (unwrap_or (last_of above) r.start.node))
      (λ e. room-start p r i t (opened e) le) (λ e. room-outer e)

-- What is asked of a range: its ends are nodes of one tree, and its start is within its node.
pub record IsProper (p : Part) (r : Range NodeName) : Type 0 where
  pub start : HasNode p r.start.node
  pub end : HasNode p r.end.node
  pub one_tree : same_root p.trees r.start.node r.end.node ≡ true
  pub within : r.start.offset ≤ length_of p.trees r.start.node

-- a number is not zero and more
pub zero_one : (k : ℕ) → k ≡ 0 → 1 ≤ k → ⊥
zero_one k a b = absurd (omega arith)

-- a start node above the end node is open, unless both are one Text
start-open : (p : Part) (r : Range NodeName) → IsPart p → HasRoom nowhere p → is_in_one_data p.trees r ≡ false →
    is_inclusive_ancestor p.trees r.start.node r.end.node ≡ true → IsOpen p r.start.node
start-open p r i h e above =
    by_cases (has_data (kind_of p.trees r.start.node))
    (λ k. absurd (by_cases (name_eq r.start.node r.end.node)
    (λ d. true≢false (sym (ap (λ b. b && has_data (kind_of p.trees r.start.node)) d ∙ k) ∙ e))
    (λ d. let a = above-kids p r.start.node r.end.node i above d in let z = h.leaves r.start.node k in zero_one (kids p.trees r.start.node) z a)))
    (λ k. k)

-- Data that are cut: up to the offset they stay.
pub data-left : (p : Part) (x : NodeName) (offset count : ℕ) → has_data (kind_of p.trees x) ≡ true → offset ≤ length_of p.trees x →
    offset ≤ length_of (after p (replacing_data x offset count [] p)).trees x
data-left p x offset count k le =
    let old = (node_in p.trees x).text in
    let p1 = part_step p (queue_record (character_data x (Some old))) in
    let few = min count (length old - offset) in
    let t = bounds.data-there p.trees x k in
    let now = replaced-here p1 x offset few [] t in
    let a = length-data p.trees x k in
    let b = length-data (after p (replacing_data x offset count [] p)).trees x (ap (λ (n : Node). has_data n.kind) now ∙ k) in
    let c = ap (λ (n : Node). length n.text) now in
    let d = bounds.length-replaced offset few [] old in omega arith

-- a cut at an end of a range
record IsCut (xs : List NodeName) (y : NodeName) (steps : List Step) (q : Part) : Type 0 where
  pub part : IsPart (after q steps)
  pub room : HasRoom nowhere (after q steps)
  pub children : AreChildren xs y (after q steps)
  pub changed : Changed None q (after q steps)

-- the same, as it is made
cut-end : {xs : List NodeName} {y : NodeName} {q : Part} (ts : Trees) (r : Range NodeName) (x : NodeName) → IsRoomy nowhere q → AreChildren xs y q →
    (has_data (kind_of ts x) ≡ true → has_data (kind_of q.trees x) ≡ true) → IsCut xs y (cutting_data ts r x q) q
cut-end {xs} {y} {q} ts r x w c k = from (has_data (kind_of ts x)) k
  where
    from : (b : Bool) → (b ≡ true → has_data (kind_of q.trees x) ≡ true) →
        IsCut xs y ((if b then replacing_data x (cut_start r x) (cut_end ts r x - cut_start r x) [] else steps_of []) q) q
    from false k = record { part = w.part; room = w.room; children = c; changed = (leads-nothing None q w.part).changed }
    from true k =
        let n = cut_end ts r x - cut_start r x in
        let l = leads-replacing_data x (cut_start r x) n [] q w.part in
        record {
          part = l.changed.part;
          room = room-replacing_data x (cut_start r x) n [] w (k refl);
          children = (
            all-then (λ z. IsChild z y q) (λ z. IsChild z y (after q (replacing_data x (cut_start r x) n [] q)))
                (λ z g. child-replacing_data z y x (cut_start r x) n [] q g) xs c.0,
            still l.changed y c.1,
          );
          changed = l.changed;
        }

-- children stay where contained nodes leave
children-left : {q : Part} (xs : List NodeName) (y : NodeName) (zs : List NodeName) → IsPart q → AllByRecursion (λ z. AllByRecursion (λ x. IsNot x z) xs) zs →
    AreChildren xs y q → AreChildren xs y (after q (in_turn (remove_plan observed) zs q))
children-left {q} xs y zs i d c = (each xs d c.0, still (leads-removals observed zs q i).changed y c.1)
  where
    heads : (x : NodeName) (xs zs : List NodeName) → AllByRecursion (λ z. AllByRecursion (λ a. IsNot a z) (x ∷ xs)) zs →
        AllByRecursion (IsNot x) zs × AllByRecursion (λ z. AllByRecursion (λ a. IsNot a z) xs) zs
    heads x xs [] d = (tt, tt)
    heads x xs (z ∷ zs) d = let m = heads x xs zs d.1 in ((d.0.0, m.0), (d.0.1, m.1))

    each : (xs : List NodeName) → AllByRecursion (λ z. AllByRecursion (λ x. IsNot x z) xs) zs → AllByRecursion (λ x. IsChild x y q) xs →
        AllByRecursion (λ x. IsChild x y (after q (in_turn (remove_plan observed) zs q))) xs
    each [] d h = tt
    each (x ∷ xs) d h = let m = heads x xs zs d in (child-removals observed zs (record { part = i; child = h.0 }) m.0, each xs m.1 h.1)

-- what begins behind the start is none of the nodes before which the start does not come
pub early-not : (ts : Trees) (r : Range NodeName) (z : NodeName) → is_before ts r.start (at z 0) ≡ true → (xs : List NodeName) →
    AllByRecursion (λ x. is_before ts r.start (at x 0) ≡ false) xs → AllByRecursion (λ x. IsNot x z) xs
early-not ts r z h xs s =
    all-then (λ x. is_before ts r.start (at x 0) ≡ false) (λ x. IsNot x z)
    (λ x g. by_cases (name_eq z x) (λ e. absurd (true≢false (sym h ∙ ap (λ y. is_before ts r.start (at y 0)) (name_eq-true z x e) ∙ g)))
    (λ e. e)) xs s

-- The last step: the range gets its new place.
pub room-last : (p q : Part) (k : ℕ) (b : Boundary NodeName) → b.offset ≤ length_of q.trees b.node → HasRoom nowhere q →
    HasRoom nowhere (part_step q (set_range k (both_at b)))
room-last p q k b le h = room-set k (both_at b) (omega arith) (omega arith) h

-- a deletion
pub room-deleting : (k : ℕ) (r : Range NodeName) (p : Part) → IsPart p → IsProper p r → HasRoom nowhere p → HasRoom nowhere (after p (deleting k r p))
room-deleting k r p i g h =
    let ts = p.trees in
    let b = new_place ts r in
    let last = set_range k (both_at b) in
    either_way (λ steps. HasRoom nowhere (after p steps)) (is_collapsed name_eq r) [] ((deleting_contents ts r and_then doing last) p) h
    (let steps = deleting_contents ts r p in
    let done = by_cases (is_in_one_data ts r) (λ e. in_data e) (λ e. in_trees e) in
    room-then nowhere p steps (last ∷ []) (room-last p (after p steps) k b done.1 done.0))
  where
    others : Plan
    others = cutting_data p.trees r r.start.node and_then in_turn (remove_plan observed)
        (outermost_contained p.trees r) and_then cutting_data p.trees r r.end.node

    Done : List Step → Type 0
    Done steps = HasRoom nowhere (after p steps) × ((new_place p.trees r).offset ≤ length_of (after p steps).trees (new_place p.trees r).node)

    in_data : is_in_one_data p.trees r ≡ true → HasRoom nowhere (after p (deleting_contents p.trees r p)) ×
        ((new_place p.trees r).offset ≤ length_of (after p (deleting_contents p.trees r p)).trees (new_place p.trees r).node)
    in_data e =
        let ts = p.trees in
        let x = r.start.node in
        let both = and_parts (name_eq x r.end.node) (has_data (kind_of ts x)) e in
        let count = cut_end ts r x - cut_start r x in
        let plan : deleting_contents ts r p ≡ replacing_data x (cut_start r x) count [] p =
        ap (λ (f : Plan). f p) (cond-true (is_in_one_data ts r) (cutting_data ts r x)
        (cutting_data ts r x and_then in_turn (remove_plan observed) (outermost_contained ts r) and_then cutting_data ts r r.end.node) e ∙
        cond-true (has_data (kind_of ts x)) (replacing_data x (cut_start r x) count []) (steps_of []) both.1) in
        let begins : cut_start r x ≡ r.start.offset = cond-true (name_eq x x) r.start.offset 0 (name_eq-same x) in
        let place : new_place ts r ≡ r.start =
        cond-true (is_inclusive_ancestor ts x r.end.node) r.start _
        (ap (is_inclusive_ancestor ts x) (sym (name_eq-true x r.end.node both.0)) ∙ self-above ts x g.start) in
        let left = data-left p x (cut_start r x) count both.1 (let w = g.within in omega arith) in
        subst (λ steps. HasRoom nowhere (after p steps) × ((new_place ts r).offset ≤ length_of (after p steps).trees (new_place ts r).node)) (sym plan) (
          room-replacing_data x (cut_start r x) count [] (record { part = i; room = h }) both.1,
          subst (λ (c : Boundary NodeName). c.offset ≤ length_of (after p (replacing_data x (cut_start r x) count [] p)).trees c.node) (sym place)
              (omega arith),
        )

    in_trees : is_in_one_data p.trees r ≡ false → HasRoom nowhere (after p (deleting_contents p.trees r p)) ×
        ((new_place p.trees r).offset ≤ length_of (after p (deleting_contents p.trees r p)).trees (new_place p.trees r).node)
    in_trees e =
        let ts = p.trees in
        let b = new_place ts r in
        let room = room-place_new p r i h g.start g.end g.one_tree g.within (start-open p r i h e) in
        let xs = room.held in
        let y = b.node in
        let one = cutting_data ts r r.start.node p in
        let a = cut-end ts r r.start.node (record { part = i; room = h }) room.children (λ d. d) in
        let q = after p one in
        let gone = outermost_contained ts r in
        let two = in_turn (remove_plan observed) gone q in
        let lq = leads-removals observed gone q a.part in
        let s = after q two in
        let missing = all-then (λ z. is_contained ts r z ≡ true) (λ z. AllByRecursion (λ x. IsNot x z) xs)
        (λ z c. early-not ts r z (and_parts (is_before ts r.start (at z 0)) _ c).0 xs room.spared.children) gone
        (all-passed (λ z. is_contained ts r z ≡ true) _ (λ z c. (and_parts (is_contained ts r z) _ c).0) (names_of (nodes ts))) in
        let cs = children-left xs y gone a.part missing a.children in
        let rs = room-removals nowhere observed gone q a.part a.room in
        let sr = after p (one ++ two) in
        let same : sr ≡ s = after-append p one two in
        let kinds : has_data (kind_of ts r.end.node) ≡ true → has_data (kind_of sr.trees r.end.node) ≡ true =
        λ d. ap (λ (v : Part). has_data (kind_of v.trees r.end.node)) same ∙
        ap has_data (lq.changed.kinds r.end.node (still a.changed r.end.node g.end) ∙ a.changed.kinds r.end.node g.end) ∙ d in
        let c = cut-end ts r r.end.node (record { part = subst IsPart (sym same) lq.changed.part; room = subst (HasRoom nowhere) (sym same) rs })
        (subst (AreChildren xs y) (sym same) cs) kinds in
        let three = cutting_data ts r r.end.node sr in
        let opened : IsOpen (after sr three) y =
        ap has_data (c.changed.kinds y (subst (λ (v : Part). HasNode v y) (sym same) cs.1) ∙ ap (λ (v : Part). kind_of v.trees y) same ∙
        lq.changed.kinds y (still a.changed y room.children.1) ∙ a.changed.kinds y room.children.1) ∙ room.opened in
        let plan : deleting_contents ts r p ≡ (one ++ two) ++ three =
        ap (λ (f : Plan). f p) (cond-false (is_in_one_data ts r) (cutting_data ts r r.start.node)
        (cutting_data ts r r.start.node and_then in_turn (remove_plan observed) gone and_then cutting_data ts r r.end.node) e) in
        let end = after-append p (one ++ two) three in
        subst (λ steps. HasRoom nowhere (after p steps) × (b.offset ≤ length_of (after p steps).trees b.node)) (sym plan)
        (subst (λ (v : Part). HasRoom nowhere v × (b.offset ≤ length_of v.trees b.node)) (sym end)
        (c.room, room-at room c.part opened c.children))
