-- Insertions into a range keep the ends of ranges within their nodes.
use Rattle.dom_base.proofs.Std.{◌≡◌, ◌≤◌, ℕ, ◌+◌, ◌-◌, Bool, true, false, ◌&&◌, ◌||◌, List, [], ◌∷◌, ◌++◌, drop, length, Option, Some, None, unwrap_or, refl}
use Rattle.dom_base.proofs.Std.{sym, ap, ◌∙◌, arith, true≢false, subst, if◌then◌else◌, slice_get, AllByRecursion, option_map_or, option_and_then, cond-true}
use Rattle.dom_base.proofs.Std.{cond-false}
use Rattle.dom_model.proofs.Model.{Kind, NodeName, name_eq, is_empty, first_of, items_after, Trees, Node, node_in, kind_of, is_text, is_fragment, has_data}
use Rattle.dom_model.proofs.Model.{children_of, ancestors, parent_of, next_sibling, index_of, length_of, taken_out, child_list, Part, next_name, range_at}
use Rattle.dom_model.proofs.Model.{Boundary, Range, at, from_to, is_collapsed, make, take_out, split_at, set_range, queue_record, part_step, after, Plan}
use Rattle.dom_model.proofs.Model.{◌and_then◌, in_turn, steps_of, Observing, observed, suppressed, removal_record, remove_plan, removing_from, placed_nodes}
use Rattle.dom_model.proofs.Model.{emptying, insert_plan, reference_child, replacing_data, new_text_node, placing_tail, splitting, start_reference}
use Rattle.dom_model.proofs.Model.{insertion_parent, is_comment, cannot_take_node, ending_at, inserting_before, inserting_at, inserting_into_range}
use Rattle.dom_model.proofs.Model.{name_eq-same, name_eq-true, name_eq-turned}
use Rattle.dom_worlds.specs.Definitions.{times_among, IsPart}
use Rattle.dom_worlds.proofs.BoundLines.{under-at}
use Rattle.dom_worlds.proofs.Bounds.{IsRoomy, RangeUnder, reach, nowhere, HasRoom, room-set}
use Rattle.dom_worlds.proofs.ChildPairs.{children-childs}
use Rattle.dom_worlds.proofs.Insides.{inside, inside-itself}
use Rattle.dom_worlds.proofs.ChildCounts.{kids, one_at, kids-taken_out, index-below}
use Rattle.dom_worlds.proofs.Lists.{all-then, by_cases, either_way, which_way, by_some_is}
use Rattle.dom_worlds.proofs.Roots.{length-kids}
use Rattle.dom_worlds.proofs.RangeBounds.{MayEnter, IsOpen, open-still, room-then, room-removing, room-inserting, child-there_in}
use Rattle.dom_worlds.proofs.PlacedBounds.{Distinct, kids-inserted, kids-plain}
use Rattle.dom_worlds.proofs.PlanChildren.{IsChild, child-then, child-removing, child-replacing_data, child-inserted, child-parent}
use Rattle.dom_worlds.proofs.PlanPlaces.{Changed, MayGo, may-still, still, taken-step, telling-trees, root-removing, after-append, emptied_of, leads-eased}
use Rattle.dom_worlds.proofs.PlanPlaces.{leads-one, leads-removing, leads-inserting}
use Rattle.dom_worlds.proofs.PlanTexts.{may-follow, leads-splitting}
use Rattle.dom_worlds.proofs.TableSteps.{HasNode}
use Rattle.dom_worlds.proofs.TableRecords.{IfSome, first-all, after-all, all-get}
use Rattle.dom_worlds.proofs.TextBounds.{none-among, among-behind, children-among, text-data, room-splitting}
use Rattle.dom_worlds.proofs.TreeChangeLaws.{HasRoot, root-taken_out}
use Rattle.dom_worlds.proofs.Trees.{all-both}
use Rattle.dom_worlds.proofs.KindCases.{failing, of_kinds}

-- Children of a fragment: each is another.
distinct-among : (xs : List NodeName) → ((z : NodeName) → times_among xs z ≤ 1) → Distinct xs
distinct-among [] h = tt
distinct-among (x ∷ xs) h =
    let o = h x in
    let one : times_among (x ∷ xs) x ≡ 1 + times_among xs x = ap (λ k. k + times_among xs x) (cond-true (name_eq x x) 1 0 (name_eq-same x)) in
    (none-among x xs (omega arith), distinct-among xs (λ z. let a = h z in omega arith))

-- what a removal does to the trees
trees-removing : (how : Observing) (x parent : NodeName) (p : Part) → parent_of p.trees x ≡ Some parent →
    (after p (remove_plan how x p)).trees ≡ taken_out x p.trees
trees-removing how x parent p e =
    ap (λ o. (after p (option_map_or (removing_from how x p.trees) o [])).trees) e ∙ telling-trees how (removal_record p.trees parent x)
    (part_step p (take_out x)) ∙ ap (λ (q : Part). q.trees) (taken-step p x parent e)

-- a root stays one
root-left : (how : Observing) (x y : NodeName) (p : Part) → HasRoot p.trees y → HasRoot (after p (remove_plan how x p)).trees y
root-left how x y p h =
    by_some_is (λ (o : Option NodeName). HasRoot (after p (option_map_or (removing_from how x p.trees) o [])).trees y) (parent_of p.trees x) (λ e. h)
    (λ parent e. subst (λ ts. HasRoot ts y) (sym (telling-trees how (removal_record p.trees parent x) (part_step p (take_out x)) ∙
    ap (λ (q : Part). q.trees) (taken-step p x parent e))) (root-taken_out x p.trees y h))

-- through many removals
root-removals : (how : Observing) (xs : List NodeName) (y : NodeName) (p : Part) → HasRoot p.trees y → HasRoot (after p (in_turn
    (remove_plan how) xs p)).trees y
root-removals how [] y p h = h
root-removals how (x ∷ xs) y p h =
    let q = after p (remove_plan how x p) in
    subst (λ (s : Part). HasRoot s.trees y) (sym (after-append p (remove_plan how x p) (in_turn (remove_plan how) xs q)))
    (root-removals how xs y q (root-left how x y p h))

-- those that are removed are roots
removed-roots : (how : Observing) (xs : List NodeName) (p : Part) → IsPart p → AllByRecursion (HasNode p) xs →
    AllByRecursion (HasRoot (after p (in_turn (remove_plan how) xs p)).trees) xs
removed-roots how [] p i t = tt
removed-roots how (x ∷ xs) p i t =
    let q = after p (remove_plan how x p) in
    let c = (leads-removing how x p i).changed in
    subst (λ (s : Part). AllByRecursion (HasRoot s.trees) (x ∷ xs)) (sym (after-append p (remove_plan how x p) (in_turn (remove_plan how) xs q)))
    (root-removals how xs x q (root-removing how x p t.0), removed-roots how xs q c.part (all-then (HasNode p) (HasNode q) (λ y. still c y) xs t.1))

-- A parent, and another one, which keeps its children.
module _ (how : Observing) (parent y : NodeName) (apart : name_eq parent y ≡ false) where
  -- where a child of the one leaves it
  kids-removing : {p : Part} (x : NodeName) → IsPart p → parent_of p.trees x ≡ Some parent → kids (after p (remove_plan how x p)).trees y ≡ kids p.trees y
  kids-removing {p} x i e =
      let s = ap (λ ts. kids ts y) (trees-removing how x parent p e) in
      let k = kids-taken_out p.trees x parent y i.unique e in
      let o : one_at parent y ≡ 0 = cond-false (name_eq parent y) 1 0 apart in omega arith

  -- where all children of one leave it
  kids-removals : (xs : List NodeName) {p : Part} → IsPart p → AllByRecursion (λ x. IsChild x parent p) xs → Distinct xs →
      kids (after p (in_turn (remove_plan how) xs p)).trees y ≡ kids p.trees y
  kids-removals [] i c d = refl
  kids-removals (x ∷ xs) {p} i c d =
      let q = after p (remove_plan how x p) in
      let j = (leads-removing how x p i).changed.part in
      let rest = all-then (λ z. IsChild z parent p × (name_eq x z ≡ false)) (λ z. IsChild z parent q)
      (λ z h. let h0 = h.0 in child-removing how x (record { part = i; child = h.0 }) h.1) xs
      (all-both (λ z. IsChild z parent p) (λ z. name_eq x z ≡ false) xs c.1 d.0) in
      let a = kids-removing x i (child-parent p x parent i c.0) in
      let b = kids-removals xs j rest d.1 in
      let s = ap (λ (r : Part). kids r.trees y) (after-append p (remove_plan how x p) (in_turn (remove_plan how) xs q)) in omega arith

-- An insertion of a fragment: the parent has its children more.
kids-fragment : {node parent : NodeName} {p : Part} (how : Observing) (before : Option NodeName) → IsPart p → MayGo parent p node →
    is_fragment (kind_of p.trees node) ≡ true →
    kids (after p (insert_plan how node parent before p)).trees parent ≡ kids p.trees parent + length (children_of p.trees node)
kids-fragment {node} {parent} {p} how before i m k =
    let ts = p.trees in
    let moved = placed_nodes ts node in
    let is : moved ≡ children_of ts node = cond-true (is_fragment (kind_of ts node)) (children_of ts node) (node ∷ []) k in
    let gone = in_turn (remove_plan suppressed) moved p in
    let emptied : emptied_of p node p ≡ emptying node moved p =
    ap (λ (f : Plan). f p) (cond-true (is_fragment (kind_of ts node)) (emptying node moved) (steps_of []) k) in
    let q_trees : (after p (emptied_of p node p)).trees ≡ (after p gone).trees =
    ap (λ steps. (after p steps).trees) emptied ∙
    ap (λ (s : Part). s.trees) (after-append p gone (queue_record (child_list node [] moved None None) ∷ [])) in
    let children : AllByRecursion (λ x. IsChild x node p) moved = subst (AllByRecursion (λ x. IsChild x node p)) (sym is) (children-childs ts node) in
    let distinct : Distinct moved = subst Distinct (sym is)
    (distinct-among (children_of ts node) (λ z. let a = children-among ts node z in let u = i.unique z in omega arith)) in
    let roots = removed-roots suppressed moved p i (all-then (λ x. IsChild x node p) (HasNode p) (λ x c. child-there_in p x node i c) moved children) in
    let apart : name_eq node parent ≡ false = by_cases (name_eq node parent)
    (λ e. absurd (let a = m.apart in let b = inside-itself ts node m.there in let s = ap (inside ts node) (name_eq-true node parent e) in omega
    arith)) (λ e. e) in
    let same = kids-removals suppressed node parent apart moved i children distinct in
    let g = kids-inserted how node parent before p i m (subst (λ us. AllByRecursion (HasRoot us) moved) (sym q_trees) roots) distinct
    (ap (λ us. kids us parent) q_trees ∙ same) in
    let size = ap (λ (xs : List NodeName). length xs) is in omega arith

-- a fragment has no data
fragment-open : (k : Kind) → is_fragment k ≡ true → has_data k ≡ false
fragment-open = of_kinds (λ k. is_fragment k ≡ true → has_data k ≡ false) failing (λ h. refl) failing failing failing failing

-- so many children more: those of a fragment, or one
kids-more : {node parent : NodeName} {p : Part} (before : Option NodeName) → IsPart p → MayGo parent p node → HasRoot p.trees node →
    kids (after p (insert_plan observed node parent before p)).trees parent ≡ kids p.trees
    parent + (if is_fragment (kind_of p.trees node) then length_of p.trees node else 1)
kids-more {node} {parent} {p} before i m h =
    let ts = p.trees in
    by_cases (is_fragment (kind_of ts node))
    (λ k. let a = kids-fragment observed before i m k in
    let b = cond-true (is_fragment (kind_of ts node)) (length_of ts node) 1 k in
    let c : length_of ts node ≡ length (children_of ts node) =
    cond-false (has_data (kind_of ts node)) (length (node_in ts node).text) (length (children_of ts node))
    (fragment-open (kind_of ts node) k) in omega arith)
    (λ k. let a = kids-plain observed node parent before p i m h k in let b = cond-false (is_fragment (kind_of ts node)) (length_of ts node) 1 k in omega arith)

-- A collapsed range gets an end within its node.
room-ending_at : (k : ℕ) (b : Boundary NodeName) (p : Part) → b.offset ≤ length_of p.trees b.node → HasRoom nowhere p →
    HasRoom nowhere (after p (ending_at k b p))
room-ending_at k b p le h = from (range_at p k) (under-at p k h)
  where
    from : (o : Option (Range NodeName)) → RangeUnder (reach nowhere p) o →
        HasRoom nowhere (after p (option_map_or
        (λ (r : Range NodeName). if is_collapsed name_eq r then set_range k (from_to r.start b) ∷ [] else []) o []))
    from None u = h
    from (Some r) u = either_way (λ steps. HasRoom nowhere (after p steps)) (is_collapsed name_eq r) (set_range k (from_to r.start b) ∷ []) []
        (room-set k (from_to r.start b) u.0 (omega arith) h) h

-- A node before a reference: a child of the parent, if there is one.
room-inserting_before : {node parent : NodeName} {p : Part} (k : ℕ) (reference : Option NodeName) → IsRoomy nowhere p → MayEnter parent p node →
    HasRoot p.trees node → IfSome (λ c. IsChild c parent p) reference → HasRoom nowhere (after p (inserting_before k node parent reference p))
room-inserting_before {node} {parent} {p} k reference w m root c =
    let ts = p.trees in
    let place = option_map_or (index_of ts) reference (length_of ts parent) in
    let size = if is_fragment (kind_of ts node) then length_of ts node else 1 in
    let before = reference_child ts node reference in
    let steps = insert_plan observed node parent before p in
    let l = leads-inserting observed node parent before w.part m.go in
    let q = after p steps in
    let more = kids-more before w.part m.go root in
    let was = length-kids ts parent w.part.unique m.open_parent in
    let now = length-kids q.trees parent l.changed.part.unique (open-still l.changed parent m.go.below m.open_parent) in
    let low = placed reference c in
    room-then nowhere p steps (ending_at k (at parent (place + size)) q)
    (room-ending_at k (at parent (place + size)) q (omega arith) (room-inserting observed before w m))
  where
    placed : (o : Option NodeName) → IfSome (λ c. IsChild c parent p) o → option_map_or (index_of p.trees) o (length_of p.trees parent) ≤ kids p.trees parent
    placed None c = let was = length-kids p.trees parent w.part.unique m.open_parent in omega arith
    placed (Some x) c = let a = index-below p.trees x parent w.part.unique (child-parent p x parent w.part c) in omega arith

-- where the node leaves its parent first, the reference is still a child
reference-stays : (node parent : NodeName) (p : Part) → IsPart p → (o : Option NodeName) → IfSome (λ c. IsChild c parent p) o →
    IfSome (λ c. IsChild c parent (after p (remove_plan observed node p))) (reference_child p.trees node o)
reference-stays node parent p i None h = tt
reference-stays node parent p i (Some c) h =
    let ts = p.trees in
    let q = after p (remove_plan observed node p) in
    let C : NodeName → Type 0 = λ z. IsChild z parent q in
    which_way (IfSome C) (name_eq c node) (next_sibling ts node) (Some c)
    (λ e. let up = child-parent p node parent i (subst (λ z. IsChild z parent p) (name_eq-true c node e) h) in
    let once = children-among ts parent node in
    let u = i.unique node in
    let behind = items_after name_eq node (children_of ts parent) in
    let all = all-both (λ z. IsChild z parent p) (λ z. name_eq node z ≡ false) behind
    (after-all (λ z. IsChild z parent p) node (children_of ts parent) (children-childs ts parent))
    (among-behind node (children_of ts parent) (omega arith)) in
    let still_all = all-then (λ z. IsChild z parent p × (name_eq node z ≡ false)) C
    (λ z g. child-removing observed node (record { part = i; child = g.0 }) g.1) behind all in
    subst (λ (s : Option NodeName). IfSome C (first_of (items_after name_eq node (option_map_or (children_of ts) s (node ∷ []))))) (sym up)
    (first-all C behind still_all))
    (λ e. child-removing observed node (record { part = i; child = h }) (name_eq-turned node c ∙ e))

-- a node that left its parent first
room-inserting_at : {node parent : NodeName} {p : Part} (k : ℕ) (child : Option NodeName) → IsRoomy nowhere p → MayEnter parent p node →
    IfSome (λ c. IsChild c parent p) child → HasRoom nowhere (after p (inserting_at k node parent child p))
room-inserting_at {node} {parent} {p} k child w m c =
    let steps = remove_plan observed node p in
    let q = after p steps in
    let l = leads-eased (Some parent) p steps (leads-removing observed node p w.part) in
    room-then nowhere p steps (inserting_before k node parent (reference_child p.trees node child) q)
    (room-inserting_before k (reference_child p.trees node child) (record { part = l.changed.part; room = room-removing nowhere observed node p w.part w.room })
    (record { go = may-still parent p q node l.changed m.go; open_parent = open-still l.changed parent m.go.below m.open_parent })
    (root-removing observed node p m.go.there) (reference-stays node parent p w.part child c))

-- The tail of a split Text is a child of its parent.
pub tail-child : (x : NodeName) (offset : ℕ) (p : Part) (y : NodeName) → IsPart p → parent_of p.trees x ≡ Some y →
    IsChild (next_name p) y (after p (splitting x offset p))
tail-child x offset p y i e =
    let one = make tail ∷ placing_tail x offset (next_name p) (Some y) q in
    let count = length (node_in p.trees x).text - offset in
    let put = insert_plan observed (next_name p) y (next_sibling q.trees x) q in
    let f = may-follow tail x i refl e in
    let j = (leads-one p (make tail) i tt).changed.part in
    let child = child-inserted observed (next_sibling q.trees x) j f.may f.plain in
    subst (λ o. IsChild (next_name p) y (after p
    ((make tail ∷ placing_tail x offset (next_name p) o q) ++
    replacing_data x offset count [] (after p (make tail ∷ placing_tail x offset (next_name p) o q))))) (sym e)
    (child-then (next_name p) y p one (replacing_data x offset count [] (after p one))
    (child-replacing_data (next_name p) y x offset count [] (after p one)
    (child-then (next_name p) y q put (split_at x offset (next_name p) y (index_of q.trees x) ∷ []) child)))
  where
    tail : Node
    tail = new_text_node (next_name p) (node_in p.trees x).document (drop offset (node_in p.trees x).text)

    q : Part
    q = part_step p (make (new_text_node (next_name p) (node_in p.trees x).document (drop offset (node_in p.trees x).text)))

-- a list with items has a first one
first-there : (xs : List NodeName) → is_empty xs ≡ false → (y : NodeName) × (first_of xs ≡ Some y)
first-there [] h = absurd (true≢false h)
first-there (x ∷ xs) h = (x, refl)

-- a Text that can take a node has a parent
text-parent : (ts : Trees) (r : Range NodeName) (node : NodeName) → cannot_take_node ts r node ≡ false →
    is_text (kind_of ts r.start.node) ≡ true → (y : NodeName) × (parent_of ts r.start.node ≡ Some y)
text-parent ts r node h e = first-there (ancestors ts r.start.node)
    (from (is_comment (kind_of ts r.start.node)) (is_text (kind_of ts r.start.node)) (is_empty (ancestors ts r.start.node))
    (name_eq r.start.node node) h e)
  where
    from : (a b c d : Bool) → (a || ((b && c) || d)) ≡ false → b ≡ true → c ≡ false
    from true b c d h e = absurd (true≢false h)
    from false false c d h e = absurd (true≢false (sym e))
    from false true true d h e = absurd (true≢false h)
    from false true false d h e = refl

-- An insertion into a range.
pub room-inserting_into_range : {node : NodeName} {p : Part} (k : ℕ) (r : Range NodeName) → IsRoomy nowhere p → HasNode p r.start.node →
    MayEnter (insertion_parent p.trees r) p node → cannot_take_node p.trees r node ≡ false → HasRoom nowhere (after p (inserting_into_range k r node p))
room-inserting_into_range {node} {p} k r w t m valid =
    which_way (λ steps. HasRoom nowhere (after p steps)) (is_text (kind_of ts start))
    ((splitting start r.start.offset and_then inserting_at k node (insertion_parent ts r) (Some (next_name p))) p)
    (inserting_at k node (insertion_parent ts r) (start_reference ts r) p)
    (λ e. in_text e (text-parent ts r node valid e))
    (λ e. room-inserting_at k (start_reference ts r) w m (below (start_reference ts r) (listed e)))
  where
    ts : Trees
    ts = p.trees

    start : NodeName
    start = r.start.node

    listed : is_text (kind_of p.trees r.start.node) ≡ false → IfSome (λ c. IsChild c r.start.node p) (start_reference p.trees r)
    listed e =
        let at_offset = slice_get (children_of p.trees r.start.node) r.start.offset in
        subst (IfSome (λ c. IsChild c r.start.node p)) (sym (cond-false (is_text (kind_of p.trees r.start.node)) (Some r.start.node) at_offset e))
        (all-get (λ c. IsChild c r.start.node p) (children_of p.trees r.start.node) r.start.offset (children-childs p.trees r.start.node))

    below : (o : Option NodeName) → IfSome (λ c. IsChild c r.start.node p) o →
        IfSome (λ c. IsChild c (unwrap_or (option_and_then (parent_of p.trees) o) r.start.node) p) o
    below None c = tt
    below (Some x) c = subst (λ (a : Option NodeName). IsChild x (unwrap_or a r.start.node) p) (sym (child-parent p x r.start.node w.part c)) c

    in_text : is_text (kind_of p.trees r.start.node) ≡ true → (y : NodeName) × (parent_of p.trees r.start.node ≡ Some y) →
        HasRoom nowhere (after p ((splitting r.start.node r.start.offset and_then inserting_at k node (insertion_parent p.trees r)
        (Some (next_name p))) p))
    in_text e above =
        let x = r.start.node in
        let y = above.0 in
        let steps = splitting x r.start.offset p in
        let q = after p steps in
        let same : insertion_parent p.trees r ≡ y =
        ap (λ (a : Option NodeName). unwrap_or (option_and_then (parent_of p.trees) a) x)
        (cond-true (is_text (kind_of p.trees x)) (Some x) (slice_get (children_of p.trees x) r.start.offset) e) ∙
        ap (λ (a : Option NodeName). unwrap_or a x) above.1 in
        let c : Changed (Some y) p q = subst (λ a. Changed a p q) above.1 (leads-splitting x r.start.offset p w.part).changed in
        let may = subst (λ z. MayGo z p node) same m.go in
        let opened = subst (IsOpen p) same m.open_parent in
        subst (λ z. HasRoom nowhere (after p ((splitting x r.start.offset and_then inserting_at k node z (Some (next_name p))) p))) (sym same)
        (room-then nowhere p steps (inserting_at k node y (Some (next_name p)) q)
        (room-inserting_at k (Some (next_name p)) (record { part = c.part; room = room-splitting x r.start.offset w t (text-data (kind_of p.trees x) e) })
        (record { go = may-still y p q node c may; open_parent = open-still c y may.below opened })
        (tail-child x r.start.offset p y w.part above.1)))
