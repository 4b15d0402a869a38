-- The records of the plans of texts and ranges name nodes that are there.
use Rattle.dom_base.proofs.Std.{◌≡◌, ℕ, ◌+◌, ◌-◌, Bool, true, false, not, ◌&&◌, List, [], ◌∷◌, ◌++◌, map, filter, flat_map, drop, length, Option, Some, None}
use Rattle.dom_base.proofs.Std.{refl, sym, subst, ◌≤◌, unwrap_or, ap, arith, if◌then◌else◌, ◌==◌, slice_get, AllByRecursion, option_map_or, option_and_then}
use Rattle.dom_base.proofs.Std.{cond-true}
use Rattle.dom_model.proofs.Model.{NodeName, DomString, is_empty, name_eq, Trees, Node, node_in, kind_of, is_text, is_document, has_data, children_of}
use Rattle.dom_model.proofs.Model.{parent_of, next_sibling, index_of, length_of, descendants, inclusive_descendants, is_fragment, child_list, Part, next_name}
use Rattle.dom_model.proofs.Model.{range_at, Step, make, join_at, queue_record, part_step, after, set_range, Plan, ◌and_then◌, in_turn, steps_of, only_if}
use Rattle.dom_model.proofs.Model.{observed, suppressed, remove_plan, document_below, insert_plan, doing, reference_child, pre_insert_plan, replacing_data}
use Rattle.dom_model.proofs.Model.{new_text_node, replacing_all_data, placing_tail, splitting, contiguous_texts_after, joins, joining, normalizing_text}
use Rattle.dom_model.proofs.Model.{normalizing, replacing_children, setting_text, Pieces, whole, cut, clone, cut_start, cut_end, pieces_of, is_in_one_data}
use Rattle.dom_model.proofs.Model.{clone_part, making_below, taking, new_fragment_node, own_document, new_place, both_at, extracting, Boundary, cutting_data}
use Rattle.dom_model.proofs.Model.{outermost_contained, deleting_contents, deleting, insertion_parent, start_reference, ending_at, inserting_before}
use Rattle.dom_model.proofs.Model.{inserting_at, inserting_into_range, Range, at, from_to, is_collapsed, with_name}
use Rattle.dom_worlds.specs.Definitions.{IsPart}
use Rattle.dom_worlds.proofs.Lists.{all-dropped, all-then, all-filter, either_way, which_way, by_some_is}
use Rattle.dom_worlds.proofs.PlanPlaces.{Changed, MayGo, may-still, still, leads-then, leads-eased, leads-one, leads-each, inserting-each, after-append}
use Rattle.dom_worlds.proofs.PlanPlaces.{leads-removing, leads-inserting, changed-eased}
use Rattle.dom_worlds.proofs.PlanTexts.{IsReplaced, replaced-by, leads-removals, leads-replacing_data, leads-tail, leads-joins, normalizing-each, may-follow}
use Rattle.dom_worlds.proofs.PlanTexts.{new-there, texts-beside, descend-there, leads-plan, leads-splitting, new-may}
use Rattle.dom_worlds.proofs.Recorded.{TellsIn, tells-append, tells-plan, recorded, still-all, children-there, next-there, tells-removing, tells-joins_on}
use Rattle.dom_worlds.proofs.Recorded.{tells-removals, tells-inserting, tells-replacing_data, still-if, reference-there}
use Rattle.dom_worlds.proofs.TableSteps.{HasNode}
use Rattle.dom_model.specs.Extract.{nothing}
use Rattle.dom_worlds.proofs.PartSteps.{next-absent}
use Rattle.dom_worlds.proofs.PlanContents.{CanTake, take-still, take-below, OldIn, old-may, old-there, whole-then, changed-inner, leads-making_below}
use Rattle.dom_worlds.proofs.PlanContents.{leads-taking, leads-cutting, pieces-there}
use Rattle.dom_worlds.proofs.TableRecords.{IfSome, all-get}
use Rattle.dom_worlds.proofs.PlanChildren.{each-by}

-- A split, after which the new Text is there.
pub tells-splitting : (x : NodeName) (offset : ℕ) (p : Part) → IsPart p → HasNode p x → TellsIn p (splitting x offset p) ×
    HasNode (after p (splitting x offset p)) (next_name p)
tells-splitting x offset p i t =
    let old = node_in p.trees x in
    let new = next_name p in
    let tail = new_text_node new old.document (drop offset old.text) in
    let spot = parent_of p.trees x in
    let q = part_step p (make tail) in
    let c = (leads-one p (make tail) i tt).changed in
    let put = placing_tail x offset new spot in
    let cut = replacing_data x offset (length old.text - offset) [] in
    let l = leads-tail {x = x} offset spot c.part (new-there p tail) (λ parent e. may-follow tail x i refl e) in
    let told = by_some_is (λ (o : Option NodeName). TellsIn q (placing_tail x offset new o q)) spot (λ e. tt)
    (λ parent e. tells-append q (insert_plan observed new parent (next_sibling q.trees x) q) _
    (tells-inserting observed (next_sibling q.trees x) c.part (may-follow tail x i refl e).may (next-there q x (still c x t))) (tt, tt)) in (
      (tt, tells-plan put cut l told (λ r d. tells-replacing_data x offset (length old.text - offset) [] r (still d x (still c x t)))),
      still (leads-plan spot put cut q l
          (λ r d. leads-eased spot r (cut r) (leads-replacing_data x offset (length old.text - offset) [] r d.part))).changed new (new-there p tail),
    )

-- Joins record nothing.
tells-joins : (ts : Trees) (x parent : NodeName) (size : ℕ) (ys : List NodeName) (p : Part) → TellsIn p (joins ts x parent size ys)
tells-joins ts x parent size [] p = tt
tells-joins ts x parent size (y ∷ ys) p = (tt, tells-joins ts x parent (size + length_of ts y) ys (part_step p (join_at x size y parent (index_of ts y))))

-- Texts that are joined
tells-joining : (x parent : NodeName) (p : Part) → IsPart p → HasNode p x → parent_of p.trees x ≡ Some parent →
    TellsIn p (joining x parent (contiguous_texts_after p.trees x) p)
tells-joining x parent p i t e =
    let nexts = contiguous_texts_after p.trees x in
    let size = length_of p.trees x in
    let all = flat_map (λ y. (node_in p.trees y).text) nexts in
    let one = replacing_data x size 0 all p in
    let first = leads-replacing_data x size 0 all p i in
    let q = after p one in
    let two = joins p.trees x parent size nexts in
    tells-plan (replacing_data x size 0 all and_then steps_of two) (in_turn (remove_plan observed) nexts)
    (leads-then None p one two first (leads-joins p.trees x parent size nexts (record {
      part = first.changed.part;
      there = still first.changed x t;
      beside = texts-beside x size all i e;
    })))
    (tells-append p one two (tells-replacing_data x size 0 all p t) (tells-joins p.trees x parent size nexts q)) (λ r c. tells-removals observed nexts r c.part)

-- a Text that is normalized
tells-normalizing_text : (p : Part) (x : NodeName) → IsPart p → HasNode p x → TellsIn p (normalizing_text x p)
tells-normalizing_text p x i t =
    either_way (TellsIn p) (length_of p.trees x == 0) (remove_plan observed x p)
    (option_map_or (λ parent. if is_empty (contiguous_texts_after p.trees x) then [] else joining x parent (contiguous_texts_after p.trees x) p)
    (parent_of p.trees x) [])
    (tells-removing observed x p i) (from (parent_of p.trees x) refl)
  where
    from : (a : Option NodeName) → parent_of p.trees x ≡ a →
        TellsIn p (option_map_or (λ parent. if is_empty (contiguous_texts_after p.trees x) then [] else joining x parent
        (contiguous_texts_after p.trees x) p) a [])
    from None e = tt
    from (Some parent) e = either_way (TellsIn p) (is_empty (contiguous_texts_after p.trees x)) [] (joining x parent (contiguous_texts_after p.trees x) p) tt
        (tells-joining x parent p i t e)

-- all Texts below a node
pub tells-normalizing : (x : NodeName) (p : Part) → IsPart p → TellsIn p (normalizing x p)
tells-normalizing x p i =
    let texts = filter (λ y. is_text (kind_of p.trees y)) (descendants p.trees x) in
    each-by tells-joins_on normalizing-each tells-normalizing_text texts p i
    (all-filter (HasNode p) (λ y. is_text (kind_of p.trees y)) (descendants p.trees x)
    (all-dropped (HasNode p) (inclusive_descendants p.trees x) (descend-there p.trees x)))

-- Text content.
tells-replaced : {x : NodeName} {made : List Step} {added : List NodeName} {p : Part} (old : List NodeName) (b : Bool) → IsReplaced x made added p →
    TellsIn p made → AllByRecursion (HasNode p) old →
    TellsIn p ((steps_of made and_then in_turn (remove_plan suppressed) old and_then in_turn (λ y. insert_plan suppressed y x None) added and_then
    steps_of (only_if b (queue_record (child_list x added old None None)))) p)
tells-replaced {x} {made} {added} {p} old b m tm o =
    let a = m.leads in
    let spot = Some x in
    let q = after p made in
    let gone = in_turn (remove_plan suppressed) old q in
    let ab = leads-then spot p made gone a (leads-eased spot q gone (leads-removals suppressed old q a.changed.part)) in
    let r = after p (made ++ gone) in
    let c : Changed spot q r = subst (Changed spot q) (sym (Rattle.dom_worlds.proofs.PlanPlaces.after-append p made gone))
    (leads-eased spot q gone (leads-removals suppressed old q a.changed.part)).changed in
    let may = all-then (MayGo x q) (MayGo x r) (λ y. may-still x q r y c) added m.may in
    let put : NodeName → Plan = λ y. insert_plan suppressed y x None in
    let d = leads-each (inserting-each x) added r c.part may in
    let three = in_turn put added r in
    let all = leads-then spot p (made ++ gone) three ab d in
    let s = after p ((made ++ gone) ++ three) in
    let s_same : s ≡ after r three = Rattle.dom_worlds.proofs.PlanPlaces.after-append p (made ++ gone) three in
    let e : Changed spot r s = subst (Changed spot r) (sym s_same) d.changed in
    let told = queue_record (child_list x added old None None) in
    tells-append p ((made ++ gone) ++ three) (only_if b told)
    (tells-append p (made ++ gone) three (tells-append p made gone tm (tells-removals suppressed old q a.changed.part))
    (each-by tells-joins_on (inserting-each x) (λ v y j n. tells-inserting suppressed None j n tt) added r c.part may))
    (either_way (TellsIn s) b (told ∷ []) [] (
      recorded s (child_list x added old None None) (
        still all.changed x m.there,
        still-all e added (all-then (MayGo x r) (HasNode r) (λ y n. n.there) added may),
        still-all all.changed old o,
        tt,
        tt,
      ),
      tt,
    ) tt)

-- children that give way to a Text
tells-replacing_children : (x : NodeName) (new : DomString) (p : Part) → IsPart p → HasNode p x → TellsIn p (replacing_children x new p)
tells-replacing_children x new p i t =
    let old = children_of p.trees x in
    let node = λ (y : NodeName). new_text_node y (Some (document_below p.trees x)) new in
    tells-replaced old (not (is_empty old && is_empty new)) (replaced-by x node p i t (is_empty new)) (made_told node (is_empty new)) (children-there p x)
  where
    made_told : (node : NodeName → Node) (b : Bool) → TellsIn p (map (λ y. make (node y)) (if b then [] else next_name p ∷ []))
    made_told node true = tt
    made_told node false = (tt, tt)

-- text content
pub tells-setting_text : (x : NodeName) (new : DomString) (p : Part) → IsPart p → HasNode p x → TellsIn p (setting_text x new p)
tells-setting_text x new p i t =
    either_way (TellsIn p) (has_data (kind_of p.trees x)) (replacing_all_data x new p)
    (if is_document (kind_of p.trees x) then [] else replacing_children x new p) (tells-replacing_data x 0 (length_of p.trees x) new p t)
    (either_way (TellsIn p) (is_document (kind_of p.trees x)) [] (replacing_children x new p) tt (tells-replacing_children x new p i t))

-- Extractions. A new node below another one.
tells-making_below : (into : NodeName) (n : Node) (p : Part) → n.name ≡ next_name p → IsPart p → HasNode p into → TellsIn p (making_below into n p)
tells-making_below into n p e i t =
    let q = part_step p (make n) in
    let c = (leads-one p (make n) i tt).changed in
    (tt, tells-inserting observed None c.part (subst (MayGo into q) (sym e) (new-may p n into i t)) tt)

-- pieces that are taken into a newer node
tells-taking : {count : ℕ} (pieces : Pieces) {into : NodeName} {p : Part} → CanTake count pieces into p → TellsIn p (taking into pieces p)
tells-taking nothing t = tt
tells-taking (whole x rest) {into} {p} t =
    let i = t.part in
    let o = t.old in
    let may = old-may into i o.0 t.there t.new in
    tells-plan (insert_plan observed x into None) (taking into rest) (leads-inserting observed x into None i may)
    (tells-inserting observed None i may tt) (λ q c. tells-taking rest (take-still rest t o.1 c))
tells-taking (cut x from to rest) {into} {p} t =
    let i = t.part in
    let o = t.old in
    let n = clone_part (next_name p) from to (node_in p.trees x) in
    let below = leads-making_below into n p refl i t.there in
    tells-plan (making_below into n and_then replacing_data x from (to - from) []) (taking into rest)
    (leads-plan (Some into) (making_below into n) (replacing_data x from (to - from) []) p below
    (λ q c. leads-eased (Some into) q (replacing_data x from (to - from) [] q) (leads-replacing_data x from (to - from) [] q c.part)))
    (tells-plan (making_below into n) (replacing_data x from (to - from) []) below (tells-making_below into n p refl i t.there)
    (λ q c. tells-replacing_data x from (to - from) [] q (still c x o.0.there)))
    (λ q c. tells-taking rest (take-still rest t o.1 c))
tells-taking (clone x inner rest) {into} {p} t =
    let i = t.part in
    let o = t.old in
    let new = next_name p in
    let n = with_name new (node_in p.trees x) in
    let one = making_below into n p in
    let l = leads-making_below into n p refl i t.there in
    let q = after p one in
    let two = taking new inner q in
    let first = leads-one p (make n) i tt in
    let there : HasNode q new = still (leads-inserting observed n.name into None first.changed.part
    (new-may p n into i t.there)).changed new (new-there p n) in
    let below = take-below inner t o.1 l.changed there in
    let lq = leads-taking inner below in
    let both : Changed (Some into) p (after p (one ++ two)) =
    subst (Changed (Some into) p) (sym (after-append p one two))
    (changed-inner (next-absent p i) l.changed lq.changed) in
    let r = after p (one ++ two) in
    tells-append p (one ++ two) (taking into rest r)
    (tells-append p one two (tells-making_below into n p refl i t.there) (tells-taking inner below)) (tells-taking rest (take-still rest t o.2 both))

-- an extraction
pub tells-extracting : (k : ℕ) (range : Range NodeName) (p : Part) → IsPart p → HasNode p range.start.node → TellsIn p (extracting k range p)
tells-extracting k range p i t =
    let into = next_name p in
    let fragment = new_fragment_node into (own_document p.trees range.start.node) in
    let q = part_step p (make fragment) in
    let c = (leads-one p (make fragment) i tt).changed in
    let pieces = pieces_of p.trees range in
    let old = whole-then (HasNode p) (OldIn p.node_count q)
    (λ x h. let o = old-there p i x h in record { there = still c x o.there; alone = λ z g. c.apart x z o.there tt (o.alone z g) }) pieces
    (pieces-there p range t) in
    let le : p.node_count ≤ into.number = omega arith in
    tells-append p (make fragment ∷ taking into pieces q) (set_range k (both_at (new_place p.trees range)) ∷ [])
    (tt, tells-taking pieces (record { part = c.part; counted = c.count; new = le; there = new-there p fragment; old = old })) (tt, tt)

-- Deletions. The data at an end.
tells-cutting : (ts : Trees) (range : Range NodeName) (x : NodeName) (p : Part) → HasNode p x → TellsIn p (cutting_data ts range x p)
tells-cutting ts range x p t = from (has_data (kind_of ts x))
  where
    from : (b : Bool) → TellsIn p ((if b then replacing_data x (cut_start range x) (cut_end ts range x - cut_start range x) [] else steps_of []) p)
    from true = tells-replacing_data x (cut_start range x) (cut_end ts range x - cut_start range x) [] p t
    from false = tt

-- the contents of a range
tells-contents : (ts : Trees) (range : Range NodeName) (p : Part) → IsPart p → HasNode p range.start.node → HasNode p range.end.node →
    TellsIn p (deleting_contents ts range p)
tells-contents ts range p i t u = from (is_in_one_data ts range)
  where
    from : (b : Bool) → TellsIn p ((if b then cutting_data ts range range.start.node else
        (cutting_data ts range range.start.node and_then in_turn (remove_plan observed) (outermost_contained ts range) and_then cutting_data ts range
        range.end.node)) p)
    from true = tells-cutting ts range range.start.node p t
    from false =
        let one = cutting_data ts range range.start.node in
        let two = in_turn (remove_plan observed) (outermost_contained ts range) in
        let l = leads-cutting ts range range.start.node p i in
        tells-plan (one and_then two) (cutting_data ts range range.end.node)
        (leads-plan None one two p l (λ q c. leads-removals observed (outermost_contained ts range) q c.part))
        (tells-plan one two l (tells-cutting ts range range.start.node p t)
        (λ q c. tells-removals observed (outermost_contained ts range) q c.part))
        (λ q c. tells-cutting ts range range.end.node q (still c range.end.node u))

-- a deletion
pub tells-deleting : (k : ℕ) (range : Range NodeName) (p : Part) → IsPart p → HasNode p range.start.node → HasNode p range.end.node →
    TellsIn p (deleting k range p)
tells-deleting k range p i t u =
    let last = set_range k (both_at (new_place p.trees range)) in
    either_way (TellsIn p) (is_collapsed name_eq range) [] ((deleting_contents p.trees range and_then doing last) p) tt
    (tells-append p (deleting_contents p.trees range p) (last ∷ []) (tells-contents p.trees range p i t u) (tt, tt))

-- Insertions into a range. A collapsed range that gets its end.
tells-ending_at : (k : ℕ) (b : Boundary NodeName) (p : Part) → TellsIn p (ending_at k b p)
tells-ending_at k b p = from (range_at p k)
  where
    from : (a : Option (Range NodeName)) →
        TellsIn p (option_map_or (λ (q : Range NodeName). if is_collapsed name_eq q then set_range k (from_to q.start b) ∷ [] else []) a [])
    from None = tt
    from (Some q) = either_way (TellsIn p) (is_collapsed name_eq q) (set_range k (from_to q.start b) ∷ []) [] (tt, tt) tt

-- a node before a reference
tells-inserting_before : {node parent : NodeName} {p : Part} (k : ℕ) (reference : Option NodeName) → IsPart p → MayGo parent p node →
    IfSome (HasNode p) reference → TellsIn p (inserting_before k node parent reference p)
tells-inserting_before {node} {parent} {p} k reference i m r =
    let ts = p.trees in
    let end = at parent (option_map_or (index_of ts) reference (length_of ts parent) + (if is_fragment (kind_of ts node) then length_of ts node else 1)) in
    let steps = pre_insert_plan node parent reference p in
    tells-append p steps (ending_at k end (after p steps))
    (tells-inserting observed (reference_child ts node reference) i m (reference-there p node reference m.there r))
    (tells-ending_at k end (after p steps))

-- that left its parent first
tells-inserting_at : {node parent : NodeName} {p : Part} (k : ℕ) (child : Option NodeName) → IsPart p → MayGo parent p node → IfSome (HasNode p) child →
    TellsIn p (inserting_at k node parent child p)
tells-inserting_at {node} {parent} {p} k child i m r =
    let steps = remove_plan observed node p in
    let q = after p steps in
    let l = leads-eased (Some parent) p steps (leads-removing observed node p i) in
    let reference = reference_child p.trees node child in
    tells-append p steps (inserting_before k node parent reference q) (tells-removing observed node p i)
    (tells-inserting_before k reference l.changed.part (may-still parent p q node l.changed m)
    (still-if l.changed reference (reference-there p node child m.there r)))

-- an insertion into a range
pub tells-inserting_into_range : {node : NodeName} {p : Part} (k : ℕ) (range : Range NodeName) → IsPart p → HasNode p range.start.node →
    MayGo (insertion_parent p.trees range) p node → TellsIn p (inserting_into_range k range node p)
tells-inserting_into_range {node} {p} k range i t m =
    let start = range.start.node in
    let parent = insertion_parent p.trees range in
    let steps = splitting start range.start.offset p in
    let q = after p steps in
    let told = tells-splitting start range.start.offset p i t in
    let at_offset = slice_get (children_of p.trees start) range.start.offset in
    which_way (TellsIn p) (is_text (kind_of p.trees start))
    ((splitting start range.start.offset and_then inserting_at k node parent (Some (next_name p))) p)
    (inserting_at k node parent (start_reference p.trees range) p)
    (λ e. let same : parent ≡ unwrap_or (parent_of p.trees start) start = ap
    (λ (o : Option NodeName). unwrap_or (option_and_then (parent_of p.trees) o) start)
    (cond-true (is_text (kind_of p.trees start)) (Some start) at_offset e) in
    let c : Changed (Some parent) p q = subst (λ x. Changed (Some x) p q) (sym same)
    (some-spot (parent_of p.trees start) start (leads-splitting start range.start.offset p i).changed) in
    tells-append p steps (inserting_at k node parent (Some (next_name p)) q) told.0
    (tells-inserting_at k (Some (next_name p)) c.part (may-still parent p q node c m) told.1))
    (λ e. tells-inserting_at k (start_reference p.trees range) i m
    (either_way (IfSome (HasNode p)) (is_text (kind_of p.trees start)) (Some start) at_offset t
    (all-get (HasNode p) (children_of p.trees start) range.start.offset (children-there p start))))
  where
    some-spot : (o : Option NodeName) (x : NodeName) {q : Part} → Changed o p q → Changed (Some (unwrap_or o x)) p q
    some-spot None x {q = q} c = changed-eased (Some x) p q c
    some-spot (Some y) x c = c
