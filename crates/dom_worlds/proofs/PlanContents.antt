-- The steps of the plans of extractions, deletions and insertions into ranges fit where they are made.
use Rattle.dom_base.proofs.Std.{◌≡◌, ◌≤◌, ℕ, ◌+◌, ◌-◌, Bool, true, false, not, List, [], ◌∷◌, ◌++◌, filter, Option, Some, None, unwrap_or, refl, sym, ap, ◌∙◌}
use Rattle.dom_base.proofs.Std.{arith, subst, if◌then◌else◌, slice_get, option_map_or, option_and_then, cond-true, cond-false}
use Rattle.dom_model.proofs.Model.{NodeName, name_eq, last_of, Trees, Node, node_in, kind_of, is_text, is_fragment, has_data, subtree, children_of, parent_of}
use Rattle.dom_model.proofs.Model.{root_of, index_of, times_in, length_of, inclusive_ancestors, is_inclusive_ancestor, with_name, Part, next_name, range_at}
use Rattle.dom_model.proofs.Model.{Boundary, Range, at, from_to, is_collapsed, Step, make, set_range, part_step, after, ◌and_then◌, in_turn, doing, steps_of}
use Rattle.dom_model.proofs.Model.{observed, remove_plan, insert_plan, reference_child, pre_insert_plan, replacing_data, splitting, Pieces, whole, cut, clone}
use Rattle.dom_model.proofs.Model.{cut_start, cut_end, pieces_of, common_ancestor, is_in_one_data, clone_part, making_below, taking, new_fragment_node}
use Rattle.dom_model.proofs.Model.{own_document, new_place, behind_node, both_at, extracting, cutting_data, outermost_contained, deleting_contents, deleting}
use Rattle.dom_model.proofs.Model.{insertion_parent, start_reference, ending_at, inserting_before, inserting_at, inserting_into_range}
use Rattle.dom_model.specs.Extract.{nothing}
use Rattle.dom_worlds.specs.Definitions.{IsPart, EndsIn, HasTables}
use Rattle.dom_worlds.proofs.Lists.{all-filter, by_cases, either_way, at-each, by_some_is}
use Rattle.dom_laws.proofs.Laws.{by_times, times_subtree}
use Rattle.dom_worlds.proofs.Trees.{ancestors-there}
use Rattle.dom_worlds.proofs.TreeChangeLaws.{times-below, nodes-named}
use Rattle.dom_worlds.proofs.PartSteps.{next-absent}
use Rattle.dom_worlds.proofs.KindLines.{has_node-times}
use Rattle.dom_worlds.proofs.Plans.{AllWhole}
use Rattle.dom_worlds.proofs.ShadowRoots.{fit-then, common_below, whole-pieces}
use Rattle.dom_worlds.proofs.TableSteps.{HasNode}
use Rattle.dom_worlds.proofs.TableRecords.{IfSome, last-all, all-get}
use Rattle.dom_worlds.proofs.Insides.{inside, inside-times}
use Rattle.dom_worlds.proofs.InsideAncestors.{parent-there}
use Rattle.dom_worlds.proofs.PlanPlaces.{Changed, Leads, MayGo, may-still, still, after-append, made-append, leads-then, leads-eased, leads-nothing, leads-one}
use Rattle.dom_worlds.proofs.PlanPlaces.{leads-if, leads-removing, leads-inserting}
use Rattle.dom_worlds.proofs.PlanChildren.{IsChild, child-parent}
use Rattle.dom_worlds.proofs.PlanRoots.{IsStart, SparesAll, starts-after, spares-removing, spares-inserting, spares-splitting}
use Rattle.dom_worlds.proofs.Roots.{root-parent_of}
use Rattle.dom_worlds.proofs.ChildPairs.{children-childs}
use Rattle.dom_worlds.proofs.PlanTexts.{leads-plan, leads-replacing_data, new-there, new-may, leads-splitting, leads-removals}

-- Extraction. A node from before, in whose tree no newer node stands.
pub record OldIn (count : ℕ) (p : Part) (x : NodeName) : Type 0 where
  pub there : HasNode p x
  pub alone : (z : NodeName) → count ≤ z.number → inside p.trees x z ≡ 0

-- below a newer node it may go
pub old-may : {count : ℕ} {p : Part} {x : NodeName} (into : NodeName) → IsPart p → OldIn count p x → HasNode p into → count ≤ into.number → MayGo into p x
old-may {x = x} into i o t c = record { there = o.there; owner = i.owned x o.there; below = t; apart = o.alone into c }

-- it stays such where others are placed below a newer node
pub old-still : {p q : Part} (count : ℕ) (into : NodeName) → count ≤ into.number → Changed (Some into) p q → (x : NodeName) → OldIn count p x → OldIn count q x
old-still count into h c x o = record { there = still c x o.there; alone = λ z k. c.apart x z o.there (o.alone into h) (o.alone z k) }

-- of all pieces
pub whole-then : (P Q : NodeName → Type 0) → ((x : NodeName) → P x → Q x) → (pieces : Pieces) → AllWhole P pieces → AllWhole Q pieces
whole-then P Q f pieces h = fit-then P f f f pieces h

-- what is placed below a new node that itself went below another one
pub changed-inner : {into new : NodeName} {p q r : Part} → times_in p.trees new ≡ 0 → Changed (Some into) p q → Changed (Some new) q r → Changed (Some into) p r
changed-inner {new} {p} absent c d =
    record {
      owner = d.owner ∙ c.owner;
      part = d.part;
      count = let a = c.count in let b = d.count in omega arith;
      there = λ y. let a = c.there y in let b = d.there y in omega arith;
      apart = λ a z t h k. d.apart a z (still c a t) (c.apart a new t h (let b = inside-times p.trees a new in omega arith)) (c.apart a z t h k);
      kinds = λ y t. d.kinds y (still c y t) ∙ c.kinds y t;
    }

-- a new node below another one
pub leads-making_below : (into : NodeName) (n : Node) (p : Part) → n.name ≡ next_name p → IsPart p → HasNode p into →
    Leads (Some into) p (making_below into n p)
leads-making_below into n p e i t =
    let spot = Some into in
    let first = leads-one p (make n) i tt in
    leads-then spot p (make n ∷ []) (insert_plan observed n.name into None (part_step p (make n))) (leads-eased spot p (make n ∷ []) first)
    (leads-inserting observed n.name into None first.changed.part
    (subst (MayGo into (part_step p (make n))) (sym e) (new-may p n into i t)))

-- A node that may take pieces of old nodes, which are those with numbers below the count: it is there, and is no old one.
pub record CanTake (count : ℕ) (pieces : Pieces) (into : NodeName) (p : Part) : Type 0 where
  pub part : IsPart p
  pub counted : count ≤ p.node_count
  pub new : count ≤ into.number
  pub there : HasNode p into
  pub old : AllWhole (OldIn count p) pieces

-- it may take others of them after steps that put nodes below it
pub take-still : {count : ℕ} {pieces : Pieces} {into : NodeName} {p q : Part} (rest : Pieces) → CanTake count pieces into p → AllWhole (OldIn count p) rest →
    Changed (Some into) p q → CanTake count rest into q
take-still {count} {into} {p} {q} rest t old c =
    record {
      part = c.part;
      counted = let a = c.count in let k = t.counted in omega arith;
      new = t.new;
      there = still c into t.there;
      old = whole-then (OldIn count p) (OldIn count q) (old-still count into t.new c) rest old;
    }

-- a node that is made below it may take the old ones too
pub take-below : {count : ℕ} {pieces : Pieces} {into : NodeName} {p q : Part} (inner : Pieces) → CanTake count pieces into p → AllWhole (OldIn count p) inner →
    Changed (Some into) p q → HasNode q (next_name p) → CanTake count inner (next_name p) q
take-below inner t old c made =
    let s = take-still inner t old c in record { part = s.part; counted = s.counted; new = t.counted; there = made; old = s.old }

-- pieces that are taken into a newer node
pub leads-taking : {count : ℕ} (pieces : Pieces) {into : NodeName} {p : Part} → CanTake count pieces into p → Leads (Some into) p (taking into pieces p)
leads-taking nothing {into} {p} t = leads-nothing (Some into) p t.part
leads-taking (whole x rest) {into} {p} t =
    let o = t.old in
    leads-plan (Some into) (insert_plan observed x into None) (taking into rest) p
    (leads-inserting observed x into None t.part (old-may into t.part o.0 t.there t.new))
    (λ q c. leads-taking rest (take-still rest t o.1 c))
leads-taking (cut x from to rest) {into} {p} t =
    let o = t.old in
    let n = clone_part (next_name p) from to (node_in p.trees x) in
    leads-plan (Some into) (making_below into n and_then replacing_data x from (to - from) []) (taking into rest) p
    (leads-plan (Some into) (making_below into n) (replacing_data x from (to - from) []) p (leads-making_below into n p refl t.part t.there)
    (λ q c. leads-eased (Some into) q (replacing_data x from (to - from) [] q) (leads-replacing_data x from (to - from) [] q c.part)))
    (λ q c. leads-taking rest (take-still rest t o.1 c))
leads-taking (clone x inner rest) {into} {p} t =
    let o = t.old in
    let i = t.part in
    let new = next_name p in
    let n = with_name new (node_in p.trees x) in
    let one = making_below into n p in
    let a = leads-making_below into n p refl i t.there in
    let q = after p one in
    let b = leads-taking inner (take-below inner t o.1 a.changed new-made) in
    let both = leads-both (next-absent p i) a b in
    let two = taking new inner q in
    let r = after p (one ++ two) in
    leads-then (Some into) p (one ++ two) (taking into rest r) both (leads-taking rest (take-still rest t o.2 both.changed))
  where
    new-made : HasNode (after p (making_below into (with_name (next_name p) (node_in p.trees x)) p)) (next_name p)
    new-made =
        let n = with_name (next_name p) (node_in p.trees x) in
        let first = leads-one p (make n) t.part tt in
        still (leads-inserting observed n.name into None first.changed.part (new-may p n into t.part t.there)).changed (next_name p)
        (new-there p n)

    leads-both : {into new : NodeName} {p : Part} {one two : List Step} → times_in p.trees new ≡ 0 → Leads (Some into) p one →
        Leads (Some new) (after p one) two → Leads (Some into) p (one ++ two)
    leads-both {into} {new} {p} {one} {two} absent a b =
        record {
          made = made-append p one two a.made b.made;
          changed = subst (Changed (Some into) p) (sym (after-append p one two))
              (changed-inner absent a.changed b.changed);
        }

-- nodes that are there are old
pub old-there : (p : Part) → IsPart p → (x : NodeName) → HasNode p x → OldIn p.node_count p x
old-there p i x t =
    record {
      there = t;
      alone = λ z h. let a = inside-times p.trees x z in by_times (times_in p.trees z) (λ e. omega arith)
          (λ e. absurd (let b = i.numbered z e in omega arith));
    }

-- the pieces of a range
pub pieces-there : (p : Part) (range : Range NodeName) → HasNode p range.start.node → AllWhole (HasNode p) (pieces_of p.trees range)
pieces-there p range t =
    let ts = p.trees in
    let top = subtree ts (common_ancestor ts range) in
    whole-pieces (HasNode p) ts range (λ e. t)
    (nodes-named (HasNode p) (common_below ts range)
    (λ y h. let a = times-below top y in let b = times_subtree ts (common_ancestor ts range) y in omega arith))

-- a node, or another one
or-there : (p : Part) (o : Option NodeName) (x : NodeName) → IfSome (HasNode p) o → HasNode p x → HasNode p (unwrap_or o x)
or-there p None x h g = g
or-there p (Some y) x h g = h

-- a parent, if there is one
pub parent-if : (p : Part) (x : NodeName) → IfSome (HasNode p) (parent_of p.trees x)
parent-if p x = by_some_is (λ (o : Option NodeName). IfSome (HasNode p) o) (parent_of p.trees x) (λ e. tt) (λ y e. parent-there p.trees x y e)

-- where a range stands afterwards
pub place-there : (p : Part) (range : Range NodeName) → HasNode p range.start.node → HasNode p (new_place p.trees range).node
place-there p range t =
    let ts = p.trees in
    let above = filter (λ a. not (is_inclusive_ancestor ts a range.end.node)) (inclusive_ancestors ts range.start.node) in
    let x = unwrap_or (last_of above) range.start.node in
    let there : HasNode p x = or-there p (last_of above) range.start.node
    (last-all (HasNode p) above (all-filter (HasNode p) (λ a. not (is_inclusive_ancestor ts a range.end.node))
    (inclusive_ancestors ts range.start.node) (ancestors-there ts range.start.node))) t in
    either_way (λ (b : Boundary NodeName). HasNode p b.node) (is_inclusive_ancestor ts range.start.node range.end.node) range.start
    (behind_node ts x) t (or-there p (parent_of ts x) x (parent-if p x) there)

-- an extraction
pub leads-extracting : (k : ℕ) (range : Range NodeName) (p : Part) → IsPart p → HasNode p range.start.node → Leads (Some (next_name p)) p (extracting k range p)
leads-extracting k range p i t =
    let into = next_name p in
    let spot = Some into in
    let fragment = new_fragment_node into (own_document p.trees range.start.node) in
    let last = set_range k (both_at (new_place p.trees range)) in
    let first = leads-one p (make fragment) i tt in
    let q = part_step p (make fragment) in
    let le : p.node_count ≤ into.number = omega arith in
    leads-plan spot (doing (make fragment) and_then taking into (pieces_of p.trees range)) (doing last) p
    (leads-then spot p (make fragment ∷ []) (taking into (pieces_of p.trees range) q) (leads-eased spot p (make fragment ∷ []) first)
    (leads-taking (pieces_of p.trees range)
    (record {
      part = first.changed.part;
      counted = first.changed.count;
      new = le;
      there = new-there p fragment;
      old = whole-then (HasNode p) (OldIn p.node_count q) (λ x h. old-eased p q first.changed x (old-there p i x h)) (pieces_of p.trees range)
          (pieces-there p range t);
    })))
    (λ r c. let there = still c (new_place p.trees range).node (place-there p range t) in leads-eased spot r (last ∷ [])
    (leads-one r last c.part (there, there, refl)))
  where
    old-eased : (p q : Part) → Changed None p q → (x : NodeName) → OldIn p.node_count p x → OldIn p.node_count q x
    old-eased p q c x o = record { there = still c x o.there; alone = λ z h. c.apart x z o.there tt (o.alone z h) }

-- Deletion.
pub leads-cutting : (ts : Trees) (range : Range NodeName) (x : NodeName) (p : Part) → IsPart p → Leads None p (cutting_data ts range x p)
leads-cutting ts range x p i = from (has_data (kind_of ts x))
  where
    from : (b : Bool) → Leads None p ((if b then replacing_data x (cut_start range x) (cut_end ts range x - cut_start range x) [] else steps_of []) p)
    from true = leads-replacing_data x (cut_start range x) (cut_end ts range x - cut_start range x) [] p i
    from false = leads-nothing None p i

-- the contents of a range
pub leads-contents : (ts : Trees) (range : Range NodeName) (p : Part) → IsPart p → Leads None p (deleting_contents ts range p)
leads-contents ts range p i = from (is_in_one_data ts range)
  where
    from : (b : Bool) → Leads None p ((if b then cutting_data ts range range.start.node else
        (cutting_data ts range range.start.node and_then in_turn (remove_plan observed) (outermost_contained ts range) and_then cutting_data ts range
        range.end.node)) p)
    from true = leads-cutting ts range range.start.node p i
    from false =
        leads-plan None (cutting_data ts range range.start.node and_then in_turn (remove_plan observed) (outermost_contained ts range))
        (cutting_data ts range range.end.node) p
        (leads-plan None (cutting_data ts range range.start.node) (in_turn (remove_plan observed) (outermost_contained ts range)) p
        (leads-cutting ts range range.start.node p i) (λ q c. leads-removals observed (outermost_contained ts range) q c.part))
        (λ q c. leads-cutting ts range range.end.node q c.part)

-- a deletion
pub leads-deleting : (k : ℕ) (range : Range NodeName) (p : Part) → IsPart p → HasNode p range.start.node → Leads None p (deleting k range p)
leads-deleting k range p i t =
    let last = set_range k (both_at (new_place p.trees range)) in
    leads-if (is_collapsed name_eq range) (leads-nothing None p i)
    (leads-plan None (deleting_contents p.trees range) (doing last) p (leads-contents p.trees range p i)
    (λ q c. let there = still c (new_place p.trees range).node (place-there p range t) in leads-one q last c.part (there, there, refl)))

-- Insertion into a range: its ends are there in the part in which it is looked up.
pub range-ends : (p : Part) (k : ℕ) → HasTables p → (range : Range NodeName) → range_at p k ≡ Some range → HasNode p range.start.node × HasNode p range.end.node
range-ends p k h range e =
    let ends : EndsIn p.trees (Some range) = subst (EndsIn p.trees) e (at-each (EndsIn p.trees) tt p.ranges k h.ranges) in
    (has_node-times p.trees range.start.node ends.start, has_node-times p.trees range.end.node ends.end)

-- a collapsed range that gets its end
leads-ending_at : {p : Part} (k : ℕ) (b : Boundary NodeName) → IsStart k b.node p → Leads None p (ending_at k b p)
leads-ending_at {p} k b s = from (range_at p k) refl s.starts
  where
    from : (a : Option (Range NodeName)) → range_at p k ≡ a →
        IfSome (λ (r : Range NodeName). root_of p.trees r.start.node ≡ root_of p.trees b.node) a →
        Leads None p (option_map_or (λ (q : Range NodeName). if is_collapsed name_eq q then set_range k (from_to q.start b) ∷ [] else []) a [])
    from None e g = leads-nothing None p s.part
    from (Some q) e g = leads-if (is_collapsed name_eq q)
        (leads-one p (set_range k (from_to q.start b)) s.part ((range-ends p k s.tables q e).0, s.there, g)) (leads-nothing None p s.part)

-- a node before the reference
leads-inserting_before : {node parent : NodeName} {p : Part} (k : ℕ) (reference : Option NodeName) → IsStart k parent p → MayGo parent p node →
    Leads (Some parent) p (inserting_before k node parent reference p)
leads-inserting_before {node} {parent} {p} k reference s m =
    let i = s.part in
    let ts = p.trees in
    let end = at parent (option_map_or (index_of ts) reference (length_of ts parent) + (if is_fragment (kind_of ts node) then length_of ts node else 1)) in
    let first = leads-inserting observed node parent (reference_child ts node reference) i m in
    let q = after p (pre_insert_plan node parent reference p) in
    leads-then (Some parent) p (pre_insert_plan node parent reference p) (ending_at k end q) first
    (leads-eased (Some parent) q (ending_at k end q)
    (leads-ending_at k end
    (starts-after (pre_insert_plan node parent reference p) first.made (spares-inserting observed (reference_child ts node reference) i m) s)))

-- a node that left its parent first
leads-inserting_at : {node parent : NodeName} {p : Part} (k : ℕ) (child : Option NodeName) → IsStart k parent p → MayGo parent p node →
    Leads (Some parent) p (inserting_at k node parent child p)
leads-inserting_at {node} {parent} {p} k child s m =
    let spot = Some parent in
    let first = leads-eased spot p (remove_plan observed node p) (leads-removing observed node p s.part) in
    let q = after p (remove_plan observed node p) in
    leads-then spot p (remove_plan observed node p) (inserting_before k node parent (reference_child p.trees node child) q) first
    (leads-inserting_before k (reference_child p.trees node child)
    (starts-after (remove_plan observed node p) first.made (spares-removing parent observed node p m.apart) s)
    (may-still parent p q node first.changed m))

-- the parent of an insertion into a range has the root of its start
parent-root : (p : Part) (range : Range NodeName) → IsPart p → root_of p.trees (insertion_parent p.trees range) ≡ root_of p.trees range.start.node
parent-root p range i =
    let start = range.start.node in
    let listed = all-get (λ x. IsChild x start p) (children_of p.trees start) range.start.offset (children-childs p.trees start) in
    either_way (λ o. IfSome (λ x. root_of p.trees x ≡ root_of p.trees start) o →
    root_of p.trees (unwrap_or (option_and_then (parent_of p.trees) o) start) ≡ root_of p.trees start) (is_text (kind_of p.trees start))
    (Some start) (slice_get (children_of p.trees start) range.start.offset)
    (above (Some start)) (above (slice_get (children_of p.trees start) range.start.offset))
    (either_way (IfSome (λ x. root_of p.trees x ≡ root_of p.trees start)) (is_text (kind_of p.trees start)) (Some start)
    (slice_get (children_of p.trees start) range.start.offset) refl
    (if-child (slice_get (children_of p.trees start) range.start.offset) listed))
  where
    if-child : (o : Option NodeName) → IfSome (λ x. IsChild x range.start.node p) o → IfSome (λ x. root_of p.trees x ≡ root_of p.trees range.start.node) o
    if-child None h = tt
    if-child (Some x) h = sym (root-parent_of p.trees i.unique x range.start.node (child-parent p x range.start.node i h))

    above : (o : Option NodeName) → IfSome (λ x. root_of p.trees x ≡ root_of p.trees range.start.node) o →
        root_of p.trees (unwrap_or (option_and_then (parent_of p.trees) o) range.start.node) ≡ root_of p.trees range.start.node
    above None h = refl
    above (Some x) h = up (parent_of p.trees x) refl
      where
        up : (o : Option NodeName) → parent_of p.trees x ≡ o → root_of p.trees (unwrap_or o range.start.node) ≡ root_of p.trees range.start.node
        up None e = refl
        up (Some y) e = root-parent_of p.trees i.unique x y e ∙ h

-- an insertion into a range
pub leads-inserting_into_range : {range : Range NodeName} {p : Part} (k : ℕ) (node : NodeName) → IsPart p → HasTables p →
    range_at p k ≡ Some range → MayGo (insertion_parent p.trees range) p node →
    Leads (Some (insertion_parent p.trees range)) p (inserting_into_range k range node p)
leads-inserting_into_range {range} {p} k node i h at_k m =
    let starts : IsStart k (insertion_parent p.trees range) p = record {
      part = i;
      tables = h;
      there = m.below;
      starts = subst (IfSome (λ (r : Range NodeName). root_of p.trees r.start.node ≡ root_of p.trees (insertion_parent p.trees range))) (sym at_k)
          (sym (parent-root p range i));
    } in
    let start = range.start.node in
    let parent = insertion_parent p.trees range in
    let spot = Some parent in
    let new = Some (next_name p) in
    let split = (splitting start range.start.offset and_then inserting_at k node parent new) p in
    let plain = inserting_at k node parent (start_reference p.trees range) p in
    by_cases (is_text (kind_of p.trees start))
    (λ e. subst (Leads spot p) (sym (cond-true (is_text (kind_of p.trees start)) split plain e))
    (let same : parent ≡ unwrap_or (parent_of p.trees start) start = ap
    (λ (o : Option NodeName). unwrap_or (option_and_then (parent_of p.trees) o) start)
    (cond-true (is_text (kind_of p.trees start)) (Some start) (slice_get (children_of p.trees start) range.start.offset) e) in
    let first : Leads spot p (splitting start range.start.offset p) =
    subst (λ x. Leads (Some x) p (splitting start range.start.offset p)) (sym same)
    (some-spot (parent_of p.trees start) start p (splitting start range.start.offset p) (leads-splitting start range.start.offset p i)) in
    let q = after p (splitting start range.start.offset p) in
    leads-then spot p (splitting start range.start.offset p) (inserting_at k node parent new q) first
    (leads-inserting_at k new
    (starts-after (splitting start range.start.offset p) first.made
    (subst (λ x. SparesAll x p (splitting start range.start.offset p)) (sym same) (spares-splitting start range.start.offset p i)) starts)
    (may-still parent p q node first.changed m))))
    (λ e. subst (Leads spot p) (sym (cond-false (is_text (kind_of p.trees start)) split plain e))
    (leads-inserting_at k (start_reference p.trees range) starts m))
  where
    some-spot : (o : Option NodeName) (x : NodeName) (p : Part) (steps : List Step) → Leads o p steps → Leads (Some (unwrap_or o x)) p steps
    some-spot None x p steps a = leads-eased (Some x) p steps a
    some-spot (Some y) x p steps a = a
