-- The steps of the plans of replacements, data, text and ranges fit where they are made.
use Rattle.dom_base.proofs.Std.{◌≡◌, ◌≤◌, ℕ, ◌+◌, ◌-◌, Bool, true, false, not, ◌&&◌, List, [], ◌∷◌, ◌++◌, map, filter, flat_map, drop, length, Option, Some}
use Rattle.dom_base.proofs.Std.{None, refl, sym, ap, ◌∙◌, arith, subst, if◌then◌else◌, ⊤, ◌==◌, min, AllByRecursion, option_map_or}
use Rattle.dom_model.proofs.Model.{NodeName, Word, DomString, name_eq, is_empty, items_after, Trees, none, Node, node_in, kind_of, is_text, is_document}
use Rattle.dom_model.proofs.Model.{is_fragment, has_data, subtree, children_of, parent_of, times_in, root_of, siblings, previous_sibling, next_sibling}
use Rattle.dom_model.proofs.Model.{index_of, length_of, attribute_value, descendants, inclusive_descendants, nodes, with_name, child_list, attributes}
use Rattle.dom_model.proofs.Model.{character_data, Part, next_name, Step, make, set_attribute, replace_data, split_at, join_at, queue_record, part_step, after}
use Rattle.dom_model.proofs.Model.{Plan, ◌and_then◌, in_turn, doing, steps_of, only_if, Observing, observed, suppressed, remove_plan, document_below}
use Rattle.dom_model.proofs.Model.{placed_nodes, insert_plan, reference_child, replace_plan, setting_attribute, unsetting_attribute, replacing_data}
use Rattle.dom_model.proofs.Model.{new_text_node, replacing_all_data, placing_tail, splitting, contiguous_texts_after, joins, joining, normalizing_text}
use Rattle.dom_model.proofs.Model.{normalizing, replacing_children, setting_text, name_eq-same, name_eq-true}
use Rattle.dom_worlds.specs.Definitions.{IsPart}
use Rattle.dom_worlds.proofs.ChildPairs.{children-childs}
use Rattle.dom_worlds.proofs.Lists.{all-dropped, all-then, all-from, all-map, all-filter, all-take_while, by_cases}
use Rattle.dom_worlds.proofs.Roots.{node-new, root-parent_of}
use Rattle.dom_worlds.proofs.PlanChildren.{IsOtherChild, IsChild, parent-child, child-parent, child-make, child-inserting, child-inserted, child-replacing_data}
use Rattle.dom_worlds.proofs.TableRecords.{after-all}
use Rattle.dom_laws.proofs.Laws.{times-here, times_subtree}
use Rattle.dom_worlds.proofs.Trees.{nodes-there}
use Rattle.dom_worlds.proofs.TreeChangeLaws.{times-with_node}
use Rattle.dom_worlds.proofs.PartSteps.{next-absent}
use Rattle.dom_worlds.proofs.TableSteps.{HasNode}
use Rattle.dom_worlds.proofs.Insides.{inside-new}
use Rattle.dom_worlds.proofs.InsideAncestors.{parent-there, child-there}
use Rattle.dom_worlds.proofs.PlanPlaces.{Changed, Leads, MayGo, may-still, still, after-append, leads-then, leads-eased, leads-nothing, leads-one, LeadsEach}
use Rattle.dom_worlds.proofs.PlanPlaces.{leads-each, removing-each, inserting-each, leads-if, leads-removing, leads-inserting}

-- One plan and then another in what it leaves.
pub leads-plan : (spot : Option NodeName) (f g : Plan) (p : Part) → Leads spot p (f p) → ((q : Part) → Changed spot p q → Leads spot q (g q)) →
    Leads spot p ((f and_then g) p)
leads-plan spot f g p a b = leads-then spot p (f p) (g (after p (f p))) a (b (after p (f p)) a.changed)

-- Replacements, attributes and data.
pub leads-replacing : (parent node child : NodeName) (p : Part) → IsPart p → MayGo parent p node → Leads (Some parent) p (replace_plan parent node child p)
leads-replacing parent node child p i m =
    let spot = Some parent in
    let reference = reference_child p.trees node (next_sibling p.trees child) in
    let told = queue_record (child_list parent (placed_nodes p.trees node) (child ∷ []) (previous_sibling p.trees child) reference) in
    leads-plan spot (remove_plan suppressed child and_then insert_plan suppressed node parent reference) (doing told) p
    (leads-plan spot (remove_plan suppressed child) (insert_plan suppressed node parent reference) p
    (leads-eased spot p (remove_plan suppressed child p) (leads-removing suppressed child p i))
    (λ q c. leads-inserting suppressed node parent reference c.part (may-still parent p q node c m)))
    (λ q c. leads-eased spot q (told ∷ []) (leads-one q told c.part tt))

-- two steps that place nothing
leads-two : (p : Part) (s t : Step) → Leads None p (s ∷ []) → Leads None (part_step p s) (t ∷ []) → Leads None p (s ∷ t ∷ [])
leads-two p s t a b = leads-then None p (s ∷ []) (t ∷ []) a b

-- an attribute
pub leads-setting_attribute : (x : NodeName) (a : Word) (v : DomString) (p : Part) → IsPart p → Leads None p (setting_attribute x a v p)
leads-setting_attribute x a v p i =
    let told = queue_record (attributes x a (attribute_value (node_in p.trees x) a)) in
    let first = leads-one p told i tt in
    leads-two p told (set_attribute x a (Some v)) first (leads-one (part_step p told) (set_attribute x a (Some v)) first.changed.part tt)

-- an attribute that goes
pub leads-unsetting_attribute : (x : NodeName) (a : Word) (p : Part) → IsPart p → Leads None p (unsetting_attribute x a p)
leads-unsetting_attribute x a p i = from (attribute_value (node_in p.trees x) a)
  where
    from : (v : Option DomString) → Leads None p (option_map_or (λ old. queue_record (attributes x a (Some old)) ∷ set_attribute x a None ∷ []) v [])
    from None = leads-nothing None p i
    from (Some old) =
        let told = queue_record (attributes x a (Some old)) in
        let first = leads-one p told i tt in
        leads-two p told (set_attribute x a None) first (leads-one (part_step p told) (set_attribute x a None) first.changed.part tt)

-- data
pub leads-replacing_data : (x : NodeName) (offset count : ℕ) (new : DomString) (p : Part) → IsPart p → Leads None p (replacing_data x offset count new p)
leads-replacing_data x offset count new p i =
    let old = (node_in p.trees x).text in
    let told = queue_record (character_data x (Some old)) in
    let change = replace_data x offset (min count (length old - offset)) new in
    let first = leads-one p told i tt in
    leads-two p told change first (leads-one (part_step p told) change first.changed.part tt)

-- New nodes.
pub new-there : (p : Part) (n : Node) → HasNode (part_step p (make n)) (next_name p)
new-there p n =
    let m = with_name (next_name p) n in
    let a = times-with_node m p.trees (next_name p) in let b = times-here m none none (next_name p) (name_eq-same (next_name p)) in omega arith

-- the next name is not that of a node that is there
pub next-not : (p : Part) → IsPart p → (x : NodeName) → HasNode p x → name_eq (next_name p) x ≡ false
next-not p i x t = by_cases (name_eq (next_name p) x)
    (λ e. absurd (let a = next-absent p i in let same = ap (times_in p.trees) (name_eq-true (next_name p) x e) in omega arith)) (λ e. e)

-- a new node may go below any other
pub new-may : (p : Part) (n : Node) (parent : NodeName) → IsPart p → HasNode p parent → MayGo parent (part_step p (make n)) (next_name p)
new-may p n parent i t =
    let c = (leads-one p (make n) i tt).changed in
    record {
      there = new-there p n;
      owner = refl;
      below = still c parent t;
      apart = inside-new (with_name (next_name p) n) p.trees parent (next-absent p i) (next-not p i parent t);
    }

-- Splits: the tail goes behind a Text that has a parent, and has its root then.
pub record MayFollow (x parent : NodeName) (q : Part) (new : NodeName) : Type 0 where
  pub may : MayGo parent q new
  pub plain : is_fragment (kind_of q.trees new) ≡ false
  pub others : IsOtherChild x parent new q

-- it does
follows : {x parent : NodeName} {q : Part} {new : NodeName} (before : Option NodeName) → IsPart q → MayFollow x parent q new →
    let r = after q (insert_plan observed new parent before q) in root_of r.trees new ≡ root_of r.trees x
follows {x} {parent} {q} {new} before i f =
    let put = leads-inserting observed new parent before i f.may in
    let r = after q (insert_plan observed new parent before q) in
    let u = put.changed.part.unique in
    let a = child-parent r new parent put.changed.part (child-inserted observed before i f.may f.plain) in
    let b = child-parent r x parent put.changed.part (child-inserting observed before i f.may f.others) in
    sym (root-parent_of r.trees u new parent a) ∙ root-parent_of r.trees u x parent b

-- a new Text does, where the other one has a parent
pub may-follow : {p : Part} {parent : NodeName} (n : Node) (x : NodeName) → IsPart p → is_fragment n.kind ≡ false → parent_of p.trees x ≡ Some parent →
    MayFollow x parent (part_step p (make n)) (next_name p)
may-follow {p} {parent} n x i k e =
    let t = parent-there p.trees x parent e in
    let made = node-new (with_name (next_name p) n) p.trees (next-absent p i) in
    record {
      may = new-may p n parent i t;
      plain = ap (λ (m : Node). is_fragment m.kind) made ∙ k;
      others = record {
        first = next-not p i x (child-there p.trees x parent e);
        second = next-not p i parent t;
        child = child-make x parent n p (parent-child p x parent i e);
      };
    }

-- the tail
pub leads-tail : {x new : NodeName} {q : Part} (offset : ℕ) (o : Option NodeName) → IsPart q → HasNode q new →
    ((parent : NodeName) → o ≡ Some parent → MayFollow x parent q new) → Leads o q (placing_tail x offset new o q)
leads-tail {q} offset None i t m = leads-nothing None q i
leads-tail {x} {new} {q} offset (Some parent) i t m =
    let spot = Some parent in
    let last = split_at x offset new parent (index_of q.trees x) in
    let before = next_sibling q.trees x in
    let f = m parent refl in
    let steps = insert_plan observed new parent before q in
    let put = leads-inserting observed new parent before i f.may in
    let r = after q steps in
    leads-then spot q steps (last ∷ []) put
    (leads-eased spot r (last ∷ []) (leads-one r last put.changed.part (still put.changed new t, follows before i f)))

-- a split
pub leads-splitting : (x : NodeName) (offset : ℕ) (p : Part) → IsPart p → Leads (parent_of p.trees x) p (splitting x offset p)
leads-splitting x offset p i =
    let old = node_in p.trees x in
    let new = next_name p in
    let tail = new_text_node new old.document (drop offset old.text) in
    let spot = parent_of p.trees x in
    let first = leads-one p (make tail) i tt in
    leads-plan spot (doing (make tail) and_then placing_tail x offset new spot) (replacing_data x offset (length old.text - offset) []) p
    (leads-then spot p (make tail ∷ []) (placing_tail x offset new spot (part_step p (make tail))) (leads-eased spot p (make tail ∷ []) first)
    (leads-tail offset spot first.changed.part (new-there p tail) (λ parent e. may-follow tail x i refl e)))
    (λ q c. leads-eased spot q (replacing_data x offset (length old.text - offset) [] q) (leads-replacing_data x offset (length old.text - offset) [] q c.part))

-- Joined Texts: a Text and some others in the tree of a parent.
abbrev pub AreBeside : NodeName → NodeName → List NodeName → Trees → Type 0
AreBeside x parent ys us = (root_of us x ≡ root_of us parent) × AllByRecursion (λ y. root_of us x ≡ root_of us y) ys

-- a Text of a part, and others that may be joined to it
pub record CanJoin (x parent : NodeName) (ys : List NodeName) (p : Part) : Type 0 where
  pub part : IsPart p
  pub there : HasNode p x
  pub beside : AreBeside x parent ys p.trees

-- their joins
pub leads-joins : (ts : Trees) (x parent : NodeName) (size : ℕ) (ys : List NodeName) {p : Part} → CanJoin x parent ys p →
    Leads None p (joins ts x parent size ys)
leads-joins ts x parent size [] {p} can = leads-nothing None p can.part
leads-joins ts x parent size (y ∷ ys) {p} can =
    let i = can.part in
    let t = can.there in
    let b = can.beside in
    let s = join_at x size y parent (index_of ts y) in
    let first = leads-one p s i (t, b.1.0, b.0) in
    leads-then None p (s ∷ []) (joins ts x parent (size + length_of ts y) ys) first
    (leads-joins ts x parent (size + length_of ts y) ys (record { part = first.changed.part; there = still first.changed x t; beside = (b.0, b.1.1) }))

-- those after a Text are beside it, whatever data it got
pub texts-beside : {parent : NodeName} {p : Part} (x : NodeName) (size : ℕ) (all : DomString) → IsPart p → parent_of p.trees x ≡ Some parent →
    AreBeside x parent (contiguous_texts_after p.trees x) (after p (replacing_data x size 0 all p)).trees
texts-beside {parent} {p} x size all i e =
    let ts = p.trees in
    let q = after p (replacing_data x size 0 all p) in
    let j = (leads-replacing_data x size 0 all p i).changed.part in
    let up : (y : NodeName) → IsChild y parent p → root_of q.trees parent ≡ root_of q.trees y =
    λ y c. root-parent_of q.trees j.unique y parent (child-parent q y parent j (child-replacing_data y parent x size 0 all p c)) in
    let mine = sym (up x (parent-child p x parent i e)) in (
      mine,
      all-then (λ y. IsChild y parent p) (λ y. root_of q.trees x ≡ root_of q.trees y) (λ y c. mine ∙ up y c) (contiguous_texts_after ts x)
          (all-take_while (λ y. IsChild y parent p) (λ y. is_text (kind_of ts y)) (items_after name_eq x (siblings ts x))
          (subst (λ (o : Option NodeName). AllByRecursion (λ y. IsChild y parent p) (items_after name_eq x (option_map_or (children_of ts) o (x ∷ [])))) (sym e)
          (after-all (λ y. IsChild y parent p) x (children_of ts parent) (children-childs ts parent)))),
    )

-- removals
pub leads-removals : (how : Observing) (xs : List NodeName) (p : Part) → IsPart p → Leads None p (in_turn (remove_plan how) xs p)
leads-removals how xs p i = leads-each (removing-each how) xs p i (all-from (λ y. ⊤) (λ y. tt) xs)

-- Texts that are joined
leads-joining : (x parent : NodeName) (p : Part) → IsPart p → HasNode p x → parent_of p.trees x ≡ Some parent →
    Leads None p (joining x parent (contiguous_texts_after p.trees x) p)
leads-joining x parent p i t e =
    let nexts = contiguous_texts_after p.trees x in
    let size = length_of p.trees x in
    let all = flat_map (λ y. (node_in p.trees y).text) nexts in
    leads-plan None (replacing_data x size 0 all and_then steps_of (joins p.trees x parent size nexts)) (in_turn (remove_plan observed) nexts) p
    (let first = leads-replacing_data x size 0 all p i in
    leads-then None p (replacing_data x size 0 all p) (joins p.trees x parent size nexts) first
    (leads-joins p.trees x parent size nexts (record { part = first.changed.part; there = still first.changed x t; beside = texts-beside x size all i e })))
    (λ q c. leads-removals observed nexts q c.part)

-- a Text that is normalized
pub leads-normalizing_text : (p : Part) (x : NodeName) → IsPart p → HasNode p x → Leads None p (normalizing_text x p)
leads-normalizing_text p x i t =
    leads-if (length_of p.trees x == 0)
    (leads-removing observed x p i) (from (parent_of p.trees x) refl)
  where
    from : (a : Option NodeName) → parent_of p.trees x ≡ a →
        Leads None p (option_map_or (λ parent. if is_empty (contiguous_texts_after p.trees x) then [] else joining x parent
        (contiguous_texts_after p.trees x) p) a [])
    from None e = leads-nothing None p i
    from (Some parent) e = leads-if (is_empty (contiguous_texts_after p.trees x))
        (leads-nothing None p i) (leads-joining x parent p i t e)

-- the nodes of a tree are there
pub descend-there : (ts : Trees) (x : NodeName) → AllByRecursion (λ y. 1 ≤ times_in ts y) (inclusive_descendants ts x)
descend-there ts x =
    all-map (λ y. 1 ≤ times_in ts y) (λ (n : Node). n.name) (nodes (subtree ts x))
    (all-then (λ (n : Node). 1 ≤ times_in (subtree ts x) n.name) (λ n. 1 ≤ times_in ts n.name)
    (λ n h. let s = times_subtree ts x n.name in omega arith) (nodes (subtree ts x)) (nodes-there (subtree ts x)))

-- Texts that are normalized
pub normalizing-each : LeadsEach None HasNode normalizing_text
normalizing-each = record { leads = leads-normalizing_text; stays = λ p q x c t. still c x t }

-- all Texts below a node
pub leads-normalizing : (x : NodeName) (p : Part) → IsPart p → Leads None p (normalizing x p)
leads-normalizing x p i =
    let texts = filter (λ y. is_text (kind_of p.trees y)) (descendants p.trees x) in
    leads-each normalizing-each texts p i
    (all-filter (HasNode p) (λ y. is_text (kind_of p.trees y)) (descendants p.trees x)
    (all-dropped (HasNode p) (inclusive_descendants p.trees x) (descend-there p.trees x)))

-- Text content. A node whose contents go, with steps that make the nodes which come in their place.
pub record IsReplaced (x : NodeName) (made : List Step) (added : List NodeName) (p : Part) : Type 0 where
  pub there : HasNode p x
  pub leads : Leads (Some x) p made
  pub may : AllByRecursion (MayGo x (after p made)) added

-- a new node, or none
pub replaced-by : (x : NodeName) (node : NodeName → Node) (p : Part) → IsPart p → HasNode p x → (b : Bool) →
    let added : List NodeName = if b then [] else next_name p ∷ [] in IsReplaced x (map (λ y. make (node y)) added) added p
replaced-by x node p i t true = record { there = t; leads = leads-nothing (Some x) p i; may = tt }
replaced-by x node p i t false =
    record {
      there = t;
      leads = leads-eased (Some x) p (make (node (next_name p)) ∷ []) (leads-one p (make (node (next_name p))) i tt);
      may = (new-may p (node (next_name p)) x i t, tt);
    }

-- what was below it goes, and they come
leads-replaced : {x : NodeName} {made : List Step} {added : List NodeName} {p : Part} (told : List Step) (old : List NodeName) → IsReplaced x made added p →
    ((q : Part) → IsPart q → Leads None q told) →
    Leads (Some x) p ((steps_of made and_then in_turn (remove_plan suppressed) old and_then in_turn (λ y. insert_plan suppressed y x None) added
    and_then steps_of told) p)
leads-replaced {x} {made} {added} {p} told old m t =
    let a = m.leads in
    let spot = Some x in
    let q = after p made in
    leads-plan spot (steps_of made and_then in_turn (remove_plan suppressed) old and_then in_turn (λ y. insert_plan suppressed y x None) added)
    (steps_of told) p
    (leads-then spot p (made ++ in_turn (remove_plan suppressed) old q)
    (in_turn (λ y. insert_plan suppressed y x None) added (after p (made ++ in_turn (remove_plan suppressed) old q)))
    (leads-then spot p made (in_turn (remove_plan suppressed) old q) a
    (leads-eased spot q (in_turn (remove_plan suppressed) old q) (leads-removals suppressed old q a.changed.part)))
    (let b = leads-removals suppressed old q a.changed.part in
    let r = after p (made ++ in_turn (remove_plan suppressed) old q) in
    let same : r ≡ after q (in_turn (remove_plan suppressed) old q) = after-append p made (in_turn (remove_plan suppressed) old q) in
    let c : Changed spot q r = subst (Changed spot q) (sym same) (leads-eased spot q (in_turn (remove_plan suppressed) old q) b).changed in
    leads-each (inserting-each x) added r c.part (all-then (MayGo x q) (MayGo x r) (λ y. may-still x q r y c) added m.may)))
    (λ q c. leads-eased spot q told (t q c.part))

-- a record, if so
pub leads-only_if : (b : Bool) (s : Step) (q : Part) → Leads None q (s ∷ []) → IsPart q → Leads None q (only_if b s)
leads-only_if b s q a i = leads-if b a (leads-nothing None q i)

-- children that give way to a Text
leads-replacing_children : (x : NodeName) (new : DomString) (p : Part) → IsPart p → HasNode p x → Leads (Some x) p (replacing_children x new p)
leads-replacing_children x new p i t =
    let old = children_of p.trees x in
    let added : List NodeName = if is_empty new then [] else next_name p ∷ [] in
    let node = λ (y : NodeName). new_text_node y (Some (document_below p.trees x)) new in
    let told = only_if (not (is_empty old && is_empty new)) (queue_record (child_list x added old None None)) in
    leads-replaced told old (replaced-by x node p i t (is_empty new))
    (λ q j. leads-only_if (not (is_empty old && is_empty new)) (queue_record (child_list x added old None None)) q
    (leads-one q (queue_record (child_list x added old None None)) j tt) j)

-- text content
pub leads-setting_text : (x : NodeName) (new : DomString) (p : Part) → IsPart p → HasNode p x → Leads (Some x) p (setting_text x new p)
leads-setting_text x new p i t =
    leads-if (has_data (kind_of p.trees x))
    (leads-eased (Some x) p (replacing_all_data x new p) (leads-replacing_data x 0 (length_of p.trees x) new p i))
    (leads-if (is_document (kind_of p.trees x)) (leads-nothing (Some x) p i) (leads-replacing_children x new p i t))
