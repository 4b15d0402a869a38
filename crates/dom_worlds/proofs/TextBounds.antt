-- The plans of texts keep the ends of ranges within their nodes.
use Rattle.dom_base.proofs.Std.{◌≡◌, ◌≤◌, ℕ, ◌+◌, ◌-◌, Bool, true, false, not, ◌&&◌, List, [], ◌∷◌, ◌++◌, map, filter, flat_map, drop, length, take_while}
use Rattle.dom_base.proofs.Std.{Option, Some, None, refl, sym, ap, ◌∙◌, arith, subst, length-append, length-drop, if◌then◌else◌, ◌==◌, min, AllByRecursion}
use Rattle.dom_base.proofs.Std.{option_map_or, cond-true, cond-false}
use Rattle.dom_model.proofs.Model.{NodeName, Kind, DomString, name_eq, is_empty, items_after, first_of, Trees, none, tree, Node, node_in, kind_of, is_text}
use Rattle.dom_model.proofs.Model.{is_document, is_fragment, has_data, subtree, trees_below, times_in, children_of, parent_of, siblings, next_sibling, index_of}
use Rattle.dom_model.proofs.Model.{length_of, descendants, inclusive_descendants, inclusive_ancestors, on_top, names_of, roots, followed_by, with_name}
use Rattle.dom_model.proofs.Model.{with_node, with_data_replaced, child_list, character_data, Part, next_name, Step, make, split_at, replace_data, queue_record}
use Rattle.dom_model.proofs.Model.{part_step, after, Plan, ◌and_then◌, in_turn, doing, steps_of, only_if, observed, suppressed, remove_plan, document_below}
use Rattle.dom_model.proofs.Model.{insert_plan, replacing_data, new_text_node, replacing_all_data, placing_tail, splitting, contiguous_texts_after, joins}
use Rattle.dom_model.proofs.Model.{joining, normalizing_text, normalizing, replacing_children, setting_text, name_eq-same, name_eq-turned}
use Rattle.dom_worlds.specs.Definitions.{times_among, IsPart}
use Rattle.dom_worlds.proofs.Bounds.{IsRoomy, nowhere, HasRoom, room-make, room-record, room-split, room-join, length-replaced}
use Rattle.dom_worlds.proofs.ChildCounts.{kids, index-below}
use Rattle.dom_worlds.proofs.Roots.{node-with_node, node-new, node-map_nodes, length-data, length-kids}
use Rattle.dom_worlds.proofs.Lists.{all-dropped, all-then, all-take_while, by_cases, either_way}
use Rattle.dom_worlds.proofs.PartSteps.{name-node_in, next-absent, data_put-keeps}
use Rattle.dom_worlds.proofs.RangeBounds.{room-then, room-plan, room-removing, room-removals, room-inserting, room-replacing_data, IsOpen, open-still}
use Rattle.dom_worlds.proofs.PlacedBounds.{texts-inserting, kids-plain}
use Rattle.dom_worlds.proofs.PlanPlaces.{LeadsEach, Changed, MayGo, may-still, still, after-append, leads-then, leads-eased, leads-one, leads-inserting}
use Rattle.dom_worlds.proofs.PlanTexts.{IsReplaced, replaced-by, MayFollow, may-follow, texts-beside, next-not, new-there, descend-there, leads-removals}
use Rattle.dom_worlds.proofs.PlanTexts.{leads-tail, leads-joins, leads-replacing_data, leads-normalizing_text}
use Rattle.dom_worlds.proofs.TableSteps.{HasNode}
use Rattle.dom_worlds.proofs.TableRecords.{all-kept}
use Rattle.dom_worlds.proofs.TreeChangeLaws.{HasRoot, root-put_root_new, root-first, times-below}
use Rattle.dom_laws.proofs.Laws.{times-here, times-elsewhere, times-more, times_subtree, path_none}
use Rattle.dom_worlds.proofs.Trees.{all-both, where-here, where-later, put_root-where, put_where}
use Rattle.dom_worlds.proofs.KindCases.{failing, of_kinds}

-- A new node changes no ancestors.
ancestors-followed : (new ts : Trees) (x : NodeName) → times_in new x ≡ 0 → inclusive_ancestors (followed_by new ts) x ≡ inclusive_ancestors ts x
ancestors-followed none ts x h = refl
ancestors-followed (tree n c r) ts x h =
    by_cases (name_eq n.name x) (λ e. absurd (let g = times-here n c r x e in omega arith))
    (λ e. let g = times-elsewhere n c r x e in
    cond-false (name_eq n.name x) (x ∷ []) (on_top (inclusive_ancestors c x) n.name (inclusive_ancestors (followed_by r ts) x)) e
    ∙ ap (λ p. on_top p n.name (inclusive_ancestors (followed_by r ts) x)) (path_none c x (omega arith)) ∙ ancestors-followed r ts x (omega arith))

-- put into a list
ancestors-where : (test : NodeName → Bool) (new ts : Trees) (x : NodeName) → times_in new x ≡ 0 →
    inclusive_ancestors (put_where test new ts) x ≡ inclusive_ancestors ts x
ancestors-where test new none x h = path_none new x h
ancestors-where test new (tree n c r) x h =
    by_cases (test n.name) (λ e. ap (λ t. inclusive_ancestors t x) (where-here test new n c r e) ∙ ancestors-followed new (tree n c r) x h)
    (λ e. ap (λ t. inclusive_ancestors t x) (where-later test new n c r e) ∙
    ap (λ p. if name_eq n.name x then x ∷ [] else on_top (inclusive_ancestors c x) n.name p) (ancestors-where test new r x h))

-- beside a new node
parent-with_node : (n : Node) (ts : Trees) (x : NodeName) → name_eq n.name x ≡ false → parent_of (with_node n ts) x ≡ parent_of ts x
parent-with_node n ts x e =
    let g = times-elsewhere n none none x e in
    ap (λ path. first_of (drop 1 path)) (ap (λ t. inclusive_ancestors t x) (put_root-where n.name (tree n none none) ts) ∙
    ancestors-where (Rattle.dom_model.specs.Names.name_before n.name) (tree n none none) ts x (omega arith))

-- a Text has data
pub text-data : (k : Kind) → is_text k ≡ true → has_data k ≡ true
text-data = of_kinds (λ k. is_text k ≡ true → has_data k ≡ true) failing failing failing failing (λ h. refl) failing

-- who has children is no Text
pub kids-open : (p : Part) (x : NodeName) → HasRoom nowhere p → 1 ≤ kids p.trees x → IsOpen p x
kids-open p x h k = by_cases (has_data (kind_of p.trees x)) (λ e. absurd (let z = h.leaves x e in omega arith)) (λ e. e)

-- The tail of a split Text, in the part in which it was made.
record IsTail (p : Part) (x : NodeName) (offset : ℕ) (q : Part) (new : NodeName) : Type 0 where
  room : HasRoom nowhere q
  part : IsPart q
  there : HasNode q x
  text : has_data (kind_of q.trees x) ≡ true
  new_there : HasNode q new
  new_text : has_data (kind_of q.trees new) ≡ true
  plain : is_fragment (kind_of q.trees new) ≡ false
  size : length (node_in q.trees x).text ≤ offset + length (node_in q.trees new).text
  root : HasRoot q.trees new

-- the steps that place it
room-tail : {p : Part} {x : NodeName} {offset : ℕ} {q : Part} {new : NodeName} {o : Option NodeName} → parent_of q.trees x ≡ o → IsTail p x offset q new →
    ((parent : NodeName) → o ≡ Some parent → MayFollow x parent q new) → HasRoom nowhere (after q (placing_tail x offset new o q))
room-tail {o = None} e t m = t.room
room-tail {x} {offset} {q} {new} {o = Some parent} e t m =
    let index = index_of q.trees x in
    let before = next_sibling q.trees x in
    let steps = insert_plan observed new parent before q in
    let r = after q steps in
    let may = (m parent refl).may in
    let below = index-below q.trees x parent t.part.unique e in
    let opened = kids-open q parent t.room (omega arith) in
    let c = (leads-inserting observed new parent before t.part may).changed in
    let more = kids-plain observed new parent before q t.part may t.root t.plain in
    room-then nowhere q steps (split_at x offset new parent index ∷ [])
    (room-split (room-inserting observed before (record { part = t.part; room = t.room }) (record { go = may; open_parent = opened })) parent index x offset new
    (sizes r steps c may) (let size = lengths r c may opened in omega arith))
  where
    sizes : (r : Part) (steps : List Step) → Changed (Some parent) q (after q (insert_plan observed new parent (next_sibling q.trees x) q)) →
        MayGo parent q new → length_of (after q (insert_plan observed new parent (next_sibling q.trees x) q)).trees x ≤ offset + length_of
        (after q (insert_plan observed new parent (next_sibling q.trees x) q)).trees new
    sizes r steps c may =
        let s = after q (insert_plan observed new parent (next_sibling q.trees x) q) in
        let texts = texts-inserting observed (next_sibling q.trees x) t.part may in
        let a = length-data s.trees x (ap has_data (c.kinds x t.there) ∙ t.text) in
        let b = length-data s.trees new (ap has_data (c.kinds new t.new_there) ∙ t.new_text) in
        let d = ap (λ (s : DomString). length s) (texts x t.there) in
        let f = ap (λ (s : DomString). length s) (texts new t.new_there) in
        let g = t.size in omega arith

    lengths : (r : Part) → Changed (Some parent) q (after q (insert_plan observed new parent (next_sibling q.trees x) q)) → MayGo parent q new →
        IsOpen q parent → length_of (after q (insert_plan observed new parent (next_sibling q.trees x) q)).trees parent ≡ kids
        (after q (insert_plan observed new parent (next_sibling q.trees x) q)).trees parent
    lengths r c may opened = length-kids (after q (insert_plan observed new parent (next_sibling q.trees x) q)).trees parent c.part.unique
        (open-still c parent may.below opened)

-- a split
pub room-splitting : {p : Part} (x : NodeName) (offset : ℕ) → IsRoomy nowhere p → HasNode p x → has_data (kind_of p.trees x) ≡ true →
    HasRoom nowhere (after p (splitting x offset p))
room-splitting {p} x offset w t k =
    let old = node_in p.trees x in
    let new = next_name p in
    let tail = new_text_node new old.document (drop offset old.text) in
    let spot = parent_of p.trees x in
    let first = leads-one p (make tail) w.part tt in
    let q = part_step p (make tail) in
    let other = next-not p w.part x t in
    let same : node_in q.trees x ≡ old = node-with_node (with_name new tail) p.trees x w.part.unique t other in
    let made : node_in q.trees new ≡ with_name new tail = node-new (with_name new tail) p.trees (next-absent p w.part) in
    let is : IsTail p x offset q new = record {
      room = room-make nowhere p tail w.part w.room;
      part = first.changed.part;
      there = still first.changed x t;
      text = ap (λ (n : Node). has_data n.kind) same ∙ k;
      new_there = new-there p tail;
      new_text = ap (λ (n : Node). has_data n.kind) made;
      plain = ap (λ (n : Node). is_fragment n.kind) made;
      size = let a = ap (λ (n : Node). length n.text) same in let b = ap (λ (n : Node). length n.text) made in let c =
          length-drop offset old.text in omega arith;
      root = root-put_root_new new (tree (with_name new tail) none none) p.trees new (root-first (with_name new tail) none none new (name_eq-same new));
    } in
    let may = λ (parent : NodeName) (e : spot ≡ Some parent). may-follow tail x w.part refl e in
    room-plan (doing (make tail) and_then placing_tail x offset new spot) (replacing_data x offset (length old.text - offset) [])
    (leads-then spot p (make tail ∷ []) (placing_tail x offset new spot q) (leads-eased spot p (make tail ∷ []) first)
    (leads-tail offset spot first.changed.part (new-there p tail) may))
    (room-tail (parent-with_node (with_name new tail) p.trees x other) is may)
    (λ r c g. room-replacing_data x offset (length old.text - offset) [] (record { part = c.part; room = g }) (ap has_data (c.kinds x t) ∙ k))

-- Units of a node that are replaced.
module _ (p : Part) (x : NodeName) (offset count : ℕ) (new : DomString) where
  -- Data that are replaced.
  pub replaced-here : HasNode p x → node_in (part_step p (replace_data x offset count new)).trees x ≡ with_data_replaced offset count new (node_in p.trees x)
  replaced-here t =
      let f : Node → Node = λ n. if name_eq n.name x then with_data_replaced offset count new n else n in
      node-map_nodes f (λ n. (data_put-keeps x offset count new n).0) p.trees x t
      ∙ cond-true (name_eq (node_in p.trees x).name x) (with_data_replaced offset count new (node_in p.trees x)) (node_in p.trees x)
      (ap (λ z. name_eq z x) (name-node_in p.trees x) ∙ name_eq-same x)

  -- of another node they stay
  replaced-elsewhere : (y : NodeName) → HasNode p y → name_eq x y ≡ false → node_in (part_step p (replace_data x offset count new)).trees y ≡ node_in p.trees y
  replaced-elsewhere y t e =
      let f : Node → Node = λ n. if name_eq n.name x then with_data_replaced offset count new n else n in
      node-map_nodes f (λ n. (data_put-keeps x offset count new n).0) p.trees y t
      ∙ cond-false (name_eq (node_in p.trees y).name x) (with_data_replaced offset count new (node_in p.trees y)) (node_in p.trees y)
      (ap (λ z. name_eq z x) (name-node_in p.trees y) ∙ name_eq-turned y x ∙ e)

-- Joins: of all lengths of some nodes.
abbrev pub total : Trees → List NodeName → ℕ
total ts [] = 0
total ts (y ∷ ys) = length_of ts y + total ts ys

-- their texts, one after another
total-texts : (ts : Trees) (ys : List NodeName) → AllByRecursion (λ y. has_data (kind_of ts y) ≡ true) ys →
    length (flat_map (λ y. (node_in ts y).text) ys) ≡ total ts ys
total-texts ts [] h = refl
total-texts ts (y ∷ ys) h =
    let a = length-append (node_in ts y).text (flat_map (λ y. (node_in ts y).text) ys) in let b = length-data ts y h.0 in let c =
    total-texts ts ys h.1 in omega arith

-- a Text that has room for what comes behind its first units, in others that are as long as they were in some trees
record HoldsJoined (ts : Trees) (x : NodeName) (size : ℕ) (ys : List NodeName) (q : Part) : Type 0 where
  long : size + total ts ys ≤ length_of q.trees x
  same : AllByRecursion (λ y. length_of q.trees y ≡ length_of ts y) ys
  room : HasRoom nowhere q

-- joins into it
room-joins : (ts : Trees) (x parent : NodeName) (size : ℕ) (ys : List NodeName) {q : Part} → HoldsJoined ts x size ys q →
    HasRoom nowhere (after q (joins ts x parent size ys))
room-joins ts x parent size [] holds = holds.room
room-joins ts x parent size (y ∷ ys) {q} holds =
    let a = holds.long in let b = holds.same.0 in
    let room = room-join holds.room parent (index_of ts y) x size y (omega arith) in
    room-joins ts x parent (size + length_of ts y) ys (record { long = omega arith; same = holds.same.1; room = room })

-- a name that is not among some differs from each
pub none-among : (x : NodeName) (xs : List NodeName) → times_among xs x ≡ 0 → AllByRecursion (λ y. name_eq x y ≡ false) xs
none-among x [] h = tt
none-among x (y ∷ xs) h =
    by_cases (name_eq y x)
    (λ e. absurd (let one : times_among (y ∷ xs) x ≡ 1 + times_among xs x = ap (λ k. k + times_among xs x) (cond-true (name_eq y x) 1 0 e) in omega arith))
    (λ e. let zero_more : times_among (y ∷ xs) x ≡ 0 + times_among xs x = ap (λ k. k + times_among xs x) (cond-false (name_eq y x) 1 0 e) in
    (name_eq-turned x y ∙ e, none-among x xs (omega arith)))

-- what stands behind an item among others is another, where it is there once
pub among-behind : (x : NodeName) (xs : List NodeName) → times_among xs x ≤ 1 → AllByRecursion (λ y. name_eq x y ≡ false) (items_after name_eq x xs)
among-behind x [] h = tt
among-behind x (y ∷ xs) h =
    by_cases (name_eq x y)
    (λ e. let one : times_among (y ∷ xs) x ≡ 1 + times_among xs x = ap (λ k. k + times_among xs x) (cond-true (name_eq y x) 1 0 (name_eq-turned y x ∙ e)) in
    subst (AllByRecursion (λ z. name_eq x z ≡ false)) (sym (cond-true (name_eq x y) xs (items_after name_eq x xs) e)) (none-among x xs (omega arith)))
    (λ e. let zero_more : times_among (y ∷ xs) x ≡ 0 + times_among xs x = ap (λ k. k + times_among xs x)
    (cond-false (name_eq y x) 1 0 (name_eq-turned y x ∙ e)) in
    subst (AllByRecursion (λ z. name_eq x z ≡ false)) (sym (cond-false (name_eq x y) xs (items_after name_eq x xs) e)) (among-behind x xs (omega arith)))

-- roots are there as often as nodes, or less
roots-among : (ts : Trees) (x : NodeName) → times_among (names_of (roots ts)) x ≤ times_in ts x
roots-among none x = omega arith
roots-among (tree n c r) x = let h = roots-among r x in let m = times-more n c r x in
    by_cases (name_eq n.name x)
    (λ e. let a : times_among (n.name ∷ names_of (roots r)) x ≡ 1 + times_among (names_of (roots r)) x = ap
    (λ k. k + times_among (names_of (roots r)) x) (cond-true (name_eq n.name x) 1 0 e) in let g = times-here n c r x e in omega arith)
    (λ e. let a : times_among (n.name ∷ names_of (roots r)) x ≡ 0 + times_among (names_of (roots r)) x = ap
    (λ k. k + times_among (names_of (roots r)) x) (cond-false (name_eq n.name x) 1 0 e) in omega arith)

-- and so are children
pub children-among : (ts : Trees) (y x : NodeName) → times_among (children_of ts y) x ≤ times_in ts x
children-among ts y x =
    let a = roots-among (trees_below (subtree ts y)) x in let b = times-below (subtree ts y) x in let c = times_subtree ts y x in omega arith

-- A node with data, below a parent.
module _ (x parent : NodeName) (p : Part) (i : IsPart p) (t : HasNode p x) (k : has_data (kind_of p.trees x) ≡ true)
    (e : parent_of p.trees x ≡ Some parent) where
  -- The Texts after a Text that gets their data: it is long enough for them, and they stay as long as they are.
  pub joining-fits : let nexts = contiguous_texts_after p.trees x in
      let q = after p (replacing_data x (length_of p.trees x) 0 (flat_map (λ y. (node_in p.trees y).text) nexts) p) in
      (length_of p.trees x + total p.trees nexts ≤ length_of q.trees x) × AllByRecursion (λ y. length_of q.trees y ≡ length_of p.trees y) nexts
  joining-fits =
      let ts = p.trees in
      let nexts = contiguous_texts_after ts x in
      let size = length_of ts x in
      let old = (node_in ts x).text in
      let all = flat_map (λ y. (node_in ts y).text) nexts in
      let is = λ (y : NodeName). is_text (kind_of ts y) in
      let texts : AllByRecursion (λ y. has_data (kind_of ts y) ≡ true) nexts =
      all-then (λ y. is y ≡ true) (λ y. has_data (kind_of ts y) ≡ true) (λ y h. text-data (kind_of ts y) h) nexts
      (taken is (items_after name_eq x (siblings ts x))) in
      let others : AllByRecursion (λ y. name_eq x y ≡ false) nexts =
      all-take_while (λ y. name_eq x y ≡ false) is (items_after name_eq x (siblings ts x))
      (subst (λ (o : Option NodeName). AllByRecursion (λ y. name_eq x y ≡ false) (items_after name_eq x (option_map_or (children_of ts) o (x ∷ [])))) (sym e)
      (among-behind x (children_of ts parent) (let a = children-among ts parent x in let b = i.unique x in omega arith))) in
      let p1 = part_step p (queue_record (character_data x (Some old))) in
      let few = min 0 (length old - size) in
      let q = after p (replacing_data x size 0 all p) in
      let was = length-data ts x k in
      let now = replaced-here p1 x size few all t in
      let is_now = length-data q.trees x (ap (λ (n : Node). has_data n.kind) now ∙ k) in
      let text = ap (λ (n : Node). length n.text) now in
      let sum = length-replaced size few all old in
      let whole = total-texts ts nexts texts in (
        omega arith,
        all-then (λ y. (has_data (kind_of ts y) ≡ true) × (name_eq x y ≡ false)) (λ y. length_of q.trees y ≡ length_of ts y)
            (λ y h. let n = replaced-elsewhere p1 x size few all y (Rattle.dom_worlds.proofs.Bounds.data-there ts y h.0) h.1 in
            length-data q.trees y (ap (λ (n : Node). has_data n.kind) n ∙ h.0) ∙ ap (λ (n : Node). length n.text) n ∙ sym (length-data ts y h.0))
            nexts (all-both (λ y. has_data (kind_of ts y) ≡ true) (λ y. name_eq x y ≡ false) nexts texts others),
      )
    where
      taken : (test : NodeName → Bool) (xs : List NodeName) → AllByRecursion (λ y. test y ≡ true) (take_while test xs)
      taken test [] = tt
      taken test (y ∷ xs) =
          by_cases (test y) (λ e. subst (AllByRecursion (λ z. test z ≡ true)) (sym (Rattle.dom_worlds.proofs.Lists.take_while-yes test y xs e))
          (e, taken test xs))
          (λ e. subst (AllByRecursion (λ z. test z ≡ true)) (sym (Rattle.dom_worlds.proofs.Lists.take_while-no test y xs e)) tt)

  -- Texts that are joined
  room-joining : HasRoom nowhere p → HasRoom nowhere (after p (joining x parent (contiguous_texts_after p.trees x) p))
  room-joining h =
      let ts = p.trees in
      let nexts = contiguous_texts_after ts x in
      let size = length_of ts x in
      let all = flat_map (λ y. (node_in ts y).text) nexts in
      let fits = joining-fits in
      let first = leads-replacing_data x size 0 all p i in
      room-plan (replacing_data x size 0 all and_then steps_of (joins ts x parent size nexts)) (in_turn (remove_plan observed) nexts)
      (leads-then None p (replacing_data x size 0 all p) (joins ts x parent size nexts) first
      (leads-joins ts x parent size nexts (record { part = first.changed.part; there = still first.changed x t; beside = texts-beside x size all i e })))
      (room-then nowhere p (replacing_data x size 0 all p) (joins ts x parent size nexts)
      (room-joins ts x parent size nexts (record { long = fits.0; same = fits.1; room = room-replacing_data x size 0 all (record { part = i; room = h }) k })))
      (λ r c g. room-removals nowhere observed nexts r c.part g)

-- Plans for items that lead on, each of which keeps room.
module _ {A : Type 0} {spot : Option NodeName} {P : Part → A → Type 0} {f : A → Plan} (each : LeadsEach spot P f)
    (room : (p : Part) (x : A) → IsPart p → P p x → HasRoom nowhere p → HasRoom nowhere (after p (f x p))) where
  -- so do all in turn
  pub room-turns : (xs : List A) (p : Part) → IsPart p → AllByRecursion (P p) xs → HasRoom nowhere p → HasRoom nowhere (after p (in_turn f xs p))
  room-turns [] p i g r = r
  room-turns (x ∷ xs) p i g r =
      let first = each.leads p x i g.0 in
      let q = after p (f x p) in
      room-then nowhere p (f x p) (in_turn f xs q)
      (room-turns xs q first.changed.part (all-then (P p) (P q) (λ y. each.stays p q y first.changed) xs g.1) (room p x i g.0 r))

-- a Text that is there
abbrev pub TextIn : Part → NodeName → Type 0
TextIn p x = HasNode p x × (is_text (kind_of p.trees x) ≡ true)

-- a Text that is normalized
pub room-normalizing_text : (p : Part) (x : NodeName) → IsPart p → TextIn p x → HasRoom nowhere p → HasRoom nowhere (after p (normalizing_text x p))
room-normalizing_text p x i t h =
    either_way (λ steps. HasRoom nowhere (after p steps)) (length_of p.trees x == 0) (remove_plan observed x p)
    (option_map_or (λ parent. if is_empty (contiguous_texts_after p.trees x) then [] else joining x parent (contiguous_texts_after p.trees x) p)
    (parent_of p.trees x) [])
    (room-removing nowhere observed x p i h) (from (parent_of p.trees x) refl)
  where
    from : (a : Option NodeName) → parent_of p.trees x ≡ a →
        HasRoom nowhere (after p (option_map_or
        (λ parent. if is_empty (contiguous_texts_after p.trees x) then [] else joining x parent (contiguous_texts_after p.trees x) p) a []))
    from None e = h
    from (Some parent) e = either_way (λ steps. HasRoom nowhere (after p steps)) (is_empty (contiguous_texts_after p.trees x)) []
        (joining x parent (contiguous_texts_after p.trees x) p) h (room-joining x parent p i t.0 (text-data (kind_of p.trees x) t.1) e h)

-- all Texts below a node
pub room-normalizing : (x : NodeName) (p : Part) → IsPart p → HasRoom nowhere p → HasRoom nowhere (after p (normalizing x p))
room-normalizing x p i h =
    let is = λ (y : NodeName). is_text (kind_of p.trees y) in
    let texts = filter is (descendants p.trees x) in
    let each : LeadsEach None TextIn normalizing_text =
    record { leads = λ q y j t. leads-normalizing_text q y j t.0; stays = λ q r y c t. (still c y t.0, ap is_text (c.kinds y t.0) ∙ t.1) } in
    room-turns each room-normalizing_text texts p i
    (all-kept (HasNode p) is (descendants p.trees x) (all-dropped (HasNode p) (inclusive_descendants p.trees x) (descend-there p.trees x))) h

-- Text content.
room-replaced : {x : NodeName} {made : List Step} {added : List NodeName} {p : Part} (old : List NodeName) → IsReplaced x made added p → IsOpen p x →
    HasRoom nowhere (after p made) →
    HasRoom nowhere (after p ((steps_of made and_then in_turn (remove_plan suppressed) old and_then in_turn (λ y. insert_plan suppressed y x None) added) p))
room-replaced {x} {made} {added} {p} old m k h =
    let a = m.leads in
    let t = m.there in
    let spot = Some x in
    let q = after p made in
    let gone = in_turn (remove_plan suppressed) old q in
    let b = leads-removals suppressed old q a.changed.part in
    let r = after p (made ++ gone) in
    let same : r ≡ after q gone = after-append p made gone in
    let c : Changed spot q r = subst (Changed spot q) (sym same) (leads-eased spot q gone b).changed in
    let there = still a.changed x t in
    let room_r : HasRoom nowhere r = room-then nowhere p made gone (room-removals nowhere suppressed old q a.changed.part h) in
    let MayGoIn : Part → NodeName → Type 0 = λ q y. MayGo x q y × HasNode q x × IsOpen q x in
    let each : LeadsEach spot MayGoIn (λ y. insert_plan suppressed y x None) = record {
      leads = λ q y j n. leads-inserting suppressed y x None j n.0;
      stays = λ q r y c n. (may-still x q r y c n.0, still c x n.1, open-still c x n.1 n.2);
    } in
    let open_r = open-still c x there (open-still a.changed x t k) in
    let may = all-then (MayGo x q) (MayGoIn r) (λ y n. (may-still x q r y c n, still c x there, open_r)) added m.may in
    room-then nowhere p (made ++ gone) (in_turn (λ y. insert_plan suppressed y x None) added r)
    (room-turns each (λ q y j n g. room-inserting suppressed None (record { part = j; room = g })
    (record { go = n.0; open_parent = n.2 })) added r c.part may room_r)

-- A node that gets a text.
module _ (x : NodeName) (new : DomString) (p : Part) (i : IsPart p) (t : HasNode p x) where
  -- children that give way to a Text
  room-replacing_children : IsOpen p x → HasRoom nowhere p → HasRoom nowhere (after p (replacing_children x new p))
  room-replacing_children k h =
      let old = children_of p.trees x in
      let added : List NodeName = if is_empty new then [] else next_name p ∷ [] in
      let node = λ (y : NodeName). new_text_node y (Some (document_below p.trees x)) new in
      let record_of = child_list x added old None None in
      let told = only_if (not (is_empty old && is_empty new)) (queue_record record_of) in
      let made = map (λ y. make (node y)) added in
      let put = (steps_of made and_then in_turn (remove_plan suppressed) old and_then in_turn (λ y. insert_plan suppressed y x None) added) p in
      let g = room-replaced old (replaced-by x node p i t (is_empty new)) k (made_room node (is_empty new)) in
      room-then nowhere p put told
      (either_way (λ steps. HasRoom nowhere (after (after p put) steps)) (not (is_empty old && is_empty new)) (queue_record record_of ∷ []) []
      (room-record nowhere (after p put) record_of g) g)
    where
      made_room : (node : NodeName → Node) (b : Bool) → HasRoom nowhere (after p (map (λ y. make (node y)) (if b then [] else next_name p ∷ [])))
      made_room node true = h
      made_room node false = room-make nowhere p (node (next_name p)) i h

  -- text content
  pub room-setting_text : HasRoom nowhere p → HasRoom nowhere (after p (setting_text x new p))
  room-setting_text h =
      Rattle.dom_worlds.proofs.Lists.which_way (λ steps. HasRoom nowhere (after p steps)) (has_data (kind_of p.trees x))
      (replacing_all_data x new p) (if is_document (kind_of p.trees x) then [] else replacing_children x new p)
      (λ e. room-replacing_data x 0 (length_of p.trees x) new (record { part = i; room = h }) e)
      (λ e. either_way (λ steps. HasRoom nowhere (after p steps)) (is_document (kind_of p.trees x)) [] (replacing_children x new p) h
      (room-replacing_children e h))
