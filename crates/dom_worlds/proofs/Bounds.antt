-- Steps keep the ends of ranges within their nodes, up to a given room that nodes are about to get.
use Rattle.dom_base.proofs.Std.{suc, ◌≡◌, ◌≤◌, ℕ, ◌+◌, ◌-◌, Bool, true, false, not, ◌&&◌, ◌||◌, List, ◌++◌, map, length, take, drop, Option, Some, None}
use Rattle.dom_base.proofs.Std.{option_map, refl, sym, ap, ◌∙◌, arith, true≢false, subst, length-append, length-take, length-drop, if◌then◌else◌, ⊤, nat_lt}
use Rattle.dom_base.proofs.Std.{nat_le, min, AllByRecursion, option_map_or, cond-true, cond-false, and_parts, or_parts, not-false, ltb-false, leb-true}
use Rattle.dom_base.proofs.Std.{leb-false}
use Rattle.dom_model.proofs.Model.{NodeName, times_in, Trees, Node, node_in, no_node, kind_of, has_data, parent_of, index_of, length_of, inclusive_descendants}
use Rattle.dom_model.proofs.Model.{is_inclusive_ancestor, Word, DomString, name_eq, is_in, map_nodes, replaced, taken_out, placed, with_name, with_document}
use Rattle.dom_model.proofs.Model.{with_data_replaced, with_attribute, Boundary, Range, at, map_ends, boundary_eq, after_insert, after_removal}
use Rattle.dom_model.proofs.Model.{after_replace_data, after_split, after_join, Change, Part, next_name, make, make_room, place, take_out, set_document}
use Rattle.dom_model.proofs.Model.{set_attribute, replace_data, split_at, join_at, set_range, queue_record, part_step, leave, name_eq-true, name_eq-turned}
use Rattle.dom_worlds.specs.Definitions.{IsPart}
use Rattle.dom_worlds.proofs.Insides.{CanPlace, unique-taken_out}
use Rattle.dom_worlds.proofs.ChildCounts.{kids, kids-absent, one_at, kids-taken_out, kids-placed, kids-with_node, kids-map_nodes, index-below}
use Rattle.dom_worlds.proofs.Roots.{node-taken_out, node-placed, node-with_node, node-map_nodes, length-data, length-kids, length-absent}
use Rattle.dom_worlds.proofs.Lists.{all-then, all-map, all-set, by_cases, either_way, which_way, by_some_is}
use Rattle.dom_worlds.proofs.PartSteps.{KeepsNames, some-keeps, attribute-keeps, part-step, attribute_put, document_put}
use Rattle.dom_worlds.proofs.PlanTexts.{next-not}
use Rattle.dom_worlds.proofs.ShadowRoots.{found-absent}
use Rattle.dom_worlds.proofs.TableSteps.{HasNode}
use Rattle.dom_laws.proofs.Laws.{Once, by_times}
use Rattle.dom_worlds.proofs.TreeChangeLaws.{HasRoot}

-- A boundary is not past what is allowed at its node.
abbrev pub Under : (NodeName → ℕ) → Boundary NodeName → Type 0
Under c b = b.offset ≤ c b.node

-- both ends of a range that was not dropped
abbrev pub RangeUnder : (NodeName → ℕ) → Option (Range NodeName) → Type 0
RangeUnder c None = ⊤
RangeUnder c (Some r) = Under c r.start × Under c r.end

-- a node's length, and more
abbrev pub reach : (NodeName → ℕ) → Part → NodeName → ℕ
reach e p y = length_of p.trees y + e y

-- no more
abbrev pub nowhere : NodeName → ℕ
nowhere y = 0

-- so many at a node
abbrev pub at_node : NodeName → ℕ → NodeName → ℕ
at_node x k y = if name_eq x y then k else 0

-- The ends of ranges are within their nodes, and Texts and Comments have no children.
pub record HasRoom (e : NodeName → ℕ) (p : Part) : Type 0 where
  pub bounds : AllByRecursion (RangeUnder (reach e p)) p.ranges
  pub leaves : (y : NodeName) → has_data (kind_of p.trees y) ≡ true → kids p.trees y ≡ 0

-- A part as it should be, in which that is so.
pub record IsRoomy (e : NodeName → ℕ) (p : Part) : Type 0 where
  pub part : IsPart p
  pub room : HasRoom e p

-- Boundaries that move to where they are allowed.
range-moved : (c d : NodeName → ℕ) (f : Boundary NodeName → Boundary NodeName) → ((b : Boundary NodeName) → Under c b → Under d (f b)) →
    (r : Option (Range NodeName)) → RangeUnder c r → RangeUnder d (option_map (map_ends f) r)
range-moved c d f m None h = tt
range-moved c d f m (Some r) h = (m r.start h.0, m r.end h.1)

-- of all ranges
ranges-moved : (c d : NodeName → ℕ) (f : Boundary NodeName → Boundary NodeName) → ((b : Boundary NodeName) → Under c b → Under d (f b)) →
    (rs : List (Option (Range NodeName))) → AllByRecursion (RangeUnder c) rs → AllByRecursion (RangeUnder d) (map (option_map (map_ends f)) rs)
ranges-moved c d f m rs h = all-map (RangeUnder d) (option_map (map_ends f)) rs
    (all-then (RangeUnder c) (λ r. RangeUnder d (option_map (map_ends f) r)) (range-moved c d f m) rs h)

-- where more is allowed
range-more : (c d : NodeName → ℕ) → ((y : NodeName) → c y ≤ d y) → (r : Option (Range NodeName)) → RangeUnder c r → RangeUnder d r
range-more c d m None h = tt
range-more c d m (Some r) h = (let a = m r.start.node in let b = h.0 in omega arith, let a = m r.end.node in let b = h.1 in omega arith)

-- of all ranges
pub ranges-more : (c d : NodeName → ℕ) → ((y : NodeName) → c y ≤ d y) → (rs : List (Option (Range NodeName))) → AllByRecursion (RangeUnder c) rs →
    AllByRecursion (RangeUnder d) rs
ranges-more c d m rs h = all-then (RangeUnder c) (RangeUnder d) (range-more c d m) rs h

-- more room
pub room-more : (d e : NodeName → ℕ) (p : Part) → ((y : NodeName) → d y ≤ e y) → HasRoom d p → HasRoom e p
room-more d e p m h = record { bounds = ranges-more (reach d p) (reach e p) (λ y. let a = m y in omega arith) p.ranges h.bounds; leaves = h.leaves }

-- A node that other trees have too, with as many children.
pub record IsLike (ts us : Trees) (y : NodeName) : Type 0 where
  pub kind : kind_of us y ≡ kind_of ts y
  pub text : (node_in us y).text ≡ (node_in ts y).text
  pub count : kids us y ≡ kids ts y

-- It stays as long.
pub length-like : (ts us : Trees) (y : NodeName) → Once ts → Once us → IsLike ts us y → length_of us y ≡ length_of ts y
length-like ts us y u v k =
    by_cases (has_data (kind_of ts y))
    (λ e. length-data us y (ap has_data k.kind ∙ e) ∙ ap length k.text ∙ sym (length-data ts y e))
    (λ e. length-kids us y v (ap has_data k.kind ∙ e) ∙ k.count ∙ sym (length-kids ts y u e))

-- a name without a node is no Text
absent-data : (ts : Trees) (y : NodeName) → times_in ts y ≡ 0 → has_data (kind_of ts y) ≡ true → ⊥
absent-data ts y z h = true≢false (sym h ∙ ap (λ (o : Option Node). has_data (Rattle.std.specs.Prelude.unwrap_or o (no_node y)).kind) (found-absent ts y z))

-- a Text is there
pub data-there : (ts : Trees) (y : NodeName) → has_data (kind_of ts y) ≡ true → 1 ≤ times_in ts y
data-there ts y h = by_times (times_in ts y) (λ z. absurd (absent-data ts y z h)) (λ z. z)

-- Other trees, in which each node is as long.
room-trees : {d : NodeName → ℕ} {p : Part} (e : NodeName → ℕ) (us : Trees) (count : ℕ) → ((y : NodeName) → length_of p.trees y + d y ≤ length_of us y + e y) →
    ((y : NodeName) → has_data (kind_of us y) ≡ true → kids us y ≡ 0) → HasRoom d p → HasRoom e (record p { trees = us; node_count = count })
room-trees {d} {p} e us count m l h = record { bounds = ranges-more (reach d p) (λ y. length_of us y + e y) m p.ranges h.bounds; leaves = l }

-- A new node.
pub room-make : (e : NodeName → ℕ) (p : Part) (n : Node) → IsPart p → HasRoom e p → HasRoom e (part_step p (make n))
room-make e p n i h =
    let q = part_step p (make n) in
    let m = with_name (next_name p) n in
    let j = part-step p (make n) i in
    let same = λ (y : NodeName) (t : HasNode p y). node-with_node m p.trees y i.unique t (next-not p i y t) in
    room-trees e q.trees (suc p.node_count)
    (λ y. by_times (times_in p.trees y) (λ z. let a = length-absent p.trees y i.unique z in omega arith)
    (λ t. let a = length-like p.trees q.trees y i.unique j.unique
    (record { kind = ap (λ (k : Node). k.kind) (same y t); text = ap (λ (k : Node). k.text) (same y t); count = kids-with_node m p.trees y })
    in omega arith))
    (λ y d. by_times (times_in p.trees y) (λ z. kids-with_node m p.trees y ∙ kids-absent p.trees y z)
    (λ t. kids-with_node m p.trees y ∙ h.leaves y (sym (ap (λ (k : Node). has_data k.kind) (same y t)) ∙ d))) h

-- A node that is placed.
pub room-place : {d e : NodeName → ℕ} {p : Part} {x parent : NodeName} (before : Option NodeName) → IsRoomy d p → CanPlace p.trees x parent →
    HasRoot p.trees x → has_data (kind_of p.trees parent) ≡ false → ((y : NodeName) → d y ≤ e y + one_at parent y) →
    HasRoom e (part_step p (place x parent before))
room-place {e} {p} {x} {parent} before r c top k m =
    let i = r.part in
    let h = r.room in
    let f0 = c.below.there in
    let ts = p.trees in
    let us = placed x parent before ts in
    let j = part-step p (place x parent before) i in
    let same = λ (y : NodeName) (t : HasNode p y). node-placed before y c t in
    let count = λ (y : NodeName). kids-placed before y c top in
    let elsewhere : (y : NodeName) → name_eq parent y ≡ false → kids us y ≡ kids ts y = λ y g. let a = count y in let b : one_at parent y ≡ 0 =
    cond-false (name_eq parent y) 1 0 g in omega arith in
    room-trees e us p.node_count
    (λ y. by_cases (name_eq parent y)
    (λ g. let is = name_eq-true parent y g in
    let here : has_data (kind_of ts y) ≡ false = ap (λ z. has_data (kind_of ts z)) (sym is) ∙ k in
    let there : HasNode p y = subst (HasNode p) is f0 in
    let now : has_data (kind_of us y) ≡ false = ap (λ (n : Node). has_data n.kind) (same y there) ∙ here in
    let a = length-kids ts y i.unique here in let b = length-kids us y j.unique now in let n = count y in let o = m y in omega arith)
    (λ g. by_times (times_in ts y)
    (λ z. let a = length-absent ts y i.unique z in let o = m y in let b : one_at parent y ≡ 0 = cond-false (name_eq parent y) 1 0 g in omega arith)
    (λ t. let a = length-like ts us y i.unique j.unique
    (record { kind = ap (λ (n : Node). n.kind) (same y t); text = ap (λ (n : Node). n.text) (same y t); count = elsewhere y g })
    in let o = m y in let b : one_at parent y ≡ 0 = cond-false (name_eq parent y) 1 0 g in omega arith)))
    (λ y g. by_times (times_in ts y)
    (λ z. by_cases (name_eq parent y) (λ l. absurd (let is = ap (times_in ts) (name_eq-true parent y l) in omega arith))
    (λ l. elsewhere y l ∙ kids-absent ts y z))
    (λ t. let was : has_data (kind_of ts y) ≡ true = sym (ap (λ (n : Node). has_data n.kind) (same y t)) ∙ g in
    by_cases (name_eq parent y) (λ l. absurd (true≢false (sym was ∙ ap (λ z. has_data (kind_of ts z)) (sym (name_eq-true parent y l)) ∙ k)))
    (λ l. elsewhere y l ∙ h.leaves y was))) h

-- Nodes with other contents, as long.
room-mapped : {e : NodeName → ℕ} {p : Part} (f : Node → Node) → KeepsNames f → ((n : Node) → (f n).text ≡ n.text) → IsPart p → HasRoom e p →
    HasRoom e (record p { trees = map_nodes f p.trees })
room-mapped {e} {p} f k t i h =
    let ts = p.trees in
    let us = map_nodes f ts in
    let named = λ (n : Node). (k n).0 in
    let v : Once us = λ y. let o = i.unique y in let s = Rattle.dom_worlds.proofs.TreeChangeLaws.times-map_nodes f named ts y in omega arith in
    let same = λ (y : NodeName) (g : HasNode p y). node-map_nodes f named ts y g in
    room-trees e us p.node_count
    (λ y. by_times (times_in ts y) (λ z. let a = length-absent ts y i.unique z in omega arith)
    (λ g. let a = length-like ts us y i.unique v
    (record {
      kind = ap (λ (n : Node). n.kind) (same y g) ∙ (k (node_in ts y)).1;
      text = ap (λ (n : Node). n.text) (same y g) ∙ t
          (node_in ts y);
      count = kids-map_nodes f named ts y;
    })
    in omega arith))
    (λ y d. by_times (times_in ts y) (λ z. kids-map_nodes f named ts y ∙ kids-absent ts y z)
    (λ g. kids-map_nodes f named ts y ∙ h.leaves y (sym (ap (λ (n : Node). has_data n.kind) (same y g) ∙ ap has_data (k (node_in ts y)).1) ∙ d))) h

-- a change of some nodes leaves their texts
some-text : (test : Node → Bool) (f : Node → Node) → ((n : Node) → (f n).text ≡ n.text) → (n : Node) → (if test n then f n else n).text ≡ n.text
some-text test f h n = either_way (λ (m : Node). m.text ≡ n.text) (test n) (f n) n (h n) refl

-- a node document
pub room-document : (e : NodeName → ℕ) (p : Part) (x d : NodeName) → IsPart p → HasRoom e p → HasRoom e (part_step p (set_document x d))
room-document e p x d i h =
    let test = λ (n : Node). is_in name_eq n.name (inclusive_descendants p.trees x) in
    room-mapped (document_put p.trees x d)
    (some-keeps test (with_document d) (λ n. (refl, refl))) (some-text test (with_document d) (λ n. refl)) i h

-- attributes are no text
attribute-text : (a : Word) (v : Option DomString) (n : Node) → (with_attribute a v n).text ≡ n.text
attribute-text a None n = refl
attribute-text a (Some v) n = refl

-- an attribute
pub room-attribute : {e : NodeName → ℕ} {p : Part} (x : NodeName) (a : Word) (v : Option DomString) → IsPart p → HasRoom e p →
    HasRoom e (part_step p (set_attribute x a v))
room-attribute {e} {p} x a v i h =
    let test = λ (n : Node). name_eq n.name x in
    room-mapped (attribute_put x a v) (some-keeps test (with_attribute a v) (attribute-keeps a v))
    (some-text test (with_attribute a v) (attribute-text a v)) i h

-- a record
pub room-record : (e : NodeName → ℕ) (p : Part) (c : Change NodeName) → HasRoom e p → HasRoom e (part_step p (queue_record c))
room-record e p c h = record { bounds = h.bounds; leaves = h.leaves }

-- another range
pub room-set : {e : NodeName → ℕ} {p : Part} (k : ℕ) (r : Range NodeName) → Under (reach e p) r.start → Under (reach e p) r.end → HasRoom e p →
    HasRoom e (part_step p (set_range k r))
room-set {e} {p} k r a b h = record { bounds = all-set (RangeUnder (reach e p)) p.ranges k (Some r) h.bounds (a, b); leaves = h.leaves }

-- Room is made at a node.
pub room-made : {d : NodeName → ℕ} {p : Part} (e : NodeName → ℕ) (parent : NodeName) (index count : ℕ) → ((y : NodeName) → d y + at_node parent count y ≤ e y) →
    HasRoom d p → HasRoom e (part_step p (make_room parent index count))
room-made {d} {p} e parent index count m h =
    record {
      bounds = ranges-moved (reach d p) (reach e p) (after_insert name_eq parent index count)
          (λ b u. which_way (Under (reach e p)) (name_eq b.node parent && nat_lt index b.offset) (at parent (b.offset + count)) b
          (λ t. let is = name_eq-true b.node parent (and_parts (name_eq b.node parent) (nat_lt index b.offset) t).0 in
          let n = m parent in let l = ap (reach d p) is in let o : at_node parent count parent ≡ count =
          cond-true (name_eq parent parent) count 0 (Rattle.dom_model.proofs.OwnerLaws.name_eq-same parent) in omega arith)
          (λ t. let n = m b.node in omega arith)) p.ranges h.bounds;
      leaves = h.leaves;
    }

-- A removal.
room-left : {e : NodeName → ℕ} {p : Part} {parent : NodeName} (x : NodeName) → parent_of p.trees x ≡ Some parent → IsPart p → HasRoom e p →
    HasRoom e (leave p x parent)
room-left {e} {p} {parent} x g i h =
    let ts = p.trees in
    let us = taken_out x ts in
    let v = unique-taken_out ts x i.unique in
    let index = index_of ts x in
    let below = index-below ts x parent i.unique g in
    let there : HasNode p parent = Rattle.dom_worlds.proofs.InsideAncestors.parent-there ts x parent g in
    let count = λ (y : NodeName). kids-taken_out ts x parent y i.unique g in
    let same = λ (y : NodeName) (t : HasNode p y). node-taken_out ts x y i.unique t in
    let no_data : has_data (kind_of ts parent) ≡ false =
    by_cases (has_data (kind_of ts parent)) (λ k. absurd (let z = h.leaves parent k in omega arith)) (λ k. k) in
    let now_none : has_data (kind_of us parent) ≡ false = ap (λ (n : Node). has_data n.kind) (same parent there) ∙ no_data in
    let was = length-kids ts parent i.unique no_data in
    let now = length-kids us parent v now_none in
    let one : one_at parent parent ≡ 1 = cond-true (name_eq parent parent) 1 0 (Rattle.dom_model.proofs.OwnerLaws.name_eq-same parent) in
    let elsewhere : (y : NodeName) → name_eq parent y ≡ false → length_of ts y ≤ length_of us y =
    λ y k. let z : one_at parent y ≡ 0 = cond-false (name_eq parent y) 1 0 k in
    by_times (times_in ts y) (λ a. let l = length-absent ts y i.unique a in omega arith)
    (λ t. let c = count y in let l = length-like ts us y i.unique v
    (record { kind = ap (λ (n : Node). n.kind) (same y t); text = ap (λ (n : Node). n.text) (same y t); count = omega arith })
    in omega arith) in
    let d : NodeName → ℕ = λ y. length_of us y + e y in
    let here = count parent in
    record {
      bounds = ranges-moved (reach e p) d (after_removal name_eq (is_inclusive_ancestor ts x) parent index)
          (λ b u. which_way (Under d) (is_inclusive_ancestor ts x b.node) (at parent index)
          (if name_eq b.node parent && nat_lt index b.offset then at parent (b.offset - 1) else b)
          (λ t. omega arith)
          (λ t. which_way (Under d) (name_eq b.node parent && nat_lt index b.offset) (at parent (b.offset - 1)) b
          (λ k. let both = and_parts (name_eq b.node parent) (nat_lt index b.offset) k in let l = ap (reach e p)
          (name_eq-true b.node parent both.0) in omega arith)
          (λ k. by_cases (name_eq b.node parent)
          (λ s. let low = ltb-false index b.offset (sym (ap (λ t. t && nat_lt index b.offset) s) ∙ k) in let l = ap d
          (name_eq-true b.node parent s) in omega arith)
          (λ s. let l = elsewhere b.node (name_eq-turned parent b.node ∙ s) in omega arith)))) p.ranges h.bounds;
      leaves = λ y k. by_times (times_in ts y) (λ a. let c = count y in let z = kids-absent ts y a in omega arith)
          (λ t. let c = count y in let z = h.leaves y (sym (ap (λ (n : Node). has_data n.kind) (same y t)) ∙ k) in omega arith);
    }

-- of a node with a parent
pub room-take : (e : NodeName → ℕ) (p : Part) (x : NodeName) → IsPart p → HasRoom e p → HasRoom e (part_step p (take_out x))
room-take e p x i h =
    by_some_is (λ (o : Option NodeName). HasRoom e (option_map_or (leave p x) o p)) (parent_of p.trees x) (λ g. h) (λ parent g. room-left x g i h)

-- Data.
pub length-replaced : (offset count : ℕ) (new old : DomString) →
    length (replaced offset count new old) ≡ min offset (length old) + length new + ((length old - offset) - count)
length-replaced offset count new old =
    let a = length-append (take offset old ++ new) (drop count (drop offset old)) in
    let b = length-append (take offset old) new in
    let c = length-take offset old in
    let d = length-drop count (drop offset old) in
    let e = ap (λ k. k - count) (length-drop offset old) in omega arith

-- data that are replaced, no more than there are
pub room-replace : {e : NodeName → ℕ} {p : Part} (x : NodeName) (offset most : ℕ) (new : DomString) → has_data (kind_of p.trees x) ≡ true → IsRoomy e p →
    HasRoom e (part_step p (replace_data x offset (min most (length (node_in p.trees x).text - offset)) new))
room-replace {e} {p} x offset most new k w =
    let count = min most (length (node_in p.trees x).text - offset) in
    let few : count ≤ length (node_in p.trees x).text - offset = omega arith in
    let ts = p.trees in
    let f : Node → Node = λ n. if name_eq n.name x then with_data_replaced offset count new n else n in
    let us = map_nodes f ts in
    let kept : KeepsNames f = some-keeps (λ (n : Node). name_eq n.name x) (with_data_replaced offset count new) (λ n. (refl, refl)) in
    let named = λ (n : Node). (kept n).0 in
    let v : Once us = λ y. let o = w.part.unique y in let s = Rattle.dom_worlds.proofs.TreeChangeLaws.times-map_nodes f named ts y in omega arith in
    let same = λ (y : NodeName) (g : HasNode p y). node-map_nodes f named ts y g in
    let there = data-there ts x k in
    let name = Rattle.dom_worlds.proofs.PartSteps.name-node_in ts x in
    let now : node_in us x ≡ with_data_replaced offset count new (node_in ts x) =
    same x there ∙ cond-true (name_eq (node_in ts x).name x) (with_data_replaced offset count new (node_in ts x)) (node_in ts x)
    (ap (λ z. name_eq z x) name ∙ Rattle.dom_model.proofs.OwnerLaws.name_eq-same x) in
    let was = length-data ts x k in
    let is = length-data us x (ap (λ (n : Node). has_data n.kind) now ∙ k) in
    let text = ap (λ (n : Node). length n.text) now in
    let size = length-replaced offset count new (node_in ts x).text in
    let elsewhere : (y : NodeName) → name_eq x y ≡ false → length_of ts y ≤ length_of us y =
    λ y g. by_times (times_in ts y) (λ a. let l = length-absent ts y w.part.unique a in omega arith)
    (λ t. let other : node_in us y ≡ node_in ts y =
    same y t ∙ cond-false (name_eq (node_in ts y).name x) (with_data_replaced offset count new (node_in ts y)) (node_in ts y)
    (ap (λ z. name_eq z x) (Rattle.dom_worlds.proofs.PartSteps.name-node_in ts y) ∙ name_eq-turned y x ∙ g) in
    let l = length-like ts us y w.part.unique v
    (record { kind = ap (λ (n : Node). n.kind) other; text = ap (λ (n : Node). n.text) other; count = kids-map_nodes f named ts y }) in omega arith) in
    let d : NodeName → ℕ = λ y. length_of us y + e y in
    record {
      bounds = ranges-moved (reach e p) d (after_replace_data name_eq x offset count (length new))
          (λ b u. which_way (Under d) (not (name_eq b.node x) || nat_le b.offset offset) b
          (if nat_le b.offset (offset + count) then at x offset else at x (b.offset + length new - count))
          (λ t. by_cases (name_eq b.node x)
          (λ s. let l = ap d (name_eq-true b.node x s) in let m = ap (reach e p) (name_eq-true b.node x s) in
          let low = leb-true b.offset offset (sym (ap (λ t. not t || nat_le b.offset offset) s) ∙ t) in omega arith)
          (λ s. let l = elsewhere b.node (name_eq-turned x b.node ∙ s) in omega arith))
          (λ t. let both = or_parts (not (name_eq b.node x)) (nat_le b.offset offset) t in
          let s = not-false (name_eq b.node x) both.0 in
          let m = ap (reach e p) (name_eq-true b.node x s) in
          let high = leb-false b.offset offset both.1 in
          which_way (Under d) (nat_le b.offset (offset + count)) (at x offset) (at x (b.offset + length new - count))
          (λ k. let low = leb-true b.offset (offset + count) k in omega arith)
          (λ k. let low = leb-false b.offset (offset + count) k in omega arith))) p.ranges w.room.bounds;
      leaves = λ y g. by_times (times_in ts y) (λ a. kids-map_nodes f named ts y ∙ kids-absent ts y a)
          (λ t. kids-map_nodes f named ts y ∙ w.room.leaves y (sym (ap (λ (n : Node). has_data n.kind) (same y t) ∙ ap has_data (kept (node_in ts y)).1) ∙ g));
    }

-- Below a parent, at a place among its children.
module _ {p : Part} (h : HasRoom nowhere p) (parent : NodeName) (index : ℕ) where
  -- a split: what is past the offset is in the new node, which stands behind
  pub room-split : (x : NodeName) (offset : ℕ) (new : NodeName) → length_of p.trees x ≤ offset + length_of p.trees new →
      index + 2 ≤ length_of p.trees parent → HasRoom nowhere (part_step p (split_at x offset new parent index))
  room-split x offset new a b =
      record {
        bounds = ranges-moved (reach nowhere p) (reach nowhere p) (after_split name_eq x offset new parent index)
            (λ c u. which_way (Under (reach nowhere p)) (name_eq c.node x && nat_lt offset c.offset) (at new (c.offset - offset))
            (if boundary_eq name_eq c (at parent (index + 1)) then at parent (index + 2) else c)
            (λ t. let both = and_parts (name_eq c.node x) (nat_lt offset c.offset) t in let l = ap (reach nowhere p)
            (name_eq-true c.node x both.0) in omega arith)
            (λ t. either_way (Under (reach nowhere p)) (boundary_eq name_eq c (at parent (index + 1))) (at parent (index + 2)) c (omega arith) u))
            p.ranges h.bounds;
        leaves = h.leaves;
      }

  -- a join: the first Text has room for what was in the next one
  pub room-join : (first : NodeName) (size : ℕ) (next : NodeName) → size + length_of p.trees next ≤ length_of p.trees first →
      HasRoom nowhere (part_step p (join_at first size next parent index))
  room-join first size next a =
      record {
        bounds = ranges-moved (reach nowhere p) (reach nowhere p) (after_join name_eq first size next parent index)
            (λ c u. which_way (Under (reach nowhere p)) (name_eq c.node next) (at first (c.offset + size))
            (if boundary_eq name_eq c (at parent index) then at first size else c)
            (λ t. let l = ap (reach nowhere p) (name_eq-true c.node next t) in omega arith)
            (λ t. either_way (Under (reach nowhere p)) (boundary_eq name_eq c (at parent index)) (at first size) c (omega arith) u)) p.ranges h.bounds;
        leaves = h.leaves;
      }
