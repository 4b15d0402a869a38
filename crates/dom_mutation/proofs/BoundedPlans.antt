-- Where in each plan live ranges' offsets are asked to be within lengths: before room is made, before data grow, and before a
-- join. The bounds hold there, in an owner's part, if they held before the plan.
use Rattle.dom_mutation.proofs.Cited.{◌≡◌, ◌≤◌, ◌<◌, ℕ, ◌+◌, true, false, List, [], ◌∷◌, length, Some, None, sym, ap, subst, ◌∙◌, arith, IsTrue, flat_map}
use Rattle.dom_mutation.proofs.Cited.{AllByRecursion, cond-false, NodeName, Observing, suppressed, in_turn, remove_plan, emptying, child_list, Part}
use Rattle.dom_mutation.proofs.Cited.{queue_record, after, replacing_data, normalizing_text, contiguous_texts_after, Trees, node_in, has_node, has_data}
use Rattle.dom_mutation.proofs.Cited.{is_text, kind_of, children_of, parent_of, index_of, length_of, HasBounds, IsPart, nowhere, room-of, bounds-of}
use Rattle.dom_mutation.proofs.Cited.{queue_record-keeps, room-removals, text-data, total, joining-fits, room-normalizing_text, times-has_node, index-below}
use Rattle.dom_mutation.proofs.Cited.{length-children, has_node-times, after-append, still, leads-removals, leads-normalizing_text, JoinsFit}
use Rattle.dom_mutation.proofs.OwnParts.{children_few}

-- ---- lengths

-- a node without data has at most as many children as its owner has nodes
pub length_few : (p : Part) → IsPart p → (x : NodeName) → has_data (kind_of p.trees x) ≡ false → length_of p.trees x ≤ p.node_count
length_few p i x plain = let is = cond-false (has_data (kind_of p.trees x)) (length (node_in p.trees x).text) (length (children_of p.trees x))
    plain in let few = children_few p i x in omega arith

-- the index of a child is below that count
pub index_few : (p : Part) → IsPart p → (x parent : NodeName) → parent_of p.trees x ≡ Some parent → index_of p.trees x < p.node_count
index_few p i x parent up =
    let a = index-below p.trees x parent i.unique up in let b = length-children p.trees parent i.unique in let few = children_few p i parent in omega arith

-- ---- removals

-- nodes leave their parents, one after another
pub removals-keep : (how : Observing) (xs : List NodeName) (p : Part) → IsPart p → HasBounds p → HasBounds (after p (in_turn (remove_plan how) xs p))
removals-keep how xs p i h = bounds-of (after p (in_turn (remove_plan how) xs p)) (leads-removals how xs p i).changed.part
    (room-removals nowhere how xs p i (room-of p i h))

pub removals-part : (how : Observing) (xs : List NodeName) (p : Part) → IsPart p → IsPart (after p (in_turn (remove_plan how) xs p))
removals-part how xs p i = (leads-removals how xs p i).changed.part

-- a fragment loses its children: so room may be made for them
pub emptying-keeps : (node : NodeName) (moved : List NodeName) (p : Part) → IsPart p → HasBounds p → HasBounds (after p (emptying node moved p))
emptying-keeps node moved p i h =
    let gone = in_turn (remove_plan suppressed) moved p in
    let told = queue_record (child_list node [] moved None None) in
    subst HasBounds (sym (after-append p gone (told ∷ [])))
    (queue_record-keeps (after p gone) (child_list node [] moved None None) (removals-part suppressed moved p i)
    (removals-keep suppressed moved p i h))

-- ---- texts

-- a Text is normalized: so the next one may be
pub normalized_text-keeps : (x : NodeName) (p : Part) → IsPart p → IsTrue (has_node p.trees x) → is_text (kind_of p.trees x) ≡ true →
    HasBounds p → HasBounds (after p (normalizing_text x p))
normalized_text-keeps x p i there text h =
    let t = has_node-times p.trees x there in
    bounds-of (after p (normalizing_text x p)) (leads-normalizing_text p x i t).changed.part (room-normalizing_text p x i (t, text) (room-of p i h))

-- and a Text that is there is one then
pub normalized_text-leaves : (x y : NodeName) {p : Part} → IsPart p → IsTrue (has_node p.trees x) → IsTrue (has_node p.trees y) →
    is_text (kind_of p.trees y) ≡ true
    → IsTrue (has_node (after p (normalizing_text x p)).trees y) × (is_text (kind_of (after p (normalizing_text x p)).trees y) ≡ true)
normalized_text-leaves x y {p} i there there_y text =
    let changed = (leads-normalizing_text p x i (has_node-times p.trees x there)).changed in
    let t = has_node-times p.trees y there_y in
    (times-has_node (after p (normalizing_text x p)).trees y (still changed y t), ap is_text (changed.kinds y t) ∙ text)

-- where a Text got the data of those directly after it, each of these may be joined to it
pub joining-joins_fit : (x parent : NodeName) {p : Part} → IsPart p → IsTrue (has_node p.trees x) → is_text (kind_of p.trees x) ≡ true →
    parent_of p.trees x ≡ Some parent →
    let nexts = contiguous_texts_after p.trees x in
    JoinsFit (after p (replacing_data x (length_of p.trees x) 0 (flat_map (λ y. (node_in p.trees y).text) nexts) p)).trees x (length_of p.trees x) nexts
joining-joins_fit x parent {p} i there text up =
    let nexts = contiguous_texts_after p.trees x in
    let q = after p (replacing_data x (length_of p.trees x) 0 (flat_map (λ y. (node_in p.trees y).text) nexts) p) in
    let fits = joining-fits x parent p i (has_node-times p.trees x there) (text-data (kind_of p.trees x) text) up in
    each q.trees (length_of p.trees x) nexts fits.0 fits.1
  where
    each : (us : Trees) (size : ℕ) (ys : List NodeName) → size + total p.trees ys ≤ length_of us x →
        AllByRecursion (λ y. length_of us y ≡ length_of p.trees y) ys → JoinsFit us x size ys
    each us size [] few same = tt
    each us size (y ∷ ys) few same =
        let is = same.0 in (
          omega arith,
          subst (λ k. JoinsFit us x (size + k) ys) (sym is)
              (each us (size + length_of p.trees y) ys (omega arith) same.1),
        )
