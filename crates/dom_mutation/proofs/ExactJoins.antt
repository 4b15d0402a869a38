-- Where a Text gets the data of those directly after it, their indices and lengths stay: so the joins that are made then are
-- those that were planned before.
use Rattle.dom_mutation.proofs.Cited.{◌≡◌, ℕ, ◌+◌, Bool, true, false, cond, List, [], ◌∷◌, drop, length, Option, Some, None, refl, ap, ◌∙◌, flat_map, min, ◌-◌}
use Rattle.dom_mutation.proofs.Cited.{AllByRecursion, option_map_or, NodeName, name_eq, first_of, items_before, Part, join_at, after, replacing_data, joins}
use Rattle.dom_mutation.proofs.Cited.{contiguous_texts_after, Trees, none, tree, Node, node_in, kind_of, names_of, roots, subtree, trees_below, children_of}
use Rattle.dom_mutation.proofs.Cited.{parent_of, index_of, length_of, map_nodes, change_node, with_data_replaced, IsPart, has_node-times, subtree_mapped}
use Rattle.dom_mutation.proofs.Cited.{path_mapped}
use Rattle.dom_worlds.proofs.RangeLemmas.{text-data, joining-fits}
use Rattle.dom_mutation.proofs.NormalizedEach.{IsTextOf}

-- ---- children and indices, where nodes get other contents

module _ (f : Node → Node) (keeps : (n : Node) → (f n).name ≡ n.name) where
  roots_mapped : (ts : Trees) → names_of (roots (map_nodes f ts)) ≡ names_of (roots ts)
  roots_mapped none = refl
  roots_mapped (tree n c r) = λ j. keeps n j ∷ roots_mapped r j

  pub children_mapped : (ts : Trees) (x : NodeName) → children_of (map_nodes f ts) x ≡ children_of ts x
  children_mapped ts x = ap (λ t. names_of (roots (trees_below t))) (subtree_mapped f keeps ts x) ∙ below (subtree ts x)
    where
      below : (t : Trees) → names_of (roots (trees_below (map_nodes f t))) ≡ names_of (roots (trees_below t))
      below none = refl
      below (tree n c r) = roots_mapped c

  pub index_mapped : (ts : Trees) (x : NodeName) → index_of (map_nodes f ts) x ≡ index_of ts x
  index_mapped ts x =
      ap (λ path. length (items_before name_eq x (option_map_or (children_of (map_nodes f ts)) (first_of (drop 1 path)) (x ∷ [])))) (path_mapped f keeps ts x)
      ∙ ap (λ ys. length (items_before name_eq x ys)) (by (parent_of ts x))
    where
      by : (p : Option NodeName) → option_map_or (children_of (map_nodes f ts)) p (x ∷ []) ≡ option_map_or (children_of ts) p (x ∷ [])
      by None = refl
      by (Some p) = children_mapped ts p

-- of one node
pub index_changed : (f : Node → Node) → ((n : Node) → (f n).name ≡ n.name) → (x : NodeName) (ts : Trees) (y : NodeName) →
    index_of (change_node f x ts) y ≡ index_of ts y
index_changed f keeps x ts y = index_mapped (λ n. cond (name_eq n.name x) (f n) n) (λ n. by (name_eq n.name x) n) ts y
  where
    by : (t : Bool) (n : Node) → (cond t (f n) n).name ≡ n.name
    by true n = keeps n
    by false n = refl

-- ---- joins

-- those made after the data came are the plan's
pub joins_after : (x q : NodeName) {p : Part} (size : ℕ) → IsPart p → IsTextOf p x → {parent : NodeName} → parent_of p.trees x ≡ Some parent →
    let nexts = contiguous_texts_after p.trees x in
    let all = flat_map (λ y. (node_in p.trees y).text) nexts in
    joins (after p (replacing_data x (length_of p.trees x) 0 all p)).trees x q size nexts ≡ joins p.trees x q size nexts
joins_after x q {p} size i is {parent} up =
    let nexts = contiguous_texts_after p.trees x in
    let all = flat_map (λ y. (node_in p.trees y).text) nexts in
    let now = after p (replacing_data x (length_of p.trees x) 0 all p) in
    let fits = joining-fits x parent p i (has_node-times p.trees x is.there) (text-data (kind_of p.trees x) is.text) up in
    joins_same now.trees size nexts
    (λ y. index_changed (with_data_replaced (length_of p.trees x) (min 0 (length (node_in p.trees x).text - length_of p.trees x)) all)
    (λ n. refl) x p.trees y) fits.1
  where
    -- the same indices and lengths, the same joins
    joins_same : (us : Trees) (k : ℕ) (ys : List NodeName) → ((y : NodeName) → index_of us y ≡ index_of p.trees y) →
        AllByRecursion (λ y. length_of us y ≡ length_of p.trees y) ys → joins us x q k ys ≡ joins p.trees x q k ys
    joins_same us k [] index lengths = refl
    joins_same us k (y ∷ ys) index lengths =
        ap (λ i. join_at x k y q i ∷ joins us x q (k + length_of us y) ys) (index y)
        ∙ (ap (λ n. join_at x k y q (index_of p.trees y) ∷ joins us x q (k + n) ys) lengths.0
        ∙ ap (λ steps. join_at x k y q (index_of p.trees y) ∷ steps) (joins_same us (k + length_of p.trees y) ys index lengths.1))
