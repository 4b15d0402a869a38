-- Parents, children, siblings and the names in tree order, in trees where each name stands once.
use Rattle.dom_base.proofs.Std.{◌≡◌, inl, inr, Bool, true, false, cond, List, [], ◌∷◌, ◌++◌, drop, Some, refl, sym, ap, subst, ◌∙◌, arith, AllByRecursion}
use Rattle.dom_base.proofs.Std.{cases_Bool, cond-true, cond-false, map-append, none-some}
use Rattle.dom_model.proofs.Model.{NodeName, name_eq, first_of, items_after, Trees, none, tree, Node, roots, names_of, subtree, or_else, trees_below}
use Rattle.dom_model.proofs.Model.{inclusive_ancestors, parent_of, children_of, nodes, next_sibling, times_in, inclusive_descendants, map_nodes, change_node}
use Rattle.dom_model.proofs.Model.{name_eq-true}
use Rattle.dom_laws.proofs.Lists.{In, Single, is_in-not}
use Rattle.dom_laws.proofs.Counts.{Once, once_parts}
use Rattle.dom_laws.proofs.Shapes.{Has, has_or_not, times-present, above-absent, above-parent, subtree-absent}
use Rattle.dom_laws.proofs.Children.{Has-names, Single-names, parent-of_child, children-single}
use Rattle.dom_laws.proofs.Paths.{Lacks, lacks_from}

-- ---- lists

-- each name of a list
abbrev pub Each : (NodeName → Type 0) → List NodeName → Type 0
Each P xs = AllByRecursion P xs

pub each_all : (P Q : NodeName → Type 0) → ((x : NodeName) → P x → Q x) → (xs : List NodeName) → Each P xs → Each Q xs
each_all P Q f [] h = tt
each_all P Q f (x ∷ xs) h = (f x h.0, each_all P Q f xs h.1)

-- what holds of all members holds of each name
each_in : (P : NodeName → Type 0) (xs : List NodeName) → ((x : NodeName) → In x xs → P x) → Each P xs
each_in P [] h = tt
each_in P (x ∷ xs) h = (h x (inl refl), each_in P xs (λ y i. h y (inr i)))

-- no name stands twice in a list
abbrev pub NoTwice : List NodeName → Type 0
NoTwice [] = Unit {0}
NoTwice (x ∷ xs) = Lacks x xs × NoTwice xs

-- the same, by members
twice_single : (xs : List NodeName) → Single xs → NoTwice xs
twice_single [] single = tt
twice_single (x ∷ xs) single = (lacks_from x xs (is_in-not x xs single.0), twice_single xs single.1)

-- the names in tree order lack what does not stand there
pub names_lack : (ts : Trees) (x : NodeName) → times_in ts x ≡ 0 → Lacks x (names_of (nodes ts))
names_lack ts x e = lacks_from x (names_of (nodes ts)) (is_in-not x (names_of (nodes ts)) (λ i. omega (arith, e, times-present x ts (Has-names ts x i))))

-- each stands once in tree order
pub names_once : (ts : Trees) → Once ts → NoTwice (names_of (nodes ts))
names_once ts once = twice_single (names_of (nodes ts)) (Single-names ts once)

-- what is below a first root
pub once_below : (ts : Trees) → Once ts → Once (trees_below ts)
once_below none once = once
once_below (tree n c r) once = (once_parts n c r once).below

-- ---- parents and children

-- a node with a parent stands on top of its parent's inclusive ancestors
pub parent_path : (ts : Trees) → Once ts → (x p : NodeName) → parent_of ts x ≡ Some p → inclusive_ancestors ts x ≡ x ∷ inclusive_ancestors ts p
parent_path ts once x p e = elim (has_or_not ts x) [
  | inl h ↦ (above-parent ts x p once h e).0
  | inr off ↦ absurd (none-some p (ap (λ path. first_of (drop 1 path)) (sym (above-absent ts x off)) ∙ e))
]

-- a node that is not there has no children
no_children : (ts : Trees) (p : NodeName) → (Has ts p → ⊥) → children_of ts p ≡ []
no_children ts p off = ap (λ (us : Trees). names_of (roots (trees_below us))) (subtree-absent ts p off)

abbrev HasParent : Trees → NodeName → NodeName → Type 0
HasParent ts p x = parent_of ts x ≡ Some p

-- the children of a node have it as their parent
pub children_parent : (ts : Trees) → Once ts → (p : NodeName) → Each (λ x. parent_of ts x ≡ Some p) (children_of ts p)
children_parent ts once p = elim (has_or_not ts p) [
  | inl h ↦ each_in (HasParent ts p) (children_of ts p) (λ x i. (parent-of_child ts p x once h i).0)
  | inr off ↦ subst (Each (HasParent ts p)) (sym (no_children ts p off)) tt
]

-- and none stands twice among them
pub children_once : (ts : Trees) (p : NodeName) → Once ts → NoTwice (children_of ts p)
children_once ts p once = elim (has_or_not ts p) [
  | inl h ↦ twice_single (children_of ts p) (children-single ts p once h)
  | inr off ↦ subst NoTwice (sym (no_children ts p off)) tt
]

-- ---- siblings

-- what stands behind a name: others, and of the same kind
behind_others : (x : NodeName) (xs : List NodeName) → NoTwice xs → Lacks x (items_after name_eq x xs)
behind_others x [] once = tt
behind_others x (y ∷ ys) once = elim (cases_Bool (name_eq x y)) [
  | inl h ↦ rw h (subst (λ z. Lacks z ys) (sym (name_eq-true x y h)) once.0)
  | inr h ↦ rw h (behind_others x ys once.1)
]

pub behind_all : (P : NodeName → Type 0) (x : NodeName) (xs : List NodeName) → Each P xs → Each P (items_after name_eq x xs)
behind_all P x [] h = tt
behind_all P x (y ∷ ys) h = elim (cases_Bool (name_eq x y)) [
  | inl e ↦ rw e h.1
  | inr e ↦ rw e (behind_all P x ys h.1)
]

first_all : (P : NodeName → Type 0) (xs : List NodeName) → Each P xs → (y : NodeName) → first_of xs ≡ Some y → P y
first_all P [] h y e = cc
first_all P (x ∷ xs) h y e = let same : x ≡ y = cc in subst P same h.0

pub first_lacks : (x : NodeName) (xs : List NodeName) → Lacks x xs → (y : NodeName) → first_of xs ≡ Some y → name_eq x y ≡ false
first_lacks x [] h y e = cc
first_lacks x (z ∷ zs) h y e = let same : z ≡ y = cc in subst (λ w. name_eq x w ≡ false) same h.0

-- Of trees in which each name stands once.
module _ (ts : Trees) (once : Once ts) where
  -- a walk from a child to its next sibling
  pub next_walked : (x p : NodeName) → parent_of ts x ≡ Some p → next_sibling ts x ≡ first_of (items_after name_eq x (children_of ts p))
  next_walked x p up = ap (λ o. first_of (items_after name_eq x (Rattle.std.specs.Option.option_map_or (children_of ts) o (x ∷ [])))) up

  -- the next sibling of a child is another child
  pub next_child : (x p y : NodeName) → parent_of ts x ≡ Some p → next_sibling ts x ≡ Some y → (parent_of ts y ≡ Some p) × (name_eq x y ≡ false)
  next_child x p y up next =
      let e : first_of (items_after name_eq x (children_of ts p)) ≡ Some y = sym (next_walked x p up) ∙ next in (
        first_all (HasParent ts p) (items_after name_eq x (children_of ts p))
            (behind_all (HasParent ts p) x (children_of ts p) (children_parent ts once p)) y e,
        first_lacks x (items_after name_eq x (children_of ts p)) (behind_others x (children_of ts p) (children_once ts p once)) y e,
      )

-- ---- other contents

-- nodes that keep their names keep their places
pub path_mapped : (f : Node → Node) → ((n : Node) → (f n).name ≡ n.name) → (ts : Trees) (x : NodeName) →
    inclusive_ancestors (map_nodes f ts) x ≡ inclusive_ancestors ts x
path_mapped f keeps none x = refl
path_mapped f keeps (tree n c r) x = rw (keeps n, path_mapped f keeps c x, path_mapped f keeps r x) refl

-- the names in a tree stay
names_mapped : (f : Node → Node) → ((n : Node) → (f n).name ≡ n.name) → (ts : Trees) → names_of (nodes (map_nodes f ts)) ≡ names_of (nodes ts)
names_mapped f keeps none = refl
names_mapped f keeps (tree n c r) = rw (keeps n)
    (ap (λ xs. n.name ∷ xs) (both (nodes (map_nodes f c)) (nodes c) (names_mapped f keeps c) (names_mapped f keeps r)))
  where
    both : (ms ns : List Node) → names_of ms ≡ names_of ns → names_of (nodes (map_nodes f r)) ≡ names_of (nodes r) →
        names_of (ms ++ nodes (map_nodes f r)) ≡ names_of (ns ++ nodes r)
    both ms ns e h = map-append (λ m. m.name) ms (nodes (map_nodes f r)) ∙ rw (e, h) (sym (map-append (λ m. m.name) ns (nodes r)))

pub subtree_mapped : (f : Node → Node) → ((n : Node) → (f n).name ≡ n.name) → (ts : Trees) (x : NodeName) →
    subtree (map_nodes f ts) x ≡ map_nodes f (subtree ts x)
subtree_mapped f keeps none x = refl
subtree_mapped f keeps (tree n c r) x = elim (cases_Bool (name_eq n.name x)) [
  | inl h ↦ cond-true (name_eq (f n).name x) (tree (f n) (map_nodes f c) none) mapped (ap (λ y. name_eq y x) (keeps n) ∙ h) ∙
      sym (ap (map_nodes f) (cond-true (name_eq n.name x) (tree n c none) (or_else (subtree c x) (subtree r x)) h))
  | inr h ↦
      cond-false (name_eq (f n).name x) (tree (f n) (map_nodes f c) none) mapped (ap (λ y. name_eq y x) (keeps n) ∙ h)
      ∙ ap (λ t. or_else t (subtree (map_nodes f r) x)) (subtree_mapped f keeps c x) ∙ ap (or_else (map_nodes f (subtree c x)))
      (subtree_mapped f keeps r x) ∙ either (subtree c x)
      ∙ sym (ap (map_nodes f) (cond-false (name_eq n.name x) (tree n c none) (or_else (subtree c x) (subtree r x)) h))
]
  where
    mapped : Trees
    mapped = or_else (subtree (map_nodes f c) x) (subtree (map_nodes f r) x)

    either : (t : Trees) → or_else (map_nodes f t) (map_nodes f (subtree r x)) ≡ map_nodes f (or_else t (subtree r x))
    either none = refl
    either (tree m d s) = refl

pub descendants_mapped : (f : Node → Node) → ((n : Node) → (f n).name ≡ n.name) → (ts : Trees) (x : NodeName) →
    inclusive_descendants (map_nodes f ts) x ≡ inclusive_descendants ts x
descendants_mapped f keeps ts x = ap (λ t. names_of (nodes t)) (subtree_mapped f keeps ts x) ∙ names_mapped f keeps (subtree ts x)

-- the children of a node stay
root_names : (f : Node → Node) → ((n : Node) → (f n).name ≡ n.name) → (ts : Trees) → names_of (roots (map_nodes f ts)) ≡ names_of (roots ts)
root_names f keeps none = refl
root_names f keeps (tree n c r) = rw (keeps n, root_names f keeps r) refl

children_mapped : (f : Node → Node) → ((n : Node) → (f n).name ≡ n.name) → (ts : Trees) (x : NodeName) →
    children_of (map_nodes f ts) x ≡ children_of ts x
children_mapped f keeps ts x = ap (λ t. names_of (roots (trees_below t))) (subtree_mapped f keeps ts x) ∙ below (subtree ts x)
  where
    below : (t : Trees) → names_of (roots (trees_below (map_nodes f t))) ≡ names_of (roots (trees_below t))
    below none = refl
    below (tree n c r) = root_names f keeps c

-- a change of some nodes keeps their names
pub same_if : (b : Bool) (f : Node → Node) → ((n : Node) → (f n).name ≡ n.name) → (n : Node) → (cond b (f n) n).name ≡ n.name
same_if true f same n = same n
same_if false f same n = refl

-- so one node with other contents leaves all nodes where they stand
module _ (f : Node → Node) (keeps : (n : Node) → (f n).name ≡ n.name) (x : NodeName) (ts : Trees) (y : NodeName) where
  pub path_changed : inclusive_ancestors (change_node f x ts) y ≡ inclusive_ancestors ts y
  path_changed = path_mapped (λ n. cond (name_eq n.name x) (f n) n) (λ n. same_if (name_eq n.name x) f keeps n) ts y

  pub children_changed : children_of (change_node f x ts) y ≡ children_of ts y
  children_changed = children_mapped (λ n. cond (name_eq n.name x) (f n) n) (λ n. same_if (name_eq n.name x) f keeps n) ts y
