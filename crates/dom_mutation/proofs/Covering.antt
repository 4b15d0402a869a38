-- The node documents of a tree, set one after another in tree order.
use Rattle.dom_base.proofs.Std.{◌≡◌, ℕ, ◌<◌, ◌≤◌, Bool, true, false, cond, ◌||◌, List, [], ◌∷◌, ◌++◌, length, Option, Some, option_map, refl, sym, ap, subst}
use Rattle.dom_base.proofs.Std.{◌∙◌, ForSome, cond-true, or-false}
use Rattle.dom_model.proofs.Model.{NodeName, name_eq, is_in, first_of, items_before, items_after, Trees, none, tree, Node, subtree, is_inclusive_ancestor}
use Rattle.dom_model.proofs.Model.{times_in, inclusive_descendants, map_nodes, change_node, with_document, under_document, name_eq-same}
use Rattle.dom_tree.specs.Definitions.{NamedTrees, name_at}
use Rattle.dom_laws.proofs.Laws.{Once, once_subtree, path_mapped, descendants_mapped, names_once, StandsIn, walked, left, Walks, walks, above_inside}
use Rattle.dom_laws.proofs.Laws.{first_inside}

or_group : (a b c : Bool) → (a || (b || c)) ≡ ((a || b) || c)
or_group true b c = refl
or_group false b c = refl

is_in_push : (x y : NodeName) (xs : List NodeName) → is_in name_eq x (xs ++ y ∷ []) ≡ (is_in name_eq x xs || name_eq x y)
is_in_push x y [] = or-false (name_eq x y)
is_in_push x y (z ∷ xs) = ap (λ b. name_eq x z || b) (is_in_push x y xs) ∙ or_group (name_eq x z) (is_in name_eq x xs) (name_eq x y)

-- ---- documents, set in tree order

-- the trees where these nodes have a node document
abbrev pub covered : NodeName → List NodeName → Trees → Trees
covered d done ts = map_nodes (λ n. cond (is_in name_eq n.name done) (with_document d n) n) ts

map_nodes_then : (f g h : Node → Node) → ((n : Node) → f (g n) ≡ h n) → (ts : Trees) → map_nodes f (map_nodes g ts) ≡ map_nodes h ts
map_nodes_then f g h e none = refl
map_nodes_then f g h e (tree n c r) = rw (e n, map_nodes_then f g h e c, map_nodes_then f g h e r) refl

map_nodes_same : (f : Node → Node) → ((n : Node) → f n ≡ n) → (ts : Trees) → map_nodes f ts ≡ ts
map_nodes_same f e none = refl
map_nodes_same f e (tree n c r) = rw (e n, map_nodes_same f e c, map_nodes_same f e r) refl

pub covered_none : (d : NodeName) (ts : Trees) → covered d [] ts ≡ ts
covered_none d ts = map_nodes_same (λ n. n) (λ n. refl) ts

-- one more
pub covered_more : (d y : NodeName) (done : List NodeName) (ts : Trees) →
    change_node (under_document (Some d)) y (covered d done ts) ≡ covered d (done ++ y ∷ []) ts
covered_more d y done ts = map_nodes_then (λ n. cond (name_eq n.name y) (under_document (Some d) n) n)
    (λ n. cond (is_in name_eq n.name done) (with_document d n) n) (λ n. cond (is_in name_eq n.name (done ++ y ∷ [])) (with_document d n) n) each ts
  where
    each : (n : Node) → (let m = cond (is_in name_eq n.name done) (with_document d n) n in cond (name_eq m.name y) (under_document (Some d) m) m)
        ≡ cond (is_in name_eq n.name (done ++ y ∷ [])) (with_document d n) n
    each n = by (is_in name_eq n.name done) (name_eq n.name y) refl refl ∙ ap (λ b. cond b (with_document d n) n) (sym (is_in_push n.name y done))
      where
        by : (a b : Bool) → is_in name_eq n.name done ≡ a → name_eq n.name y ≡ b
            → (let m = cond (is_in name_eq n.name done) (with_document d n) n in cond (name_eq m.name y) (under_document (Some d) m) m) ≡ cond
            (is_in name_eq n.name done || name_eq n.name y) (with_document d n) n
        by true true p q = rw (p, q) refl
        by a b p q = rw (p, q) refl

covered_keeps : (d : NodeName) (done : List NodeName) (n : Node) → (cond (is_in name_eq n.name done) (with_document d n) n).name ≡ n.name
covered_keeps d done n = by (is_in name_eq n.name done)
  where
    by : (b : Bool) → (cond b (with_document d n) n).name ≡ n.name
    by true = refl
    by false = refl

pub descendants_covered : (d : NodeName) (done : List NodeName) (ts : Trees) (x : NodeName) →
    inclusive_descendants (covered d done ts) x ≡ inclusive_descendants ts x
descendants_covered d done ts x = descendants_mapped (λ n. cond (is_in name_eq n.name done) (with_document d n) n) (covered_keeps d done) ts x

-- Of trees in which each name stands once.
module _ (ts : Trees) (once : Once ts) where
  -- also where the documents of some are set
  pub above_covered : (d : NodeName) (done : List NodeName) (x y : NodeName) → is_in name_eq y (inclusive_descendants ts x) ≡ true →
      is_inclusive_ancestor (covered d done ts) x y ≡ true
  above_covered d done x y h = ap (is_in name_eq x)
      (path_mapped (λ n. cond (is_in name_eq n.name done) (with_document d n) n) (covered_keeps d done) ts y) ∙ above_inside ts once x y h

-- ---- the walk over a tree that sets them

-- how far it has come
pub record Sets (names : List NodeName) (d top : NodeName) (was now : Trees) (at : Option ℕ) : Type 0 where
  pub trees : now ≡ covered d (walked (inclusive_descendants was top) (option_map (name_at names) at)) was
  pub stands : StandsIn (inclusive_descendants was top) (option_map (name_at names) at)
  pub node : ForSome at (λ k. k < length names)

pub sets_first : (names : List NodeName) (d : NodeName) (was : Trees) (k : ℕ) → k < length names → 1 ≤ times_in was (name_at names k) →
    Sets names d (name_at names k) was was (Some k)
sets_first names d was k k< there =
    let x = name_at names k in
    let first = first_inside was x there in
    record {
      trees = sym (covered_none d was) ∙
          ap (λ xs. covered d xs was) (sym
          (ap (items_before name_eq x) first.1 ∙ cond-true (name_eq x x) [] (x ∷ items_before name_eq x first.0) (name_eq-same x)));
      stands = ap (is_in name_eq x) first.1 ∙ ap (λ b. b || is_in name_eq x first.0) (name_eq-same x);
      node = λ j e. let same : k ≡ j = cc in subst (λ i. i < length names) same k<;
    }

-- a step of it: the node document of the node under the key is set, and the next node is found
pub record SetsOne (names : List NodeName) (d top : NodeName) (now new : Trees) (k : ℕ) (next : Option ℕ) : Type 0 where
  pub changed : new ≡ change_node (under_document (Some d)) (name_at names k) now
  pub found : option_map (name_at names) next ≡ first_of (items_after name_eq (name_at names k) (inclusive_descendants new top))
  pub near : ForSome next (λ j. j < length names)

-- it goes on with the setting, and fewer nodes are left
pub sets_next : {names : List NodeName} {d top : NodeName} {now new : Trees} {k : ℕ} {next : Option ℕ} → SetsOne names d top now new k next → (was : Trees) →
    Once was → Sets names d top was now (Some k)
    → Sets names d top was new next × (left (inclusive_descendants was top) (option_map (name_at names) next) < left
    (inclusive_descendants was top) (Some (name_at names k)))
sets_next {names} {d} {top} {now} {new} {k} {next} one was once sets =
    let xs = inclusive_descendants was top in
    let y = name_at names k in
    let is : new ≡ covered d (items_before name_eq y xs ++ y ∷ []) was =
    one.changed ∙ ap (change_node (under_document (Some d)) y) sets.trees ∙ covered_more d y (items_before name_eq y xs) was in
    let behind : option_map (name_at names) next ≡ first_of (items_after name_eq y xs) =
    one.found ∙ ap (λ zs. first_of (items_after name_eq y zs))
    (ap (λ t. inclusive_descendants t top) is ∙ descendants_covered d (items_before name_eq y xs ++ y ∷ []) was top) in
    let w = subst (λ o. Walks xs y o) (sym behind) (walks xs (names_once (subtree was top) (once_subtree was top once)) y sets.stands) in
    (record { trees = is ∙ ap (λ zs. covered d zs was) (sym w.more); stands = w.stands; node = one.near }, w.fewer)

-- what the forest asks at a step
pub sets_above : {names : List NodeName} {d top : NodeName} {now new : Trees} {k : ℕ} (was : Trees) → Once was → Sets names d top was now (Some k)
    → new ≡ change_node (under_document (Some d)) (name_at names k) now → is_inclusive_ancestor new top (name_at names k) ≡ true
sets_above {names} {d} {top} {k = k} was once sets changed =
    let xs = inclusive_descendants was top in
    let y = name_at names k in
    ap (λ t. is_inclusive_ancestor t top y)
    (changed ∙ ap (change_node (under_document (Some d)) y) sets.trees ∙ covered_more d y (items_before name_eq y xs) was)
    ∙ above_covered was once d (items_before name_eq y xs ++ y ∷ []) top y sets.stands

-- such a step, told by a forest before and after it
pub record SetsOneIn (g h : NamedTrees) (top d k : ℕ) (next : Option ℕ) : Type 0 where
  pub names : h.names ≡ g.names
  pub changed : h.trees ≡ change_node (under_document (Some (name_at g.names d))) (name_at g.names k) g.trees
  pub found : option_map (name_at h.names) next ≡ first_of (items_after name_eq (name_at h.names k) (inclusive_descendants h.trees (name_at h.names top)))
  pub near : ForSome next (λ j. j < length h.names)

module _ {g h : NamedTrees} {top d k : ℕ} {next : Option ℕ} (one : SetsOneIn g h top d k next) where
  -- it sets the node documents of a tree on, from those of the forest f
  pub sets_on : (f : NamedTrees) (at : Option ℕ) → Once f.trees → at ≡ Some k → g.names ≡ f.names →
      Sets f.names (name_at f.names d) (name_at f.names top) f.trees g.trees at
      → (h.names ≡ f.names) × Sets f.names (name_at f.names d) (name_at f.names top) f.trees h.trees next
      × (left (inclusive_descendants f.trees (name_at f.names top)) (option_map (name_at f.names) next) < left
      (inclusive_descendants f.trees (name_at f.names top)) (option_map (name_at f.names) at))
  sets_on f at once is names sets =
      let xs = inclusive_descendants f.trees (name_at f.names top) in
      let all = one.names ∙ names in
      let step : SetsOne f.names (name_at f.names d) (name_at f.names top) g.trees h.trees k next = record {
        changed = subst (λ (ns : List NodeName). h.trees ≡ change_node (under_document (Some (name_at ns d))) (name_at ns k) g.trees) names one.changed;
        found = subst (λ (ns : List NodeName). option_map (name_at ns) next ≡ first_of
            (items_after name_eq (name_at ns k) (inclusive_descendants h.trees (name_at ns top)))) all one.found;
        near = subst (λ (ns : List NodeName). ForSome next (λ j. j < length ns)) all one.near;
      } in
      let done = sets_next step f.trees once (subst (Sets f.names (name_at f.names d) (name_at f.names top) f.trees g.trees) is sets) in
      (all, done.0, subst (λ (o : Option ℕ). left xs (option_map (name_at f.names) next) < left xs (option_map (name_at f.names) o)) (sym is) done.1)
