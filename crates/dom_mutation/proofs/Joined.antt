-- Normalization: the Texts directly after a Text, their data, and the Texts below a node.
use Rattle.dom_mutation.proofs.Cited.{◌≡◌, ℕ, suc, ◌<◌, ◌≤◌, inl, inr, Bool, true, false, List, [], ◌∷◌, ◌++◌, drop, length, map, Option, Some, None}
use Rattle.dom_mutation.proofs.Cited.{option_map, refl, sym, ap, subst, ◌∙◌, arith, ◌==◌, ◌||◌, filter, flat_map, take_while, if◌then◌else◌, AllByRecursion}
use Rattle.dom_mutation.proofs.Cited.{ForSome, option_map_or, cases_Bool, cond-true, cond-false, or_left, map-append, append-nil, append_assoc, drop-append-le}
use Rattle.dom_mutation.proofs.Cited.{filter-append, none-some, same_Some, take_while-cons, NodeName, Owner, DomString, name_eq, first_of, is_empty, is_in}
use Rattle.dom_mutation.proofs.Cited.{Step, items_before, items_after, Trees, kind_of, is_text, node_in, length_of, siblings, parent_of, from_next}
use Rattle.dom_mutation.proofs.Cited.{from_sibling, next_sibling, has_node, has_node-times, is_inclusive_ancestor, inclusive_ancestors, observed, remove_plan}
use Rattle.dom_mutation.proofs.Cited.{contiguous_texts_after, joining, normalizing_text, name_eq-same, name_at, DocState, planned, name_in, owner_in, trees_in}
use Rattle.dom_mutation.proofs.Cited.{IsOwnNode, Once, once_subtree, first_inside, self-above, ◌&&◌, not, by_cases, needs_normalizing, inclusive_descendants}
use Rattle.dom_mutation.proofs.Cited.{part_of, subtree, world_after, NoTwice, names_once, walked, StandsIn, left, Walks, walks}
use Rattle.dom_tree.proofs.Owned.{read_own, stays_own}
use Rattle.dom_mutation.proofs.OwnNodes.{next_near}
use Rattle.dom_tree.specs.Definitions.{AreOwned, NamedTrees, trees_of_owner}
use Rattle.dom_mutation.proofs.Placed.{Counted, once_in}
use Rattle.dom_mutation.proofs.Listing.{all_push}

-- ---- the Texts directly after a Text

-- some names, and where a walk along these Texts stands, that Text and those after it
abbrev pub with_rest : Trees → List NodeName → Option NodeName → List NodeName
with_rest ts xs None = xs
with_rest ts xs (Some y) = xs ++ y ∷ contiguous_texts_after ts y

abbrev pub rest_length : Trees → Option NodeName → ℕ
rest_length ts None = 0
rest_length ts (Some y) = suc (length (contiguous_texts_after ts y))

-- with the first of some names, these are all of them
record IsRest (ts : Trees) (zs : List NodeName) (o : Option NodeName) : Type 0 where
  pub all : (xs : List NodeName) → with_rest ts xs o ≡ xs ++ zs
  pub size : rest_length ts o ≡ length zs

rest_none : (ts : Trees) (zs : List NodeName) → zs ≡ [] → IsRest ts zs (first_of zs)
rest_none ts zs e = subst (λ ys. IsRest ts ys (first_of ys)) (sym e) (record { all = λ xs. sym (append-nil xs); size = refl })

rest_some : (ts : Trees) (zs : List NodeName) (y : NodeName) → zs ≡ y ∷ contiguous_texts_after ts y → IsRest ts zs (first_of zs)
rest_some ts zs y e = subst (λ ys. IsRest ts ys (first_of ys)) (sym e) (record { all = λ xs. refl; size = refl })

-- so they are with the first Text after a Text
after_rest : (ts : Trees) → Once ts → (x : NodeName) → IsRest ts (contiguous_texts_after ts x) (first_of (contiguous_texts_after ts x))
after_rest ts once x = by (next_sibling ts x) refl
  where
    text : NodeName → Bool
    text y = is_text (kind_of ts y)

    by : (o : Option NodeName) → next_sibling ts x ≡ o → IsRest ts (contiguous_texts_after ts x) (first_of (contiguous_texts_after ts x))
    by None e = rest_none ts (contiguous_texts_after ts x) (ap (take_while text) (sym (from_next ts once x) ∙ ap (from_sibling ts) e))
    by (Some y) e =
        let is : contiguous_texts_after ts x ≡ (if text y then y ∷ contiguous_texts_after ts y else []) =
        ap (take_while text) (sym (from_next ts once x) ∙ ap (from_sibling ts) e) ∙ take_while-cons text y (items_after name_eq y (siblings ts y)) in
        elim (cases_Bool (text y)) [
          | inl h ↦ rest_some ts (contiguous_texts_after ts x) y (is ∙ cond-true (text y) (y ∷ contiguous_texts_after ts y) [] h)
          | inr h ↦ rest_none ts (contiguous_texts_after ts x) (is ∙ cond-false (text y) (y ∷ contiguous_texts_after ts y) [] h)
        ]

-- the first of them
first_while : (p : NodeName → Bool) (zs : List NodeName) (y : NodeName) → first_of zs ≡ Some y → first_of (take_while p zs) ≡ (if p y then Some y else None)
first_while p [] y e = cc
first_while p (z ∷ zs) y e = by (p z) refl
  where
    same : z ≡ y
    same = let h : Some z ≡ Some y = e in cc

    by : (b : Bool) → p z ≡ b → first_of (take_while p (z ∷ zs)) ≡ (if p y then Some y else None)
    by true h =
        ap first_of (take_while-cons p z zs ∙ cond-true (p z) (z ∷ take_while p zs) [] h) ∙ ap (λ w. Some w) same ∙
        sym (cond-true (p y) (Some y) None (ap p (sym same) ∙ h))
    by false h = ap first_of (take_while-cons p z zs ∙ cond-false (p z) (z ∷ take_while p zs) [] h) ∙ sym (cond-false (p y) (Some y) None (ap p (sym same) ∙ h))

-- one that no Text is behind is the only one
pub only_rest : (ts : Trees) → Once ts → (x y : NodeName) → first_of (contiguous_texts_after ts x) ≡ Some y → None ≡ first_of (contiguous_texts_after ts y) →
    y ∷ [] ≡ contiguous_texts_after ts x
only_rest ts once x y is none =
    let no = after_rest ts once y in
    ap (λ zs. y ∷ zs) ((subst (IsRest ts (contiguous_texts_after ts y)) (sym none) no).all []) ∙
    (subst (IsRest ts (contiguous_texts_after ts x)) is (after_rest ts once x)).all []

-- that is the next sibling, where it is a Text
pub text_next : (ts : Trees) (x y : NodeName) (b : Bool) → next_sibling ts x ≡ Some y → is_text (kind_of ts y) ≡ b →
    (if b then Some y else None) ≡ first_of (contiguous_texts_after ts x)
text_next ts x y b next kind = sym (first_while (λ y. is_text (kind_of ts y)) (items_after name_eq x (siblings ts x)) y next ∙
    ap (λ t. if t then Some y else None) kind)

-- whether there are some is what the first of the names before them tells
pub some_while : (p : NodeName → Bool) (zs : List NodeName) (y : NodeName) → first_of zs ≡ Some y → p y ≡ not (is_empty (take_while p zs))
some_while p [] y e = absurd (none-some y e)
some_while p (z ∷ zs) y e = ap p (sym same) ∙ by (p z) refl
  where
    same : z ≡ y
    same = same_Some z y e

    by : (b : Bool) → p z ≡ b → p z ≡ not (is_empty (take_while p (z ∷ zs)))
    by true h = h ∙ ap (λ (ys : List NodeName). not (is_empty ys)) (sym (take_while-cons p z zs ∙ cond-true (p z) (z ∷ take_while p zs) [] h))
    by false h = h ∙ ap (λ (ys : List NodeName). not (is_empty ys)) (sym (take_while-cons p z zs ∙ cond-false (p z) (z ∷ take_while p zs) [] h))

pub none_while : (p : NodeName → Bool) (zs : List NodeName) → first_of zs ≡ None → false ≡ not (is_empty (take_while p zs))
none_while p [] e = refl
none_while p (z ∷ zs) e = absurd (none-some z (sym e))

-- two tests that agree of that name tell the same
same_while : (p q : NodeName → Bool) (zs : List NodeName) → ((y : NodeName) → first_of zs ≡ Some y → p y ≡ q y) →
    not (is_empty (take_while p zs)) ≡ not (is_empty (take_while q zs))
same_while p q [] same = refl
same_while p q (z ∷ zs) same = sym (some_while p (z ∷ zs) z refl) ∙ (same z refl ∙ some_while q (z ∷ zs) z refl)

-- how far the loop has come that lists them
pub record Follows (d : DocState) (node : ℕ) (keys : List ℕ) (at : Option ℕ) : Type 0 where
  pub listed : with_rest (trees_in d node) (map (name_in d) keys) (option_map (name_in d) at) ≡ contiguous_texts_after (trees_in d node) (name_in d node)
  pub nodes : AllByRecursion (IsOwnNode d node) keys
  pub here : ForSome at (IsOwnNode d node)

pub follows_first : (d : DocState) → Counted d → (node : ℕ) (at : Option ℕ) →
    option_map (name_in d) at ≡ first_of (contiguous_texts_after (trees_in d node) (name_in d node)) → ForSome at (IsOwnNode d node) → Follows d node [] at
follows_first d counted node at found near = record {
  listed = ap (with_rest (trees_in d node) []) found ∙ (after_rest (trees_in d node) (once_in d counted (owner_in d node)) (name_in d node)).all [];
  nodes = tt;
  here = near;
}

-- a step of it
pub follows_next : {d : DocState} → Counted d → {node : ℕ} {keys : List ℕ} {at : Option ℕ} (next : Option ℕ) {k : ℕ} → at ≡ Some k → Follows d node keys at
    → option_map (name_in d) next ≡ first_of (contiguous_texts_after (trees_in d k) (name_in d k)) → ForSome next (IsOwnNode d k)
    → Follows d node (keys ++ k ∷ []) next ×
    (rest_length (trees_in d node) (option_map (name_in d) next) < rest_length (trees_in d node) (option_map (name_in d) at))
follows_next {d} counted {node} {keys} next {k} is follows found near =
    let ts = trees_in d node in
    let y = name_in d k in
    let here = follows.here k is in
    let own : option_map (name_in d) next ≡ first_of (contiguous_texts_after ts y) = found ∙ ap (λ o. first_of (contiguous_texts_after
    (part_of d.world o).trees y)) here.1 in
    let rest = subst (IsRest ts (contiguous_texts_after ts y)) (sym own) (after_rest ts (once_in d counted (owner_in d node)) y) in
    let listed = subst (λ (o : Option ℕ). with_rest ts (map (name_in d) keys) (option_map (name_in d) o) ≡ contiguous_texts_after ts
    (name_in d node)) is follows.listed in
    let size = rest.size in (
      record {
        listed = rest.all (map (name_in d) (keys ++ k ∷ [])) ∙ ap (λ xs. xs ++ contiguous_texts_after ts y) (map-append (name_in d) keys (k ∷ [])) ∙
            append_assoc (map (name_in d) keys) (y ∷ []) (contiguous_texts_after ts y) ∙ listed;
        nodes = all_push (IsOwnNode d node) keys k follows.nodes here;
        here = λ j e. let h = near j e in (h.0, h.1 ∙ here.1);
      },
      subst (λ (o : Option ℕ). rest_length ts (option_map (name_in d) next) < rest_length ts (option_map (name_in d) o)) (sym is) (omega (arith, size)),
    )

-- ---- their data

-- how far the loop has come that collects it, with these Texts left
pub record Collects (d : DocState) (top : ℕ) (all : List ℕ) (units : DomString) (rest : List ℕ) : Type 0 where
  pub data_is : let text_of = λ (y : NodeName). (node_in (trees_in d top) y).text in
      units ++ flat_map text_of (map (name_in d) rest) ≡ flat_map text_of (map (name_in d) all)
  pub nodes : AllByRecursion (IsOwnNode d top) rest

-- ---- joining

-- nodes stay nodes where the names are the same
pub own_nodes : (d e : DocState) (top : ℕ) (ks : List ℕ) → e.names ≡ d.names → AllByRecursion (IsOwnNode d top) ks → AllByRecursion (IsOwnNode e top) ks
own_nodes d e top ks names h = subst (λ (ns : List NodeName). AllByRecursion
    (λ k. (k < length ns) × ((name_at ns k).owner ≡ (name_at ns top).owner)) ks) (sym names) h

-- ---- one Text

-- what is done with it is its plan: it leaves, it stays, or it is joined with those after it
module _ (d : DocState) (node : ℕ) where
  abbrev o : Owner
  o = owner_in d node

  abbrev x : NodeName
  x = name_in d node

  abbrev ts : Trees
  ts = trees_in d node

  abbrev join_to : List NodeName → NodeName → List Step
  join_to nexts q = if is_empty nexts then [] else joining x q nexts (part_of d.world o)

  abbrev steps_if : Bool → Option NodeName → List NodeName → List Step
  steps_if b up nexts = if b then remove_plan observed x (part_of d.world o) else option_map_or (join_to nexts) up []

  abbrev after_steps : List Step → DocState
  after_steps steps = record d { world = world_after o d.world steps }

  pub normal_joined : {e : DocState} {q y : NodeName} (ks : List ℕ) → (length_of ts x == 0) ≡ false → parent_of ts x ≡ Some q →
      map (name_in d) ks ≡ contiguous_texts_after ts x → first_of (contiguous_texts_after ts x) ≡ Some y
      → e ≡ planned o (joining x q (map (name_in d) ks)) d → e ≡ planned o (normalizing_text x) d
  normal_joined {y = y} [] h up listed some is = absurd (none-some y (ap first_of listed ∙ some))
  normal_joined {q = q} (k ∷ ks) h up listed some is =
      is ∙ ap (λ ys. after_steps (steps_if false (Some q) ys)) listed ∙ ap (λ a. after_steps (steps_if false a (contiguous_texts_after ts x))) (sym up) ∙
      ap (λ b. after_steps (steps_if b (parent_of ts x) (contiguous_texts_after ts x))) (sym h)

-- ---- the Texts below a node

abbrev pub below_of : DocState → ℕ → List NodeName
below_of d top = inclusive_descendants (trees_in d top) (name_in d top)

-- those Texts that normalization changes
abbrev pub is_needed : Trees → NodeName → Bool
is_needed ts y = is_text (kind_of ts y) && needs_normalizing ts y

abbrev pub texts_in : DocState → ℕ → List NodeName → List NodeName
texts_in d top xs = filter (is_needed (trees_in d top)) xs

-- what the forest finds of an owner's nodes is so in the owner's trees
module _ (d : DocState) (f : NamedTrees) (names : f.names ≡ d.names) (trees : (o : Owner) → trees_of_owner o f.trees ≡ (part_of d.world o).trees)
    (owned : AreOwned f.trees) (top : ℕ) where
  pub stands_own : has_node (trees_in d top) (name_in d top) ≡ true → is_inclusive_ancestor f.trees (name_at f.names top) (name_at f.names top) ≡ true
  stands_own there =
      ap (λ ns. is_inclusive_ancestor f.trees (name_at ns top) (name_at ns top)) names ∙
      ap (is_in name_eq (name_in d top)) ((read_own f.trees owned (owner_in d top) (name_in d top) refl).path ∙
      ap (λ ts. inclusive_ancestors ts (name_in d top)) (trees (owner_in d top))) ∙
      self-above (trees_in d top) (name_in d top) (has_node-times (trees_in d top) (name_in d top) there)

  pub found_own : (k : ℕ) (next : Option ℕ) → option_map (name_at f.names) next ≡ first_of
      (items_after name_eq (name_at f.names k) (inclusive_descendants f.trees (name_at f.names top))) →
      option_map (name_in d) next ≡ first_of (items_after name_eq (name_in d k) (below_of d top))
  found_own k next e =
      subst (λ ns. option_map (name_at ns) next ≡ first_of (items_after name_eq (name_at ns k) (inclusive_descendants f.trees (name_at ns top)))) names e ∙
      ap (λ zs. first_of (items_after name_eq (name_in d k) zs)) ((read_own f.trees owned (owner_in d top) (name_in d top) refl).inside ∙
      ap (λ ts. inclusive_descendants ts (name_in d top)) (trees (owner_in d top)))

  pub near_own : (next : Option ℕ) → ForSome next (λ j. j < length f.names) →
      ForSome next (λ j. is_inclusive_ancestor f.trees (name_at f.names top) (name_at f.names j) ≡ true) → ForSome next (IsOwnNode d top)
  near_own next node within j e = (
    subst (λ ns. j < length ns) names (node j e),
    subst (λ ns. (name_at ns j).owner ≡ (name_at ns top).owner) names
        (sym ((stays_own f.trees owned (name_at f.names j).owner (name_at f.names j) refl).path (name_at f.names top) (within j e))),
  )

  pub text_own : (k : ℕ) → is_text (kind_of f.trees (name_at f.names k)) ≡ is_text (kind_of (trees_in d k) (name_in d k))
  text_own k =
      ap (λ ns. is_text (kind_of f.trees (name_at ns k))) names ∙
      ap (λ n. is_text n.kind) ((read_own f.trees owned (owner_in d k) (name_in d k) refl).node ∙ ap (λ ts. node_in ts (name_in d k)) (trees (owner_in d k)))

  -- ---- what a Text of an owner needs

  module _ (k : ℕ) where
    abbrev the_text : NodeName
    the_text = name_in d k

    abbrev its_trees : Trees
    its_trees = trees_of_owner (owner_in d k) f.trees

    same_next : (y : NodeName) → next_sibling f.trees the_text ≡ Some y → is_text (kind_of f.trees y) ≡ is_text (kind_of its_trees y)
    same_next y e =
        ap (λ n. is_text n.kind) (read_own f.trees owned (owner_in d k) y (next_near f.trees owned (owner_in d k) the_text y refl e)).node

    same_nexts : not (is_empty (contiguous_texts_after f.trees the_text)) ≡ not (is_empty (contiguous_texts_after its_trees the_text))
    same_nexts =
        same_while (λ y. is_text (kind_of f.trees y)) (λ y. is_text (kind_of its_trees y)) (items_after name_eq the_text (siblings f.trees the_text)) same_next
        ∙ ap (λ zs. not (is_empty (take_while (λ y. is_text (kind_of its_trees y)) (items_after name_eq the_text zs))))
        (read_own f.trees owned (owner_in d k) the_text refl).sibling_list

    -- it is the same in the trees of all and in the owner's
    pub needs_own : needs_normalizing f.trees (name_at f.names k) ≡ needs_normalizing (trees_in d k) (name_in d k)
    needs_own =
        ap (λ ns. needs_normalizing f.trees (name_at ns k)) names
        ∙ (ap (λ n. (length n.text == 0) || not (is_empty (contiguous_texts_after f.trees the_text))) (read_own f.trees owned (owner_in d k) the_text refl).node
        ∙ (ap (λ b. (length (node_in its_trees the_text).text == 0) || b) same_nexts ∙ ap (λ ts. needs_normalizing ts the_text) (trees (owner_in d k))))

-- how far the loop has come that lists them
pub record Gathers (d : DocState) (top : ℕ) (keys : List ℕ) (at : Option ℕ) : Type 0 where
  pub listed : map (name_in d) keys ≡ texts_in d top (drop 1 (walked (below_of d top) (option_map (name_in d) at)))
  pub stands : StandsIn (below_of d top) (option_map (name_in d) at)
  pub some : 1 ≤ length (walked (below_of d top) (option_map (name_in d) at))
  pub nodes : AllByRecursion (IsOwnNode d top) keys
  pub here : ForSome at (IsOwnNode d top)

-- each stands once in tree order
below_once : (d : DocState) → Counted d → (top : ℕ) → NoTwice (below_of d top)
below_once d counted top = names_once (subtree (trees_in d top) (name_in d top))
    (once_subtree (trees_in d top) (name_in d top) (once_in d counted (owner_in d top)))

-- at the first one
pub gathers_first : {d : DocState} → Counted d → {top : ℕ} {at : Option ℕ} → has_node (trees_in d top) (name_in d top) ≡ true
    → option_map (name_in d) at ≡ first_of (items_after name_eq (name_in d top) (below_of d top)) → ForSome at (IsOwnNode d top) → Gathers d top [] at
gathers_first {d} counted {top} {at} there found near =
    let x = name_in d top in
    let xs = below_of d top in
    let first = first_inside (trees_in d top) x (has_node-times (trees_in d top) x there) in
    let in_it : is_in name_eq x xs ≡ true = ap (is_in name_eq x) first.1 ∙ or_left (name_eq x x) (is_in name_eq x first.0) (name_eq-same x) in
    let w = subst (λ o. Walks xs x o) (sym found) (walks xs (below_once d counted top) x in_it) in
    let none : items_before name_eq x xs ≡ [] =
    ap (items_before name_eq x) first.1 ∙ cond-true (name_eq x x) [] (x ∷ items_before name_eq x first.0) (name_eq-same x) in
    let start : walked xs (option_map (name_in d) at) ≡ x ∷ [] = w.more ∙ ap (λ zs. zs ++ x ∷ []) none in
    record {
      listed = sym (ap (λ zs. texts_in d top (drop 1 zs)) start);
      stands = w.stands;
      some = subst (λ (zs : List NodeName). 1 ≤ length zs) (sym start) (omega arith);
      nodes = tt;
      here = near;
    }

-- a step of it, at a Text or another node
module _ (d : DocState) (counted : Counted d) (top : ℕ) (keys : List ℕ) (at next : Option ℕ) (k : ℕ) (is : at ≡ Some k) (gathers : Gathers d top keys at)
    (found : option_map (name_in d) next ≡ first_of (items_after name_eq (name_in d k) (below_of d top))) (near : ForSome next (IsOwnNode d top)) where
  abbrev xs : List NodeName
  xs = below_of d top

  abbrev y : NodeName
  y = name_in d k

  walk : Walks xs y (option_map (name_in d) next)
  walk = subst (λ o. Walks xs y o) (sym found)
      (walks xs (below_once d counted top) y (subst (λ (o : Option ℕ). StandsIn xs (option_map (name_in d) o)) is gathers.stands))

  before : map (name_in d) keys ≡ texts_in d top (drop 1 (items_before name_eq y xs))
  before = subst (λ (o : Option ℕ). map (name_in d) keys ≡ texts_in d top (drop 1 (walked xs (option_map (name_in d) o)))) is gathers.listed

  some_before : 1 ≤ length (items_before name_eq y xs)
  some_before = subst (λ (o : Option ℕ). 1 ≤ length (walked xs (option_map (name_in d) o))) is gathers.some

  more : texts_in d top (drop 1 (walked xs (option_map (name_in d) next))) ≡ map (name_in d) keys ++ texts_in d top (y ∷ [])
  more =
      ap (λ zs. texts_in d top (drop 1 zs)) walk.more ∙ ap (texts_in d top) (drop-append-le 1 (items_before name_eq y xs) (y ∷ []) some_before)
      ∙ filter-append (is_needed (trees_in d top)) (drop 1 (items_before name_eq y xs)) (y ∷ []) ∙
      ap (λ zs. zs ++ texts_in d top (y ∷ [])) (sym before)

  longer : 1 ≤ length (walked xs (option_map (name_in d) next))
  longer =
      subst (λ (zs : List NodeName). 1 ≤ length zs) (sym walk.more)
      (let size = Rattle.std.proofs.lemmas.List.length_push (items_before name_eq y xs) y in omega (arith, size))

  own_test : is_needed (trees_in d k) y ≡ is_needed (trees_in d top) y
  own_test = ap (λ o. is_needed (part_of d.world o).trees y) (gathers.here k is).1

  gathers_needed : is_needed (trees_in d k) y ≡ true → Gathers d top (keys ++ k ∷ []) next
  gathers_needed needed = record {
    listed = map-append (name_in d) keys (k ∷ []) ∙
        ap (λ zs. map (name_in d) keys ++ zs)
        (sym (cond-true (is_needed (trees_in d top) y) (y ∷ []) [] (sym own_test ∙ needed))) ∙ sym more;
    stands = walk.stands;
    some = longer;
    nodes = all_push (IsOwnNode d top) keys k gathers.nodes (gathers.here k is);
    here = near;
  }

  gathers_not : is_needed (trees_in d k) y ≡ false → Gathers d top keys next
  gathers_not other = record {
    listed = sym (more ∙ ap (λ zs. map (name_in d) keys ++ zs)
        (cond-false (is_needed (trees_in d top) y) (y ∷ []) [] (sym own_test ∙ other)) ∙ append-nil (map (name_in d) keys));
    stands = walk.stands;
    some = longer;
    nodes = gathers.nodes;
    here = near;
  }

  -- of a Text
  pub gathers_text : {now : List ℕ} → true ≡ is_text (kind_of (trees_in d k) y) →
      now ≡ keys ++ (if needs_normalizing (trees_in d k) y then k ∷ [] else []) → Gathers d top now next
  gathers_text text listed =
      by_cases (needs_normalizing (trees_in d k) y)
      (λ e. subst (λ (ks : List ℕ). Gathers d top ks next)
      (sym (listed ∙ ap (λ (ks : List ℕ). keys ++ ks) (cond-true (needs_normalizing (trees_in d k) y) (k ∷ []) [] e)))
      (gathers_needed (ap (λ b. b && needs_normalizing (trees_in d k) y) (sym text) ∙ e)))
      (λ e. subst (λ (ks : List ℕ). Gathers d top ks next)
      (sym (listed ∙ ap (λ (ks : List ℕ). keys ++ ks) (cond-false (needs_normalizing (trees_in d k) y) (k ∷ []) [] e) ∙ append-nil keys))
      (gathers_not (ap (λ b. b && needs_normalizing (trees_in d k) y) (sym text) ∙ e)))

  -- of another node
  pub gathers_other : false ≡ is_text (kind_of (trees_in d k) y) → Gathers d top keys next
  gathers_other text = gathers_not (ap (λ b. b && needs_normalizing (trees_in d k) y) (sym text))

  pub gathers_fewer : left xs (option_map (name_in d) next) < left xs (option_map (name_in d) at)
  gathers_fewer = subst (λ (o : Option ℕ). left xs (option_map (name_in d) next) < left xs (option_map (name_in d) o)) (sym is) walk.fewer
