-- Steps aside and up by keys, within the tree of a node.
use Rattle.dom_traversal.proofs.Cited.{◌≡◌, ℕ, ◌<◌, true, false, not, eqb, ◌++◌, length, Option, Some, None, sym, ap, ◌∙◌, arith, is_some, option_map, ForSome}
use Rattle.dom_traversal.proofs.Cited.{above-parent, above-within, beyond, first_of, here, inclusive_ancestors, is_inclusive_ancestor, IsWithin, IsWithin-key}
use Rattle.dom_traversal.proofs.Cited.{name_at, NamedTrees, next_places, next_sibling, no_next, NodeName, other_name, parent_of, StandAlone, StandOnce}
use Rattle.dom_traversal.proofs.Cited.{stands_in, StandsIn, StandsIn-found, TellApart, Trees, was_some, within-parent, within-root, IsWalkerOf, KeyedWalker}

-- the next sibling is the first node beyond
first-tree : {ts : Trees} {top x s : NodeName} → IsWithin ts top x → (x ≡ top → ⊥) → next_sibling ts x ≡ Some s → first_of (beyond ts top x) ≡ Some s
first-tree {ts} {top} {x} {s} w other e =
    let is = next_places ts top x s w other e in
    ap first_of (is.1 ∙ ap (λ xs. xs ++ beyond ts top s) (here ts top s is.0))

-- A key that stands in the tree of another one and is not that one, in a forest where nodes stand once.
pub record IsInner (f : NamedTrees) (top k : ℕ) : Type 0 where
  pub once : StandOnce f
  pub only : StandAlone f
  pub stands : StandsIn f top k
  pub other : name_at f.names k ≡ name_at f.names top → ⊥

-- such a key, where the test says that it is not the top
pub inner-name : {f : NamedTrees} {top k : ℕ} → StandOnce f → StandAlone f → TellApart f.names → top < length f.names → StandsIn f top k →
    not (eqb k top) ≡ true → IsInner f top k
inner-name {f} {top} {k} once only apart at_top stands e =
    record { once = once; only = only; stands = stands; other = other_name f apart k top stands.node at_top e }

-- the current node of a walker, in the tree of its root
pub walker-within : {f : NamedTrees} {w : KeyedWalker} → StandOnce f → StandAlone f → IsWalkerOf f w →
    is_inclusive_ancestor f.trees (name_at f.names w.root) (name_at f.names w.current) ≡ true →
    IsWithin f.trees (name_at f.names w.root) (name_at f.names w.current)
walker-within {f} {w} once only placed within = IsWithin-key f once only w.root w.current (record { node = placed.current; within = within })

-- and where it is not the root
pub walker-inner : {f : NamedTrees} {w : KeyedWalker} → StandOnce f → StandAlone f → TellApart f.names → IsWalkerOf f w →
    is_inclusive_ancestor f.trees (name_at f.names w.root) (name_at f.names w.current) ≡ true → eqb w.current w.root ≡ false → IsInner f w.root w.current
walker-inner once only apart placed within e =
    inner-name once only apart placed.root (record { node = placed.current; within = within }) (ap not e)

-- its name stands there too
pub inner-within : {f : NamedTrees} {top k : ℕ} → IsInner f top k → IsWithin f.trees (name_at f.names top) (name_at f.names k)
inner-within {f} {top} {k} i = IsWithin-key f i.once i.only top k i.stands

-- a step aside goes to what is beyond a node
pub next_step : {f : NamedTrees} {top k : ℕ} (next : Option ℕ) → IsInner f top k →
    option_map (name_at f.names) next ≡ next_sibling f.trees (name_at f.names k) → ForSome next (λ j. j < length f.names) → is_some next ≡ true
    → (option_map (name_at f.names) next ≡ first_of (beyond f.trees (name_at f.names top) (name_at f.names k))) × ForSome next (StandsIn f top)
next_step {f} {top} {k} next i is node some =
    let w = inner-within i in
    let found = was_some next some in
    let named : option_map (name_at f.names) next ≡ Some (name_at f.names found.0) = ap (option_map (name_at f.names)) found.1 in (
      named ∙ sym (first-tree w i.other (sym is ∙ named)),
      StandsIn-found f top next is node (λ y e. (next_places f.trees (name_at f.names top) (name_at f.names k) y w i.other e).0),
    )

-- a step up, by itself
pub parent_step : {f : NamedTrees} {top k : ℕ} (p : ℕ) → IsInner f top k → Some (name_at f.names p) ≡ parent_of f.trees (name_at f.names k) →
    p < length f.names
    → StandsIn f top p × (length (inclusive_ancestors f.trees (name_at f.names p)) < length (inclusive_ancestors f.trees (name_at f.names k)))
parent_step {f} {top} {k} p i up node =
    let w = inner-within i in
    let longer = (above-parent f.trees (name_at f.names k) (name_at f.names p) w.once
    (stands_in f.trees (name_at f.names top) (name_at f.names k) w) (sym up)).0 in (
      record {
        node = node;
        within = above-within f.trees (name_at f.names top) (name_at f.names p)
            (within-parent f.trees (name_at f.names top) (name_at f.names k) (name_at f.names p) w i.other (sym up));
      },
      omega (arith, ap (length {A = NodeName}) longer),
    )

-- a step up, where there is no node aside
pub record Climbs (f : NamedTrees) (top k p : ℕ) : Type 0 where
  pub stands : StandsIn f top p
  pub beyond_is : beyond f.trees (name_at f.names top) (name_at f.names k) ≡ beyond f.trees (name_at f.names top) (name_at f.names p)
  pub higher : length (inclusive_ancestors f.trees (name_at f.names p)) < length (inclusive_ancestors f.trees (name_at f.names k))

-- the parent then has the same nodes beyond
pub climb_step : {f : NamedTrees} {top k : ℕ} (p : ℕ) → IsInner f top k → next_sibling f.trees (name_at f.names k) ≡ None →
    Some (name_at f.names p) ≡ parent_of f.trees (name_at f.names k) → p < length f.names → Climbs f top k p
climb_step {f} {top} {k} p i last up node =
    let step = parent_step p i up node in
    record {
      stands = step.0;
      beyond_is = no_next f.trees (name_at f.names top) (name_at f.names k) (name_at f.names p) (inner-within i) i.other (sym up) last;
      higher = step.1;
    }

-- only the top has no node above it
pub climb_ends : {f : NamedTrees} {top k : ℕ} → IsInner f top k → None ≡ parent_of f.trees (name_at f.names k) → ⊥
climb_ends {f} {top} {k} i up = within-root f.trees (name_at f.names top) (name_at f.names k) (inner-within i) i.other (sym up)
