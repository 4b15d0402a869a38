-- The trees on an event's way by their places: those around a tree, and what is seen of its nodes from another one.
use Rattle.std.specs.Prelude.{◌≡◌, ℕ, zero, suc, ◌<◌, ◌≤◌, nat_eq, true, List, [], ◌∷◌, ◌++◌, slice_get, Option, Some, None, is_some, if◌then◌else◌}
use Rattle.std.specs.Option.{option_and_then, option_map_or}
use Rattle.dom_model.specs.Names.{is_in}
use Rattle.dom_path.specs.declared.trees.Tree.{Tree}

-- a tree may stand at a place: the one in which its root's host stands has a place before it
pub record IsNested (place : ℕ) (t : Tree) : Type 0 where
  pub within : t.outer ≤ place
  pub behind : is_some t.host ≡ true → t.outer < place

-- each may
abbrev pub AreNested : List Tree → Type 0
AreNested trees = (place : ℕ) (t : Tree) → slice_get trees place ≡ Some t → IsNested place t

-- more trees stand behind the old ones
abbrev pub Grows : List Tree → List Tree → Type 0
Grows old new = (more : List Tree) × (new ≡ old ++ more)

module _ (trees : List Tree) where
  -- the roots of the tree at a place and of the trees around it, at most so many
  abbrev pub roots_up : ℕ → ℕ → List ℕ
  roots_up zero place = []
  roots_up (suc n) place = option_map_or (λ (t : Tree). t.root ∷ (if is_some t.host then roots_up n t.outer else [])) (slice_get trees place) []

  -- all of them
  abbrev pub roots_around : ℕ → List ℕ
  roots_around place = roots_up (suc place) place

  -- the host of the tree at a place, where its nodes are hidden from those of the tree of the viewer: its root is none of the roots
  -- around that one (DOM Standard, concept: closed-shadow-hidden)
  abbrev pub hiding_host : ℕ → ℕ → Option ℕ
  hiding_host viewer place = option_and_then (λ (t : Tree). if is_in nat_eq t.root (roots_around viewer) then None else t.host) (slice_get trees place)

  -- the place of the tree in which that host stands
  abbrev pub outer_of : ℕ → ℕ
  outer_of place = option_map_or (λ (t : Tree). t.outer) (slice_get trees place) 0

  -- what is seen of a node in the tree at a place, at most so many trees up
  abbrev pub seen_up : ℕ → ℕ → ℕ → ℕ → ℕ
  seen_up zero viewer node place = node
  seen_up (suc n) viewer node place = option_map_or (λ host. seen_up n viewer host (outer_of place)) (hiding_host viewer place) node

  -- what is seen of it (DOM Standard, concept: retarget)
  abbrev pub seen_from : ℕ → ℕ → ℕ → ℕ
  seen_from viewer node place = seen_up (suc place) viewer node place
