-- What is kept beside an owner's registrations, so that those on a node are found by one look.
use Rattle.std.specs.Prelude.{◌≡◌, ℕ, ◌+◌, ◌<◌, ◌≤◌, ◌&&◌, Bool, true, false, nat_eq, List, [], ◌∷◌, Option, Some, None, length, map, filter, take, is_some}
use Rattle.std.specs.Prelude.{if◌then◌else◌}
use Rattle.std.specs.List.{list_any}
use Rattle.std.specs.Option.{option_map_or}
use Rattle.indexmap.specs.IndexMap.{get}
use Rattle.dom_model.specs.Names.{is_in}
use Rattle.dom_model.specs.Observers.{Registration, is_asked_for}
use Rattle.dom_observers.specs.declared.owned.Owned.{Owned}
use Rattle.dom_observers.specs.declared.places.Places.{Places}
use Rattle.dom_observers.specs.declared.places.Places.TheVariants.{One, More}
use Rattle.dom_observers.specs.declared.registered.Registered.{Registered}
use Rattle.dom_observers.specs.declared.removal.Removal.{Removal}
use Rattle.dom_observers.specs.declared.removal.Removal.TheVariants.{Of, TransientsOf, CopiesOf}
use Rattle.dom_observers.specs.declared.watched.Watched.{Watched}
use Rattle.dom_observers.specs.Views.{registration_of, those_there, there_in}
use Rattle.dom_observers.specs.Removals.{goes}
use Rattle.dom_observers.specs.Marks.{is_marked}

-- the places of a node's registrations, in order (own rule)
abbrev pub places_in : Places → List ℕ
places_in (One place) = place ∷ []
places_in (More list gone) = list.items

-- those of a node that may have some
abbrev pub places_or : Option Places → List ℕ
places_or o = option_map_or places_in o []

-- the places that are noted of a node (own rule)
abbrev pub places_at : Watched → ℕ → List ℕ
places_at w x = places_or (get nat_eq w.places x)

-- the places of the registrations on a node, where the first has this number (own rule)
abbrev pub places_from : ℕ → ℕ → List (Registration ℕ) → List ℕ
places_from x n [] = []
places_from x n (r ∷ rs) = if nat_eq r.node x then n ∷ places_from x (n + 1) rs else places_from x (n + 1) rs

-- of some places those of registrations that have not gone
abbrev pub there_of : List Registered → List ℕ → List ℕ
there_of rs places = filter (λ i. is_some (there_in rs i)) places

-- Some places, and what is left of them where places of registrations that have gone may have been dropped: those of all that are there,
-- in their order, and none that was not among them (own rule).
pub record AreThinned (rs : List Registered) (before after : List ℕ) : Type 0 where
  pub there : there_of rs after ≡ there_of rs before
  pub fewer : (i : ℕ) → is_in nat_eq i after ≡ true → is_in nat_eq i before ≡ true

-- whether a registration is on a node, and observes what is below it
abbrev pub is_above : ℕ → Registration ℕ → Bool
is_above x r = nat_eq r.node x && r.options.subtree

-- the places among which are those of the registrations that go, of those that are noted (own rule)
abbrev pub among : Owned → Removal → List ℕ
among w (Of k) = places_or (get nat_eq w.observers k)
among w (TransientsOf ks) = places_in w.transients
among w (CopiesOf k x) = places_in w.transients

-- As many registrations as are noted, from the first on: of each node just the places of those on it, but for some that have gone, and
-- no other node than those above has one that observes what is below it; and each that is there is found among those that go with it
-- (own rule).
pub record AreNoted (w : Watched) (rs : List Registered) : Type 0 where
  pub within : w.noted ≤ length rs
  pub places : (x : ℕ) → AreThinned rs (places_from x 0 (take w.noted (map registration_of rs))) (places_at w x)
  pub above : (x : ℕ) → is_marked w.above x ≡ false → list_any (is_above x) (take w.noted (map registration_of rs)) ≡ false
  pub found : (removal : Removal) (i : ℕ) (r : Registration ℕ) → i < w.noted → there_in rs i ≡ Some r → goes removal r ≡ true
      → is_in nat_eq i (among w.owned removal) ≡ true

-- a place with a registration that passes a test, or none where none of those that were looked at passes it
abbrev pub IsPlaceOf : (Registration ℕ → Bool) → List Registered → List (Registration ℕ) → Option ℕ → Type 0
IsPlaceOf p rs looked_at None = list_any p looked_at ≡ false
IsPlaceOf p rs looked_at (Some i) = option_map_or p (there_in rs i) false ≡ true

-- What is kept beside an owner's registrations: which are noted, and how many have gone. No observer has two on a node that it asked
-- for (DOM Standard, observe()).
pub record AreKept (w : Watched) (gone : ℕ) (rs : List Registered) : Type 0 where
  pub noted : AreNoted w rs
  pub counted : gone + length (those_there rs) ≡ length rs
  pub once : (k x : ℕ) → length (filter (is_asked_for nat_eq k x) (those_there rs)) ≤ 1
