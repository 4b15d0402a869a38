-- How a table holds its entries: each in a place, and for each node the places of its entries.
use Rattle.std.specs.Prelude.{◌≡◌, ◌⊎◌, ℕ, ◌+◌, ◌<◌, ◌++◌, nat_eq, Bool, true, false, ◌&&◌, ◌||◌, List, [], ◌∷◌, filter, filter_map, length, slice_get, Option}
use Rattle.std.specs.Prelude.{if◌then◌else◌, string_bytes, String, Vec}
use Rattle.std.specs.BTreeMap.{BTreeMap, get_by_text}
use Rattle.std.specs.BTreeSet.{contains_text}
use Rattle.std.specs.declared.alloc.Global.{Global}
use Rattle.std.specs.List.{AllByRecursion, list_any}
use Rattle.std.specs.Option.{option_flatten, option_map_or}
use Rattle.dom_model.specs.Listeners.{Listener}
use Rattle.dom_model.specs.Names.{Word, text_eq}
use Rattle.dom_dispatch.specs.Entries.{listener_of, listeners_in}
use Rattle.dom_dispatch.specs.declared.listeners.Entry.{Entry}
use Rattle.dom_dispatch.specs.declared.place_list.PlaceList.{PlaceList}
use Rattle.dom_dispatch.specs.declared.place_list.PlaceList.TheVariants.{Empty, One, More, ByType}
use Rattle.dom_dispatch.specs.declared.places.Places.{Places}
use Rattle.dom_dispatch.specs.declared.types.Types.{Types}
use Rattle.dom_dispatch.specs.declared.types.TypeSet.{TypeSet}

-- the entries that are there
abbrev pub present : List (Option Entry) → List Entry
present es = filter_map (λ o. o) es

-- the entry in a place, if there is one
abbrev pub entry_at : List (Option Entry) → ℕ → Option Entry
entry_at es i = option_flatten (slice_get es i)

-- the entries in some places
abbrev pub picked : List (Option Entry) → List ℕ → List Entry
picked es places = filter_map (entry_at es) places

-- whether a listener is at a node and of a type
abbrev pub is_of_type : ℕ → Word → Listener ℕ → Bool
is_of_type k t l = nat_eq l.node k && text_eq l.words.event t

-- whether what stands in a place is a listener that passes a test
abbrev pub passes : (Listener ℕ → Bool) → Option Entry → Bool
passes p o = option_map_or (λ (e : Entry). p (listener_of e)) o false

-- whether a place has a listener that passes a test
abbrev pub passes_in : (Listener ℕ → Bool) → List (Option Entry) → ℕ → Bool
passes_in p es i = passes p (entry_at es i)

-- the places with listeners that pass a test, where the first place has this number
abbrev pub places_from : (Listener ℕ → Bool) → ℕ → List (Option Entry) → List ℕ
places_from p n [] = []
places_from p n (o ∷ es) = if passes p o then n ∷ places_from p (n + 1) es else places_from p (n + 1) es

-- the places of the listeners that came first, of any type
abbrev pub first_in : PlaceList → List ℕ
first_in Empty = []
first_in (One place) = place ∷ []
first_in (More places) = places.value.items
first_in (ByType places) = places.value.first.items

-- the places under a type
abbrev pub listed_under : BTreeMap (String Global) (Vec ℕ Global) → Word → List ℕ
listed_under m t = option_map_or (λ (places : Vec ℕ Global). places.items) (get_by_text m t) []

-- the places of the listeners that came later and are of a type
abbrev pub rest_in : PlaceList → Word → List ℕ
rest_in (ByType places) t = listed_under places.value.rest t
rest_in list t = []

-- the places where a listener of a type may be
abbrev pub places_in : PlaceList → Word → List ℕ
places_in list t = first_in list ++ rest_in list t

-- those of a node; a node without a list has none
abbrev pub places_at : Places → ℕ → Word → List ℕ
places_at p k t = option_map_or (λ list. places_in list t) (slice_get p.rows.items k) []

-- a place was put behind others; where they are not its own, they may also stay as they were
abbrev pub MayPut : Bool → ℕ → List ℕ → List ℕ → Type 0
MayPut own place old new = (new ≡ old ++ place ∷ []) ⊎ ((new ≡ old) × (own ≡ false))

-- for each node and type just its listeners stand in these places, in order, and no such place is past the others
pub record IsIndexed (p : Places) (es : List (Option Entry)) : Type 0 where
  pub listed : (k : ℕ) (t : Word) → filter (passes_in (is_of_type k t) es) (places_at p k t) ≡ places_from (is_of_type k t) 0 es
  pub within : (k : ℕ) (t : Word) → AllByRecursion (λ i. i < length es) (places_at p k t)

-- whether a type is among these: among those that came first, or later
abbrev pub has_type : TypeSet → Word → Bool
has_type types event = list_any (λ (t : String Global). text_eq (string_bytes t) event) types.first.items || contains_text types.later event

-- whether a type is among those of capturing listeners, or among those of the others
abbrev pub is_noted : Types → Bool → Word → Bool
is_noted types capturing event = if capturing then types.any_capturing && has_type types.capturing event else has_type types.others event

-- the type of each listener is among these, for capturing ones or for the others
abbrev pub HasTypes : Types → List (Listener ℕ) → Type 0
HasTypes types ls = AllByRecursion (λ (l : Listener ℕ). is_noted types l.words.capture l.words.event ≡ true) ls

-- how a table of listeners is kept
pub record IsTable (p : Places) (es : List (Option Entry)) (types : Types) : Type 0 where
  pub indexed : IsIndexed p es
  pub typed : HasTypes types (listeners_in (present es))
