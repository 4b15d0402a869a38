-- What a table shows of the slots and the lists that it holds.
use Rattle.dom_ranges.proofs.Cited.{◌≡◌, Bool, true, false, cond, List, [], ◌∷◌, map, Some, refl, sym, ap, ◌∙◌, true≢false, option_map_or, lookup, Slab, Owner}
use Rattle.dom_ranges.proofs.Cited.{Page, Component, ComponentName, owner_eq, same_owner, list_of, lists_of, Numbers, Points, range_kept, ranges_of, shown}
use Rattle.dom_ranges.proofs.Cited.{slots_of}
use Rattle.dom_base.specs.contracts.OwnerPartialEq.TheImpl as OwnerImpl

-- the list of an owner among lists that were rewritten
pub list_of-map : {X Y : Type 0} (f : X → Y) (es : List (Owner × List X)) (o : Owner) → list_of (map (λ e. (e.0, map f e.1)) es) o ≡ map f (list_of es o)
list_of-map f [] o = refl
list_of-map f (e ∷ es) o = by (owner_eq o e.0) (list_of-map f es o)
  where
    by : (b : Bool) → list_of (map (λ e. (e.0, map f e.1)) es) o ≡ map f (list_of es o) →
        cond b (map f e.1) (list_of (map (λ e. (e.0, map f e.1)) es) o) ≡ map f (cond b e.1 (list_of es o))
    by true more = refl
    by false more = more

-- the list of a component is found by its key
list_of-entries : {X Y : Type 0} (f : X → List Y) (k : ComponentName) (es : List (Owner × X)) →
    list_of (map (λ e. (e.0, f e.1)) es) (Component k) ≡ option_map_or f (lookup (OwnerImpl.ghosts.eq (Component k)) es) []
list_of-entries f k [] = refl
list_of-entries f k (e ∷ es) =
    by (owner_eq (Component k) e.0) (OwnerImpl.ghosts.eq (Component k) e.0) (sym (same_owner (Component k) e.0)) (list_of-entries f k es)
  where
    by : (b c : Bool) → b ≡ c → list_of (map (λ e. (e.0, f e.1)) es) (Component k) ≡ option_map_or f (lookup (OwnerImpl.ghosts.eq (Component k)) es) []
        → cond b (f e.1) (list_of (map (λ e. (e.0, f e.1)) es) (Component k)) ≡ option_map_or f
        (cond c (Some e.1) (lookup (OwnerImpl.ghosts.eq (Component k)) es)) []
    by true true same more = refl
    by true false same more = absurd (true≢false same)
    by false true same more = absurd (true≢false (sym same))
    by false false same more = more

-- an owner's slots are its list
slots_of-list : (n : Numbers) (o : Owner) → list_of (lists_of n) o ≡ slots_of n o
slots_of-list n Page = refl
slots_of-list n (Component k) = list_of-entries (λ v. v.items) k n.components.entries

-- an owner's ranges are those in its slots
pub ranges_of-shown : (live : Slab Points) (n : Numbers) (o : Owner) → ranges_of (shown live n) o ≡ map (range_kept live) (slots_of n o)
ranges_of-shown live n o = list_of-map (range_kept live) (lists_of n) o ∙ ap (map (range_kept live)) (slots_of-list n o)
