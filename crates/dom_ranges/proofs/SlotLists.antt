-- The slots of all owners, after a component's list of slots was written.
use Rattle.dom_ranges.proofs.Cited.{◌≡◌, ◌≢◌, ℕ, ◌<◌, cond, List, [], Option, Some, Vec, Global, refl, sym, ap, ◌∙◌, subst, MatchOption, option_map_or, vec_len}
use Rattle.dom_ranges.proofs.Cited.{vec_capacity, cond-false, Owner, Page, Component, owner_eq, ne-owner_eq, had, written-same, HasRoom, Numbers, slots_of}
use Rattle.dom_base.proofs.Std.{get}
use Rattle.dom_base.specs.contracts.OwnerPartialEq.TheImpl as OwnerImpl

-- a component's list with room has room for one slot more
pub room_of : (n : Numbers) (owner : Owner) (v : Vec (Option ℕ) Global) → owner ≢ Page → get OwnerImpl.ghosts.eq n.components owner ≡ Some v →
    HasRoom n owner → vec_len v < vec_capacity v
room_of n Page v other e room = absurd (other refl)
room_of n (Component k) v other e room = subst (λ found. MatchOption found ⊥ (λ w. vec_len w < vec_capacity w)) e room

-- the page's list is the same
module _ (n r : Numbers) (page : r.page ≡ n.page) where
  -- a component's list is rewritten
  pub slots-written : (owner : Owner) (f : List (Option ℕ) → List (Option ℕ)) → owner ≢ Page →
      ((o : Owner) → had (λ v. v.items) (get OwnerImpl.ghosts.eq r.components) o
      ≡ cond (owner_eq owner o) (f (had (λ v. v.items) (get OwnerImpl.ghosts.eq n.components) o)) (had (λ v. v.items) (get OwnerImpl.ghosts.eq n.components) o))
      → (o : Owner) → slots_of r o ≡ cond (owner_eq owner o) (f (slots_of n o)) (slots_of n o)
  slots-written owner f other h Page =
      ap (λ v. v.items) page ∙ sym (cond-false (owner_eq owner Page) (f (slots_of n Page)) (slots_of n Page) (ne-owner_eq owner Page other))
  slots-written owner f other h (Component k) = h (Component k)

  -- no list of a component has other slots
  pub slots-same :
      ((o : Owner) → had (λ v. v.items) (get OwnerImpl.ghosts.eq r.components) o ≡ had (λ v. v.items) (get OwnerImpl.ghosts.eq n.components) o)
      → (o : Owner) → slots_of r o ≡ slots_of n o
  slots-same h Page = ap (λ v. v.items) page
  slots-same h (Component k) = h (Component k)

  -- a component's list got room
  pub slots-reserved : (owner : Owner) {old : Vec (Option ℕ) Global} (new : Vec (Option ℕ) Global) →
      ((p : Owner) → get OwnerImpl.ghosts.eq r.components p ≡ cond (OwnerImpl.ghosts.eq owner p) (Some new) (get OwnerImpl.ghosts.eq n.components p)) →
      get OwnerImpl.ghosts.eq n.components owner ≡ Some old → new.items ≡ old.items → (o : Owner) → slots_of r o ≡ slots_of n o
  slots-reserved owner new at found items =
      slots-same (written-same (λ v. v.items) (get OwnerImpl.ghosts.eq n.components) (get OwnerImpl.ghosts.eq r.components) owner new at
      (ap (λ v. option_map_or (λ w. w.items) v []) found ∙ sym items))
