-- What is kept by owners, where one of them has a place in a list and what stands there is changed.
use Rattle.dom_base.proofs.Std.{◌≡◌, ℕ, Bool, true, false, ◌&&◌, Option, None, Some, refl, sym, ap, subst, ◌∙◌, true≢false, nat_eq, nat_lt, slice_index_or}
use Rattle.dom_base.proofs.Std.{if◌then◌else◌, option_map_or, eqb-true, eq-eqb, same_Some, none-some}
use Rattle.dom_model.proofs.Model.{Owner, path_of, owner_eq, owner_eq-same, owner_eq-true}
use Rattle.dom_microtasks.specs.OwnerNumbers.{placed, place_of}

-- an owner with a place is the one who has it
place-owner : (o : Owner) (i : ℕ) → place_of o ≡ Some i → o ≡ placed i
place-owner o i e = by (slice_index_or (path_of o).parts 0 0) (nat_lt (slice_index_or (path_of o).parts 0 0) 65536) _ refl e
  where
    by : (n : ℕ) (small b : Bool) → owner_eq o (placed n) ≡ b → (if small && b then Some n else None) ≡ Some i → o ≡ placed i
    by n true true h f = owner_eq-true o (placed n) h ∙ ap placed (same_Some n i f)
    by n true false h f = absurd (none-some i f)
    by n false b h f = absurd (none-some i f)

-- what each owner has, after it was changed at the place of one
module _ {X : Type 0} (change : X → X) (was now : ℕ → X) (off : X) where
  pub changed_at : (o : Owner) (i : ℕ) → place_of o ≡ Some i → ((j : ℕ) → now j ≡ (if nat_eq i j then change (was j) else was j)) → (p : Owner) →
      option_map_or now (place_of p) off ≡ (if owner_eq o p then change (option_map_or was (place_of p) off) else option_map_or was (place_of p) off)
  changed_at o i at is p = by (owner_eq o p) refl (place_of p) refl
    where
      same : (b : Bool) → nat_eq i i ≡ b → now i ≡ (if b then change (was i) else was i) → now i ≡ change (was i)
      same true e f = f
      same false e f = absurd (true≢false (sym (eq-eqb i i refl) ∙ e))

      other : (j : ℕ) (b : Bool) → place_of p ≡ Some j → owner_eq o p ≡ false → nat_eq i j ≡ b → now j ≡ (if b then change (was j) else was j) → now j ≡ was j
      other j true there differs e f =
          let one : o ≡ p = place-owner o i at ∙ (ap placed (eqb-true i j e) ∙ sym (place-owner p j there)) in
          absurd (true≢false (sym (subst (λ q. owner_eq o q ≡ true) one (owner_eq-same o)) ∙ differs))
      other j false there differs e f = f

      by : (b : Bool) → owner_eq o p ≡ b → (r : Option ℕ) → place_of p ≡ r →
          option_map_or now r off ≡ (if b then change (option_map_or was r off) else option_map_or was r off)
      by true e None there = absurd (none-some i (sym there ∙ (ap place_of (sym (owner_eq-true o p e)) ∙ at)))
      by true e (Some j) there =
          let one : i ≡ j = same_Some i j (sym at ∙ (ap place_of (owner_eq-true o p e) ∙ there)) in
          subst (λ k. now k ≡ change (was k)) one (same (nat_eq i i) refl (is i))
      by false e None there = refl
      by false e (Some j) there = other j (nat_eq i j) there e refl (is j)
