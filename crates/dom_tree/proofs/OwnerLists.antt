-- The list that a component has in a map of lists, after a list was written for one component.
use Rattle.dom_base.proofs.Std.{◌≡◌, Bool, true, false, cond, List, [], Option, Some, None, refl, sym, ap, ◌∙◌, true≢false, is_some, Result, Ok, Err, OnErr}
use Rattle.dom_base.proofs.Std.{option_map_or, IsOk, is_ok}
use Rattle.dom_model.proofs.Model.{Owner, owner_eq, owner_eq-true, same_owner}
use Rattle.dom_base.specs.contracts.OwnerPartialEq.TheImpl as OwnerImpl

-- owners that the map's test finds the same are one
pub one_owner : (a b : Owner) → OwnerImpl.ghosts.eq a b ≡ true → a ≡ b
one_owner a b e = owner_eq-true a b (sym (same_owner a b) ∙ e)

-- what an owner has, by what a look-up finds
abbrev pub had : {V X : Type 0} → (V → List X) → (Owner → Option V) → Owner → List X
had items look o = option_map_or items (look o) []

module _ {V X : Type 0} (items : V → List X) (was now : Owner → Option V) (owner : Owner) (new : V)
    (at : (p : Owner) → now p ≡ cond (OwnerImpl.ghosts.eq owner p) (Some new) (was p)) where
  -- whose list is written has it, and all others have what they had
  pub written : (o : Owner) → had items now o ≡ cond (owner_eq owner o) (items new) (had items was o)
  written o =
      ap (λ found. option_map_or items found []) (at o)
      ∙ (ap (λ b. option_map_or items (cond b (Some new) (was o)) []) (same_owner owner o) ∙ by (owner_eq owner o))
    where
      by : (b : Bool) → option_map_or items (cond b (Some new) (was o)) [] ≡ cond b (items new) (had items was o)
      by true = refl
      by false = refl

  -- a list is rewritten by what it was
  pub written-by : (old : V) (f : List X → List X) → was owner ≡ Some old → items new ≡ f (items old) →
      (o : Owner) → had items now o ≡ cond (owner_eq owner o) (f (had items was o)) (had items was o)
  written-by old f there e o = written o ∙ by (owner_eq owner o) refl
    where
      by : (b : Bool) → owner_eq owner o ≡ b → cond b (items new) (had items was o) ≡ cond b (f (had items was o)) (had items was o)
      by true same = e ∙ ap (λ found. f (option_map_or items found [])) (sym there ∙ ap was (owner_eq-true owner o same))
      by false same = refl

  -- a list with the same items
  pub written-same : had items was owner ≡ items new → (o : Owner) → had items now o ≡ had items was o
  written-same e o = written o ∙ by (owner_eq owner o) refl
    where
      by : (b : Bool) → owner_eq owner o ≡ b → cond b (items new) (had items was o) ≡ had items was o
      by true same = sym e ∙ ap (had items was) (owner_eq-true owner o same)
      by false same = refl

-- what no look-up finds is not there
pub none_from : {X : Type 0} (o : Option X) → is_some o ≡ false → o ≡ None
none_from None e = refl
none_from (Some x) e = absurd (true≢false e)

-- what a call leaves that is done
pub of_ok : {T E X : Type 0} (r : Result T E) (xs ys zs : List X) → IsOk r → zs ≡ cond (is_ok r) xs ys → zs ≡ xs
of_ok (Ok x) xs ys zs done e = e
of_ok (Err x) xs ys zs done e = absurd (true≢false (sym done))

-- what holds whatever a call answers holds where it fails
pub on_err : {T E P : Type 0} (r : Result T E) → P → OnErr r P
on_err (Ok x) p = tt
on_err (Err e) p = p
