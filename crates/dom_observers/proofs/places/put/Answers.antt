use Rattle.dom_base.proofs.Std.{◌≡◌, ℕ, ◌∷◌, [], ◌++◌, List, Bool, true, false, cond, Some, Result, Ok, Err, refl, ap, subst, ◌∙◌, nat_eq, IsSome, OnErr}
use Rattle.dom_base.proofs.Std.{if◌then◌else◌}
use Rattle.indexmap.specs.IndexMap.{get}
use Rattle.dom_observers.specs.declared.places.Places.TheVariants.{One}
use Rattle.dom_observers.specs.Definitions.{places_or}
use Rattle.dom_observers.proofs.Watching.{IsListChange, list-changed}
use Rattle.dom_observers.proofs.places.put.Goals as goal

-- a fact holds also where it is asked for after a refusal alone
on-err : {X E : Type 0} (r : Result X E) (P : Type 0) → P → OnErr r P
on-err (Ok x) P p = tt
on-err (Err e) P p = p

pub returns-in_err-push-in-Some-clause-err : goal.returns-in_err-push-in-Some-clause-err
returns-in_err-push-in-Some-clause-err c =
    let new = c.push.new.self in
    let found = c.in-Some.ensures.value in
    let updated = (c.get_mut.follows.holds new).3 (subst IsSome found refl) in
    let same : IsListChange (λ places. places) c.args.number (get nat_eq c.args.lists.now) (get nat_eq (c.get_mut.follows.lender new)) = record {
      written = new;
      updated = updated.0;
      changed = c.in_err-push-in-Some.ensures.err ∙ ap places_or found;
    } in
    on-err c.from_residual.result _ (λ x. list-changed same x ∙ both (nat_eq c.args.number x) (places_or (get nat_eq c.args.lists.now x)))
  where
    both : (b : Bool) (places : List ℕ) → (if b then places else places) ≡ places
    both true places = refl
    both false places = refl

pub returns-in_ok-push-in-Some-clause-ok : goal.returns-in_ok-push-in-Some-clause-ok
returns-in_ok-push-in-Some-clause-ok c =
    let new = c.push.new.self in
    let found = c.in-Some.ensures.value in
    let behind : List ℕ → List ℕ = λ places. places ++ c.args.place ∷ [] in
    let updated = (c.get_mut.follows.holds new).3 (subst IsSome found refl) in
    let more : IsListChange behind c.args.number (get nat_eq c.args.lists.now) (get nat_eq (c.get_mut.follows.lender new)) = record {
      written = new;
      updated = updated.0;
      changed = c.in_ok-push-in-Some.ensures.ok ∙ ap (λ o. behind (places_or o)) found;
    } in
    list-changed more

pub returns-in_ok-insert-in-None-clause-ok : goal.returns-in_ok-insert-in-None-clause-ok
returns-in_ok-insert-in-None-clause-ok c =
    let behind : List ℕ → List ℕ = λ places. places ++ c.args.place ∷ [] in
    let first : IsListChange behind c.args.number (get nat_eq c.args.lists.now) (get nat_eq c.insert.new.self) = record {
      written = One c.args.place;
      updated = λ x. subst (λ m. get nat_eq c.insert.new.self x ≡ cond (nat_eq c.args.number x) (Some (One c.args.place)) (get nat_eq m x))
          c.get_mut.follows.holds-at-none (c.in_ok-insert-in-None.ensures.updates.0 x);
      changed = ap (λ o. behind (places_or o)) c.in-None.ensures.value;
    } in
    list-changed first
