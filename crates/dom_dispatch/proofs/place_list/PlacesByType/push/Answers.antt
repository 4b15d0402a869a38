use Rattle.dom_dispatch.proofs.Cited.{◌≡◌, ◌++◌, ◌∷◌, [], List, ℕ, Bool, true, false, Some, refl, ap, subst, ◌∙◌, cond, bytes_eq, IsSome, if◌then◌else◌}
use Rattle.dom_dispatch.proofs.Cited.{text_eq}
use Rattle.dom_dispatch.proofs.Cited.{Ok, Err, OnErr, Result, string_bytes, btree_map_updates_text}
use Rattle.std.specs.BTreeMap.{get_by_text}
use Rattle.dom_dispatch.proofs.Listing.{listed, list-changed}
use Rattle.dom_dispatch.proofs.place_list.PlacesByType.push.Goals as goal

-- a fact holds also where it is asked for after a refusal alone
on-err : {X E : Type 0} (r : Result X E) (P : Type 0) → P → OnErr r P
on-err (Ok x) P p = tt
on-err (Err e) P p = p

pub returns-in_err-push-in-Some-clause-err : goal.returns-in_err-push-in-Some-clause-err
returns-in_err-push-in-Some-clause-err c =
    let old = c.args.self.now.rest in
    let new = c.push.new.self in
    let after = c.get_mut.follows.lender new in
    let updated = (c.get_mut.follows.holds new).3 (subst IsSome c.in-Some.ensures.value refl) in
    on-err c.from_residual.result _ (λ t.
    list-changed (get_by_text old) (get_by_text after) c.args.event.now new (λ js. js)
    (btree_map_updates_text c.args.event.now old after (Some new) updated)
    (c.in_err-push-in-Some.ensures.items ∙ ap listed c.in-Some.ensures.value) t
    ∙ both (text_eq c.args.event.now t) (listed (get_by_text old t)))
  where
    both : (b : Bool) (js : List ℕ) → (if b then js else js) ≡ js
    both true js = refl
    both false js = refl

pub returns-in_ok-push-in-Some-clause-ok : goal.returns-in_ok-push-in-Some-clause-ok
returns-in_ok-push-in-Some-clause-ok c =
    let old = c.args.self.now.rest in
    let new = c.push.new.self in
    let after = c.get_mut.follows.lender new in
    let updated = (c.get_mut.follows.holds new).3 (subst IsSome c.in-Some.ensures.value refl) in
    list-changed (get_by_text old) (get_by_text after) c.args.event.now new (λ js. js ++ c.args.place ∷ [])
    (btree_map_updates_text c.args.event.now old after (Some new) updated)
    (c.in_ok-push-in-Some.ensures.items ∙ ap (λ o. listed o ++ c.args.place ∷ []) c.in-Some.ensures.value)

pub returns-in_ok-insert-in-None-clause-ok : goal.returns-in_ok-insert-in-None-clause-ok
returns-in_ok-insert-in-None-clause-ok c =
    let old = c.args.self.now.rest in
    let before = c.get_mut.follows.lender-at-none in
    let new = c.in_ok-places-in-None.places in
    let key = string_bytes c.in_ok-from_str-in-None.field-0 in
    list-changed (get_by_text old) (get_by_text c.insert.new.self) c.args.event.now new (λ js. js ++ c.args.place ∷ [])
    (λ t. btree_map_updates_text key before c.insert.new.self (Some new) c.in_ok-insert-in-None.ensures.updates t
    ∙ (λ j. cond (bytes_eq (c.in_ok-from_str-in-None.ensures.ok j) t) (Some new) (get_by_text (c.get_mut.follows.holds-at-none j) t)))
    (c.in_ok-places-in-None.ensures.items ∙ ap (λ o. listed o ++ c.args.place ∷ []) c.in-None.ensures.value)
