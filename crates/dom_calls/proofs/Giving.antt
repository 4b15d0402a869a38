-- What a call gives, and what status it has then.
use Rattle.dom_base.proofs.Std.{◌≡◌, ℕ, ◌≤◌, Bool, true, false, refl, sym, ap, ◌∙◌, subst, arith}
use Rattle.std.proofs.lemmas.Bool.{true≢false}
use Rattle.std.specs.Result.{is_err}
use Rattle.std.specs.Prelude.{List, [], ◌∷◌, ◌++◌, map, take, length, ◌-◌, if◌then◌else◌, Option, Some, None, Result, Ok, Err, IfOk, IfSome}
use Rattle.dom_base.specs.declared.Fault.{Fault}
use Rattle.dom_base.specs.declared.Fault.TheVariants as fault
use Rattle.dom_base.specs.declared.Refusal.{Refusal}
use Rattle.dom_base.specs.Refusals.{refusal_number}
use Rattle.dom_model.specs.Output.{Value, replied, refused}
use Rattle.dom_answers.specs.Arrays.{value_of}
use Rattle.dom_answers.specs.declared.items.Reply.{Reply}
use Rattle.dom_reader.specs.declared.line.Command.{Command as Words}
use Rattle.dom_calls.specs.Asked.{Asked, IsAsked}
use Rattle.dom_answers.specs.Arrays.{output_of}
use Rattle.dom_answers.specs.Told.{Contents}
use Rattle.dom_model.specs.Output.{Output, Said, says}
use Rattle.dom_calls.specs.Calls.{Answers, Does, Gives, KeepsAnswer, deliveries_of}
use Rattle.dom_calls.specs.Lending.{HoldsOn}
use Rattle.dom_calls.specs.Owners.{owner_in}
use Rattle.dom_calls.specs.State.{CallState}

-- ---- a call that was not done

not_zero : (n : ℕ) → n ≡ 0 → 1 ≤ n → ⊥
not_zero n e h = omega arith

not_closed : (n : ℕ) → n ≡ 15 → n ≤ 14 → ⊥
not_closed n e h = omega arith

one_more : (n : ℕ) → n ≤ 14 → n ≤ 15
one_more n h = omega arith

-- what has the status of a fault
module _ (f : Fault) (status : ℕ) (same : (r : Refusal) → status ≡ refusal_number r → f ≡ fault.Refused r) (memory : status ≡ 14 → f ≡ fault.Memory)
    (least : 1 ≤ status) (most : status ≤ 14) where
  pub fault-answers : {X : Type 0} {words : Result Words Fault} {place : ℕ} {shows : X → CallState → Value → Type 0} {shown : CallState → Value → Type 0}
      {was is : CallState} {old new : Option CallState} → Gives {X = X} (Err f) place words shows was is → Some was ≡ old → new ≡ Some is
      → (asked : Asked) → IsAsked words asked → Answers status place asked shown old new
  fault-answers {X = X} {place = place} {shown = shown} {was = was} {is = is} {new = new} g e e' asked h =
      let err : Fault → Result X Fault = λ x. Err x in
      let here : Answers status place asked shown (Some was) (Some is) = record {
        done = λ z. absurd (not_zero status z least);
        refusal = λ r z. g.refusal asked h r (ap err (same r z));
        memory = λ z. (refl, g.memory (ap err (memory z)));
        closed = λ z. absurd (not_closed status z most);
        known = one_more status most;
      } in
      subst (λ (o : Option CallState). Answers status place asked shown o new) e
      (subst (λ (o : Option CallState). Answers status place asked shown (Some was) o) (sym e') here)

-- ---- what is given of a reply

-- whether an error is out of memory
abbrev is_memory : {X : Type 0} → Result X Fault → Bool
is_memory (Ok x) = false
is_memory (Err (fault.Refused r)) = false
is_memory (Err fault.Memory) = true

-- a call that was refused
pub gives-fault : {X : Type 0} {words : Result Words Fault} {place : ℕ} {shows : X → CallState → Value → Type 0} {was is : CallState} (f : Fault)
    (r : Result Reply Fault) → r ≡ Err f
    → ((asked : Asked) → IsAsked words asked → (q : Refusal) → r ≡ Err (fault.Refused q) → Does place asked (refused q) was is)
    → (r ≡ Err fault.Memory → is.has_failed ≡ true) → Gives {X = X} (Err f) place words shows was is
gives-fault {X = X} f r is_f refuses fails =
    let there : Result X Fault → Result Reply Fault = λ x. as_reply x in
    record {
      done = λ asked h. tt;
      refusal = λ asked h q e. refuses asked h q (is_f ∙ ap there e);
      memory = λ e. fails (is_f ∙ ap there e);
    }
  where
    as_reply : {Y : Type 0} → Result Y Fault → Result Reply Fault
    as_reply (Ok y) = r
    as_reply (Err e) = Err e

-- a call whose reply was found
module _ {X : Type 0} {words : Result Words Fault} {place : ℕ} {shows : X → CallState → Value → Type 0} {was : CallState} (mid is : CallState)
    (r : Result Reply Fault) (reply : Reply) (out : Result X Fault)
    (answered : (asked : Asked) → IsAsked words asked → IfOk r (λ x. Does place asked (replied (value_of mid.answer.arrays x)) was mid)) where
  pub gives-found : (found : Option X) → r ≡ Ok reply → IfSome found (λ x. shows x mid (value_of mid.answer.arrays reply))
      → ((x : X) → found ≡ Some x → (out ≡ Ok x) × (is ≡ mid)) → (found ≡ None → (out ≡ Err fault.Memory) × (is.has_failed ≡ true))
      → Gives out place words shows was is
  gives-found (Some x) e shown some none =
      let both = some x refl in
      let v = value_of mid.answer.arrays reply in
      let does : (asked : Asked) → IsAsked words asked → Does place asked (replied v) was mid =
      λ asked h. subst (λ (q : Result Reply Fault). IfOk q (λ y. Does place asked (replied (value_of mid.answer.arrays y)) was mid)) e (answered asked h) in
      let here : Gives {X = X} (Ok x) place words shows was mid = record {
        done = λ asked h. (v, (does asked h, shown));
        refusal = λ asked h q z. absurd (true≢false (sym (ap is_err z)));
        memory = λ z. absurd (true≢false (sym (ap is_err z)));
      } in
      subst (λ (o : Result X Fault). Gives o place words shows was is) (sym both.0)
      (subst (λ (s : CallState). Gives {X = X} (Ok x) place words shows was s) (sym both.1) here)
  gives-found None e shown some none =
      let both = none refl in
      let here : Gives {X = X} (Err fault.Memory) place words shows was is = record {
        done = λ asked h. tt;
        refusal = λ asked h q z. absurd (true≢false (ap is_memory z));
        memory = λ z. both.1;
      } in
      subst (λ (o : Result X Fault). Gives o place words shows was is) (sym both.0) here

-- ---- what is lent changes nothing else

-- what is kept where arrays are lent
pub keeps : (mid is : CallState) → HoldsOn mid is → KeepsAnswer mid is
keeps mid is h = (h.0, (h.1.0, (h.1.1.0, h.1.1.1.1)))

-- the deliveries of an answer
left_by : Contents → Bool → List Output
left_by a b = map (output_of a.arrays) (if b then take (length a.items - 1) a.items else a.items)

same-deliveries : (mid is : CallState) → KeepsAnswer mid is → deliveries_of mid ≡ deliveries_of is
unfolding left_by
same-deliveries mid is k = sym (ap (λ (a : Contents). left_by a is.has_reply) k.1.0 ∙ ap (left_by mid.answer) k.1.1.0)

-- so a call has done what it did
module _ (place : ℕ) (asked : Asked) (was mid is : CallState) (k : KeepsAnswer mid is) where
  does-kept : (said : Said) → Does place asked said was mid → Does place asked said was is
  does-kept said d = record {
    sound = d.sound;
    still = k.1.1.1 ∙ d.still;
    world = k.0 ∙ d.world;
    told = d.told ∙ ap (λ (xs : List Output). xs ++ says (owner_in was.owners place) said ∷ []) (same-deliveries mid is k);
  }

  pub answered-kept : (r : Result Reply Fault) → IfOk r (λ x. Does place asked (replied (value_of mid.answer.arrays x)) was mid)
      → IfOk r (λ x. Does place asked (replied (value_of is.answer.arrays x)) was is)
  answered-kept (Ok x) d =
      subst (λ (a : Contents). Does place asked (replied (value_of a.arrays x)) was is) (sym k.1.0) (does-kept (replied (value_of mid.answer.arrays x)) d)
  answered-kept (Err e) d = tt
