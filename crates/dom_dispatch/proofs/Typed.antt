-- The types for which there are listeners.
use Rattle.dom_dispatch.proofs.Cited.{◌≡◌, ℕ, Bool, true, false, ◌&&◌, cond, List, [], ◌∷◌, ◌++◌, Result, Ok, Err, refl, sym, ap, subst, ◌∙◌, true≢false, OnOk}
use Rattle.dom_dispatch.proofs.Cited.{OnErr, beq, bytes_eq-Decides, text_test, Listener, Word, text_eq, all-then, Entry, Types, listener_of}
use Rattle.dom_dispatch.proofs.Cited.{listeners_in, NoneHears, is_noted, HasTypes, list_any, string_bytes, ◌||◌, String, Global}

module _ (types : Types) where
  -- a listener of a type that is among them doesn't hear one that is not
  apart : (same a b : Bool) {text event : Word} → (same ≡ true → text ≡ event) → is_noted types a text ≡ true → is_noted types b event ≡ false →
      (same && beq a b) ≡ false
  apart false a b is there none = refl
  apart true true true is there none = absurd (true≢false (sym there ∙ ap (is_noted types true) (is refl) ∙ none))
  apart true true false is there none = refl
  apart true false true is there none = refl
  apart true false false is there none = absurd (true≢false (sym there ∙ ap (is_noted types false) (is refl) ∙ none))

  -- of a type that is not among them there is no listener
  pub none-typed : (ls : List (Listener ℕ)) (event : Word) (capturing : Bool) → HasTypes types ls → is_noted types capturing event ≡ false →
      NoneHears event capturing ls
  none-typed [] event capturing typed none = tt
  none-typed (l ∷ ls) event capturing typed none = (
    apart (text_eq l.words.event event) l.words.capture capturing
        (λ same. (bytes_eq-Decides l.words.event event).0 (text_test l.words.event event ∙ same)) typed.0 none,
    none-typed ls event capturing typed.1 none,
  )

  -- and one more, if it is for one of them
  behind-typed : (es : List Entry) (e : Entry) → HasTypes types (listeners_in es) →
      is_noted types (listener_of e).words.capture (listener_of e).words.event ≡ true → HasTypes types (listeners_in (es ++ e ∷ []))
  behind-typed [] e typed its = (its, tt)
  behind-typed (f ∷ es) e typed its = (typed.0, behind-typed es e typed.1 its)

  -- so it is whether one more was put there or not
  module _ (old new : List Entry) (e : Entry) where
    pub pushed-typed : {E : Type 0} (r : Result (Unit {0}) E) → OnOk r (new ≡ old ++ e ∷ []) → OnErr r (new ≡ old) →
        HasTypes types (listeners_in old) → is_noted types (listener_of e).words.capture (listener_of e).words.event ≡ true → HasTypes types (listeners_in new)
    pushed-typed (Ok u) is same typed its = subst (λ es. HasTypes types (listeners_in es)) (sym is) (behind-typed old e typed its)
    pushed-typed (Err x) is same typed its = subst (λ es. HasTypes types (listeners_in es)) (sym same) typed

-- more types
pub more-typed : (old new : Types) → ((either : Bool) (text : Word) → is_noted old either text ≡ true → is_noted new either text ≡ true) →
    (ls : List (Listener ℕ)) → HasTypes old ls → HasTypes new ls
more-typed old new kept = all-then (λ (l : Listener ℕ). is_noted old l.words.capture l.words.event ≡ true)
    (λ (l : Listener ℕ). is_noted new l.words.capture l.words.event ≡ true) (λ l. kept l.words.capture l.words.event)

-- one more type among those that came later leaves the others
pub later-kept : (first same was now : Bool) → now ≡ cond same true was → (first || was) ≡ true → (first || now) ≡ true
later-kept true same was now e there = refl
later-kept false true was now e there = e
later-kept false false was now e there = e ∙ there

-- one more type behind those that came first is among them
pub type-last : (event : Word) (types : List (String Global)) (text : String Global) (later : Bool) → text_eq (string_bytes text) event ≡ true →
    (list_any (λ t. text_eq (string_bytes t) event) (types ++ text ∷ []) || later) ≡ true
type-last event [] text later same = ap (λ b. (b || false) || later) same
type-last event (t ∷ types) text later same = either (text_eq (string_bytes t) event) (type-last event types text later same)
  where
    either : (b : Bool) → (list_any (λ s. text_eq (string_bytes s) event) (types ++ text ∷ []) || later) ≡ true →
        ((b || list_any (λ s. text_eq (string_bytes s) event) (types ++ text ∷ [])) || later) ≡ true
    either true last = refl
    either false last = last
