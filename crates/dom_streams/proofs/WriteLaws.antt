-- Laws of bytes that are written piece by piece.
use Rattle.dom_base.proofs.Std.{◌≡◌, ℕ, ◌+◌, ◌-◌, List, [], ◌++◌, length, take, drop, Result, Ok, Err, sym, ap, subst, ◌∙◌, append_assoc, append-nil, arith}
use Rattle.dom_base.proofs.Std.{length-append, length-drop, take_all, take-append-drop, MatchResult, OnOk, Appends-nil, Appends-trans}
use Rattle.dom_streams.specs.declared.fault.RunFault.{RunFault}
use Rattle.dom_streams.specs.declared.fault.RunFault.TheVariants.{Read, Write, Memory, InputLimit}
use Rattle.dom_streams.specs.Writing.{Taken, Takes, TakesFront, StopsWriting, EndsWriting}

-- nothing was taken
pub Takes-nil : (a : Taken) → Takes a a []
Takes-nil a = (Appends-nil a.0, omega arith)

-- a text was taken, and then another
module _ (a b c : Taken) where
  pub Takes-trans : (bs cs : List ℕ) → Takes a b bs → Takes b c cs → Takes a c (bs ++ cs)
  Takes-trans bs cs p q = (Appends-trans a.0 b.0 c.0 bs cs p.0 q.0, omega (arith, p.1, q.1, length-append bs cs))

-- what is left of bytes of which n were taken
pub rest_behind : (bytes front rest : List ℕ) (n : ℕ) → bytes ≡ front ++ rest → bytes ≡ (front ++ take n rest) ++ take (length rest - n) (drop n rest)
rest_behind bytes front rest n h =
    let all = take_all (length rest - n) (drop n rest) (omega (arith, length-drop n rest)) in
    h ∙ ap (λ (x : List ℕ). front ++ x) (sym (take-append-drop n rest)) ∙ sym (append_assoc front (take n rest) (drop n rest)) ∙
    ap (λ (x : List ℕ). (front ++ take n rest) ++ x) (sym all)

-- a front was taken, and no call of the sink failed: its counts of failed calls and what it took, before and after
pub record HasWritten (failed fails : ℕ) (old new : Taken) (front : List ℕ) : Type 0 where
  pub none_failed : fails ≡ failed
  pub takes : Takes old new front

-- ---- behind a front that was written

module _ {f₀ f₁ : ℕ} {a b : Taken} {front : List ℕ} (before : HasWritten f₀ f₁ a b front) where
  -- A text is begun, behind which another one was to come.
  module _ (c : Taken) (text back : List ℕ) where
    -- some first bytes of both are written
    front_behind : TakesFront b c text → TakesFront a c ((front ++ text) ++ back)
    front_behind h = record {
      front = front ++ h.front;
      back = h.back ++ back;
      split =
          ap (λ (x : List ℕ). (front ++ x) ++ back) h.split
          ∙ ap (λ (x : List ℕ). x ++ back) (sym (append_assoc front h.front h.back))
          ∙ append_assoc (front ++ h.front) h.back back;
      takes = Takes-trans a b c front h.front before.takes h.takes;
    }

    -- a fault stops it
    pub stops_between : (e : RunFault) (f₂ : ℕ) (some : Type 0) → StopsWriting e f₁ f₂ b c text some → StopsWriting e f₀ f₂ a c ((front ++ text) ++ back) some
    stops_between Write f₂ some h = (h.0 ∙ ap (λ n. n + 1) before.none_failed, front_behind h.1)
    stops_between Memory f₂ some h = (h.0 ∙ before.none_failed, h.1)
    stops_between Read f₂ some h = h
    stops_between InputLimit f₂ some h = h

  -- A text is written.
  pub ends_behind : {A : Type 0} (r : Result A RunFault) (f₂ : ℕ) (c : Taken) (text : List ℕ) (some : Type 0)
      → EndsWriting r f₁ f₂ b c text some → EndsWriting r f₀ f₂ a c (front ++ text) some
  ends_behind (Ok x) f₂ c text some h = (h.0 ∙ before.none_failed, Takes-trans a b c front text before.takes h.1)
  ends_behind (Err Write) f₂ c text some h =
      (h.0 ∙ ap (λ n. n + 1) before.none_failed, subst (TakesFront a c) (append-nil (front ++ text)) (front_behind c text [] h.1))
  ends_behind (Err Memory) f₂ c text some h = (h.0 ∙ before.none_failed, h.1)
  ends_behind (Err Read) f₂ c text some h = h
  ends_behind (Err InputLimit) f₂ c text some h = h

-- ---- a text is written, with the sink's count of failed calls and what it took, before and after

module _ (f₀ f₁ : ℕ) (a b : Taken) where
  -- the two ends of the writing
  pub ends_cases : {A : Type 0} (r : Result A RunFault) (text : List ℕ) (some : Type 0) → EndsWriting r f₀ f₁ a b text some →
      MatchResult r (λ _. (f₁ ≡ f₀) × Takes a b text) (λ e. StopsWriting e f₀ f₁ a b text some)
  ends_cases (Ok x) text some h = h
  ends_cases (Err e) text some h = h

  -- The text has another name, and less is said of what is written where memory is refused.
  module _ {text all : List ℕ} {some some' : Type 0} (same : text ≡ all) (weaker : some → some') where
    -- A fault stops the writing.
    pub stops_as : (e : RunFault) → StopsWriting e f₀ f₁ a b text some → StopsWriting e f₀ f₁ a b all some'
    stops_as Write h = (h.0, subst (TakesFront a b) same h.1)
    stops_as Memory h = (h.0, weaker h.1)
    stops_as Read h = h
    stops_as InputLimit h = h

    -- The writing ends.
    pub ends_as : {A : Type 0} (r : Result A RunFault) → EndsWriting r f₀ f₁ a b text some → EndsWriting r f₀ f₁ a b all some'
    ends_as (Ok x) h = (h.0, subst (Takes a b) same h.1)
    ends_as (Err e) h = stops_as e h

-- what always holds
pub on_ok : {T E P : Type 0} (r : Result T E) → P → OnOk r P
on_ok (Ok x) p = p
on_ok (Err e) p = tt
