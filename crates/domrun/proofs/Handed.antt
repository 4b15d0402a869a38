-- What a run has written stays written where it is handed on.
use Rattle.dom_base.proofs.Std.{◌≡◌, ℕ, ◌+◌, ◌<◌, inl, inr, Bool, true, false, List, Option, Result, Ok, Err, OnOk, IfErr}
use Rattle.dom_base.proofs.Std.{refl, sym, subst, ◌∙◌, arith, is_ok, Keeps, Appends-kept}
use Rattle.dom_base.specs.declared.Owner.{Owner}
use Rattle.dom_streams.specs.declared.fault.RunFault.{RunFault}
use Rattle.dom_streams.specs.declared.fault.RunFault.TheVariants.{Read, Write, Memory, InputLimit}
use Rattle.dom_streams.specs.Writing.{Taken, Takes}
use Rattle.dom_streams.specs.Streams.{CountsFailure}
use Rattle.dom_engine.specs.Run.{RunsToEnd, StopsRun, CountsReads, CountsWrites, ReadsWithin}
use Rattle.domrun.specs.Endings.{HasRun, CountsReadsOf, ReadsWithinOf, CountsLosses}

-- how a run ends, and how the program does where its output was handed on, or was not taken
pub record Ending {E : Type 0} (handed : Result (Unit {0}) E) (ended result : Result (Unit {0}) RunFault) : Type 0 where
  pub written : is_ok handed ≡ true → result ≡ ended
  pub lost : is_ok handed ≡ false → result ≡ Err Write

-- so it ends by whether its output was handed on
pub ending-by : {E : Type 0} {handed : Result (Unit {0}) E} {is_written : Bool} {ended result : Result (Unit {0}) RunFault} → is_written ≡ is_ok handed →
    (is_written ≡ true → result ≡ ended) → (is_written ≡ false → result ≡ Err Write) → Ending handed ended result
ending-by is written lost = record { written = λ ok. written (is ∙ ok); lost = λ no. lost (is ∙ no) }

-- what was taken stays so
abbrev Stays : Taken → Taken → Type 0
Stays old new = Keeps old.0 new.0 × (new.1 ≡ old.1)

-- and so does a text that was taken
Takes-kept : (old mid new : Taken) (text : List ℕ) → Takes old mid text → Stays mid new → Takes old new text
Takes-kept old mid new text taken kept = (Appends-kept old.0 mid.0 new.0 text taken.0 kept.0, kept.1 ∙ taken.1)

-- what is kept is what is there
module _ {E : Type 0} (mid last new : Taken) where
  pub keeps-at : (handed : Result (Unit {0}) E) → Stays mid last → OnOk handed (last.0 ≡ new.0) → last.1 ≡ new.1 → OnOk handed (Stays mid new)
  keeps-at (Ok x) kept same count = (subst (Keeps mid.0) same kept.0, sym count ∙ kept.1)
  keeps-at (Err e) kept same count = tt

module _ (view : Option Owner) (from to : Option (List ℕ)) (old mid new : Taken) where
  -- of a run to the end
  to_end-kept : Stays mid new → RunsToEnd view from to old mid → RunsToEnd view from to old new
  to_end-kept kept e = record {
    given = e.given;
    few = e.few;
    consumed = e.consumed;
    at_end = e.at_end;
    written = Takes-kept old mid new _ e.written kept;
  }

  -- of a run that a fault stopped
  stops-kept : Stays mid new → (e : RunFault) → StopsRun e view from to old mid → StopsRun e view from to old new
  stops-kept kept Read at = record {
    given = at.given;
    few = at.few;
    consumed = at.consumed;
    written = Takes-kept old mid new _ at.written kept;
  }
  stops-kept kept InputLimit at = record {
    given = at.given;
    more = at.more;
    full = at.full;
    over = at.over;
    one_read = at.one_read;
    consumed = at.consumed;
    written = Takes-kept old mid new _ at.written kept;
  }
  stops-kept kept Memory at = record {
    early = at.early;
    late = at.late;
    near = at.near;
    few = at.few;
    consumed = at.consumed;
    count = at.count;
    since = at.since;
    within = at.within;
    ended = at.ended;
    written = Takes-kept old mid new _ at.written kept;
  }
  stops-kept kept Write at = record {
    early = at.early;
    late = at.late;
    near = at.near;
    few = at.few;
    consumed = at.consumed;
    front = at.front;
    back = at.back;
    split = at.split;
    written = Takes-kept old mid new _ at.written kept;
  }

  -- of each run
  pub has-run : Stays mid new → (ended : Result (Unit {0}) RunFault) → OnOk ended (RunsToEnd view from to old mid) →
      IfErr ended (λ e. StopsRun e view from to old mid) → HasRun view from to old new
  has-run kept (Ok x) ends stops = inl (to_end-kept kept ends)
  has-run kept (Err e) ends stops = inr (e, stops-kept kept e stops)

  -- the end of all
  pub ok-handed : {E : Type 0} (handed : Result (Unit {0}) E) (ended result : Result (Unit {0}) RunFault) → Ending handed ended result →
      OnOk handed (Stays mid new) → OnOk ended (RunsToEnd view from to old mid) → OnOk result (RunsToEnd view from to old new)
  ok-handed (Ok x) (Ok y) result ending kept ends = rw (ending.written refl) (to_end-kept kept ends)
  ok-handed (Ok x) (Err e) result ending kept ends = rw (ending.written refl) tt
  ok-handed (Err e) ended result ending kept ends = rw (ending.lost refl) tt

  -- a fault that is no failed write
  pub err-handed : {E : Type 0} (handed : Result (Unit {0}) E) (ended result : Result (Unit {0}) RunFault) → Ending handed ended result →
      OnOk handed (Stays mid new) → IfErr ended (λ e. StopsRun e view from to old mid) →
      IfErr result (λ e. (e ≡ Write → ⊥) → StopsRun e view from to old new)
  err-handed (Ok x) (Ok y) result ending kept stops = rw (ending.written refl) tt
  err-handed (Ok x) (Err e) result ending kept stops = rw (ending.written refl) (λ other. stops-kept kept e stops)
  err-handed (Err f) ended result ending kept stops = rw (ending.lost refl) (λ other. absurd (other refl))

-- what holds of a run if it ends well, and does not speak of its output
pub ok-stays : {E : Type 0} (A : Type 0) (handed : Result (Unit {0}) E) (ended result : Result (Unit {0}) RunFault) → Ending handed ended result →
    OnOk ended A → OnOk result A
ok-stays A (Ok x) ended result ending holds = rw (ending.written refl) holds
ok-stays A (Err f) ended result ending holds = rw (ending.lost refl) tt

-- the counts of a run, whatever it ends with, once its output was handed on
module _ (old new : ℕ) where
  reads-kept : (r : Result (Unit {0}) RunFault) → CountsReads r old new → CountsReadsOf r old new
  reads-kept (Ok x) same = same
  reads-kept (Err Read) more = more
  reads-kept (Err Write) same = inl same
  reads-kept (Err Memory) same = same
  reads-kept (Err InputLimit) same = same

  within-kept : (r : Result (Unit {0}) RunFault) → ReadsWithin r old new → ReadsWithinOf r old new
  within-kept (Ok x) few = few
  within-kept (Err Read) few = few
  within-kept (Err Write) few = omega (arith, few)
  within-kept (Err Memory) few = few
  within-kept (Err InputLimit) few = few

  losses-kept : (r : Result (Unit {0}) RunFault) (last : ℕ) → CountsWrites r old new → last ≡ new → CountsLosses r old last
  losses-kept (Ok x) last same none = none ∙ same
  losses-kept (Err Read) last same none = none ∙ same
  losses-kept (Err Write) last more none = omega (arith, more, none)
  losses-kept (Err Memory) last same none = none ∙ same
  losses-kept (Err InputLimit) last same none = none ∙ same

-- and if it was lost, which is the fault Write
module _ (old new : ℕ) where
  reads-lost : (r : Result (Unit {0}) RunFault) → CountsReads r old new → CountsReadsOf (Err Write) old new
  reads-lost (Ok x) same = inl same
  reads-lost (Err Read) more = inr more
  reads-lost (Err Write) same = inl same
  reads-lost (Err Memory) same = inl same
  reads-lost (Err InputLimit) same = inl same

  within-lost : (r : Result (Unit {0}) RunFault) → ReadsWithin r old new → ReadsWithinOf (Err Write) old new
  within-lost (Ok x) few = omega (arith, few)
  within-lost (Err Read) few = omega (arith, few)
  within-lost (Err Write) few = omega (arith, few)
  within-lost (Err Memory) few = omega (arith, few)
  within-lost (Err InputLimit) few = few.1

  losses-lost : (r : Result (Unit {0}) RunFault) (last : ℕ) → CountsWrites r old new → last ≡ new + 1 → CountsLosses (Err Write) old last
  losses-lost (Ok x) last same more = omega (arith, same, more)
  losses-lost (Err Read) last same more = omega (arith, same, more)
  losses-lost (Err Write) last same more = omega (arith, same, more)
  losses-lost (Err Memory) last same more = omega (arith, same, more)
  losses-lost (Err InputLimit) last same more = omega (arith, same, more)

-- so it is of both
module _ {E : Type 0} {result : Result (Unit {0}) RunFault} (old new : ℕ) where
  pub reads-handed : (handed : Result (Unit {0}) E) (ended : Result (Unit {0}) RunFault) → Ending handed ended result →
      CountsReads ended old new → CountsReadsOf result old new
  reads-handed (Ok x) ended ending counts = rw (ending.written refl) (reads-kept old new ended counts)
  reads-handed (Err f) ended ending counts = rw (ending.lost refl) (reads-lost old new ended counts)

  pub within-handed : (handed : Result (Unit {0}) E) (ended : Result (Unit {0}) RunFault) → Ending handed ended result →
      ReadsWithin ended old new → ReadsWithinOf result old new
  within-handed (Ok x) ended ending few = rw (ending.written refl) (within-kept old new ended few)
  within-handed (Err f) ended ending few = rw (ending.lost refl) (within-lost old new ended few)

  pub losses-handed : (handed : Result (Unit {0}) E) (ended : Result (Unit {0}) RunFault) (last : ℕ) → Ending handed ended result →
      CountsWrites ended old new → CountsFailure handed new last → CountsLosses result old last
  losses-handed (Ok x) ended last ending counts none = rw (ending.written refl) (losses-kept old new ended last counts none)
  losses-handed (Err f) ended last ending counts more = rw (ending.lost refl) (losses-lost old new ended last counts more)

-- if calls of the output failed, the run ended with a failed write
pub failed-is-write : (r : Result (Unit {0}) RunFault) (old new : ℕ) → CountsLosses r old new → old < new → r ≡ Err Write
failed-is-write (Ok y) old new same less = absurd (omega (arith, same))
failed-is-write (Err Read) old new same less = absurd (omega (arith, same))
failed-is-write (Err Write) old new more less = refl
failed-is-write (Err Memory) old new same less = absurd (omega (arith, same))
failed-is-write (Err InputLimit) old new same less = absurd (omega (arith, same))
