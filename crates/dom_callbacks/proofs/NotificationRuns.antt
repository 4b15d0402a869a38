-- Small steps of a notification, as runs.
use Rattle.dom_base.proofs.Std.{◌≡◌, ℕ, Bool, true, false, not, ◌&&◌, List, [], ◌∷◌, ◌++◌, map, filter_map-append, append-nil, slice_set}
use Rattle.dom_base.proofs.Std.{refl, sym, ap, ◌∙◌, subst, Some, None, cond-true, cond-false, list_any}
use Rattle.dom_model.specs.Command.{EventWords}
use Rattle.dom_model.specs.Names.{is_empty}
use Rattle.dom_model.specs.Observers.{without_transients}
use Rattle.dom_model.specs.Output.{Output}
use Rattle.dom_model.specs.Part.{queue_of}
use Rattle.dom_model.specs.Turns.{records_of}
use Rattle.dom_model.specs.World.{World, part_of}
use Rattle.dom_live.specs.Documents.{Live, world_documents}
use Rattle.dom_live.specs.Frames.{UnderWay, Notification, a_notification}
use Rattle.dom_live.specs.Lines.{written, calls, at_observer}
use Rattle.dom_live.specs.SmallSteps.{is_observer, pushed, telling}
use Rattle.dom_callbacks.specs.declared.calling.Calling.{Calling}
use Rattle.dom_callbacks.specs.Bare.{bare}
use Rattle.dom_callbacks.specs.Outputs.{lines_in, calls_in, line_in, call_in, called_with}
use Rattle.dom_callbacks.specs.States.{Ran}
use Rattle.dom_callbacks.proofs.Runs.{ran-as, ran-pushed}

-- the event with these words
abbrev pub with_words : UnderWay → EventWords → UnderWay
with_words u e = record u { event = e }

-- the state with these documents
abbrev pub with_documents : Live World → World → Live World
with_documents s w = record s { documents = w }

-- lines of the protocol are these lines
all-lines : (os : List Output) → lines_in (map written os) ≡ os
all-lines [] = refl
all-lines (o ∷ os) = ap (λ t. o ∷ t) (all-lines os)

-- and no calls
no-calls : (os : List Output) → calls_in (map written os) ≡ []
no-calls [] = refl
no-calls (o ∷ os) = no-calls os

-- the state once an observer is told
abbrev pub told_state : Live World → Notification → ℕ → Live World
told_state s n k =
    let p = part_of s.documents n.owner in
    record s {
      documents = world_documents.with_part s.documents (record p {
        record_queues = slice_set p.record_queues k [];
        registrations = without_transients (k ∷ []) p.registrations;
      });
    }

-- the call of its owner
abbrev pub observer_call : Notification → ℕ → Calling
observer_call n k = record { owner = n.owner; called = called_with (at_observer k) }

-- whether its owner is called
abbrev pub is_told : Live World → Notification → ℕ → Bool
is_told s n k = list_any (is_observer n.owner k) s.live_observers && not (is_empty (queue_of (part_of s.documents n.owner).record_queues k))

module _ {A : Type 0} (adds : A → List Output → A → Type 0) (s mid now : Live World) (n : Notification) (k : ℕ) (a b : A) where
  -- the records
  abbrev records : List Output
  records = records_of (part_of s.documents n.owner) k

  -- an observer is told, and its owner is called
  pub told-live : bare mid ≡ mid → mid ≡ told_state s n k → now ≡ pushed (a_notification (record n { called = Some k })) mid → is_told s n k ≡ true →
      adds a records b → Ran adds (telling world_documents s n k) now a b (Some (observer_call n k))
  told-live bares m is live told =
      let f = a_notification (record n { called = Some k }) in
      let outputs = map written records ++ calls n.owner (at_observer k) ∷ [] in
      ran-as adds _ (pushed f mid, outputs) now a b (Some (observer_call n k))
      (cond-true (is_told s n k) _ _ live ∙ ap (λ (t : Live World). (pushed f t, outputs)) (sym m))
      (ran-pushed adds mid now f f outputs a b (Some (observer_call n k)) bares is refl
      (subst (λ os. adds a os b)
      (sym (filter_map-append line_in (map written records) (calls n.owner (at_observer k) ∷ []) ∙ append-nil (lines_in (map written records))
      ∙ all-lines records)) told)
      (sym (filter_map-append call_in (map written records) (calls n.owner (at_observer k) ∷ [])
      ∙ ap (λ t. t ++ observer_call n k ∷ []) (no-calls records))))

  -- or it is not
  pub told-plain : bare mid ≡ mid → mid ≡ told_state s n k → now ≡ pushed (a_notification n) mid → is_told s n k ≡ false →
      adds a records b → Ran adds (telling world_documents s n k) now a b None
  told-plain bares m is plain told =
      let f = a_notification n in
      ran-as adds _ (pushed f mid, map written records) now a b None
      (cond-false (is_told s n k) _ _ plain ∙ ap (λ (t : Live World). (pushed f t, map written records)) (sym m))
      (ran-pushed adds mid now f f (map written records) a b None bares is refl
      (subst (λ os. adds a os b) (sym (all-lines records)) told) (sym (no-calls records)))
