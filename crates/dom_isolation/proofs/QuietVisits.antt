-- Where the listeners of others for an event only log, nobody touches it.
use Rattle.dom_base.proofs.Std.{◌≡◌, Bool, true, not, List, [], ◌∷◌, ◌++◌, filter, Option, refl, sym, ap, ◌∙◌}
use Rattle.dom_base.proofs.Std.{◌&&◌, fold, true≢false, subst, AllByRecursion, cond-true}
use Rattle.dom_base.proofs.Std.{cond-false, and_parts, beq}
use Rattle.dom_model.proofs.Model.{Owner, Page, NodeName, EventWords}
use Rattle.dom_model.proofs.Model.{World}
use Rattle.dom_model.proofs.Model.{part_of}
use Rattle.dom_model.proofs.Model.{Action}
use Rattle.dom_model.proofs.Model.{Log, Word, text_eq, owner_eq, name_eq, EventLine, Listener, Visit, after_invoke, after_inner_invoke, hears}
use Rattle.dom_model.proofs.Model.{is_listener, kept_after, after_action, may_cancel, line_of, begun, Part, views, world_visit, visits_of}
use Rattle.dom_model.proofs.Model.{owner_eq-true, owner_eq-false, part_of-with_part, part_of-with_part-other, owner-part_of}
use Rattle.dom_worlds.specs.Definitions.{OnlyLogs, ComponentsOnlyLog}
use Rattle.dom_worlds.proofs.ListLemmas.{all-filter, all-then, by_cases}
use Rattle.dom_worlds.proofs.TurnLemmas.{Going}
use Rattle.dom_worlds.proofs.TurnLemmas.{InWorld, with_listeners, call, call-of, no_call}
use Rattle.dom_isolation.specs.Definitions.{OthersOnlyLog, LogsEvent}
use Rattle.dom_isolation.specs.Definitions.{untouched, interference_at}
use Rattle.dom_isolation.specs.Definitions.{touched, interference_from}
use Rattle.dom_isolation.proofs.OwnVisits.{kept-visited}
use Rattle.dom_isolation.proofs.Touches.{untouched-on}

-- Two dispatches with the same flags.
abbrev pub HasSameFlags : Going → Going → Type 0
HasSameFlags a b = (ls : List (Listener NodeName)) (os : List (EventLine NodeName)) →
    record a { listeners = ls; lines = os } ≡ record b { listeners = ls; lines = os }

-- a call of a listener that only logs
flags-call : (e : EventWords) (v : Visit NodeName) (d : Going) (l : Listener NodeName) → OnlyLogs l → HasSameFlags (call e v d l) d
unfolding call
flags-call e v d l log = rw log (λ ls os. refl)

-- made or not
flags-called : (e : EventWords) (v : Visit NodeName) (d : Going) (l : Listener NodeName) → OnlyLogs l → HasSameFlags (after_inner_invoke name_eq e v d l) d
flags-called e v d l log =
    by_cases d.stopped_now (λ s. subst (λ c. HasSameFlags c d) (sym (no_call e v d l s)) (λ ls os. refl))
    (λ s. subst (λ c. HasSameFlags c d) (sym (call-of e v d l s)) (flags-call e v d l log))

-- calls of all that hear
flags-calls : (e : EventWords) (v : Visit NodeName) (ls : List (Listener NodeName)) (d : Going) → AllByRecursion OnlyLogs ls →
    HasSameFlags (fold (after_inner_invoke name_eq e v) d ls) d
flags-calls e v [] d logs = λ ks os. refl
flags-calls e v (l ∷ ls) d logs = λ ks os. flags-calls e v ls (after_inner_invoke name_eq e v d l) logs.1 ks os ∙ flags-called e v d l logs.0 ks os

-- those that hear are listeners for the event
hearing-logs : (e : EventWords) (v : Visit NodeName) (ls : List (Listener NodeName)) → AllByRecursion (LogsEvent e.event) ls →
    AllByRecursion OnlyLogs (filter (hears name_eq e v) ls)
hearing-logs e v [] h = tt
hearing-logs e v (l ∷ ls) h =
    let rest = filter (hears name_eq e v) ls in
    let later = hearing-logs e v ls h.1 in
    by_cases (hears name_eq e v l)
    (λ t. let fits = and_parts (name_eq l.node v.current) (text_eq l.words.event e.event && beq l.words.capture v.capturing) t in
    let named = and_parts (text_eq l.words.event e.event) (beq l.words.capture v.capturing) fits.1 in
    subst (AllByRecursion OnlyLogs) (sym (cond-true (hears name_eq e v l) (l ∷ rest) rest t)) (h.0 named.0, later))
    (λ t. subst (AllByRecursion OnlyLogs) (sym (cond-false (hears name_eq e v l) (l ∷ rest) rest t)) later)

-- a visit
pub flags-visited : (e : EventWords) (v : Visit NodeName) (d : Going) → AllByRecursion (LogsEvent e.event) d.listeners →
    HasSameFlags (after_invoke name_eq e d v) d
flags-visited e v d h =
    let hearing = filter (hears name_eq e v) d.listeners in
    by_cases d.stopped (λ s. subst (λ c. HasSameFlags c d) (sym (cond-true d.stopped d (fold (after_inner_invoke name_eq e v) d hearing) s)) (λ ls os. refl))
    (λ s. subst (λ c. HasSameFlags c d) (sym (cond-false d.stopped d (fold (after_inner_invoke name_eq e v) d hearing) s))
    (flags-calls e v hearing d (hearing-logs e v d.listeners h)))

-- Listeners only go.
module _ (P : Listener NodeName → Type 0) where
  -- behind a call
  all-call : (e : EventWords) (v : Visit NodeName) (d : Going) (l : Listener NodeName) → AllByRecursion P d.listeners →
      AllByRecursion P (call e v d l).listeners
  unfolding call
  all-call e v d l h =
      from l.words.action
      (by_cases l.words.once
      (λ o. rw o (all-filter P (λ k. not (is_listener name_eq l.node l.words.event l.words.label l.words.capture k)) d.listeners h)) (λ o. rw o h))
    where
      from : (a : Action) → AllByRecursion P (kept_after name_eq l d.listeners) →
          AllByRecursion P (after_action a (may_cancel e l.words)
          (record d { listeners = kept_after name_eq l d.listeners; lines = d.lines ++ line_of v l.words ∷ [] })).listeners
      from Log k = k
      from a k = k

  -- behind a visit
  pub all-visited : (e : EventWords) (v : Visit NodeName) (d : Going) → AllByRecursion P d.listeners → AllByRecursion P (after_invoke name_eq e d v).listeners
  all-visited e v d h = kept-visited (λ c. AllByRecursion P c.listeners) e v (all-call e v) d h

module _ (g : Owner → Bool) where
  -- a visit keeps others' listeners as they are, or takes some away
  pub logs-visit : (event : Word) (e : EventWords) (s : InWorld) (v : Visit NodeName) → OthersOnlyLog g event s.0 → OthersOnlyLog g event (world_visit e s v).0
  logs-visit event e s v logs o out =
      let p = part_of s.0 v.current.owner in
      let heard = after_invoke name_eq e (record s.1 { listeners = p.listeners }) v in
      let AllLog : Part → Type 0 = λ q. AllByRecursion (LogsEvent event) q.listeners in
      by_cases (owner_eq v.current.owner o)
      (λ h. let same = owner_eq-true v.current.owner o h in
      subst AllLog (sym (part_of-with_part s.0 (with_listeners p heard.listeners) o (owner-part_of s.0 v.current.owner ∙ same)))
      (all-visited (LogsEvent event) e v (record s.1 { listeners = p.listeners }) (logs v.current.owner (ap g same ∙ out))))
      (λ h. subst AllLog (sym (part_of-with_part-other s.0 (with_listeners p heard.listeners) o
      (λ same. owner_eq-false v.current.owner o h (sym (owner-part_of s.0 v.current.owner) ∙ same)))) (logs o out))

  -- so nobody outside touches the event
  pub untouched-logs : (e : EventWords) (vs : List (Visit NodeName)) (s : InWorld) → OthersOnlyLog g e.event s.0 → interference_from g e s vs ≡ untouched
  untouched-logs e [] s logs = refl
  untouched-logs e (v ∷ vs) s logs =
      let p = part_of s.0 v.current.owner in
      untouched-on g e v vs s (untouched-logs e vs (world_visit e s v) (logs-visit e.event e s v logs))
      (λ o. ap (λ d. touched s.1 d untouched) (flags-visited e v (record s.1 { listeners = p.listeners }) (logs v.current.owner o) [] []))

  -- of a dispatch
  pub interference-is_on_purpose : (w : World) (x : NodeName) (related : Option NodeName) (e : EventWords) → OthersOnlyLog g e.event w →
      interference_at g w x related e ≡ untouched
  interference-is_on_purpose w x related e logs =
      untouched-logs e (visits_of name_eq e.bubbles (views w x related e.composed)) (w, begun []) logs

  -- listeners of components that only log do so for each event
  pub others-log : (event : Word) (w : World) → g Page ≡ true → ComponentsOnlyLog w → OthersOnlyLog g event w
  others-log event w page logs o out =
      all-then OnlyLogs (LogsEvent event) (λ l log t. log) (part_of w o).listeners (logs o (λ is. true≢false (sym page ∙ ap g (sym is) ∙ out)))
