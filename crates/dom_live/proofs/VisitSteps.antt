-- One small step of an event in a visit, as a group has it.
use Rattle.dom_base.proofs.Std.{◌≡◌, Bool, true, false, ◌&&◌, ◌||◌, List, [], ◌∷◌, filter, Option, Some, None}
use Rattle.dom_base.proofs.Std.{refl, sym, ap, ◌∙◌, true≢false, cond-true, cond-false, if◌then◌else◌, list_any, and-false, and_parts, or-true}
use Rattle.dom_model.proofs.Model.{Owner, NodeName, name_eq, name_eq-true, ListenerWords, Listener, Visit, is_of, says, Action, Log, Stop, StopNow, Cancel}
use Rattle.dom_model.specs.Output.{event_seen}
use Rattle.dom_model.specs.Listeners.{is_listener, line_of, may_cancel}
use Rattle.dom_model.specs.Names.{is_empty}
use Rattle.dom_worlds.proofs.ListLemmas.{by_cases}
use Rattle.dom_isolation.proofs.GroupSlots.{filter-here, filter-away, any-kept}
use Rattle.dom_live.specs.Lines.{LiveLine, LiveRun, LiveOutput, written, calls, at_event, still}
use Rattle.dom_live.specs.Frames.{Visiting, UnderWay, Frame, an_event, acted, told_to, known_by}
use Rattle.dom_live.specs.Documents.{Documents, Live, is_live}
use Rattle.dom_live.specs.SmallSteps.{pushed, put_back, advance, calling, after_once}
use Rattle.dom_live.specs.Groups.{is_own_visit, is_own_node, is_own_event, own_frame, own_live, own_run, own_outputs, is_own_output}
use Rattle.dom_live.specs.Groups.{is_own_listener}
use Rattle.dom_live.specs.Things.{was_stopped, was_cancelled, is_secret, calls_next}
use Rattle.dom_live.specs.Laws.{IsVisitAt}
use Rattle.dom_live.proofs.OwnFrames.{pushed-in, pushed-out}
use Rattle.dom_live.proofs.OwnEvents.{seen_event, hidden_event, event-own, event-other, visit-outside, cancelled_as, acted-own, told-own}
use Rattle.dom_live.proofs.OwnEvents.{acted-hidden, told-hidden}
use Rattle.dom_live.proofs.OwnEvents.{same-hidden, frame-hidden}
use Rattle.dom_live.proofs.OwnSteps.{Agrees, once-in, once-out}
use Rattle.dom_live.proofs.EventSteps.{StepAgrees, told_of, by_parts, quietly, own_event-step, shown-flag, none-knows, or-right_false}

-- whose an event is does not change by what a listener does, or by a call
pub status-acted : (g : Owner → Bool) (o : Owner) (may : Bool) (act : Action) (u : UnderWay) → is_own_event g (acted o may act u) ≡ is_own_event g u
status-acted g o may Log u = refl
status-acted g o may Stop u = refl
status-acted g o may StopNow u = refl
status-acted g o true Cancel u = refl
status-acted g o false Cancel u = refl

-- by a call
status-told : (g : Owner → Bool) (o : Owner) (u : UnderWay) → is_own_event g (told_to o u) ≡ is_own_event g u
status-told g o u = by_test u.cancelled
  where
    by_test : (b : Bool) → is_own_event g (if b then known_by o u else u) ≡ is_own_event g u
    by_test true = refl
    by_test false = refl

-- at a node of the group the live listeners are those of the group
live-in : (g : Owner → Bool) (ls : List (Listener NodeName)) (x : NodeName) (w : ListenerWords) → g x.owner ≡ true →
    is_live (filter (is_own_listener g) ls) x w ≡ is_live ls x w
live-in g ls x w h =
    any-kept (is_listener name_eq x w.event w.label w.capture) (is_own_listener g)
    (λ l k. ap (λ (y : NodeName). g y.owner) (name_eq-true l.node x (and_parts (name_eq l.node x) _ k).0) ∙ h) ls

-- a visit by its parts
abbrev pub visiting_with : Visit NodeName → List (Listener NodeName) → Option ListenerWords → Bool → Visiting
visiting_with x ls c b = record { visit = x; calls = ls; called = c; stopped_now = b }

module _ {g : Owner → Bool} {S V : Type 0} {P : S → Type 0} {d : Documents S} {view : S → V} {e : Documents V} (a : Agrees g P d view e)
    {L : Type 0} (read : L → LiveLine) (u : UnderWay) (s : Live S) (i : u.cancelled ≡ false → u.knowing ≡ []) where
  -- the event in a visit
  abbrev at_visit : Visiting → Frame
  at_visit v = an_event (record u { visiting = Some v })

  -- what the group has of what is around it
  abbrev around : Live V
  around = own_live g view s

  -- ---- at a node of the group
  module _ (k : is_own_event g u ≡ true) where
    -- the event there
    kept : (v : Visiting) → is_own_visit g v.visit ≡ true → own_live g view (pushed (at_visit v) s) ≡ pushed (an_event (seen_event g u (Some v))) around
    kept v o = pushed-in g view (at_visit v) s k ∙ ap (λ x. pushed (an_event x) around) (event-own g u v o)

    -- a step that calls nobody
    own-plain : (v : Visiting) → is_own_visit g v.visit ≡ true → calls_next s.live_listeners v v.calls ≡ false →
        own_run g view (advance d (pushed (at_visit v) s)) ≡ advance e (pushed (an_event (seen_event g u (Some v))) around) → StepAgrees a read (at_visit v) s
    own-plain v o c r =
        by_parts a read (at_visit v) s true None (pushed (an_event (seen_event g u (Some v))) around)
        (ap (λ b. b && is_own_visit g v.visit) k ∙ o)
        (cond-false (is_secret g u && calls_next s.live_listeners v v.calls) (Some was_cancelled) None
        (ap (λ b. is_secret g u && b) c ∙ and-false (is_secret g u)))
        (kept v o) r

    -- the return of a call
    returns-own : (x : Visit NodeName) (ls : List (Listener NodeName)) (w : ListenerWords) (b : Bool) → is_own_visit g x ≡ true →
        StepAgrees a read (at_visit (visiting_with x ls (Some w) b)) s
    returns-own x ls w b o =
        own-plain (visiting_with x ls (Some w) b) o (not_calling ls) (ap (λ r. (r, [])) (kept (visiting_with x ls None b) o))
      where
        not_calling : (ls : List (Listener NodeName)) → calls_next s.live_listeners (visiting_with x ls (Some w) b) ls ≡ false
        not_calling [] = refl
        not_calling (l ∷ ls) = refl

    -- a visit is over
    ends-own : (x : Visit NodeName) (ls : List (Listener NodeName)) (b : Bool) → is_own_visit g x ≡ true → (b || is_empty ls) ≡ true →
        StepAgrees a read (at_visit (visiting_with x ls None b)) s
    ends-own x [] b o z =
        own-plain (visiting_with x [] None b) o refl (ap (λ r. (r, [])) (pushed-in g view (an_event (record u { visiting = None })) s k))
    ends-own x (l ∷ ls) true o z =
        own-plain (visiting_with x (l ∷ ls) None true) o refl (ap (λ r. (r, [])) (pushed-in g view (an_event (record u { visiting = None })) s k))
    ends-own x (l ∷ ls) false o z = absurd (true≢false (sym z))

    -- A listener is called.
    module _ (x : Visit NodeName) (l : Listener NodeName) (ls : List (Listener NodeName)) (o : is_own_visit g x ≡ true) where
      -- its words, and whether it is live
      abbrev w : ListenerWords
      w = l.words

      -- in the documents
      abbrev lives : Bool
      lives = is_live s.live_listeners x.current w

      -- the visit before and behind the call
      abbrev was : Visiting
      was = visiting_with x (l ∷ ls) None false

      -- behind it
      abbrev now : Option ListenerWords → Visiting
      now c = visiting_with x ls c false

      -- its line
      abbrev seen : LiveOutput
      seen = written (says x.current.owner (event_seen (line_of x w)))

      -- whether the event is shown to be cancelled
      abbrev shown : Bool → Bool
      shown b = (is_secret g u && b) || list_any g u.knowing

      -- what the machine does that is told things
      abbrev told_call : Bool → Bool → LiveRun (Live V)
      told_call live c =
          if live then (
            pushed (an_event (told_to x.current.owner (cancelled_as c (seen_event g u (Some (now (Some w))))))) (after_once e x.current w around),
            seen ∷ calls x.current.owner (at_event u.event c) ∷ [],
          )
          else (
            pushed (an_event (acted x.current.owner (may_cancel u.event w) w.action (cancelled_as c (seen_event g u (Some (now None))))))
                (after_once e x.current w around),
            seen ∷ [],
          )

      -- where it is live
      live-call : own_run g view (
        pushed (an_event (told_to x.current.owner (record u { visiting = Some (now (Some w)) }))) (after_once d x.current w s),
        seen ∷ calls x.current.owner (at_event u.event u.cancelled) ∷ [],
      )
          ≡ told_call true (shown true)
      live-call =
          let owner = x.current.owner in
          let event = told_to owner (record u { visiting = Some (now (Some w)) }) in
          let after = after_once e x.current w around in
          ap (λ t. (t, own_outputs g (seen ∷ calls owner (at_event u.event u.cancelled) ∷ [])))
          (pushed-in g view (an_event event) (after_once d x.current w s) (status-told g owner (record u { visiting = Some (now (Some w)) }) ∙ k)
          ∙ ap (λ y. pushed (an_event y) (own_live g view (after_once d x.current w s))) (told-own g u (now (Some w)) owner o o i)
          ∙ ap (λ t. pushed (an_event (told_to owner (cancelled_as u.cancelled (seen_event g u (Some (now (Some w))))))) t) (once-in a x.current w s o))
          ∙ ap (λ ls. (pushed (an_event (told_to owner (cancelled_as u.cancelled (seen_event g u (Some (now (Some w))))))) after, ls))
          (filter-here (is_own_output g) seen (calls owner (at_event u.event u.cancelled) ∷ []) o
          ∙ ap (λ ls. seen ∷ ls) (filter-here (is_own_output g) (calls owner (at_event u.event u.cancelled)) [] o))
          ∙ ap (told_call true) (shown-flag u.cancelled (list_any g u.knowing) (none-knows g u i)
          ∙ ap (λ b. b || list_any g u.knowing) (sym (and_true (is_secret g u))))
        where
          and_true : (b : Bool) → (b && true) ≡ b
          and_true true = refl
          and_true false = refl

      -- where it is not
      fixed-call : own_run g view (
        pushed (an_event (acted x.current.owner (may_cancel u.event w) w.action (record u { visiting = Some (now None) })))
            (after_once d x.current w s),
        seen ∷ [],
      ) ≡ told_call false (shown false)
      fixed-call =
          let owner = x.current.owner in
          let may = may_cancel u.event w in
          let event = acted owner may w.action (record u { visiting = Some (now None) }) in
          ap (λ t. (t, own_outputs g (seen ∷ [])))
          (pushed-in g view (an_event event) (after_once d x.current w s) (status-acted g owner may w.action (record u { visiting = Some (now None) }) ∙ k)
          ∙ ap (λ y. pushed (an_event y) (own_live g view (after_once d x.current w s))) (acted-own g u (now None) owner o o may w.action)
          ∙ ap (λ t. pushed (an_event (acted owner may w.action (seen_event g u (Some (now None))))) t) (once-in a x.current w s o))
          ∙ ap (λ ls. (pushed (an_event (acted owner may w.action (seen_event g u (Some (now None))))) (after_once e x.current w around), ls))
          (filter-here (is_own_output g) seen [] o)
          ∙ ap (told_call false) (ap (λ b. b || list_any g u.knowing) (sym (and-false (is_secret g u))))

      -- both
      call-is : own_run g view (calling d s u (now None) l) ≡ told_call lives (shown lives)
      call-is =
          by_cases lives
          (λ h. ap (own_run g view) (cond-true lives _ _ h) ∙ live-call ∙ ap (λ b. told_call b (shown b)) (sym h))
          (λ h. ap (own_run g view) (cond-false lives _ _ h) ∙ fixed-call ∙ ap (λ b. told_call b (shown b)) (sym h))

      -- the law
      calls-own : StepAgrees a read (at_visit was) s
      calls-own =
          own_event-step a read (record u { visiting = Some was }) (seen_event g u (Some was)) s (is_secret g u && lives)
          (ap (λ b. b && is_own_visit g x) k ∙ o) refl (kept was o)
          (call-is ∙ ap (λ b. told_call b (shown lives)) (sym (live-in g s.live_listeners x.current w o)))

  -- ---- at another's node
  module _ (x : Visit NodeName) (f : is_own_visit g x ≡ false) where
    -- no step is the group's
    not_own : (v : Visiting) → is_own_visit g v.visit ≡ false → (is_own_event g u && is_own_visit g v.visit) ≡ false
    not_own v h = ap (λ b. is_own_event g u && b) h ∙ and-false (is_own_event g u)

    -- the return of a call
    returns-other : (ls : List (Listener NodeName)) (w : ListenerWords) (b : Bool) → StepAgrees a read (at_visit (visiting_with x ls (Some w) b)) s
    returns-other ls w b =
        let v = visiting_with x ls (Some w) b in
        quietly a read (at_visit v) s (not_own v f)
        (cond-false (is_own_event g u && (u.stopped && false)) (Some was_stopped) None (none_told (is_own_event g u) u.stopped))
        (ap (λ fs. (put_back fs around, [])) (frame-hidden g u u (visiting_with x ls None b) v (same-hidden g u) f f))
      where
        none_told : (own stop : Bool) → (own && (stop && false)) ≡ false
        none_told own stop = ap (λ b. own && b) (and-false stop) ∙ and-false own

    -- a listener is called
    calls-other : (l : Listener NodeName) (ls : List (Listener NodeName)) → StepAgrees a read (at_visit (visiting_with x (l ∷ ls) None false)) s
    calls-other l ls =
        let v = visiting_with x (l ∷ ls) None false in
        let w = l.words in
        let owner = x.current.owner in
        let lives = is_live s.live_listeners x.current w in
        let seen = written (says owner (event_seen (line_of x w))) in
        let now : Option ListenerWords → Visiting = λ c. visiting_with x ls c false in
        let same : (fs : List Frame) → fs ≡ own_frame g (at_visit v) → put_back fs (own_live g view (after_once d x.current w s))
        ≡ put_back (own_frame g (at_visit v)) around =
        λ fs h. ap (λ fs. put_back fs (own_live g view (after_once d x.current w s))) h
        ∙ ap (put_back (own_frame g (at_visit v))) (once-out a x.current w s f) in
        quietly a read (at_visit v) s (not_own v f)
        (cond-false (is_own_event g u && (u.stopped && false)) (Some was_stopped) None (none_told (is_own_event g u) u.stopped))
        (by_cases lives
        (λ h. ap (own_run g view) (cond-true lives _ _ h)
        ∙ ap (λ t. (t, own_outputs g (seen ∷ calls owner (at_event u.event u.cancelled) ∷ [])))
        (same _ (told-hidden g u (now (Some w)) v owner f f f))
        ∙ ap (λ ls. (own_live g view (pushed (at_visit v) s), ls))
        (filter-away (is_own_output g) seen (calls owner (at_event u.event u.cancelled) ∷ []) f
        ∙ filter-away (is_own_output g) (calls owner (at_event u.event u.cancelled)) [] f))
        (λ h. ap (own_run g view) (cond-false lives _ _ h)
        ∙ ap (λ t. (t, own_outputs g (seen ∷ [])))
        (same _ (acted-hidden g u (now None) v owner f f f (may_cancel u.event w) w.action))
        ∙ ap (λ ls. (own_live g view (pushed (at_visit v) s), ls)) (filter-away (is_own_output g) seen [] f)))
      where
        none_told : (own stop : Bool) → (own && (stop && false)) ≡ false
        none_told own stop = ap (λ b. own && b) (and-false stop) ∙ and-false own

    -- A visit is over,
    module _ (ls : List (Listener NodeName)) (b : Bool) (z : (b || is_empty ls) ≡ true)
        (left : advance d (pushed (at_visit (visiting_with x ls None b)) s) ≡ still (pushed (an_event (record u { visiting = None })) s)) where
      -- the visit
      abbrev last : Visiting
      last = visiting_with x ls None b

      -- what is told, by whether the event is the group's and stopped
      told-last : (own stop : Bool) → is_own_event g u ≡ own → u.stopped ≡ stop →
          told_of a read false (at_visit last) s ≡ (if own && stop then Some was_stopped else None)
      told-last own stop k t =
          ap (λ c. if is_own_event g u && (u.stopped && c) then Some was_stopped else None) z
          ∙ ap (λ c. if c && (u.stopped && true) then Some was_stopped else None) k
          ∙ ap (λ c. if own && (c && true) then Some was_stopped else None) t ∙ ap (λ c. if own && c then Some was_stopped else None) (and_true stop)
        where
          and_true : (b : Bool) → (b && true) ≡ b
          and_true true = refl
          and_true false = refl

      -- the event in the visit and behind it
      hidden : is_own_event g u ≡ true → own_live g view (pushed (at_visit last) s) ≡ pushed (an_event (hidden_event g u)) around
      hidden k = pushed-in g view (at_visit last) s k ∙ ap (λ y. pushed (an_event y) around) (event-other g u last f)

      -- of an event of the group that is stopped, of which it is told
      ends-stopped : is_own_event g u ≡ true → u.stopped ≡ true → StepAgrees a read (at_visit last) s
      ends-stopped k t =
          by_parts a read (at_visit last) s false (Some was_stopped) (pushed (an_event (hidden_event g u)) around) (not_own last f) (told-last true true k t)
          (hidden k)
          (ap (own_run g view) left
          ∙ ap (λ r. (r, [])) (pushed-in g view (an_event (record u { visiting = None })) s k
          ∙ ap (λ c. pushed (an_event (record (hidden_event g u) { stopped = c })) around) t))

      -- of one that is not stopped
      ends-on : is_own_event g u ≡ true → u.stopped ≡ false → StepAgrees a read (at_visit last) s
      ends-on k t =
          quietly a read (at_visit last) s (not_own last f) (told-last true false k t)
          (ap (own_run g view) left
          ∙ ap (λ r. (r, [])) (pushed-in g view (an_event (record u { visiting = None })) s k
          ∙ ap (λ c. pushed (an_event (record (hidden_event g u) { stopped = c })) around) t ∙ sym (hidden k)))

      -- of an event of others
      ends-away : is_own_event g u ≡ false → StepAgrees a read (at_visit last) s
      ends-away k =
          quietly a read (at_visit last) s (not_own last f) (told-last false u.stopped k refl)
          (ap (own_run g view) left
          ∙ ap (λ r. (r, [])) (pushed-out g view (an_event (record u { visiting = None })) s k ∙ sym (pushed-out g view (at_visit last) s k)))

      -- of any
      ends-other : StepAgrees a read (at_visit last) s
      ends-other = by_cases (is_own_event g u) (λ k. by_cases u.stopped (ends-stopped k) (ends-on k)) ends-away

  -- any step in a visit
  pub in_visit-agrees : (x : Visit NodeName) (ls : List (Listener NodeName)) (c : Option ListenerWords) (b : Bool) → IsVisitAt u.nodes x →
      StepAgrees a read (at_visit (visiting_with x ls c b)) s
  in_visit-agrees x ls c b h =
      by_cases (is_own_visit g x)
      (λ o. mine o (by_cases (is_own_event g u) (λ k. k)
      (λ k. absurd (true≢false (sym o ∙ visit-outside g u.nodes x (or-right_false (is_of g u.by) (list_any (is_own_node g) u.nodes) k) h)))) c b ls)
      (λ f. others f c b ls)
    where
      mine : is_own_visit g x ≡ true → is_own_event g u ≡ true → (c : Option ListenerWords) (b : Bool) (ls : List (Listener NodeName)) →
          StepAgrees a read (at_visit (visiting_with x ls c b)) s
      mine o k (Some w) b ls = returns-own k x ls w b o
      mine o k None b [] = ends-own k x [] b o (or-true b)
      mine o k None true (l ∷ ls) = ends-own k x (l ∷ ls) true o refl
      mine o k None false (l ∷ ls) = calls-own k x l ls o

      others : is_own_visit g x ≡ false → (c : Option ListenerWords) (b : Bool) (ls : List (Listener NodeName)) →
          StepAgrees a read (at_visit (visiting_with x ls c b)) s
      others f (Some w) b ls = returns-other x f ls w b
      others f None b [] = ends-other x f [] b (or-true b) refl
      others f None true (l ∷ ls) = ends-other x f (l ∷ ls) true refl refl
      others f None false (l ∷ ls) = calls-other x f l ls
