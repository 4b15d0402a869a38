-- What is asked of live documents a small step keeps.
use Rattle.dom_base.proofs.Std.{◌≡◌, ℕ, Bool, true, false, not, ◌||◌, List, [], ◌∷◌, ◌++◌, map, Option, Some, None, is_some, refl, sym, ap, ◌∙◌}
use Rattle.dom_base.proofs.Std.{cond-true, cond-false, subst}
use Rattle.dom_base.proofs.Std.{true≢false, if◌then◌else◌, cond, ◌&&◌, AllByRecursion, option_to_list, option_map, slice_set, or-true, list_any}
use Rattle.dom_base.proofs.Std.{list_any-append}
use Rattle.dom_model.proofs.Model.{Owner, Page, NodeName, name_eq, name_eq-same, is_in, owner_eq-same, owner_eq, owner_eq-true, owner_eq-false, World}
use Rattle.dom_model.proofs.Model.{part_of, with_part, Part}
use Rattle.dom_model.proofs.Model.{Visit, Listener, ListenerWords, Word, Action, Log, Stop, StopNow, Cancel, Task, micro_task, notify_task, owner-part_of}
use Rattle.dom_model.proofs.Model.{part_of-with_part, part_of-with_part-other, without_signals, is_owned_by}
use Rattle.dom_model.specs.Listeners.{may_cancel}
use Rattle.dom_model.specs.Observers.{without_transients}
use Rattle.dom_model.specs.Turns.{slotchange}
use Rattle.dom_worlds.specs.Definitions.{IsOf, IsForeignTo}
use Rattle.dom_worlds.proofs.ListLemmas.{by_cases, all-filter, all-then, all-passed}
use Rattle.dom_worlds.proofs.OwnerLemmas.{AreAlike, there-with_part, world-alike}
use Rattle.dom_live.specs.Lines.{LiveRun, still}
use Rattle.dom_live.specs.Frames.{event_caller, visit_caller, Visiting, UnderWay, Notification, Checkpoint, Frame, an_event, a_notification, a_microtask}
use Rattle.dom_live.specs.Frames.{a_checkpoint, caller, returned}
use Rattle.dom_live.specs.Frames.{returned_visit, acted, told_to, known_by, stopped_visit, without_call, without_calls}
use Rattle.dom_live.specs.Documents.{Live, world_documents, world_slots, world_visits, is_live, first_is_live}
use Rattle.dom_live.specs.SmallSteps.{put_back, pushed, advance, advance_in, frame_step, event_step, between_visits, going_on, calling, begun_visit, fired_at}
use Rattle.dom_model.specs.Names.{is_empty, append_once}
use Rattle.dom_model.specs.Part.{queue_of}
use Rattle.dom_live.specs.SmallSteps.{is_observer, without_listener, after_once, telling, starting, checkpoint_step, notification_step}
use Rattle.dom_live.specs.Laws.{IsAware, IsEvent, IsFrame, IsVisitAt, IsLive, IsLiveWorld}
use Rattle.dom_live.specs.Documents.{written}
use Rattle.dom_live.proofs.WholeWorlds.{written-whole, signals-whole, tasks-whole}
use Rattle.dom_base.proofs.Std.{◌<◌, length, length-set, nat_eq}
use Rattle.dom_model.proofs.Model.{is_page, is_there, put_part, with_listener_removed, is_listener}
use Rattle.dom_model.specs.Observers.{is_transient}
use Rattle.dom_worlds.specs.Definitions.{IsListenerIn, IsRegistrationIn, IsRecordIn}
use Rattle.dom_worlds.proofs.ListLemmas.{all-set}

-- by whether there is something
by_some_is : {X : Type 0} (P : Option X → Type 0) (o : Option X) → (o ≡ None → P None) → ((x : X) → o ≡ Some x → P (Some x)) → P o
by_some_is P None f g = f refl
by_some_is P (Some x) f g = g x refl

-- ---- worlds

-- a part with other tables keeps what is asked of the world
pub record HasTrees (q p : Part) : Type 0 where
  pub trees : q.trees ≡ p.trees
  pub count : q.node_count ≡ p.node_count
  pub attached : q.attached ≡ p.attached

-- written in the world, of which the owner is there
put-kept : (w : World) (q : Part) (o : Owner) → q.owner ≡ o → HasTrees q (part_of w o) → IsLiveWorld w → IsLiveWorld (with_part w q)
put-kept w q o e k i =
    world-alike (record (with_part w q) { turn = Some Page }) alike (there-with_part w q Page) i.signalled (λ h. absurd (true≢false h)) i
  where
    alike : AreAlike (record (with_part w q) { turn = Some Page }) (record w { turn = Some Page })
    alike other =
        by_cases (owner_eq o other)
        (λ h. let same = owner_eq-true o other h in
        let is = part_of-with_part w q other (e ∙ same) in
        record {
          trees = ap (λ (p : Part). p.trees) is ∙ k.trees ∙ ap (λ x. (part_of w x).trees) same;
          count = ap (λ (p : Part). p.node_count) is ∙ k.count ∙ ap (λ x. (part_of w x).node_count) same;
          attached = ap (λ (p : Part). p.attached) is ∙ k.attached ∙ ap (λ x. (part_of w x).attached) same;
        })
        (λ h. let is = part_of-with_part-other w q other (λ g. owner_eq-false o other h (sym e ∙ g)) in
        record {
          trees = ap (λ (p : Part). p.trees) is;
          count = ap (λ (p : Part). p.node_count) is;
          attached = ap (λ (p : Part). p.attached) is;
        })

-- if it is written
pub part-kept : (w : World) (q : Part) (o : Owner) → q.owner ≡ o → HasTrees q (part_of w o) → IsLiveWorld w → IsLiveWorld (written w q)
part-kept w q o e k i =
    by_cases (is_page q.owner || is_there w q.owner)
    (λ h. subst (λ ps. IsLiveWorld (record w { parts = ps })) (sym (cond-true (is_page q.owner || is_there w q.owner) (put_part w.parts q) w.parts h))
    (put-kept w q o e k i))
    (λ h. subst (λ ps. IsLiveWorld (record w { parts = ps })) (sym (cond-false (is_page q.owner || is_there w q.owner) (put_part w.parts q) w.parts h)) i)

-- signals that go
signals-kept : (w : World) (o : Owner) → IsLiveWorld w → IsLiveWorld (without_signals w o)
signals-kept w o i = record {
  page = i.page;
  parts = i.parts;
  hosts = i.hosts;
  makers = i.makers;
  shadow_roots = i.shadow_roots;
  signalled = all-filter (IsForeignTo Page) (λ x. not (is_owned_by o x)) w.signalled i.signalled;
  tasks = λ h. absurd (true≢false h);
}

-- other tasks
pub tasks-kept : (w : World) (ts : List Task) → IsLiveWorld w → IsLiveWorld (record w { tasks = ts })
tasks-kept w ts i = record {
  page = i.page;
  parts = i.parts;
  hosts = i.hosts;
  makers = i.makers;
  shadow_roots = i.shadow_roots;
  signalled = i.signalled;
  tasks = λ h. absurd (true≢false h);
}

-- ---- frames

-- calls that are removed
sifted-frame : (x : NodeName) (event label : Word) (capture : Bool) (f : Frame) → IsFrame f → IsFrame (without_calls x event label capture f)
sifted-frame x event label capture (an_event u) i =
    record { visits = i.visits; visiting = from u.visiting i.visiting; knowing = i.knowing; aware = known u.visiting i.aware }
  where
    known : (m : Option Visiting) → IsAware u (event_caller m) → IsAware u (event_caller (option_map (without_call x event label capture) m))
    known None h = h
    known (Some v) h = h

    from : (m : Option Visiting) → AllByRecursion (λ (v : Visiting). IsVisitAt u.nodes v.visit) (option_to_list m) →
        AllByRecursion (λ (v : Visiting). IsVisitAt u.nodes v.visit) (option_to_list (option_map (without_call x event label capture) m))
    from None h = h
    from (Some v) h = h
sifted-frame x event label capture (a_notification n) i = i
sifted-frame x event label capture (a_microtask o) i = i
sifted-frame x event label capture (a_checkpoint c) i = i

-- of all frames
sifted-frames : (x : NodeName) (event label : Word) (capture : Bool) (fs : List Frame) → AllByRecursion IsFrame fs →
    AllByRecursion IsFrame (map (without_calls x event label capture) fs)
sifted-frames x event label capture [] i = i
sifted-frames x event label capture (f ∷ fs) i = (sifted-frame x event label capture f i.0, sifted-frames x event label capture fs i.1)

-- a listener that is removed
pub listener-kept : (x : NodeName) (event label : Word) (capture : Bool) (s : Live World) → IsLive s →
    IsLive (without_listener world_documents x event label capture s)
listener-kept x event label capture s i = record {
  world = part-kept s.documents _ x.owner (owner-part_of s.documents x.owner) (record { trees = refl; count = refl; attached = refl }) i.world;
  whole =
      let p = part_of s.documents x.owner in
      let t = i.whole.whole.tables x.owner in
      written-whole s.documents x.owner i.whole (with_listener_removed name_eq x event label capture p.listeners) p.record_queues p.registrations p.pending
      (record {
        listeners = all-filter (IsListenerIn p.trees) (λ l. not (is_listener name_eq x event label capture l)) p.listeners t.listeners;
        registrations = t.registrations;
        pending = t.pending;
        records = i.whole.whole.records x.owner;
      }) i.world.page;
  frames = sifted-frames x event label capture s.frames i.frames;
}

-- one that is for once
once-kept : (x : NodeName) (w : ListenerWords) (s : Live World) → IsLive s → IsLive (after_once world_documents x w s)
once-kept x w s i = by_test w.once
  where
    by_test : (b : Bool) → IsLive (if b then without_listener world_documents x w.event w.label w.capture s else s)
    by_test true = listener-kept x w.event w.label w.capture s i
    by_test false = i

-- with a frame
pushed-kept : (f : Frame) (s : Live World) → IsLive s → IsFrame f → IsLive (pushed f s)
pushed-kept f s i h = record { world = i.world; whole = i.whole; frames = (h, i.frames) }

-- nobody is called, or an owner is
abbrev pub IsBy : Owner → Option Owner → Type 0
IsBy o None = Unit {0}
IsBy o (Some c) = c ≡ o

-- an owner is among those who know, once it does
in-known : (ks : List Owner) (o : Owner) → is_in owner_eq o (append_once owner_eq ks o) ≡ true
in-known ks o =
    by_cases (is_in owner_eq o ks)
    (λ h. ap (is_in owner_eq o) (cond-true (is_in owner_eq o ks) ks (ks ++ o ∷ []) h) ∙ h)
    (λ h. ap (is_in owner_eq o) (cond-false (is_in owner_eq o ks) ks (ks ++ o ∷ []) h) ∙ list_any-append (owner_eq o) ks (o ∷ [])
    ∙ ap (λ b. is_in owner_eq o ks || (b || false)) (owner_eq-same o) ∙ or-true (is_in owner_eq o ks))

-- an event after an act of the owner who is called
pub acted-kept : (o : Owner) (may : Bool) (act : Action) (u : UnderWay) → IsBy o (event_caller u.visiting) → IsEvent u → IsEvent (acted o may act u)
acted-kept o may Log u k i = i
acted-kept o may Stop u k i = record { visits = i.visits; visiting = i.visiting; knowing = i.knowing; aware = from (event_caller u.visiting) i.aware }
  where
    from : (m : Option Owner) → IsAware u m → IsAware (record u { stopped = true }) m
    from None h = h
    from (Some c) h = h
acted-kept o may StopNow u k i =
    record { visits = i.visits; visiting = from u.visiting i.visiting; knowing = i.knowing; aware = known u.visiting i.aware }
  where
    from : (m : Option Visiting) → AllByRecursion (λ (v : Visiting). IsVisitAt u.nodes v.visit) (option_to_list m) →
        AllByRecursion (λ (v : Visiting). IsVisitAt u.nodes v.visit) (option_to_list (option_map stopped_visit m))
    from None h = h
    from (Some v) h = h

    same : (m : Option Owner) → IsAware u m → IsAware (record u { stopped = true }) m
    same None h = h
    same (Some c) h = h

    known : (m : Option Visiting) → IsAware u (event_caller m) → IsAware (record u { stopped = true }) (event_caller (option_map stopped_visit m))
    known None h = h
    known (Some v) h = same (visit_caller v) h
acted-kept o true Cancel u k i =
    record { visits = i.visits; visiting = i.visiting; knowing = λ h. absurd (true≢false h); aware = from (event_caller u.visiting) k }
  where
    from : (m : Option Owner) → IsBy o m → IsAware (known_by o (record u { cancelled = true })) m
    from None k = tt
    from (Some c) k = λ h. subst (λ c. is_in owner_eq c (append_once owner_eq u.knowing o) ≡ true) (sym k) (in-known u.knowing o)
acted-kept o false Cancel u k i = i

-- an event of which the owner is told who is called
pub told-kept : (o : Owner) (u : UnderWay) → event_caller u.visiting ≡ Some o → AllByRecursion (IsVisitAt u.nodes) u.visits →
    AllByRecursion (λ (v : Visiting). IsVisitAt u.nodes v.visit) (option_to_list u.visiting) → (u.cancelled ≡ false → u.knowing ≡ []) → IsEvent (told_to o u)
told-kept o u e vs v k = by_flag u.cancelled k
  where
    by_flag : (c : Bool) → (c ≡ false → u.knowing ≡ []) →
        IsEvent (if c then known_by o (record u { cancelled = c }) else record u { cancelled = c })
    by_flag true k = record {
      visits = vs;
      visiting = v;
      knowing = λ h. absurd (true≢false h);
      aware = subst (IsAware (known_by o (record u { cancelled = true }))) (sym e) (λ h. in-known u.knowing o);
    }
    by_flag false k = record {
      visits = vs;
      visiting = v;
      knowing = k;
      aware = subst (IsAware (record u { cancelled = false })) (sym e) (λ h. absurd (true≢false (sym h)));
    }

-- what a call leaves
pub returned-kept : (f : Frame) → IsFrame f → AllByRecursion IsFrame (returned f)
returned-kept (an_event u) i =
    (record { visits = i.visits; visiting = from u.visiting i.visiting; knowing = i.knowing; aware = nobody u.visiting }, tt)
  where
    nobody : (m : Option Visiting) → IsAware u (event_caller (option_map returned_visit m))
    nobody None = tt
    nobody (Some v) = tt

    from : (m : Option Visiting) → AllByRecursion (λ (v : Visiting). IsVisitAt u.nodes v.visit) (option_to_list m) →
        AllByRecursion (λ (v : Visiting). IsVisitAt u.nodes v.visit) (option_to_list (option_map returned_visit m))
    from None h = h
    from (Some v) h = h
returned-kept (a_notification n) i = (i, tt)
returned-kept (a_microtask o) i = tt
returned-kept (a_checkpoint c) i = (i, tt)

-- the visits of an event that begins are at its nodes
pub visits-at : (before : List NodeName) (vs : List (Visit NodeName)) → AllByRecursion (IsVisitAt (before ++ map (λ v. v.current) vs)) vs
visits-at before vs = among vs (λ v h. behind before v h)
  where
    behind : (before : List NodeName) (y : NodeName) → is_in name_eq y (map (λ v. v.current) vs) ≡ true →
        is_in name_eq y (before ++ map (λ v. v.current) vs) ≡ true
    behind [] y h = h
    behind (x ∷ xs) y h = ap (λ b. name_eq y x || b) (behind xs y h) ∙ or-true (name_eq y x)

    among : (us : List (Visit NodeName)) →
        ((y : NodeName) → is_in name_eq y (map (λ v. v.current) us) ≡ true → is_in name_eq y (before ++ map (λ v. v.current) vs) ≡ true) →
        AllByRecursion (IsVisitAt (before ++ map (λ v. v.current) vs)) us
    among [] f = tt
    among (u ∷ us) f = (
      f u.current (ap (λ b. b || is_in name_eq u.current (map (λ v. v.current) us)) (name_eq-same u.current)),
      among us (λ y h. f y (ap (λ b. name_eq y u.current || b) h ∙ or-true (name_eq y u.current))),
    )

-- ---- steps

-- one run or another
pub either-kept : (b : Bool) (r t : LiveRun (Live World)) → IsLive r.0 → IsLive t.0 → IsLive (cond b r t).0
either-kept true r t h k = h
either-kept false r t h k = k

-- An event in a visit.
module _ (s : Live World) (i : IsLive s) (u : UnderWay) where
  -- a listener is called
  calling-kept : (v : Visiting) (l : Listener NodeName) → visit_caller v ≡ None → IsEvent (record u { visiting = Some v }) →
      IsLive (calling world_documents s u v l).0
  calling-kept v l c h =
      let x = v.visit.current in
      let after = after_once world_documents x l.words s in
      let called : UnderWay = record u { visiting = Some (record v { called = Some l.words }) } in
      let heard : UnderWay = record u { visiting = Some v } in
      either-kept (is_live s.live_listeners x l.words) _ _
      (pushed-kept (an_event (told_to x.owner called)) after (once-kept x l.words s i)
      (told-kept x.owner called refl h.visits h.visiting h.knowing))
      (pushed-kept (an_event (acted x.owner (may_cancel u.event l.words) l.words.action heard)) after (once-kept x l.words s i)
      (acted-kept x.owner (may_cancel u.event l.words) l.words.action heard (subst (IsBy x.owner) (sym c) tt) h))

  -- a visit goes on
  going_on-kept : (v : Visiting) (ls : List (Listener NodeName)) → visit_caller v ≡ None → IsEvent (record u { visiting = Some v }) →
      IsLive (going_on world_documents s u v ls).0
  going_on-kept v [] c h =
      pushed-kept (an_event (record u { visiting = None })) s i (record { visits = h.visits; visiting = tt; knowing = h.knowing; aware = tt })
  going_on-kept v (l ∷ ls) c h =
      either-kept v.stopped_now _ _
      (pushed-kept (an_event (record u { visiting = None })) s i (record { visits = h.visits; visiting = tt; knowing = h.knowing; aware = tt }))
      (calling-kept (record v { calls = ls }) l c (record {
        visits = h.visits;
        visiting = h.visiting;
        knowing = h.knowing;
        aware = subst (IsAware u) (sym c) tt;
      }))

-- between visits
between-kept : (s : Live World) (u : UnderWay) (vs : List (Visit NodeName)) → IsLive s → AllByRecursion (IsVisitAt u.nodes) vs →
    (u.cancelled ≡ false → u.knowing ≡ []) → IsLive (between_visits world_documents s u vs).0
between-kept s u [] i h k = i
between-kept s u (v ∷ vs) i h k =
    either-kept u.stopped _ _ i
    (pushed-kept (an_event (record u { visits = vs; visiting = Some (begun_visit world_documents s.documents u.event v) })) s i
    (record { visits = h.1; visiting = (h.0, tt); knowing = k; aware = tt }))

-- an observer is told
telling-kept : (s : Live World) (n : Notification) (k : ℕ) → IsLive s → IsFrame (a_notification n) → IsLive (telling world_documents s n k).0
telling-kept s n k i h =
    let p = part_of s.documents n.owner in
    let q : Part = record p { record_queues = slice_set p.record_queues k []; registrations = without_transients (k ∷ []) p.registrations } in
    let told : Live World = record s { documents = written s.documents q } in
    let t = i.whole.whole.tables n.owner in
    let same = length-set p.record_queues k [] in
    let kept : IsLive told = record {
      world = part-kept s.documents q n.owner (owner-part_of s.documents n.owner) (record { trees = refl; count = refl; attached = refl }) i.world;
      whole =
          written-whole s.documents n.owner i.whole p.listeners (slice_set p.record_queues k []) (without_transients (k ∷ []) p.registrations) p.pending
          (record {
            listeners = t.listeners;
            registrations =
                subst (λ m. AllByRecursion (IsRegistrationIn p.trees m) (without_transients (k ∷ []) p.registrations)) (sym same)
                (all-filter (IsRegistrationIn p.trees (length p.record_queues)) (λ r. not (is_transient r.source && is_in nat_eq r.observer (k ∷ [])))
                p.registrations t.registrations);
            pending = subst (λ m. AllByRecursion (λ j. j < m) p.pending) (sym same) t.pending;
            records = all-set (AllByRecursion (IsRecordIn p.trees)) p.record_queues k [] (i.whole.whole.records n.owner) tt;
          }) i.world.page;
      frames = i.frames;
    } in
    either-kept (list_any (is_observer n.owner k) s.live_observers && not (is_empty (queue_of p.record_queues k))) _ _
    (pushed-kept (a_notification (record n { called = Some k })) told kept h) (pushed-kept (a_notification n) told kept h)

-- a notification
notification-kept : (s : Live World) (n : Notification) (ks : List ℕ) (xs : List NodeName) → IsLive s → AllByRecursion (IsOf n.owner) xs →
    IsLive (notification_step world_documents s (record n { slots = xs }) ks).0
notification-kept s n (k ∷ ks) xs i h = telling-kept s (record n { slots = xs; observers = ks }) k i h
notification-kept s n [] [] i h = i
notification-kept s n [] (x ∷ xs) i h =
    pushed-kept (an_event (fired_at x (world_visits s.documents x None slotchange))) (pushed (a_notification (record n { slots = xs })) s)
    (pushed-kept (a_notification (record n { slots = xs })) s i h.1)
    (record { visits = visits-at (x ∷ []) (world_visits s.documents x None slotchange); visiting = tt; knowing = λ e. refl; aware = tt })

-- a task begins
starting-kept : (t : Task) (s : Live World) → IsLive s → IsLive (starting world_documents t s).0
starting-kept (micro_task o label) s i =
    either-kept (first_is_live o s.live_tasks) _ _ (record { world = i.world; whole = i.whole; frames = (tt, i.frames) })
    (record { world = i.world; whole = i.whole; frames = i.frames })
starting-kept (notify_task o) s i = record {
  world = part-kept (without_signals s.documents o) _ o (owner-part_of s.documents o) (record { trees = refl; count = refl; attached = refl })
      (signals-kept s.documents o i.world);
  whole =
      let p = part_of s.documents o in
      let t = i.whole.whole.tables o in
      written-whole (without_signals s.documents o) o (signals-whole s.documents o i.whole) p.listeners p.record_queues p.registrations []
      (record { listeners = t.listeners; registrations = t.registrations; pending = tt; records = i.whole.whole.records o }) i.world.page;
  frames = (
    all-then (λ x. is_owned_by o x ≡ true) (IsOf o) (λ x h. owner_eq-true x.owner o h) (world_slots s.documents o)
        (all-passed (λ x. is_owned_by o x ≡ true) (is_owned_by o) (λ x h. h) s.documents.signalled),
    i.frames,
  );
}

-- a checkpoint
checkpoint-kept : (s : Live World) (c : Checkpoint) (ts : List Task) → IsLive s → IsLive (checkpoint_step world_documents s c ts).0
checkpoint-kept s c [] i = i
checkpoint-kept s c (t ∷ ts) i =
    starting-kept t (pushed (a_checkpoint c) (record s { documents = record s.documents { tasks = ts } }))
    (record { world = tasks-kept s.documents ts i.world; whole = tasks-whole s.documents ts i.whole; frames = (tt, i.frames) })

-- any frame
frame-kept : (s : Live World) (f : Frame) → caller f ≡ None → IsLive s → IsFrame f → IsLive (frame_step world_documents s f).0
frame-kept s (an_event u) c i h = from u.visiting c h.visiting
  where
    from : (m : Option Visiting) → event_caller m ≡ None → AllByRecursion (λ (v : Visiting). IsVisitAt u.nodes v.visit) (option_to_list m) →
        IsLive (event_step world_documents s u m).0
    from None c k = between-kept s u u.visits i h.visits h.knowing
    from (Some v) c k = going_on-kept s i u v v.calls c (record {
      visits = h.visits;
      visiting = k;
      knowing = h.knowing;
      aware = subst (IsAware u) (sym c) tt;
    })
frame-kept s (a_notification n) c i h = notification-kept s n n.observers n.slots i h
frame-kept s (a_microtask o) c i h = i
frame-kept s (a_checkpoint x) c i h = checkpoint-kept s x s.documents.tasks i

-- lists of both
pub all-both : (fs gs : List Frame) → AllByRecursion IsFrame fs → AllByRecursion IsFrame gs → AllByRecursion IsFrame (fs ++ gs)
all-both [] gs h k = k
all-both (f ∷ fs) gs h k = (h.0, all-both fs gs h.1 k)

-- One small step.
pub advance-kept : (s : Live World) → IsLive s → IsLive (advance world_documents s).0
advance-kept s i = from s.frames i.frames
  where
    from : (fs : List Frame) → AllByRecursion IsFrame fs → IsLive (advance_in world_documents s fs).0
    from [] h = i
    from (f ∷ fs) h =
        let around : Live World = record s { frames = fs } in
        by_some_is (λ (m : Option Owner). IsLive (cond (is_some m) (still (put_back (returned f) around)) (frame_step world_documents around f)).0) (caller f)
        (λ c. frame-kept around f c (record { world = i.world; whole = i.whole; frames = h.1 }) h.0)
        (λ o c. record { world = i.world; whole = i.whole; frames = all-both (returned f) fs (returned-kept f h.0) h.1 })
