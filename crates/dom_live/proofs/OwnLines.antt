-- A line of a member, up to what it sets going: the machine that is told things takes it alike.
use Rattle.dom_base.proofs.Std.{◌≡◌, ℕ, Bool, true, false, not, ◌&&◌, ◌||◌, List, [], ◌∷◌, ◌++◌, filter, map, length, Option, Some, None}
use Rattle.dom_base.proofs.Std.{refl, sym, ap, ◌∙◌, true≢false, cond-true, if◌then◌else◌, list_any, AllByRecursion, filter-append}
use Rattle.dom_base.proofs.Std.{option_map, is_none, is_some, option_or, subst}
use Rattle.dom_model.proofs.Model.{Owner, NodeName, Visit, Part, says, Command, NodeWord, EventWords, named, World, Refusal}
use Rattle.dom_model.proofs.Model.{first_refusal, replied, refused, nothing, group_outputs, Run, Value, a_truth, ListenerWords, name_eq}
use Rattle.dom_model.proofs.Model.{Log, Stop, StopNow, Cancel, Action, refusal, perform, part_of, owner-part_of, Unknown, Busy, Limit, Word}
use Rattle.dom_model.specs.Listeners.{is_listener}
use Rattle.dom_worlds.proofs.ListLemmas.{by_cases, filter-map}
use Rattle.dom_worlds.proofs.OwnerLemmas.{owner-named}
use Rattle.dom_isolation.proofs.GroupSlots.{filter-here, added-in}
use Rattle.dom_live.specs.Lines.{LiveCommand, plain, listen_live, observer_live, micro_live, prevent, stop, stop_now, prevented, give_back, LiveLine, said}
use Rattle.dom_live.specs.Lines.{LiveRun, written, still, replying, denying, unless_denied}
use Rattle.dom_live.specs.Frames.{Frame, an_event, a_checkpoint, asked_by, is_called, own_call}
use Rattle.dom_live.specs.Documents.{Documents, Live, world_documents, world_visits}
use Rattle.dom_live.specs.SmallSteps.{pushed, dispatched_by, without_listener}
use Rattle.dom_live.specs.Machine.{taken, obeyed, plain_refusal, performed, dispatching, acting, with_live_listener, has_innermost, return_refusal}
use Rattle.dom_live.specs.Machine.{act_refusal, call_returned, is_under_way, act_in, on_own_call, is_prevented, is_at_limit}
use Rattle.dom_live.specs.Groups.{is_own_visit, is_own_node, own_live, own_run, own_outputs, is_own_output, is_own_listener, is_own_entry, own_frames}
use Rattle.dom_live.specs.Groups.{own_event}
use Rattle.dom_live.specs.Groups.{is_own_frame}
use Rattle.dom_live.specs.Things.{done, shut_out, own_line, is_shut_out, refused_busy, owner_said}
use Rattle.dom_live.specs.Laws.{IsLive, IsLiveWorld, IsLiveWhole, IsFrame}
use Rattle.dom_live.proofs.OwnFrames.{pushed-in, frame-in, frame-out}
use Rattle.dom_live.proofs.OwnSteps.{Agrees, without-in}
use Rattle.dom_live.proofs.OwnCalls.{own_call-in, act_refusal-in, called-own, called-kept}
use Rattle.dom_live.proofs.OwnActs.{acts-in, prevented-in, returned-in, limit-in}
use Rattle.dom_live.proofs.OtherLines.{is_still, Stands, Takes, dispatch_visits}

-- the innermost call is a call
inner-called : (o : Owner) (fs : List Frame) → has_innermost o fs ≡ true → list_any (is_called o) fs ≡ true
inner-called o [] h = h
inner-called o (f ∷ fs) h = ap (λ b. b || list_any (is_called o) fs) h

module _ (g : Owner → Bool) (o : Owner) (mine : g o ≡ true) where
  -- the innermost call of all, if it is a member's, is the innermost that the group has
  inner-own : (fs : List Frame) → AllByRecursion IsFrame fs → has_innermost o fs ≡ true → has_innermost o (own_frames g fs) ≡ true
  inner-own [] i h = h
  inner-own (f ∷ fs) i h =
      ap (λ xs. has_innermost o (xs ++ own_frames g fs)) (frame-in g f (called-own g o mine f i.0 h)) ∙ called-kept g o mine f ∙ h

  -- whether a member is called
  any-called : (fs : List Frame) → AllByRecursion IsFrame fs → list_any (is_called o) (own_frames g fs) ≡ list_any (is_called o) fs
  any-called [] i = refl
  any-called (f ∷ fs) i =
      by_cases (is_own_frame g f)
      (λ h. ap (λ xs. list_any (is_called o) (xs ++ own_frames g fs)) (frame-in g f h)
      ∙ ap (λ b. b || list_any (is_called o) (own_frames g fs)) (called-kept g o mine f) ∙ ap (λ b. is_called o f || b) (any-called fs i.1))
      (λ h. ap (λ xs. list_any (is_called o) (xs ++ own_frames g fs)) (frame-out g f h) ∙ any-called fs i.1
      ∙ sym (ap (λ b. b || list_any (is_called o) fs) (by_cases (is_called o f)
      (λ c. absurd (true≢false (sym (called-own g o mine f i.0 c) ∙ h))) (λ c. c))))

-- What commands of members do, as a group has it.
pub record ObeysOwn (g : Owner → Bool) {V : Type 0} (view : World → V) (e : Documents V) : Type 0 where
  pub refuses : (w : World) (o : Owner) (c : Command) → Stands g true w o → e.refusal (view w) o c ≡ refusal w o c
  pub performs : (w : World) (o : Owner) (c : Command) → Takes g true w o c → is_still c ≡ true →
      (view (perform w o c).0, group_outputs g (perform w o c).1) ≡ e.perform (view w) o c
  pub visits : (w : World) (o : Owner) (x : NodeWord) (words : EventWords) (r : Option NodeWord) → Stands g true w o →
      filter (is_own_visit g) (dispatch_visits w o x words r)
      ≡ e.visits (view w) (named (part_of w o) x) (option_map (named (part_of w o)) r) words

module _ {g : Owner → Bool} {V : Type 0} {view : World → V} {e : Documents V} (a : Agrees g IsLiveWorld world_documents view e)
    (l : ObeysOwn g view e) (s : Live World) (i : IsLive s) (o : Owner) (mine : g o ≡ true) where
  -- what the group has
  abbrev own : Live V
  own = own_live g view s

  -- its part, alike
  same-part : e.part (view s.documents) o ≡ part_of s.documents o
  same-part = a.part s.documents o mine

  -- a reply
  reply-in : (v : Value) (t : Live World) (u : Live V) → own_live g view t ≡ u → own_run g view (replying o v t) ≡ replying o v u
  reply-in v t u h = ap (λ t. (t, own_outputs g (written (says o (replied v)) ∷ []))) h
      ∙ ap (λ ls. (u, ls)) (filter-here (is_own_output g) (written (says o (replied v))) [] mine)

  -- a refusal, or what is accepted
  unless-in : (m n : Option Refusal) (run : LiveRun (Live World)) (ran : LiveRun (Live V)) → n ≡ m → (m ≡ None → own_run g view run ≡ ran) →
      own_run g view (unless_denied o m s run) ≡ unless_denied o n own ran
  unless-in m n run ran h f = from m refl ∙ ap (λ n. unless_denied o n own ran) (sym h)
    where
      from : (k : Option Refusal) → m ≡ k → own_run g view (unless_denied o k s run) ≡ unless_denied o k own ran
      from None q = f q
      from (Some r) q = ap (λ ls. (own, ls)) (filter-here (is_own_output g) (written (says o (refused r))) [] mine)

  -- A command without an event, where other listeners, observers or microtasks of its own are live.
  module _ (t : Live World) (u : Live V) (c : Command) where
    -- it does what it does as the group has it
    performed-in : t.documents ≡ s.documents → own_live g view t ≡ u → refusal s.documents o c ≡ None → is_still c ≡ true →
        own_run g view (performed world_documents t o c) ≡ performed e u o c
    performed-in q h r y =
        let w = t.documents in
        let takes : Takes g true w o c = record {
          stands = record { world = subst IsLiveWorld (sym q) i.world; whole = subst IsLiveWhole (sym q) i.whole; side = mine };
          accepted = ap (λ w. refusal w o c) q ∙ r;
        } in
        ap (λ ls. (own_live g view (record t { documents = (perform w o c).0 }), ls)) (filter-map (is_own_output g) written (perform w o c).1)
        ∙ ap (λ (k : Run V). (record (own_live g view t) { documents = k.0 }, map written k.1)) (l.performs w o c takes y)
        ∙ ap (λ (t : Live V). performed e t o c) h

  -- refusals
  same-refusal : (c : Command) → e.refusal (view s.documents) o c ≡ refusal s.documents o c
  same-refusal c = l.refuses s.documents o c (record { world = i.world; whole = i.whole; side = mine })

  -- a word of it names a node of its own
  named-in : (x : NodeWord) → g (named (part_of s.documents o) x).owner ≡ true
  named-in x = ap g (owner-named (part_of s.documents o) x ∙ owner-part_of s.documents o) ∙ mine

  -- an act
  acting-in : (act : Action) (k : ℕ) → own_run g view (acting world_documents s o act k) ≡ acting e own o act k
  acting-in act k =
      unless-in (act_refusal (own_call o k s.frames)) (act_refusal (own_call o k (own_frames g s.frames)))
      (replying o nothing (record s { frames = on_own_call o (act_in o act) k s.frames })) _
      (ap act_refusal (own_call-in g o mine s.frames i.frames k) ∙ act_refusal-in g o mine (own_call o k s.frames))
      (λ r. reply-in nothing (record s { frames = on_own_call o (act_in o act) k s.frames }) _
      (ap (λ fs. record own { frames = fs }) (acts-in g o mine act k s.frames i.frames)))

  -- whether an event is cancelled
  prevented-alike : (k : ℕ) → own_run g view (obeyed world_documents s o (prevented k)) ≡ obeyed e own o (prevented k)
  prevented-alike k =
      unless-in (act_refusal (own_call o k s.frames)) (act_refusal (own_call o k (own_frames g s.frames))) _ _
      (ap act_refusal (own_call-in g o mine s.frames i.frames k) ∙ act_refusal-in g o mine (own_call o k s.frames))
      (λ r. reply-in (a_truth (is_prevented (own_call o k s.frames))) s own refl
      ∙ ap (λ b. replying o (a_truth b) own) (sym (ap is_prevented (own_call-in g o mine s.frames i.frames k) ∙ prevented-in g o mine s.frames i.frames k)))

  -- ---- commands of the protocol

  -- a dispatch
  dispatch-in : (x : NodeWord) (words : EventWords) (r : Option NodeWord) →
      own_run g view (obeyed world_documents s o (plain (Command.dispatch x words r))) ≡ obeyed e own o (plain (Command.dispatch x words r))
  dispatch-in x words r =
      unless-in (plain_refusal world_documents s o c) (plain_refusal e own o c) (still (dispatching world_documents s o x words r)) _
      (ap (λ b. option_or (e.refusal (view s.documents) o c) (first_refusal ((b, Limit) ∷ []))) (limit-in g o mine s.frames)
      ∙ ap (λ m. option_or m (first_refusal ((is_at_limit o s.frames, Limit) ∷ []))) (same-refusal c))
      (λ h. ap (λ t. (t, [])) (pushed-in g view (an_event (dispatched_by (Some o) words vs)) s
      (ap (λ b. b || list_any (is_own_node g) (map (λ v. v.current) vs)) mine)
      ∙ ap (λ m. pushed (an_event (record (own_event g (dispatched_by (Some o) words vs)) { by = m })) own) (cond-true (g o) (Some o) None mine)
      ∙ ap (λ xs. pushed (an_event (record (dispatched_by (Some o) words []) { nodes = xs; visits = filter (is_own_visit g) vs })) own)
      (filter-map (is_own_node g) (λ v. v.current) vs)
      ∙ ap (λ us. pushed (an_event (dispatched_by (Some o) words us)) own)
      (l.visits s.documents o x words r (record { world = i.world; whole = i.whole; side = mine }))
      ∙ ap (λ (p : Part). pushed (an_event (dispatched_by (Some o) words (e.visits (view s.documents) (named p x) (option_map (named p) r) words))) own)
      (sym same-part)))
    where
      c : Command
      c = Command.dispatch x words r

      vs : List (Visit NodeName)
      vs = world_visits s.documents (named (part_of s.documents o) x) (option_map (named (part_of s.documents o)) r) words

  -- a listener that is removed
  unlisten-in : (x : NodeWord) (event label : Word) (capture : Bool) →
      let c = plain (Command.unlisten x event label capture) in
      own_run g view (obeyed world_documents s o c) ≡ obeyed e own o c
  unlisten-in x event label capture =
      unless-in (refusal s.documents o (Command.unlisten x event label capture)) _ _ _ (same-refusal (Command.unlisten x event label capture))
      (λ h. reply-in nothing (without_listener world_documents (named (part_of s.documents o) x) event label capture s)
      (without_listener e (named (e.part (view s.documents) o) x) event label capture own)
      (without-in a (named (part_of s.documents o) x) event label capture s (named-in x)
      ∙ ap (λ (p : Part). without_listener e (named p x) event label capture own) (sym same-part)))

  -- microtasks
  tasks-in : (b : Bool) → own_live g view (record s { live_tasks = s.live_tasks ++ (o, b) ∷ [] })
      ≡ record own { live_tasks = filter (is_own_entry g) s.live_tasks ++ (o, b) ∷ [] }
  tasks-in b = ap (λ es. record own { live_tasks = es }) (filter-append (is_own_entry g) s.live_tasks ((o, b) ∷ [])
      ∙ ap (λ es. filter (is_own_entry g) s.live_tasks ++ es) (filter-here (is_own_entry g) (o, b) [] mine))

  -- any without an event
  plain-in : (c : Command) → is_still c ≡ true → own_run g view (obeyed world_documents s o (plain c)) ≡ obeyed e own o (plain c)
  plain-in (Command.dispatch x words r) q = absurd (true≢false (sym q))
  plain-in Command.end_turn q = absurd (true≢false (sym q))
  plain-in (Command.unlisten x event label capture) q = unlisten-in x event label capture
  plain-in (Command.micro label) q =
      unless-in (refusal s.documents o (Command.micro label)) _ _ _ (same-refusal (Command.micro label))
      (λ r. performed-in (record s { live_tasks = s.live_tasks ++ (o, false) ∷ [] }) _ (Command.micro label) refl (tasks-in false) r refl)
  plain-in c q = unless-in (refusal s.documents o c) _ _ _ (same-refusal c) (λ r. performed-in s own c refl refl r q)

  -- ---- what is live
  listen-in : (x : NodeWord) (w : ListenerWords) → own_run g view (obeyed world_documents s o (listen_live x w)) ≡ obeyed e own o (listen_live x w)
  listen-in x w =
      unless-in (refusal s.documents o c) _ _ _ (same-refusal c)
      (λ r. performed-in (record s { live_listeners = with_live_listener world_documents s o x silent }) _ c refl (ap (λ ls. record own { live_listeners = ls })
      (added
      ∙ ap (λ (p : Part). if there p then own.live_listeners else own.live_listeners ++ record { node = named p x; words = silent } ∷ [])
      (sym same-part))) r refl)
    where
      silent : ListenerWords
      silent = record w { action = Log }

      c : Command
      c = Command.listen x silent

      there : Part → Bool
      there p = list_any (is_listener name_eq (named p x) w.event w.label w.capture) p.listeners

      added : filter (is_own_listener g) (with_live_listener world_documents s o x silent)
          ≡ (if there (part_of s.documents o) then own.live_listeners
          else own.live_listeners ++ record { node = named (part_of s.documents o) x; words = silent } ∷ [])
      added =
          added-in (is_own_listener g) s.live_listeners (record { node = named (part_of s.documents o) x; words = silent }) (there (part_of s.documents o))
          (there (part_of s.documents o)) refl (named-in x)

  -- an observer
  observer-in : own_run g view (obeyed world_documents s o observer_live) ≡ obeyed e own o observer_live
  observer-in =
      unless-in (refusal s.documents o Command.observer) _ _ _ (same-refusal Command.observer)
      (λ r. performed-in (record s { live_observers = s.live_observers ++ (o, length (part_of s.documents o).record_queues) ∷ [] }) _ Command.observer refl
      (ap (λ es. record own { live_observers = es }) (filter-append (is_own_entry g) s.live_observers ((o, length (part_of s.documents o).record_queues) ∷ [])
      ∙ ap (λ es. filter (is_own_entry g) s.live_observers ++ es) (filter-here (is_own_entry g) (o, length (part_of s.documents o).record_queues) [] mine)
      ∙ ap (λ (p : Part). filter (is_own_entry g) s.live_observers ++ (o, length p.record_queues) ∷ []) (sym same-part))) r refl)

  -- a microtask
  micro-in : (label : Word) → own_run g view (obeyed world_documents s o (micro_live label)) ≡ obeyed e own o (micro_live label)
  micro-in label =
      unless-in (refusal s.documents o (Command.micro label)) _ _ _ (same-refusal (Command.micro label))
      (λ r. performed-in (record s { live_tasks = s.live_tasks ++ (o, true) ∷ [] }) _ (Command.micro label) refl (tasks-in true) r refl)

  -- ---- returns and checkpoints

  -- a line of the group, as it is told
  module _ {L : Type 0} (read : L → LiveLine) (line : L) where
    -- it is told as it stands, or as one that is shut out
    abbrev IsTaken : LiveCommand → Type 0
    IsTaken c = read line ≡ said o c →
        own_run g view (obeyed world_documents s o c) ≡ done e read own (if is_shut_out g read s (read line) then shut_out line else own_line line)

    -- as it stands
    stands : (c : LiveCommand) → is_shut_out g read s (said o c) ≡ false → own_run g view (obeyed world_documents s o c) ≡ obeyed e own o c → IsTaken c
    stands c h r q =
        r ∙ sym (ap (λ x. taken e own x) q)
        ∙ sym (ap (λ b. done e read own (if b then shut_out line else own_line line)) (ap (is_shut_out g read s) q ∙ h))

    -- as one that is shut out
    shut : (c : LiveCommand) → is_shut_out g read s (said o c) ≡ true → own_run g view (obeyed world_documents s o c) ≡ denying o Busy own → IsTaken c
    shut c h r q =
        r ∙ sym (ap (λ x. refused_busy e own (owner_said x)) q)
        ∙ sym (ap (λ b. done e read own (if b then shut_out line else own_line line)) (ap (is_shut_out g read s) q ∙ h))

    -- a checkpoint
    end_turn-in : IsTaken (plain Command.end_turn)
    end_turn-in = either (is_under_way (own_frames g s.frames)) (is_under_way s.frames) refl refl
      where
        c : LiveCommand
        c = plain Command.end_turn

        refused_if : Bool → Option Refusal → Option Refusal
        refused_if b r = option_or (first_refusal ((b, Busy) ∷ [])) r

        alike : (b : Bool) → is_under_way (own_frames g s.frames) ≡ b → is_under_way s.frames ≡ b → (b && not b) ≡ false → IsTaken c
        alike b x y z =
            stands c (ap (λ q. is_under_way s.frames && not q) x ∙ ap (λ q. q && not b) y ∙ z)
            (unless-in (refused_if (is_under_way s.frames) (refusal s.documents o Command.end_turn)) _ (still (pushed (a_checkpoint (asked_by o)) s)) _
            (ap (λ q. refused_if q (e.refusal (view s.documents) o Command.end_turn)) (x ∙ sym y)
            ∙ ap (refused_if (is_under_way s.frames)) (same-refusal Command.end_turn))
            (λ h. ap (λ t. (t, [])) (pushed-in g view (a_checkpoint (asked_by o)) s mine)))

        either : (x y : Bool) → is_under_way (own_frames g s.frames) ≡ x → is_under_way s.frames ≡ y → IsTaken c
        either true true p q = alike true p q refl
        either false false p q = alike false p q refl
        either false true p q =
            shut c (ap (λ b. is_under_way s.frames && not b) p ∙ ap (λ b. b && true) q)
            (ap (λ b. own_run g view (unless_denied o (refused_if b (refusal s.documents o Command.end_turn)) s
            (still (pushed (a_checkpoint (asked_by o)) s)))) q
            ∙ ap (λ ls. (own, ls)) (filter-here (is_own_output g) (written (says o (refused Busy))) [] mine))
        either true false p q = absurd (true≢false (sym (under s.frames p) ∙ q))
          where
            under : (fs : List Frame) → is_under_way (own_frames g fs) ≡ true → is_under_way fs ≡ true
            under [] h = h
            under (f ∷ fs) h = refl

    -- a return
    return-in : IsTaken give_back
    return-in = either (has_innermost o (own_frames g s.frames)) (has_innermost o s.frames) refl refl
      where
        why : Bool → Bool → Option Refusal
        why b c = first_refusal ((not b, Unknown) ∷ (not c, Busy) ∷ [])

        same-called : list_any (is_called o) (own_frames g s.frames) ≡ list_any (is_called o) s.frames
        same-called = any-called g o mine s.frames i.frames

        some_none : (r : Option Refusal) → (is_some r && is_none r) ≡ false
        some_none None = refl
        some_none (Some r) = refl

        alike : has_innermost o (own_frames g s.frames) ≡ has_innermost o s.frames → IsTaken give_back
        alike h =
            let same : return_refusal o (own_frames g s.frames) ≡ return_refusal o s.frames =
            ap (λ b. why b (has_innermost o (own_frames g s.frames))) same-called ∙ ap (why (list_any (is_called o) s.frames)) h in
            stands give_back (ap (λ r. is_some (return_refusal o s.frames) && is_none r) same ∙ some_none (return_refusal o s.frames))
            (unless-in (return_refusal o s.frames) (return_refusal o (own_frames g s.frames)) (replying o nothing (call_returned s s.frames)) _ same
            (λ r. reply-in nothing (call_returned s s.frames) (call_returned own (own_frames g s.frames)) (back s.frames i.frames
            (innermost (list_any (is_called o) s.frames) (has_innermost o s.frames) r))))
          where
            innermost : (b c : Bool) → why b c ≡ None → c ≡ true
            innermost true true h = refl
            innermost true false h = cc
            innermost false true h = refl
            innermost false false h = cc

            back : (fs : List Frame) → AllByRecursion IsFrame fs → has_innermost o fs ≡ true →
                own_live g view (call_returned (record s { frames = fs }) fs)
                ≡ call_returned (own_live g view (record s { frames = fs })) (own_frames g fs)
            back [] i h = refl
            back (f ∷ fs) i h =
                ap (λ xs. record own { frames = xs }) (returned-in g o mine f fs i.0 h)
                ∙ sym (ap (λ xs. call_returned (record own { frames = xs ++ own_frames g fs }) (xs ++ own_frames g fs))
                (frame-in g f (called-own g o mine f i.0 h)))

        either : (x y : Bool) → has_innermost o (own_frames g s.frames) ≡ x → has_innermost o s.frames ≡ y → IsTaken give_back
        either true true p q = alike (p ∙ sym q)
        either false false p q = alike (p ∙ sym q)
        either false true p q = absurd (true≢false (sym (inner-own g o mine s.frames i.frames q) ∙ p))
        either true false p q =
            let called : list_any (is_called o) s.frames ≡ true = sym same-called ∙ inner-called o (own_frames g s.frames) p in
            let mine-none : return_refusal o (own_frames g s.frames) ≡ None =
            ap (λ b. why b (has_innermost o (own_frames g s.frames))) (same-called ∙ called) ∙ ap (why true) p in
            let real-busy : return_refusal o s.frames ≡ Some Busy = ap (λ b. why b (has_innermost o s.frames)) called ∙ ap (why true) q in
            shut give_back (ap (λ r. is_some (return_refusal o s.frames) && is_none r) mine-none ∙ ap (λ r. is_some r && true) real-busy)
            (ap (λ r. own_run g view (unless_denied o r s (replying o nothing (call_returned s s.frames)))) real-busy
            ∙ ap (λ ls. (own, ls)) (filter-here (is_own_output g) (written (says o (refused Busy))) [] mine))

    -- any command
    pub command-in : (c : LiveCommand) → IsTaken c
    command-in (plain c) = of_protocol c
      where
        of_protocol : (c : Command) → IsTaken (plain c)
        of_protocol (Command.dispatch x words r) = stands (plain (Command.dispatch x words r)) refl (dispatch-in x words r)
        of_protocol Command.end_turn = end_turn-in
        of_protocol c = stands (plain c) refl (plain-in c refl)
    command-in (listen_live x w) = stands (listen_live x w) refl (listen-in x w)
    command-in observer_live = stands observer_live refl observer-in
    command-in (micro_live label) = stands (micro_live label) refl (micro-in label)
    command-in (prevent k) = stands (prevent k) refl (acting-in Cancel k)
    command-in (stop k) = stands (stop k) refl (acting-in Stop k)
    command-in (stop_now k) = stands (stop_now k) refl (acting-in StopNow k)
    command-in (prevented k) = stands (prevented k) refl (prevented-alike k)
    command-in give_back = return-in
