-- A line of another, up to what it sets going: it leaves what the group has, but for its outward event.
use Rattle.dom_base.proofs.Std.{◌≡◌, ℕ, Bool, true, false, not, ◌||◌, List, [], ◌∷◌, ◌++◌, filter, map, Option, Some, None, option_map, is_none}
use Rattle.dom_base.proofs.Std.{refl, sym, ap, ◌∙◌, true≢false, cond-false, if◌then◌else◌, list_any, append-nil, filter-append}
use Rattle.dom_model.proofs.Model.{Owner, NodeName, Visit, says, Command, NodeWord, EventWords, named, OutwardEvent}
use Rattle.dom_model.proofs.Model.{outward_words, outward_dispatch, World, Refusal, first_refusal, Output, replied, refused, nothing, group_outputs}
use Rattle.dom_base.proofs.Std.{option_or}
use Rattle.dom_model.proofs.Model.{ListenerWords, Listener, Log}
use Rattle.dom_worlds.proofs.ListLemmas.{by_cases, filter-map}
use Rattle.dom_worlds.proofs.OwnerLemmas.{owner-named}
use Rattle.dom_isolation.proofs.GroupSlots.{filter-away, added-out}
use Rattle.dom_live.specs.Lines.{LiveCommand, plain, listen_live, observer_live, micro_live, prevent, stop, stop_now, prevented, give_back, LiveLine}
use Rattle.dom_live.specs.Lines.{said, LiveRun, written, still, replying, unless_denied}
use Rattle.dom_live.specs.Frames.{Frame, an_event, a_checkpoint, asked_by, is_called}
use Rattle.dom_live.specs.Documents.{Documents, Live, world_documents, world_visits}
use Rattle.dom_live.specs.Laws.{IsLive, IsLiveWorld, IsLiveWhole}
use Rattle.dom_live.specs.Machine.{act_in, on_own_call}
use Rattle.dom_live.specs.Things.{done_if, out_thing, goes_out, going_out}
use Rattle.dom_model.proofs.Model.{Word}
use Rattle.dom_model.proofs.Model.{refusal, perform, part_of, owner-part_of, Action, Value, Unknown, Busy, Stop, StopNow, Cancel}
use Rattle.dom_base.proofs.Std.{subst}
use Rattle.dom_live.specs.SmallSteps.{pushed, dispatched_by, without_listener}
use Rattle.dom_live.specs.Machine.{obeyed, plain_refusal, performed, acting, return_refusal}
use Rattle.dom_live.specs.Machine.{act_refusal, call_returned}
use Rattle.dom_live.specs.Frames.{own_call}
use Rattle.dom_live.specs.Groups.{is_own_visit, is_own_node, own_live, own_run, own_outputs, is_own_output, is_own_listener, is_own_entry, own_event}
use Rattle.dom_live.proofs.OwnFrames.{pushed-in, pushed-out}
use Rattle.dom_live.proofs.OwnSteps.{Agrees, without-out}
use Rattle.dom_live.proofs.OwnCalls.{acts-hidden, returned-hidden}
use Rattle.dom_live.proofs.TaskSteps.{none-own}

-- a command that has no event, and is no checkpoint
abbrev pub is_still : Command → Bool
is_still (Command.dispatch x e r) = false
is_still Command.end_turn = false
is_still c = true

-- A world, and an owner of the group or outside of it, where `inside` says so;
pub record Stands (g : Owner → Bool) (inside : Bool) (w : World) (o : Owner) : Type 0 where
  pub world : IsLiveWorld w
  pub whole : IsLiveWhole w
  pub side : g o ≡ inside

-- and an accepted command of such an owner.
pub record Takes (g : Owner → Bool) (inside : Bool) (w : World) (o : Owner) (c : Command) : Type 0 where
  pub stands : Stands g inside w o
  pub accepted : refusal w o c ≡ None

-- the visits of a dispatch
abbrev pub dispatch_visits : World → Owner → NodeWord → EventWords → Option NodeWord → List (Visit NodeName)
dispatch_visits w o x words r = world_visits w (named (part_of w o) x) (option_map (named (part_of w o)) r) words

-- A dispatch of another visits no node of the group, or the nodes that its outward event visits.
pub record Shows (g : Owner → Bool) {V : Type 0} (view : World → V) (e : Documents V) (w : World) (o : Owner) (x : NodeWord) (words : EventWords)
    (r : Option NodeWord) : Type 0 where
  pub stays : outward_dispatch g w o (Command.dispatch x words r) ≡ None → filter (is_own_visit g) (dispatch_visits w o x words r) ≡ []
  pub sends : (out : OutwardEvent) → outward_dispatch g w o (Command.dispatch x words r) ≡ Some out →
      (words ≡ outward_words out)
      × (filter (is_own_visit g) (dispatch_visits w o x words r) ≡ e.visits (view w) out.host None (outward_words out))

-- What commands of others do to what a group has of the world: those without an event nothing.
pub record LeavesOthers (g : Owner → Bool) {V : Type 0} (view : World → V) (e : Documents V) : Type 0 where
  pub performs : (w : World) (o : Owner) (c : Command) → Takes g false w o c → is_still c ≡ true →
      (view (perform w o c).0 ≡ view w) × (group_outputs g (perform w o c).1 ≡ [])
  pub dispatches : (w : World) (o : Owner) (x : NodeWord) (words : EventWords) (r : Option NodeWord) → Takes g false w o (Command.dispatch x words r) →
      Shows g view e w o x words r

-- some visit is at a node of the group, where one is left of them
some-own : (g : Owner → Bool) (vs us : List (Visit NodeName)) (v : Visit NodeName) → filter (is_own_visit g) vs ≡ v ∷ us →
    list_any (is_own_node g) (map (λ v. v.current) vs) ≡ true
some-own g [] us v h = cc
some-own g (u ∷ vs) us v h =
    by_cases (is_own_visit g u)
    (λ k. ap (λ b. b || list_any (is_own_node g) (map (λ v. v.current) vs)) k)
    (λ k. ap (λ b. b || list_any (is_own_node g) (map (λ v. v.current) vs)) k
    ∙ some-own g vs us v (sym (filter-away (is_own_visit g) u vs k) ∙ h))

module _ {g : Owner → Bool} {V : Type 0} {view : World → V} {e : Documents V} (a : Agrees g IsLiveWorld world_documents view e)
    (l : LeavesOthers g view e) (s : Live World) (i : IsLive s) (o : Owner) (other : g o ≡ false) where
  -- what leaves what the group has
  abbrev pub Leaves : LiveRun (Live World) → Type 0
  Leaves r = own_run g view r ≡ (own_live g view s, [])

  -- lines that are not the group's
  lines-out : (ls : List Output) → group_outputs g ls ≡ [] → own_outputs g (map written ls) ≡ []
  lines-out ls h = filter-map (is_own_output g) written ls ∙ ap (map written) h

  -- a reply
  reply-out : (v : Value) (t : Live World) → own_live g view t ≡ own_live g view s → Leaves (replying o v t)
  reply-out v t h =
      ap (λ u. (u, own_outputs g (written (says o (replied v)) ∷ []))) h
      ∙ ap (λ ls. (own_live g view s, ls)) (filter-away (is_own_output g) (written (says o (replied v))) [] other)

  -- a refusal, or what is accepted
  unless-out : (m : Option Refusal) (run : LiveRun (Live World)) → (m ≡ None → Leaves run) → Leaves (unless_denied o m s run)
  unless-out None run f = f refl
  unless-out (Some r) run f = ap (λ ls. (own_live g view s, ls)) (filter-away (is_own_output g) (written (says o (refused r))) [] other)

  -- with other listeners, observers or microtasks of its own that are live
  record HasSame (t : Live World) : Type 0 where
    documents : t.documents ≡ s.documents
    same : own_live g view t ≡ own_live g view s

  -- a command without an event
  performed-out : (t : Live World) (c : Command) → HasSame t → refusal s.documents o c ≡ None → is_still c ≡ true → Leaves (performed world_documents t o c)
  performed-out t c h r q =
      let w = t.documents in
      let r' : refusal w o c ≡ None = ap (λ w. refusal w o c) h.documents ∙ r in
      let k = l.performs w o c (record {
        stands = record {
          world = subst IsLiveWorld (sym h.documents) i.world;
          whole = subst IsLiveWhole (sym h.documents) i.whole;
          side = other;
        };
        accepted = r';
      }) q in
      ap (λ u. (record (own_live g view t) { documents = u }, own_outputs g (map written (perform w o c).1))) k.0
      ∙ ap (λ u. (u, own_outputs g (map written (perform w o c).1))) h.same
      ∙ ap (λ ls. (own_live g view s, ls)) (lines-out (perform w o c).1 k.1)

  -- what is live of another
  same-listeners : (ls : List (Listener NodeName)) → filter (is_own_listener g) ls ≡ filter (is_own_listener g) s.live_listeners →
      HasSame (record s { live_listeners = ls })
  same-listeners ls h = record { documents = refl; same = ap (λ ls. record (own_live g view s) { live_listeners = ls }) h }

  -- observers
  same-observers : (k : ℕ) → HasSame (record s { live_observers = s.live_observers ++ (o, k) ∷ [] })
  same-observers k = record {
    documents = refl;
    same = ap (λ es. record (own_live g view s) { live_observers = es }) (filter-append (is_own_entry g) s.live_observers ((o, k) ∷ [])
        ∙ ap (λ es. filter (is_own_entry g) s.live_observers ++ es) (filter-away (is_own_entry g) (o, k) [] other)
        ∙ append-nil (filter (is_own_entry g) s.live_observers));
  }

  -- microtasks
  same-tasks : (b : Bool) → HasSame (record s { live_tasks = s.live_tasks ++ (o, b) ∷ [] })
  same-tasks b = record {
    documents = refl;
    same = ap (λ es. record (own_live g view s) { live_tasks = es }) (filter-append (is_own_entry g) s.live_tasks ((o, b) ∷ [])
        ∙ ap (λ es. filter (is_own_entry g) s.live_tasks ++ es) (filter-away (is_own_entry g) (o, b) [] other)
        ∙ append-nil (filter (is_own_entry g) s.live_tasks));
  }

  -- a word of it names a node of its own
  named-out : (x : NodeWord) → g (named (part_of s.documents o) x).owner ≡ false
  named-out x = ap g (owner-named (part_of s.documents o) x ∙ owner-part_of s.documents o) ∙ other

  -- the return of its innermost call
  return-out : (fs : List Frame) → return_refusal o fs ≡ None →
      own_live g view (call_returned (record s { frames = fs }) fs) ≡ own_live g view (record s { frames = fs })
  return-out [] h = refl
  return-out (f ∷ fs) h =
      ap (λ xs. record (own_live g view s) { frames = xs }) (returned-hidden g o other f fs (innermost (list_any (is_called o) (f ∷ fs)) (is_called o f) h))
    where
      innermost : (b c : Bool) → first_refusal ((not b, Unknown) ∷ (not c, Busy) ∷ []) ≡ None → c ≡ true
      innermost true true h = refl
      innermost true false h = cc
      innermost false true h = refl
      innermost false false h = cc

  -- an act
  acting-out : (act : Action) (k : ℕ) → Leaves (acting world_documents s o act k)
  acting-out act k =
      unless-out (act_refusal (own_call o k s.frames)) (replying o nothing (record s { frames = on_own_call o (act_in o act) k s.frames }))
      (λ r. reply-out nothing (record s { frames = on_own_call o (act_in o act) k s.frames })
      (ap (λ xs. record (own_live g view s) { frames = xs }) (acts-hidden g o other act k s.frames)))

  -- a command of the protocol without an event
  pub plain-out : (c : Command) → is_still c ≡ true → Leaves (obeyed world_documents s o (plain c))
  plain-out (Command.dispatch x words r) q = absurd (true≢false (sym q))
  plain-out Command.end_turn q = absurd (true≢false (sym q))
  plain-out (Command.unlisten x event label capture) q =
      unless-out (refusal s.documents o (Command.unlisten x event label capture)) _
      (λ r. reply-out nothing (without_listener world_documents (named (part_of s.documents o) x) event label capture s)
      (without-out a (named (part_of s.documents o) x) event label capture s (named-out x)))
  plain-out (Command.micro label) q =
      unless-out (refusal s.documents o (Command.micro label)) _ (λ r. performed-out _ (Command.micro label) (same-tasks false) r refl)
  plain-out c q = unless-out (refusal s.documents o c) _ (λ r. performed-out s c (record { documents = refl; same = refl }) r q)

  -- a checkpoint
  end_turn-out : Leaves (obeyed world_documents s o (plain Command.end_turn))
  end_turn-out =
      unless-out (plain_refusal world_documents s o Command.end_turn) _ (λ r. ap (λ t. (t, [])) (pushed-out g view (a_checkpoint (asked_by o)) s other))

  -- the other commands of live documents
  pub live-out : (x : NodeWord) (w : ListenerWords) → Leaves (obeyed world_documents s o (listen_live x w))
  live-out x w =
      unless-out (refusal s.documents o (Command.listen x (record w { action = Log }))) _
      (λ r. performed-out _ (Command.listen x (record w { action = Log })) (same-listeners _ (added _)) r refl)
    where
      added : (b : Bool) →
          filter (is_own_listener g) (if b then s.live_listeners
          else s.live_listeners ++ record { node = named (part_of s.documents o) x; words = record w { action = Log } } ∷ [])
          ≡ filter (is_own_listener g) s.live_listeners
      added b =
          added-out (is_own_listener g) s.live_listeners (record { node = named (part_of s.documents o) x; words = record w { action = Log } }) b
          (named-out x)

  -- an observer
  observer-out : Leaves (obeyed world_documents s o observer_live)
  observer-out =
      unless-out (refusal s.documents o Command.observer) _ (λ r. performed-out _ Command.observer (same-observers _) r refl)

  -- a microtask
  micro-out : (label : Word) → Leaves (obeyed world_documents s o (micro_live label))
  micro-out label =
      unless-out (refusal s.documents o (Command.micro label)) _ (λ r. performed-out _ (Command.micro label) (same-tasks true) r refl)

  -- ---- dispatches
  module _ {L : Type 0} (read : L → LiveLine) (x : NodeWord) (words : EventWords) (r : Option NodeWord) where
    -- its visits
    abbrev visits : List (Visit NodeName)
    visits = world_visits s.documents (named (part_of s.documents o) x) (option_map (named (part_of s.documents o)) r) words

    -- the event
    abbrev event : Frame
    event = an_event (dispatched_by (Some o) words visits)

    -- an event that visits no node of the group
    no_visit : filter (is_own_visit g) visits ≡ [] → own_live g view (pushed event s) ≡ own_live g view s
    no_visit h =
        pushed-out g view event s (ap (λ b. b || list_any (is_own_node g) (map (λ v. v.current) visits)) other ∙ none-own g visits h)

    -- an event that goes out
    sent : (out : OutwardEvent) → words ≡ outward_words out → (us : List (Visit NodeName)) → filter (is_own_visit g) visits ≡ us →
        own_live g view (pushed event s) ≡ going_out e (own_live g view s) (outward_words out) us
    sent out q [] h = no_visit h
    sent out q (v ∷ us) h =
        pushed-in g view event s (ap (λ b. b || list_any (is_own_node g) (map (λ v. v.current) visits)) other ∙ some-own g visits us v h)
        ∙ ap (λ m. pushed (an_event (record (own_event g (dispatched_by (Some o) words visits)) { by = m })) (own_live g view s))
        (cond-false (g o) (Some o) None other)
        ∙ ap (λ xs. pushed (an_event (record (dispatched_by None words []) { nodes = xs; visits = filter (is_own_visit g) visits })) (own_live g view s))
        (filter-map (is_own_node g) (λ v. v.current) visits)
        ∙ ap (λ xs. pushed (an_event (dispatched_by None words xs)) (own_live g view s)) h
        ∙ ap (λ w. pushed (an_event (dispatched_by None w (v ∷ us))) (own_live g view s)) q

    -- the refusals
    first-none : (a b : Option Refusal) → option_or a b ≡ None → a ≡ None
    first-none None b h = refl
    first-none (Some a) b h = cc

    -- a dispatch
    dispatch-out : own_run g view (obeyed world_documents s o (plain (Command.dispatch x words r)))
        ≡ done_if e read (own_live g view s) (out_thing g read (goes_out g read s (said o (plain (Command.dispatch x words r)))))
    dispatch-out = from (plain_refusal world_documents s o (Command.dispatch x words r)) refl
      where
        c : Command
        c = Command.dispatch x words r

        shows : refusal s.documents o c ≡ None → Shows g view e s.documents o x words r
        shows h = l.dispatches s.documents o x words r (record { stands = record { world = i.world; whole = i.whole; side = other }; accepted = h })

        accepted : refusal s.documents o c ≡ None → (m : Option OutwardEvent) → outward_dispatch g s.documents o c ≡ m →
            (own_live g view (pushed event s), []) ≡ done_if e read (own_live g view s) (out_thing g read m)
        accepted h None q = ap (λ t. (t, [])) (no_visit ((shows h).stays q))
        accepted h (Some out) q =
            let k = (shows h).sends out q in
            ap (λ t. (t, [])) (sent out k.0 (e.visits (view s.documents) out.host None (outward_words out)) k.1)

        from : (m : Option Refusal) → plain_refusal world_documents s o c ≡ m →
            own_run g view (unless_denied o m s (still (pushed event s)))
            ≡ done_if e read (own_live g view s) (out_thing g read (if is_none m then outward_dispatch g s.documents o c else None))
        from None h = accepted (first-none _ _ h) (outward_dispatch g s.documents o c) refl
        from (Some m) h = ap (λ ls. (own_live g view s, ls)) (filter-away (is_own_output g) (written (says o (refused m))) [] other)

  -- any command of another
  pub command-out : {L : Type 0} (read : L → LiveLine) (c : LiveCommand) →
      own_run g view (obeyed world_documents s o c) ≡ done_if e read (own_live g view s) (out_thing g read (goes_out g read s (said o c)))
  command-out read (plain c) = of_protocol c
    where
      nothing_told : (m : Option OutwardEvent) → m ≡ None → (r : LiveRun (Live World)) → Leaves r →
          own_run g view r ≡ done_if e read (own_live g view s) (out_thing g read m)
      nothing_told m h r k = k ∙ ap (λ m. done_if e read (own_live g view s) (out_thing g read m)) (sym h)

      no_event : Option OutwardEvent
      no_event = None

      none_either : (b : Bool) → (if b then no_event else no_event) ≡ no_event
      none_either true = refl
      none_either false = refl

      of_protocol : (c : Command) →
          own_run g view (obeyed world_documents s o (plain c)) ≡ done_if e read (own_live g view s) (out_thing g read (goes_out g read s (said o (plain c))))
      of_protocol (Command.dispatch x words r) = dispatch-out read x words r
      of_protocol Command.end_turn = nothing_told _ (none_either _) (obeyed world_documents s o (plain Command.end_turn)) end_turn-out
      of_protocol c = nothing_told _ (none_either _) (obeyed world_documents s o (plain c)) (plain-out c refl)
  command-out read (listen_live x w) = live-out x w
  command-out read observer_live = observer-out
  command-out read (micro_live label) = micro-out label
  command-out read (prevent k) = acting-out Cancel k
  command-out read (stop k) = acting-out Stop k
  command-out read (stop_now k) = acting-out StopNow k
  command-out read (prevented k) = unless-out _ _ (λ r. reply-out _ s refl)
  command-out read give_back = unless-out _ _ (λ r. reply-out nothing (call_returned s s.frames) (return-out s.frames r))
