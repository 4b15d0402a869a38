-- What is asked of live documents lines keep.
use Rattle.dom_base.proofs.Std.{◌≡◌, ℕ, zero, suc, true, false, List, [], ◌∷◌, Option, Some, None, refl, sym}
use Rattle.dom_base.proofs.Std.{true≢false, cond-true, cond-false, AllByRecursion, option_map, subst}
use Rattle.dom_model.proofs.Model.{Owner, owner_eq, owner_eq-true, World, part_of, Command, named, Refusal, refusal, is_of}
use Rattle.dom_model.proofs.Model.{Action, Log, Stop, StopNow, Cancel}
use Rattle.dom_worlds.proofs.WorldLemmas.{quiet-first, first-is_reached, first-is_whole}
use Rattle.dom_worlds.specs.Definitions.{IsWorld, IsReached}
use Rattle.dom_model.proofs.Model.{first_world}
use Rattle.dom_worlds.proofs.ListLemmas.{by_cases}
use Rattle.dom_live.specs.Lines.{LiveCommand, plain, listen_live, observer_live, micro_live, prevent, stop, stop_now, prevented, give_back, LiveLine, ownerless}
use Rattle.dom_live.specs.Lines.{wordless, said, checkpoint, LiveRun, unless_denied}
use Rattle.dom_live.specs.Frames.{Frame, an_event, a_notification, a_microtask, a_checkpoint, event_caller, is_called, returned}
use Rattle.dom_live.specs.Frames.{of_end, own_call}
use Rattle.dom_live.specs.Documents.{Live, world_documents, world_visits}
use Rattle.dom_live.specs.Machine.{taken, obeyed, plain_refusal, performed, acting, act_in, on_own_call, call_returned, is_under_way}
use Rattle.dom_live.specs.Machine.{caller_may_cancel, act_refusal, return_refusal}
use Rattle.dom_live.specs.Laws.{IsFrame, IsLive, LinesKeep}
use Rattle.dom_live.proofs.KeptSteps.{listener-kept, acted-kept, returned-kept, visits-at, IsBy, all-both, either-kept}
use Rattle.dom_live.proofs.BlindSteps.{perform-kept, perform-whole}
use Rattle.dom_live.proofs.OtherLines.{is_still}

-- a refusal, or what is accepted
unless-kept : (o : Owner) (s : Live World) → IsLive s → (m : Option Refusal) (run : LiveRun (Live World)) → (m ≡ None → IsLive run.0) →
    IsLive (unless_denied o m s run).0
unless-kept o s i None run f = f refl
unless-kept o s i (Some r) run f = i

-- a command without an event
performed-kept : (s : Live World) (o : Owner) (c : Command) → IsLive s → refusal s.documents o c ≡ None → is_still c ≡ true →
    IsLive (performed world_documents s o c).0
performed-kept s o c i r q = record {
  world = perform-kept s.documents o c i.world r q;
  whole = perform-whole s.documents o c i.world i.whole r q;
  frames = i.frames;
}

-- an act in a frame where its owner is called
act-kept : (o : Owner) (a : Action) (f : Frame) → is_called o f ≡ true → IsFrame f → IsFrame (act_in o a f)
act-kept o a (an_event u) c i = acted-kept o (caller_may_cancel u.event u.visiting) a u (by (event_caller u.visiting) c) i
  where
    by : (m : Option Owner) → is_of (owner_eq o) m ≡ true → IsBy o m
    by None c = tt
    by (Some x) c = sym (owner_eq-true o x c)
act-kept o a (a_notification n) c i = i
act-kept o a (a_microtask x) c i = i
act-kept o a (a_checkpoint x) c i = i

-- on an own call of a number
acts-kept : (o : Owner) (a : Action) (k : ℕ) (fs : List Frame) → AllByRecursion IsFrame fs → AllByRecursion IsFrame (on_own_call o (act_in o a) k fs)
acts-kept o a k [] i = i
acts-kept o a zero (f ∷ fs) i =
    by_cases (is_called o f)
    (λ c. subst (AllByRecursion IsFrame) (sym (cond-true (is_called o f) (act_in o a f ∷ fs) (f ∷ on_own_call o (act_in o a) zero fs) c))
    (act-kept o a f c i.0, i.1))
    (λ c. subst (AllByRecursion IsFrame) (sym (cond-false (is_called o f) (act_in o a f ∷ fs) (f ∷ on_own_call o (act_in o a) zero fs) c))
    (i.0, acts-kept o a zero fs i.1))
acts-kept o a (suc k) (f ∷ fs) i = (
  i.0,
  by_cases (is_called o f)
      (λ c. subst (AllByRecursion IsFrame) (sym (cond-true (is_called o f) (on_own_call o (act_in o a) k fs) (on_own_call o (act_in o a) (suc k) fs) c))
      (acts-kept o a k fs i.1))
      (λ c. subst (AllByRecursion IsFrame) (sym (cond-false (is_called o f) (on_own_call o (act_in o a) k fs) (on_own_call o (act_in o a) (suc k) fs) c))
      (acts-kept o a (suc k) fs i.1)),
)

module _ (s : Live World) (o : Owner) (i : IsLive s) where
  -- an act
  acting-kept : (a : Action) (k : ℕ) → IsLive (acting world_documents s o a k).0
  acting-kept a k = unless-kept o s i (act_refusal (own_call o k s.frames)) _
      (λ r. record { world = i.world; whole = i.whole; frames = acts-kept o a k s.frames i.frames })

  -- a command of the protocol
  plain-kept : (c : Command) → IsLive (obeyed world_documents s o (plain c)).0
  plain-kept (Command.dispatch x words r) =
      unless-kept o s i (plain_refusal world_documents s o (Command.dispatch x words r)) _
      (λ h. record {
        world = i.world;
        whole = i.whole;
        frames = (
          record {
            visits = visits-at [] (world_visits s.documents (named (part_of s.documents o) x) (option_map (named (part_of s.documents o)) r) words);
            visiting = tt;
            knowing = λ e. refl;
            aware = tt;
          },
          i.frames,
        );
      })
  plain-kept (Command.unlisten x event label capture) =
      unless-kept o s i (refusal s.documents o (Command.unlisten x event label capture)) _
      (λ h. listener-kept (named (part_of s.documents o) x) event label capture s i)
  plain-kept (Command.micro label) =
      unless-kept o s i (refusal s.documents o (Command.micro label)) _
      (λ h. performed-kept _ o (Command.micro label) (record { world = i.world; whole = i.whole; frames = i.frames }) h refl)
  plain-kept Command.end_turn =
      unless-kept o s i (plain_refusal world_documents s o Command.end_turn) _ (λ h. record { world = i.world; whole = i.whole; frames = (tt, i.frames) })
  plain-kept c = unless-kept o s i (refusal s.documents o c) _ (λ h. performed-kept s o c i h refl)

  -- any command
  command-kept : (c : LiveCommand) → IsLive (obeyed world_documents s o c).0
  command-kept (plain c) = plain-kept c
  command-kept (listen_live x w) =
      let c = Command.listen x (record w { action = Log }) in
      unless-kept o s i (refusal s.documents o c) _ (λ h. performed-kept _ o c (record { world = i.world; whole = i.whole; frames = i.frames }) h refl)
  command-kept observer_live =
      unless-kept o s i (refusal s.documents o Command.observer) _
      (λ h. performed-kept _ o Command.observer (record { world = i.world; whole = i.whole; frames = i.frames }) h refl)
  command-kept (micro_live label) =
      unless-kept o s i (refusal s.documents o (Command.micro label)) _
      (λ h. performed-kept _ o (Command.micro label) (record { world = i.world; whole = i.whole; frames = i.frames }) h refl)
  command-kept (prevent k) = acting-kept Cancel k
  command-kept (stop k) = acting-kept Stop k
  command-kept (stop_now k) = acting-kept StopNow k
  command-kept (prevented k) = unless-kept o s i (act_refusal (own_call o k s.frames)) _ (λ h. i)
  command-kept give_back = unless-kept o s i (return_refusal o s.frames) _ (λ h. back s.frames i.frames)
    where
      back : (fs : List Frame) → AllByRecursion IsFrame fs → IsLive (call_returned s fs)
      back [] k = i
      back (f ∷ fs) k = record { world = i.world; whole = i.whole; frames = all-both (returned f) fs (returned-kept f k.0) k.1 }

-- any line
line-kept : (s : Live World) (l : LiveLine) → IsLive s → IsLive (taken world_documents s l).0
line-kept s ownerless i = i
line-kept s (wordless o) i = i
line-kept s (said o c) i = command-kept s o i c
line-kept s checkpoint i = either-kept (is_under_way s.frames) _ _ i (record { world = i.world; whole = i.whole; frames = (tt, i.frames) })

-- the first world
first : IsWorld first_world
first = (quiet-first {only_log = false}).world

-- it is reached
reached : IsReached false first_world
reached = first-is_reached false

-- the law
pub lines-keep : LinesKeep
lines-keep = record {
  first = record {
    world = record {
      page = first.page;
      parts = first.parts;
      hosts = first.hosts;
      makers = first.makers;
      shadow_roots = first.shadow_roots;
      signalled = first.signalled;
      tasks = λ h. absurd (true≢false h);
    };
    whole = record { kinds = reached.kinds; owners = reached.owners; whole = first-is_whole };
    frames = tt;
  };
  line = line-kept;
  ending = λ s i. record { world = i.world; whole = i.whole; frames = all-both s.frames (a_checkpoint of_end ∷ []) i.frames (tt, tt) };
}
