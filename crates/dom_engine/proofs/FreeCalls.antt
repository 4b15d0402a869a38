-- A call is the machine's command in whatever turn, where it is not refused as busy, and its tasks come after those that wait.
use Rattle.dom_base.proofs.Std.{◌≡◌, ◌≢◌, Bool, true, false, not, ◌&&◌, List, [], ◌∷◌, ◌++◌, Option, Some, None, is_some, refl, sym, ap, ◌∙◌, subst, true≢false}
use Rattle.dom_base.proofs.Std.{if◌then◌else◌, option_or, and-false}
use Rattle.dom_model.proofs.Model.{Owner, Page, Component, World, Task, part_of, is_there, Command, is_command_of, names_foreign, part_refusal, first_refusal}
use Rattle.dom_model.proofs.Model.{Refusal, Syntax, Busy, Foreign, Unknown, refusal, accepted, perform, run_command, step, command, is_busy, Run, run_then}
use Rattle.dom_model.proofs.Model.{unless_refused, quiet, ending_turn, has_other_turn, opening_turn, says, replied, nothing}
use Rattle.dom_engine.specs.Documents.{is_end_turn, called, without_turn, turnless, queued}
use Rattle.dom_engine.specs.DocumentLaws.{TasksWait}
use Rattle.dom_engine.proofs.OtherTasks.{KeepsQueues, perform-other}
use Rattle.dom_engine.proofs.OtherTasks as tasks
use Rattle.dom_engine.proofs.Queues.{queued-keeps, same-keeps}

module _ (f : List Task → List Task) (k : KeepsQueues f) (m : World) (o : Owner) where
  -- the world with other tasks, without a turn
  abbrev other : World → World
  other w = tasks.other f k None w

  -- a command that is not refused as busy is refused alike
  pub refusal-other : (c : Command) → (is_command_of o c && is_busy m o) ≡ false → refusal m o c ≡ refusal (other m) o c
  refusal-other c h = from (is_command_of o c) (is_busy m o) h
    where
      own : Option Refusal
      own = part_refusal (part_of m o) c

      from : (mine busy : Bool) → (mine && busy) ≡ false →
          option_or (first_refusal ((not mine, Syntax) ∷ (busy, Busy) ∷ (names_foreign c, Foreign) ∷ (not (is_there m o), Unknown) ∷ [])) own
          ≡ option_or (first_refusal ((not mine, Syntax) ∷ (false, Busy) ∷ (names_foreign c, Foreign) ∷ (not (is_there m o), Unknown) ∷ [])) own
      from true true h = absurd (true≢false h)
      from true false h = refl
      from false busy h = refl

  -- the turn that it opens
  opening-other : tasks.other f k (Some o) (opening_turn m o) ≡ opening_turn (other m) o
  opening-other = from (is_some m.turn)
    where
      from : (b : Bool) → tasks.other f k (Some o) (if b then m else record m { turn = Some o }) ≡ record m { tasks = f m.tasks; turn = Some o }
      from true = refl
      from false = refl

  -- an accepted command
  performs-other : (c : Command) → is_end_turn c ≡ false →
      perform (opening_turn (other m) o) o c ≡ tasks.other_run f k (Some o) (perform (opening_turn m o) o c)
  performs-other c e = ap (λ v. perform v o c) (sym opening-other) ∙ perform-other f k (Some o) (opening_turn m o) o c e

  accepted-other : (c : Command) → is_end_turn c ≡ false → accepted (other m) o c ≡ tasks.other_run f k (Some o) (accepted m o c)
  accepted-other Command.end_turn e = absurd (true≢false e)
  accepted-other c e = performs-other c e

  -- a call's run, from that of the machine
  abbrev pub other_run : Run World → Run World
  other_run r = tasks.other_run f k None r

  -- refused or accepted
  command-other : (c : Command) (r : Option Refusal) → (r ≡ None → is_end_turn c ≡ false) →
      (let s = unless_refused o r (other m) (accepted (other m) o c) in (without_turn s.0, s.1)) ≡ other_run (unless_refused o r m (accepted m o c))
  command-other c (Some r) e = refl
  command-other c None e = ap (λ (s : Run World). (without_turn s.0, s.1)) (accepted-other c (e refl))

  -- a call
  pub call-other : (c : Command) → (is_command_of o c && is_busy m o) ≡ false → (refusal (other m) o c ≡ None → is_end_turn c ≡ false) →
      called (other m) o c ≡ other_run (run_command o c m)
  call-other c h e =
      command-other c (refusal (other m) o c) e ∙ ap (λ r. other_run (unless_refused o r m (accepted m o c))) (sym (refusal-other c h))

-- A command in a machine in which no other owner's turn is open is the call in the document's world.
module _ (q : List Task) (m : World) (o : Owner) (c : Command) where
  pub call-is : has_other_turn m o ≡ false → is_busy m o ≡ false → (refusal (turnless m q) o c ≡ None → is_end_turn c ≡ false) →
      called (turnless m q) o c ≡ (turnless (step m (command o c)).0 q, (step m (command o c)).1)
  call-is ended calm e =
      call-other (queued q) (queued-keeps q) m o c (ap (λ b. is_command_of o c && b) calm ∙ and-false (is_command_of o c)) e
      ∙ sym (ap (λ b. let s = run_then (if b then ending_turn m else quiet m) (run_command o c) in (turnless s.0 q, s.1)) ended)

-- the end of a turn
end-refusal : (w : World) (o : Owner) → refusal (without_turn w) o Command.end_turn ≡ (if is_there w o then None else Some Unknown)
end-refusal w Page = from (is_there w Page)
  where
    from : (b : Bool) → option_or (first_refusal ((not b, Unknown) ∷ [])) None ≡ (if b then None else Some Unknown)
    from true = refl
    from false = refl
end-refusal w (Component j) = from (is_there w (Component j))
  where
    from : (b : Bool) → option_or (first_refusal ((not b, Unknown) ∷ [])) None ≡ (if b then None else Some Unknown)
    from true = refl
    from false = refl

-- is refused of an owner that is not there,
pub end-no_call : (w : World) (o : Owner) (c : Command) → (is_end_turn c && is_there w o) ≡ false → refusal (without_turn w) o c ≡ None → is_end_turn c ≡ false
end-no_call w o Command.end_turn h r =
    absurd (true≢false (ap is_some (sym (ap (λ b. if b then None else Some Unknown) h) ∙ sym (end-refusal w o) ∙ r)))
end-no_call w o c h r = refl

-- and of another one a checkpoint and a reply
pub end-is : (w : World) (o : Owner) → is_there w o ≡ true →
    called (without_turn w) o Command.end_turn ≡ (without_turn (ending_turn w).0, (ending_turn w).1 ++ says o (replied nothing) ∷ [])
end-is w o h =
    ap (λ r. let s = unless_refused o r (without_turn w) (accepted (without_turn w) o Command.end_turn) in (without_turn s.0, s.1))
    (end-refusal w o ∙ ap (λ b. if b then None else Some Unknown) h)

-- ---- the law on tasks

pub tasks-wait : TasksWait
tasks-wait w o c e = call-is w.tasks (record w { tasks = []; turn = None }) o c refl refl (λ r. e)
