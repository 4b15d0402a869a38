-- What the functions of a document leave and tell, from what its machine leaves and tells.
use Rattle.dom_base.proofs.Std.{◌≡◌, Bool, true, false, ◌&&◌, List, [], ◌∷◌, ◌++◌, None, Result, Ok, Err, OnOk, map, list_any, refl, sym, ap, ◌∙◌}
use Rattle.dom_base.proofs.Std.{subst, AllByRecursion}
use Rattle.dom_model.proofs.Model.{Owner, World, Task, micro_task, notify_task, is_notify_of, is_there, Command, command, refusal, step, is_busy}
use Rattle.dom_model.proofs.Model.{has_other_turn, running_task, run_each, ending_turn, Output, says, replied, nothing, Run}
use Rattle.dom_worlds.specs.Definitions.{IsThere, task_owner}
use Rattle.dom_worlds.proofs.ListLemmas.{all-append, either_way}
use Rattle.dom_answers.specs.Told.{shown_output}
use Rattle.dom_answers.specs.ToldLaws.{more_told}
use Rattle.dom_commands.specs.Machine.{MachineNow, AreThere, IsAtRest}
use Rattle.dom_engine.specs.Documents.{called, is_end_turn, with_task, queued, turnless, IsReady}
use Rattle.dom_engine.proofs.EndedTasks.{still-ended, turnless-ended}
use Rattle.dom_engine.proofs.FreeCalls.{call-is, end-is, end-no_call}
use Rattle.dom_engine.proofs.KeptOwners.{task_owners-stay}

-- what holds after a call that went well, from two things that do
pub on_ok-both : {T E : Type 0} {A B C : Type 0} (r : Result T E) → (A → B → C) → OnOk r A → OnOk r B → OnOk r C
on_ok-both (Ok x) f h k = f h k
on_ok-both (Err e) f h k = tt

-- what always does
pub on_ok-holds : {T E : Type 0} {A : Type 0} (r : Result T E) → A → OnOk r A
on_ok-holds (Ok x) h = h
on_ok-holds (Err e) h = tt

-- ---- tasks that are set aside

module _ (P : Task → Type 0) where
  -- a task that comes after others
  all-with_task : (q : List Task) (t : Task) → AllByRecursion P q → P t → AllByRecursion P (with_task q t)
  all-with_task q (micro_task o label) h k = all-append P q (micro_task o label ∷ []) h (k, tt)
  all-with_task q (notify_task o) h k =
      either_way (AllByRecursion P) (list_any (is_notify_of o) q) q (q ++ notify_task o ∷ []) h (all-append P q (notify_task o ∷ []) h (k, tt))

  -- tasks that do
  all-queued : (ts q : List Task) → AllByRecursion P q → AllByRecursion P ts → AllByRecursion P (queued q ts)
  all-queued [] q h k = h
  all-queued (t ∷ ts) q h k = all-queued ts (with_task q t) (all-with_task q t h k.0) k.1

-- the document stays ready
module _ (m n : MachineNow) (q ts us : List Task) where
  pub ready-aside : IsReady m q → IsAtRest n → n.world ≡ record m.world { tasks = []; turn = None } → AreThere n.world ts → us ≡ queued q ts → IsReady n us
  ready-aside ready rest world there queue = record {
    machine = rest;
    there = subst (AreThere n.world) (sym queue)
        (all-queued (λ t. IsThere n.world (task_owner t)) ts q (subst (λ w. AreThere w q) (sym world) ready.there) there);
  }

-- ---- a checkpoint

-- what it leaves
module _ (w v u : World) (q ts left : List Task) where
  pub ran-world : v ≡ record w { tasks = []; turn = None } → ts ≡ queued q w.tasks → left ≡ [] → u ≡ (run_each running_task v ts).0 →
      turnless u left ≡ (ending_turn (turnless w q)).0
  ran-world world queue none run =
      ap (turnless u) none
      ∙ ap (λ x. turnless x []) (run ∙ ap (λ x. (run_each running_task x ts).0) world
      ∙ ap (λ xs. (run_each running_task (record w { tasks = []; turn = None }) xs).0) queue)
      ∙ turnless-ended (turnless w q)

-- with a reply after it
module _ (w : World) (q : List Task) (o : Owner) (there : is_there w o ≡ true) where
  pub ended-told : (before mid after : List Output) → mid ≡ before ++ map shown_output (ending_turn (turnless w q)).1 →
      after ≡ mid ++ map shown_output (says o (replied nothing) ∷ []) → after ≡ before ++ map shown_output (called (turnless w q) o Command.end_turn).1
  ended-told before mid after first second =
      more_told before mid after (ending_turn (turnless w q)).1 (says o (replied nothing) ∷ []) first second
      ∙ sym (ap (λ (r : Run World). before ++ map shown_output r.1) (end-is (turnless w q) o there))

  pub ended-world : (u : World) → u ≡ (ending_turn (turnless w q)).0 → u ≡ (called (turnless w q) o Command.end_turn).0
  ended-world u h = h ∙ still-ended (turnless w q) ∙ sym (ap (λ (r : Run World). r.0) (end-is (turnless w q) o there))

-- ---- a call

module _ (w v : World) (q p : List Task) (same : turnless v p ≡ turnless w q) (o : Owner) (c : Command) where
  module _ (ended : has_other_turn v o ≡ false) (calm : is_busy v o ≡ false) (no_end : (is_end_turn c && is_there w o) ≡ false) where
    -- the machine's step is the call
    call-done : called (turnless w q) o c ≡ (turnless (step v (command o c)).0 p, (step v (command o c)).1)
    call-done =
        ap (λ u. called u o c) (sym same)
        ∙ call-is p v o c ended calm (λ r. end-no_call (turnless w q) o c no_end (sym (ap (λ u. refusal u o c) same) ∙ r))

    -- in what it tells
    pub call-told : (before after : List Output) → after ≡ before ++ map shown_output (step v (command o c)).1 →
        after ≡ before ++ map shown_output (called (turnless w q) o c).1
    call-told before after h = h ∙ sym (ap (λ (r : Run World). before ++ map shown_output r.1) call-done)

    -- and in what it leaves
    pub call-world : (u : World) → u ≡ (step v (command o c)).0 → turnless u p ≡ (called (turnless w q) o c).0
    call-world u h = ap (λ x. turnless x p) h ∙ sym (ap (λ (r : Run World). r.0) call-done)

-- the owners of the tasks that wait are there afterwards
module _ (w : World) (q : List Task) (o : Owner) (c : Command) (n : MachineNow) where
  pub ready-after : AreThere w q → IsAtRest n → n.world ≡ (step w (command o c)).0 → IsReady n q
  ready-after there rest world = record {
    machine = rest;
    there = subst (λ u. AreThere u q) (sym world) (task_owners-stay w o c q there);
  }
