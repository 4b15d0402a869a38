-- Small steps of a checkpoint, as runs.
use Rattle.dom_base.proofs.Std.{◌≡◌, Bool, true, false, List, [], ◌∷◌, drop, refl, sym, ap, ◌∙◌, Some, None, cond-true, cond-false, none-some, same_Some}
use Rattle.dom_base.proofs.Std.{slice_get}
use Rattle.dom_base.specs.declared.Owner.{Owner}
use Rattle.dom_model.specs.Names.{Word}
use Rattle.dom_model.specs.Output.{Output, says, micro_ran}
use Rattle.dom_model.specs.World.{World, Task, micro_task}
use Rattle.dom_live.specs.Documents.{Live, world_documents, first_is_live, without_first}
use Rattle.dom_live.specs.Frames.{Checkpoint, asked_by, of_loop, of_end, a_checkpoint, a_microtask}
use Rattle.dom_live.specs.Lines.{written, calls, at_microtask}
use Rattle.dom_live.specs.SmallSteps.{checked, checkpoint_step, pushed, starting}
use Rattle.dom_callbacks.specs.declared.calling.Calling.{Calling}
use Rattle.dom_callbacks.specs.Bare.{bare}
use Rattle.dom_callbacks.specs.Outputs.{calls_in, called_with}
use Rattle.dom_callbacks.specs.States.{Ran}
use Rattle.dom_callbacks.proofs.NotificationRuns.{with_documents}
use Rattle.dom_callbacks.proofs.Runs.{ran-as, ran-over, ran-pushed}

-- the state with these entries of microtasks
abbrev pub with_tasks : Live World → List (Owner × Bool) → Live World
with_tasks s es = record s { live_tasks = es }

-- the state once a microtask has begun
abbrev pub begun_state : Live World → Owner → Live World
begun_state s o = with_tasks s (without_first o s.live_tasks)

-- the call of its owner
abbrev pub microtask_call : Owner → Calling
microtask_call o = record { owner = o; called = called_with at_microtask }

module _ {A : Type 0} (adds : A → List Output → A → Type 0) (s mid now : Live World) (o : Owner) (label : Word) (a b : A) where
  -- the owner of a microtask that is live is called
  pub micro-live : bare mid ≡ mid → mid ≡ begun_state s o → now ≡ pushed (a_microtask o) mid → first_is_live o s.live_tasks ≡ true →
      adds a (says o (micro_ran label) ∷ []) b → Ran adds (starting world_documents (micro_task o label) s) now a b (Some (microtask_call o))
  micro-live bares m is live told =
      let outputs = written (says o (micro_ran label)) ∷ calls o at_microtask ∷ [] in
      ran-as adds _ (pushed (a_microtask o) mid, outputs) now a b (Some (microtask_call o))
      (cond-true (first_is_live o s.live_tasks) _ _ live ∙ ap (λ (t : Live World). (pushed (a_microtask o) t, outputs)) (sym m))
      (ran-pushed adds mid now (a_microtask o) (a_microtask o) outputs a b (Some (microtask_call o)) bares is refl told refl)

  -- and another only prints its label
  pub micro-plain : bare mid ≡ mid → mid ≡ begun_state s o → first_is_live o s.live_tasks ≡ false →
      adds a (says o (micro_ran label) ∷ []) b → Ran adds (starting world_documents (micro_task o label) s) mid a b None
  micro-plain bares m plain told =
      let outputs = written (says o (micro_ran label)) ∷ [] in
      ran-as adds _ (mid, outputs) mid a b None
      (cond-false (first_is_live o s.live_tasks) _ _ plain ∙ ap (λ (t : Live World). (t, outputs)) (sym m))
      (ran-over adds mid outputs a b None bares told refl refl)

-- nobody is called when a checkpoint is over
pub none-at-end : (c : Checkpoint) → calls_in (checked c) ≡ []
none-at-end (asked_by o) = refl
none-at-end of_loop = refl
none-at-end of_end = refl

-- where there is no first task, there is none
no-task : {X : Type 0} (ts : List X) → None ≡ slice_get ts 0 → ts ≡ []
no-task [] e = refl
no-task (t ∷ ts) e = absurd (none-some t e)

-- where there is one, it stands before the others
first-task : {X : Type 0} (ts : List X) (t : X) → Some t ≡ slice_get ts 0 → ts ≡ t ∷ drop 1 ts
first-task [] t e = absurd (none-some t (sym e))
first-task (u ∷ ts) t e = ap (λ x. x ∷ ts) (sym (same_Some t u e))

module _ (s : Live World) (w : World) (taken : w ≡ record s.documents { tasks = drop 1 s.documents.tasks }) where
  -- documents without a task are as they were
  same-tasks : (ts : List Task) → s.documents.tasks ≡ ts → ts ≡ [] → record s.documents { tasks = drop 1 s.documents.tasks } ≡ s.documents
  same-tasks ts e n = let none : s.documents.tasks ≡ [] = e ∙ n in
      ap (λ us. record s.documents { tasks = drop 1 us }) none ∙ sym (ap (λ us. record s.documents { tasks = us }) none)

  -- a checkpoint is over where no task waits
  pub checkpoint-over : (c : Checkpoint) → None ≡ slice_get s.documents.tasks 0 →
      checkpoint_step world_documents s c s.documents.tasks ≡ (with_documents s w, checked c)
  checkpoint-over c e =
      let none = no-task s.documents.tasks e in
      ap (checkpoint_step world_documents s c) none
      ∙ ap (λ v. (with_documents s v, checked c)) (sym (taken ∙ same-tasks s.documents.tasks refl none))

  -- or the first begins
  pub task-begins : (c : Checkpoint) (t : Task) → Some t ≡ slice_get s.documents.tasks 0 →
      checkpoint_step world_documents s c s.documents.tasks ≡ starting world_documents t (pushed (a_checkpoint c) (with_documents s w))
  task-begins c t e =
      ap (checkpoint_step world_documents s c) (first-task s.documents.tasks t e)
      ∙ ap (λ v. starting world_documents t (pushed (a_checkpoint c) (with_documents s v))) (sym taken)
