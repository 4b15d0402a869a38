-- Many small steps, and their trace.
use Rattle.dom_base.proofs.Std.{◌≡◌, ℕ, zero, suc, Bool, List, ◌++◌, refl, sym, ap, ◌∙◌, cond-true, cond-false, append-nil}
use Rattle.dom_base.proofs.Std.{filter-append, subst, if◌then◌else◌}
use Rattle.dom_model.proofs.Model.{Owner, World, group_world, is_page, page_of}
use Rattle.dom_worlds.proofs.ListLemmas.{by_cases}
use Rattle.dom_live.specs.Lines.{LiveLine, LiveRun, still, and_then}
use Rattle.dom_live.specs.Documents.{Documents, Live, world_documents, silent_documents, page_documents}
use Rattle.dom_live.specs.SmallSteps.{advance}
use Rattle.dom_live.specs.Runs.{going, is_resting}
use Rattle.dom_live.specs.Groups.{own_live, own_run, is_own_output, is_own_step}
use Rattle.dom_live.specs.Things.{LiveTrace, no_things, told_run, told_next, done_if, step_traced, steps_traced}
use Rattle.dom_live.specs.Laws.{IsLive, followed, StepsAgree, StepsKeep, PageStepsAgree, GroupStepsAgree}
use Rattle.dom_live.proofs.KeptSteps.{advance-kept}
use Rattle.dom_live.proofs.ToldRuns.{told-both, then-then}
use Rattle.dom_live.proofs.OneStep.{page-step_agrees, group-step_agrees}

-- what is asked is kept
pub steps-keep : StepsKeep
steps-keep zero s i = i
steps-keep (suc n) s i =
    by_cases (is_resting s)
    (λ k. subst (λ (r : LiveRun (Live World)). IsLive r.0) (sym (cond-true (is_resting s) (still s) more k)) i)
    (λ k. subst (λ (r : LiveRun (Live World)). IsLive r.0) (sym (cond-false (is_resting s) (still s) more k))
    (steps-keep n (advance world_documents s).0 (advance-kept s i)))
  where
    more : LiveRun (Live World)
    more = and_then (advance world_documents s) (going world_documents n)

module _ {V : Type 0} (g : Owner → Bool) (view : World → V) (d : Documents V) (read : List ℕ → LiveLine)
    (one : (s : Live World) → IsLive s → own_run g view (advance world_documents s) ≡ followed read g view d s) where
  -- what a group has of a run, and of another after it
  pub own-then : (r : LiveRun (Live World)) (f : Live World → LiveRun (Live World)) →
      own_run g view (and_then r f) ≡ and_then (own_run g view r) (λ t. own_run g view (f r.0))
  own-then r f = ap (λ ls. (own_live g view (f r.0).0, ls)) (filter-append (is_own_output g) r.1 (f r.0).1)

  -- one step, from a trace that leads to what the group has
  pub step-told : (s : Live World) → IsLive s → (v : Live V) (t : LiveTrace (List ℕ)) → (told_run d read v t).0 ≡ own_live g view s →
      told_run d read v (step_traced g s t) ≡ and_then (told_run d read v t) (λ u. own_run g view (advance world_documents s))
  step-told s i v t h =
      told-both d read v (is_own_step g s.documents.tasks s.frames) t (told_next g s s.frames)
      ∙ ap (λ (r : LiveRun (Live V)). (r.0, (told_run d read v t).1 ++ r.1))
      (ap (λ u. and_then (done_if d read u (told_next g s s.frames)) (λ w. if is_own_step g s.documents.tasks s.frames then advance d w else still w)) h
      ∙ sym (one s i))

  -- many
  pub steps-told : (n : ℕ) (s : Live World) → IsLive s → (v : Live V) (t : LiveTrace (List ℕ)) → (told_run d read v t).0 ≡ own_live g view s →
      told_run d read v (steps_traced g n s t) ≡ and_then (told_run d read v t) (λ u. own_run g view (going world_documents n s))
  steps-told zero s i v t h = ap (λ u. (u, (told_run d read v t).1)) h ∙ sym (ap (λ ls. (own_live g view s, ls)) (append-nil (told_run d read v t).1))
  steps-told (suc n) s i v t h =
      by_cases (is_resting s)
      (λ k. ap (told_run d read v) (cond-true (is_resting s) t later k)
      ∙ ap (λ u. (u, (told_run d read v t).1)) h ∙ sym (ap (λ ls. (own_live g view s, ls)) (append-nil (told_run d read v t).1))
      ∙ ap (λ r. and_then (told_run d read v t) (λ u. own_run g view r)) (sym (cond-true (is_resting s) (still s) more k)))
      (λ k. ap (told_run d read v) (cond-false (is_resting s) t later k)
      ∙ steps-told n (advance world_documents s).0 (advance-kept s i) v (step_traced g s t) (ap (λ (r : LiveRun (Live V)). r.0) (step-told s i v t h))
      ∙ ap (λ r. and_then r (λ u. own_run g view (going world_documents n (advance world_documents s).0))) (step-told s i v t h)
      ∙ then-then (told_run d read v t) (λ u. own_run g view (advance world_documents s))
      (λ u. own_run g view (going world_documents n (advance world_documents s).0))
      ∙ ap (λ r. and_then (told_run d read v t) (λ u. r)) (sym (own-then (advance world_documents s) (going world_documents n)))
      ∙ ap (λ r. and_then (told_run d read v t) (λ u. own_run g view r)) (sym (cond-false (is_resting s) (still s) more k)))
    where
      later : LiveTrace (List ℕ)
      later = steps_traced g n (advance world_documents s).0 (step_traced g s t)

      more : LiveRun (Live World)
      more = and_then (advance world_documents s) (going world_documents n)

  -- from nothing
  pub steps-agree : StepsAgree read g view d
  steps-agree n s i = sym (steps-told n s i (own_live g view s) no_things refl)

-- the page
pub page-steps_agree : (read : List ℕ → LiveLine) → PageStepsAgree read
page-steps_agree read = steps-agree is_page page_of page_documents read (page-step_agrees read)

-- groups
pub group-steps_agree : (read : List ℕ → LiveLine) → GroupStepsAgree read
group-steps_agree read g closed = steps-agree g (group_world g) (silent_documents g) read (group-step_agrees read g closed)
