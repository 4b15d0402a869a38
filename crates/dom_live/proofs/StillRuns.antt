-- Small steps where nothing is live, one after another: where they lead, and what they write.
use Rattle.dom_base.proofs.Std.{◌≡◌, ℕ, zero, suc, ◌+◌, Bool, true, false, List, [], ◌++◌, append-nil, append_assoc, refl, sym, ap, ◌∙◌, arith, subst}
use Rattle.dom_base.proofs.Std.{cond-true, cond-false}
use Rattle.dom_model.proofs.Model.{Owner, World}
use Rattle.dom_worlds.proofs.ListLemmas.{by_cases}
use Rattle.dom_live.specs.Lines.{LiveOutput, LiveRun, still, and_then}
use Rattle.dom_live.specs.Frames.{Frame}
use Rattle.dom_live.specs.Documents.{Live, world_documents}
use Rattle.dom_live.specs.SmallSteps.{advance}
use Rattle.dom_live.specs.Runs.{is_resting, going, ran, frames_left}
use Rattle.dom_live.proofs.Goes.{none-more, one-more}
use Rattle.dom_live.proofs.RunEnds.{runs-end}

-- Live documents in which nothing is live: the documents, which waiting microtasks are live, what is under way, and whether the input is at its end.
abbrev pub quiet_live : World → List (Owner × Bool) → List Frame → Bool → Live World
quiet_live w tasks fs over = record {
  documents = w;
  live_listeners = [];
  live_observers = [];
  live_tasks = tasks;
  frames = fs;
  is_over = over;
}

-- a run, and what comes after it
abbrev and_on : LiveRun (Live World) → (Live World → LiveRun (Live World)) → LiveRun (Live World)
and_on r f = and_then r f

-- a run, another, and a third
runs-join : (r : LiveRun (Live World)) (f h : Live World → LiveRun (Live World)) → and_on (and_on r f) h ≡ and_on r (λ t. and_on (f t) h)
runs-join r f h = ap (λ ls. ((h (f r.0).0).0, ls)) (append_assoc r.1 (f r.0).1 (h (f r.0).0).1)

-- where it rests it stays
going-rest : (n : ℕ) (s : Live World) → is_resting s ≡ true → going world_documents n s ≡ still s
going-rest zero s h = refl
going-rest (suc n) s h = cond-true (is_resting s) (still s) (and_on (advance world_documents s) (going world_documents n)) h

-- else it goes on
going-next : (n : ℕ) (s : Live World) → is_resting s ≡ false →
    going world_documents (suc n) s ≡ and_on (advance world_documents s) (going world_documents n)
going-next n s h = cond-false (is_resting s) (still s) (and_on (advance world_documents s) (going world_documents n)) h

-- so many steps, and then more
going-more : (m n : ℕ) (s : Live World) → going world_documents (m + n) s ≡ and_on (going world_documents m s) (going world_documents n)
going-more zero n s = ap (λ k. going world_documents k s) (none-more n)
going-more (suc m) n s =
    by_cases (is_resting s)
    (λ h. going-rest (suc m + n) s h ∙ sym (ap (λ (r : LiveRun (Live World)). and_on r (going world_documents n)) (going-rest (suc m) s h)
    ∙ going-rest n s h))
    (λ h. ap (λ k. going world_documents k s) (one-more m n) ∙ going-next (m + n) s h
    ∙ ap (λ (r : LiveRun (Live World)). (r.0, (advance world_documents s).1 ++ r.1)) (going-more m n (advance world_documents s).0)
    ∙ sym (ap (λ (r : LiveRun (Live World)). and_on r (going world_documents n)) (going-next m s h)
    ∙ runs-join (advance world_documents s) (going world_documents m) (going world_documents n)))

-- Small steps lead from one state to another, and write these lines.
pub record Leads (s t : Live World) (lines : List LiveOutput) : Type 0 where
  pub steps : ℕ
  pub leads : going world_documents steps s ≡ (t, lines)

-- no step
pub leads-nowhere : (s : Live World) → Leads s s []
leads-nowhere s = record { steps = 0; leads = refl }

-- one step
pub leads-step : {s t : Live World} {lines : List LiveOutput} → is_resting s ≡ false → advance world_documents s ≡ (t, lines) → Leads s t lines
leads-step {s} {t} {lines} h e = record {
  steps = 1;
  leads = going-next 0 s h ∙ ap (λ (r : LiveRun (Live World)). and_on r still) e ∙ ap (λ ls. (t, ls)) (append-nil lines);
}

-- more steps
pub leads-on : {s t u : Live World} {lines more : List LiveOutput} → Leads s t lines → Leads t u more → Leads s u (lines ++ more)
leads-on {s} {t} {u} {lines} {more} a b = record {
  steps = a.steps + b.steps;
  leads =
      going-more a.steps b.steps s ∙ ap (λ (r : LiveRun (Live World)). and_on r (going world_documents b.steps)) a.leads
      ∙ ap (λ (r : LiveRun (Live World)). (r.0, lines ++ r.1)) b.leads;
}

-- more steps that write nothing
pub leads-silently : {s t u : Live World} {lines : List LiveOutput} → Leads s t lines → Leads t u [] → Leads s u lines
leads-silently {s} {t} {u} {lines} a b = subst (Leads s u) (append-nil lines) (leads-on a b)

-- Where they lead to rest, what is set going goes just so.
pub leads-ran : {s t : Live World} {lines : List LiveOutput} → Leads s t lines → is_resting t ≡ true → ran world_documents s ≡ (t, lines)
leads-ran {s} {t} {lines} a h =
    let k = frames_left world_documents s.frames s in
    let r = going world_documents k s in
    let turns : k + a.steps ≡ a.steps + k = let n = a.steps in omega arith in
    sym (going-more k a.steps s ∙ ap (λ (x : LiveRun (Live World)). (x.0, r.1 ++ x.1)) (going-rest a.steps r.0 (runs-end s))
    ∙ ap (λ ls. (r.0, ls)) (append-nil r.1))
    ∙ ap (λ n. going world_documents n s) turns
    ∙ going-more a.steps k s ∙ ap (λ (x : LiveRun (Live World)). and_on x (going world_documents k)) a.leads
    ∙ ap (λ (x : LiveRun (Live World)). (x.0, lines ++ x.1)) (going-rest k t h) ∙ ap (λ ls. (t, ls)) (append-nil lines)
