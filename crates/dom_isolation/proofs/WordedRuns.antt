-- Whose lines are written: only those of owners that lines are read of, or of the page. Others have no listeners, registrations and
-- pending observers.
use Rattle.dom_base.proofs.Std.{◌≡◌, ◌⊎◌, inl, inr, Bool, List, [], ◌∷◌, ◌++◌, flat_map, fold, Option, Some, None, refl, sym, ap, ◌∙◌, subst, ⊤, nat_eq}
use Rattle.dom_base.proofs.Std.{AllByRecursion, option_map_or}
use Rattle.dom_model.proofs.Model.{Owner, Page, Component, NodeName, Action, Log, name_eq, append_once, parent_of, inclusive_ancestors, Command, Line}
use Rattle.dom_model.proofs.Model.{no_owner, no_command, command}
use Rattle.dom_model.proofs.Model.{EventWords, effect, first_world, run_lines, outputs_of, Effect, tables, changes, Listener, Visit, Dispatching, after_invoke}
use Rattle.dom_model.proofs.Model.{kept_after, after_action, may_cancel, line_of, interested, target_of, transients_for, without_transients, Output}
use Rattle.dom_model.proofs.Model.{bad_owner, says, Part, Step, take_out, queue_record, part_step, leave, notified, notified_lines, records_of, Task}
use Rattle.dom_model.proofs.Model.{micro_task, notify_task, part_of, owner_of_line, owner-part_step, none_interested, none_transient}
use Rattle.dom_text.proofs.TextLaws.{HasWord, HasOwner}
use Rattle.dom_worlds.proofs.ListLemmas.{all-append, all-from, all-then, all-map, either_way}
use Rattle.dom_worlds.proofs.CommandLemmas.{KeepsBase, base-effect}
use Rattle.dom_worlds.proofs.WorldLemmas.{IsKeptIn}
use Rattle.dom_worlds.proofs.TurnLemmas.{call}
use Rattle.dom_isolation.proofs.GroupTurns.{IsLineOf, lines-notified}
use Rattle.dom_isolation.proofs.OwnVisits.{kept-visited}
use Rattle.dom_isolation.proofs.SaidRuns.{KeepsSaying, SaysEffect, IsSaidEvent, IsGood, says-outputs, says-so_far}

-- a part that says nothing of its own: no listeners, registrations and pending observers
abbrev IsSilent : Part → Type 0
IsSilent p = (p.listeners ≡ []) × (p.registrations ≡ []) × (p.pending ≡ [])

-- a part of an owner that lines are read of, or one that says nothing
abbrev IsWorded : Part → Type 0
IsWorded p = HasWord p.owner ⊎ IsSilent p

-- a task that writes lines of such an owner
abbrev IsWordedTask : Task → Type 0
IsWordedTask (micro_task o label) = HasWord o
IsWordedTask (notify_task o) = ⊤

-- A step leaves a silent part silent.
silent-step : (p : Part) (s : Step) → IsSilent p → IsSilent (part_step p s)
silent-step p (take_out x) h = from (parent_of p.trees x)
  where
    from : (o : Option NodeName) → IsSilent (option_map_or (leave p x) o p)
    from None = h
    from (Some parent) = (
      h.0,
      ap (λ rs. rs ++ transients_for name_eq x (inclusive_ancestors p.trees parent) rs) h.1 ∙ none_transient x (inclusive_ancestors p.trees parent),
      h.2,
    )
silent-step p (queue_record c) h = (
  h.0,
  h.1,
  ap (λ rs. fold (append_once nat_eq) p.pending (interested name_eq (inclusive_ancestors p.trees (target_of c)) rs c)) h.1
      ∙ ap (fold (append_once nat_eq) p.pending) (none_interested (inclusive_ancestors p.trees (target_of c)) c) ∙ h.2,
)
silent-step p s h = h

-- steps keep what holds
worded-step : (p : Part) (s : Step) → IsWorded p → ⊤ → IsWorded (part_step p s)
worded-step p s (inl h) m = inl (subst HasWord (sym (owner-part_step p s)) h)
worded-step p s (inr h) m = inr (silent-step p s h)

-- in the world
worded-steps : IsKeptIn IsWorded (λ s. ⊤) IsWordedTask
worded-steps = record { step = worded-step; document = λ x d. tt; notify = λ o. tt }

-- A line of an owner that lines are read of.
abbrev pub IsWordedInput : Line → Type 0
IsWordedInput l = (o : Owner) → owner_of_line l ≡ Some o → HasWord o

-- A visit.
module _ (e : EventWords) (v : Visit NodeName) where
  -- in a part of the owner of its node
  worded-visit : (p : Part) (d : Dispatching NodeName) → p.owner ≡ v.current.owner → IsWorded p →
      AllByRecursion (IsSaidEvent HasOwner) d.lines → let heard = after_invoke name_eq e (record d { listeners = p.listeners }) v in
      IsWorded (record p { listeners = heard.listeners }) × AllByRecursion (IsSaidEvent HasOwner) heard.lines
  unfolding call
  worded-visit p d o (inl t) g =
      let start : Dispatching NodeName = record d { listeners = p.listeners } in
      (inl t, kept-visited (λ c. AllByRecursion (IsSaidEvent HasOwner) c.lines) e v (called (subst HasWord o t)) start g)
    where
      acted : (a : Action) (m : Bool) (c : Dispatching NodeName) → (after_action a m c).lines ≡ c.lines
      acted Log m c = refl
      acted a m c = refl

      called : HasWord v.current.owner → (c : Dispatching NodeName) (l : Listener NodeName) → AllByRecursion (IsSaidEvent HasOwner) c.lines →
          AllByRecursion (IsSaidEvent HasOwner) (call e v c l).lines
      called t c l h =
          subst (AllByRecursion (IsSaidEvent HasOwner)) (sym (acted l.words.action (may_cancel e l.words)
          (record c { listeners = kept_after name_eq l c.listeners; lines = c.lines ++ line_of v l.words ∷ [] })))
          (all-append (IsSaidEvent HasOwner) c.lines (line_of v l.words ∷ []) h (t, tt))
  worded-visit p d o (inr s) g =
      let Q : List (Listener NodeName) → Type 0 = λ ls. let heard = after_invoke name_eq e (record d { listeners = ls }) v in
      (heard.listeners ≡ []) × AllByRecursion (IsSaidEvent HasOwner) heard.lines in
      let none : Dispatching NodeName = record d { listeners = [] } in
      let both : Q p.listeners = subst Q (sym s.0) (
        either_way (λ (x : Dispatching NodeName). x.listeners ≡ []) d.stopped none none refl refl,
        either_way (λ (x : Dispatching NodeName). AllByRecursion (IsSaidEvent HasOwner) x.lines) d.stopped none none g g,
      ) in
      (inr (both.0, s.1, s.2), both.1)

-- a notification
worded-notified : (p : Part) → IsWorded p → IsWorded (notified p) × AllByRecursion HasOwner (notified_lines p)
worded-notified p (inl t) = (inl t, all-then (IsLineOf p.owner) HasOwner said (notified_lines p) (lines-notified p))
  where
    said : (l : Output) → IsLineOf p.owner l → HasOwner l
    said bad_owner e = tt
    said (says x s) e = let same : x ≡ p.owner = cc in subst HasWord (sym same) t
worded-notified p (inr s) = (
  inr (s.0, ap (without_transients p.pending) s.1, refl),
  subst (λ ks. AllByRecursion HasOwner (flat_map (records_of p) ks)) (sym s.2) tt,
)

-- an effect of a command
worded-effect : (o : Owner) (c : Command) (p : Part) → p.owner ≡ o → HasWord o → SaysEffect IsWorded (λ s. ⊤) HasOwner o (effect p c)
worded-effect o c p e t = from (effect p c) (base-effect p c)
  where
    from : (f : Effect) → KeepsBase p f → SaysEffect IsWorded (λ s. ⊤) HasOwner o f
    from (tables q lines v) k = (inl (subst HasWord (sym (k.0 ∙ e)) t), all-map HasOwner (says o) lines (all-from (λ s. HasWord o) (λ s. t) lines), t)
    from (changes steps v) k = (all-from (λ s. ⊤) (λ s. tt) steps, t)

-- what is asked of runs
worded-saying : KeepsSaying IsWorded (λ s. ⊤) IsWordedTask HasOwner IsWordedInput (λ o c. HasWord o)
worded-saying = record {
  steps = worded-steps;
  visit = worded-visit;
  notified = worded-notified;
  ran = λ o label h. h;
  nobody = tt;
  wordless = λ o h. h o refl;
  refused = λ o c r h. h o refl;
  replied = λ o c v n h. h;
  micro = λ o label h. h;
  attached = λ p x i. i;
  root = λ o d. inr (refl, refl, refl);
  effect = λ o c p e i h. worded-effect o c p e h;
  first = first;
}
  where
    first : (o : Owner) → IsWorded (part_of first_world o)
    first Page = inr (refl, refl, refl)
    first (Component k) = inr (refl, refl, refl)

-- a line of such an owner
worded-good : (l : Line) → IsWordedInput l → IsGood IsWordedInput (λ o c. HasWord o) l
worded-good no_owner h w = tt
worded-good (no_command o) h w = h
worded-good (command o c) h w = (h, λ e. h o refl)

-- all lines of output of a script
pub worded-outputs : (ls : List Line) → AllByRecursion IsWordedInput ls → AllByRecursion HasOwner (outputs_of ls)
worded-outputs ls h = says-outputs worded-saying ls (all-then IsWordedInput (IsGood IsWordedInput (λ o c. HasWord o)) worded-good ls h)

-- so far
pub worded-so_far : (ls : List Line) → AllByRecursion IsWordedInput ls → AllByRecursion HasOwner (run_lines first_world ls).1
worded-so_far ls h = says-so_far worded-saying ls (all-then IsWordedInput (IsGood IsWordedInput (λ o c. HasWord o)) worded-good ls h)
