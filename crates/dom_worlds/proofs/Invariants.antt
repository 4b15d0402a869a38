-- An invariant of worlds is kept by the ends of turns, by lines and by scripts, if it is kept by what they consist of.
use Rattle.dom_base.proofs.Std.{◌≡◌, ◌∷◌, ◌++◌, ◌∙◌, [], ap, false, filter, List, None, Option, option_map, refl, Some, subst, sym, true, AllByRecursion}
use Rattle.dom_base.proofs.Std.{is_some, map, ⊤}
use Rattle.dom_model.proofs.Model.{NodeName, Owner, Page, Refusal, command, Command, EventWords, Line, no_command, no_owner, NodeWord, part_refusal, effect}
use Rattle.dom_model.proofs.Model.{named, dispatch_in, visits_of, accepted, attaching, effect_in, finish, perform, refusal, run_command, run_lines, step, begun}
use Rattle.dom_model.proofs.Model.{name_eq, Word, PageState, views, quiet, Run, run_each, unless_refused, ending_other_turn, ending_turn, firing_slotchange}
use Rattle.dom_model.proofs.Model.{has_other_turn, is_owned_by, is_page_turn, notified, opening_turn, running_task, slotchange, without_signals, micro_task}
use Rattle.dom_model.proofs.Model.{notify_task, part_of, Task, World}
use Rattle.dom_worlds.specs.Definitions.{IsThere, task_owner}
use Rattle.dom_worlds.proofs.Effects.{accepted-facts}
use Rattle.dom_worlds.proofs.Turns.{IsPageTime, opening-page, page_time, part_of-opening, there-with_part, at_end, there-visits, told_in}
use Rattle.dom_worlds.proofs.Lists.{all-then, by_cases, either_way}
use Rattle.dom_worlds.proofs.WorldSteps.{InTurn}

-- An owner's command that passed its tests, in the turn that it opened; Ok is asked of it beside.
pub record MayRun (Ok : Owner → Command → Type 0) (w : World) (o : Owner) (c : Command) : Type 0 where
  pub there : IsThere w o
  pub turn : InTurn w o
  pub part : part_refusal (part_of w o) c ≡ None
  pub ok : Ok o c

-- What an invariant has to give for the ends of turns, in worlds in which C holds too.
pub record KeepsTurns (C P : World → Type 0) : Type 0 where
  pub dispatch : (w : World) (x : NodeName) (related : Option NodeName) (e : EventWords) → C w → P w → P (dispatch_in w x related e).run.0
  pub at_end : (w : World) → C w → P w → P (at_end w)
  pub told : (w : World) (o : Owner) → IsThere w o → C w → P w → P (told_in w o)

-- and for lines
pub record Keeps (Ok : Owner → Command → Type 0) (C P : World → Type 0) : Type 0 where
  pub turns : KeepsTurns C P
  pub turned : (w : World) (o : Owner) → is_some w.turn ≡ false → IsThere w o → C w → P w → P (record w { turn = Some o })
  pub attach : (w : World) (o : Owner) (x : NodeWord) → MayRun Ok w o (Command.attach x) → C w → P w → P (attaching w o (named (part_of w o) x)).0
  pub micro : (w : World) (o : Owner) (label : Word) → MayRun Ok w o (Command.micro label) → C w → P w →
      P (record w { tasks = w.tasks ++ micro_task o label ∷ [] })
  pub effect : (w : World) (o : Owner) (c : Command) → MayRun Ok w o c → C w → P w → P (effect_in w o (effect (part_of w o) c)).0

-- nothing is asked beside
abbrev pub Any : World → Type 0
Any w = ⊤

-- One invariant, and another one where the first holds.
module _ {P Q : World → Type 0} where
  -- through the ends of turns
  pub both-turns : KeepsTurns Any P → KeepsTurns P Q → KeepsTurns Any (λ w. P w × Q w)
  both-turns a b =
      record {
        dispatch = λ w x related e c h. (a.dispatch w x related e tt h.0, b.dispatch w x related e h.0 h.1);
        at_end = λ w c h. (a.at_end w tt h.0, b.at_end w h.0 h.1);
        told = λ w o t c h. (a.told w o t tt h.0, b.told w o t h.0 h.1);
      }

  -- and through lines
  pub both-keep : {Ok : Owner → Command → Type 0} → Keeps Ok Any P → Keeps Ok P Q → Keeps Ok Any (λ w. P w × Q w)
  both-keep a b =
      record {
        turns = both-turns a.turns b.turns;
        turned = λ w o e t c h. (a.turned w o e t tt h.0, b.turned w o e t h.0 h.1);
        attach = λ w o x m c h. (a.attach w o x m tt h.0, b.attach w o x m h.0 h.1);
        micro = λ w o label m c h. (a.micro w o label m tt h.0, b.micro w o label m h.0 h.1);
        effect = λ w o c m k h. (a.effect w o c m tt h.0, b.effect w o c m h.0 h.1);
      }

-- Owners that are there stay so through a dispatch.
stays-dispatch : (w : World) (x : NodeName) (related : Option NodeName) (e : EventWords) (a : Owner) → IsThere w a →
    IsThere (dispatch_in w x related e).run.0 a
stays-dispatch w x related e a h = there-visits e (visits_of name_eq e.bubbles (views w x related e.composed)) (w, begun []) a h

-- through the events at slots
stays-firings : (ss : List NodeName) (w : World) (a : Owner) → IsThere w a → IsThere (run_each firing_slotchange w ss).0 a
stays-firings [] w a h = h
stays-firings (s ∷ ss) w a h = stays-firings ss (firing_slotchange w s).0 a (stays-dispatch w s None slotchange a h)

-- through a task
pub stays-running : (w : World) (t : Task) (a : Owner) → IsThere w a → IsThere (running_task w t).0 a
stays-running w (micro_task o label) a h = h
stays-running w (notify_task o) a h = stays-firings (filter (is_owned_by o) w.signalled) (told_in w o) a
    (there-with_part (without_signals w o) (notified (part_of w o)) a h)

-- the tasks of a world are of owners that are there
abbrev HasTaskOwners : World → List Task → Type 0
HasTaskOwners w ts = AllByRecursion (λ t. IsThere w (task_owner t)) ts

-- An invariant, through the end of a turn.
module _ {P : World → Type 0} (rules : KeepsTurns Any P) where
  -- the events at slots
  kept-firings : (ss : List NodeName) (w : World) → P w → P (run_each firing_slotchange w ss).0
  kept-firings [] w h = h
  kept-firings (s ∷ ss) w h = kept-firings ss (firing_slotchange w s).0 (rules.dispatch w s None slotchange tt h)

  -- a task
  kept-running : (w : World) (t : Task) → IsThere w (task_owner t) → P w → P (running_task w t).0
  kept-running w (micro_task o label) a h = h
  kept-running w (notify_task o) a h = kept-firings (filter (is_owned_by o) w.signalled) (told_in w o) (rules.told w o a tt h)

  -- all tasks
  kept-running_all : (ts : List Task) (w : World) → HasTaskOwners w ts → P w → P (run_each running_task w ts).0
  kept-running_all [] w a h = h
  kept-running_all (t ∷ ts) w a h =
      let v = (running_task w t).0 in
      kept-running_all ts v (all-then (λ u. IsThere w (task_owner u)) (λ u. IsThere v (task_owner u)) (λ u. stays-running w t (task_owner u)) ts a.1)
      (kept-running w t a.0 h)

  -- the end of a turn
  pub kept-ending_turn : ((w : World) → P w → HasTaskOwners w w.tasks) → (w : World) → P w → P (ending_turn w).0
  kept-ending_turn there w h = kept-running_all w.tasks (at_end w) (there w h) (rules.at_end w tt h)

-- The turn that a command opens.
in_turn-opening : (w : World) (o : Owner) → (o ≡ Page → IsPageTime w) → InTurn (opening_turn w o) o
in_turn-opening w o h e = subst (λ x. is_page_turn (opening_turn w x).turn ≡ true) (sym e) (ap (λ (s : PageState). s.is_open) (opening-page w (h e)))

-- What is asked of a line.
abbrev pub OkLine : (Owner → Command → Type 0) → World → Line → Type 0
OkLine Ok w no_owner = ⊤
OkLine Ok w (no_command o) = ⊤
OkLine Ok w (command o c) = refusal (ending_other_turn w o).0 o c ≡ None → Ok o c

-- An invariant that the end of a turn keeps.
module _ {P : World → Type 0} (ending : (w : World) → P w → P (ending_turn w).0) where
  -- the end of another component's turn
  pub kept-ending_other : (w : World) (o : Owner) → P w → P (ending_other_turn w o).0
  kept-ending_other w o h = either_way (λ (r : Run World). P r.0) (has_other_turn w o) (ending_turn w) (quiet w) (ending w h) h

  -- the end of input
  pub kept-finish : (w : World) → P w → P (finish w).0
  kept-finish w h = either_way (λ (r : Run World). P r.0) (is_some w.turn) (ending_turn w) (quiet w) (ending w h) h

-- Such an invariant, through a line.
module _ {Ok : Owner → Command → Type 0} {P : World → Type 0} (rules : Keeps Ok Any P) (ending : (w : World) → P w → P (ending_turn w).0) where
  -- every accepted command
  kept-perform : (w : World) (o : Owner) (c : Command) → MayRun Ok w o c → P w → P (perform w o c).0
  kept-perform w o (Command.attach x) m h = rules.attach w o x m tt h
  kept-perform w o (Command.connected x) m h = h
  kept-perform w o (Command.assigned x) m h = h
  kept-perform w o (Command.dispatch x e related) m h =
      rules.turns.dispatch w (named (part_of w o) x) (option_map (named (part_of w o)) related) e tt h
  kept-perform w o (Command.micro label) m h = rules.micro w o label m tt h
  kept-perform w o Command.end_turn m h = ending w h
  kept-perform w o c m h = rules.effect w o c m tt h

  -- the turn that it opens
  kept-opening : (w : World) (o : Owner) → IsThere w o → P w → P (opening_turn w o)
  kept-opening w o t h = by_cases (is_some w.turn) (λ e. rw e h) (λ e. rw e (rules.turned w o e t tt h))

  -- A command of an owner, who may open a turn.
  module _ (w : World) (o : Owner) (time : o ≡ Page → IsPageTime w) where
    -- `.` apart, which opens none
    kept-accepted : (c : Command) → IsThere w o → part_refusal (part_of w o) c ≡ None → Ok o c → P w → P (accepted w o c).0
    kept-accepted Command.end_turn t r k h = ending w h
    kept-accepted c t r k h =
        kept-perform (opening_turn w o) o c (record {
          there = either_way (λ v. IsThere v o) (is_some w.turn) w (record w { turn = Some o }) t t;
          turn = in_turn-opening w o time;
          part = ap (λ q. part_refusal q c) (part_of-opening w o o) ∙ r;
          ok = k;
        }) (kept-opening w o t h)

    -- refused or accepted
    kept-command : (c : Command) → (refusal w o c ≡ None → Ok o c) → P w → P (run_command o c w).0
    kept-command c k h = from (refusal w o c) refl
      where
        from : (a : Option Refusal) → refusal w o c ≡ a → P (unless_refused o (refusal w o c) w (accepted w o c)).0
        from (Some a) e = subst (λ a. P (unless_refused o a w (accepted w o c)).0) (sym e) h
        from None e =
            let a = accepted-facts w o c e in
            subst (λ a. P (unless_refused o a w (accepted w o c)).0) (sym e) (kept-accepted c a.there a.part (k e) h)

  -- a line
  pub kept-step : (w : World) (l : Line) → OkLine Ok w l → P w → P (step w l).0
  kept-step w no_owner k h = h
  kept-step w (no_command o) k h = kept-ending_other ending w o h
  kept-step w (command o c) k h =
      kept-command (ending_other_turn w o).0 o (λ e. subst (λ x. IsPageTime (ending_other_turn w x).0) (sym e) (page_time w)) c k
      (kept-ending_other ending w o h)

  -- lines of which nothing is asked
  pub kept-lines : ((w : World) (l : Line) → OkLine Ok w l) → {L : Type 0} (read : L → Line) (ls : List L) (w : World) → P w → P (run_lines w (map read ls)).0
  kept-lines k read [] w h = h
  kept-lines k read (l ∷ ls) w h = kept-lines k read ls (step w (read l)).0 (kept-step w (read l) (k w (read l)) h)
