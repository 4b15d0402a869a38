-- A script of the line protocol, and the script of live documents that stands for it.
use Rattle.dom_base.proofs.Std.{◌≡◌, Bool, true, false, List, [], ◌∷◌, ◌++◌, map, Option, Some, None, refl, sym, ap, ◌∙◌, true≢false, subst, cond-true}
use Rattle.dom_base.proofs.Std.{cond-false, if◌then◌else◌, append-nil, is_some, map-append}
use Rattle.dom_model.proofs.Model.{Owner, World, Command, Line, no_owner, no_command, command, Refusal, refusal, perform, accepted, step}
use Rattle.dom_model.proofs.Model.{unless_refused, Run, quiet, run_each, run_lines, finish, ending_turn, ending_other_turn, has_other_turn, opening_turn}
use Rattle.dom_model.proofs.Model.{first_world, running_task}
use Rattle.dom_worlds.specs.Definitions.{IsReached}
use Rattle.dom_worlds.proofs.ListLemmas.{by_cases}
use Rattle.dom_worlds.proofs.TurnLemmas.{at_end}
use Rattle.dom_worlds.proofs.WorldLemmas.{first-is_reached, step-keeps_reached}
use Rattle.dom_live.specs.Lines.{LiveRun, and_then, written}
use Rattle.dom_live.specs.Frames.{of_end}
use Rattle.dom_live.specs.Documents.{Live, world_documents}
use Rattle.dom_live.specs.Machine.{live_lines, live_finish}
use Rattle.dom_live.specs.LineScripts.{without_turn, is_kept_out, as_live_lines, as_live_script, carried_out, carried_out_lines, KeptOutIsBusy, LinesTranslate}
use Rattle.dom_live.specs.LineScripts.{RunsTranslate}
use Rattle.dom_live.proofs.StillRuns.{quiet_live}
use Rattle.dom_live.proofs.StillTasks.{NoneIsLive}
use Rattle.dom_live.proofs.OncePending.{IsTidy, tidy-line, tidy-first}
use Rattle.dom_live.proofs.TurnedCommands.{IsNoEnd, opened-as, perform-turned}
use Rattle.dom_live.proofs.LineSquares.{lines_live, GoesAs, Checks, goes-then, checks, lines-append, kept-out_busy, line-goes, tasks-at_end}

-- carrying out a line leads to the world to which the line leads
pub carried-world : (w : World) (l : Line) → (carried_out w l).0 ≡ (step w l).0
carried-world w no_owner = refl
carried-world w (no_command o) = refl
carried-world w (command o c) =
    by_cases (is_kept_out w (command o c))
    (λ h. ap (λ (r : Run World). r.0) (cond-true (is_kept_out w (command o c)) (quiet w) (step w (command o c)) h ∙ sym (ap quiet (ends h))))
    (λ h. ap (λ (r : Run World). r.0) (cond-false (is_kept_out w (command o c)) (quiet w) (step w (command o c)) h))
  where
    ends : is_kept_out w (command o c) ≡ true → (step w (command o c)).0 ≡ w
    ends h = ap (λ (r : Run World). r.0) (kept-out_busy w o c h)

-- and so do lines
pub carried-lines : (ls : List Line) (w : World) → (carried_out_lines w ls).0 ≡ (run_lines w ls).0
carried-lines [] w = refl
carried-lines (l ∷ ls) w = ap (λ u. (carried_out_lines u ls).0) (carried-world w l) ∙ carried-lines ls (step w l).0

-- Where no turn is open no task waits.
abbrev IsCalm : World → Type 0
IsCalm w = w.turn ≡ None → w.tasks ≡ []

-- so it is after the end of a turn
calm-ending : (w : World) → IsCalm (ending_turn w).0
calm-ending w t = sym (ap (λ (u : World). u.tasks) (tasks-at_end w))

-- of another's
calm-other : (w : World) (o : Owner) → IsCalm w → IsCalm (ending_other_turn w o).0
calm-other w o h = from (has_other_turn w o)
  where
    from : (b : Bool) → IsCalm (if b then ending_turn w else quiet w).0
    from true = calm-ending w
    from false = h

-- after a command, since its turn is open then
calm-opened : (w : World) (o : Owner) (c : Command) → IsNoEnd c → IsCalm (perform (opening_turn w o) o c).0
calm-opened w o c n t = absurd (none-some (is_some w.turn) refl)
  where
    turn : Option Owner
    turn = if is_some w.turn then w.turn else Some o

    is-none : turn ≡ None
    is-none =
        sym (ap (λ (r : Run World). r.0.turn) (ap (λ u. perform u o c) (opened-as w o) ∙ perform-turned turn o w c n)) ∙ t

    none-some : (b : Bool) → is_some w.turn ≡ b → ⊥
    none-some true e = true≢false (sym e ∙ ap is_some (sym (cond-true (is_some w.turn) w.turn (Some o) e) ∙ is-none))
    none-some false e = true≢false (ap is_some (sym (cond-false (is_some w.turn) w.turn (Some o) e) ∙ is-none))

-- an accepted one
calm-accepted : (w : World) (o : Owner) (c : Command) → IsCalm (accepted w o c).0
calm-accepted w o Command.end_turn = calm-ending w
calm-accepted w o c = calm-opened w o c tt

-- a line
calm-line : (w : World) (l : Line) → IsCalm w → IsCalm (step w l).0
calm-line w no_owner h = h
calm-line w (no_command o) h = calm-other w o h
calm-line w (command o c) h = from (refusal ended o c)
  where
    ended : World
    ended = (ending_other_turn w o).0

    from : (m : Option Refusal) → IsCalm (unless_refused o m ended (accepted ended o c)).0
    from (Some r) = calm-other w o h
    from None = calm-accepted ended o c

-- What is known of a world to which lines lead.
record IsAlong (w : World) : Type 0 where
  reached : IsReached false w
  tidy : IsTidy w
  calm : IsCalm w

-- a line keeps it
along-line : (w : World) (l : Line) → IsAlong w → IsAlong (step w l).0
along-line w l a = record {
  reached = step-keeps_reached false w l a.reached (λ h. absurd (true≢false (sym h)));
  tidy = tidy-line w l a.tidy;
  calm = calm-line w l a.calm;
}

-- lines
along-lines : (ls : List Line) (w : World) → IsAlong w → IsAlong (run_lines w ls).0
along-lines [] w a = a
along-lines (l ∷ ls) w a = along-lines ls (step w l).0 (along-line w l a)

-- at first
along-first : IsAlong first_world
along-first = record { reached = first-is_reached false; tidy = tidy-first; calm = λ h. refl }

-- the lines of a script
lines-go : (ls : List Line) (w : World) (tasks : List (Owner × Bool)) → NoneIsLive tasks → IsAlong w →
    GoesAs (live_lines world_documents (lines_live w tasks) (as_live_script w ls)) (carried_out_lines w ls)
lines-go [] w tasks n a = record { left = tasks; none = n; goes = refl }
lines-go (l ∷ ls) w tasks n a =
    let next = (step w l).0 in
    subst (λ r. GoesAs r (carried_out_lines w (l ∷ ls))) (sym (lines-append (as_live_lines w l) (as_live_script next ls) (lines_live w tasks)))
    (goes-then (live_lines world_documents (lines_live w tasks) (as_live_lines w l)) (carried_out w l)
    (λ t. live_lines world_documents t (as_live_script next ls)) (λ u. carried_out_lines u ls) (line-goes w tasks n a.reached a.tidy l)
    (λ left h. subst (λ u. GoesAs (live_lines world_documents (lines_live u left) (as_live_script next ls)) (carried_out_lines u ls))
    (sym (carried-world w l)) (lines-go ls next left h (along-line w l a))))

-- those of a script from the first world on
all-go : (ls : List Line) → GoesAs (live_lines world_documents (lines_live first_world []) (as_live_script first_world ls)) (carried_out_lines first_world ls)
all-go ls = lines-go ls first_world [] tt along-first

-- What the end of input comes to.
record Finishes (w : World) (tasks : List (Owner × Bool)) : Type 0 where
  left : List (Owner × Bool)
  goes : live_finish world_documents (lines_live w tasks) ≡ (quiet_live (without_turn (finish w).0) left [] true, map written (finish w).1)

-- the end of input ends the open turn
finishes : (w : World) (tasks : List (Owner × Bool)) → NoneIsLive tasks → IsAlong w → Finishes w tasks
finishes w tasks n a = record {
  left = k.left;
  goes =
      k.goes ∙ ap (λ ls. (quiet_live (without_turn (ending_turn w).0) k.left [] true, ls)) (append-nil (map written (ending_turn w).1))
      ∙ ap (λ (r : Run World). (quiet_live (without_turn r.0) k.left [] true, map written r.1)) (ended w.turn refl);
}
  where
    k : Checks w tasks n a.reached a.tidy of_end true
    k = checks w tasks n a.reached a.tidy of_end true

    ended : (t : Option Owner) → w.turn ≡ t → ending_turn w ≡ (if is_some w.turn then ending_turn w else quiet w)
    ended (Some o) e = sym (cond-true (is_some w.turn) (ending_turn w) (quiet w) (ap is_some e))
    ended None e =
        ap (λ ts. run_each running_task (at_end w) ts) (a.calm e)
        ∙ ap quiet (ap (λ ts. record w { tasks = ts; turn = None }) (sym (a.calm e)) ∙ ap (λ t. record w { turn = t }) (sym e))
        ∙ sym (cond-false (is_some w.turn) (ending_turn w) (quiet w) (ap is_some e))

-- the laws
pub kept-out_is_busy : KeptOutIsBusy
kept-out_is_busy w o c h = kept-out_busy w o c h

-- after lines
pub lines-translate : LinesTranslate
lines-translate ls =
    let k = all-go ls in (
      ap (λ (r : LiveRun (Live World)). r.0.documents) k.goes ∙ ap without_turn (carried-lines ls first_world),
      ap (λ (r : LiveRun (Live World)). r.0.frames) k.goes,
      ap (λ (r : LiveRun (Live World)). r.1) k.goes,
    )

-- to the end of input
pub runs-translate : RunsTranslate
runs-translate ls = (
  ap (λ (r : LiveRun (Live World)). r.0.documents) whole ∙ ap (λ u. without_turn (finish u).0) (carried-lines ls first_world),
  ap (λ (r : LiveRun (Live World)). r.0.frames) whole,
  ap (λ (r : LiveRun (Live World)). r.1) whole,
)
  where
    m : Run World
    m = carried_out_lines first_world ls

    k : GoesAs (live_lines world_documents (lines_live first_world []) (as_live_script first_world ls)) m
    k = all-go ls

    f : Finishes m.0 k.left
    f = finishes m.0 k.left k.none (subst IsAlong (sym (carried-lines ls first_world)) (along-lines ls first_world along-first))

    whole : and_then (live_lines world_documents (lines_live first_world []) (as_live_script first_world ls)) (live_finish world_documents)
        ≡ (quiet_live (without_turn (finish m.0).0) f.left [] true, map written (m.1 ++ (finish m.0).1))
    whole =
        ap (λ (r : LiveRun (Live World)). and_then r (live_finish world_documents)) k.goes
        ∙ ap (λ (r : LiveRun (Live World)). (r.0, map written m.1 ++ r.1)) f.goes
        ∙ ap (λ ls. (quiet_live (without_turn (finish m.0).0) f.left [] true, ls)) (sym (map-append written m.1 (finish m.0).1))
