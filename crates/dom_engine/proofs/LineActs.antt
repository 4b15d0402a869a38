-- A script by lines is its calls, with a checkpoint where a turn was ended, and without its lines that are refused as busy.
use Rattle.dom_base.proofs.Std.{◌≡◌, Bool, true, false, not, ◌&&◌, List, [], ◌∷◌, ◌++◌, Option, Some, None, is_some, refl, sym, ap, ◌∙◌, true≢false}
use Rattle.dom_base.proofs.Std.{if◌then◌else◌, option_or, option_map_or, append_assoc, append-nil, and-false}
use Rattle.dom_model.proofs.Model.{Owner, Page, Component, World, part_of, is_there, Command, Line, no_owner, no_command, command, is_command_of, names_foreign}
use Rattle.dom_model.proofs.Model.{part_refusal, first_refusal, Refusal, Syntax, Busy, Foreign, Unknown, refusal, accepted, run_command, step, is_busy, Run}
use Rattle.dom_model.proofs.Model.{run_then, run_each, unless_refused, quiet, ending_turn, ending_other_turn, has_other_turn, is_other_component, is_page_turn}
use Rattle.dom_model.proofs.Model.{owner_eq, Output, says, refused, first_world, run_lines, finish, turn-ending_turn}
use Rattle.dom_worlds.proofs.ListLemmas.{by_cases}
use Rattle.dom_engine.specs.Documents.{called, without_turn, is_end_turn}
use Rattle.dom_engine.specs.DocumentLaws.{Act, a_call, a_checkpoint, acting, acts_of, acts_from, told_of, told_from}
use Rattle.dom_engine.specs.DocumentLaws.{checkpoint_if, is_refused_as_busy, LinesAreActs, ScriptsAreActs, BusyLinesDoNothing}
use Rattle.dom_engine.proofs.FreeCalls.{call-other, refusal-other}
use Rattle.dom_engine.proofs.Queues.{same-keeps}
use Rattle.dom_engine.proofs.EndedTasks.{still-ended}

-- ---- acts one after another

-- of two lists
acts-append : (w : World) (xs ys : List Act) → run_each acting w (xs ++ ys) ≡ run_then (run_each acting w xs) (λ v. run_each acting v ys)
acts-append w [] ys = refl
acts-append w (x ∷ xs) ys =
    let first = acting w x in
    let second = run_each acting first.0 xs in
    let last = run_each acting second.0 ys in
    ap (λ (r : Run World). (r.0, first.1 ++ r.1)) (acts-append first.0 xs ys)
    ∙ sym (ap (λ (told : List Output). (last.0, told)) (append_assoc first.1 second.1 last.1))

-- ---- a command

-- the run of a call, from that of the machine
abbrev freed : Run World → Run World
freed r = (without_turn r.0, r.1)

-- the end of a turn
end-in_turn : (w : World) (o : Owner) (r : Option Refusal) →
    freed (unless_refused o r (without_turn w) (accepted w o Command.end_turn)) ≡ freed (unless_refused o r w (accepted w o Command.end_turn))
end-in_turn w o None = refl
end-in_turn w o (Some r) = refl

-- In a turn in which it is not refused as busy, a command is the call.
call-in_turn : (w : World) (o : Owner) (c : Command) → is_refused_as_busy w o c ≡ false → called (without_turn w) o c ≡ freed (run_command o c w)
call-in_turn w o Command.end_turn h =
    end-in_turn w o (refusal (without_turn w) o Command.end_turn)
    ∙ ap (λ r. freed (unless_refused o r w (accepted w o Command.end_turn))) (sym (refusal-other (λ ts. ts) same-keeps w o Command.end_turn h))
call-in_turn w o c h = call-other (λ ts. ts) same-keeps w o c h (λ r. refl)

-- a refusal as busy
busy-refusal : (w : World) (o : Owner) (c : Command) → is_refused_as_busy w o c ≡ true → refusal w o c ≡ Some Busy
busy-refusal w o c h = from (is_command_of o c) (is_busy w o) h
  where
    from : (mine busy : Bool) → (mine && busy) ≡ true →
        option_or (first_refusal ((not mine, Syntax) ∷ (busy, Busy) ∷ (names_foreign c, Foreign) ∷ (not (is_there w o), Unknown) ∷ []))
        (part_refusal (part_of w o) c) ≡ Some Busy
    from true true h = refl
    from true false h = absurd (true≢false (sym h))
    from false busy h = absurd (true≢false (sym h))

-- in another component's turn there is none
calm-other : (t : Option Owner) (o : Owner) → option_map_or (is_other_component o) t false ≡ true → is_page_turn t ≡ false
calm-other None o h = refl
calm-other (Some Page) o h = absurd (true≢false (sym h))
calm-other (Some (Component j)) o h = refl

other-not_busy : (w : World) (o : Owner) (c : Command) → has_other_turn w o ≡ true → is_refused_as_busy w o c ≡ false
other-not_busy w o c h =
    ap (λ b. is_command_of o c && (b && not (owner_eq o Page))) (calm-other w.turn o h) ∙ and-false (is_command_of o c)

-- nor where no turn is open
ended-not_busy : (w : World) (o : Owner) (c : Command) → is_refused_as_busy (ending_turn w).0 o c ≡ false
ended-not_busy w o c =
    ap (λ t. is_command_of o c && (is_page_turn t && not (owner_eq o Page))) (turn-ending_turn w) ∙ and-false (is_command_of o c)

-- the step of a command, if a turn is ended or not
abbrev step_if : World → Owner → Command → Bool → Run World
step_if w o c ends = run_then (if ends then ending_turn w else quiet w) (run_command o c)

-- such a line does nothing else
pub busy-lines : BusyLinesDoNothing
busy-lines w o c h =
    by_cases (has_other_turn w o)
    (λ e. absurd (true≢false (sym h ∙ other-not_busy w o c e)))
    (λ e. ap (step_if w o c) e ∙ ap (λ r. unless_refused o r w (accepted w o c)) (busy-refusal w o c h))

-- ---- lines

-- a command
module _ (w : World) (o : Owner) (c : Command) where
  command-acts : (ends busy : Bool) → has_other_turn w o ≡ ends → is_refused_as_busy w o c ≡ busy →
      run_each acting (without_turn w) (checkpoint_if ends ++ (if busy then [] else a_call o c ∷ []))
      ≡ (without_turn (step_if w o c ends).0, if busy then [] else (step_if w o c ends).1)
  command-acts true true h e = absurd (true≢false (sym e ∙ other-not_busy w o c h))
  command-acts true false h e =
      let ended = ending_turn w in
      let r = run_command o c ended.0 in
      ap (λ (x : Run World). (x.0, ended.1 ++ (x.1 ++ []))) (ap (λ u. called u o c) (still-ended w) ∙ call-in_turn ended.0 o c (ended-not_busy w o c))
      ∙ ap (λ (xs : List Output). (without_turn r.0, ended.1 ++ xs)) (append-nil r.1)
  command-acts false true h e =
      ap (λ r. (without_turn (unless_refused o r w (accepted w o c)).0, [])) (sym (busy-refusal w o c e))
  command-acts false false h e =
      let r = run_command o c w in
      ap (λ (x : Run World). (x.0, x.1 ++ [])) (call-in_turn w o c e) ∙ ap (λ (xs : List Output). (without_turn r.0, xs)) (append-nil r.1)

-- a line without one
ending-acts : (w : World) (ends : Bool) → run_each acting (without_turn w) (checkpoint_if ends) ≡ (let r = (if ends then ending_turn w else quiet w) in freed r)
ending-acts w true =
    let ended = ending_turn w in
    ap (λ u. (u, ended.1 ++ [])) (still-ended w) ∙ ap (λ (xs : List Output). (without_turn ended.0, xs)) (append-nil ended.1)
ending-acts w false = refl

-- any line
line-acts : (w : World) (line : Line) → run_each acting (without_turn w) (acts_of w line) ≡ (without_turn (step w line).0, told_of w line)
line-acts w no_owner = refl
line-acts w (no_command o) = ending-acts w (has_other_turn w o)
line-acts w (command o c) = command-acts w o c (has_other_turn w o) (is_refused_as_busy w o c) refl refl

-- all lines
pub lines-are_acts : LinesAreActs
lines-are_acts w [] = refl
lines-are_acts w (line ∷ lines) =
    let next = (step w line).0 in
    acts-append (without_turn w) (acts_of w line) (acts_from next lines)
    ∙ ap (λ (r : Run World). run_then r (λ v. run_each acting v (acts_from next lines))) (line-acts w line)
    ∙ ap (λ (r : Run World). (r.0, told_of w line ++ r.1)) (lines-are_acts next lines)

-- to the end of input
pub scripts-are_acts : ScriptsAreActs
scripts-are_acts lines =
    let w = (run_lines first_world lines).0 in
    let last = checkpoint_if (is_some w.turn) in
    acts-append first_world (acts_from first_world lines) last
    ∙ ap (λ (r : Run World). run_then r (λ v. run_each acting v last)) (lines-are_acts first_world lines)
    ∙ ap (λ (r : Run World). (r.0, told_from first_world lines ++ r.1)) (ending-acts w (is_some w.turn))
