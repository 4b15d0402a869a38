-- Programs: the owners of a group choose each of their lines by what they have said and were told before, and by what others hand to them as they come to
-- speak. What others hand is any value, the *cue* of the line: which function of the group's they call and with what, or what a function of theirs gives back.
-- All own rules.
use Rattle.std.specs.Prelude.{◌≡◌, ℕ, Bool, IsTrue, not, List, [], ◌∷◌, ◌++◌, map, Option, Some, None, ⊤, if◌then◌else◌}
use Rattle.std.specs.List.{AllByRecursion}
use Rattle.dom_base.specs.declared.Owner.{Owner}
use Rattle.dom_model.specs.DocumentMachine.{first_world}
use Rattle.dom_model.specs.Trace.{is_of}
use Rattle.dom_model.specs.World.{World}
use Rattle.dom_live.specs.Lines.{LiveLine, LiveOutput}
use Rattle.dom_live.specs.Documents.{Live, at_rest, world_documents}
use Rattle.dom_live.specs.Machine.{live_step, live_lines, live_finish}
use Rattle.dom_live.specs.Groups.{own_outputs}
use Rattle.dom_live.specs.Things.{Thing, own_line, shut_out, sent_out, was_stopped, was_cancelled, was_run, input_over, LiveTrace, owner_said}
use Rattle.dom_live.specs.Things.{live_trace, whole_trace}

-- What a group's owners have of a script, in order: each line that one of them says, and each line of output that one of them is told, calls among them.
pub data Heard (L : Type 0) : Type 0 where
  has_said : L → Heard L
  was_told : LiveOutput → Heard L

-- A program: by a cue, and by what was said and told so far, it gives the next line, or none.
abbrev pub Program : Type 0 → Type 0 → Type 0
Program C L = C → List (Heard L) → Option L

module _ {L T : Type 0} (f : L → T) where
  -- a thing with something else in place of its line
  abbrev pub thing_with : Thing L → Thing T
  thing_with (own_line l) = own_line (f l)
  thing_with (shut_out l) = shut_out (f l)
  thing_with (sent_out e) = sent_out e
  thing_with was_stopped = was_stopped
  thing_with was_cancelled = was_cancelled
  thing_with was_run = was_run
  thing_with input_over = input_over

  -- with the number of own steps before it
  abbrev pub things_with : List (ℕ × Thing L) → List (ℕ × Thing T)
  things_with things = map (λ (x : ℕ × Thing L). (x.0, thing_with x.1)) things

  -- a trace with something else in place of its lines
  abbrev pub trace_with : LiveTrace L → LiveTrace T
  trace_with t = record { things = things_with t.things; steps = t.steps }

module _ {L : Type 0} (read : L → LiveLine) (group : Owner → Bool) where
  -- what is said and told at a line
  abbrev pub heard_at : Live World → L → List (Heard L)
  heard_at s l =
      (if is_of group (owner_said (read l)) then has_said l ∷ [] else [])
      ++ map was_told (own_outputs group (live_step world_documents s (read l)).1)

  -- of a script from live documents on
  abbrev pub heard_from : Live World → List L → List (Heard L)
  heard_from s [] = []
  heard_from s (l ∷ ls) = heard_at s l ++ heard_from (live_step world_documents s (read l)).0 ls

  -- of a script
  abbrev pub heard_of : List L → List (Heard L)
  heard_of ls = heard_from (at_rest first_world) ls

  -- of a script and its end
  abbrev pub heard_to_end : List L → List (Heard L)
  heard_to_end ls =
      heard_of ls ++ map was_told (own_outputs group (live_finish world_documents (live_lines world_documents (at_rest first_world) (map read ls)).0).1)

  module _ {C : Type 0} (cue : L → C) (next : Program C L) where
    -- Each line of the group is what the program gives at its place, from live documents on in which so much was heard. When the group comes to speak, in
    -- whose calls, what others say in between, and where the script ends is left open.
    abbrev pub FollowsFrom : List (Heard L) → Live World → List L → Type 0
    FollowsFrom heard s [] = ⊤
    FollowsFrom heard s (l ∷ ls) =
        (IsTrue (is_of group (owner_said (read l))) → next (cue l) heard ≡ Some l)
        × FollowsFrom (heard ++ heard_at s l) (live_step world_documents s (read l)).0 ls

    -- of a script
    abbrev pub Follows : List L → Type 0
    Follows ls = FollowsFrom [] (at_rest first_world) ls

module _ {L C : Type 0} (read : L → LiveLine) (cue : L → C) (group : Owner → Bool) where
  -- What others do to a group in a script: the events that they send out to it, their stops and cancels of its events and the checkpoints in which they run
  -- its tasks, each at its place among the group's own steps and lines; and, in place of each line of the group, what they hand to it there.
  abbrev pub others_do : List L → LiveTrace C
  others_do ls = trace_with cue (live_trace group read ls)

  -- to the end of input
  abbrev pub others_do_to_end : List L → LiveTrace C
  others_do_to_end ls = trace_with cue (whole_trace group read ls)

  -- Two scripts in which the lines of a group follow one program, and in which others do the same to it, are one script to the group: it says the same lines,
  -- is told the same and is called the same, in the same order. So their traces for the group are equal.
  abbrev pub SameByProgram : Type 0
  SameByProgram =
      (next : Program C L) (ls ms : List L) → Follows read group cue next ls → Follows read group cue next ms → others_do ls ≡ others_do ms →
      (heard_of read group ls ≡ heard_of read group ms) × (live_trace group read ls ≡ live_trace group read ms)

  -- So it is to the end of input.
  abbrev pub SameToEndByProgram : Type 0
  SameToEndByProgram =
      (next : Program C L) (ls ms : List L) → Follows read group cue next ls → Follows read group cue next ms →
      others_do_to_end ls ≡ others_do_to_end ms →
      (heard_to_end read group ls ≡ heard_to_end read group ms) × (whole_trace group read ls ≡ whole_trace group read ms)

-- A moment of a play: another owner or the event loop says a line, or the group comes to speak and is handed a cue.
pub data Moment (C L : Type 0) : Type 0 where
  other : L → Moment C L
  asked : C → Moment C L

module _ {L C : Type 0} (read : L → LiveLine) (cue : L → C) (group : Owner → Bool) (next : Program C L) where
  -- The script of a play, from live documents on in which so much was heard: the group answers with what its program gives, if it gives a line.
  abbrev pub played_from : List (Heard L) → Live World → List (Moment C L) → List L
  played_from heard s [] = []
  played_from heard s (other l ∷ moments) = l ∷ played_from (heard ++ heard_at read group s l) (live_step world_documents s (read l)).0 moments
  played_from heard s (asked c ∷ moments) =
      answered (λ heard t. played_from heard t moments) heard s (next c heard)
    where
      answered : (List (Heard L) → Live World → List L) → List (Heard L) → Live World → Option L → List L
      answered later heard s None = later heard s
      answered later heard s (Some l) = l ∷ later (heard ++ heard_at read group s l) (live_step world_documents s (read l)).0

  -- a line is another's
  abbrev pub IsOthers : Moment C L → Type 0
  IsOthers (other l) = IsTrue (not (is_of group (owner_said (read l))))
  IsOthers (asked c) = ⊤

  -- the program answers each cue with lines of this cue
  abbrev pub AnswersCues : Type 0
  AnswersCues = (c : C) (heard : List (Heard L)) (l : L) → next c heard ≡ Some l → cue l ≡ c

  -- Whatever others say, and whenever and with whatever cue the group comes to speak, the script of the play follows the program.
  abbrev pub PlaysFollow : Type 0
  PlaysFollow =
      AnswersCues → (moments : List (Moment C L)) → AllByRecursion IsOthers moments →
      Follows read group cue next (played_from [] (at_rest first_world) moments)
