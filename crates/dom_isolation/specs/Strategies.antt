-- Strategies: the owners of a group choose each of their lines by what they have said and were told before. Then what they say and what they are told
-- hangs on what others do to them, and on nothing else. All own rules.
use Rattle.std.specs.Prelude.{◌≡◌, Bool, IsTrue, not, List, [], ◌∷◌, ◌++◌, map, Option, Some, None, ⊤, if◌then◌else◌}
use Rattle.std.specs.List.{AllByRecursion}
use Rattle.dom_base.specs.declared.Owner.{Owner}
use Rattle.dom_model.specs.Command.{Line}
use Rattle.dom_model.specs.DocumentMachine.{first_world, step}
use Rattle.dom_model.specs.Groups.{KeepsMakers, group_outputs}
use Rattle.dom_model.specs.Isolation.{output_of}
use Rattle.dom_model.specs.Output.{Output}
use Rattle.dom_model.specs.Trace.{is_of, is_page, owner_of_line}
use Rattle.dom_model.specs.World.{World}
use Rattle.dom_isolation.specs.FullGroups.{records_at_end}
use Rattle.dom_isolation.specs.Interference.{FullItem, line_with, outward_with, turn_ended, full_trace_from, full_trace_of}

-- What a group's owners have of a script, in order: each line that one of them says, and each line of output that one of them is told.
pub data Heard (L : Type 0) : Type 0 where
  said : L → Heard L
  told : Output → Heard L

-- A strategy: by what was said and told so far it gives the next line, or none.
abbrev pub Strategy : Type 0 → Type 0
Strategy L = List (Heard L) → Option L

-- an item of a full trace with something else in place of its line
abbrev pub item_with : {L T : Type 0} → (L → T) → FullItem L → FullItem T
item_with f (line_with l records) = line_with (f l) records
item_with f (outward_with e reached) = outward_with e reached
item_with f (turn_ended records) = turn_ended records

-- What others do to a group, out of an item of its full trace: it is not told what the group says, but that it says a line, and what others did to each
-- event that this line fires at a node of the group.
abbrev pub without_line : {L : Type 0} → FullItem L → FullItem (Unit {0})
without_line item = item_with (λ l. tt) item

module _ {L : Type 0} (read : L → Line) where
  module _ (group : Owner → Bool) where
    -- what is said and told at a line
    abbrev pub heard_at : World → L → List (Heard L)
    heard_at w l = (if is_of group (owner_of_line (read l)) then said l ∷ [] else []) ++ map told (group_outputs group (step w (read l)).1)

    -- of a script from a world on
    abbrev pub heard_from : World → List L → List (Heard L)
    heard_from w [] = []
    heard_from w (l ∷ ls) = heard_at w l ++ heard_from (step w (read l)).0 ls

    -- of a script
    abbrev pub heard_of : List L → List (Heard L)
    heard_of ls = heard_from first_world ls

    -- Each line of the group is what a strategy gives at its place, from a world on in which so much was heard. When the group speaks, what others say in
    -- between, and where the script ends is left open.
    abbrev pub FollowsFrom : Strategy L → List (Heard L) → World → List L → Type 0
    FollowsFrom next heard w [] = ⊤
    FollowsFrom next heard w (l ∷ ls) =
        (IsTrue (is_of group (owner_of_line (read l))) → next heard ≡ Some l) × FollowsFrom next (heard ++ heard_at w l) (step w (read l)).0 ls

    -- of a script
    abbrev pub Follows : Strategy L → List L → Type 0
    Follows next ls = FollowsFrom next [] first_world ls

    -- each owner of the group has a strategy of its own
    abbrev pub EachFollowsFrom : (Owner → Strategy L) → List (Heard L) → World → List L → Type 0
    EachFollowsFrom next heard w [] = ⊤
    EachFollowsFrom next heard w (l ∷ ls) =
        ((o : Owner) → owner_of_line (read l) ≡ Some o → IsTrue (group o) → next o heard ≡ Some l)
        × EachFollowsFrom next (heard ++ heard_at w l) (step w (read l)).0 ls

    -- of a script
    abbrev pub EachFollows : (Owner → Strategy L) → List L → Type 0
    EachFollows next ls = EachFollowsFrom next [] first_world ls

    -- what others do to the group in a script: their outward events, what they do to its events, and which of its turns they end, each at its place among
    -- the group's lines
    abbrev pub others_do : List L → List (FullItem (Unit {0}))
    others_do ls = map without_line (full_trace_from read group first_world ls)

    -- with who of the group speaks at each of its lines
    abbrev pub others_do_to : List L → List (FullItem (Option Owner))
    others_do_to ls = map (item_with (λ l. owner_of_line (read l))) (full_trace_from read group first_world ls)

  -- Two scripts in which the lines of a group that keeps makers follow one strategy, and in which others do the same to it, are one script to the group:
  -- it says the same lines and is told the same, line by line. So their full traces for the group are equal.
  abbrev pub SameByStrategy : Type 0
  SameByStrategy =
      (group : Owner → Bool) → KeepsMakers group → (next : Strategy L) (ls ms : List L) → Follows group next ls → Follows group next ms →
      others_do group ls ≡ others_do group ms →
      (heard_of group ls ≡ heard_of group ms) × (full_trace_from read group first_world ls ≡ full_trace_from read group first_world ms)

  -- If others do the same to it at the end of input too, it has equal output to the end.
  abbrev pub SameToEndByStrategy : Type 0
  SameToEndByStrategy =
      (group : Owner → Bool) → KeepsMakers group → (next : Strategy L) (ls ms : List L) → Follows group next ls → Follows group next ms →
      others_do group ls ≡ others_do group ms → records_at_end read group ls ≡ records_at_end read group ms →
      group_outputs group (output_of read ls) ≡ group_outputs group (output_of read ms)

  -- So it is where each owner of the group has a strategy of its own, which may go by all that the group hears or by less: if the same owners speak in the
  -- same order, and others do the same to them.
  abbrev pub SameByStrategies : Type 0
  SameByStrategies =
      (group : Owner → Bool) → KeepsMakers group → (next : Owner → Strategy L) (ls ms : List L) → EachFollows group next ls → EachFollows group next ms →
      others_do_to group ls ≡ others_do_to group ms →
      (heard_of group ls ≡ heard_of group ms) × (full_trace_from read group first_world ls ≡ full_trace_from read group first_world ms)

  -- So it is of the page.
  abbrev pub SamePageByStrategy : Type 0
  SamePageByStrategy =
      (next : Strategy L) (ls ms : List L) → Follows is_page next ls → Follows is_page next ms →
      map without_line (full_trace_of read ls) ≡ map without_line (full_trace_of read ms) →
      (heard_of is_page ls ≡ heard_of is_page ms) × (full_trace_of read ls ≡ full_trace_of read ms)

-- A moment of a play: another owner says a line, or the group is asked for its next one.
pub data Moment (L : Type 0) : Type 0 where
  other : L → Moment L
  asked : Moment L

module _ {L : Type 0} (read : L → Line) (group : Owner → Bool) (next : Strategy L) where
  -- The script of a play, from a world on in which so much was heard: the group answers with what its strategy gives, if it gives a line.
  abbrev pub played_from : List (Heard L) → World → List (Moment L) → List L
  played_from heard w [] = []
  played_from heard w (other l ∷ moments) = l ∷ played_from (heard ++ heard_at read group w l) (step w (read l)).0 moments
  played_from heard w (asked ∷ moments) =
      answered (λ heard v. played_from heard v moments) heard w (next heard)
    where
      answered : (List (Heard L) → World → List L) → List (Heard L) → World → Option L → List L
      answered later heard w None = later heard w
      answered later heard w (Some l) = l ∷ later (heard ++ heard_at read group w l) (step w (read l)).0

  -- a line is another owner's
  abbrev pub IsOthers : Moment L → Type 0
  IsOthers (other l) = IsTrue (not (is_of group (owner_of_line (read l))))
  IsOthers asked = ⊤

  -- Whatever others say, and whenever the group is asked, the script of the play follows the strategy.
  abbrev pub PlaysFollow : Type 0
  PlaysFollow = (moments : List (Moment L)) → AllByRecursion IsOthers moments → Follows read group next (played_from [] first_world moments)
