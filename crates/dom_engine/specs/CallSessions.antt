-- Sessions that are called: what one has done since it was new, and what the answers of its calls have told. Its world is the machine's on these calls, which
-- are lines of the definitions that no text is read for. So the claims on scripts are claims on what a program is told that calls a session.
use Rattle.std.specs.Prelude.{◌≡◌, ℕ, Bool, false, IsTrue, List, [], ◌∷◌, ◌++◌, map, flat_map}
use Rattle.dom_base.specs.declared.Owner.{Owner}
use Rattle.dom_base.specs.declared.Owner.TheVariants.{Page}
use Rattle.dom_model.specs.Command.{Command, Line, command}
use Rattle.dom_model.specs.DocumentMachine.{first_world, step, run_lines, finish, outputs_of}
use Rattle.dom_model.specs.Groups.{KeepsMakers, group_world, group_outputs}
use Rattle.dom_model.specs.Output.{Output}
use Rattle.dom_model.specs.PageMachine.{page_of, first_page}
use Rattle.dom_model.specs.Trace.{outputs_for}
use Rattle.dom_model.specs.World.{World}
use Rattle.dom_text.specs.Decode.{decode}
use Rattle.dom_text.specs.Text.{output_text}
use Rattle.dom_answers.specs.Told.{Contents, shown_output, told}
use Rattle.dom_isolation.specs.GroupStates.{run_silent_under}
use Rattle.dom_isolation.specs.Interference.{full_trace_from, full_trace_of}
use Rattle.dom_isolation.specs.Strategies.{Strategy, Follows, EachFollows, heard_of, others_do, others_do_to}
use Rattle.dom_isolation.specs.TouchedMachines.{run_page_under}
use Rattle.dom_engine.specs.Calls.{IsCalled}
use Rattle.dom_engine.specs.Session.{SessionState}
use Rattle.dom_engine.specs.Sessions.{HasTaken}

-- the reading of calls: each is what it is
abbrev pub as_called : Line → Line
as_called call = call

-- what the answers of calls tell, one list for each call, from a world on
abbrev pub answers_from : World → List Line → List (List Output)
answers_from w [] = []
answers_from w (call ∷ calls) = map shown_output (step w call).1 ∷ answers_from (step w call).0 calls

-- what the answers tell, one after another
abbrev pub all_told : List (List Output) → List Output
all_told answers = flat_map (λ (answer : List Output). answer) answers

-- Since it was new a session has done these calls, each of which has answered Ok, with answers that tell this.
pub record HasCalled (calls : List Line) (answers : List (List Output)) (s : SessionState) : Type 0 where
  pub sound : s.has_failed ≡ false
  pub world : s.world ≡ (run_lines first_world calls).0
  pub told : answers ≡ answers_from first_world calls

-- A new session has done nothing,
abbrev pub CallsBegin : Type 0
CallsBegin = HasCalled [] [] (record { world = first_world; has_failed = false })

-- and each call that answers Ok adds its command and its answer.
abbrev pub CallsGoOn : Type 0
CallsGoOn =
    (calls : List Line) (answers : List (List Output)) (old : SessionState) (o : Owner) (c : Command) (answer : Contents) (new : SessionState) →
    HasCalled calls answers old → IsCalled old o c answer new → HasCalled (calls ++ command o c ∷ []) (answers ++ told answer ∷ []) new

-- So all that it has told is the machine's output for these calls, and with what `Session::close` tells then, to the end.
abbrev pub CallsTellAll : Type 0
CallsTellAll =
    (calls : List Line) (answers : List (List Output)) (s : SessionState) → HasCalled calls answers s →
    (all_told answers ≡ map shown_output (run_lines first_world calls).1)
    × (all_told answers ++ map shown_output (finish s.world).1 ≡ map shown_output (outputs_of calls))

-- A session that has taken lines has the world of one that has done what these lines say as calls, and each text is that of what the call's answer tells.
abbrev pub LinesAreTheirCalls : Type 0
LinesAreTheirCalls =
    (lines texts : List (List ℕ)) (s : SessionState) (answers : List (List Output)) (called : SessionState) →
    HasTaken lines texts s → HasCalled (map decode lines) answers called → (s.world ≡ called.world) × (texts ≡ map output_text answers)

-- The page's part of its world is the state of the page machine on the full trace of the calls, and the page was told what this machine's output shows.
abbrev pub CallsHavePage : Type 0
CallsHavePage =
    (calls : List Line) (answers : List (List Output)) (s : SessionState) → HasCalled calls answers s →
    let page = run_page_under as_called first_page (full_trace_of as_called calls) in
    (page_of s.world ≡ page.0) × (outputs_for Page (all_told answers) ≡ map shown_output page.1)

-- What a group that keeps makers has of its world, and what it and each member was told, is what they have in the silent run on the full trace of the calls.
abbrev pub CallsHaveGroup : Type 0
CallsHaveGroup =
    (group : Owner → Bool) → KeepsMakers group → (calls : List Line) (answers : List (List Output)) (s : SessionState) → HasCalled calls answers s →
    let silent = run_silent_under as_called group first_world (full_trace_from as_called group first_world calls) in
    (group_world group s.world ≡ group_world group silent.0)
    × (group_outputs group (all_told answers) ≡ map shown_output (group_outputs group silent.1))
    × ((member : Owner) → IsTrue (group member) → outputs_for member (all_told answers) ≡ map shown_output (outputs_for member silent.1))

-- Two sessions are one to a group: it has the same of their worlds, and it and each member were told the same.
pub record CallsTellTheSame (group : Owner → Bool) (s other : SessionState) (answers others : List (List Output)) : Type 0 where
  pub worlds : group_world group s.world ≡ group_world group other.world
  pub told : group_outputs group (all_told answers) ≡ group_outputs group (all_told others)
  pub members : (member : Owner) → IsTrue (group member) → outputs_for member (all_told answers) ≡ outputs_for member (all_told others)

-- So they are if the full traces of their calls for the group are equal,
abbrev pub SameCalls : Type 0
SameCalls =
    (group : Owner → Bool) → KeepsMakers group → (calls : List Line) (answers : List (List Output)) (s : SessionState)
    (more : List Line) (others : List (List Output)) (other : SessionState) → HasCalled calls answers s → HasCalled more others other →
    full_trace_from as_called group first_world calls ≡ full_trace_from as_called group first_world more → CallsTellTheSame group s other answers others

-- and if the group's calls follow one strategy in both, and others do the same to it: then it makes the same calls and is told the same, call by call.
abbrev pub SameCallsByStrategy : Type 0
SameCallsByStrategy =
    (group : Owner → Bool) → KeepsMakers group → (next : Strategy Line) (calls : List Line) (answers : List (List Output)) (s : SessionState)
    (more : List Line) (others : List (List Output)) (other : SessionState) → HasCalled calls answers s → HasCalled more others other →
    Follows as_called group next calls → Follows as_called group next more → others_do as_called group calls ≡ others_do as_called group more →
    (heard_of as_called group calls ≡ heard_of as_called group more) × CallsTellTheSame group s other answers others

-- So it is if each owner of the group has a strategy of its own, and the same owners call in the same order.
abbrev pub SameCallsByStrategies : Type 0
SameCallsByStrategies =
    (group : Owner → Bool) → KeepsMakers group → (next : Owner → Strategy Line) (calls : List Line) (answers : List (List Output)) (s : SessionState)
    (more : List Line) (others : List (List Output)) (other : SessionState) → HasCalled calls answers s → HasCalled more others other →
    EachFollows as_called group next calls → EachFollows as_called group next more → others_do_to as_called group calls ≡ others_do_to as_called group more →
    (heard_of as_called group calls ≡ heard_of as_called group more) × CallsTellTheSame group s other answers others
