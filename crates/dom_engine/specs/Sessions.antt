-- Sessions: what one has taken since it was new, and what it has told. Its world is the machine's on these lines, so the claims on lists of lines, and on
-- owners that choose their lines by what they are told, are claims on what a program with a session is told.
use Rattle.std.specs.Prelude.{◌≡◌, ℕ, Bool, false, IsTrue, List, [], ◌∷◌, ◌++◌, map, flat_map}
use Rattle.dom_base.specs.declared.Owner.{Owner}
use Rattle.dom_model.specs.DocumentMachine.{first_world, step, run_lines, finish}
use Rattle.dom_model.specs.Groups.{KeepsMakers, group_world}
use Rattle.dom_model.specs.PageMachine.{page_of, first_page}
use Rattle.dom_model.specs.World.{World}
use Rattle.dom_text.specs.Decode.{decode}
use Rattle.dom_text.specs.Lines.{lines_of, lines_from, page_lines}
use Rattle.dom_text.specs.Text.{output_line, output_text}
use Rattle.dom_isolation.specs.GroupStates.{run_silent_under, member_so_far}
use Rattle.dom_isolation.specs.GroupTexts.{IsWordOf}
use Rattle.dom_isolation.specs.Interference.{full_trace_from, full_trace_of}
use Rattle.dom_isolation.specs.Strategies.{Strategy, Follows, EachFollows, heard_of, others_do, others_do_to}
use Rattle.dom_isolation.specs.TouchedMachines.{run_page_under}
use Rattle.dom_engine.specs.Run.{answers_to_end}
use Rattle.dom_engine.specs.Session.{SessionState}

-- the texts with which lines are answered, one for each, from a world on
abbrev pub texts_from : World → List (List ℕ) → List (List ℕ)
texts_from w [] = []
texts_from w (line ∷ lines) = output_text (step w (decode line)).1 ∷ texts_from (step w (decode line)).0 lines

-- texts one behind the other
abbrev pub joined : List (List ℕ) → List ℕ
joined texts = flat_map (λ (text : List ℕ). text) texts

-- Since it was new a session has taken these lines, and each call has answered Ok, with these texts.
pub record HasTaken (lines texts : List (List ℕ)) (s : SessionState) : Type 0 where
  pub sound : s.has_failed ≡ false
  pub world : s.world ≡ (run_lines first_world (map decode lines)).0
  pub told : texts ≡ texts_from first_world lines

-- a session has taken a line, and has answered Ok with a text: what the clauses `text` and `world` of `Session::line` say
abbrev pub IsAnswered : SessionState → List ℕ → List ℕ → SessionState → Type 0
IsAnswered old line text new =
    (text ≡ output_text (step old.world (decode line)).1) × (new ≡ record { world = (step old.world (decode line)).0; has_failed = false })

-- A new session has taken nothing,
abbrev pub SessionBegins : Type 0
SessionBegins = HasTaken [] [] (record { world = first_world; has_failed = false })

-- and each call that answers Ok adds its line and its text.
abbrev pub SessionGoesOn : Type 0
SessionGoesOn =
    (lines texts : List (List ℕ)) (old : SessionState) (line text : List ℕ) (new : SessionState) → HasTaken lines texts old → IsAnswered old line text new →
    HasTaken (lines ++ line ∷ []) (texts ++ text ∷ []) new

-- So all that it has told is the text of the machine's output for these lines; and with what the end of input tells then, to the end.
abbrev pub SessionTellsAll : Type 0
SessionTellsAll =
    (lines texts : List (List ℕ)) (s : SessionState) → HasTaken lines texts s →
    (joined texts ≡ output_text (run_lines first_world (map decode lines)).1) × (joined texts ++ output_text (finish s.world).1 ≡ answers_to_end lines)

-- The page's part of its world is the state of the page machine on the full trace of the lines, and the lines of the texts that begin with `p ` are this
-- machine's.
abbrev pub SessionHasPage : Type 0
SessionHasPage =
    (lines texts : List (List ℕ)) (s : SessionState) → HasTaken lines texts s → let page = run_page_under decode first_page (full_trace_of decode lines) in
    (page_of s.world ≡ page.0) × (page_lines (lines_of (joined texts)) ≡ map output_line page.1)

-- What a group that keeps makers has of its world is what it has in the silent run on the full trace of the lines, and the lines of the texts that begin with
-- the word of a member are its lines there.
abbrev pub SessionHasGroup : Type 0
SessionHasGroup =
    (group : Owner → Bool) → KeepsMakers group → (lines texts : List (List ℕ)) (s : SessionState) → HasTaken lines texts s →
    (group_world group s.world ≡ group_world group (run_silent_under decode group first_world (full_trace_from decode group first_world lines)).0)
    × ((member : Owner) → IsTrue (group member) → IsWordOf member →
    lines_from member (lines_of (joined texts)) ≡ map output_line (member_so_far decode group member lines))

-- Two sessions are one to a group: it has the same of their worlds, and each member was told the same.
pub record TellTheSame (group : Owner → Bool) (s other : SessionState) (texts others : List (List ℕ)) : Type 0 where
  pub worlds : group_world group s.world ≡ group_world group other.world
  pub told : (member : Owner) → IsTrue (group member) → IsWordOf member →
      lines_from member (lines_of (joined texts)) ≡ lines_from member (lines_of (joined others))

-- So they are where the full traces of their lines for the group are equal,
abbrev pub SameSessions : Type 0
SameSessions =
    (group : Owner → Bool) → KeepsMakers group → (lines texts : List (List ℕ)) (s : SessionState) (more others : List (List ℕ)) (other : SessionState) →
    HasTaken lines texts s → HasTaken more others other →
    full_trace_from decode group first_world lines ≡ full_trace_from decode group first_world more → TellTheSame group s other texts others

-- and where the group's lines follow one strategy in both, and others do the same to it: then it says the same lines and is told the same, line by line.
abbrev pub SameSessionsByStrategy : Type 0
SameSessionsByStrategy =
    (group : Owner → Bool) → KeepsMakers group → (next : Strategy (List ℕ))
    (lines texts : List (List ℕ)) (s : SessionState) (more others : List (List ℕ)) (other : SessionState) →
    HasTaken lines texts s → HasTaken more others other → Follows decode group next lines → Follows decode group next more →
    others_do decode group lines ≡ others_do decode group more →
    (heard_of decode group lines ≡ heard_of decode group more) × TellTheSame group s other texts others

-- So it is where each owner of the group has a strategy of its own, if the same owners speak in the same order.
abbrev pub SameSessionsByStrategies : Type 0
SameSessionsByStrategies =
    (group : Owner → Bool) → KeepsMakers group → (next : Owner → Strategy (List ℕ))
    (lines texts : List (List ℕ)) (s : SessionState) (more others : List (List ℕ)) (other : SessionState) →
    HasTaken lines texts s → HasTaken more others other → EachFollows decode group next lines → EachFollows decode group next more →
    others_do_to decode group lines ≡ others_do_to decode group more →
    (heard_of decode group lines ≡ heard_of decode group more) × TellTheSame group s other texts others
