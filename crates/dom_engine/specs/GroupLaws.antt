-- What runs write with a member's view of a group of owners: the theorem between components, for the text of runs.
use Rattle.std.specs.Prelude.{◌≡◌, ◌≢◌, ℕ, Bool, IsTrue, not, List, Some}
use Rattle.dom_base.specs.declared.Owner.{Owner}
use Rattle.dom_base.specs.declared.Owner.TheVariants.{Page}
use Rattle.dom_model.specs.Groups.{KeepsMakers, is_in_family, family_group, is_inside, makers_group, group_without}
use Rattle.dom_model.specs.Isolation.{family_trace, turns_are_closed, group_turns_stand}
use Rattle.dom_model.specs.Trace.{is_page, no_component_stops}
use Rattle.dom_text.specs.Decode.{decode}
use Rattle.dom_text.specs.Lines.{lines_of}
use Rattle.dom_isolation.specs.Agreement.{AgreeWhileTurnsStand, AgreeWithClosedTurns}
use Rattle.dom_isolation.specs.FullGroups.{AgreeInFull}
use Rattle.dom_isolation.specs.GroupTexts.{IsWordOf}
use Rattle.dom_engine.specs.Run.{run_text}

-- Two inputs that agree for a group that has the page, and with each component its maker, have equal text of each member: where no line of an owner
-- outside ends a member's turn,
abbrev pub SameGroupRunsWhileTurnsStand : Type 0
SameGroupRunsWhileTurnsStand =
    (group : Owner → Bool) → KeepsMakers group → (member : Owner) → IsTrue (group member) → IsWordOf member → (first second : List ℕ) →
    AgreeWhileTurnsStand decode group (lines_of first) (lines_of second) → run_text (Some member) first ≡ run_text (Some member) second

-- and so where each component's turn is ended by its own `.`.
abbrev pub SameGroupRuns : Type 0
SameGroupRuns =
    (group : Owner → Bool) → KeepsMakers group → (member : Owner) → IsTrue (group member) → IsWordOf member → (first second : List ℕ) →
    AgreeWithClosedTurns decode group (lines_of first) (lines_of second) → run_text (Some member) first ≡ run_text (Some member) second

-- Two inputs that agree for a family, in which no component listener stops or cancels, have equal text of each member: where no line of an owner
-- outside ends a member's turn,
abbrev pub SameFamilyRunsWhileTurnsStand : Type 0
SameFamilyRunsWhileTurnsStand =
    (root member : Owner) → IsTrue (is_in_family root member) → IsWordOf member → (first second : List ℕ) →
    IsTrue (no_component_stops decode (lines_of first)) → IsTrue (no_component_stops decode (lines_of second)) →
    IsTrue (group_turns_stand decode (family_group root) (lines_of first)) → IsTrue (group_turns_stand decode (family_group root) (lines_of second)) →
    family_trace decode root (lines_of first) ≡ family_trace decode root (lines_of second) → run_text (Some member) first ≡ run_text (Some member) second

-- and so where each component's turn is ended by its own `.`.
abbrev pub SameFamilyRuns : Type 0
SameFamilyRuns =
    (root member : Owner) → IsTrue (not (is_page root)) → IsTrue (is_in_family root member) → IsWordOf member → (first second : List ℕ) →
    IsTrue (no_component_stops decode (lines_of first)) → IsTrue (no_component_stops decode (lines_of second)) →
    IsTrue (turns_are_closed decode (lines_of first)) → IsTrue (turns_are_closed decode (lines_of second)) →
    family_trace decode root (lines_of first) ≡ family_trace decode root (lines_of second) → run_text (Some member) first ≡ run_text (Some member) second

-- Two inputs that agree for a component with its makers have equal text of the component: where no line of an owner outside ends a turn of one
-- of them,
abbrev pub SameComponentRunsWhileTurnsStand : Type 0
SameComponentRunsWhileTurnsStand =
    (c : Owner) → IsWordOf c → (first second : List ℕ) →
    AgreeWhileTurnsStand decode (makers_group c) (lines_of first) (lines_of second) → run_text (Some c) first ≡ run_text (Some c) second

-- and so where each component's turn is ended by its own `.`.
abbrev pub SameComponentRuns : Type 0
SameComponentRuns =
    (c : Owner) → IsWordOf c → (first second : List ℕ) →
    AgreeWithClosedTurns decode (makers_group c) (lines_of first) (lines_of second) → run_text (Some c) first ≡ run_text (Some c) second

-- Two inputs that agree around a component have equal text of each owner who is not inside it: where no line of an owner inside ends the turn of
-- one who is not,
abbrev pub SameAroundRunsWhileTurnsStand : Type 0
SameAroundRunsWhileTurnsStand =
    (c o : Owner) → c ≢ Page → IsTrue (not (is_inside c o)) → IsWordOf o → (first second : List ℕ) →
    AgreeWhileTurnsStand decode (group_without c) (lines_of first) (lines_of second) → run_text (Some o) first ≡ run_text (Some o) second

-- and so where each component's turn is ended by its own `.`.
abbrev pub SameAroundRuns : Type 0
SameAroundRuns =
    (c o : Owner) → c ≢ Page → IsTrue (not (is_inside c o)) → IsWordOf o → (first second : List ℕ) →
    AgreeWithClosedTurns decode (group_without c) (lines_of first) (lines_of second) → run_text (Some o) first ≡ run_text (Some o) second

-- Whatever others' listeners do, and whose turns they end: two inputs that agree in full for a group have equal text of each member,
abbrev pub SameGroupRunsInFull : Type 0
SameGroupRunsInFull =
    (group : Owner → Bool) → KeepsMakers group → (member : Owner) → IsTrue (group member) → IsWordOf member → (first second : List ℕ) →
    AgreeInFull decode group (lines_of first) (lines_of second) → run_text (Some member) first ≡ run_text (Some member) second

-- for a family,
abbrev pub SameFamilyRunsInFull : Type 0
SameFamilyRunsInFull =
    (root member : Owner) → IsTrue (is_in_family root member) → IsWordOf member → (first second : List ℕ) →
    AgreeInFull decode (family_group root) (lines_of first) (lines_of second) → run_text (Some member) first ≡ run_text (Some member) second

-- for a component with its makers,
abbrev pub SameComponentRunsInFull : Type 0
SameComponentRunsInFull =
    (c : Owner) → IsWordOf c → (first second : List ℕ) →
    AgreeInFull decode (makers_group c) (lines_of first) (lines_of second) → run_text (Some c) first ≡ run_text (Some c) second

-- and around a component.
abbrev pub SameAroundRunsInFull : Type 0
SameAroundRunsInFull =
    (c o : Owner) → c ≢ Page → IsTrue (not (is_inside c o)) → IsWordOf o → (first second : List ℕ) →
    AgreeInFull decode (group_without c) (lines_of first) (lines_of second) → run_text (Some o) first ≡ run_text (Some o) second
