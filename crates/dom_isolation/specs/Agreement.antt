-- What it is that two scripts agree for a group that keeps makers; and what they then give its members, of which the claims on the page, on families,
-- on components and around them are instances.
use Rattle.std.specs.Prelude.{◌≡◌, Bool, IsTrue, List}
use Rattle.dom_base.specs.declared.Owner.{Owner}
use Rattle.dom_model.specs.Command.{Line}
use Rattle.dom_model.specs.DocumentMachine.{first_world}
use Rattle.dom_model.specs.Groups.{KeepsMakers}
use Rattle.dom_model.specs.Isolation.{output_for, turns_are_closed, group_turns_stand}
use Rattle.dom_model.specs.Trace.{trace_from, no_component_stops}

module _ {L : Type 0} (read : L → Line) where
  -- In none of two scripts a component listener stops or cancels, and they have one trace for a group.
  abbrev pub HaveOneTrace : (Owner → Bool) → List L → List L → Type 0
  HaveOneTrace group ls ms =
      IsTrue (no_component_stops read ls) × IsTrue (no_component_stops read ms) × (trace_from read group first_world ls ≡ trace_from read group first_world ms)

  -- and no line of an owner outside ends a member's turn
  abbrev pub AgreeWhileTurnsStand : (Owner → Bool) → List L → List L → Type 0
  AgreeWhileTurnsStand group ls ms =
      HaveOneTrace group ls ms × IsTrue (group_turns_stand read group ls) × IsTrue (group_turns_stand read group ms)

  -- or each component's turn is ended by its own `.`
  abbrev pub AgreeWithClosedTurns : (Owner → Bool) → List L → List L → Type 0
  AgreeWithClosedTurns group ls ms = HaveOneTrace group ls ms × IsTrue (turns_are_closed read ls) × IsTrue (turns_are_closed read ms)

  -- Two scripts that agree for a group that keeps makers have equal output of each member: while turns stand,
  abbrev pub SameMemberWhileTurnsStand : Type 0
  SameMemberWhileTurnsStand =
      (group : Owner → Bool) → KeepsMakers group → (member : Owner) → IsTrue (group member) → (ls ms : List L) →
      AgreeWhileTurnsStand group ls ms → output_for read member ls ≡ output_for read member ms

  -- and so with closed turns.
  abbrev pub SameMember : Type 0
  SameMember =
      (group : Owner → Bool) → KeepsMakers group → (member : Owner) → IsTrue (group member) → (ls ms : List L) →
      AgreeWithClosedTurns group ls ms → output_for read member ls ≡ output_for read member ms
