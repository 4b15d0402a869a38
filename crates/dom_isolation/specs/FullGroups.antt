-- The claims on groups with interference in place of the premises on listeners and turns.
use Rattle.std.specs.Prelude.{◌≡◌, ◌≢◌, Bool, IsTrue, not, List, [], map, is_some, if◌then◌else◌}
use Rattle.dom_base.specs.declared.Owner.{Owner}
use Rattle.dom_base.specs.declared.Owner.TheVariants.{Page}
use Rattle.dom_model.specs.Command.{Line}
use Rattle.dom_model.specs.DocumentMachine.{first_world, run_lines}
use Rattle.dom_model.specs.Groups.{KeepsMakers, group_outputs, is_in_family, family_group, is_inside, makers_group, group_without}
use Rattle.dom_model.specs.Isolation.{output_of, output_for}
use Rattle.dom_model.specs.World.{World}
use Rattle.dom_isolation.specs.Interference.{Interference, ending_records, full_trace_from}
use Rattle.dom_isolation.specs.SilentRuns.{silent_output_under}

-- what others do to the events that the end of input fires at a group's nodes: it ends any open turn
abbrev pub last_records : (Owner → Bool) → World → List Interference
last_records group w = if is_some w.turn then ending_records group w else []

module _ {L : Type 0} (read : L → Line) where
  -- of the end of a script
  abbrev pub records_at_end : (Owner → Bool) → List L → List Interference
  records_at_end group ls = last_records group (run_lines first_world (map read ls)).0

  -- A group that keeps makers sees of a script what it would see if all others were silent, but for their outward events, for how far they let its
  -- events come, and for whether they cancel them.
  abbrev pub GroupSeesItsFullTrace : Type 0
  GroupSeesItsFullTrace =
      (group : Owner → Bool) → KeepsMakers group → (ls : List L) →
      group_outputs group (output_of read ls)
      ≡ group_outputs group (silent_output_under group read (full_trace_from read group first_world ls) (records_at_end group ls))

  -- Two scripts agree in full for a group: they have equal lines of its members, equal outward events, and equal interference, at their ends too.
  abbrev pub AgreeInFull : (Owner → Bool) → List L → List L → Type 0
  AgreeInFull group ls ms =
      (full_trace_from read group first_world ls ≡ full_trace_from read group first_world ms) × (records_at_end group ls ≡ records_at_end group ms)

  -- Then they have equal output of it,
  abbrev pub SameGroupInFull : Type 0
  SameGroupInFull =
      (group : Owner → Bool) → KeepsMakers group → (ls ms : List L) → AgreeInFull group ls ms →
      group_outputs group (output_of read ls) ≡ group_outputs group (output_of read ms)

  -- and of each member:
  abbrev pub SameMemberInFull : Type 0
  SameMemberInFull =
      (group : Owner → Bool) → KeepsMakers group → (member : Owner) → IsTrue (group member) → (ls ms : List L) → AgreeInFull group ls ms →
      output_for read member ls ≡ output_for read member ms

  -- of a family,
  abbrev pub SameFamilyInFull : Type 0
  SameFamilyInFull =
      (root member : Owner) → IsTrue (is_in_family root member) → (ls ms : List L) → AgreeInFull (family_group root) ls ms →
      output_for read member ls ≡ output_for read member ms

  -- of a component, by the lines of it and its makers,
  abbrev pub SameComponentInFull : Type 0
  SameComponentInFull = (c : Owner) → (ls ms : List L) → AgreeInFull (makers_group c) ls ms → output_for read c ls ≡ output_for read c ms

  -- and of all who are not inside a component.
  abbrev pub SameAroundInFull : Type 0
  SameAroundInFull =
      (c o : Owner) → c ≢ Page → IsTrue (not (is_inside c o)) → (ls ms : List L) → AgreeInFull (group_without c) ls ms →
      output_for read o ls ≡ output_for read o ms
