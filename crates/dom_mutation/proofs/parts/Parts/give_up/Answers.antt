use Rattle.dom_mutation.proofs.Cited.{cursors_of, tables_with_trees}
use Rattle.dom_observers.specs.Definitions.{tables_of as observers_of}
use Rattle.dom_mutation.proofs.HeldNodes.{given_up, nothing_shown}
use Rattle.dom_mutation.proofs.parts.Parts.give_up.Goals as goal

pub invariant_of-self : goal.invariant_of-self
invariant_of-self c =
    given_up c.give_up.new.trees.forest (tables_with_trees (cursors_of c.give_up.new.cursors) (observers_of c.give_up.new.observers)
    c.give_up.new.trees c.give_up.new.ranges) c.give_up.ensures.empty c.give_up.ensures.first

pub returns : goal.returns
returns c =
    nothing_shown c.give_up.new.trees.forest (tables_with_trees (cursors_of c.give_up.new.cursors) (observers_of c.give_up.new.observers)
    c.give_up.new.trees c.give_up.new.ranges) c.give_up.ensures.empty c.give_up.ensures.first
