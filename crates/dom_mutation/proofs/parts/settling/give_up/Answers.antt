use Rattle.dom_mutation.proofs.Cited.{ap, ◌∙◌, NodeTrees, no_keyed_tables, tables_with_trees}
use Rattle.dom_observers.specs.Definitions.{no_tables as no_observers}
use Rattle.dom_mutation.proofs.parts.settling.give_up.Goals as goal

pub returns-clause-empty : goal.returns-clause-empty
returns-clause-empty c = ap (λ (t : NodeTrees). t.forest) c.new.ensures

pub returns-clause-first : goal.returns-clause-first
returns-clause-first c =
    let ranges = c.new-4.result in
    record {
      all = (λ j. tables_with_trees (λ o. c.new-2.ensures o j) (λ o. c.new-3.ensures o j) c.new.result ranges)
          ∙ ap (λ (t : NodeTrees). tables_with_trees (λ o. no_keyed_tables) (λ o. no_observers) t ranges) c.new.ensures;
      no_ranges = c.new-4.ensures;
    }
