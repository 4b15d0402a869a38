use Rattle.dom_mutation.proofs.Cited.{[], ◌∷◌, ◌++◌, None, refl, ap, ◌∙◌, Document, Page, node_of, with_node, node_from, NodeData, no_keyed_tables}
use Rattle.dom_mutation.proofs.Cited.{tables_with_trees, NodeTrees}
use Rattle.dom_mutation.proofs.HeldNodes.{first_held}
use Rattle.dom_observers.specs.Definitions.{no_tables as no_observers}
use Rattle.dom_mutation.proofs.parts.Parts.new.Goals as goal
use Rattle.dom_tree.specs.Definitions.{next_name}

pub invariant_of-result : goal.invariant_of-result
invariant_of-result c =
    let first : NodeData = record { kind = Document; element = c.new.result; attributes = c.new-2.result; text = c.new-3.result; document = None } in
    let ranges = c.new-in-Ok-3.result in
    first_held c.add.new.self
    (node_from [] (node_of Page 0) first) refl record {
      all = (λ j. tables_with_trees (λ o. c.new-in-Ok.ensures o j) (λ o. c.new-in-Ok-2.ensures o j) c.new-trees.result ranges)
          ∙ ap (λ (t : NodeTrees). tables_with_trees (λ o. no_keyed_tables) (λ o. no_observers) t ranges) c.new-trees.ensures;
      no_ranges = c.new-in-Ok-3.ensures;
    }
    (c.in-Ok.ensures.names ∙ ap (λ (t : NodeTrees). t.forest.names ++ next_name Page t.forest.names ∷ []) c.new-trees.ensures)
    (c.in-Ok.ensures.trees ∙ ap (λ (t : NodeTrees). with_node (node_from t.forest.names (next_name Page t.forest.names) first) t.forest.trees)
    c.new-trees.ensures)
