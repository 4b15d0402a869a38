-- What an answer tells.
use Rattle.std.specs.Prelude.{◌≡◌, List, [], map}
use Rattle.std.specs.List.{AllByRecursion}
use Rattle.dom_model.specs.Output as model
use Rattle.dom_model.specs.Tree as model_tree
use Rattle.dom_text.specs.Text.{output_text}
use Rattle.dom_printer.specs.Steps.{shown}
use Rattle.dom_answers.specs.declared.items.Item.{Item}
use Rattle.dom_answers.specs.declared.items.Span.{Span}
use Rattle.dom_answers.specs.Arrays.{Arrays, IsItem, output_of}
use Rattle.dom_answers.specs.Parts.{IsPart}

-- an answer: its items, the arrays that these have parts of, and the path that is ready for the next events, a part of the nodes
pub record Contents : Type 0 where
  pub items : List Item
  pub arrays : Arrays
  pub path : Span

-- the items as lines of output
abbrev pub told : Contents → List model.Output
told answer = map (output_of answer.arrays) answer.items

-- an answer without items
abbrev pub empty : Contents
empty = record {
  items = [];
  arrays = record { nodes = []; units = []; bytes = []; rows = []; attributes = [] };
  path = record { at = 0; count = 0 };
}

-- each item and the path have their parts within the arrays
pub record IsSound (answer : Contents) : Type 0 where
  pub items : AllByRecursion (IsItem answer.arrays) answer.items
  pub path : IsPart answer.arrays.nodes answer.path

-- ---- what an answer tells of trees: no more than their text does, which has no node documents

-- trees with what is shown of each node
abbrev pub shown_trees : model_tree.Trees → model_tree.Trees
shown_trees model_tree.none = model_tree.none
shown_trees (model_tree.tree node children others) = model_tree.tree (shown node) (shown_trees children) (shown_trees others)

-- a value with what is shown of trees
abbrev pub shown_value : model.Value → model.Value
shown_value (model.a_tree trees) = model.a_tree (shown_trees trees)
shown_value value = value

-- what is said, with what is shown of trees
abbrev pub shown_said : model.Said → model.Said
shown_said (model.replied value) = model.replied (shown_value value)
shown_said said = said

-- a line of output with what is shown of trees
abbrev pub shown_output : model.Output → model.Output
shown_output model.bad_owner = model.bad_owner
shown_output (model.says owner said) = model.says owner (shown_said said)

-- lines of output have the text that they have with what is shown of trees
abbrev pub ShowsText : Type 0
ShowsText = (outputs : List model.Output) → output_text (map shown_output outputs) ≡ output_text outputs
