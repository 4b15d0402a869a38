-- The steps of a tree's text in the code, seen as those of the specification.
use Rattle.std.specs.Prelude.{List, [], ◌∷◌, ◌++◌, map, None}
use Rattle.dom_base.specs.declared.Kind.{Kind}
use Rattle.dom_base.specs.declared.Kind.TheVariants as kinds
use Rattle.dom_model.specs.Names.{Word, DomString}
use Rattle.dom_model.specs.Tree as model
use Rattle.dom_text.specs.Text as text
use Rattle.dom_printer.specs.declared.trees.Attribute.{Attribute}
use Rattle.dom_printer.specs.declared.trees.NodeContent.{NodeContent}
use Rattle.dom_printer.specs.declared.trees.NodeContent.TheVariants as words
use Rattle.dom_printer.specs.declared.trees.Opening.{Opening}
use Rattle.dom_printer.specs.declared.trees.TreeStep.{TreeStep}
use Rattle.dom_printer.specs.declared.trees.TreeStep.TheVariants as steps

-- an attribute
abbrev pub attribute_view : Attribute → model.Attribute
attribute_view a = record { name = a.name.now; value = a.value.now }

-- attributes in order
abbrev pub attributes_view : List Attribute → List model.Attribute
attributes_view attributes = map attribute_view attributes

-- the local name among the words: that of an element, and of anything else an empty one
abbrev pub name_in : NodeContent → Word
name_in (words.Element name attributes) = name.now
name_in _ = []

-- the attributes among the words
abbrev pub attributes_in : NodeContent → List model.Attribute
attributes_in (words.Element name attributes) = attributes_view attributes.items
attributes_in _ = []

-- the data among the words
abbrev pub data_in : NodeContent → DomString
data_in (words.Data units) = units.now
data_in _ = []

-- an opening as a node: its node document is not told
abbrev pub opening_view : Opening → model.Node
opening_view o = record { name = o.name; kind = o.kind; element = name_in o.words; attributes = attributes_in o.words; text = data_in o.words; document = None }

-- an opening or a closing
abbrev pub step_view : TreeStep → text.TreeStep
step_view (steps.Opens opening) = text.opens (opening_view opening)
step_view steps.Closes = text.closes

-- steps in order
abbrev pub steps_view : List TreeStep → List text.TreeStep
steps_view steps = map step_view steps

-- a node with what the text of its tree tells: an element's name and attributes, the data of a Text or a Comment
abbrev pub shown_as : Kind → model.Node → model.Node
shown_as kinds.Element node = record {
  name = node.name;
  kind = kinds.Element;
  element = node.element;
  attributes = node.attributes;
  text = [];
  document = None;
}
shown_as kinds.Text node = record { name = node.name; kind = kinds.Text; element = []; attributes = []; text = node.text; document = None }
shown_as kinds.Comment node = record { name = node.name; kind = kinds.Comment; element = []; attributes = []; text = node.text; document = None }
shown_as kind node = record { name = node.name; kind = kind; element = []; attributes = []; text = []; document = None }

-- a node with what the text of its tree tells
abbrev pub shown : model.Node → model.Node
shown node = shown_as node.kind node

-- the steps of trees, with what their text tells of the nodes
abbrev pub shown_steps : model.Trees → List text.TreeStep
shown_steps model.none = []
shown_steps (model.tree node children others) = text.opens (shown node) ∷ shown_steps children ++ text.closes ∷ shown_steps others
