-- What the commands that make a node do.
use Rattle.std.specs.Prelude.{Option, None, if◌then◌else◌}
use Rattle.dom_base.specs.declared.NodeName.{NodeName}
use Rattle.dom_base.specs.declared.Kind.{Kind}
use Rattle.dom_base.specs.declared.Kind.TheVariants.{Document, Element, Text, Comment}
use Rattle.dom_model.specs.Names.{Word, DomString}
use Rattle.dom_model.specs.Tree.{is_document}
use Rattle.dom_model.specs.Command.{Command}
use Rattle.dom_model.specs.Part.{Part}
use Rattle.dom_model.specs.Effects.{new_document_of}

-- the node document of a new node of a kind: a document has none (DOM Standard, concept: node document)
abbrev pub document_for : Kind → Part → Option NodeName
document_for k p = if is_document k then None else new_document_of p

-- the command that makes a node of a kind, with this local name or this text (own rule)
abbrev pub making : Kind → Word → DomString → Command
making Document a s = Command.new_document
making Element a s = Command.new_element a
making Text a s = Command.new_text s
making Comment a s = Command.new_comment s
making _ a s = Command.new_fragment
