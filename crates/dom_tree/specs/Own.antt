-- What a stored node has of its own.
use Rattle.std.specs.Prelude.{ℕ, Bool, List, [], Option, Some, None, if◌then◌else◌}
use Rattle.dom_base.specs.declared.Kind.{Kind}
use Rattle.dom_model.specs.Tree.{Attribute}
use Rattle.dom_tree.specs.declared.own.Own.{Own}
use Rattle.dom_tree.specs.declared.own.Own.TheVariants.{Short, Long, Attributed}
use Rattle.dom_tree.specs.declared.short_text.Units.{Units}
use Rattle.dom_tree.specs.declared.short_text.Units.TheVariants as units

-- the kind
abbrev pub kind_in : Own → Kind
kind_in (Short kind has_document number text) = kind
kind_in (Long kind has_document number text) = kind
kind_in (Attributed kind has_document number text b) = kind

-- whether it has a node document
abbrev pub has_document_in : Own → Bool
has_document_in (Short kind has_document number text) = has_document
has_document_in (Long kind has_document number text) = has_document
has_document_in (Attributed kind has_document number text b) = has_document

-- the node document, where this key is given for it
abbrev pub document_in : Own → ℕ → Option ℕ
document_in own key = if has_document_in own then Some key else None

-- the number among the owner's nodes
abbrev pub number_in : Own → ℕ
number_in (Short kind has_document number text) = number
number_in (Long kind has_document number text) = number
number_in (Attributed kind has_document number text b) = number

-- the attributes
abbrev pub attributes_in : Own → List Attribute
attributes_in (Short kind has_document number text) = []
attributes_in (Long kind has_document number text) = []
attributes_in (Attributed kind has_document number text b) = b.value

-- the data
abbrev pub text_in : Own → List ℕ
text_in (Short kind has_document number text) = text
text_in (Long kind has_document number text) = text.items
text_in (Attributed kind has_document number text b) = text.items

-- the code units, copied
abbrev pub units_in : Units → List ℕ
units_in (units.Short text) = text
units_in (units.Long text) = text.items
