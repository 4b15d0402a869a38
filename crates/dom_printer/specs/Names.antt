-- Names that are lent, seen as those of the specification.
use Rattle.dom_base.specs.declared.NodeName.{NodeName}
use Rattle.dom_printer.specs.declared.named.LentName.{LentName}

-- a node's name
abbrev pub name_view : LentName → NodeName
name_view name = record { owner = name.owner.now; number = name.number }
