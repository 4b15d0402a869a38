-- How the attributes of a node stand.
use Rattle.std.specs.Prelude.{List, [], ◌∷◌}
use Rattle.std.specs.Rc.{rc_str_bytes}
use Rattle.dom_model.specs.Tree.{Attribute}
use Rattle.dom_attributes.specs.Attributes.{attribute_from}
use Rattle.dom_attributes.specs.declared.attribute_list.Held.{Held}
use Rattle.dom_attributes.specs.declared.attribute_list.Held.TheVariants.{Nothing, One, Several}

-- the attributes that are held
abbrev pub attributes_held : Held → List Attribute
attributes_held Nothing = []
attributes_held (One name value) = attribute_from (rc_str_bytes name) value.items ∷ []
attributes_held (Several b) = b.value
