-- What the answers of handlers cite.
pub use Rattle.dom_base.proofs.Std.{◌++◌, ◌∙◌, ◌∷◌, ◌≡◌, Err, IfOk-weaker, List, None, Ok, Option, Some, [], ap, if◌then◌else◌, is_some, length}
pub use Rattle.dom_base.proofs.Std.{map, not, on_ok_weaker, option_map, refl, string_bytes, subst, sym}
pub use Rattle.dom_model.proofs.Model.{Attribute, Command, Node, NodeName, a_list, a_node, adopt_plan, answers, assigned_nodes, attaching, attribute_value}
pub use Rattle.dom_model.proofs.Model.{changes, component_made, is_document, is_name, kind_of, made_by_text, make, named, next_name, node_in, node_of}
pub use Rattle.dom_model.proofs.Model.{normalizing, observed, own, own_document, part_of, past_end, past_limit, pre_insert_plan, pre_insert_refusal}
pub use Rattle.dom_model.proofs.Model.{replied, says}
pub use Rattle.dom_model.proofs.Model.{remove_plan, replace_plan, replace_refusal, replacing_all_data, replacing_data, setting_attribute, setting_text}
pub use Rattle.dom_model.proofs.Model.{shadow_root_of, splitting, string_or_null, unsetting_attribute, world_after}
pub use Rattle.dom_admission.proofs.Finding.{key_of, no_node-absent, read_of, told_here, told_one}
pub use Rattle.dom_admission.proofs.Handling.{asks, faults, makes, may_act, opened-same, plans, reads, refused}
pub use Rattle.dom_admission.proofs.OwnRefusals.{held, lone_passes, lone_refuses, none_refused, none_stopped, refuses, unless}
pub use Rattle.dom_admission.proofs.Refusing.{naming-assigned, namings}
pub use Rattle.dom_admission.specs.Turned.{with_turn}
pub use Rattle.dom_admission.specs.declared.admission.Operand.TheVariants.{Any, Child, Data, Document, Element, Slot, Slottable, Text}
pub use Rattle.dom_attributes.specs.Attributes.{attributes_from}
pub use Rattle.dom_mutation.specs.Definitions.{DocState, adoption_refusal, attaching_refusal, made, name_in, splitting_refusal, trees_in}
pub use Rattle.dom_node_commands.proofs.Attaching.{attaches}
pub use Rattle.dom_node_commands.proofs.CommandPlans.{adoption-is, making_is, name-last}
pub use Rattle.dom_node_commands.proofs.NamedNodes.{keys_three, kind_in, keys_two, made_three, made_two, told_three, told_two}
pub use Rattle.dom_node_commands.specs.Making.{document_for}
pub use Rattle.dom_printer.specs.Names.{name_view}
pub use Rattle.dom_reader.specs.Views.{word_view}
pub use Rattle.dom_slots.specs.Definitions.{assigned_at, shadows}
pub use Rattle.dom_tree.specs.Definitions.{name_at}
