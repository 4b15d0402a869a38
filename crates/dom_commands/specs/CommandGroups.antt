-- Groups of commands, by which handlers are found.
use Rattle.std.specs.Prelude.{Bool, true, false}
use Rattle.dom_model.specs.Command.{Command}

-- the commands that make nodes, change trees or have a microtask queued
abbrev pub is_change : Command → Bool
is_change (Command.new_element a) = true
is_change (Command.new_text s) = true
is_change (Command.new_comment s) = true
is_change Command.new_fragment = true
is_change Command.new_document = true
is_change (Command.attach x) = true
is_change (Command.append a x) = true
is_change (Command.insert a x c) = true
is_change (Command.replace a x c) = true
is_change (Command.remove x) = true
is_change (Command.adopt d x) = true
is_change (Command.normalize x) = true
is_change (Command.set_attribute x a v) = true
is_change (Command.unset_attribute x a) = true
is_change (Command.set_data x s) = true
is_change (Command.replace_data x i n s) = true
is_change (Command.split x i) = true
is_change (Command.set_text x s) = true
is_change (Command.micro label) = true
is_change _ = false

-- the commands that change with a word or a string, but for the new element and the attribute's value
abbrev pub is_wordy_change : Command → Bool
is_wordy_change (Command.new_text s) = true
is_wordy_change (Command.new_comment s) = true
is_wordy_change (Command.unset_attribute x a) = true
is_wordy_change (Command.set_data x s) = true
is_wordy_change (Command.replace_data x i n s) = true
is_wordy_change (Command.set_text x s) = true
is_wordy_change (Command.micro label) = true
is_wordy_change _ = false

-- the commands that ask by nodes and numbers alone
abbrev pub is_short_question : Command → Bool
is_short_question (Command.tree x) = true
is_short_question (Command.parent x) = true
is_short_question (Command.document_of x) = true
is_short_question (Command.children x) = true
is_short_question (Command.contains a x) = true
is_short_question (Command.connected x) = true
is_short_question (Command.shadow_root x) = true
is_short_question (Command.slot_of x) = true
is_short_question (Command.assigned x) = true
is_short_question (Command.iterator_next k) = true
is_short_question (Command.iterator_previous k) = true
is_short_question (Command.iterator_at k) = true
is_short_question (Command.walk k step) = true
is_short_question (Command.walker_at k) = true
is_short_question (Command.walker_set k x) = true
is_short_question Command.observer = true
is_short_question (Command.disconnect k) = true
is_short_question (Command.take k) = true
is_short_question _ = false

-- the commands on live ranges
abbrev pub is_range : Command → Bool
is_range Command.range_new = true
is_range (Command.range_start k x i) = true
is_range (Command.range_end k x i) = true
is_range (Command.range_collapse k to_start) = true
is_range (Command.range_drop k) = true
is_range (Command.range_get k) = true
is_range (Command.range_text k) = true
is_range (Command.extract k) = true
is_range (Command.delete k) = true
is_range (Command.insert_node k x) = true
is_range _ = false

-- the commands that neither read listeners nor change them
abbrev pub is_plain : Command → Bool
is_plain (Command.listen x words) = false
is_plain (Command.unlisten x event label capture) = false
is_plain (Command.dispatch x e related) = false
is_plain Command.end_turn = false
is_plain _ = true
