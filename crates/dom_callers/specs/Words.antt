-- What an observer of attributes asks for.
use Rattle.std.specs.Prelude.{true, false, None}
use Rattle.dom_model.specs.Command.{ObserveWords}

-- changes of a node's own attributes, of any name, without old values (DOM Standard, dictionary MutationObserverInit)
abbrev pub attribute_words : ObserveWords
attribute_words =
    record {
      child_list = false;
      attributes = true;
      character_data = false;
      subtree = false;
      attribute_old_value = false;
      character_data_old_value = false;
      filter = None;
    }
