-- What contracts see of what the code holds: the model's options, registrations and changes.
use Rattle.std.specs.Prelude.{◌≡◌, ℕ, List, Option, Some, None, map, filter_map, slice_get, option_map, string_bytes, Vec, if◌then◌else◌}
use Rattle.std.specs.Option.{option_map_or}
use Rattle.dom_model.specs.Command.{ObserveWords}
use Rattle.dom_model.specs.Output.{Change as Changed, child_list, attributes, character_data}
use Rattle.dom_model.specs.Observers.{Registration, Source as From, asked_for, copied_from, copied_from_transient}
use Rattle.dom_observers.specs.declared.options.Options.{Options}
use Rattle.dom_observers.specs.declared.change.Change.{Change}
use Rattle.dom_observers.specs.declared.change.Change.TheVariants.{ChildList, Attributes, CharacterData}
use Rattle.dom_observers.specs.declared.registered.Source.{Source}
use Rattle.dom_observers.specs.declared.registered.Source.TheVariants.{AskedFor, CopiedFrom, CopiedFromTransient}
use Rattle.dom_observers.specs.declared.registered.Registered.{Registered}

-- the words of observe() (DOM Standard, dictionary MutationObserverInit)
abbrev pub words_of : Options → ObserveWords
words_of o =
    record {
      child_list = o.child_list;
      attributes = o.attributes;
      character_data = o.character_data;
      subtree = o.subtree;
      attribute_old_value = o.attribute_old_value;
      character_data_old_value = o.character_data_old_value;
      filter = option_map (λ names. map string_bytes names.items) o.filter;
    }

-- a change of nodes by their keys (DOM Standard, interface MutationRecord)
abbrev pub change_of : Change → Changed ℕ
change_of (ChildList target added removed previous next) = child_list target added.items removed.items previous next
change_of (Attributes target name old) = attributes target (string_bytes name) (option_map (λ s. s.items) old)
change_of (CharacterData target old) = character_data target (option_map (λ s. s.items) old)

-- why a registration is there (DOM Standard, concept: transient registered observer)
abbrev pub source_of : Source → From ℕ
source_of AskedFor = asked_for
source_of (CopiedFrom x) = copied_from x
source_of CopiedFromTransient = copied_from_transient

-- a registration (DOM Standard, concept: registered observer)
abbrev pub registration_of : Registered → Registration ℕ
registration_of r = record { node = r.node; observer = r.observer; options = words_of r.options.value; source = source_of r.source }

-- a registration, unless it has gone
abbrev pub unless_gone : Registered → Option (Registration ℕ)
unless_gone r = if r.has_gone then None else Some (registration_of r)

-- the registrations of a list that have not gone, in order (DOM Standard, concept: registered observer list)
abbrev pub those_there : List Registered → List (Registration ℕ)
those_there rs = filter_map unless_gone rs

-- none of a list has gone
abbrev pub AreThere : List Registered → Type 0
AreThere rs = those_there rs ≡ map registration_of rs

-- the registration in a place of a list, unless it has gone
abbrev pub there_in : List Registered → ℕ → Option (Registration ℕ)
there_in rs i = option_map_or unless_gone (slice_get rs i) None

-- an observer's number with its records
abbrev pub notice_of : {Z : Type 0} → ℕ × Vec Change Z → ℕ × List (Changed ℕ)
notice_of n = (n.0, map change_of n.1.items)
