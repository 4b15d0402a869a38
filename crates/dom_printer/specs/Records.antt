-- Events and records of the code, seen as those of the specification.
use Rattle.std.specs.Prelude.{ℕ, List, ◌++◌, codes, map, option_copied}
use Rattle.std.specs.Option.{option_map}
use Rattle.std.specs.Fmt.{decimal}
use Rattle.dom_base.specs.declared.NodeName.{NodeName}
use Rattle.dom_base.specs.declared.Owner.{Owner}
use Rattle.dom_model.specs.Output as model
use Rattle.dom_text.specs.Text.{node_text, node_or_null}
use Rattle.dom_printer.specs.Names.{name_view}
use Rattle.dom_printer.specs.declared.records.Change.{Change}
use Rattle.dom_printer.specs.declared.records.Change.TheVariants as changes
use Rattle.dom_printer.specs.declared.records.Event.{Event}

-- a call of a listener that sees this path
abbrev pub event_view : List NodeName → Event → model.EventLine NodeName
event_view path e = record {
  label = e.label.now;
  event = e.event.now;
  phase = e.phase;
  target = e.target;
  current = e.current;
  related = e.related;
  path = path;
}

-- what the line of a call says, as an owner sees it, whatever stands for the text of its path
abbrev pub event_text : Owner → Event → List ℕ
event_text viewer e =
    codes "event " ++ e.label.now ++ codes " " ++ e.event.now ++ codes " phase=" ++ decimal e.phase ++ codes " target=" ++ node_text viewer e.target
    ++ codes " current=" ++ node_text viewer e.current ++ codes " related=" ++ node_or_null viewer e.related ++ codes " path=" ++ e.path.now

-- where a call stands, as an owner sees it
abbrev pub places_text : Owner → Event → List ℕ
places_text viewer e =
    codes " phase=" ++ decimal e.phase ++ codes " target=" ++ node_text viewer e.target ++ codes " current=" ++ node_text viewer e.current

-- what the event shows there, whatever stands for the text of its path
abbrev pub shown_text : Owner → Event → List ℕ
shown_text viewer e = codes " related=" ++ node_or_null viewer e.related ++ codes " path=" ++ e.path.now

-- a change
abbrev pub change_view : Change → model.Change NodeName
change_view (changes.ChildList target added removed previous next) = model.child_list (name_view target) (map name_view added.now) (map name_view removed.now)
    (option_map name_view previous) (option_map name_view next)
change_view (changes.Attributes target name old) = model.attributes (name_view target) name.now (option_copied old)
change_view (changes.CharacterData target old) = model.character_data (name_view target) (option_copied old)
