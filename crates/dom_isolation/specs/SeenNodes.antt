-- Which nodes a line of output names, and what they are to the owner of the line: its own, or not hidden from a node of its own, or the node document of one.
use Rattle.std.specs.Prelude.{◌≡◌, false, List, [], ◌∷◌, ◌++◌, map, Some, option_to_list, ⊤}
use Rattle.std.specs.List.{AllByRecursion}
use Rattle.dom_base.specs.declared.Owner.{Owner}
use Rattle.dom_base.specs.declared.NodeName.{NodeName}
use Rattle.dom_model.specs.Command.{Line}
use Rattle.dom_model.specs.DocumentMachine.{first_world, step, run_lines, finish}
use Rattle.dom_model.specs.Output.{Output, bad_owner, says, Said, replied, refused, event_seen, recorded, micro_ran, EventLine, Change, child_list, attributes}
use Rattle.dom_model.specs.Output.{character_data, Value, a_node, a_list, a_tree, boundaries, reference}
use Rattle.dom_model.specs.Paths.{is_hidden_from}
use Rattle.dom_model.specs.Tree.{names_of, nodes}
use Rattle.dom_model.specs.World.{World, node_at}
use Rattle.dom_worlds.specs.Reached.{IsReached}
use Rattle.dom_worlds.specs.Tables.{IsWhole}
use Rattle.dom_worlds.specs.Worlds.{IsOf}

-- the nodes that a reply names
abbrev pub nodes_of_value : Value → List NodeName
nodes_of_value (a_node x) = x ∷ []
nodes_of_value (a_list xs) = xs
nodes_of_value (a_tree ts) = names_of (nodes ts)
nodes_of_value (boundaries start end) = start.node ∷ end.node ∷ []
nodes_of_value (reference x before) = x ∷ []
nodes_of_value v = []

-- the nodes that a mutation record names (DOM Standard, interface MutationRecord)
abbrev pub nodes_of_change : Change NodeName → List NodeName
nodes_of_change (child_list x added removed before after) = x ∷ (added ++ (removed ++ (option_to_list before ++ option_to_list after)))
nodes_of_change (attributes x a old) = x ∷ []
nodes_of_change (character_data x old) = x ∷ []

-- A node that a reply names to an owner: its own; or not hidden from a node of its own; or the node document of one.
pub data IsNamed (w : World) (o : Owner) (n : NodeName) : Type 0 where
  own : n.owner ≡ o → IsNamed w o n
  in_sight : (x : NodeName) → x.owner ≡ o → is_hidden_from w x n ≡ false → IsNamed w o n
  document : (x : NodeName) → x.owner ≡ o → (node_at w x).document ≡ Some n → IsNamed w o n

-- an event is heard at a node of its line's owner, and no node that the line names is hidden from that node: the target, the related node, and the path
abbrev pub IsHeard : World → Owner → EventLine NodeName → Type 0
IsHeard w o l = (l.current.owner ≡ o) × AllByRecursion (λ n. is_hidden_from w l.current n ≡ false) (l.target ∷ (option_to_list l.related ++ l.path))

-- what a line says names such nodes alone, and a record those of its owner
abbrev pub NamesNodes : World → Owner → Said → Type 0
NamesNodes w o (replied v) = AllByRecursion (IsNamed w o) (nodes_of_value v)
NamesNodes w o (refused r) = ⊤
NamesNodes w o (event_seen l) = IsHeard w o l
NamesNodes w o (recorded k c) = AllByRecursion (IsOf o) (nodes_of_change c)
NamesNodes w o (micro_ran label) = ⊤

-- of a line of output
abbrev pub NamesSeen : World → Output → Type 0
NamesSeen w bad_owner = ⊤
NamesSeen w (says o s) = NamesNodes w o s

-- In a world that the machine reaches no line that answers a line names what is hidden from its owner: what it names is seen in that world, before the line.
abbrev pub LineNamesSeen : Type 0
LineNamesSeen = (w : World) → IsReached false w → IsWhole w → (l : Line) → AllByRecursion (NamesSeen w) (step w l).1

-- nor one of the end of input
abbrev pub FinishNamesSeen : Type 0
FinishNamesSeen = (w : World) → IsReached false w → IsWhole w → AllByRecursion (NamesSeen w) (finish w).1

-- So it is of each line of a script.
abbrev pub ScriptNamesSeen : {L : Type 0} → (L → Line) → Type 0
ScriptNamesSeen {L = L} read = (ls : List L) (l : L) → let w = (run_lines first_world (map read ls)).0 in AllByRecursion (NamesSeen w) (step w (read l)).1
