-- The words of commands, read: a node, and the words behind a command's nodes. All own rules.
use Rattle.std.specs.Prelude.{ℕ, Bool, List, Option}
use Rattle.dom_base.specs.declared.Verdict.{Verdict}
use Rattle.dom_base.specs.declared.Action.{Action}
use Rattle.dom_model.specs.Names.{Word}

-- A node as a line names it: the node of this number of the line's own owner, or, by its spelling, another owner's.
-- For the page `nJ` is own, and `mJ` and `WORD:mJ` are foreign, WORD being any component's word; for a component `mJ` is own, and `nJ` and every
-- `WORD:mJ` are foreign.
pub data NodeWord : Type 0 where
  own : ℕ → NodeWord
  foreign : NodeWord

-- The kinds of node that a filter shows: `all`, or those named.
pub record Show : Type 0 where
  pub element : Bool
  pub text : Bool
  pub comment : Bool
  pub document : Bool
  pub fragment : Bool

-- `skip=NAME` or `reject=NAME`
pub record NameFilter : Type 0 where
  pub name : Word
  pub verdict : Verdict

-- The words of an iterator or a walker behind its root.
pub record Filter : Type 0 where
  pub shown : Show
  pub named : Option NameFilter

-- The words of `listen` behind the node: TYPE LABEL ACTION [capture] [once] [passive]
pub record ListenerWords : Type 0 where
  pub event : Word
  pub label : Word
  pub action : Action
  pub capture : Bool
  pub once : Bool
  pub passive : Bool

-- The words of `dispatch` behind the target, without the related node: TYPE [bubbles] [cancelable] [composed]
pub record EventWords : Type 0 where
  pub event : Word
  pub bubbles : Bool
  pub cancelable : Bool
  pub composed : Bool

-- The words of `observe` behind the node.
pub record ObserveWords : Type 0 where
  pub child_list : Bool
  pub attributes : Bool
  pub character_data : Bool
  pub subtree : Bool
  pub attribute_old_value : Bool
  pub character_data_old_value : Bool
  pub filter : Option (List Word)
