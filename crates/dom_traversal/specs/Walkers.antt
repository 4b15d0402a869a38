-- What a contract sees of a `Walker`: a tree walker with keys in place of names.
use Rattle.std.specs.Prelude.{◌≡◌, ℕ, ◌<◌, Bool, true, false, not, ◌&&◌, ◌||◌, List, [], ◌++◌, filter, length, Option, Some, None}
use Rattle.std.specs.List.{list_all}
use Rattle.dom_base.specs.declared.NodeName.{NodeName}
use Rattle.dom_base.specs.declared.Verdict.{Verdict}
use Rattle.dom_base.specs.declared.Verdict.TheVariants.{Skip, Reject}
use Rattle.dom_model.specs.Command.{Filter}
use Rattle.dom_model.specs.Names.{name_eq, is_in, first_of, last_of}
use Rattle.dom_model.specs.Traversal.{Walker, answer_at, accepts, skips, rejects, sibling_top}
use Rattle.dom_model.specs.Tree.{Trees, ancestors, is_inclusive_ancestor}
use Rattle.dom_tree.specs.Forest.{NamedTrees, name_at}
use Rattle.dom_laws.specs.Within.{ahead_of, behind, beyond, from_node, up_to_tree}
use Rattle.dom_tree.specs.Within.{StandsIn, StandsBelow}
use Rattle.dom_traversal.specs.declared.iter.Direction.{Direction}
use Rattle.dom_traversal.specs.declared.iter.Direction.TheVariants.{Next, Previous}

-- a walker by keys
pub record KeyedWalker : Type 0 where
  pub root : ℕ
  pub current : ℕ
  pub filter : Filter

-- the same walker with the names of its nodes
abbrev pub walker_view : List NodeName → KeyedWalker → Walker
walker_view names w = record { root = name_at names w.root; current = name_at names w.current; filter = w.filter }

-- its root and its current node are nodes
pub record IsWalkerOf (f : NamedTrees) (w : KeyedWalker) : Type 0 where
  pub root : w.root < length f.names
  pub current : w.current < length f.names

-- the walker at a node, if there is one
abbrev pub walker_at : KeyedWalker → Option ℕ → KeyedWalker
walker_at w None = w
walker_at w (Some k) = record w { current = k }

-- the accepted nodes of the root's tree behind the current one
abbrev pub walker_rest : NamedTrees → KeyedWalker → List NodeName
walker_rest f w = filter (accepts f.trees w.filter) (behind f.trees (name_at f.names w.root) (name_at f.names w.current))

-- how many nodes of the root's tree stand behind the current one
abbrev pub walker_left : NamedTrees → KeyedWalker → ℕ
walker_left f w = length (behind f.trees (name_at f.names w.root) (name_at f.names w.current))

-- whether a node is not rejected, or stands above the current node
abbrev pub is_passable : Trees → Walker → NodeName → Bool
is_passable ts w a = not (rejects ts w.filter a && not (is_inclusive_ancestor ts a w.current))

-- whether a node is skipped, or not rejected where the way goes through accepted nodes too
abbrev pub entered_by : Bool → Option Verdict → Bool
entered_by through None = through
entered_by through (Some Skip) = true
entered_by through (Some Reject) = false

-- whether a walk goes into a node, by what a filter answers of it
abbrev pub is_entered : Trees → Filter → Bool → NodeName → Bool
is_entered ts f through x = entered_by through (answer_at ts f x)

-- whether a node is accepted or is `top`
abbrev pub is_stop : Trees → Filter → NodeName → NodeName → Bool
is_stop ts f top x = accepts ts f x || name_eq x top

-- the nearest node above x that the filter accepts or that is `top`
abbrev pub stop_above : Trees → Filter → NodeName → NodeName → NodeName
stop_above ts f top x = sibling_top ts record { root = top; current = x; filter = f }

-- whether a node is skipped or stands above the current node
abbrev pub is_opened : Trees → Walker → NodeName → Bool
is_opened ts w a = skips ts w.filter a || is_inclusive_ancestor ts a w.current

-- whether a node is accepted and reached through opened nodes alone
abbrev pub is_reached : Trees → Walker → NodeName → Bool
is_reached ts w y = accepts ts w.filter y && list_all (is_opened ts w) (ancestors ts y)

-- the node at which a search from a node stops, or from none
abbrev pub stop_of : Trees → Filter → NodeName → Option NodeName → NodeName
stop_of ts f top None = top
stop_of ts f top (Some x) = stop_above ts f top x

-- whether a node is accepted, but for one node
abbrev pub is_accepted_but : Trees → Filter → NodeName → NodeName → Bool
is_accepted_but ts f apart y = accepts ts f y && not (name_eq y apart)

-- the nodes before x in the tree of `top` end in those up to a node and its tree, or in none, and then come nodes of which,
-- but for `top`, none is accepted
pub record StepsBehind (ts : Trees) (f : Filter) (top x : NodeName) (to : Option NodeName) : Type 0 where
  pub passed : List NodeName
  pub split : ahead_of ts top x ≡ up_to_tree ts top to ++ passed
  pub none_accepted : filter (is_accepted_but ts f top) passed ≡ []

-- a step beside x and its tree leads to a node or to none: in the tree of `top` to the first node behind them, or backward as above
abbrev pub StepsBeside : Direction → Trees → Filter → NodeName → NodeName → Option NodeName → Type 0
StepsBeside Next ts f top x to = to ≡ first_of (beyond ts top x)
StepsBeside Previous ts f top x to = StepsBehind ts f top x to

-- a search forward among the nodes in the place of siblings may begin at a key: all above its node is opened, and the
-- current node stands in the tree of the stop, and not from that node on
pub record BeginsForward (f : NamedTrees) (w : KeyedWalker) (top key : ℕ) : Type 0 where
  pub below : StandsBelow f top key
  pub path : list_all (is_opened f.trees (walker_view f.names w)) (ancestors f.trees (name_at f.names key)) ≡ true
  pub around : is_inclusive_ancestor f.trees (stop_above f.trees w.filter (name_at f.names top) (name_at f.names key)) (name_at f.names w.current) ≡ true
  pub apart : is_in name_eq (name_at f.names w.current)
      (from_node f.trees (stop_above f.trees w.filter (name_at f.names top) (name_at f.names key)) (Some (name_at f.names key))) ≡ false

-- a search backward has come behind the nodes before a key's node, with that node still to be looked at: all above it may
-- be passed, and the current node is not before it
pub record ComesBack (f : NamedTrees) (w : KeyedWalker) (key : ℕ) : Type 0 where
  pub stands : StandsIn f w.root key
  pub path : list_all (is_passable f.trees (walker_view f.names w)) (ancestors f.trees (name_at f.names key)) ≡ true
  pub apart : is_in name_eq (name_at f.names w.current) (ahead_of f.trees (name_at f.names w.root) (name_at f.names key)) ≡ false

-- a search backward among the nodes in the place of siblings may begin at a key: all above its node is opened, and the
-- current node, where it is not the stop, is not among the nodes up to that one and its tree
pub record BeginsBackward (f : NamedTrees) (w : KeyedWalker) (top key : ℕ) : Type 0 where
  pub below : StandsBelow f top key
  pub path : list_all (is_opened f.trees (walker_view f.names w)) (ancestors f.trees (name_at f.names key)) ≡ true
  pub apart : is_in name_eq (name_at f.names w.current)
      (up_to_tree f.trees (stop_above f.trees w.filter (name_at f.names top) (name_at f.names key)) (Some (name_at f.names key))) ≡ true
      → name_at f.names w.current ≡ stop_above f.trees w.filter (name_at f.names top) (name_at f.names key)

-- whether a node other than the stop is accepted and reached
abbrev pub is_candidate : Trees → Walker → NodeName → NodeName → Bool
is_candidate ts w stop y = is_reached ts w y && not (name_eq y stop)

-- a search in a direction may begin at a key
abbrev pub Begins : Direction → NamedTrees → KeyedWalker → ℕ → ℕ → Type 0
Begins Next f w top key = BeginsForward f w top key
Begins Previous f w top key = BeginsBackward f w top key

-- the node that is accepted and reached first in a direction, from a node on in the tree of the stop
abbrev pub reached_from : Direction → Trees → Walker → NodeName → Option NodeName → Option NodeName
reached_from Next ts w stop from = first_of (filter (is_reached ts w) (from_node ts stop from))
reached_from Previous ts w stop from = last_of (filter (is_candidate ts w stop) (up_to_tree ts stop from))
