-- What is still there of a `Doc` after a call: its nodes, and what each owner has beside them.
use Rattle.std.specs.Prelude.{◌≡◌, ℕ, ◌<◌, true, List, length, slice_get, is_some, ⊤}
use Rattle.dom_base.specs.declared.Owner.{Owner}
use Rattle.dom_worlds.specs.Worlds.{IsPart}
use Rattle.dom_model.specs.Command.{Command}
use Rattle.dom_model.specs.Part.{Part, range_at}
use Rattle.dom_model.specs.Tree.{kind_of, has_node}
use Rattle.dom_model.specs.World.{part_of}
use Rattle.dom_mutation.specs.Doc.{DocState, name_in, trees_in}

-- The nodes of a `Doc`: an owner's trees name each of its nodes once, by a number that was given, and each node stands in
-- its owner's trees (own rule; `Doc::laws` says both).
pub record HasNodes (d : DocState) : Type 0 where
  pub parts : (o : Owner) → IsPart (part_of d.world o)
  pub stand : (k : ℕ) → k < length d.names → has_node (trees_in d k) (name_in d k) ≡ true

-- Each node is still there under its key, and has its name, which says its owner, and its kind (own rule).
pub record HasStillNodes (was now : DocState) : Type 0 where
  pub nodes : (k : ℕ) → k < length was.names → k < length now.names
  pub names : (k : ℕ) → k < length was.names → name_in now k ≡ name_in was k
  pub kinds : (k : ℕ) → k < length was.names → kind_of (trees_in now k) (name_in now k) ≡ kind_of (trees_in was k) (name_in was k)

-- what stands at a place of a list has something at that place of another one (own rule)
abbrev pub HasStill : {X : Type 0} → List X → List X → Type 0
HasStill xs ys = (k : ℕ) → is_some (slice_get xs k) ≡ true → is_some (slice_get ys k) ≡ true

-- Each live range of an owner's part is still there, and so is each iterator, walker and observer (own rule).
pub record HasStillTables (p q : Part) : Type 0 where
  pub ranges : (k : ℕ) → is_some (range_at p k) ≡ true → is_some (range_at q k) ≡ true
  pub iterators : HasStill p.iterators q.iterators
  pub walkers : HasStill p.walkers q.walkers
  pub observers : HasStill p.record_queues q.record_queues

-- All this is still there (own rule).
pub record HasStillAll (was now : DocState) : Type 0 where
  pub nodes : HasStillNodes was now
  pub tables : (o : Owner) → HasStillTables (part_of was.world o) (part_of now.world o)

-- a command that drops no live range (own rule)
abbrev pub DropsNone : Command → Type 0
DropsNone (Command.range_drop k) = ⊥
DropsNone c = ⊤
