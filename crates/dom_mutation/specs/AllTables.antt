-- An owner's tables as a `Doc` holds them, with keys in place of names.
use Rattle.std.specs.Prelude.{◌≡◌, ℕ, ◌≤◌, List, [], length, map, None, Result, OnOk, OnErr}
use Rattle.dom_base.specs.declared.Owner.{Owner}
use Rattle.dom_base.specs.declared.NodeName.{NodeName}
use Rattle.dom_model.specs.Tree.{Trees, none}
use Rattle.dom_model.specs.Traversal.{Iterator, Walker}
use Rattle.dom_model.specs.World.{Task}
use Rattle.dom_slots.specs.Kept.{SlotsNow}
use Rattle.dom_tree.specs.Forest.{NamedTrees, name_at}
use Rattle.dom_traversal.specs.Iterators.{KeyedIterator, iterator_view, IsIteratorOf}
use Rattle.dom_traversal.specs.Walkers.{KeyedWalker, walker_view, IsWalkerOf}
use Rattle.dom_observers.specs.Tables.{TablesOf, no_tables as no_observers}
use Rattle.dom_observers.specs.Naming.{named_tables}
use Rattle.dom_ranges.specs.Tables.{RangeLists, ranges_of}
use Rattle.dom_traversal.specs.OwnTables.{KeyedTables, EachItem, no_keyed_tables}
use Rattle.dom_traversal.specs.Cursors.{with_cursors}
use Rattle.dom_mutation.specs.Contents.{Tables, no_tables}
use Rattle.dom_mutation.specs.declared.node_trees.steps.NodeTrees.{NodeTrees}

-- cursors, and what an owner has of observers
abbrev pub tables_with : List Iterator → List Walker → TablesOf NodeName → Tables
tables_with is ws r = record no_tables { iterators = is; walkers = ws; registrations = r.registrations; record_queues = r.record_queues; pending = r.pending }

-- the same tables in names, and what the owner has of observers
abbrev pub tables_view : List NodeName → KeyedTables → TablesOf ℕ → Tables
tables_view names t r = tables_with (map (iterator_view names) t.iterators) (map (walker_view names) t.walkers) (named_tables (name_at names) r)

-- ---- all tables

-- what a `Doc` holds beside its trees: each owner's iterators and walkers, what each owner has of observers, the tasks, the
-- hosts with what is assigned to slots, the signalled slots of all owners, and each owner's live ranges (own rule)
pub record AllTables : Type 0 where
  pub each : Owner → KeyedTables
  pub observers : Owner → TablesOf ℕ
  pub tasks : List Task
  pub slots : SlotsNow
  pub signalled : List NodeName
  pub ranges : RangeLists

-- all of them
abbrev pub tables_of : (Owner → KeyedTables) → (Owner → TablesOf ℕ) → List Task → SlotsNow → List NodeName → RangeLists → AllTables
tables_of each observers tasks slots signalled ranges =
    record { each = each; observers = observers; tasks = tasks; slots = slots; signalled = signalled; ranges = ranges }

-- those with one owner's iterators and walkers written
abbrev pub with_table : AllTables → Owner → KeyedTables → AllTables
with_table tables o u = record tables { each = with_cursors tables.each o u }

-- those with other observers
abbrev pub with_observers : AllTables → (Owner → TablesOf ℕ) → AllTables
with_observers tables observers = record tables { observers = observers }

-- those with other tasks
abbrev pub with_queue : AllTables → List Task → AllTables
with_queue tables tasks = record tables { tasks = tasks }

-- those with other live ranges
abbrev pub with_live : AllTables → RangeLists → AllTables
with_live tables ranges = record tables { ranges = ranges }

-- the same, with what stands beside the trees
abbrev pub tables_with_trees : (Owner → KeyedTables) → (Owner → TablesOf ℕ) → NodeTrees → RangeLists → AllTables
tables_with_trees each observers trees ranges = tables_of each observers trees.queue trees.slots trees.signalled ranges

-- these trees, with what a step on them changes of the tables, and the tables with it written
abbrev pub trees_with : List NodeName → Trees → AllTables → NodeTrees
trees_with names ts tables =
    record { forest = record { names = names; trees = ts }; slots = tables.slots; signalled = tables.signalled; queue = tables.tasks }

abbrev pub with_signals : AllTables → NodeTrees → AllTables
with_signals tables t = record tables { tasks = t.queue; slots = t.slots; signalled = t.signalled }

-- no hosts
abbrev pub no_slots : SlotsNow
no_slots = record { hosts = []; table = []; bare = []; index = []; parked = None }

-- where the page alone is there, and has none
abbrev pub first_tables : AllTables
first_tables = record { each = λ o. no_keyed_tables; observers = λ o. no_observers; tasks = []; slots = no_slots; signalled = []; ranges = [] }

-- the page alone is there, and has none, in whatever lists its live ranges would stand
pub record AreFirst (t : AllTables) : Type 0 where
  pub all : t ≡ with_live first_tables t.ranges
  pub no_ranges : (o : Owner) → ranges_of t.ranges o ≡ []

-- what a call leaves that settles a step: what the step left, or where memory was refused no nodes and the page alone
pub record IsSettled {T E : Type 0} (r q : Result T E) (m g : NamedTrees) (mid last : AllTables) : Type 0 where
  pub result : q ≡ r
  pub forest : OnOk r (g ≡ m)
  pub tables : OnOk r (last ≡ mid)
  pub empty : OnErr r (g ≡ record { names = []; trees = none })
  pub first : OnErr r (AreFirst last)

-- ---- what holds of an owner's tables

-- an iterator of the forest, over the owner's nodes
pub record IsOwnIterator (f : NamedTrees) (o : Owner) (i : KeyedIterator) : Type 0 where
  pub stands : IsIteratorOf f i
  pub own : (name_at f.names i.root).owner ≡ o

-- a walker of the forest, at the owner's nodes
pub record IsOwnWalker (f : NamedTrees) (o : Owner) (w : KeyedWalker) : Type 0 where
  pub stands : IsWalkerOf f w
  pub own : (name_at f.names w.root).owner ≡ o
  pub own_current : (name_at f.names w.current).owner ≡ o

-- an owner has at most 1,000,000 of each
pub record AreTablesOf (f : NamedTrees) (o : Owner) (t : KeyedTables) : Type 0 where
  pub iterators : EachItem (IsOwnIterator f o) t.iterators
  pub walkers : EachItem (IsOwnWalker f o) t.walkers
  pub few_iterators : length t.iterators ≤ 1000000
  pub few_walkers : length t.walkers ≤ 1000000
