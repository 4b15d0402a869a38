-- What a `Doc` holds of its owners, and the world that it shows.
use Rattle.std.specs.Prelude.{ℕ, List, [], map, Option, None}
use Rattle.dom_base.specs.declared.Owner.{Owner}
use Rattle.dom_base.specs.declared.NodeName.{NodeName}
use Rattle.dom_model.specs.Tree.{Trees}
use Rattle.dom_model.specs.Ranges.{Range}
use Rattle.dom_model.specs.Traversal.{Iterator, Walker}
use Rattle.dom_model.specs.Observers.{Registration}
use Rattle.dom_model.specs.Output.{Change}
use Rattle.dom_model.specs.Part.{Part}
use Rattle.dom_model.specs.World.{World, Task}
use Rattle.dom_tree.specs.Forest.{count_of}
use Rattle.dom_tree.specs.Owners.{trees_of_owner}

-- an owner's tables beside its trees, in names (own rule)
pub record Tables : Type 0 where
  pub ranges : List (Option (Range NodeName))
  pub iterators : List Iterator
  pub walkers : List Walker
  pub registrations : List (Registration NodeName)
  pub record_queues : List (List (Change NodeName))
  pub pending : List ℕ
  pub attached : List NodeName

-- empty tables
abbrev pub no_tables : Tables
no_tables = record { ranges = []; iterators = []; walkers = []; registrations = []; record_queues = []; pending = []; attached = [] }

-- What is held: who is there, the page first and then the components in the order of attaching; the names of all nodes by
-- their keys, all trees, each owner's tables, the signalled slots, and the tasks (own rule).
pub record Contents : Type 0 where
  pub owners : List Owner
  pub names : List NodeName
  pub trees : Trees
  pub tables : Owner → Tables
  pub signalled : List NodeName
  pub tasks : List Task

-- an owner's part from its trees, the number of its nodes and its tables; listeners are not held here
abbrev pub part_with : Owner → Trees → ℕ → Tables → Part
part_with o ts n t = record {
  owner = o;
  trees = ts;
  node_count = n;
  ranges = t.ranges;
  iterators = t.iterators;
  walkers = t.walkers;
  registrations = t.registrations;
  record_queues = t.record_queues;
  pending = t.pending;
  listeners = [];
  attached = t.attached;
}

-- an owner's part
abbrev pub part_in : Contents → Owner → Part
part_in c o = part_with o (trees_of_owner o c.trees) (count_of o c.names) (c.tables o)

-- the world; the open turn is not held here
abbrev pub world_of : Contents → World
world_of c = record { parts = map (part_in c) c.owners; signalled = c.signalled; tasks = c.tasks; turn = None }
