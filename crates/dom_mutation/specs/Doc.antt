-- What a contract sees of a `Doc`: the names of its nodes by their keys, and what it holds of the world.
use Rattle.std.specs.Prelude.{◌≡◌, ℕ, ◌+◌, ◌<◌, ◌≤◌, nat_lt, true, false, Bool, not, ◌||◌, ◌&&◌, List, [], ◌∷◌, map, length, Vec, Option, Some, None}
use Rattle.std.specs.Prelude.{option_map, slice_set, if◌then◌else◌}
use Rattle.std.specs.List.{AllByRecursion}
use Rattle.std.specs.Option.{ForSome}
use Rattle.dom_base.specs.declared.Owner.{Owner}
use Rattle.dom_base.specs.declared.Owner.TheVariants.{Page}
use Rattle.dom_base.specs.declared.NodeName.{NodeName}
use Rattle.dom_base.specs.declared.Kind.{Kind}
use Rattle.dom_base.specs.declared.Kind.TheVariants.{Document, Shadow}
use Rattle.dom_base.specs.declared.Refusal.{Refusal}
use Rattle.dom_base.specs.declared.Refusal.TheVariants.{Hierarchy, NotSupported, InvalidCharacter, IndexSize, Limit}
use Rattle.dom_base.specs.declared.TheConstants.{MAX_COMPONENTS}
use Rattle.dom_base.specs.Owners.{may_attach}
use Rattle.dom_model.specs.Names.{DomString, Word, name_eq, is_empty, is_in, is_name}
use Rattle.dom_model.specs.Tree.{Trees, none, node_in, kind_of, is_document, has_data, children_of, parent_of, length_of, inclusive_ancestors}
use Rattle.dom_model.specs.Tree.{is_element, is_inclusive_ancestor}
use Rattle.dom_model.specs.Part.{Part, empty_part, next_name, queue_of}
use Rattle.dom_model.specs.Observers.{without_transients}
use Rattle.dom_model.specs.Steps.{Step, queue_record}
use Rattle.dom_model.specs.World.{World, Task, micro_task, notify_task, part_of, with_part, is_there}
use Rattle.dom_model.specs.Command.{Command, effect}
use Rattle.dom_model.specs.Effects.{Effect}
use Rattle.dom_model.specs.WorldSteps.{world_step, world_after}
use Rattle.dom_model.specs.Changes.{Plan, Observing, suppressed, ◌and_then◌, in_turn, doing, steps_of, telling, making_room, placing, remove_plan, insert_plan}
use Rattle.dom_model.specs.TextChanges.{placing_tail, replacing_data}
use Rattle.dom_model.specs.Validity.{first_refusal}
use Rattle.dom_model.specs.CommandRefusals.{past_end, past_limit, may_be_host}
use Rattle.dom_model.specs.Output.{Value, Said, Change, child_list}
use Rattle.dom_mutation.specs.declared.parts.Parts.TheInside.{Inside}
use Rattle.dom_worlds.specs.Bounds.{HasBounds}
use Rattle.dom_mutation.specs.Contents.{Contents, Tables, world_of}
use Rattle.dom_slots.specs.Hosts.{ShadowHost}
use Rattle.dom_mutation.specs.Signalled.{AreSignals}
use Rattle.dom_mutation.specs.Hosting.{attached_of, host_owners, AreMadeBehind}
use Rattle.dom_mutation.specs.Ranging.{AreRangesOf}
use Rattle.dom_mutation.specs.Numbering.{AreNumbered}
use Rattle.dom_traversal.specs.OwnTables.{KeyedTables, no_keyed_tables}
use Rattle.dom_traversal.specs.Cursors.{cursors_of}
use Rattle.dom_mutation.specs.AllTables.{AllTables, tables_view, AreTablesOf, tables_with_trees, trees_with}
use Rattle.dom_observers.specs.Tables.{TablesOf, no_tables as no_observers}
use Rattle.dom_observers.specs.Owners.{tables_of as observers_of}
use Rattle.dom_observers.specs.Naming.{IsKey, SpeaksOf, IsChangeAt, named_change}
use Rattle.dom_observers.specs.Views.{change_of}
use Rattle.dom_observers.specs.declared.change.Change.{Change as KeyedChange}
use Rattle.dom_ranges.specs.Settings.{named_ranges}
use Rattle.dom_ranges.specs.Tables.{RangeList, ranges_of}
use Rattle.dom_tree.specs.Forest.{NamedTrees, name_at, count_of}
use Rattle.dom_tree.specs.Owners.{trees_of_owner, AreOwned}

-- the world here has no listeners and no open turn: a `Doc` does not hold these
pub record DocState : Type 0 where
  pub names : List NodeName
  pub world : World

-- the names of the nodes and the trees
abbrev pub named_trees : List NodeName → Trees → NamedTrees
named_trees names ts = record { names = names; trees = ts }

-- the tables that the code holds
abbrev pub all_tables : Inside → AllTables
all_tables d = tables_with_trees (cursors_of d.cursors) (observers_of d.observers) d.trees d.ranges

-- an owner's tables in names, with its hosts and its live ranges
abbrev pub shown_tables : List NodeName → List ShadowHost → Owner → KeyedTables → TablesOf ℕ → RangeList → Tables
shown_tables names hosts o t r rs = record (tables_view names t r) { attached = attached_of names hosts o; ranges = named_ranges names rs }

-- what is held
abbrev pub contents : List NodeName → Trees → AllTables → Contents
contents names ts tables = record {
  owners = Page ∷ host_owners tables.slots.hosts;
  names = names;
  trees = ts;
  tables = λ o. shown_tables names tables.slots.hosts o (tables.each o) (tables.observers o) (ranges_of tables.ranges o);
  signalled = tables.signalled;
  tasks = tables.tasks;
}

-- its world
abbrev pub world_from : List NodeName → Trees → AllTables → World
world_from names ts tables = world_of (contents names ts tables)

abbrev pub state_from : List NodeName → Trees → AllTables → DocState
state_from names ts tables = record { names = names; world = world_from names ts tables }

-- what is left of a document that was given up: no nodes, and the page alone is there (own rule)
abbrev pub nothing_left : DocState
nothing_left = record { names = []; world = record { parts = empty_part Page ∷ []; signalled = []; tasks = []; turn = None } }

-- a task of an owner that is there, where it is a notification (own rule)
abbrev pub IsDue : World → Task → Type 0
IsDue w (micro_task o label) = Unit {0}
IsDue w (notify_task o) = is_there w o ≡ true

-- what holds of a `Doc`: each tree has one owner, each node's owner is there and no other one has trees, no owner has more
-- nodes than it may make, each owner's tables are of its own nodes; the owners are the page and one component for each host,
-- which its maker made next; the slots are those of the trees, and signalled slots are
-- nodes; registrations and records name nodes alone, who is not there has no iterators, walkers and observers, and the notifications that are
-- queued are of owners that are there; live ranges are at their owner's nodes, and nodes are numbered below their count
pub record IsDoc (names : List NodeName) (ts : Trees) (tables : AllTables) : Type 0 where
  pub owned : AreOwned ts
  pub present : (k : ℕ) → k < length names → is_there (world_from names ts tables) (name_at names k).owner ≡ true
  pub absent : (o : Owner) → is_there (world_from names ts tables) o ≡ false → trees_of_owner o ts ≡ none
  pub limited : (o : Owner) → count_of o names ≤ 1000000
  pub own : (o : Owner) → AreTablesOf (named_trees names ts) o (tables.each o)
  pub idle : (o : Owner) → is_there (world_from names ts tables) o ≡ false → tables.each o ≡ no_keyed_tables
  pub made : AreMadeBehind names [] tables.slots.hosts
  pub signals : AreSignals (trees_with names ts tables)
  pub speaks : (o : Owner) → SpeaksOf (IsKey names) (tables.observers o)
  pub unobserved : (o : Owner) → is_there (world_from names ts tables) o ≡ false → tables.observers o ≡ no_observers
  pub due : AllByRecursion (IsDue (world_from names ts tables)) tables.tasks
  pub ranges : AreRangesOf (contents names ts tables) tables.ranges
  pub numbered : AreNumbered names

-- the state with other tasks
abbrev pub with_tasks : List Task → DocState → DocState
with_tasks tasks d = record { names = d.names; world = record { parts = d.world.parts; signalled = d.world.signalled; tasks = tasks; turn = d.world.turn } }

-- the world after an owner's plan
abbrev pub made : Owner → Plan → World → World
made o plan w = world_after o w (plan (part_of w o))

-- an owner's command that changes its tables alone was made, and said and answered this
abbrev pub MakesSaying : Owner → Command → List Said → Value → World → World → Type 0
MakesSaying o c lines v was now = (effect (part_of was o) c ≡ Effect.tables (part_of now o) lines v) × (now ≡ with_part was (part_of now o))

-- it said nothing
abbrev pub Makes : Owner → Command → Value → World → World → Type 0
Makes o c v was now = MakesSaying o c [] v was now

-- a key of a node
abbrev pub HoldsNode : DocState → ℕ → Type 0
HoldsNode d k = k < length d.names

-- the name of a node by its key, its owner, and that one's trees
abbrev pub name_in : DocState → ℕ → NodeName
name_in d k = name_at d.names k

abbrev pub owner_in : DocState → ℕ → Owner
owner_in d k = (name_in d k).owner

abbrev pub trees_in : DocState → ℕ → Trees
trees_in d k = (part_of d.world (owner_in d k)).trees

-- a record in names
abbrev pub change_in : DocState → KeyedChange → Change NodeName
change_in d r = named_change (name_in d) (change_of r)

-- an observer's number with its records in names
abbrev pub notice_in : {Z : Type 0} → DocState → ℕ × Vec KeyedChange Z → ℕ × List (Change NodeName)
notice_in d n = (n.0, map (change_in d) n.1.items)

-- the pending observers with their records, in order (DOM Standard, concept: notify mutation observers)
abbrev pub notices_of : Part → List (ℕ × List (Change NodeName))
notices_of p = map (λ k. (k, queue_of p.record_queues k)) p.pending

-- no observer is pending (DOM Standard, concept: notify mutation observers)
abbrev pub none_pending : Part → Part
none_pending p = record p { pending = [] }

-- an observer's queue emptied, and its transient registrations gone (DOM Standard, concept: notify mutation observers)
abbrev pub after_telling : ℕ → Part → Part
after_telling k p = record p { record_queues = slice_set p.record_queues k []; registrations = without_transients (k ∷ []) p.registrations }

-- the nodes of a record are nodes
abbrev pub NamesNodes : DocState → KeyedChange → Type 0
NamesNodes d r = IsChangeAt (IsKey d.names) (change_of r)

-- the state after a step, and after a plan, that make no node
abbrev pub stepped : Owner → Step → DocState → DocState
stepped o s d = record d { world = world_step o d.world s }

abbrev pub planned : Owner → Plan → DocState → DocState
planned o plan d = record d { world = made o plan d.world }

-- whether a node may be moved into a parent, before a child of it or last
pub record MayMove (d : DocState) (parent : ℕ) (before : Option ℕ) (k : ℕ) : Type 0 where
  pub node : k < length d.names
  pub owner : owner_in d k ≡ owner_in d parent
  pub not_above : is_inclusive_ancestor (trees_in d parent) (name_in d k) (name_in d parent) ≡ false
  pub apart : ForSome before (λ b. name_eq (name_in d k) (name_in d b) ≡ false)

-- what may be given for the node before which others are put: a child of the parent, or none
pub record IsChild (d : DocState) (parent b : ℕ) : Type 0 where
  pub node : b < length d.names
  pub owner : owner_in d b ≡ owner_in d parent
  pub child : parent_of (trees_in d parent) (name_in d b) ≡ Some (name_in d parent)

-- a node that is read from another one in its owner's trees, or none
pub record IsReadFrom (d : DocState) (k : ℕ) (read : Trees → NodeName → Option NodeName) (found : Option ℕ) : Type 0 where
  pub value : option_map (name_in d) found ≡ read (trees_in d k) (name_in d k)
  pub node : ForSome found (HoldsNode d)
  pub owner : ForSome found (λ j. owner_in d j ≡ owner_in d k)

-- these are nodes
abbrev pub AreNodes : DocState → List ℕ → Type 0
AreNodes d ks = AllByRecursion (λ k. k < length d.names) ks

-- so is this one, if there is one
abbrev pub IsNodeIf : DocState → Option ℕ → Type 0
IsNodeIf d k = ForSome k (λ k. k < length d.names)

-- a node of the owner of another one
abbrev pub IsOwnNode : DocState → ℕ → ℕ → Type 0
IsOwnNode d node k = (k < length d.names) × (owner_in d k ≡ owner_in d node)

-- the nodes that x is not above keep their inclusive ancestors
abbrev pub KeepsPaths : ℕ → NodeName → DocState → DocState → Type 0
KeepsPaths parent x d e = (y : NodeName) → is_inclusive_ancestor (trees_in d parent) x y ≡ false →
    inclusive_ancestors (trees_in e parent) y ≡ inclusive_ancestors (trees_in d parent) y

-- the plan of an insertion, when the nodes that it places have no parent or are known: room, the placings and a record
abbrev pub placed_all : Observing → List NodeName → NodeName → Option NodeName → Option NodeName → Owner → DocState → DocState
placed_all how moved parent before prev o d =
    planned o (steps_of (telling how (child_list parent moved [] prev before)))
    (planned o (in_turn (placing parent before) moved) (planned o (making_room parent before (length moved)) d))

-- where data are to come into a node, it is a Text or a Comment, and its owner's live ranges do not end past their nodes' ends
-- (own rule)
abbrev pub MayCome : Part → NodeName → DomString → Type 0
MayCome p x new = 0 < length new → HasBounds p × (has_data (kind_of p.trees x) ≡ true)

-- each of some Texts may be joined to a first one, which has their data behind its own (own rule)
abbrev pub JoinsFit : Trees → NodeName → ℕ → List NodeName → Type 0
JoinsFit ts first size [] = Unit {0}
JoinsFit ts first size (y ∷ ys) = (size + length_of ts y ≤ length_of ts first) × JoinsFit ts first (size + length_of ts y) ys

-- nodes that are not above y
abbrev pub NoneAbove : DocState → ℕ → NodeName → List ℕ → Type 0
NoneAbove d top y ks = AllByRecursion (λ k. is_inclusive_ancestor (trees_in d top) (name_in d k) y ≡ false) ks

-- whether a node of a kind is an element whose name is none (DOM Standard, createElement(); the names are an own rule)
abbrev pub is_misnamed : Kind → Word → Bool
is_misnamed k a = is_element k && not (is_name a)

-- the refusal of a new node in a part (own rule)
abbrev pub adding_refusal : Part → Kind → Word → Option Refusal
adding_refusal p k a = first_refusal ((is_misnamed k a, InvalidCharacter) ∷ (past_limit p.node_count 1, Limit) ∷ [])

-- the refusal of an adoption, by the node's kind (DOM Standard, adoptNode())
abbrev pub adoption_refusal : Kind → Option Refusal
adoption_refusal Document = Some NotSupported
adoption_refusal Shadow = Some Hierarchy
adoption_refusal _ = None

-- the refusal of an attaching: to a host, to an element whose name may be no host's, and past the limit of components or of
-- numbers in a word (DOM Standard, attach a shadow root; own rule for the limit)
abbrev pub attaching_refusal : Part → NodeName → Option Refusal
attaching_refusal p x =
    first_refusal ((is_in name_eq x p.attached || not (may_be_host (node_in p.trees x).element), NotSupported) ∷
    (nat_lt MAX_COMPONENTS (length p.attached + 1) || not (may_attach p.owner), Limit) ∷ [])

-- the refusal of a split (DOM Standard, split a Text node; own rule for the limit)
abbrev pub splitting_refusal : Part → NodeName → ℕ → Option Refusal
splitting_refusal p x offset = first_refusal ((past_end p x offset, IndexSize) ∷ (past_limit p.node_count 1, Limit) ∷ [])

-- the tail of a split Text is placed behind it, if it has a parent, and cut off
abbrev pub cutting_tail : NodeName → ℕ → ℕ → NodeName → Plan
cutting_tail x offset count new p = (placing_tail x offset new (parent_of p.trees x) and_then replacing_data x offset count []) p

-- the names of the Texts that are made where a node's children give way to these data
abbrev pub children_texts : Part → DomString → List NodeName
children_texts p new = if is_empty new then [] else next_name p ∷ []

-- the names of the Texts that a change of text makes (DOM Standard, textContent)
abbrev pub texts_made : Part → NodeName → DomString → List NodeName
texts_made p x new = if has_data (kind_of p.trees x) || is_document (kind_of p.trees x) then [] else children_texts p new

-- a node's children give way to a Text that was made (DOM Standard, concept: string replace all)
abbrev pub putting_text : NodeName → NodeName → Plan
putting_text x y p =
    let old = children_of p.trees x in
    (in_turn (remove_plan suppressed) old
    and_then insert_plan suppressed y x None
    and_then doing (queue_record (child_list x (y ∷ []) old None None))) p
