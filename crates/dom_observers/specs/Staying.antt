-- What each call leaves of this: registrations are on nodes of their owner, and records name such nodes alone.
use Rattle.std.specs.Prelude.{◌≡◌, ℕ, ◌<◌, nat_eq, Bool, List, ◌++◌, length, Some, slice_get, if◌then◌else◌}
use Rattle.dom_base.specs.declared.NodeName.{NodeName}
use Rattle.dom_base.specs.declared.Owner.{Owner}
use Rattle.dom_model.specs.Command.{ObserveWords}
use Rattle.dom_model.specs.Output.{Change}
use Rattle.dom_tree.specs.Forest.{name_at}
use Rattle.dom_observers.specs.Naming.{AreAll, IsChangeAt, IsKey, SpeaksOf}
use Rattle.dom_observers.specs.Owners.{tables_of, ChangesTables, KeepsTables}
use Rattle.dom_observers.specs.Tables.{no_tables, with_observer, observing, disconnected, emptied, told, left, notified, none_pending, after_telling}
use Rattle.dom_observers.specs.TablesByOwner.{TablesByOwner}

-- a key of a node of an owner, of nodes with these names
pub record IsOwnKey (names : List NodeName) (o : Owner) (k : ℕ) : Type 0 where
  pub node : k < length names
  pub owner : (name_at names k).owner ≡ o

-- each owner's registrations are on its own nodes, and its records name them alone
abbrev pub AreOwnTables : List NodeName → TablesByOwner → Type 0
AreOwnTables names all = (o : Owner) → SpeaksOf (IsOwnKey names o) (tables_of all o)

-- ---- what a caller takes from it, and gives

-- nobody has anything
abbrev pub NoneStay : Type 0
NoneStay = (names : List NodeName) (all : TablesByOwner) → ((o : Owner) → tables_of all o ≡ no_tables) → AreOwnTables names all

-- a call that was refused
abbrev pub SameStay : Type 0
SameStay = (names : List NodeName) (was now : TablesByOwner) → AreOwnTables names was → KeepsTables was now → AreOwnTables names now

-- more nodes
abbrev pub MoreStay : Type 0
MoreStay = (names more : List NodeName) (all : TablesByOwner) → AreOwnTables names all → AreOwnTables (names ++ more) all

-- they are nodes
abbrev pub KeysStay : Type 0
KeysStay = (names : List NodeName) (all : TablesByOwner) → AreOwnTables names all → (o : Owner) → SpeaksOf (IsKey names) (tables_of all o)

-- the records of an observer name them, too
abbrev pub RecordsStay : Type 0
RecordsStay =
    (names : List NodeName) (all : TablesByOwner) → AreOwnTables names all → (o : Owner) (k : ℕ) (records : List (Change ℕ)) →
    slice_get (tables_of all o).record_queues k ≡ Some records → AreAll (IsChangeAt (IsOwnKey names o)) records

-- ---- the calls

-- an observer is made
abbrev pub MadeStay : Type 0
MadeStay = (names : List NodeName) (was now : TablesByOwner) (o : Owner) → AreOwnTables names was → ChangesTables o (with_observer (tables_of was o)) was now →
    AreOwnTables names now

-- an observer observes a node of its owner
abbrev pub ObservingStay : Type 0
ObservingStay =
    (names : List NodeName) (was now : TablesByOwner) (o : Owner) (k x : ℕ) (w : ObserveWords) → AreOwnTables names was → IsOwnKey names o x →
    ChangesTables o (observing nat_eq k x w (tables_of was o)) was now → AreOwnTables names now

-- an observer observes nothing any more, if it is there
abbrev pub DisconnectedStay : Type 0
DisconnectedStay =
    (names : List NodeName) (was now : TablesByOwner) (o : Owner) (k : ℕ) (there : Bool) → AreOwnTables names was →
    ChangesTables o (if there then disconnected k (tables_of was o) else tables_of was o) was now → AreOwnTables names now

-- an observer's records are taken
abbrev pub EmptiedStay : Type 0
EmptiedStay =
    (names : List NodeName) (was now : TablesByOwner) (o : Owner) (k : ℕ) → AreOwnTables names was → ChangesTables o (emptied k (tables_of was o)) was now →
    AreOwnTables names now

-- a change of the owner's nodes is told
abbrev pub ToldStay : Type 0
ToldStay =
    (names : List NodeName) (was now : TablesByOwner) (o : Owner) (path : List ℕ) (c : Change ℕ) → AreOwnTables names was →
    IsChangeAt (IsOwnKey names o) c → ChangesTables o (told nat_eq path c (tables_of was o)) was now → AreOwnTables names now

-- a node of the owner leaves its parent
abbrev pub LeftStay : Type 0
LeftStay =
    (names : List NodeName) (was now : TablesByOwner) (o : Owner) (x : ℕ) (path : List ℕ) → AreOwnTables names was → IsOwnKey names o x →
    ChangesTables o (left nat_eq x path (tables_of was o)) was now → AreOwnTables names now

-- the pending observers are notified
abbrev pub NotifiedStay : Type 0
NotifiedStay = (names : List NodeName) (was now : TablesByOwner) (o : Owner) → AreOwnTables names was → ChangesTables o (notified (tables_of was o)) was now →
    AreOwnTables names now

-- an owner's pending observers are taken
abbrev pub NonePendingStay : Type 0
NonePendingStay =
    (names : List NodeName) (was now : TablesByOwner) (o : Owner) → AreOwnTables names was → ChangesTables o (none_pending (tables_of was o)) was now →
    AreOwnTables names now

-- one observer is told
abbrev pub TellingStay : Type 0
TellingStay =
    (names : List NodeName) (was now : TablesByOwner) (o : Owner) (k : ℕ) → AreOwnTables names was →
    ChangesTables o (after_telling k (tables_of was o)) was now → AreOwnTables names now
