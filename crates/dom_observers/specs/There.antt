-- What each call leaves of this: each registration is of an observer that was made.
use Rattle.std.specs.Prelude.{◌≡◌, ℕ, ◌<◌, nat_eq, true, Bool, List, length, Some, is_some, slice_get, if◌then◌else◌}
use Rattle.std.specs.List.{All}
use Rattle.dom_base.specs.declared.Owner.{Owner}
use Rattle.dom_model.specs.Command.{ObserveWords}
use Rattle.dom_model.specs.Observers.{Registration}
use Rattle.dom_model.specs.Output.{Change}
use Rattle.dom_observers.specs.Owners.{tables_of, ChangesTables, KeepsTables}
use Rattle.dom_observers.specs.Tables.{TablesOf, no_tables, with_observer, observing, disconnected, emptied, told, left, notified, none_pending}
use Rattle.dom_observers.specs.Tables.{after_telling}
use Rattle.dom_observers.specs.TablesByOwner.{TablesByOwner}

-- the observers of an owner's registrations were made
abbrev pub AreMade : TablesOf ℕ → Type 0
AreMade t = All (λ (r : Registration ℕ). r.observer < length t.record_queues) t.registrations

-- so they were of each owner
abbrev pub AreThere : TablesByOwner → Type 0
AreThere all = (o : Owner) → AreMade (tables_of all o)

-- ---- what a caller takes from it, and gives

-- nobody has anything
abbrev pub NoneThere : Type 0
NoneThere = (all : TablesByOwner) → ((o : Owner) → tables_of all o ≡ no_tables) → AreThere all

-- a call that was refused
abbrev pub SameThere : Type 0
SameThere = (was now : TablesByOwner) → AreThere was → KeepsTables was now → AreThere now

-- the observer of a registration has its record queue
abbrev pub HasThere : Type 0
HasThere = (all : TablesByOwner) → AreThere all → (o : Owner) (k : ℕ) (r : Registration ℕ) → slice_get (tables_of all o).registrations k ≡ Some r →
    is_some (slice_get (tables_of all o).record_queues r.observer) ≡ true

-- ---- the calls

-- an observer is made
abbrev pub MadeThere : Type 0
MadeThere = (was now : TablesByOwner) (o : Owner) → AreThere was → ChangesTables o (with_observer (tables_of was o)) was now → AreThere now

-- an observer that was made observes a node
abbrev pub ObservingThere : Type 0
ObservingThere =
    (was now : TablesByOwner) (o : Owner) (k x : ℕ) (w : ObserveWords) → AreThere was → k < length (tables_of was o).record_queues →
    ChangesTables o (observing nat_eq k x w (tables_of was o)) was now → AreThere now

-- an observer observes nothing any more, if it is there
abbrev pub DisconnectedThere : Type 0
DisconnectedThere =
    (was now : TablesByOwner) (o : Owner) (k : ℕ) (there : Bool) → AreThere was →
    ChangesTables o (if there then disconnected k (tables_of was o) else tables_of was o) was now → AreThere now

-- an observer's records are taken
abbrev pub EmptiedThere : Type 0
EmptiedThere = (was now : TablesByOwner) (o : Owner) (k : ℕ) → AreThere was → ChangesTables o (emptied k (tables_of was o)) was now → AreThere now

-- a change of the owner's nodes is told
abbrev pub ToldThere : Type 0
ToldThere =
    (was now : TablesByOwner) (o : Owner) (path : List ℕ) (c : Change ℕ) → AreThere was → ChangesTables o (told nat_eq path c (tables_of was o)) was now →
    AreThere now

-- a node of the owner leaves its parent
abbrev pub LeftThere : Type 0
LeftThere =
    (was now : TablesByOwner) (o : Owner) (x : ℕ) (path : List ℕ) → AreThere was → ChangesTables o (left nat_eq x path (tables_of was o)) was now →
    AreThere now

-- the pending observers are notified
abbrev pub NotifiedThere : Type 0
NotifiedThere = (was now : TablesByOwner) (o : Owner) → AreThere was → ChangesTables o (notified (tables_of was o)) was now → AreThere now

-- an owner's pending observers are taken
abbrev pub NonePendingThere : Type 0
NonePendingThere = (was now : TablesByOwner) (o : Owner) → AreThere was → ChangesTables o (none_pending (tables_of was o)) was now → AreThere now

-- one observer is told
abbrev pub TellingThere : Type 0
TellingThere =
    (was now : TablesByOwner) (o : Owner) (k : ℕ) → AreThere was → ChangesTables o (after_telling k (tables_of was o)) was now → AreThere now
