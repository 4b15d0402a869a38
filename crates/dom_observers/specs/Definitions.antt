-- What proofs cite of this crate's definitions.
pub use Rattle.dom_observers.specs.ByOwner.{table_at, tables_in, Writes}
pub use Rattle.dom_observers.specs.InterestedObservers.{found_of, HasFound, record_of}
pub use Rattle.dom_observers.specs.Marks.{is_marked, IsNearest, looked_at, marked_in}
pub use Rattle.dom_observers.specs.Naming.{AreAll, AreRegistered, DisconnectedLaw, EmptiedLaw, IsChangeAt, IsKey, IsSourceOf, LeftLaw, MakingLaw, named_change}
pub use Rattle.dom_observers.specs.Naming.{named_registration, named_source, named_tables, NonePendingLaw, NoticesLaw, NotifiedLaw, ObservingLaw, SpeaksOf}
pub use Rattle.dom_observers.specs.Naming.{TakenLaw, TellingLaw, ToldLaw}
pub use Rattle.dom_observers.specs.Numbers.{numbers_in}
pub use Rattle.dom_observers.specs.Owners.{all_tables, ChangesTables, KeepsTables, tables_of}
pub use Rattle.dom_observers.specs.Paths.{key_of, keys_from, path_keys}
pub use Rattle.dom_observers.specs.Removals.{goes, HaveLeft}
pub use Rattle.dom_observers.specs.Staying.{AreOwnTables, DisconnectedStay, EmptiedStay, IsOwnKey, KeysStay, LeftStay, MadeStay, MoreStay, NoneStay}
pub use Rattle.dom_observers.specs.Staying.{NonePendingStay, NotifiedStay, ObservingStay, RecordsStay, SameStay, TellingStay, ToldStay}
pub use Rattle.dom_observers.specs.TableView.{table_of}
pub use Rattle.dom_observers.specs.Tables.{after_telling, disconnected, emptied, given, is_taken, left, no_tables, none_pending, notices, notified}
pub use Rattle.dom_observers.specs.Tables.{observing, queue_at, TablesOf, told, with_observer}
pub use Rattle.dom_observers.specs.TablesByOwner.{TablesByOwner}
pub use Rattle.dom_observers.specs.Taking.{and_found, copied_at, copied_by, Found, found_at, found_by, none_found, picked, transient_copy}
pub use Rattle.dom_observers.specs.There.{AreMade, DisconnectedThere, EmptiedThere, HasThere, LeftThere, MadeThere, NoneThere, NotifiedThere, ObservingThere}
pub use Rattle.dom_observers.specs.There.{NonePendingThere, SameThere, TellingThere, ToldThere}
pub use Rattle.dom_observers.specs.Views.{AreThere, change_of, notice_of, registration_of, there_in, those_there, unless_gone, words_of}
pub use Rattle.dom_observers.specs.Watching.{among, AreKept, AreNoted, AreThinned, is_above, IsPlaceOf, places_at, places_from, places_in}
pub use Rattle.dom_observers.specs.Watching.{places_or, there_of}
