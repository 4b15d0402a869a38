-- The rules over keys and the rules over names: with every key replaced by its name, each call does the same.
use Rattle.std.specs.Prelude.{◌≡◌, ℕ, ◌<◌, nat_eq, List, [], ◌∷◌, map, length, option_map}
use Rattle.std.specs.Option.{ForSome}
use Rattle.dom_base.specs.declared.NodeName.{NodeName}
use Rattle.dom_model.specs.Names.{name_eq}
use Rattle.dom_model.specs.Command.{ObserveWords}
use Rattle.dom_model.specs.Output.{Change, child_list, attributes, character_data}
use Rattle.dom_model.specs.Observers.{Registration, Source, asked_for, copied_from, copied_from_transient, target_of}
use Rattle.dom_tree.specs.Forest.{name_at}
use Rattle.dom_tree.specs.Apart.{TellApart}
use Rattle.dom_observers.specs.Tables.{TablesOf, with_observer, emptied, disconnected, notices, notified, none_pending, after_telling, observing}
use Rattle.dom_observers.specs.Tables.{is_taken, told, left}

module _ {M N : Type 0} (f : M → N) where
  -- a change with each node replaced by its image
  abbrev pub named_change : Change M → Change N
  named_change (child_list x added removed before after) = child_list (f x) (map f added) (map f removed) (option_map f before) (option_map f after)
  named_change (attributes x a old) = attributes (f x) a old
  named_change (character_data x old) = character_data (f x) old

  -- a registration's source with each node replaced by its image
  abbrev pub named_source : Source M → Source N
  named_source asked_for = asked_for
  named_source (copied_from x) = copied_from (f x)
  named_source copied_from_transient = copied_from_transient

  -- a registration with each node replaced by its image
  abbrev pub named_registration : Registration M → Registration N
  named_registration r = record { node = f r.node; observer = r.observer; options = r.options; source = named_source r.source }

  -- an owner's tables with each node replaced by its image
  abbrev pub named_tables : TablesOf M → TablesOf N
  named_tables t =
      record {
        registrations = map named_registration t.registrations;
        record_queues = map (map named_change) t.record_queues;
        pending = t.pending;
      }

module _ {M : Type 0} (P : M → Type 0) where
  -- the node of a source is one of P
  abbrev pub IsSourceOf : Source M → Type 0
  IsSourceOf asked_for = Unit {0}
  IsSourceOf (copied_from x) = P x
  IsSourceOf copied_from_transient = Unit {0}

  -- the nodes of registrations are of P
  abbrev pub AreRegistered : List (Registration M) → Type 0
  AreRegistered [] = Unit {0}
  AreRegistered (r ∷ rs) = P r.node × IsSourceOf r.source × AreRegistered rs

  -- each item is of P
  abbrev pub AreAll : List M → Type 0
  AreAll [] = Unit {0}
  AreAll (x ∷ xs) = P x × AreAll xs

  -- the nodes that a change tells of are of P
  abbrev pub IsChangeAt : Change M → Type 0
  IsChangeAt (child_list x added removed before after) = P x × AreAll added × AreAll removed × ForSome before P × ForSome after P
  IsChangeAt (attributes x a old) = P x
  IsChangeAt (character_data x old) = P x

-- the nodes that an owner's registrations and records name are of P
pub record SpeaksOf {M : Type 0} (P : M → Type 0) (t : TablesOf M) : Type 0 where
  pub registrations : AreRegistered P t.registrations
  pub records : AreAll (AreAll (IsChangeAt P)) t.record_queues

-- keys of nodes with these names
abbrev pub IsKey : List NodeName → ℕ → Type 0
IsKey names k = k < length names

-- ---- the laws

-- observe()
abbrev pub ObservingLaw : Type 0
ObservingLaw = (names : List NodeName) → TellApart names → (t : TablesOf ℕ) (k x : ℕ) (w : ObserveWords) →
    AreRegistered (IsKey names) t.registrations → IsKey names x
    → named_tables (name_at names) (observing nat_eq k x w t) ≡ observing name_eq k (name_at names x) w (named_tables (name_at names) t)

-- whether a record is taken
abbrev pub TakenLaw : Type 0
TakenLaw = (names : List NodeName) → TellApart names → (t : TablesOf ℕ) (path : List ℕ) (c : Change ℕ) →
    AreRegistered (IsKey names) t.registrations → AreAll (IsKey names) path → IsKey names (target_of c)
    → is_taken nat_eq path t c ≡ is_taken name_eq (map (name_at names) path) (named_tables (name_at names) t) (named_change (name_at names) c)

-- a record that is queued
abbrev pub ToldLaw : Type 0
ToldLaw = (names : List NodeName) → TellApart names → (t : TablesOf ℕ) (path : List ℕ) (c : Change ℕ) →
    AreRegistered (IsKey names) t.registrations → AreAll (IsKey names) path → IsKey names (target_of c)
    → named_tables (name_at names) (told nat_eq path c t) ≡ told name_eq (map (name_at names) path) (named_change (name_at names) c)
    (named_tables (name_at names) t)

-- transient registrations of a removed node
abbrev pub LeftLaw : Type 0
LeftLaw = (names : List NodeName) → TellApart names → (t : TablesOf ℕ) (x : ℕ) (path : List ℕ) → AreRegistered (IsKey names) t.registrations →
    AreAll (IsKey names) path → IsKey names x
    → named_tables (name_at names) (left nat_eq x path t) ≡ left name_eq (name_at names x) (map (name_at names) path) (named_tables (name_at names) t)

-- the calls that compare no nodes: a new observer, takeRecords(), disconnect() and a notification
abbrev pub MakingLaw : Type 0
MakingLaw = (names : List NodeName) (t : TablesOf ℕ) → named_tables (name_at names) (with_observer t) ≡ with_observer (named_tables (name_at names) t)

abbrev pub EmptiedLaw : Type 0
EmptiedLaw = (names : List NodeName) (k : ℕ) (t : TablesOf ℕ) → named_tables (name_at names) (emptied k t) ≡ emptied k (named_tables (name_at names) t)

abbrev pub DisconnectedLaw : Type 0
DisconnectedLaw = (names : List NodeName) (k : ℕ) (t : TablesOf ℕ) →
    named_tables (name_at names) (disconnected k t) ≡ disconnected k (named_tables (name_at names) t)

abbrev pub NonePendingLaw : Type 0
NonePendingLaw = (names : List NodeName) (t : TablesOf ℕ) → named_tables (name_at names) (none_pending t) ≡ none_pending (named_tables (name_at names) t)

abbrev pub TellingLaw : Type 0
TellingLaw = (names : List NodeName) (k : ℕ) (t : TablesOf ℕ) →
    named_tables (name_at names) (after_telling k t) ≡ after_telling k (named_tables (name_at names) t)

abbrev pub NotifiedLaw : Type 0
NotifiedLaw = (names : List NodeName) (t : TablesOf ℕ) → named_tables (name_at names) (notified t) ≡ notified (named_tables (name_at names) t)

abbrev pub NoticesLaw : Type 0
NoticesLaw = (names : List NodeName) (t : TablesOf ℕ) →
    map (λ n. (n.0, map (named_change (name_at names)) n.1)) (notices t) ≡ notices (named_tables (name_at names) t)
