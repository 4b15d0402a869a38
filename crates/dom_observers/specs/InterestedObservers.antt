-- What contracts see of the observers that take a record.
use Rattle.std.specs.Prelude.{◌≡◌, ℕ, nat_eq, false, List, ◌∷◌, drop, fold, if◌then◌else◌}
use Rattle.std.specs.List.{list_any}
use Rattle.dom_model.specs.Output.{Change}
use Rattle.dom_model.specs.Names.{is_in}
use Rattle.dom_model.specs.Observers.{without_old, target_of}
use Rattle.dom_tree.specs.Forest.{NamedTrees}
use Rattle.dom_observers.specs.declared.interested.InterestedObservers.{InterestedObservers}
use Rattle.dom_observers.specs.declared.registered.Registered.{Registered}
use Rattle.dom_observers.specs.declared.watched.Watched.{Watched}
use Rattle.dom_observers.specs.Numbers.{numbers_in}
use Rattle.dom_observers.specs.Paths.{path_keys}
use Rattle.dom_observers.specs.Marks.{looked_at}
use Rattle.dom_observers.specs.Taking.{Found, none_found, found_at}

-- the observers found, and those that asked for the old value (own rule)
abbrev pub found_of : InterestedObservers → Found
found_of t = record { observers = numbers_in t.observers; with_old = numbers_in t.with_old }

-- the record of a change that an observer gets (DOM Standard, concept: queue a mutation record)
abbrev pub record_of : InterestedObservers → Change ℕ → ℕ → Change ℕ
record_of t c k = if list_any (nat_eq k) (numbers_in t.with_old) then c else without_old c

-- What a walk upwards from the target of a change finds, and that this stands first among its inclusive ancestors, and once (own rule).
pub record HasFound (f : NamedTrees) (rs : List Registered) (w : Watched) (c : Change ℕ) (t : InterestedObservers) : Type 0 where
  pub found : found_of t ≡ fold (found_at rs w c) none_found (looked_at f w.above (target_of c))
  pub first : path_keys f (target_of c) ≡ target_of c ∷ drop 1 (path_keys f (target_of c))
  pub once : is_in nat_eq (target_of c) (drop 1 (path_keys f (target_of c))) ≡ false
