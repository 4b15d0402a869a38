-- What the walks over registrations gather: the observers that take a record, in order, and those of them that get the old
-- value; and the transient copies for a removed node.
use Rattle.std.specs.Prelude.{ℕ, Bool, nat_eq, List, [], ◌∷◌, ◌++◌, fold, filter_map, if◌then◌else◌}
use Rattle.dom_model.specs.Names.{append_once}
use Rattle.dom_model.specs.Output.{Change}
use Rattle.dom_model.specs.Observers.{Registration, fits, asks_for_old, copied_source}
use Rattle.dom_observers.specs.declared.registered.Registered.{Registered}
use Rattle.dom_observers.specs.declared.watched.Watched.{Watched}
use Rattle.dom_observers.specs.Views.{there_in}
use Rattle.dom_observers.specs.Watching.{places_at}

-- the observers found so far, and those that asked for the old value (own rule)
pub record Found : Type 0 where
  pub observers : List ℕ
  pub with_old : List ℕ

-- none found
abbrev pub none_found : Found
none_found = record { observers = []; with_old = [] }

-- an observer more, each once
abbrev pub and_found : Found → ℕ → Bool → Found
and_found f k old = record { observers = append_once nat_eq f.observers k; with_old = if old then append_once nat_eq f.with_old k else f.with_old }

-- what a registration on an inclusive ancestor of the target adds, where it fits the change
abbrev pub found_by : Change ℕ → Found → Registration ℕ → Found
found_by c f r = if fits nat_eq c r then and_found f r.observer (asks_for_old r.options c) else f

-- the registrations in some places of a list that have not gone
abbrev pub picked : List Registered → List ℕ → List (Registration ℕ)
picked rs places = filter_map (there_in rs) places

-- what those on a node add
abbrev pub found_at : List Registered → Watched → Change ℕ → Found → ℕ → Found
found_at rs w c f x = fold (found_by c) f (picked rs (places_at w x))

-- a transient copy of a registration, for a removed node (DOM Standard, concept: remove)
abbrev pub transient_copy : ℕ → Registration ℕ → Registration ℕ
transient_copy node r = record { node = node; observer = r.observer; options = r.options; source = copied_source nat_eq r }

-- the copy of a registration behind others, where it observes the subtree
abbrev pub copied_by : ℕ → List (Registration ℕ) → Registration ℕ → List (Registration ℕ)
copied_by node copies r = if r.options.subtree then copies ++ transient_copy node r ∷ [] else copies

-- the copies of those on x behind others
abbrev pub copied_at : ℕ → List Registered → Watched → List (Registration ℕ) → ℕ → List (Registration ℕ)
copied_at node rs w copies x = fold (copied_by node) copies (picked rs (places_at w x))
