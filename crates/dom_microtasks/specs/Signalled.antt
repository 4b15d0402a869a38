-- What a contract sees of the signalled slots: those of the log that were not taken since.
use Rattle.std.specs.Prelude.{◌≡◌, ℕ, suc, ◌≤◌, nat_le, List, [], ◌∷◌, map, filter, length, if◌then◌else◌}
use Rattle.dom_base.specs.declared.Owner.{Owner}
use Rattle.dom_base.specs.declared.NodeName.{NodeName}
use Rattle.dom_model.specs.Names.{node_of}
use Rattle.dom_model.specs.Turns.{is_owned_by}
use Rattle.dom_microtasks.specs.ByOwner.{since_of, numbers_of}
use Rattle.dom_microtasks.specs.declared.signals.Signals.TheInside.{Inside}

-- the slots of a log, from a place on, that count: those of an owner count from a place on (own rule)
abbrev pub counting : (Owner → ℕ) → ℕ → List NodeName → List NodeName
counting since i [] = []
counting since i (x ∷ xs) = if nat_le (since x.owner) i then x ∷ counting since (suc i) xs else counting since (suc i) xs

-- the slots that count (DOM Standard, signal a slot change)
abbrev pub signals_of : Inside → List NodeName
signals_of s = counting (since_of s.own) 0 s.log.items

-- an owner's slots are those of it that count, owners' slots were taken at places of the log, and it is known how many count
-- (own rule)
pub record IsKept (s : Inside) : Type 0 where
  pub own : (o : Owner) → map (node_of o) (numbers_of s.own o) ≡ filter (is_owned_by o) (signals_of s)
  pub since : (o : Owner) → since_of s.own o ≤ length s.log.items
  pub counted : s.count ≡ length (signals_of s)
