-- What an owner has of observers, of nodes named by any type, and what each call does to it. These are the rules of the
-- model's part, with its other fields left away.
use Rattle.std.specs.Prelude.{ℕ, Bool, not, nat_eq, List, [], ◌∷◌, ◌++◌, map, fold, slice_get, slice_set, unwrap_or}
use Rattle.dom_model.specs.Names.{append_once, is_empty}
use Rattle.dom_model.specs.Command.{ObserveWords}
use Rattle.dom_model.specs.Output.{Change}
use Rattle.dom_model.specs.Observers.{Registration, options_of, interested, record_for, transients_for, with_registration, without_observer, without_transients}

-- an owner's registrations in the order of their making, each observer's record queue by its number, and the observers
-- that wait for a notification, in the order in which they became pending (DOM Standard, 4.3 Mutation observers)
pub record TablesOf (N : Type 0) : Type 0 where
  pub registrations : List (Registration N)
  pub record_queues : List (List (Change N))
  pub pending : List ℕ

-- an owner that has nothing
abbrev pub no_tables : {N : Type 0} → TablesOf N
no_tables = record { registrations = []; record_queues = []; pending = [] }

-- the record queue of an observer (DOM Standard, record queue)
abbrev pub queue_at : {N : Type 0} → List (List (Change N)) → ℕ → List (Change N)
queue_at queues k = unwrap_or (slice_get queues k) []

-- one observer more, with an empty queue (DOM Standard, constructor of MutationObserver)
abbrev pub with_observer : {N : Type 0} → TablesOf N → TablesOf N
with_observer t = record t { record_queues = t.record_queues ++ [] ∷ [] }

-- an observer's queue emptied (DOM Standard, takeRecords())
abbrev pub emptied : {N : Type 0} → ℕ → TablesOf N → TablesOf N
emptied k t = record t { record_queues = slice_set t.record_queues k [] }

-- an observer's registrations gone, transient ones too, and its queue emptied (DOM Standard, disconnect())
abbrev pub disconnected : {N : Type 0} → ℕ → TablesOf N → TablesOf N
disconnected k t = record t { registrations = without_observer k t.registrations; record_queues = slice_set t.record_queues k [] }

-- the pending observers with their records, in order (DOM Standard, concept: notify mutation observers)
abbrev pub notices : {N : Type 0} → TablesOf N → List (ℕ × List (Change N))
notices t = map (λ k. (k, queue_at t.record_queues k)) t.pending

-- the pending observers' queues emptied, their transient registrations gone, and none pending (DOM Standard, concept:
-- notify mutation observers)
abbrev pub notified : {N : Type 0} → TablesOf N → TablesOf N
notified t =
    record {
      registrations = without_transients t.pending t.registrations;
      record_queues = fold (λ queues k. slice_set queues k []) t.record_queues t.pending;
      pending = [];
    }

-- none pending (DOM Standard, concept: notify mutation observers)
abbrev pub none_pending : {N : Type 0} → TablesOf N → TablesOf N
none_pending t = record t { pending = [] }

-- an observer's queue emptied, and its transient registrations gone (DOM Standard, concept: notify mutation observers)
abbrev pub after_telling : {N : Type 0} → ℕ → TablesOf N → TablesOf N
after_telling k t = record t { registrations = without_transients (k ∷ []) t.registrations; record_queues = slice_set t.record_queues k [] }

-- an observer's queue with a record more (DOM Standard, concept: queue a mutation record)
abbrev pub appended : {N : Type 0} → Change N → TablesOf N → ℕ → TablesOf N
appended c t k = record t { record_queues = slice_set t.record_queues k (queue_at t.record_queues k ++ c ∷ []) }

-- the observer pending, too (DOM Standard, concept: queue a mutation record)
abbrev pub given : {N : Type 0} → Change N → TablesOf N → ℕ → TablesOf N
given c t k = record (appended c t k) { pending = append_once nat_eq t.pending k }

-- Words in which nodes are compared.
module _ {N : Type 0} (same : N → N → Bool) where
  -- an observer observes a node (DOM Standard, observe())
  abbrev pub observing : ℕ → N → ObserveWords → TablesOf N → TablesOf N
  observing k x w t = record t { registrations = with_registration same k x (options_of w) t.registrations }

  -- whether an observer takes the record of a change of a node with these inclusive ancestors (own rule)
  abbrev pub is_taken : List N → TablesOf N → Change N → Bool
  is_taken path t c = not (is_empty (interested same path t.registrations c))

  -- the interested observers' queues with the record, and these observers pending (DOM Standard, concept: queue a mutation
  -- record)
  abbrev pub told : List N → Change N → TablesOf N → TablesOf N
  told path c t =
      let add : List (List (Change N)) → ℕ → List (List (Change N)) =
      λ queues k. slice_set queues k (queue_at queues k ++ record_for same path t.registrations c k ∷ []) in
      record t {
        record_queues = fold add t.record_queues (interested same path t.registrations c);
        pending = fold (append_once nat_eq) t.pending (interested same path t.registrations c);
      }

  -- a removed node x with its transient registrations, of a parent with these inclusive ancestors (DOM Standard, concept:
  -- remove)
  abbrev pub left : N → List N → TablesOf N → TablesOf N
  left x path t = record t { registrations = t.registrations ++ transients_for same x path t.registrations }
