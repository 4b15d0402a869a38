-- The record of a change, and what a `Doc` holds after it.
use Rattle.dom_mutation.proofs.Cited.{◌≡◌, ℕ, ◌<◌, Bool, true, false, List, length, map, Result, Ok, Err, refl, sym, ap, subst, ◌∙◌, nat_eq, if◌then◌else◌}
use Rattle.dom_mutation.proofs.Cited.{OnOk, OnErr, AllByRecursion, NodeName, Owner, name_eq, owner_eq, inclusive_ancestors, Change, child_list, attributes}
use Rattle.dom_mutation.proofs.Cited.{character_data, target_of, part_step, queue_record, is_taken, Task, is_there, queued_notify, world_step, NamedTrees}
use Rattle.dom_mutation.proofs.Cited.{name_at, trees_of_owner, TellApart, read_own, StandOnce, StandAlone, TablesOf, path_keys, named_tables, named_change}
use Rattle.dom_mutation.proofs.Cited.{IsKey, IsChangeAt, taken_law, told_law, path_keys-named, speaks_told, part_in, AllTables, with_observers, with_queue}
use Rattle.dom_mutation.proofs.Cited.{DocState, contents, world_from, state_from, IsDoc, IsDue, name_in, owner_in, stepped}
use Rattle.dom_observers.specs.Definitions.{is_taken as keyed_taken, told as keyed_told}
use Rattle.dom_mutation.proofs.Worlds.{there_same}
use Rattle.dom_mutation.proofs.HostedSteps.{record_hosted}
use Rattle.dom_mutation.proofs.DocInvariant.{are_hosts, held_tasks}
use Rattle.dom_mutation.proofs.Tasks.{due_notified}
use Rattle.dom_mutation.proofs.Shown.{state_with}
use Rattle.dom_mutation.proofs.Observed.{with_seen, held_seen, change_seen}

-- the target of a change in names
target_named : (g : ℕ → NodeName) (c : Change ℕ) → target_of (named_change g c) ≡ g (target_of c)
target_named g (attributes x a old) = refl
target_named g c = refl

-- a change's target is one of its nodes
target_at : (P : ℕ → Type 0) (c : Change ℕ) → IsChangeAt P c → P (target_of c)
target_at P (child_list x added removed before after) h = h.0
target_at P (attributes x a old) h = h
target_at P (character_data x old) h = h

module _ (f : NamedTrees) {tables : AllTables} (held : IsDoc f.names f.trees tables) (once : StandOnce f) (only : StandAlone f)
    (apart : TellApart f.names) (c : Change ℕ) (speaks : IsChangeAt (IsKey f.names) c) where
  at_target : target_of c < length f.names
  at_target = target_at (IsKey f.names) c speaks

  pub record_there : is_there (world_from f.names f.trees tables) (name_at f.names (target_of c)).owner ≡ true
  record_there = held.present (target_of c) at_target

  -- the path in names, as the owner's part has it
  path_named : map (name_at f.names) (path_keys f (target_of c)) ≡ inclusive_ancestors
      (trees_of_owner (name_at f.names (target_of c)).owner f.trees) (target_of (named_change (name_at f.names) c))
  path_named =
      (path_keys-named f once only (target_of c) at_target).0 ∙
      (read_own f.trees held.owned (name_at f.names (target_of c)).owner (name_at f.names (target_of c)) refl).path
      ∙ ap (inclusive_ancestors (trees_of_owner (name_at f.names (target_of c)).owner f.trees)) (sym (target_named (name_at f.names) c))

  pub taken_named : keyed_taken nat_eq (path_keys f (target_of c)) (tables.observers (name_at f.names (target_of c)).owner) c ≡ is_taken
      (part_in (contents f.names f.trees tables) (name_at f.names (target_of c)).owner) (named_change (name_at f.names) c)
  taken_named =
      taken_law f.names apart (tables.observers (name_at f.names (target_of c)).owner) (path_keys f (target_of c)) c
      (held.speaks (name_at f.names (target_of c)).owner).registrations (path_keys-named f once only (target_of c) at_target).1 at_target
      ∙ ap (λ xs. keyed_taken name_eq xs (named_tables (name_at f.names) (tables.observers (name_at f.names (target_of c)).owner))
      (named_change (name_at f.names) c)) path_named

  told_named : named_tables (name_at f.names) (keyed_told nat_eq (path_keys f (target_of c)) c (tables.observers (name_at f.names (target_of c)).owner))
      ≡ keyed_told name_eq (inclusive_ancestors (trees_of_owner (name_at f.names (target_of c)).owner f.trees)
      (target_of (named_change (name_at f.names) c))) (named_change (name_at f.names) c)
      (named_tables (name_at f.names) (tables.observers (name_at f.names (target_of c)).owner))
  told_named =
      told_law f.names apart (tables.observers (name_at f.names (target_of c)).owner) (path_keys f (target_of c)) c
      (held.speaks (name_at f.names (target_of c)).owner).registrations (path_keys-named f once only (target_of c) at_target).1 at_target
      ∙ ap (λ xs. keyed_told name_eq xs (named_change (name_at f.names) c)
      (named_tables (name_at f.names) (tables.observers (name_at f.names (target_of c)).owner))) path_named

  module _ (seen : Owner → TablesOf ℕ)
      (is : (q : Owner) → seen q ≡ (if owner_eq (name_at f.names (target_of c)).owner q then keyed_told nat_eq (path_keys f (target_of c)) c
      (tables.observers (name_at f.names (target_of c)).owner) else tables.observers q)) where
    then_told : TablesOf ℕ
    then_told = keyed_told nat_eq (path_keys f (target_of c)) c (tables.observers (name_at f.names (target_of c)).owner)

    -- what holds after it, with the notification queued or not
    pub record_held : (tasks : List Task) (t : Bool) →
        tasks ≡ (if t then queued_notify (name_at f.names (target_of c)).owner tables.tasks else tables.tasks) →
        IsDoc f.names f.trees (with_queue (with_observers tables seen) tasks)
    unfolding then_told
    record_held tasks t same =
        held_tasks f.names f.trees (with_observers tables seen) h tasks
        (subst (AllByRecursion (IsDue (world_from f.names f.trees (with_observers tables seen)))) (sym same) (by t))
      where
        h : IsDoc f.names f.trees (with_observers tables seen)
        h = held_seen f.names f.trees tables held (name_at f.names (target_of c)).owner record_there then_told seen is
            (speaks_told (IsKey f.names) nat_eq (path_keys f (target_of c)) c (tables.observers (name_at f.names (target_of c)).owner)
            (held.speaks (name_at f.names (target_of c)).owner) speaks)

        by : (t : Bool) → AllByRecursion (IsDue (world_from f.names f.trees (with_observers tables seen)))
            (if t then queued_notify (name_at f.names (target_of c)).owner tables.tasks else tables.tasks)
        by true = due_notified (world_from f.names f.trees (with_observers tables seen)) (name_at f.names (target_of c)).owner
            (there_same (contents f.names f.trees (with_observers tables seen)) (contents f.names f.trees tables) refl
            (name_at f.names (target_of c)).owner ∙ record_there) tables.tasks h.due
        by false = h.due

    -- and the world then
    pub record_world : (tasks : List Task) (t : Bool) →
        t ≡ keyed_taken nat_eq (path_keys f (target_of c)) (tables.observers (name_at f.names (target_of c)).owner) c
        → tasks ≡ (if t then queued_notify (name_at f.names (target_of c)).owner tables.tasks else tables.tasks)
        → world_from f.names f.trees (with_queue (with_observers tables seen) tasks) ≡ world_step (name_at f.names (target_of c)).owner
        (world_from f.names f.trees tables) (queue_record (named_change (name_at f.names) c))
    unfolding then_told
    record_world tasks t taken same =
        ap (λ ts. world_from f.names f.trees (with_queue (with_observers tables seen) ts)) same
        ∙ ap (λ b. world_from f.names f.trees
        (with_queue (with_observers tables seen)
        (if b then queued_notify (name_at f.names (target_of c)).owner tables.tasks else tables.tasks))) (taken ∙ taken_named)
        ∙ record_hosted (contents f.names f.trees tables) tables.slots.hosts (are_hosts f.names f.trees tables held)
        (name_at f.names (target_of c)).owner record_there (contents f.names f.trees (with_observers tables seen))
        (named_change (name_at f.names) c)
        (change_seen f.names f.trees tables held (name_at f.names (target_of c)).owner record_there then_told seen is
        (part_step (part_in (contents f.names f.trees tables) (name_at f.names (target_of c)).owner)
        (queue_record (named_change (name_at f.names) c)))
        (ap (with_seen f.names f.trees tables held (name_at f.names (target_of c)).owner) told_named))

    module _ {d : DocState} (is_d : state_from f.names f.trees tables ≡ d) (tasks : List Task) (owner : Owner)
        (is_owner : owner ≡ (name_at f.names (target_of c)).owner) where
      -- the state then
      pub record_state : (t : Bool) → t ≡ keyed_taken nat_eq (path_keys f (target_of c)) (tables.observers (name_at f.names (target_of c)).owner)
          c → tasks ≡ (if t then queued_notify (name_at f.names (target_of c)).owner tables.tasks else tables.tasks)
          → state_from f.names f.trees (with_queue (with_observers tables seen) tasks) ≡ stepped (owner_in d (target_of c))
          (queue_record (named_change (name_in d) c)) d
      record_state t taken same =
          subst (λ (e : DocState). state_from f.names f.trees (with_queue (with_observers tables seen) tasks) ≡ stepped (owner_in e (target_of c))
          (queue_record (named_change (name_in e) c)) e) is_d
          (ap (state_with f.names) (record_world tasks t taken same))

      -- where the notification is to be queued, which may fail
      pub notify_held : {T E : Type 0} (r : Result T E) → OnOk r (tasks ≡ queued_notify owner tables.tasks) → OnErr r (tasks ≡ tables.tasks) →
          IsDoc f.names f.trees (with_queue (with_observers tables seen) tasks)
      notify_held (Ok x) is same = record_held tasks true (is ∙ ap (λ o. queued_notify o tables.tasks) is_owner)
      notify_held (Err e) is same = record_held tasks false same

      pub notify_state : {T E : Type 0} (r : Result T E) → OnOk r (tasks ≡ queued_notify owner tables.tasks) →
          true ≡ keyed_taken nat_eq (path_keys f (target_of c)) (tables.observers (name_at f.names (target_of c)).owner) c
          → OnOk r (state_from f.names f.trees (with_queue (with_observers tables seen) tasks) ≡ stepped (owner_in d (target_of c))
          (queue_record (named_change (name_in d) c)) d)
      notify_state (Ok x) is taken = record_state true taken (is ∙ ap (λ o. queued_notify o tables.tasks) is_owner)
      notify_state (Err e) is taken = tt
