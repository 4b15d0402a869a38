-- One owner's observers change: what holds of all owners' then, and the world then.
use Rattle.dom_mutation.proofs.Cited.{◌≡◌, ◌≢◌, ℕ, inl, inr, true, false, true≢false, List, map, refl, sym, ap, subst, ◌∙◌, is_some, slice_get, if◌then◌else◌}
use Rattle.dom_mutation.proofs.Cited.{cases_Bool, cond-true, cond-false, slice_get-map, NodeName, Owner, owner_eq, Trees, Command, effect, Value, Said, Part}
use Rattle.dom_mutation.proofs.Cited.{part_of, with_part, is_there, Effect, owner_eq-same, owner_eq-true, ne-owner_eq, name_at, count_of, trees_of_owner}
use Rattle.dom_mutation.proofs.Cited.{iterator_view, walker_view, TablesOf, named_tables, named_change, IsKey, SpeaksOf, named_ranges, ranges_of, part_with}
use Rattle.dom_mutation.proofs.Cited.{tables_with, AllTables, with_observers, shown_tables, contents, world_from, IsDoc, MakesSaying, attached_of}
use Rattle.dom_observers.specs.Definitions.{no_tables as no_observers}
use Rattle.dom_mutation.proofs.Worlds.{IsChangeOf, there_same, part_at, part_off, changed}
use Rattle.dom_mutation.proofs.DocInvariant.{held_observers, single_owners}
use Rattle.dom_laws.proofs.Laws.{is_some-map}

module _ (names : List NodeName) (ts : Trees) (tables : AllTables) (held : IsDoc names ts tables) (o : Owner) where
  -- the owner's part with these
  abbrev pub with_seen : TablesOf NodeName → Part
  with_seen r = part_with o (trees_of_owner o ts) (count_of o names)
      (record (tables_with (map (iterator_view names) (tables.each o).iterators) (map (walker_view names) (tables.each o).walkers) r)
      { attached = attached_of names tables.slots.hosts o; ranges = named_ranges names (ranges_of tables.ranges o) })

  -- its observers in names, whether it is there or not
  pub queues_in : (part_of (world_from names ts tables) o).record_queues ≡ (named_tables (name_at names) (tables.observers o)).record_queues
  queues_in = elim (cases_Bool (is_there (world_from names ts tables) o)) [
    | inl there ↦ ap (λ (p : Part). p.record_queues) (part_at (contents names ts tables) o there)
    | inr off ↦ ap (λ (p : Part). p.record_queues) (part_off (contents names ts tables) o off) ∙
        ap (λ r. (named_tables (name_at names) r).record_queues) (sym (held.unobserved o off))
  ]

  pub has_observer : (k : ℕ) → is_some (slice_get (part_of (world_from names ts tables) o).record_queues k) ≡ is_some
      (slice_get (tables.observers o).record_queues k)
  has_observer k =
      ap (λ qs. is_some (slice_get qs k)) queues_in
      ∙ ap is_some (slice_get-map (map (named_change (name_at names))) (tables.observers o).record_queues k)
      ∙ is_some-map (map (named_change (name_at names))) (slice_get (tables.observers o).record_queues k)

  -- whoever has an observer is there
  pub there_observer : (k : ℕ) → is_some (slice_get (tables.observers o).record_queues k) ≡ true → is_there (world_from names ts tables) o ≡ true
  there_observer k h = elim (cases_Bool (is_there (world_from names ts tables) o)) [
    | inl there ↦ there
    | inr off ↦ absurd (true≢false (sym h ∙ ap (λ (r : TablesOf ℕ). is_some (slice_get r.record_queues k)) (held.unobserved o off)))
  ]

  module _ (there : is_there (world_from names ts tables) o ≡ true) where
    pub part_seen : part_of (world_from names ts tables) o ≡ with_seen (named_tables (name_at names) (tables.observers o))
    part_seen = part_at (contents names ts tables) o there

    module _ (r : TablesOf ℕ) (seen : Owner → TablesOf ℕ) (is : (q : Owner) → seen q ≡ (if owner_eq o q then r else tables.observers q)) where
      pub seen_own : seen o ≡ r
      seen_own = is o ∙ cond-true (owner_eq o o) r (tables.observers o) (owner_eq-same o)

      pub seen_other : (q : Owner) → q ≢ o → seen q ≡ tables.observers q
      seen_other q other = is q ∙ cond-false (owner_eq o q) r (tables.observers q) (ne-owner_eq o q (λ e. other (sym e)))

      pub seen_speaks : SpeaksOf (IsKey names) r → (q : Owner) → SpeaksOf (IsKey names) (seen q)
      seen_speaks h q = elim (cases_Bool (owner_eq o q)) [
        | inl e ↦ subst (SpeaksOf (IsKey names)) (sym (is q ∙ cond-true (owner_eq o q) r (tables.observers q) e)) h
        | inr e ↦ subst (SpeaksOf (IsKey names)) (sym (is q ∙ cond-false (owner_eq o q) r (tables.observers q) e)) (held.speaks q)
      ]

      pub seen_off : (q : Owner) → is_there (world_from names ts tables) q ≡ false → seen q ≡ no_observers
      seen_off q off = elim (cases_Bool (owner_eq o q)) [
        | inl e ↦ absurd (true≢false (sym there ∙ ap (is_there (world_from names ts tables)) (owner_eq-true o q e) ∙ off))
        | inr e ↦ is q ∙ cond-false (owner_eq o q) r (tables.observers q) e ∙ held.unobserved q off
      ]

      -- what holds then
      pub held_seen : SpeaksOf (IsKey names) r → IsDoc names ts (with_observers tables seen)
      held_seen h = held_observers names ts tables held seen (seen_speaks h) seen_off

      -- the change of the owner's part
      pub change_seen : (p : Part) → with_seen (named_tables (name_at names) r) ≡ p →
          IsChangeOf (contents names ts tables) (contents names ts (with_observers tables seen)) o p
      change_seen p same = record {
        owners = refl;
        signalled = refl;
        tasks = refl;
        own = ap (λ t. with_seen (named_tables (name_at names) t)) seen_own ∙ same;
        others = λ q other. ap (λ t. part_with q (trees_of_owner q ts) (count_of q names)
            (shown_tables names tables.slots.hosts q (tables.each q) t (ranges_of tables.ranges q))) (seen_other q other);
      }

      -- the world then
      pub seen_world : (p : Part) → with_seen (named_tables (name_at names) r) ≡ p →
          world_from names ts (with_observers tables seen) ≡ with_part (world_from names ts tables) p
      seen_world p same = changed (contents names ts tables) (contents names ts (with_observers tables seen)) o
          (single_owners names ts tables held) there (change_seen p same)

      part_then : part_of (world_from names ts (with_observers tables seen)) o ≡ with_seen (named_tables (name_at names) r)
      part_then = part_at (contents names ts (with_observers tables seen)) o
          (there_same (contents names ts (with_observers tables seen)) (contents names ts tables) refl o ∙ there) ∙
          ap (λ t. with_seen (named_tables (name_at names) t)) seen_own

      -- what a command did that changes them alone
      pub makes_seen : (c : Command) (lines : List Said) (v : Value) →
          effect (with_seen (named_tables (name_at names) (tables.observers o))) c ≡ Effect.tables (with_seen (named_tables (name_at names) r))
          lines v
          → MakesSaying o c lines v (world_from names ts tables) (world_from names ts (with_observers tables seen))
      makes_seen c lines v does = (
        ap (λ p. effect p c) part_seen ∙ does ∙ ap (λ p. Effect.tables p lines v) (sym part_then),
        seen_world (part_of (world_from names ts (with_observers tables seen)) o) (sym part_then),
      )
