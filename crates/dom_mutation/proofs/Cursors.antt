-- An owner's tables written: what holds then, the world then, and that it is what a command of the model does.
use Rattle.dom_mutation.proofs.Cited.{◌≡◌, ℕ, zero, suc, inl, inr, Bool, true, false, List, [], ◌∷◌, ◌++◌, length, Option, Some, None, option_map, map, refl}
use Rattle.dom_mutation.proofs.Cited.{sym, ap, subst, ◌∙◌, is_some, slice_get, slice_set, option_map_or, cases_Bool, true≢false, cond-true, cond-false, map-set}
use Rattle.dom_mutation.proofs.Cited.{map-append, length-map, slice_get-map, same_Some, NodeName, Owner, Move, owner_eq, node_of, Trees, Command, Filter, own}
use Rattle.dom_mutation.proofs.Cited.{effect, Value, nothing, a_node, an_iterator, a_walker, reference, Iterator, Walker, iterator_next_node}
use Rattle.dom_mutation.proofs.Cited.{iterator_previous_node, moved_to, walker_move, Part, part_of, with_part, is_there, Effect, keeps, answers, node_or_null}
use Rattle.dom_mutation.proofs.Cited.{moves_iterator, sets_walker, new_iterator, new_walker, owner_eq-true, name_at, count_of, trees_of_owner, stays_own}
use Rattle.dom_mutation.proofs.Cited.{KeyedIterator, iterator_view, iterator_at, KeyedWalker, walker_view, walker_at, KeyedTables, no_keyed_tables, part_with}
use Rattle.dom_mutation.proofs.Cited.{AreTablesOf, AllTables, with_table, named_trees, shown_tables, contents, world_from, IsDoc, Makes, with-own, with-other}
use Rattle.dom_mutation.proofs.Cited.{ranges_of}
use Rattle.dom_mutation.proofs.Worlds.{part_at, part_off, there_same, changed}
use Rattle.dom_mutation.proofs.OwnNodes.{next_own, previous_own, move_own}
use Rattle.dom_mutation.proofs.DocInvariant.{held_with, single_owners, still_named}
use Rattle.dom_mutation.proofs.RangedKeeping.{ranges_stay}
use Rattle.dom_laws.proofs.Laws.{is_some-map}

-- an item that is written where it stands
same_item : {X : Type 0} (xs : List X) (k : ℕ) (x : X) → slice_get xs k ≡ Some x → slice_set xs k x ≡ xs
same_item [] k x e = refl
same_item (z ∷ xs) zero x e = ap (λ y. y ∷ xs) (sym (same_Some z x e))
same_item (z ∷ xs) (suc k) x e = ap (λ ys. z ∷ ys) (same_item xs k x e)

-- the part of an owner has its tables in names
module _ (names : List NodeName) (ts : Trees) (tables : AllTables) (held : IsDoc names ts tables) (o : Owner) where
  pub iterators_in : (part_of (world_from names ts tables) o).iterators ≡ map (iterator_view names) (tables.each o).iterators
  iterators_in = elim (cases_Bool (is_there (world_from names ts tables) o)) [
    | inl there ↦ ap (λ (p : Part). p.iterators) (part_at (contents names ts tables) o there)
    | inr off ↦ ap (λ (p : Part). p.iterators) (part_off (contents names ts tables) o off) ∙
        ap (λ (t : KeyedTables). map (iterator_view names) t.iterators) (sym (held.idle o off))
  ]

  pub walkers_in : (part_of (world_from names ts tables) o).walkers ≡ map (walker_view names) (tables.each o).walkers
  walkers_in = elim (cases_Bool (is_there (world_from names ts tables) o)) [
    | inl there ↦ ap (λ (p : Part). p.walkers) (part_at (contents names ts tables) o there)
    | inr off ↦ ap (λ (p : Part). p.walkers) (part_off (contents names ts tables) o off) ∙
        ap (λ (t : KeyedTables). map (walker_view names) t.walkers) (sym (held.idle o off))
  ]

  -- a number that an iterator has in one has one in the other
  pub has_iterator : (k : ℕ) → is_some (slice_get (part_of (world_from names ts tables) o).iterators k) ≡ is_some (slice_get (tables.each o).iterators k)
  has_iterator k =
      ap (λ is. is_some (slice_get is k)) iterators_in
      ∙ (ap is_some (slice_get-map (iterator_view names) (tables.each o).iterators k) ∙
      is_some-map (iterator_view names) (slice_get (tables.each o).iterators k))

  pub has_walker : (k : ℕ) → is_some (slice_get (part_of (world_from names ts tables) o).walkers k) ≡ is_some (slice_get (tables.each o).walkers k)
  has_walker k =
      ap (λ ws. is_some (slice_get ws k)) walkers_in
      ∙ (ap is_some (slice_get-map (walker_view names) (tables.each o).walkers k) ∙
      is_some-map (walker_view names) (slice_get (tables.each o).walkers k))

  -- and then the owner is there
  there_by : {X : Type 0} (read : KeyedTables → List X) → read no_keyed_tables ≡ [] → (k : ℕ) →
      is_some (slice_get (read (tables.each o)) k) ≡ true → is_there (world_from names ts tables) o ≡ true
  there_by read none k h = elim (cases_Bool (is_there (world_from names ts tables) o)) [
    | inl there ↦ there
    | inr off ↦ absurd (true≢false (sym h ∙ ap (λ xs. is_some (slice_get xs k)) (ap read (held.idle o off) ∙ none)))
  ]

  pub there_iterator : (k : ℕ) → is_some (slice_get (part_of (world_from names ts tables) o).iterators k) ≡ true →
      is_there (world_from names ts tables) o ≡ true
  there_iterator k h = there_by (λ t. t.iterators) refl k (sym (has_iterator k) ∙ h)

  pub there_walker : (k : ℕ) → is_some (slice_get (part_of (world_from names ts tables) o).walkers k) ≡ true → is_there (world_from names ts tables) o ≡ true
  there_walker k h = there_by (λ t. t.walkers) refl k (sym (has_walker k) ∙ h)

module _ (names : List NodeName) (ts : Trees) (tables : AllTables) (held : IsDoc names ts tables) (o : Owner)
    (there : is_there (world_from names ts tables) o ≡ true) where
  abbrev t : KeyedTables
  t = tables.each o

  -- the owner's part with other tables
  abbrev pub with_own : KeyedTables → Part
  with_own v = part_with o (trees_of_owner o ts) (count_of o names) (shown_tables names tables.slots.hosts o v (tables.observers o) (ranges_of tables.ranges o))

  pub part_was : part_of (world_from names ts tables) o ≡ with_own t
  part_was = part_at (contents names ts tables) o there

  -- what a command reads and does not change
  pub makes_read : (c : Command) (v : Value) → effect (with_own t) c ≡ Effect.tables (with_own t) [] v →
      Makes o c v (world_from names ts tables) (world_from names ts tables)
  makes_read c v is = (
    ap (λ p. effect p c) part_was ∙ is ∙ ap (λ p. Effect.tables p [] v) (sym part_was),
    changed (contents names ts tables) (contents names ts tables) o (single_owners names ts tables held)
        there (record { owners = refl; signalled = refl; tasks = refl; own = refl; others = λ q other. refl })
        ∙ ap (with_part (world_from names ts tables)) (sym (part_at (contents names ts tables) o there)),
  )

  module _ (u : KeyedTables) where
    -- what holds of the others
    pub held_set : AreTablesOf (named_trees names ts) o u → IsDoc names ts (with_table tables o u)
    held_set h =
        held_with names ts tables held o there names ts (with_table tables o u) refl record {
          owned = held.owned;
          apart = λ p other. refl;
          named = still_named held;
          own = λ p. elim (cases_Bool (owner_eq o p)) [
            | inl same ↦ subst (AreTablesOf (named_trees names ts) p) (sym (cond-true (owner_eq o p) u (tables.each p) same))
                (subst (λ q. AreTablesOf (named_trees names ts) q u) (owner_eq-true o p same) h)
            | inr other ↦ subst (AreTablesOf (named_trees names ts) p) (sym (cond-false (owner_eq o p) u (tables.each p) other)) (held.own p)
          ];
          idle = λ p off.
              with-other tables.each o u p (λ same. true≢false (sym there ∙ ap (is_there (world_from names ts tables)) (sym same) ∙ off)) ∙ held.idle p off;
          signals = record { slots = held.signals.slots; nodes = held.signals.nodes };
          speaks = held.speaks;
          unobserved = held.unobserved;
          due = held.due;
          ranges = ranges_stay (contents names ts (with_table tables o u)) held.ranges refl refl (λ p. refl);
        }

    there_set : is_there (world_from names ts (with_table tables o u)) o ≡ true
    there_set = there_same (contents names ts (with_table tables o u)) (contents names ts tables) refl o ∙ there

    part_now : part_of (world_from names ts (with_table tables o u)) o ≡ with_own u
    part_now = part_at (contents names ts (with_table tables o u)) o there_set ∙ ap with_own (with-own tables.each o u)

    -- what a command does that writes the tables
    pub makes_set : (c : Command) (v : Value) → effect (with_own t) c ≡ Effect.tables (with_own u) [] v →
        Makes o c v (world_from names ts tables) (world_from names ts (with_table tables o u))
    makes_set c v is = (
      ap (λ p. effect p c) part_was ∙ is ∙ ap (λ p. Effect.tables p [] v) (sym part_now),
      changed (contents names ts tables) (contents names ts (with_table tables o u)) o
          (single_owners names ts tables held) there record {
            owners = refl;
            signalled = refl;
            tasks = refl;
            own = sym (part_at (contents names ts (with_table tables o u)) o there_set);
            others = λ q other. ap (λ m. part_with q (trees_of_owner q ts) (count_of q names)
                (shown_tables names tables.slots.hosts q m (tables.observers q) (ranges_of tables.ranges q)))
                (with-other tables.each o u q other);
          },
    )

  -- ---- iterators

  -- the iterator of a number
  iterator_got : (k : ℕ) (i : KeyedIterator) → slice_get t.iterators k ≡ Some i →
      slice_get (map (iterator_view names) t.iterators) k ≡ Some (iterator_view names i)
  iterator_got k i e = slice_get-map (iterator_view names) t.iterators k ∙ ap (option_map (iterator_view names)) e

  iterator_moved : (i : KeyedIterator) (before : Bool) (r : Option ℕ) →
      moved_to (iterator_view names i) before (option_map (name_at names) r) ≡ iterator_view names (iterator_at i before r)
  iterator_moved i before None = refl
  iterator_moved i before (Some k) = refl

  -- the tables with an iterator moved
  abbrev pub with_iterator : ℕ → KeyedIterator → KeyedTables
  with_iterator k i = record t { iterators = slice_set t.iterators k i }

  with_iterators : List Iterator → Part
  with_iterators is = record (with_own t) { iterators = is }

  -- the effect of moving one
  abbrev pub moved_effect : ℕ → KeyedIterator → Bool → Option ℕ → Effect
  moved_effect k i before r = Effect.tables (with_own (with_iterator k (iterator_at i before r))) [] (node_or_null (option_map (name_at names) r))

  iterator_effect : (k : ℕ) (i : KeyedIterator) (before : Bool) (r : Option ℕ) (x : Option NodeName) → x ≡ option_map (name_at names) r
      → moves_iterator (with_own t) k before (iterator_view names i) x ≡ moved_effect k i before r
  unfolding with_iterators
  iterator_effect k i before r x is =
      ap (λ y. moves_iterator (with_own t) k before (iterator_view names i) y) is
      ∙ ap (λ j. keeps (with_iterators (slice_set (map (iterator_view names) t.iterators) k j)) (node_or_null (option_map (name_at names) r)))
      (iterator_moved i before r)
      ∙ ap (λ is. keeps (with_iterators is) (node_or_null (option_map (name_at names) r)))
      (sym (map-set (iterator_view names) t.iterators k (iterator_at i before r)))

  -- an iterator's nodes are the owner's
  reference_own : (k : ℕ) (i : KeyedIterator) → slice_get t.iterators k ≡ Some i → ((name_at names i.root).owner ≡ o) × ((name_at names i.reference).owner ≡ o)
  reference_own k i e =
      let h = (held.own o).iterators k i e in (
        h.own,
        sym ((stays_own ts held.owned (name_at names i.reference).owner (name_at names i.reference) refl).path (name_at names i.root)
            h.stands.reference.within) ∙ h.own,
      )

  -- it moves to what is found from it, in the owner's trees as in all
  module _ (before : Bool) (find : Trees → Iterator → Option NodeName)
      (same : (i : Iterator) → i.root.owner ≡ o → i.reference.owner ≡ o → find ts i ≡ find (trees_of_owner o ts) i) where
    found_effect : (k : ℕ) (i : KeyedIterator) (r : Option ℕ) → slice_get t.iterators k ≡ Some i → option_map (name_at names) r ≡ find ts
        (iterator_view names i)
        → option_map_or (λ j. moves_iterator (with_own t) k before j (find (trees_of_owner o ts) j)) (slice_get (with_own t).iterators k)
        (answers (with_own t) nothing) ≡ moved_effect k i before r
    found_effect k i r e value =
        let own = reference_own k i e in
        ap (λ m. option_map_or (λ j. moves_iterator (with_own t) k before j (find (trees_of_owner o ts) j)) m (answers (with_own t) nothing))
        (iterator_got k i e)
        ∙ iterator_effect k i before r (find (trees_of_owner o ts) (iterator_view names i)) (sym (same (iterator_view names i) own.0 own.1) ∙ sym value)

  pub next_effect : (k : ℕ) (i : KeyedIterator) (r : Option ℕ) → slice_get t.iterators k ≡ Some i →
      option_map (name_at names) r ≡ iterator_next_node ts (iterator_view names i) → effect (with_own t) (Command.iterator_next k) ≡ moved_effect k i false r
  next_effect = found_effect false iterator_next_node (next_own ts held.owned o)

  pub previous_effect : (k : ℕ) (i : KeyedIterator) (r : Option ℕ) → slice_get t.iterators k ≡ Some i →
      option_map (name_at names) r ≡ iterator_previous_node ts (iterator_view names i) → effect (with_own t) (Command.iterator_previous k) ≡ moved_effect k
      i true r
  previous_effect = found_effect true iterator_previous_node (previous_own ts held.owned o)

  pub at_effect : (k : ℕ) (i : KeyedIterator) → slice_get t.iterators k ≡ Some i →
      effect (with_own t) (Command.iterator_at k) ≡ Effect.tables (with_own t) [] (reference (name_at names i.reference) i.before)
  at_effect k i e = ap (λ m. option_map_or (λ (j : Iterator). answers (with_own t) (reference j.reference j.before)) m
      (answers (with_own t) nothing)) (iterator_got k i e)

  -- a new one
  pub iterator_effect_new : (root : ℕ) (f : Filter) → (name_at names root).owner ≡ o
      → effect (with_own t) (Command.iterator_new (own (name_at names root).number) f) ≡ Effect.tables
      (with_own (record t { iterators = t.iterators ++ record { root = root; reference = root; before = true; filter = f } ∷ [] })) []
      (an_iterator (length t.iterators))
  unfolding with_iterators
  iterator_effect_new root f is =
      ap (λ q. keeps (with_iterators (map (iterator_view names) t.iterators ++ new_iterator (node_of q (name_at names root).number) f ∷ []))
      (an_iterator (length (map (iterator_view names) t.iterators)))) (sym is)
      ∙ ap (λ is. keeps (with_iterators is) (an_iterator (length (map (iterator_view names) t.iterators))))
      (sym (map-append (iterator_view names) t.iterators (record { root = root; reference = root; before = true; filter = f } ∷ [])))
      ∙ ap (λ n. keeps (with_iterators (map (iterator_view names)
      (t.iterators ++ record { root = root; reference = root; before = true; filter = f } ∷ []))) (an_iterator n))
      (length-map t.iterators (iterator_view names))

  -- ---- walkers

  walker_got : (k : ℕ) (w : KeyedWalker) → slice_get t.walkers k ≡ Some w → slice_get (map (walker_view names) t.walkers) k ≡ Some (walker_view names w)
  walker_got k w e = slice_get-map (walker_view names) t.walkers k ∙ ap (option_map (walker_view names)) e

  -- the tables with a walker moved
  abbrev pub with_walker : ℕ → KeyedWalker → KeyedTables
  with_walker k w = record t { walkers = slice_set t.walkers k w }

  with_walkers : List Walker → Part
  with_walkers ws = record (with_own t) { walkers = ws }

  walker_set_effect : (k : ℕ) (w v : KeyedWalker) (x : NodeName) (value : Value) → record (walker_view names w) { current = x } ≡ walker_view names v
      → sets_walker (with_own t) k (walker_view names w) (Some x) value ≡ Effect.tables (with_own (with_walker k v)) [] value
  unfolding with_walkers
  walker_set_effect k w v x value is =
      ap (λ j. keeps (with_walkers (slice_set (map (walker_view names) t.walkers) k j)) value) is
      ∙ ap (λ ws. keeps (with_walkers ws) value) (sym (map-set (walker_view names) t.walkers k v))

  walker_effect : (k : ℕ) (w : KeyedWalker) (r : Option ℕ) (value : Value) → slice_get t.walkers k ≡ Some w
      → sets_walker (with_own t) k (walker_view names w) (option_map (name_at names) r) value ≡ Effect.tables
      (with_own (with_walker k (walker_at w r))) [] value
  unfolding with_walkers
  walker_effect k w None value e = ap (λ ws. keeps (with_walkers (map (walker_view names) ws)) value) (sym (same_item t.walkers k w e))
  walker_effect k w (Some j) value e = walker_set_effect k w (walker_at w (Some j)) (name_at names j) value refl

  pub walk_effect : (k : ℕ) (w : KeyedWalker) (m : Move) (r : Option ℕ) → slice_get t.walkers k ≡ Some w →
      option_map (name_at names) r ≡ walker_move ts (walker_view names w) m
      → effect (with_own t) (Command.walk k m) ≡ Effect.tables (with_own (with_walker k (walker_at w r))) [] (node_or_null (option_map (name_at names) r))
  walk_effect k w m r e value =
      let h = (held.own o).walkers k w e in
      ap (λ n. option_map_or (λ j. sets_walker (with_own t) k j (walker_move (trees_of_owner o ts) j m)
      (node_or_null (walker_move (trees_of_owner o ts) j m))) n (answers (with_own t) nothing)) (walker_got k w e)
      ∙ ap (λ x. sets_walker (with_own t) k (walker_view names w) x (node_or_null x))
      (sym (move_own ts held.owned o (walker_view names w) h.own h.own_current m) ∙ sym value)
      ∙ walker_effect k w r (node_or_null (option_map (name_at names) r)) e

  pub walk_at_effect : (k : ℕ) (w : KeyedWalker) → slice_get t.walkers k ≡ Some w →
      effect (with_own t) (Command.walker_at k) ≡ Effect.tables (with_own t) [] (a_node (name_at names w.current))
  walk_at_effect k w e = ap (λ m. option_map_or (λ (j : Walker). answers (with_own t) (a_node j.current)) m (answers (with_own t) nothing)) (walker_got k w e)

  pub walk_set_effect : (k : ℕ) (w : KeyedWalker) (current : ℕ) → slice_get t.walkers k ≡ Some w → (name_at names current).owner ≡ o
      → effect (with_own t) (Command.walker_set k (own (name_at names current).number)) ≡ Effect.tables
      (with_own (with_walker k (record w { current = current }))) [] nothing
  walk_set_effect k w current e is =
      ap (λ m. option_map_or (λ j. sets_walker (with_own t) k j (Some (node_of o (name_at names current).number)) nothing) m
      (answers (with_own t) nothing)) (walker_got k w e)
      ∙ ap (λ q. sets_walker (with_own t) k (walker_view names w) (Some (node_of q (name_at names current).number)) nothing) (sym is)
      ∙ walker_set_effect k w (record w { current = current }) (name_at names current) nothing refl

  pub walker_effect_new : (root : ℕ) (f : Filter) → (name_at names root).owner ≡ o
      → effect (with_own t) (Command.walker_new (own (name_at names root).number) f) ≡ Effect.tables
      (with_own (record t { walkers = t.walkers ++ record { root = root; current = root; filter = f } ∷ [] })) [] (a_walker (length t.walkers))
  unfolding with_walkers
  walker_effect_new root f is =
      ap (λ q. keeps (with_walkers (map (walker_view names) t.walkers ++ new_walker (node_of q (name_at names root).number) f ∷ []))
      (a_walker (length (map (walker_view names) t.walkers)))) (sym is)
      ∙ ap (λ ws. keeps (with_walkers ws) (a_walker (length (map (walker_view names) t.walkers))))
      (sym (map-append (walker_view names) t.walkers (record { root = root; current = root; filter = f } ∷ [])))
      ∙ ap (λ n. keeps (with_walkers (map (walker_view names) (t.walkers ++ record { root = root; current = root; filter = f } ∷ [])))
      (a_walker n)) (length-map t.walkers (walker_view names))
