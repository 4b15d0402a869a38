-- What the elementary steps do to what a `Doc` holds: the world after each.
use Rattle.dom_mutation.proofs.Cited.{◌≡◌, ℕ, ◌<◌, inl, inr, Bool, true, false, true≢false, List, [], ◌++◌, length, Some, map, refl, sym, ap, subst, ◌∙◌}
use Rattle.dom_mutation.proofs.Cited.{nat_eq, if◌then◌else◌, cases_Bool, cond-true, cond-false, NodeName, Owner, name_eq, owner_eq, Trees, inclusive_ancestors}
use Rattle.dom_mutation.proofs.Cited.{parent_of, taken_out, Iterator, Walker, adjusted_iterator, transients_for, Part, Change, Step, queue_record, part_step}
use Rattle.dom_mutation.proofs.Cited.{is_taken, is_there, queued_notify, world_step, owner_eq-true, owner_eq-false, NamedTrees, name_at, count_of}
use Rattle.dom_mutation.proofs.Cited.{trees_of_owner, IsOwnChange, TellApart, taken, read_own, stays_own, StandOnce, StandAlone, TablesOf, path_keys}
use Rattle.dom_mutation.proofs.Cited.{named_tables, named_registration, IsKey, SpeaksOf, left_law, path_keys-named, speaks_left, iterator_view, with_taken_out}
use Rattle.dom_mutation.proofs.Cited.{walker_view, KeyedTables, AreLeft, no_keyed_tables, with_cursors, named_ranges, ranges_of, Contents, part_with, part_in}
use Rattle.dom_mutation.proofs.Cited.{world_of, tables_with, AreTablesOf, AllTables, with_table, with_observers, named_trees, shown_tables, contents}
use Rattle.dom_mutation.proofs.Cited.{world_from, IsDoc, attached_of, with-own, with-other}
use Rattle.dom_observers.specs.Definitions.{no_tables as no_observers, left as keyed_left}
use Rattle.dom_mutation.proofs.Worlds.{IsChangeOf}
use Rattle.dom_mutation.proofs.Quiet.{untaken, untold_part}
use Rattle.dom_mutation.proofs.HostedSteps.{record_hosted}
use Rattle.dom_mutation.proofs.Keeping.{Stays, views_left, tables_left, tables_apart}
use Rattle.dom_mutation.proofs.DocInvariant.{are_hosts}
use Rattle.dom_mutation.proofs.Observed.{seen_own, seen_other, seen_speaks, seen_off}

module _ (names : List NodeName) (ts : Trees) (tables : AllTables) (held : IsDoc names ts tables) (o : Owner)
    (there : is_there (world_from names ts tables) o ≡ true) where
  abbrev now : Contents
  now = contents names ts tables

  -- a change of the owner's trees alone
  pub trees_change : (s : Step) (h : Trees → Trees) → IsOwnChange o h ts →
      part_step (part_in (contents names ts tables) o) s ≡ record (part_in (contents names ts tables) o) { trees = h (trees_of_owner o ts) }
      → IsChangeOf (contents names ts tables) (contents names (h ts) tables) o (part_step (part_in (contents names ts tables) o) s)
  trees_change s h change is = record {
    owners = refl;
    signalled = refl;
    tasks = refl;
    own = ap (λ us. part_with o us (count_of o names) (now.tables o)) change.own ∙ sym is;
    others = λ q other. ap (λ us. part_with q us (count_of q names) (now.tables q)) (change.others q other);
  }

  -- ---- steps that change nothing

  unchanged : (s : Step) → part_step (part_in (contents names ts tables) o) s ≡ part_in (contents names ts tables) o →
      IsChangeOf (contents names ts tables) (contents names ts tables) o (part_step (part_in (contents names ts tables) o) s)
  unchanged s is = record { owners = refl; signalled = refl; tasks = refl; own = sym is; others = λ q other. refl }

  -- a record of an owner without registrations
  pub record_world : (tables.observers o).registrations ≡ [] → (c : Change NodeName) →
      world_from names ts tables ≡ world_step o (world_from names ts tables) (queue_record c)
  record_world none c =
      by (is_taken (part_in now o) c) (untaken (part_in now o) unregistered c)
      ∙ record_hosted now tables.slots.hosts (are_hosts names ts tables held) o there now c
      (unchanged (queue_record c) (untold_part (part_in now o) unregistered c))
    where
      unregistered : (part_in now o).registrations ≡ []
      unregistered = ap (map (named_registration (name_at names))) none

      by : (t : Bool) → t ≡ false → world_from names ts tables ≡ world_of (record now { tasks = if t then queued_notify o tables.tasks else tables.tasks })
      by true e = absurd (true≢false e)
      by false e = refl

-- ---- a removal

module _ (f : NamedTrees) {tables : AllTables} (held : IsDoc f.names f.trees tables) (stay : Stays f) (once : StandOnce f) (only : StandAlone f)
    (apart : TellApart f.names)
    (node : ℕ) (at_node : node < length f.names) (o : Owner) (own : (name_at f.names node).owner ≡ o) (parent : ℕ)
    (at_parent : parent < length f.names) (is_parent : Some (name_at f.names parent) ≡ parent_of f.trees (name_at f.names node))
    (there : is_there (world_from f.names f.trees tables) o ≡ true)
    (u : KeyedTables) (left : AreLeft f node (tables.each o).iterators u.iterators) (walkers : u.walkers ≡ (tables.each o).walkers)
    (seen : Owner → TablesOf ℕ) (is_seen : (q : Owner) →
    seen q ≡ (if owner_eq o q then keyed_left nat_eq node (path_keys f parent) (tables.observers o) else tables.observers q)) where
  -- what is held then beside the trees
  abbrev pub left_tables : AllTables
  left_tables = with_observers (with_table tables o u) seen

  change : IsOwnChange o (taken_out (name_at f.names node)) f.trees
  change = taken f.trees held.owned o (name_at f.names node) own

  -- the tables after it
  pub left_own : (p : Owner) → AreTablesOf (named_trees f.names (taken_out (name_at f.names node) f.trees)) p (with_cursors tables.each o u p)
  left_own p = elim (cases_Bool (owner_eq o p)) [
    | inl same ↦ subst (AreTablesOf (with_taken_out f node) p) (sym (cond-true (owner_eq o p) u (tables.each p) same))
        (subst (λ q. AreTablesOf (with_taken_out f node) q u) (owner_eq-true o p same)
        (tables_left f held.owned stay node at_node o (tables.each o) u (held.own o) left walkers))
    | inr other ↦ subst (AreTablesOf (with_taken_out f node) p) (sym (cond-false (owner_eq o p) u (tables.each p) other))
        (tables_apart f held.owned stay node at_node p (λ same. owner_eq-false o p other (sym own ∙ same)) (tables.each p) (held.own p))
  ]

  -- whoever is not there still has none
  pub left_idle : (p : Owner) → is_there (world_from f.names f.trees tables) p ≡ false → with_cursors tables.each o u p ≡ no_keyed_tables
  left_idle p off =
      with-other tables.each o u p (λ same. true≢false (sym there ∙ ap (is_there (world_from f.names f.trees tables)) (sym same) ∙ off)) ∙ held.idle p off

  -- the observers after it
  pub left_speaks : (q : Owner) → SpeaksOf (IsKey f.names) (seen q)
  left_speaks =
      seen_speaks f.names f.trees tables held o there (keyed_left nat_eq node (path_keys f parent) (tables.observers o)) seen is_seen
      (speaks_left (IsKey f.names) nat_eq node (path_keys f parent) (tables.observers o) (held.speaks o) at_node)

  pub left_off : (q : Owner) → is_there (world_from f.names f.trees tables) q ≡ false → seen q ≡ no_observers
  left_off = seen_off f.names f.trees tables held o there (keyed_left nat_eq node (path_keys f parent) (tables.observers o)) seen is_seen

  -- the owner's registrations in names
  named_left : named_tables (name_at f.names) (seen o) ≡ keyed_left name_eq (name_at f.names node)
      (inclusive_ancestors (trees_of_owner o f.trees) (name_at f.names parent)) (named_tables (name_at f.names) (tables.observers o))
  named_left =
      let path = path_keys-named f once only parent at_parent in
      let parent_own : (name_at f.names parent).owner ≡ o =
      (stays_own f.trees held.owned o (name_at f.names node) own).parent (name_at f.names parent) (sym is_parent) in
      ap (named_tables (name_at f.names))
      (seen_own f.names f.trees tables held o there (keyed_left nat_eq node (path_keys f parent) (tables.observers o)) seen is_seen)
      ∙ left_law f.names apart (tables.observers o) node (path_keys f parent) (held.speaks o).registrations path.1 at_node
      ∙ ap (λ xs. keyed_left name_eq (name_at f.names node) xs (named_tables (name_at f.names) (tables.observers o)))
      (path.0 ∙ (read_own f.trees held.owned o (name_at f.names parent) parent_own).path)

  -- and what is held then, before slots are signalled
  abbrev pub left_contents : Contents
  left_contents = record (contents f.names f.trees tables) {
    trees = taken_out (name_at f.names node) f.trees;
    tables = (contents f.names (taken_out (name_at f.names node) f.trees) (with_observers (with_table tables o u) seen)).tables;
  }

  -- the owner's part then, but for its live ranges
  abbrev pub left_part : Part
  left_part =
      let p = part_in (contents f.names f.trees tables) o in
      let x = name_at f.names node in
      record p {
        iterators = map (adjusted_iterator p.trees x) p.iterators;
        trees = taken_out x p.trees;
        registrations = p.registrations ++ transients_for name_eq x (inclusive_ancestors p.trees (name_at f.names parent)) p.registrations;
      }

  pub left_change : IsChangeOf (contents f.names f.trees tables) left_contents o left_part
  left_change =
      let now_tables : left_tables.each o ≡ u = with-own tables.each o u in
      let iterators : map (iterator_view f.names) u.iterators ≡ map (adjusted_iterator (trees_of_owner o f.trees) (name_at f.names node))
      (map (iterator_view f.names) (tables.each o).iterators) =
      views_left f held.owned stay node at_node o own (tables.each o).iterators u.iterators (held.own o).iterators left in
      let same_walkers : map (walker_view f.names) u.walkers ≡ map (walker_view f.names) (tables.each o).walkers =
      ap (map (walker_view f.names)) walkers in
      record {
        owners = refl;
        signalled = refl;
        tasks = refl;
        own = ap (λ us. part_with o us (count_of o f.names)
            (shown_tables f.names tables.slots.hosts o (left_tables.each o) (seen o) (ranges_of tables.ranges o))) change.own
            ∙ ap (λ v. part_with o (taken_out (name_at f.names node) (trees_of_owner o f.trees)) (count_of o f.names)
            (shown_tables f.names tables.slots.hosts o v (seen o) (ranges_of tables.ranges o))) now_tables
            ∙ ap (λ is. part_of_lists is (map (walker_view f.names) u.walkers) (named_tables (name_at f.names) (seen o))) iterators
            ∙ ap (λ ws. part_of_lists (map (adjusted_iterator (trees_of_owner o f.trees) (name_at f.names node))
            (map (iterator_view f.names) (tables.each o).iterators)) ws (named_tables (name_at f.names) (seen o))) same_walkers
            ∙ ap (part_of_lists (map (adjusted_iterator (trees_of_owner o f.trees) (name_at f.names node))
            (map (iterator_view f.names) (tables.each o).iterators)) (map (walker_view f.names) (tables.each o).walkers)) named_left;
        others = λ q other.
            ap (λ us. part_with q us (count_of q f.names)
            (shown_tables f.names tables.slots.hosts q (left_tables.each q) (seen q) (ranges_of tables.ranges q))) (change.others q other)
            ∙ ap (λ m. part_with q (trees_of_owner q f.trees) (count_of q f.names)
            (shown_tables f.names tables.slots.hosts q m (seen q) (ranges_of tables.ranges q)))
            (with-other tables.each o u q other)
            ∙ ap (λ r. part_with q (trees_of_owner q f.trees) (count_of q f.names)
            (shown_tables f.names tables.slots.hosts q (tables.each q) r (ranges_of tables.ranges q)))
            (seen_other f.names f.trees tables held o there (keyed_left nat_eq node (path_keys f parent) (tables.observers o)) seen is_seen q other);
      }
    where
      part_of_lists : List Iterator → List Walker → TablesOf NodeName → Part
      part_of_lists is ws r = part_with o (taken_out (name_at f.names node) (trees_of_owner o f.trees)) (count_of o f.names)
          (record (tables_with is ws r) {
            attached = attached_of f.names tables.slots.hosts o;
            ranges = named_ranges f.names (ranges_of tables.ranges o);
          })
