-- Steps that signal slots: what holds after them, and the state then; and what holds where they were refused memory.
use Rattle.dom_mutation.proofs.Cited.{◌≡◌, ℕ, ◌^◌, arith, ◌<◌, true, false, List, ◌∷◌, fold, length, Result, Ok, Err, Option, Some, refl, sym, ap, subst, ◌∙◌}
use Rattle.dom_mutation.proofs.Cited.{on_ok_weaker, OnOk, nat_eq, if◌then◌else◌, AllByRecursion, NodeName, Owner, Page, name_eq, owner_eq, append_once, Trees}
use Rattle.dom_mutation.proofs.Cited.{parent_of, index_of, taken_out, take_out, Task, is_there, world_step, after_removal, ShadowHost, AreSlotsOf, Removal}
use Rattle.dom_mutation.proofs.Cited.{NamedTrees, name_at, IsOwnChange, TellApart, read_own, taken, is_inside, RangeLists, ends_by, ranges_of, StandOnce}
use Rattle.dom_mutation.proofs.Cited.{StandAlone, TablesOf, path_keys, IsKey, SpeaksOf, Contents, part_in, world_of, host_owners, signals_in, AllTables}
use Rattle.dom_mutation.proofs.Cited.{AreTablesOf, IsSettled, trees_with, with_live, with_observers, AreRangesOf, ranged, DocState, named_trees, shown_tables}
use Rattle.dom_mutation.proofs.Cited.{contents, world_from, state_from, IsDoc, IsDue, name_in, owner_in, stepped, NodeTrees, AreNames, HasStepped, signals_of}
use Rattle.dom_mutation.proofs.Cited.{KeyedTables, AreLeft, no_keyed_tables, with_cursors, KeepsAbove}
use Rattle.dom_model.proofs.Model.{Step as ModelStep}
use Rattle.dom_slots.specs.declared.step.Step.{Step}
use Rattle.dom_observers.specs.Definitions.{no_tables as no_observers, left as keyed_left}
use Rattle.dom_mutation.specs.Definitions.{with_signals}
use Rattle.dom_mutation.proofs.BoundedPlans.{index_few}
use Rattle.dom_mutation.proofs.DocInvariant.{are_hosts, held_with, still_named}
use Rattle.dom_mutation.proofs.HeldNodes.{given_up}
use Rattle.dom_mutation.proofs.HostedSteps.{signalled_fields, removal_hosted}
use Rattle.dom_mutation.proofs.Keeping.{Stays, tables_kept}
use Rattle.dom_mutation.proofs.OwnParts.{own_part}
use Rattle.dom_mutation.proofs.RangedFits.{removal_fits}
use Rattle.dom_mutation.proofs.RangedKeeping.{ranges_stay}
use Rattle.dom_mutation.proofs.RangedSteps.{removal_ranged}
use Rattle.dom_mutation.proofs.Shown.{state_with, owner_there}
use Rattle.dom_mutation.proofs.Tasks.{due_signalled}
use Rattle.dom_mutation.proofs.Steps.{left_own, left_idle, left_speaks, left_off, left_part, left_change}
use Rattle.dom_mutation.proofs.Worlds.{IsChangeOf}
use Rattle.dom_mutation.proofs.Signals.{all_appended, all_named}

module _ (f : NamedTrees) {tables : AllTables} (held : IsDoc f.names f.trees tables) {d : DocState}
    (is_d : state_from f.names f.trees tables ≡ d) (k : ℕ) (k< : k < length d.names)
    (each : Owner → KeyedTables) (h : Trees → Trees) (change : IsOwnChange (name_at f.names k).owner h f.trees)
    (own : (p : Owner) → AreTablesOf (named_trees f.names (h f.trees)) p (each p))
    (idle : (p : Owner) → is_there (world_from f.names f.trees tables) p ≡ false → each p ≡ no_keyed_tables)
    (seen : Owner → TablesOf ℕ) (speaks : (p : Owner) → SpeaksOf (IsKey f.names) (seen p))
    (unobserved : (p : Owner) → is_there (world_from f.names f.trees tables) p ≡ false → seen p ≡ no_observers)
    (live : RangeLists) (stand : AreRangesOf (contents f.names (h f.trees) (record tables { each = each; observers = seen; ranges = live })) live) where
  -- the tables then
  abbrev pub next : AllTables
  next = record tables { each = each; observers = seen; ranges = live }

  -- what is held after the step, before slots are signalled
  abbrev pub before_signals : Contents
  before_signals = record (contents f.names f.trees tables) { trees = h f.trees; tables = (contents f.names (h f.trees) next).tables }

  module _ (s : Step) {after : NodeTrees} (here : HasStepped s (h f.trees) (trees_with f.names f.trees tables) after) where
    abbrev signalled : List NodeName
    signalled = signals_of s here.left (h f.trees) (trees_with f.names f.trees tables)

    nodes_then : AreNames f.names after.signalled
    nodes_then = subst (λ ns. AreNames ns after.signalled) here.names here.held.nodes

    -- the notifications that are queued are of owners that are there
    due_then : AllByRecursion (IsDue (world_from f.names f.trees tables)) after.queue
    due_then =
        let there : NodeName → Type 0 = λ s. is_there (world_from f.names f.trees tables) s.owner ≡ true in
        subst (AllByRecursion (IsDue (world_from f.names f.trees tables))) (sym here.tasks)
        (due_signalled (world_from f.names f.trees tables) signalled
        (all_appended there tables.signalled signalled
        (subst (AllByRecursion there) here.signalled (all_named there f.names held.present after.signalled nodes_then))).1
        tables.tasks held.due)

    pub signalled_held : IsDoc after.forest.names after.forest.trees (with_signals next after)
    signalled_held =
        subst (λ (ns : List NodeName). IsDoc ns after.forest.trees (with_signals next after)) (sym here.names)
        (subst (λ (us : Trees). IsDoc f.names us (with_signals next after)) (sym here.trees)
        (held_with f.names f.trees tables held (name_at f.names k).owner (owner_there f held is_d k k<) f.names (h f.trees)
        (with_signals next after) here.hosts record {
          owned = change.owned;
          apart = change.others;
          named = still_named held;
          own = own;
          idle = idle;
          signals = record {
            slots = subst (λ (g : NamedTrees). AreSlotsOf g after.slots)
                (λ j. record { names = here.names j; trees = here.trees j }) here.held.slots;
            nodes = nodes_then;
          };
          speaks = speaks;
          unobserved = unobserved;
          due = due_then;
          ranges = ranges_stay (contents f.names (h f.trees) (with_signals next after)) stand refl
              (ap (λ (hs : List ShadowHost). Page ∷ host_owners hs) here.hosts) (λ p. refl);
        }))

    build : List ShadowHost → List NodeName → List Task → Contents
    build hs xs ts = record {
      owners = Page ∷ host_owners hs;
      names = f.names;
      trees = h f.trees;
      tables = λ o. shown_tables f.names hs o (next.each o) (seen o) (ranges_of live o);
      signalled = xs;
      tasks = ts;
    }

    contents_now : contents f.names (h f.trees) (with_signals next after) ≡ signals_in before_signals signalled
    unfolding build
    contents_now =
        ap (λ (hs : List ShadowHost). build hs after.signalled after.queue) here.hosts
        ∙ (ap (λ xs. build tables.slots.hosts xs after.queue) here.signalled
        ∙ (ap (build tables.slots.hosts (fold (append_once name_eq) tables.signalled signalled)) here.tasks
        ∙ sym (signalled_fields before_signals signalled)))

    pub signalled_state : (t : List NodeName → ModelStep)
        → world_of (signals_in before_signals signalled) ≡ world_step (name_at f.names k).owner (world_from f.names f.trees tables) (t f.names)
        → state_from after.forest.names after.forest.trees (with_signals next after) ≡ stepped (owner_in d k) (t d.names) d
    signalled_state t e =
        subst (λ (e : DocState). state_from after.forest.names after.forest.trees (with_signals next after) ≡ stepped (owner_in e k) (t e.names) e) is_d
        (ap (λ ns. state_from ns after.forest.trees (with_signals next after)) here.names
        ∙ (ap (λ us. state_from f.names us (with_signals next after)) here.trees
        ∙ (ap (λ c. state_with f.names (world_of c)) contents_now ∙ ap (state_with f.names) e)))

-- ---- where memory was refused

-- what is held then, and the state, if the step was done
pub record IsAfter (g : NamedTrees) (last : AllTables) {T E : Type 0} (q : Result T E) (d : DocState) : Type 0 where
  pub held : IsDoc g.names g.trees last
  pub state : OnOk q (state_from g.names g.trees last ≡ d)

pub settled : {T E : Type 0} {m g : NamedTrees} {mid last : AllTables} (r : Result T E) {q : Result T E} {d : DocState} → IsSettled r q m g mid last →
    OnOk r (IsDoc m.names m.trees mid × (state_from m.names m.trees mid ≡ d)) → IsAfter g last q d
settled {T} {E} {m} {g} {mid} {last} (Ok x) {q} {d} s done = record {
  held = subst (λ (p : NamedTrees). IsDoc p.names p.trees last) (sym s.forest) (subst (IsDoc m.names m.trees) (sym s.tables) done.0);
  state = subst (λ p. OnOk p (state_from g.names g.trees last ≡ d)) (sym s.result)
      (ap (λ (p : NamedTrees). state_from p.names p.trees last) s.forest ∙ (ap (state_from m.names m.trees) s.tables ∙ done.1));
}
settled {T} {E} {m} {g} {mid} {last} (Err e) {q} {d} s done = record {
  held = given_up g last s.empty s.first;
  state = subst (λ p. OnOk p (state_from g.names g.trees last ≡ d)) (sym s.result) tt;
}

-- ---- steps that change one owner's trees alone

module _ (f : NamedTrees) {tables : AllTables} (held : IsDoc f.names f.trees tables) {d : DocState}
    (is_d : state_from f.names f.trees tables ≡ d) (k : ℕ) (k< : k < length d.names)
    (h : Trees → Trees) (change : IsOwnChange (name_at f.names k).owner h f.trees) (keeps : KeepsAbove f.trees (h f.trees)) (s : Step)
    {E : Type 0} {r q : Result (Unit {0}) E} (after : NodeTrees) {g : NamedTrees} {last : AllTables}
    (did : OnOk r (HasStepped s (h f.trees) (trees_with f.names f.trees tables) after))
    (settles : IsSettled r q after.forest g (with_signals tables after) last) where
  pub own_kept : (p : Owner) → AreTablesOf (named_trees f.names (h f.trees)) p (tables.each p)
  own_kept p = tables_kept f.names f.trees (h f.trees) keeps (held.own p)

  pub ranges_kept : AreRangesOf (contents f.names (h f.trees) tables) tables.ranges
  ranges_kept = ranges_stay (contents f.names (h f.trees) tables) held.ranges refl refl (λ p. refl)

  -- what is held then, and the state, where the step of the model does the same with the left parent that it had
  pub tree_step : (t : List NodeName → ModelStep) → ((left : Option ℕ) →
      world_of (signals_in (before_signals f held is_d k k< tables.each h change own_kept held.idle tables.observers held.speaks held.unobserved
      tables.ranges ranges_kept) (signals_of s left (h f.trees) (trees_with f.names f.trees tables)))
      ≡ world_step (name_at f.names k).owner (world_from f.names f.trees tables) (t f.names))
      → IsAfter g last q (stepped (owner_in d k) (t d.names) d)
  tree_step t e = settled r settles (on_ok_weaker r (λ here. (
    signalled_held f held is_d k k< tables.each h change own_kept held.idle tables.observers held.speaks held.unobserved tables.ranges ranges_kept s here,
    signalled_state f held is_d k k< tables.each h change own_kept held.idle tables.observers held.speaks held.unobserved tables.ranges ranges_kept s
        here t (e here.left),
  )) did)

-- ---- a removal

module _ (f : NamedTrees) {tables : AllTables} (held : IsDoc f.names f.trees tables) {d : DocState}
    (is_d : state_from f.names f.trees tables ≡ d) (k : ℕ) (k< : k < length d.names)
    (stay : Stays f) (once : StandOnce f) (only : StandAlone f) (apart : TellApart f.names) (parent : ℕ) (at_parent : parent < length f.names)
    (is_parent : Some (name_at f.names parent) ≡ parent_of f.trees (name_at f.names k))
    (u : KeyedTables) (iterators : AreLeft f k (tables.each (name_at f.names k).owner).iterators u.iterators)
    (walkers : u.walkers ≡ (tables.each (name_at f.names k).owner).walkers)
    (each : Owner → KeyedTables) (is_each : each ≡ with_cursors tables.each (name_at f.names k).owner u)
    (seen : Owner → TablesOf ℕ) (is_seen : (q : Owner) →
    seen q ≡ (if owner_eq (name_at f.names k).owner q then keyed_left nat_eq k (path_keys f parent)
    (tables.observers (name_at f.names k).owner) else tables.observers q))
    (live : RangeLists) (is_live : (q : Owner) →
    ranges_of live q ≡ ends_by (after_removal nat_eq (is_inside f k) parent (index_of f.trees (name_at f.names k))) (ranges_of tables.ranges q))
    {E : Type 0} {r q : Result (Unit {0}) E} (after : NodeTrees) {g : NamedTrees} {last : AllTables}
    (did : OnOk r (HasStepped (Removal k) (taken_out (name_at f.names k) f.trees) (trees_with f.names f.trees tables) after))
    (settles : IsSettled r q after.forest g (with_signals (with_live (with_observers (record tables { each = each }) seen) live) after) last) where
  o : Owner
  o = (name_at f.names k).owner

  node : k < length f.names
  node = subst (λ (e : DocState). k < length e.names) (sym is_d) k<

  gone : IsOwnChange (name_at f.names k).owner (taken_out (name_at f.names k)) f.trees
  gone = taken f.trees held.owned (name_at f.names k).owner (name_at f.names k) refl

  there_then : is_there (world_from f.names f.trees tables) (name_at f.names k).owner ≡ true
  there_then = owner_there f held is_d k k<

  own_left : (p : Owner) → AreTablesOf (named_trees f.names (taken_out (name_at f.names k) f.trees)) p (each p)
  own_left p =
      subst (λ (x : Owner → KeyedTables). AreTablesOf (named_trees f.names (taken_out (name_at f.names k) f.trees)) p (x p)) (sym is_each)
      (left_own f held stay once only apart k node (name_at f.names k).owner refl parent at_parent is_parent there_then u iterators walkers seen is_seen p)

  idle_left : (p : Owner) → is_there (world_from f.names f.trees tables) p ≡ false → each p ≡ no_keyed_tables
  idle_left p off =
      ap (λ (x : Owner → KeyedTables). x p) is_each
      ∙ left_idle f held stay once only apart k node (name_at f.names k).owner refl parent at_parent is_parent there_then u iterators walkers seen is_seen p off

  speaks_then : (q : Owner) → SpeaksOf (IsKey f.names) (seen q)
  speaks_then = left_speaks f held stay once only apart k node (name_at f.names k).owner refl
      parent at_parent is_parent there_then u iterators walkers seen is_seen

  off_then : (q : Owner) → is_there (world_from f.names f.trees tables) q ≡ false → seen q ≡ no_observers
  off_then = left_off f held stay once only apart k node (name_at f.names k).owner refl parent at_parent is_parent there_then u iterators walkers seen is_seen

  -- what is held then, before slots are signalled, with the live ranges as they were
  abbrev gone_contents : Contents
  gone_contents = record (contents f.names f.trees tables) {
    trees = taken_out (name_at f.names k) f.trees;
    tables = (contents f.names (taken_out (name_at f.names k) f.trees) (with_observers (record tables { each = each }) seen)).tables;
  }

  changed : IsChangeOf (contents f.names f.trees tables) gone_contents (name_at f.names k).owner
      (left_part f held stay once only apart k node (name_at f.names k).owner refl parent at_parent is_parent there_then u iterators walkers seen is_seen)
  changed =
      subst (λ (x : Owner → KeyedTables). IsChangeOf (contents f.names f.trees tables)
      (record (contents f.names f.trees tables) {
        trees = taken_out (name_at f.names k) f.trees;
        tables = (contents f.names (taken_out (name_at f.names k) f.trees) (with_observers (record tables { each = x }) seen)).tables;
      })
      (name_at f.names k).owner (left_part f held stay once only apart k node (name_at f.names k).owner refl
      parent at_parent is_parent there_then u iterators walkers seen is_seen)) (sym is_each)
      (left_change f held stay once only apart k node (name_at f.names k).owner refl parent at_parent is_parent there_then u iterators walkers seen is_seen)

  -- the index at which the node stood is a number of the code's
  small : index_of f.trees (name_at f.names k) < 2 ^ 64
  small =
      let x = name_at f.names k in
      let here = read_own f.trees held.owned x.owner x refl in
      let below = index_few (part_in (contents f.names f.trees tables) x.owner)
      (own_part (contents f.names f.trees tables) held.owned once only held.numbered x.owner) x (name_at f.names parent)
      (sym here.parent ∙ sym is_parent) in
      let few = held.limited x.owner in
      let index = here.index in
      omega (arith, below, few, index)

  -- the live ranges have left the tree
  live_then : AreRangesOf (contents f.names (taken_out (name_at f.names k) f.trees)
      (record tables { each = each; observers = seen; ranges = live })) live
  live_then =
      let was = contents f.names f.trees tables in
      ranges_stay
      (contents f.names (taken_out (name_at f.names k) f.trees)
      (record tables { each = each; observers = seen; ranges = live }))
      ((removal_ranged was tables.ranges live held.ranges (name_at f.names k).owner apart held.owned gone_contents refl k parent node at_parent
      refl (sym is_parent) is_live changed).1
      (removal_fits was tables.ranges held.ranges (name_at f.names k).owner (is_inside f k) parent (index_of f.trees (name_at f.names k)) small))
      refl refl (λ p. refl)

  pub removal_step : IsAfter g last q (stepped (owner_in d k) (take_out (name_in d k)) d)
  removal_step = settled r settles (on_ok_weaker r (λ here. (
    signalled_held f held is_d k k< each (taken_out (name_at f.names k)) gone own_left idle_left seen speaks_then off_then live live_then (Removal k) here,
    signalled_state f held is_d k k< each (taken_out (name_at f.names k)) gone own_left idle_left seen speaks_then off_then live live_then (Removal k)
        here (λ xs. take_out (name_at xs k))
        (removal_hosted (contents f.names f.trees tables) tables.slots.hosts (are_hosts f.names f.trees tables held) (name_at f.names k).owner
        (owner_there f held is_d k k<) (taken_out (name_at f.names k) f.trees)
        (ranged live gone_contents).tables gone.owned k here.left refl here.is_left
        (removal_ranged (contents f.names f.trees tables) tables.ranges live held.ranges (name_at f.names k).owner apart held.owned gone_contents
        refl k parent node at_parent refl (sym is_parent) is_live changed).0),
  )) did)
