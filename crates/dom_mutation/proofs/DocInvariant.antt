-- What holds of a `Doc` stays so when one owner's trees change, and then its world has that owner's part changed.
use Rattle.dom_mutation.proofs.Cited.{◌≡◌, ℕ, ◌<◌, ◌≤◌, true, false, List, [], ◌∷◌, length, refl, sym, ap, subst, ◌∙◌, ◌≢◌, arith, AllByRecursion, none-some}
use Rattle.dom_mutation.proofs.Cited.{NodeName, Owner, Page, Trees, World, is_there, Task, micro_task, notify_task, ne-owner_eq, NamedTrees, name_at, count_of}
use Rattle.dom_mutation.proofs.Cited.{AreOwned, trees_of_owner, IsOwnChange, TablesOf, IsKey, SpeaksOf, no_keyed_tables, AreTablesOf, AllTables, trees_with}
use Rattle.dom_mutation.proofs.Cited.{with_queue, with_observers, with_live, maker_of, hosts_of, host_names, host_owners, AreMadeBehind, AreHostsOf}
use Rattle.dom_mutation.proofs.Cited.{AreNumbered, AreRangesOf, named_trees, contents, world_from, IsDoc, IsDue, AreSignals, AreNames, RangeLists, ShadowHost}
use Rattle.dom_mutation.proofs.Cited.{HostsAreNodes, AreSlotsOf, KeepsAbove}
use Rattle.dom_observers.specs.Definitions.{no_tables as no_observers}
use Rattle.dom_mutation.proofs.HostedWorlds.{single_hosted}
use Rattle.dom_mutation.proofs.HostsOfOwners.{other-host}
use Rattle.dom_mutation.proofs.Worlds.{Single, there_same}
use Rattle.dom_mutation.proofs.Keeping.{tables_kept}
use Rattle.dom_mutation.proofs.RangedKeeping.{ranges_stay}

-- empty tables are each owner's
pub no_cursors : (f : NamedTrees) (o : Owner) → AreTablesOf f o no_keyed_tables
no_cursors f o = record {
  iterators = λ k i is. absurd (none-some i is);
  walkers = λ k w is. absurd (none-some w is);
  few_iterators = omega arith;
  few_walkers = omega arith;
}

-- it has just its hosts
pub are_hosts : (names : List NodeName) (ts : Trees) (tables : AllTables) → IsDoc names ts tables → AreHostsOf (contents names ts tables) tables.slots.hosts
are_hosts names ts tables held = record {
  owners = refl;
  made = held.made;
  nodes = held.signals.slots.hosts;
  attached = λ o. refl;
  unhosted = λ o off. ap (host_names names) (none_of o off tables.slots.hosts held.signals.slots.hosts);
  owned = held.owned;
  absent = held.absent;
}
  where
    -- whoever is not there has no hosts
    none_of : (o : Owner) → is_there (world_from names ts tables) o ≡ false → (hosts : List ShadowHost) → HostsAreNodes names hosts →
        hosts_of names hosts o ≡ []
    none_of o off [] nodes = refl
    none_of o off (h ∷ hosts) nodes =
        other-host names h hosts o (ne-owner_eq (maker_of names h) o
        (λ e. let on = sym (ap (is_there (world_from names ts tables)) e) ∙ held.present h.host nodes.0 in cc))
        ∙ none_of o off hosts nodes.2

-- each owner stands there once
pub single_owners : (names : List NodeName) (ts : Trees) (tables : AllTables) → IsDoc names ts tables → Single (Page ∷ host_owners tables.slots.hosts)
single_owners names ts tables held = single_hosted (contents names ts tables) tables.slots.hosts (are_hosts names ts tables held)

-- tasks are due as long as their owners are there
pub due_kept : (w v : World) → ((o : Owner) → is_there w o ≡ true → is_there v o ≡ true) → (tasks : List Task) → AllByRecursion (IsDue w) tasks →
    AllByRecursion (IsDue v) tasks
due_kept w v there [] all = tt
due_kept w v there (t ∷ tasks) all = (by t all.0, due_kept w v there tasks all.1)
  where
    by : (t : Task) → IsDue w t → IsDue v t
    by (micro_task o label) h = tt
    by (notify_task o) h = there o h

-- what is asked of other names than a document's
pub record StaysNamed (names : List NodeName) (ts : Trees) (tables : AllTables) (more : List NodeName) : Type 0 where
  pub present : (k : ℕ) → k < length more → is_there (world_from names ts tables) (name_at more k).owner ≡ true
  pub limited : (p : Owner) → count_of p more ≤ 1000000
  pub made : AreMadeBehind more [] tables.slots.hosts
  pub numbered : AreNumbered more

pub still_named : {names : List NodeName} {ts : Trees} {tables : AllTables} → IsDoc names ts tables → StaysNamed names ts tables names
still_named held = record { present = held.present; limited = held.limited; made = held.made; numbered = held.numbered }

-- what is asked of other names, trees and tables than a document's, of which only the owner's o trees may differ, that they be held
pub record StaysHeld (names : List NodeName) (ts : Trees) (tables : AllTables) (o : Owner) (more : List NodeName) (us : Trees) (others : AllTables) :
    Type 0 where
  pub owned : AreOwned us
  pub apart : (p : Owner) → p ≢ o → trees_of_owner p us ≡ trees_of_owner p ts
  pub named : StaysNamed names ts tables more
  pub own : (p : Owner) → AreTablesOf (named_trees more us) p (others.each p)
  pub idle : (p : Owner) → is_there (world_from names ts tables) p ≡ false → others.each p ≡ no_keyed_tables
  pub signals : AreSignals (trees_with more us others)
  pub speaks : (p : Owner) → SpeaksOf (IsKey more) (others.observers p)
  pub unobserved : (p : Owner) → is_there (world_from names ts tables) p ≡ false → others.observers p ≡ no_observers
  pub due : AllByRecursion (IsDue (world_from names ts tables)) others.tasks
  pub ranges : AreRangesOf (contents more us others) others.ranges

-- other trees and tables, where only one owner's trees change
module _ (names : List NodeName) (ts : Trees) (tables : AllTables) (held : IsDoc names ts tables) (o : Owner)
    (there : is_there (world_from names ts tables) o ≡ true)
    (more : List NodeName) (us : Trees) (others : AllTables)
    (hosts : others.slots.hosts ≡ tables.slots.hosts) where
  who : (p : Owner) → is_there (world_from more us others) p ≡ is_there (world_from names ts tables) p
  who p = there_same (contents more us others) (contents names ts tables) (ap (λ (hs : List ShadowHost). Page ∷ host_owners hs) hosts) p

  pub held_with : StaysHeld names ts tables o more us others → IsDoc more us others
  held_with stays = record {
    owned = stays.owned;
    present = λ k k<. who (name_at more k).owner ∙ stays.named.present k k<;
    absent = λ p off. stays.apart p (λ same_owner. let on : is_there (world_from names ts tables) p ≡ true = subst
        (λ (q : Owner). is_there (world_from names ts tables) q ≡ true) (sym same_owner) there in let gone = sym (who p) ∙ off in cc)
        ∙ held.absent p (sym (who p) ∙ off);
    limited = stays.named.limited;
    own = stays.own;
    idle = λ p off. stays.idle p (sym (who p) ∙ off);
    made = subst (AreMadeBehind more []) (sym hosts) stays.named.made;
    signals = stays.signals;
    speaks = stays.speaks;
    unobserved = λ p off. stays.unobserved p (sym (who p) ∙ off);
    due = due_kept (world_from names ts tables) (world_from more us others) (λ p on. who p ∙ on) others.tasks stays.due;
    ranges = stays.ranges;
    numbered = stays.named.numbered;
  }

-- A document that holds its invariant.
module _ (names : List NodeName) (ts : Trees) (tables : AllTables) (held : IsDoc names ts tables) where
  pub held_changed : (o : Owner) → is_there (world_from names ts tables) o ≡ true → (f : Trees → Trees) → IsOwnChange o f ts → KeepsAbove ts (f ts) →
      AreSlotsOf (named_trees names (f ts)) tables.slots → IsDoc names (f ts) tables
  held_changed o there f change keeps slots =
      held_with names ts tables held o there names (f ts) tables refl record {
        owned = change.owned;
        apart = change.others;
        named = still_named held;
        own = λ p. tables_kept names ts (f ts) keeps (held.own p);
        idle = held.idle;
        signals = record { slots = slots; nodes = held.signals.nodes };
        speaks = held.speaks;
        unobserved = held.unobserved;
        due = held.due;
        ranges = ranges_stay (contents names (f ts) tables) held.ranges refl refl (λ p. refl);
      }

  -- the same trees and cursors, and other tables beside them
  module _ (seen : Owner → TablesOf ℕ) (tasks : List Task) (signalled : List NodeName) (live : RangeLists) where
    abbrev others : AllTables
    others = record tables { observers = seen; tasks = tasks; signalled = signalled; ranges = live }

    same_owners : (o : Owner) → is_there (world_from names ts others) o ≡ is_there (world_from names ts tables) o
    same_owners o = there_same (contents names ts others) (contents names ts tables) refl o

    pub held_beside : ((o : Owner) → SpeaksOf (IsKey names) (seen o)) →
        ((o : Owner) → is_there (world_from names ts tables) o ≡ false → seen o ≡ no_observers) →
        AllByRecursion (IsDue (world_from names ts tables)) tasks → AreNames names signalled → AreRangesOf (contents names ts others) live → IsDoc names ts
        others
    held_beside speaks unobserved due nodes ranges =
        record {
          owned = held.owned;
          present = λ k k<. same_owners (name_at names k).owner ∙ held.present k k<;
          absent = λ o off. held.absent o (sym (same_owners o) ∙ off);
          limited = held.limited;
          own = held.own;
          idle = λ o off. held.idle o (sym (same_owners o) ∙ off);
          made = held.made;
          signals = record { slots = held.signals.slots; nodes = nodes };
          speaks = speaks;
          unobserved = λ o off. unobserved o (sym (same_owners o) ∙ off);
          due = due_kept (world_from names ts tables) (world_from names ts others) (λ o on. same_owners o ∙ on) tasks due;
          ranges = ranges;
          numbered = held.numbered;
        }

  -- other observers
  pub held_observers : (observers : Owner → TablesOf ℕ) → ((p : Owner) → SpeaksOf (IsKey names) (observers p)) →
      ((p : Owner) → is_there (world_from names ts tables) p ≡ false → observers p ≡ no_observers) → IsDoc names ts (with_observers tables observers)
  held_observers observers speaks unobserved =
      held_beside observers tables.tasks tables.signalled tables.ranges speaks unobserved held.due held.signals.nodes
      (ranges_stay (contents names ts (with_observers tables observers)) held.ranges refl refl (λ o. refl))

  -- other tasks
  pub held_tasks : (tasks : List Task) → AllByRecursion (IsDue (world_from names ts tables)) tasks → IsDoc names ts (with_queue tables tasks)
  held_tasks tasks due = held_beside tables.observers tasks tables.signalled tables.ranges held.speaks held.unobserved due held.signals.nodes
      (ranges_stay (contents names ts (with_queue tables tasks)) held.ranges refl refl (λ o. refl))

  -- other live ranges
  pub held_live : (live : RangeLists) → AreRangesOf (contents names ts (with_live tables live)) live → IsDoc names ts (with_live tables live)
  held_live live stand = held_beside tables.observers tables.tasks tables.signalled live held.speaks held.unobserved held.due held.signals.nodes stand
