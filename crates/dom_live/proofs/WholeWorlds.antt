-- What is asked of live worlds stays where a part is written with other listeners, record queues, registrations and pending observers.
use Rattle.dom_base.proofs.Std.{◌≡◌, ℕ, ◌<◌, true, not, ◌||◌, List, length, filter, refl, sym, ap, ◌∙◌, subst}
use Rattle.dom_base.proofs.Std.{cond-true, cond-false, AllByRecursion}
use Rattle.dom_model.proofs.Model.{Owner, Page, NodeName, World, Task, Part, part_of}
use Rattle.dom_model.proofs.Model.{with_part, put_part, is_there, Listener, owner_eq-true, owner-part_of, is_page}
use Rattle.dom_model.proofs.Model.{without_signals, is_owned_by, Change}
use Rattle.dom_model.specs.Observers.{Registration}
use Rattle.dom_model.specs.Part.{first_node}
use Rattle.dom_model.specs.Names.{first_of}
use Rattle.dom_worlds.specs.Definitions.{IsThere, HasKinds, IsHost, owners_in, components_of, is_unmade, is_made_by}
use Rattle.dom_worlds.specs.Definitions.{HasTables, HasRecords, IsNodeIn, IsNodeAt, IsListenerIn, IsRegistrationIn, IsRecordIn}
use Rattle.dom_worlds.proofs.ListLemmas.{by_cases, all-filter, all-then}
use Rattle.dom_worlds.proofs.OwnerLemmas.{has_owner, owners-put, there-listed, there-with_part}
use Rattle.dom_worlds.proofs.WorldLemmas.{each-part}
use Rattle.dom_live.specs.Documents.{written}
use Rattle.dom_live.specs.Laws.{IsLiveWhole}

-- a part with other such tables
abbrev pub with_tables : Part → List (Listener NodeName) → List (List (Change NodeName)) → List (Registration NodeName) → List ℕ → Part
with_tables p ls qs rs ks = record p { listeners = ls; record_queues = qs; registrations = rs; pending = ks }

-- they name what is there
pub record FitTables (p : Part) (q : Part) : Type 0 where
  pub listeners : AllByRecursion (IsListenerIn p.trees) q.listeners
  pub registrations : AllByRecursion (IsRegistrationIn p.trees (length q.record_queues)) q.registrations
  pub pending : AllByRecursion (λ k. k < length q.record_queues) q.pending
  pub records : AllByRecursion (AllByRecursion (IsRecordIn p.trees)) q.record_queues

module _ (w : World) (o : Owner) (i : IsLiveWhole w) (ls : List (Listener NodeName)) (qs : List (List (Change NodeName)))
    (rs : List (Registration NodeName)) (ks : List ℕ) (f : FitTables (part_of w o) (with_tables (part_of w o) ls qs rs ks)) where
  -- the part of the owner
  abbrev was : Part
  was = part_of w o

  -- what is written
  abbrev now : Part
  now = with_tables was ls qs rs ks

  -- what a part has after it
  record Stays (x : Owner) (p : Part) : Type 0 where
    kinds : HasKinds p
    tables : HasTables p
    records : HasRecords p
    trees : p.trees ≡ (part_of w x).trees
    attached : p.attached ≡ (part_of w x).attached
    first : IsThere w x → IsNodeIn p.trees (first_node p)

  -- the part that is written has it
  stays-own : Stays o now
  stays-own =
      let k = i.kinds o in
      let t = i.whole.tables o in
      record {
        kinds = record {
          shadows = k.shadows;
          hosts = all-then (IsHost was) (IsHost now) (λ x h. record { made = h.made; element = h.element }) was.attached k.hosts;
          once = k.once;
        };
        tables = record {
          hosts = t.hosts;
          ranges = t.ranges;
          iterators = t.iterators;
          walkers = t.walkers;
          registrations = f.registrations;
          pending = f.pending;
          listeners = f.listeners;
        };
        records = f.records;
        trees = refl;
        attached = refl;
        first = i.whole.first o;
      }

  -- every part
  stays-each : (x : Owner) → Stays x (part_of (with_part w now) x)
  stays-each = each-part Stays w now o (owner-part_of w o) stays-own (λ x. record {
    kinds = i.kinds x;
    tables = i.whole.tables x;
    records = i.whole.records x;
    trees = refl;
    attached = refl;
    first = i.whole.first x;
  })

  -- if its owner is there
  put-whole : is_there w o ≡ true → IsLiveWhole (with_part w now)
  put-whole h =
      let u = with_part w now in
      let owners : owners_in u ≡ owners_in w = owners-put w.parts now (ap (is_there w) (owner-part_of w o) ∙ h) in
      record {
        kinds = λ x. (stays-each x).kinds;
        owners = record {
          first = ap first_of owners ∙ i.owners.first;
          unmade = ap (filter is_unmade) owners ∙ i.owners.unmade;
          made = λ x. ap (filter (is_made_by x)) owners ∙ i.owners.made x ∙ ap (λ hs. components_of x (length hs)) (sym (stays-each x).attached);
          turn = tt;
          tasks = tt;
          signalled = all-then (λ (s : NodeName). IsThere w s.owner) (λ s. IsThere u s.owner) (λ s k. there-with_part w now s.owner k) w.signalled
              i.owners.signalled;
        };
        whole = record {
          tables = λ x. (stays-each x).tables;
          records = λ x. (stays-each x).records;
          first = λ x k. (stays-each x).first (there-listed w.parts x ∙ ap (λ os. has_owner os x) (sym owners) ∙ sym (there-listed u.parts x) ∙ k);
          signalled = all-then (IsNodeAt w) (IsNodeAt u) (λ x k. subst (λ ts. IsNodeIn ts x) (sym (stays-each x.owner).trees) k) w.signalled i.whole.signalled;
        };
      }

  -- if it is written
  pub written-whole : is_there w Page ≡ true → IsLiveWhole (written w now)
  written-whole page =
      by_cases (is_page now.owner || is_there w now.owner)
      (λ h. subst (λ ps. IsLiveWhole (record w { parts = ps })) (sym (cond-true (is_page now.owner || is_there w now.owner) (put_part w.parts now) w.parts h))
      (put-whole (by_page h)))
      (λ h. subst (λ ps. IsLiveWhole (record w { parts = ps })) (sym (cond-false (is_page now.owner || is_there w now.owner) (put_part w.parts now) w.parts h))
      i)
    where
      by_page : (is_page now.owner || is_there w now.owner) ≡ true → is_there w o ≡ true
      by_page h =
          by_cases (is_page now.owner)
          (λ k. ap (is_there w) (sym (owner-part_of w o) ∙ owner_eq-true now.owner Page k) ∙ page)
          (λ k. ap (is_there w) (sym (owner-part_of w o)) ∙ sym (ap (λ b. b || is_there w now.owner) k) ∙ h)

-- signals that go
pub signals-whole : (w : World) (o : Owner) → IsLiveWhole w → IsLiveWhole (without_signals w o)
signals-whole w o i = record {
  kinds = i.kinds;
  owners = record {
    first = i.owners.first;
    unmade = i.owners.unmade;
    made = i.owners.made;
    turn = tt;
    tasks = tt;
    signalled = all-filter (λ (s : NodeName). IsThere w s.owner) (λ s. not (is_owned_by o s)) w.signalled i.owners.signalled;
  };
  whole = record {
    tables = i.whole.tables;
    records = i.whole.records;
    first = i.whole.first;
    signalled = all-filter (IsNodeAt w) (λ s. not (is_owned_by o s)) w.signalled i.whole.signalled;
  };
}

-- other tasks
pub tasks-whole : (w : World) (ts : List Task) → IsLiveWhole w → IsLiveWhole (record w { tasks = ts })
tasks-whole w ts i = record {
  kinds = i.kinds;
  owners = i.owners;
  whole = record { tables = i.whole.tables; records = i.whole.records; first = i.whole.first; signalled = i.whole.signalled };
}
