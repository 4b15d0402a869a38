-- A world as the machine reaches it stays one where an owner's part is written with other listeners, record queues, registrations and pending
-- observers, and where the owner's slots are not signalled any more.
use Rattle.dom_commands.proofs.Cited.{◌≡◌, ℕ, ◌<◌, true, not, List, length, filter, refl, sym, ap, ◌∙◌, subst, true≢false, AllByRecursion}
use Rattle.dom_commands.proofs.Cited.{all-filter, all-then, each-part, has_owner, HasBounds, IsBounded, IsNodeIn, IsThere, owners_in}
use Rattle.dom_commands.proofs.Cited.{owners-put, Stands, task_owner, there-listed, there-with_part, MachineNow, IsAtRest, AreAtNodes, option_to_list}
use Rattle.dom_model.proofs.Model.{Owner, Page, NodeName, World, Part, part_of, with_part, is_there, Listener, owner-part_of, without_signals}
use Rattle.dom_model.proofs.Model.{is_owned_by, Change, Registration, first_node, first_of}
use Rattle.dom_worlds.specs.Definitions.{HasKinds, HasRecords, HasTables, components_of, is_made_by, is_unmade, IsForeignTo, IsHost, IsListenerIn, IsNodeAt}
use Rattle.dom_worlds.specs.Definitions.{IsRecordIn, IsRegistrationIn}
use Rattle.dom_worlds.proofs.OwnerLemmas.{world-alike}

-- a part with other such tables
abbrev pub with_tables : Part → List (Listener NodeName) → List (List (Change NodeName)) → List (Registration NodeName) → List ℕ → Part
with_tables p ls qs rs ks = record p { listeners = ls; record_queues = qs; registrations = rs; pending = ks }

-- they name what is there
pub record FitTables (p : Part) (q : Part) : Type 0 where
  pub listeners : AllByRecursion (IsListenerIn p.trees) q.listeners
  pub registrations : AllByRecursion (IsRegistrationIn p.trees (length q.record_queues)) q.registrations
  pub pending : AllByRecursion (λ k. k < length q.record_queues) q.pending
  pub records : AllByRecursion (AllByRecursion (IsRecordIn p.trees)) q.record_queues

module _ (w : World) (o : Owner) (here : is_there w o ≡ true) (i : Stands w) (ls : List (Listener NodeName)) (qs : List (List (Change NodeName)))
    (rs : List (Registration NodeName)) (ks : List ℕ) (f : FitTables (part_of w o) (with_tables (part_of w o) ls qs rs ks)) where
  -- the part of the owner
  abbrev was : Part
  was = part_of w o

  -- what is written
  abbrev now : Part
  now = with_tables was ls qs rs ks

  -- what a part has after it
  record Stays (x : Owner) (p : Part) : Type 0 where
    kinds : HasKinds p
    tables : HasTables p
    records : HasRecords p
    trees : p.trees ≡ (part_of w x).trees
    count : p.node_count ≡ (part_of w x).node_count
    attached : p.attached ≡ (part_of w x).attached
    first : IsThere w x → IsNodeIn p.trees (first_node p)

  -- the part that is written has it
  stays-own : Stays o now
  stays-own =
      let k = i.reached.kinds o in
      let t = i.whole.tables o in
      record {
        kinds = record {
          shadows = k.shadows;
          hosts = all-then (IsHost was) (IsHost now) (λ x h. record { made = h.made; element = h.element }) was.attached k.hosts;
          once = k.once;
        };
        tables = record {
          hosts = t.hosts;
          ranges = t.ranges;
          iterators = t.iterators;
          walkers = t.walkers;
          registrations = f.registrations;
          pending = f.pending;
          listeners = f.listeners;
        };
        records = f.records;
        trees = refl;
        count = refl;
        attached = refl;
        first = i.whole.first o;
      }

  -- every part
  stays-each : (x : Owner) → Stays x (part_of (with_part w now) x)
  stays-each = each-part Stays w now o (owner-part_of w o) stays-own (λ x. record {
    kinds = i.reached.kinds x;
    tables = i.whole.tables x;
    records = i.whole.records x;
    trees = refl;
    count = refl;
    attached = refl;
    first = i.whole.first x;
  })

  -- so the world stands
  pub written-stands : Stands (with_part w now)
  written-stands =
      let u = with_part w now in
      let owners : owners_in u ≡ owners_in w = owners-put w.parts now (ap (is_there w) (owner-part_of w o) ∙ here) in
      let more : (x : Owner) → is_there w x ≡ true → is_there u x ≡ true = there-with_part w now in
      record {
        reached = record {
          world = world-alike u (λ x. record { trees = (stays-each x).trees; count = (stays-each x).count; attached = (stays-each x).attached })
              (more Page) i.reached.world.signalled i.reached.world.tasks i.reached.world;
          kinds = λ x. (stays-each x).kinds;
          owners = record {
            first = ap first_of owners ∙ i.reached.owners.first;
            unmade = ap (filter is_unmade) owners ∙ i.reached.owners.unmade;
            made = λ x. ap (filter (is_made_by x)) owners ∙ i.reached.owners.made x ∙
                ap (λ hs. components_of x (length hs)) (sym (stays-each x).attached);
            turn = all-then (IsThere w) (IsThere u) (λ x h. more x h) (option_to_list w.turn) i.reached.owners.turn;
            tasks = all-then (λ t. IsThere w (task_owner t)) (λ t. IsThere u (task_owner t)) (λ t h. more (task_owner t) h) w.tasks i.reached.owners.tasks;
            signalled = all-then (λ (s : NodeName). IsThere w s.owner) (λ s. IsThere u s.owner) (λ s h. more s.owner h) w.signalled
                i.reached.owners.signalled;
          };
          logs = λ e. absurd (true≢false (sym e));
        };
        whole = record {
          tables = λ x. (stays-each x).tables;
          records = λ x. (stays-each x).records;
          first = λ x k. (stays-each x).first (there-listed w.parts x ∙ ap (λ os. has_owner os x) (sym owners) ∙ sym (there-listed u.parts x) ∙ k);
          signalled = all-then (IsNodeAt w) (IsNodeAt u) (λ x k. subst (λ ts. IsNodeIn ts x) (sym (stays-each x.owner).trees) k) w.signalled
              i.whole.signalled;
        };
      }

  -- and live ranges end within their nodes
  pub written-bounded : IsBounded w → IsBounded (with_part w now)
  written-bounded b = each-part (λ x q. HasBounds q) w now o (owner-part_of w o) (record { ranges = (b o).ranges; leaves = (b o).leaves }) b

-- signals that go
module _ (w : World) (o : Owner) (i : Stands w) where
  pub signals-stand : Stands (without_signals w o)
  signals-stand =
      let kept = λ (s : NodeName). not (is_owned_by o s) in
      let r = i.reached in
      record {
        reached = record {
          world = record {
            page = r.world.page;
            parts = r.world.parts;
            hosts = r.world.hosts;
            makers = r.world.makers;
            shadow_roots = r.world.shadow_roots;
            signalled = all-filter (IsForeignTo Page) kept w.signalled r.world.signalled;
            tasks = r.world.tasks;
          };
          kinds = r.kinds;
          owners = record {
            first = r.owners.first;
            unmade = r.owners.unmade;
            made = r.owners.made;
            turn = r.owners.turn;
            tasks = r.owners.tasks;
            signalled = all-filter (λ (s : NodeName). IsThere w s.owner) kept w.signalled r.owners.signalled;
          };
          logs = r.logs;
        };
        whole = record {
          tables = i.whole.tables;
          records = i.whole.records;
          first = i.whole.first;
          signalled = all-filter (IsNodeAt w) kept w.signalled i.whole.signalled;
        };
      }

-- a machine at rest stands
pub rest-stands : (m : MachineNow) → IsAtRest m → Stands m.world
rest-stands m s = record { reached = s.reached; whole = s.whole }

-- and one that stands, with its listeners at nodes, is at rest
pub at_rest : (n : MachineNow) {w : World} → n.world ≡ w → AreAtNodes n → Stands w → IsBounded w → IsAtRest n
at_rest n e at s b =
    let t = subst Stands (sym e) s in
    record { listeners = at; reached = t.reached; whole = t.whole; bounds = subst IsBounded (sym e) b }
