-- What a call of a `Doc` leaves of its nodes and of what each owner has, by what its contract says of the world; and its new node.
use Rattle.dom_mutation.proofs.Cited.{◌≡◌, ◌<◌, ℕ, true, false, List, [], ◌∷◌, ◌++◌, length, Some, refl, sym, ap, ◌∙◌, arith, subst, unwrap_or, get_or-append}
use Rattle.dom_mutation.proofs.Cited.{get_or-append_seam, length-append, NodeName, Owner, Page, Plan, Command, attaching, first_of, node_of, Value, Said, Part}
use Rattle.dom_mutation.proofs.Cited.{empty_part, next_name, Step, make, Trees, Node, kind_of, has_node, with_name, notified, World, find_part, part_of}
use Rattle.dom_mutation.proofs.Cited.{with_part, is_there, component_made, world_after, owner-part_of, part_of-stepped, AllNodes, absent-any, next-absent}
use Rattle.dom_mutation.proofs.Cited.{each-part, nodes-with_node, DocState, MakesSaying, made, name_in, owner_in, trees_in, HasNodes, HasStillAll, DropsNone}
use Rattle.dom_mutation.proofs.Cited.{name_at, none_pending, after_telling}
use Rattle.dom_model.proofs.Model.{stepped}
use Rattle.dom_mutation.proofs.StillEffects.{KeepsTables, KeepsEffect, effect-still}
use Rattle.dom_mutation.proofs.StillParts.{IsKindAt, kind-kept, kind-read, still-each, tables-same, tables-then}
use Rattle.dom_mutation.proofs.StillWorlds.{KeepsWorld, keeps-world_after, keeps-attaching}

-- the names that were there
names-still : (xs ys zs : List NodeName) → ys ≡ xs ++ zs → (k : ℕ) → k < length xs → name_at ys k ≡ name_at xs k
names-still xs ys zs e k h = ap (λ (ns : List NodeName). name_at ns k) e ∙ get_or-append xs zs (node_of Page 0) k h

-- States before and after a call that made an owner's plan: all nodes stand, and names come behind those that were there.
pub record IsPlanned (was now : DocState) (o : Owner) (plan : Plan) (more : List NodeName) : Type 0 where
  pub before : HasNodes was
  pub after : HasNodes now
  pub names : now.names ≡ was.names ++ more
  pub world : now.world ≡ made o plan was.world

-- Where all nodes stand and names come behind those that were there:
module _ (was now : DocState) (more : List NodeName) (before : HasNodes was) (after : HasNodes now) (longer : now.names ≡ was.names ++ more) where
  -- kinds and tables stay as the parts do,
  still-kept : KeepsWorld was.world now.world → HasStillAll was now
  still-kept keeps =
      record {
        nodes = record { nodes = there; names = names-still was.names now.names more longer; kinds = kinds };
        tables = λ q. (keeps q).tables;
      }
    where
      there : (k : ℕ) → k < length was.names → k < length now.names
      there k few = let a = ap length longer ∙ length-append was.names more in omega arith

      kinds : (k : ℕ) → k < length was.names → kind_of (trees_in now k) (name_in now k) ≡ kind_of (trees_in was k) (name_in was k)
      kinds k few =
          let x = name_in was k in
          let named : name_in now k ≡ x = names-still was.names now.names more longer k few in
          ap (λ (y : NodeName). kind_of (part_of now.world y.owner).trees y) named
          ∙ kind-kept (before.parts x.owner) (keeps x.owner) x (before.stand k few)
          (subst (λ (y : NodeName). has_node (part_of now.world y.owner).trees y ≡ true) named (after.stand k (there k few)))

  -- as after the attaching of a new component
  pub still-attaching : (host : ℕ) → now.world ≡ (attaching was.world (owner_in was host) (name_in was host)).0 →
      is_there was.world (component_made (owner_in was host) (length (part_of was.world (owner_in was host)).attached)) ≡ false → HasStillAll was now
  still-attaching host e fresh =
      still-kept (subst (KeepsWorld was.world) (sym e) (keeps-attaching was.world (owner_in was host) (name_in was host) fresh))

-- So it is after a plan.
pub still-plan : (was now : DocState) (o : Owner) (plan : Plan) (more : List NodeName) → IsPlanned was now o plan more → HasStillAll was now
still-plan was now o plan more is =
    still-kept was now more is.before is.after is.names
    (subst (KeepsWorld was.world) (sym is.world) (keeps-world_after o was.world (plan (part_of was.world o))))

-- nothing changes
tables-kept : (p : Part) → KeepsTables p p
tables-kept p = record { trees = refl; tables = tables-same p p refl refl refl refl }

-- The names stay.
module _ (was now : DocState) (e : now.names ≡ was.names) where
  -- Where the trees of all parts stay as they were.
  pub still-tables : ((o : Owner) → KeepsTables (part_of was.world o) (part_of now.world o)) → HasStillAll was now
  still-tables h =
      record {
        nodes = record {
          nodes = λ k few. let a = ap length e in omega arith;
          names = λ k few. ap (λ (ns : List NodeName). name_at ns k) e;
          kinds = λ k few.
              let named : name_in now k ≡ name_in was k = ap (λ (ns : List NodeName). name_at ns k) e in
              ap (λ (y : NodeName). kind_of (part_of now.world y.owner).trees y) named
              ∙ ap (λ (ts : Trees). kind_of ts (name_in was k)) (h (name_in was k).owner).trees;
        };
        tables = λ o. (h o).tables;
      }

  -- After a command that changes tables alone, and drops no live range.
  pub still-makes : (o : Owner) (c : Command) (lines : List Said) (v : Value) → DropsNone c → MakesSaying o c lines v was.world now.world → HasStillAll was now
  still-makes o c lines v d m =
      still-tables
      (subst (λ (w : World). (q : Owner) → KeepsTables (part_of was.world q) (part_of w q)) (sym m.1)
      (each-part (λ q r. KeepsTables (part_of was.world q) r) was.world (part_of now.world o) o (owner-part_of now.world o)
      (subst (KeepsEffect (part_of was.world o)) m.0 (effect-still (part_of was.world o) c d)) (λ q. tables-kept (part_of was.world q))))

  -- After a notification.
  pub still-notified : (o : Owner) → now.world ≡ with_part was.world (notified (part_of was.world o)) → HasStillAll was now
  still-notified o m =
      let p = part_of was.world o in
      still-tables
      (subst (λ (w : World). (q : Owner) → KeepsTables (part_of was.world q) (part_of w q)) (sym m)
      (each-part (λ q r. KeepsTables (part_of was.world q) r) was.world (notified p) o (owner-part_of was.world o)
      (record {
        trees = refl;
        tables = record {
          ranges = λ k h. h;
          iterators = λ k h. h;
          walkers = λ k h. h;
          observers = still-each (λ queues k. []) p.pending p.record_queues;
        };
      }) (λ q. tables-kept (part_of was.world q))))

  -- After the pending observers of an owner were taken.
  pub still-pending : (o : Owner) → now.world ≡ with_part was.world (none_pending (part_of was.world o)) → HasStillAll was now
  still-pending o m =
      let p = part_of was.world o in
      still-tables
      (subst (λ (w : World). (q : Owner) → KeepsTables (part_of was.world q) (part_of w q)) (sym m)
      (each-part (λ q r. KeepsTables (part_of was.world q) r) was.world (none_pending p) o (owner-part_of was.world o)
      (record {
        trees = refl;
        tables = record { ranges = λ k h. h; iterators = λ k h. h; walkers = λ k h. h; observers = λ k h. h };
      }) (λ q. tables-kept (part_of was.world q))))

  -- After one observer was told.
  pub still-telling : (o : Owner) (n : ℕ) → now.world ≡ with_part was.world (after_telling n (part_of was.world o)) → HasStillAll was now
  still-telling o n m =
      let p = part_of was.world o in
      still-tables
      (subst (λ (w : World). (q : Owner) → KeepsTables (part_of was.world q) (part_of w q)) (sym m)
      (each-part (λ q r. KeepsTables (part_of was.world q) r) was.world (after_telling n p) o (owner-part_of was.world o)
      (record {
        trees = refl;
        tables = record {
          ranges = λ k h. h;
          iterators = λ k h. h;
          walkers = λ k h. h;
          observers = still-each (λ queues k. []) (n ∷ []) p.record_queues;
        };
      }) (λ q. tables-kept (part_of was.world q))))

  -- Where no part changes.
  pub still-parts : now.world.parts ≡ was.world.parts → HasStillAll was now
  still-parts m =
      still-tables
      (λ o. subst (λ (ps : List Part). KeepsTables (part_of was.world o) (unwrap_or (find_part ps o) (empty_part o))) (sym m)
      (tables-kept (part_of was.world o)))

-- One call after another.
pub still-then : (a b c : DocState) → HasStillAll a b → HasStillAll b c → HasStillAll a c
still-then a b c h g =
    record {
      nodes = record {
        nodes = λ k few. g.nodes.nodes k (h.nodes.nodes k few);
        names = λ k few. g.nodes.names k (h.nodes.nodes k few) ∙ h.nodes.names k few;
        kinds = λ k few. g.nodes.kinds k (h.nodes.nodes k few) ∙ h.nodes.kinds k few;
      };
      tables = λ o. tables-then (part_of a.world o) (part_of b.world o) (part_of c.world o) (h.tables o) (g.tables o);
    }

-- The new node's name.
pub new-named : (was now : DocState) (x : NodeName) (more : List NodeName) → now.names ≡ was.names ++ x ∷ more →
    (length was.names < length now.names) × (name_in now (length was.names) ≡ x)
new-named was now x more e = (
  let a = ap length e ∙ length-append was.names (x ∷ more) in omega arith,
  ap (λ (ns : List NodeName). name_at ns (length was.names)) e ∙ get_or-append_seam was.names x more (node_of Page 0),
)

-- and its kind, where it is the first step of the plan to make it
pub new-kind : {was now : DocState} {o : Owner} {plan : Plan} (n : Node) {more : List NodeName} →
    IsPlanned was now o plan (next_name (part_of was.world o) ∷ more) →
    first_of (plan (part_of was.world o)) ≡ Some (make n) → kind_of (trees_in now (length was.names)) (name_in now (length was.names)) ≡ n.kind
new-kind {was} {now} {o} {plan} n {more} is f =
    let p = part_of was.world o in
    let x = next_name p in
    let fresh = new-named was now x more is.names in
    let q = part_of now.world o in
    let mine : x.owner ≡ o = owner-part_of was.world o in
    ap (λ (y : NodeName). kind_of (part_of now.world y.owner).trees y) fresh.1
    ∙ ap (λ (r : Owner). kind_of (part_of now.world r).trees x) mine
    ∙ kind-read q.trees x n.kind
    (subst (λ (r : Owner). has_node (part_of now.world r).trees x ≡ true) mine
    (subst (λ (y : NodeName). has_node (part_of now.world y.owner).trees y ≡ true) fresh.1 (is.after.stand (length was.names) fresh.0)))
    (subst (λ (v : World). AllNodes (IsKindAt x n.kind) (part_of v o).trees) (sym is.world) (from (plan p) f))
  where
    p : Part
    p = part_of was.world o

    first : AllNodes (IsKindAt (next_name p) n.kind) (part_of (stepped o was.world (make n)) o).trees
    first = subst (λ (r : Part). AllNodes (IsKindAt (next_name p) n.kind) r.trees) (sym (part_of-stepped was.world o (make n)))
        (nodes-with_node (IsKindAt (next_name p) n.kind) (with_name (next_name p) n) p.trees (λ t. refl)
        (absent-any (λ m. m.kind ≡ n.kind) p.trees (next_name p) (next-absent p (is.before.parts o))))

    from : (steps : List Step) → first_of steps ≡ Some (make n) →
        AllNodes (IsKindAt (next_name p) n.kind) (part_of (world_after o was.world steps) o).trees
    from [] k = cc
    from (s ∷ steps) k =
        let same : s ≡ make n = cc in
        subst (λ (t : Step). AllNodes (IsKindAt (next_name p) n.kind) (part_of (world_after o was.world (t ∷ steps)) o).trees)
        (sym same)
        ((keeps-world_after o (stepped o was.world (make n)) steps o).kinds (next_name p) n.kind
        (subst (λ (r : Part). (next_name p).number < r.node_count) (sym (part_of-stepped was.world o (make n))) (omega arith)) first)
