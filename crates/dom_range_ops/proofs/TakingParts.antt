-- What may be taken item by item may be so still after each of them.
use Rattle.dom_range_ops.proofs.Cited.{suc, ℕ, ◌≡◌, true, false, not, List, [], ◌∷◌, Option, Some, None, refl, ◌∙◌, ⊤, AllByRecursion, NodeName, Observing}
use Rattle.dom_range_ops.proofs.Cited.{observed, making_room, placing, insert_plan, making_below, Change, Part, children_of, Step, make, take_out, part_step}
use Rattle.dom_range_ops.proofs.Cited.{after, Node, kind_of, count-step, ◌≤◌, ◌+◌, ◌-◌, ◌++◌, drop, sym, ap, subst, arith, Kind, Shadow, clone_part, next_name}
use Rattle.dom_range_ops.proofs.Cited.{replacing_data, Trees, node_in, has_data, is_shadow, is_inclusive_ancestor, with_name, HasBounds, IsPart}
use Rattle.dom_range_ops.proofs.Cited.{ancestor-inside, inside-no_ancestor, times-has_node, node-new, insertion-keeps, make-keeps, data-keeps, has_node-times}
use Rattle.dom_range_ops.proofs.Cited.{all-then, by_cases, next-absent, OldIn, old-may, old-still, leads-making_below, Changed, MayGo, Leads, still}
use Rattle.dom_range_ops.proofs.Cited.{after-append, leads-then, leads-eased, leads-nothing, leads-one, leads-inserting, new-there, new-may}
use Rattle.dom_range_ops.proofs.Cited.{leads-replacing_data, HasNode, Item, whole_item, cut_item, clone_item, end_item, made_by, top_of, taking_item}
use Rattle.dom_range_ops.proofs.Cited.{clones_after, IsTaker, IsTaken, MayBeTaken, MayTake, all-from, AreMoved, keeps-inserting, kept-after}

-- the step makes no node
abbrev MakesNone : Step → Type 0
MakesNone (make n) = ⊥
MakesNone s = ⊤

-- such a step
count-one : (p : Part) (s : Step) → MakesNone s → (part_step p s).node_count ≡ p.node_count
count-one p (make n) h = absurd h
count-one p (take_out x) h = count-step p (take_out x) (λ m. m)
count-one p s h = refl

-- the steps that move nodes are such
none-moved : (n : ℕ) → AreMoved (λ p. p.node_count ≡ n) MakesNone (λ x. ⊤) (λ x. ⊤)
none-moved n = record {
  step = λ p s h m. count-one p s m ∙ h;
  placing = λ x parent before h. tt;
  making_room = λ parent index count. tt;
  taking_out = λ x. tt;
  document = λ x d h. tt;
  placed_set = λ x h. tt;
  children_told = λ x added removed previous next. tt;
  children = λ p h x. all-from (λ y. ⊤) (λ y. tt) (children_of p.trees x);
}

-- an insertion
pub count-inserting : (how : Observing) (node parent : NodeName) (before : Option NodeName) (p : Part) →
    (after p (insert_plan how node parent before p)).node_count ≡ p.node_count
count-inserting how node parent before p =
    let moved = none-moved p.node_count in
    kept-after moved p (insert_plan how node parent before p) refl (keeps-inserting moved how node parent before tt p refl)

-- a new node below another one
pub count-making_below : (into : NodeName) (n : Node) (p : Part) → (after p (making_below into n p)).node_count ≡ suc p.node_count
count-making_below into n p = count-inserting observed n.name into None (part_step p (make n))

-- a node that is taken is an old one
pub old-of : (into : NodeName) (p : Part) (x : NodeName) → IsPart p → IsTaken into p.trees x → OldIn into.number p x
old-of into p x i t = record { there = has_node-times p.trees x t.there; alone = λ z k. inside-no_ancestor p.trees x z i.unique (t.apart z k) }

-- and back
pub taken-of : (into : NodeName) (p : Part) (x : NodeName) → OldIn into.number p x → IsTaken into p.trees x
taken-of into p x o =
    record {
      there = times-has_node p.trees x o.there;
      apart = λ z k. by_cases (is_inclusive_ancestor p.trees x z)
          (λ e. absurd (let a = ancestor-inside p.trees x z e in let b = o.alone z k in omega arith)) (λ e. e);
    }

-- A part that steps below a node have changed.
module _ (into top : NodeName) (p q : Part) (le : into.number ≤ top.number) (i : IsPart p) (c : Changed (Some top) p q) where
  -- after changes that place others below a taker
  taken-still : (x : NodeName) → IsTaken into p.trees x → IsTaken into q.trees x
  taken-still x t = taken-of into q x (old-still into.number top le c x (old-of into p x i t))

  -- each item
  item-still : (item : Item) → MayBeTaken into p.trees item → MayBeTaken into q.trees item
  item-still (whole_item x) h = (taken-still x h.0, ap is_shadow (c.kinds x (has_node-times p.trees x h.0.there)) ∙ h.1)
  item-still (cut_item x from to) h =
      (taken-still x h.0, ap has_data (c.kinds x (has_node-times p.trees x h.0.there)) ∙ h.1)
  item-still (clone_item x) h =
      let kind = c.kinds x (has_node-times p.trees x h.0.there) in
      (taken-still x h.0, ap has_data kind ∙ h.1, ap is_shadow kind ∙ h.2)
  item-still end_item h = tt

-- a taker stays one
taker-still : {spot : Option NodeName} (into : NodeName) (p q : Part) → Changed spot p q → (x : NodeName) → IsTaker into p.trees x → IsTaker into q.trees x
taker-still into p q c x t =
    let there = has_node-times p.trees x t.there in
    record { there = times-has_node q.trees x (still c x there); no_data = ap has_data (c.kinds x there) ∙ t.no_data; new = t.new }

-- the node into which items go is a taker
pub top-takes : (into : NodeName) (ts : Trees) (clones : List NodeName) → AllByRecursion (IsTaker into ts) (into ∷ clones) →
    IsTaker into ts (top_of into clones)
top-takes into ts [] h = h.0
top-takes into ts (x ∷ clones) h = h.1.0

-- What one item leaves.
record Leaves (into : NodeName) (clones : List NodeName) (p : Part) (steps : List Step) (item : Item) : Type 0 where
  leads : Leads (Some (top_of into clones)) p steps
  bounds : HasBounds (after p steps)
  takers : AllByRecursion (IsTaker into (after p steps).trees) (into ∷ clones_after (next_name p) item clones)

-- a new node below a taker
record IsPutBelow (into top : NodeName) (p : Part) (n : Node) : Type 0 where
  leads : Leads (Some top) p (making_below top n p)
  bounds : HasBounds (after p (making_below top n p))
  there : HasNode (after p (making_below top n p)) (next_name p)
  kind : kind_of (after p (making_below top n p)).trees (next_name p) ≡ n.kind

put-below : {into top : NodeName} {p : Part} (n : Node) → n.name ≡ next_name p → IsPart p → HasBounds p → IsTaker into p.trees top → IsPutBelow into top p n
put-below {into} {top} {p} n e i h t =
    let there = has_node-times p.trees top t.there in
    let q = part_step p (make n) in
    let first = leads-one p (make n) i tt in
    let may : MayGo top q n.name = subst (MayGo top q) (sym e) (new-may p n top i there) in
    let put = leads-inserting observed n.name top None first.changed.part may in
    let apart : is_inclusive_ancestor q.trees n.name top ≡ false =
    by_cases (is_inclusive_ancestor q.trees n.name top)
    (λ k. absurd (let a = ancestor-inside q.trees n.name top k in let b = may.apart in omega arith)) (λ k. k) in
    let taker = taker-still into p q first.changed top t in
    let made : node_in q.trees (next_name p) ≡ with_name (next_name p) n = node-new (with_name (next_name p) n) p.trees (next-absent p i) in
    record {
      leads = leads-making_below top n p e i there;
      bounds = insertion-keeps observed n.name top None q (record {
        part = first.changed.part;
        there = times-has_node q.trees n.name may.there;
        parent_there = taker.there;
        apart = apart;
        opened = taker.no_data;
        bounds = make-keeps p n i h;
      });
      there = still put.changed (next_name p) (new-there p n);
      kind = put.changed.kinds (next_name p) (new-there p n) ∙ ap (λ (m : Node). m.kind) made;
    }

-- each item
item-leaves : {into : NodeName} {clones : List NodeName} {p : Part} → IsPart p → HasBounds p →
    AllByRecursion (IsTaker into p.trees) (into ∷ clones) → into.number ≤ p.node_count → (item : Item) → MayBeTaken into p.trees item →
    Leaves into clones p (taking_item (top_of into clones) item p) item
item-leaves {into} {clones} {p} i h t le (whole_item x) m =
    let top = top_of into clones in
    let taker = top-takes into p.trees clones t in
    let may = old-may top i (old-of into p x i m.0) (has_node-times p.trees top taker.there) taker.new in
    let l = leads-inserting observed x top None i may in
    let q = after p (insert_plan observed x top None p) in
    record {
      leads = l;
      bounds = insertion-keeps observed x top None p (record {
        part = i;
        there = m.0.there;
        parent_there = taker.there;
        apart = m.0.apart top taker.new;
        opened = taker.no_data;
        bounds = h;
      });
      takers = all-then (IsTaker into p.trees) (IsTaker into q.trees) (taker-still into p q l.changed) (into ∷ clones) t;
    }
item-leaves {into} {clones} {p} i h t le (cut_item x from to) m =
    let top = top_of into clones in
    let n = clone_part (next_name p) from to (node_in p.trees x) in
    let put = put-below n refl i h (top-takes into p.trees clones t) in
    let one = making_below top n p in
    let q = after p one in
    let two = replacing_data x from (to - from) [] q in
    let l = leads-replacing_data x from (to - from) [] q put.leads.changed.part in
    let both = leads-then (Some top) p one two put.leads (leads-eased (Some top) q two l) in
    let r = after p (one ++ two) in
    let same = after-append p one two in
    let units : has_data (kind_of q.trees x) ≡ true = ap has_data (put.leads.changed.kinds x (has_node-times p.trees x m.0.there)) ∙ m.1 in
    record {
      leads = both;
      bounds = subst HasBounds (sym same) (data-keeps x from (to - from) [] q put.leads.changed.part units put.bounds);
      takers = all-then (IsTaker into p.trees) (IsTaker into r.trees) (taker-still into p r both.changed) (into ∷ clones) t;
    }
item-leaves {into} {clones} {p} i h t le (clone_item x) m =
    let top = top_of into clones in
    let n = with_name (next_name p) (node_in p.trees x) in
    let put = put-below n refl i h (top-takes into p.trees clones t) in
    let q = after p (making_below top n p) in
    let kept = all-then (IsTaker into p.trees) (IsTaker into q.trees) (taker-still into p q put.leads.changed) (into ∷ clones) t in
    record {
      leads = put.leads;
      bounds = put.bounds;
      takers = (kept.0, (record { there = times-has_node q.trees (next_name p) put.there; no_data = ap has_data put.kind ∙ m.1; new = le }, kept.1));
    }
item-leaves {into} {clones} {p} i h t le end_item m =
    record { leads = leads-nothing (Some (top_of into clones)) p i; bounds = h; takers = (t.0, dropped clones t.1) }
  where
    dropped : (xs : List NodeName) → AllByRecursion (IsTaker into p.trees) xs → AllByRecursion (IsTaker into p.trees) (drop 1 xs)
    dropped [] g = tt
    dropped (x ∷ xs) g = g.1

-- how many nodes there are then
pub count-item : (top : NodeName) (p : Part) (item : Item) → (after p (taking_item top item p)).node_count ≡ p.node_count + made_by (item ∷ [])
count-item top p (whole_item x) = let c = count-inserting observed x top None p in omega arith
count-item top p (cut_item x from to) =
    let n = clone_part (next_name p) from to (node_in p.trees x) in
    let one = making_below top n p in
    let q = after p one in
    let c = count-making_below top n p in let d = ap (λ (v : Part). v.node_count) (after-append p one (replacing_data x from (to - from) [] q)) in omega arith
count-item top p (clone_item x) = let c = count-making_below top (with_name (next_name p) (node_in p.trees x)) p in omega arith
count-item top p end_item = omega arith

-- of one item and of others
pub made-more : (item : Item) (items : List Item) → made_by (item ∷ items) ≡ made_by (item ∷ []) + made_by items
made-more (cut_item x from to) items = omega arith
made-more item items = omega arith

-- so the others may be taken then
pub takes-on : {into : NodeName} {clones : List NodeName} {p : Part} {item : Item} {items : List Item} → IsPart p → into.number ≤ p.node_count →
    MayTake p into clones (item ∷ items) →
    MayTake (after p (taking_item (top_of into clones) item p)) into (clones_after (next_name p) item clones) items
takes-on {into} {clones} {p} {item} {items} i le m =
    let top = top_of into clones in
    let left = item-leaves i m.bounds m.takers le item m.taken.0 in
    let q = after p (taking_item top item p) in
    record {
      bounds = left.bounds;
      takers = left.takers;
      taken = all-then (MayBeTaken into p.trees) (MayBeTaken into q.trees)
          (item-still into top p q (top-takes into p.trees clones m.takers).new i left.leads.changed) items m.taken.1;
      limited = let c = count-item top p item in let d = m.limited in let e = made-more item items in omega arith;
    }

-- a Text or a Comment is no shadow root
pub data-no_shadow : (k : Kind) → has_data k ≡ true → is_shadow k ≡ false
data-no_shadow Shadow h = sym h
data-no_shadow k h = refl
