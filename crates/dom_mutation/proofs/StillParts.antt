-- What every step leaves in an owner's part, whether it fits there or not: kinds, and what the owner has beside its trees.
use Rattle.dom_mutation.proofs.Cited.{◌≡◌, ◌≤◌, ◌<◌, ℕ, zero, suc, true, List, [], ◌∷◌, ◌++◌, fold, map, Option, Some, None, refl, sym, ap, ◌∙◌, arith}
use Rattle.dom_mutation.proofs.Cited.{true≢false, subst, find, unwrap_or, slice_get, slice_set, option_map, is_some, AllByRecursion, option_flatten}
use Rattle.dom_mutation.proofs.Cited.{option_map_or, cond-true, cond-false, slice_get-map, Kind, NodeName, name_eq, Part, next_name, queue_of, Boundary}
use Rattle.dom_mutation.proofs.Cited.{Range, map_ends, Step, make, make_room, place, take_out, set_document, set_attribute, replace_data, split_at}
use Rattle.dom_mutation.proofs.Cited.{join_at, set_range, queue_record, part_step, leave, after, interested_in, record_in, Trees, Node, nodes, node_in}
use Rattle.dom_mutation.proofs.Cited.{no_node, kind_of, has_node, parent_of, name_eq-true, AllNodes, IsPart, has_node-times, count-grows, read-all}
use Rattle.dom_mutation.proofs.Cited.{NewHas, nodes-listed, nodes-then, found-there, by_cases, HasStill, HasStillTables, nodes-step, is_some-map}

-- Places of lists.
still-map : {X Y : Type 0} (f : X → Y) (xs : List X) (k : ℕ) → is_some (slice_get xs k) ≡ true → is_some (slice_get (map f xs) k) ≡ true
still-map f xs k h = ap is_some (slice_get-map f xs k) ∙ (is_some-map f (slice_get xs k) ∙ h)

-- one that is written
pub still-set : {X : Type 0} (xs : List X) (j : ℕ) (x : X) → HasStill xs (slice_set xs j x)
still-set [] j x k h = h
still-set (y ∷ xs) zero x zero h = refl
still-set (y ∷ xs) zero x (suc k) h = h
still-set (y ∷ xs) (suc j) x zero h = refl
still-set (y ∷ xs) (suc j) x (suc k) h = still-set xs j x k h

-- more of them
pub still-more : {X : Type 0} (xs ys : List X) → HasStill xs (xs ++ ys)
still-more [] ys k h = absurd (true≢false (sym h))
still-more (x ∷ xs) ys zero h = refl
still-more (x ∷ xs) ys (suc k) h = still-more xs ys k h

-- each of some that are written
pub still-each : {X : Type 0} (f : List X → ℕ → X) (ks : List ℕ) (xs : List X) → HasStill xs (fold (λ ys j. slice_set ys j (f ys j)) xs ks)
still-each f [] xs k h = h
still-each f (j ∷ ks) xs k h = still-each f ks (slice_set xs j (f xs j)) k (still-set xs j (f xs j) k h)

-- Live ranges with other ends.
still-moved : (f : Boundary NodeName → Boundary NodeName) (rs : List (Option (Range NodeName))) (k : ℕ) →
    is_some (option_flatten (slice_get rs k)) ≡ true → is_some (option_flatten (slice_get (map (option_map (map_ends f)) rs) k)) ≡ true
still-moved f rs k h = ap (λ o. is_some (option_flatten o)) (slice_get-map (option_map (map_ends f)) rs k) ∙ (same (slice_get rs k) ∙ h)
  where
    same : (o : Option (Option (Range NodeName))) → is_some (option_flatten (option_map (option_map (map_ends f)) o)) ≡ is_some (option_flatten o)
    same (Some None) = refl
    same o = refl

-- where one gets ends
still-given : (rs : List (Option (Range NodeName))) (j : ℕ) (r : Range NodeName) (k : ℕ) →
    is_some (option_flatten (slice_get rs k)) ≡ true → is_some (option_flatten (slice_get (slice_set rs j (Some r)) k)) ≡ true
still-given [] j r k h = h
still-given (x ∷ rs) zero r zero h = refl
still-given (x ∷ rs) zero r (suc k) h = h
still-given (x ∷ rs) (suc j) r zero h = h
still-given (x ∷ rs) (suc j) r (suc k) h = still-given rs j r k h

-- where one that is there gets ends
pub still-mapped : (rs : List (Option (Range NodeName))) (j : ℕ) (f : Range NodeName → Range NodeName) (k : ℕ) →
    is_some (option_flatten (slice_get rs k)) ≡ true →
    is_some (option_flatten (slice_get (slice_set rs j (option_map f (option_flatten (slice_get rs j)))) k)) ≡ true
still-mapped [] j f k h = h
still-mapped (x ∷ rs) zero f zero h = is_some-map f x ∙ h
still-mapped (x ∷ rs) zero f (suc k) h = h
still-mapped (x ∷ rs) (suc j) f zero h = h
still-mapped (x ∷ rs) (suc j) f (suc k) h = still-mapped rs j f k h

-- where more come
pub still-longer : (rs more : List (Option (Range NodeName))) (k : ℕ) → is_some (option_flatten (slice_get rs k)) ≡ true →
    is_some (option_flatten (slice_get (rs ++ more) k)) ≡ true
still-longer [] more k h = absurd (true≢false (sym h))
still-longer (r ∷ rs) more zero h = h
still-longer (r ∷ rs) more (suc k) h = still-longer rs more k h

-- Tables: all as they were, and with live ranges that have other ends.
pub tables-same : (p q : Part) → q.ranges ≡ p.ranges → q.iterators ≡ p.iterators → q.walkers ≡ p.walkers → q.record_queues ≡ p.record_queues →
    HasStillTables p q
tables-same p q r i w o =
    record {
      ranges = λ k h. ap (λ (rs : List (Option (Range NodeName))). is_some (option_flatten (slice_get rs k))) r ∙ h;
      iterators = λ k h. ap (λ xs. is_some (slice_get xs k)) i ∙ h;
      walkers = λ k h. ap (λ xs. is_some (slice_get xs k)) w ∙ h;
      observers = λ k h. ap (λ xs. is_some (slice_get xs k)) o ∙ h;
    }

tables-moved : (p : Part) (f : Boundary NodeName → Boundary NodeName) → HasStillTables p (record p { ranges = map (option_map (map_ends f)) p.ranges })
tables-moved p f = record { ranges = still-moved f p.ranges; iterators = λ k h. h; walkers = λ k h. h; observers = λ k h. h }

-- after a step
tables-step : (p : Part) (s : Step) → HasStillTables p (part_step p s)
tables-step p (make n) = tables-same p _ refl refl refl refl
tables-step p (make_room parent index count) = tables-moved p _
tables-step p (place x parent before) = tables-same p _ refl refl refl refl
tables-step p (take_out x) = from (parent_of p.trees x)
  where
    from : (o : Option NodeName) → HasStillTables p (option_map_or (leave p x) o p)
    from None = tables-same p p refl refl refl refl
    from (Some parent) = record { ranges = still-moved _ p.ranges; iterators = still-map _ p.iterators; walkers = λ k h. h; observers = λ k h. h }
tables-step p (set_document x d) = tables-same p _ refl refl refl refl
tables-step p (set_attribute x a v) = tables-same p _ refl refl refl refl
tables-step p (replace_data x offset count new) =
    record { ranges = still-moved _ p.ranges; iterators = λ k h. h; walkers = λ k h. h; observers = λ k h. h }
tables-step p (split_at x offset new parent index) = tables-moved p _
tables-step p (join_at first size next parent index) = tables-moved p _
tables-step p (set_range k r) = record { ranges = still-given p.ranges k r; iterators = λ k h. h; walkers = λ k h. h; observers = λ k h. h }
tables-step p (queue_record c) =
    record {
      ranges = λ k h. h;
      iterators = λ k h. h;
      walkers = λ k h. h;
      observers = still-each (λ queues k. queue_of queues k ++ record_in p c k ∷ []) (interested_in p c) p.record_queues;
    }

-- Kinds: all nodes of a name are of a kind.
abbrev pub IsKindAt : NodeName → Kind → Node → Type 0
IsKindAt x k n = name_eq n.name x ≡ true → n.kind ≡ k

-- after a step
kinds-step : (p : Part) (s : Step) (x : NodeName) (k : Kind) → x.number < p.node_count → AllNodes (IsKindAt x k) p.trees →
    AllNodes (IsKindAt x k) (part_step p s).trees
kinds-step p s x k few h = nodes-step (IsKindAt x k) (λ n m named kinded g e. kinded ∙ g (sym (ap (λ y. name_eq y x) named) ∙ e)) p s h (new s)
  where
    new : (s : Step) → NewHas (IsKindAt x k) p s
    new (make n) = λ e. absurd (let same : p.node_count ≡ x.number = ap (λ (y : NodeName). y.number) (name_eq-true (next_name p) x e) in omega arith)
    new s = tt

-- the kind that is read, of a node that is there
found-kind : (x : NodeName) (k : Kind) (ns : List Node) (m : Node) → AllByRecursion (IsKindAt x k) ns → find (λ (n : Node). name_eq n.name x) ns ≡ Some m →
    m.kind ≡ k
found-kind x k [] m h e = cc
found-kind x k (n ∷ ns) m h e =
    by_cases (name_eq n.name x)
    (λ f. let is : Some n ≡ Some m = sym (cond-true (name_eq n.name x) (Some n) (find (λ (n : Node). name_eq n.name x) ns) f) ∙ e in
    let same : n ≡ m = cc in subst (λ (j : Node). j.kind ≡ k) same (h.0 f))
    (λ f. found-kind x k ns m h.1 (sym (cond-false (name_eq n.name x) (Some n) (find (λ (n : Node). name_eq n.name x) ns) f) ∙ e))

pub kind-read : (ts : Trees) (x : NodeName) (k : Kind) → has_node ts x ≡ true → AllNodes (IsKindAt x k) ts → kind_of ts x ≡ k
kind-read ts x k there h =
    let at = found-there ts x (has_node-times ts x there) in
    ap (λ (o : Option Node). (unwrap_or o (no_node x)).kind) at.1 ∙ found-kind x k (nodes ts) at.0 (nodes-listed (IsKindAt x k) ts h) at.1

-- What steps leave.
pub record KeepsPart (p q : Part) : Type 0 where
  pub count : p.node_count ≤ q.node_count
  pub kinds : (x : NodeName) (k : Kind) → x.number < p.node_count → AllNodes (IsKindAt x k) p.trees → AllNodes (IsKindAt x k) q.trees
  pub tables : HasStillTables p q

-- no change, one change after another, and a step
pub keeps-same : (p : Part) → KeepsPart p p
keeps-same p = record { count = omega arith; kinds = λ x k few h. h; tables = tables-same p p refl refl refl refl }

pub tables-then : (p q r : Part) → HasStillTables p q → HasStillTables q r → HasStillTables p r
tables-then p q r a b =
    record {
      ranges = λ k h. b.ranges k (a.ranges k h);
      iterators = λ k h. b.iterators k (a.iterators k h);
      walkers = λ k h. b.walkers k (a.walkers k h);
      observers = λ k h. b.observers k (a.observers k h);
    }

pub keeps-then : (p q r : Part) → KeepsPart p q → KeepsPart q r → KeepsPart p r
keeps-then p q r a b =
    record {
      count = let x = a.count in let y = b.count in omega arith;
      kinds = λ x k few h. b.kinds x k (let y = a.count in omega arith) (a.kinds x k few h);
      tables = tables-then p q r a.tables b.tables;
    }

pub keeps-step : (p : Part) (s : Step) → KeepsPart p (part_step p s)
keeps-step p s = record { count = count-grows p s; kinds = kinds-step p s; tables = tables-step p s }

-- many steps
pub keeps-steps : (p : Part) (steps : List Step) → KeepsPart p (after p steps)
keeps-steps p [] = keeps-same p
keeps-steps p (s ∷ steps) = keeps-then p (part_step p s) (after (part_step p s) steps) (keeps-step p s) (keeps-steps (part_step p s) steps)

-- So a node that is there before and afterwards has the kind that it had.
pub kind-kept : {p q : Part} → IsPart p → KeepsPart p q → (x : NodeName) → has_node p.trees x ≡ true → has_node q.trees x ≡ true →
    kind_of q.trees x ≡ kind_of p.trees x
kind-kept {p} {q} i h x was now =
    let there = has_node-times p.trees x was in
    kind-read q.trees x (kind_of p.trees x) now
    (h.kinds x (kind_of p.trees x) (i.numbered x there)
    (nodes-then (λ (n : Node). name_eq n.name x ≡ true → n ≡ node_in p.trees x) (IsKindAt x (kind_of p.trees x))
    (λ n g e. ap (λ (m : Node). m.kind) (g e)) p.trees (read-all p.trees x i.unique there)))
