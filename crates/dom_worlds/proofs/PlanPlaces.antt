-- The steps of plans fit where they are made: what is placed, is placed below a node that does not stand in its tree.
use Rattle.dom_base.proofs.Std.{◌≡◌, ◌≤◌, ℕ, Bool, true, false, not, List, [], ◌∷◌, ◌++◌, length, Option, Some, None, refl, sym, ap, ◌∙◌, arith, subst}
use Rattle.dom_base.proofs.Std.{if◌then◌else◌, ⊤, AllByRecursion, option_map_or}
use Rattle.dom_model.proofs.Model.{NodeName, name_eq, is_empty, Trees, Node, node_in, kind_of, is_fragment, subtree, children_of, parent_of, index_of, times_in}
use Rattle.dom_model.proofs.Model.{without, map_nodes, with_name, Change, child_list, Part, next_name, Step, make, make_room, place, take_out, set_document}
use Rattle.dom_model.proofs.Model.{set_attribute, replace_data, queue_record, part_step, leave, after, Plan, in_turn, steps_of, Observing, observed, suppressed}
use Rattle.dom_model.proofs.Model.{telling, removal_record, remove_plan, removing_from, has_document, changing_document, adopt_plan, document_below}
use Rattle.dom_model.proofs.Model.{placed_nodes, emptying, making_room, placing, sibling_before, insert_plan, owner-part_step, name_eq-true}
use Rattle.dom_worlds.specs.Definitions.{IsPart}
use Rattle.dom_worlds.proofs.Roots.{node-taken_out, node-placed, node-with_node, node-map_nodes}
use Rattle.dom_worlds.proofs.Lists.{all-then, all-from, by_cases, either_way, by_some, by_some_is}
use Rattle.dom_worlds.proofs.TreeChangeLaws.{HasRoot, root-put_root_new, root-subtree, root-map_nodes}
use Rattle.dom_laws.proofs.Laws.{times_subtree}
use Rattle.dom_worlds.proofs.PartSteps.{KeepsNames, part-step, next-absent, count-grows, attribute_put, attribute_put-keeps, data_put, data_put-keeps}
use Rattle.dom_worlds.proofs.PartSteps.{document_put, document_put-keeps}
use Rattle.dom_worlds.proofs.TableSteps.{fits-place, HasNode, Fits, MadeIn, stays-step}
use Rattle.dom_worlds.proofs.Insides.{CanPlace, inside, inside-taken_out, inside-placed, inside-with_node, inside-map_nodes, times-inside}
use Rattle.dom_worlds.proofs.InsideAncestors.{inside-nested, children-inside, no_parent-root}

-- Nodes of the tree of a do not come from a place outside of it.
abbrev pub ApartFrom : Option NodeName → Part → NodeName → Type 0
ApartFrom None p a = ⊤
ApartFrom (Some x) p a = inside p.trees a x ≡ 0

-- What changes keep: no node is lost, numbers are given once, and trees get others only where something is placed: below
-- the node given, if one is.
pub record Changed (spot : Option NodeName) (p q : Part) : Type 0 where
  pub owner : q.owner ≡ p.owner
  pub part : IsPart q
  pub count : p.node_count ≤ q.node_count
  pub there : (y : NodeName) → times_in p.trees y ≤ times_in q.trees y
  pub apart : (a z : NodeName) → HasNode p a → ApartFrom spot p a → inside p.trees a z ≡ 0 → inside q.trees a z ≡ 0
  pub kinds : (y : NodeName) → HasNode p y → kind_of q.trees y ≡ kind_of p.trees y

-- what is apart from the place stays so
stays-apart : {spot : Option NodeName} {p q : Part} → Changed spot p q → (a : NodeName) → HasNode p a → ApartFrom spot p a → ApartFrom spot q a
stays-apart {spot = None} c a t h = tt
stays-apart {spot = Some x} c a t h = c.apart a x t h h

-- a node that is there stays there
pub still : {spot : Option NodeName} {p q : Part} → Changed spot p q → (a : NodeName) → HasNode p a → HasNode q a
still c a h = let t = c.there a in omega arith

-- no change, and one change after another
pub changed-same : (spot : Option NodeName) (p : Part) → IsPart p → Changed spot p p
changed-same spot p i = record { owner = refl; part = i; count = omega arith; there = λ y. omega arith; apart = λ a z t h k. k; kinds = λ y t. refl }

-- one after another
pub changed-then : (spot : Option NodeName) (p q r : Part) → Changed spot p q → Changed spot q r → Changed spot p r
changed-then spot p q r c d =
    record {
      owner = d.owner ∙ c.owner;
      part = d.part;
      count = let a = c.count in let b = d.count in omega arith;
      there = λ y. let a = c.there y in let b = d.there y in omega arith;
      apart = λ a z t h k. d.apart a z (still c a t) (stays-apart c a t h) (c.apart a z t h k);
      kinds = λ y t. d.kinds y (still c y t) ∙ c.kinds y t;
    }

-- a change that places nothing
pub changed-eased : (spot : Option NodeName) (p q : Part) → Changed None p q → Changed spot p q
changed-eased spot p q c = record { owner = c.owner; part = c.part; count = c.count; there = c.there; apart = λ a z t h k. c.apart a z t tt k; kinds = c.kinds }

-- where a step places something
abbrev pub spot_of : Step → Option NodeName
spot_of (place x parent before) = Some parent
spot_of s = None

-- nodes with other contents
mapped-apart : (f : Node → Node) → KeepsNames f → (ts : Trees) (a z : NodeName) → inside ts a z ≡ 0 → inside (map_nodes f ts) a z ≡ 0
mapped-apart f h ts a z e = inside-map_nodes f (λ n. (h n).0) ts a z ∙ e

-- a node of a part in whose tree another one does not stand, and nothing is placed
record StandsApart (spot : Option NodeName) (p : Part) (a z : NodeName) : Type 0 where
  there : HasNode p a
  free : ApartFrom spot p a
  apart : inside p.trees a z ≡ 0

-- a step
apart-step : {p : Part} (s : Step) → IsPart p → (a z : NodeName) → StandsApart (spot_of s) p a z →
    inside (part_step p s).trees a z ≡ 0
apart-step {p} (make n) i a z h =
    let t = h.there in
    by_cases (name_eq (next_name p) a)
    (λ k. absurd (let b = next-absent p i in let same = ap (times_in p.trees) (name_eq-true (next_name p) a k) in omega arith))
    (λ k. inside-with_node (with_name (next_name p) n) p.trees a z k ∙ h.apart)
apart-step {p} (place x parent before) i a z h =
    let e = h.apart in
    let b = inside-placed p.trees x a z parent before i.unique h.free in omega arith
apart-step {p} (take_out x) i a z h =
    by_some (λ (o : Option NodeName). inside (option_map_or (leave p x) o p).trees a z ≡ 0) (parent_of p.trees x) h.apart
    (λ parent. let e = h.apart in let b = inside-taken_out p.trees x a z in omega arith)
apart-step {p} (set_document x d) i a z h = mapped-apart (document_put p.trees x d) (document_put-keeps p.trees x d) p.trees a z h.apart
apart-step {p} (set_attribute x b v) i a z h = mapped-apart (attribute_put x b v) (attribute_put-keeps x b v) p.trees a z h.apart
apart-step {p} (replace_data x offset count new) i a z h = mapped-apart (data_put x offset count new) (data_put-keeps x offset count new) p.trees a z h.apart
apart-step s i a z h = h.apart

-- kinds stay
mapped-kind : (f : Node → Node) → KeepsNames f → (ts : Trees) (y : NodeName) → 1 ≤ times_in ts y → kind_of (map_nodes f ts) y ≡ kind_of ts y
mapped-kind f h ts y t = ap (λ (n : Node). n.kind) (node-map_nodes f (λ n. (h n).0) ts y t) ∙ (h (node_in ts y)).1

-- under a step
kind-step : (p : Part) (s : Step) → IsPart p → Fits p s → (y : NodeName) → HasNode p y → kind_of (part_step p s).trees y ≡ kind_of p.trees y
kind-step p (make n) i h y t =
    by_cases (name_eq (next_name p) y)
    (λ k. absurd (let b = next-absent p i in let same = ap (times_in p.trees) (name_eq-true (next_name p) y k) in omega arith))
    (λ k. ap (λ (n : Node). n.kind) (node-with_node (with_name (next_name p) n) p.trees y i.unique t k))
kind-step p (place x parent before) i h y t = ap (λ (n : Node). n.kind) (node-placed before y (fits-place before i h) t)
kind-step p (take_out x) i h y t =
    by_some (λ (o : Option NodeName). kind_of (option_map_or (leave p x) o p).trees y ≡ kind_of p.trees y) (parent_of p.trees x) refl
    (λ parent. ap (λ (n : Node). n.kind) (node-taken_out p.trees x y i.unique t))
kind-step p (set_document x d) i h y t = mapped-kind (document_put p.trees x d) (document_put-keeps p.trees x d) p.trees y t
kind-step p (set_attribute x b v) i h y t = mapped-kind (attribute_put x b v) (attribute_put-keeps x b v) p.trees y t
kind-step p (replace_data x offset count new) i h y t = mapped-kind (data_put x offset count new) (data_put-keeps x offset count new) p.trees y t
kind-step p s i h y t = refl

-- is such a change
pub changed-step : (p : Part) (s : Step) → IsPart p → Fits p s → Changed (spot_of s) p (part_step p s)
changed-step p s i f =
    record {
      owner = owner-part_step p s;
      part = part-step p s i;
      count = count-grows p s;
      there = stays-step p s i f;
      apart = λ a z t h e. apart-step s i a z (record { there = t; free = h; apart = e });
      kinds = kind-step p s i f;
    }

-- Steps that fit, and what they change.
pub record Leads (spot : Option NodeName) (p : Part) (steps : List Step) : Type 0 where
  pub made : MadeIn p steps
  pub changed : Changed spot p (after p steps)

-- steps after steps
pub made-append : (p : Part) (xs ys : List Step) → MadeIn p xs → MadeIn (after p xs) ys → MadeIn p (xs ++ ys)
made-append p [] ys h g = g
made-append p (x ∷ xs) ys h g = (h.0, made-append (part_step p x) xs ys h.1 g)

-- the part after all of them
pub after-append : (p : Part) (xs ys : List Step) → after p (xs ++ ys) ≡ after (after p xs) ys
after-append p [] ys = refl
after-append p (x ∷ xs) ys = after-append (part_step p x) xs ys

-- both
pub leads-then : (spot : Option NodeName) (p : Part) (xs ys : List Step) → Leads spot p xs → Leads spot (after p xs) ys → Leads spot p (xs ++ ys)
leads-then spot p xs ys a b =
    record {
      made = made-append p xs ys a.made b.made;
      changed = subst (Changed spot p) (sym (after-append p xs ys)) (changed-then spot p (after p xs) (after (after p xs) ys) a.changed b.changed);
    }

-- steps that place nothing
pub leads-eased : (spot : Option NodeName) (p : Part) (xs : List Step) → Leads None p xs → Leads spot p xs
leads-eased spot p xs a = record { made = a.made; changed = changed-eased spot p (after p xs) a.changed }

-- no step
pub leads-nothing : (spot : Option NodeName) (p : Part) → IsPart p → Leads spot p []
leads-nothing spot p i = record { made = tt; changed = changed-same spot p i }

-- one step
pub leads-one : (p : Part) (s : Step) → IsPart p → Fits p s → Leads (spot_of s) p (s ∷ [])
leads-one p s i f = record { made = (f, tt); changed = changed-step p s i f }

-- plans for items: each leads on, and what an item needs stays so
pub record LeadsEach {A : Type 0} (spot : Option NodeName) (P : Part → A → Type 0) (f : A → Plan) : Type 0 where
  pub leads : (p : Part) (x : A) → IsPart p → P p x → Leads spot p (f x p)
  pub stays : (p q : Part) (x : A) → Changed spot p q → P p x → P q x

-- so they lead on one after another
pub leads-each : {A : Type 0} {spot : Option NodeName} {P : Part → A → Type 0} {f : A → Plan} → LeadsEach spot P f → (xs : List A) (p : Part) → IsPart p →
    AllByRecursion (P p) xs → Leads spot p (in_turn f xs p)
leads-each {spot = spot} each [] p i g = leads-nothing spot p i
leads-each {spot = spot} {P = P} {f = f} each (x ∷ xs) p i g =
    let first = each.leads p x i g.0 in
    let q = after p (f x p) in
    leads-then spot p (f x p) (in_turn f xs q) first
    (leads-each each xs q first.changed.part (all-then (P p) (P q) (λ y. each.stays p q y first.changed) xs g.1))

-- one of two lists of steps
pub leads-if : {spot : Option NodeName} {p : Part} {xs ys : List Step} (b : Bool) → Leads spot p xs → Leads spot p ys → Leads spot p (if b then xs else ys)
leads-if true a c = a
leads-if false a c = c

-- Removals and adoptions.
pub leads-telling : (how : Observing) (c : Change NodeName) (p : Part) → IsPart p → Leads None p (telling how c)
leads-telling observed c p i = leads-one p (queue_record c) i tt
leads-telling suppressed c p i = leads-nothing None p i

-- a removal
pub leads-removing : (how : Observing) (x : NodeName) (p : Part) → IsPart p → Leads None p (remove_plan how x p)
leads-removing how x p i =
    by_some (λ (o : Option NodeName). Leads None p (option_map_or (removing_from how x p.trees) o [])) (parent_of p.trees x) (leads-nothing None p i)
    (λ parent. let first = leads-one p (take_out x) i tt in
    leads-then None p (take_out x ∷ []) (telling how (removal_record p.trees parent x)) first
    (leads-telling how (removal_record p.trees parent x) (part_step p (take_out x)) first.changed.part))

-- an adoption
pub leads-adopting : (d x : NodeName) (p : Part) → IsPart p → x.owner ≡ p.owner → Leads None p (adopt_plan d x p)
leads-adopting d x p i e =
    let first = leads-removing observed x p i in
    let q = after p (remove_plan observed x p) in
    leads-then None p (remove_plan observed x p) (changing_document d x q) first
    (leads-if (not (has_document q.trees d x))
    (leads-one q (set_document x d) first.changed.part (e ∙ sym first.changed.owner)) (leads-nothing None q first.changed.part))

-- What may be placed below a node.
pub record MayGo (parent : NodeName) (p : Part) (x : NodeName) : Type 0 where
  pub there : HasNode p x
  pub owner : x.owner ≡ p.owner
  pub below : HasNode p parent
  pub apart : inside p.trees x parent ≡ 0

-- what is asked of the trees
pub may-place : {parent : NodeName} {p : Part} {x : NodeName} → IsPart p → MayGo parent p x → CanPlace p.trees x parent
may-place i m = record { unique = i.unique; below = record { there = m.below; apart = m.apart } }

-- it still may after other changes
pub may-still : (parent : NodeName) (p q : Part) (x : NodeName) → Changed (Some parent) p q → MayGo parent p x → MayGo parent q x
may-still parent p q x c m =
    record { there = still c x m.there; owner = m.owner ∙ sym c.owner; below = still c parent m.below; apart = c.apart x parent m.there m.apart m.apart }

-- A node that was removed is a root.
pub taken-step : (p : Part) (x parent : NodeName) → parent_of p.trees x ≡ Some parent → part_step p (take_out x) ≡ leave p x parent
taken-step p x parent e = ap (λ o. option_map_or (leave p x) o p) e

-- records change no trees
pub telling-trees : (how : Observing) (c : Change NodeName) (p : Part) → (after p (telling how c)).trees ≡ p.trees
telling-trees observed c p = refl
telling-trees suppressed c p = refl

-- one that leaves its parent becomes one
pub root-removing : (how : Observing) (x : NodeName) (p : Part) → HasNode p x → HasRoot (after p (remove_plan how x p)).trees x
root-removing how x p t =
    by_some_is (λ (o : Option NodeName). HasRoot (after p (option_map_or (removing_from how x p.trees) o [])).trees x) (parent_of p.trees x)
    (λ e. no_parent-root p.trees x t e)
    (λ parent e. subst (λ ts. HasRoot ts x) (sym (telling-trees how (removal_record p.trees parent x) (part_step p (take_out x)) ∙
    ap (λ (q : Part). q.trees) (taken-step p x parent e)))
    (root-put_root_new x (subtree p.trees x) (without x p.trees) x (root-subtree p.trees x t)))

-- and stays one under another node document
pub root-adopting : (d x : NodeName) (p : Part) → HasNode p x → HasRoot (after p (adopt_plan d x p)).trees x
root-adopting d x p t =
    let q = after p (remove_plan observed x p) in
    let rooted = root-removing observed x p t in
    subst (λ (r : Part). HasRoot r.trees x) (sym (after-append p (remove_plan observed x p) (changing_document d x q)))
    (either_way (λ steps. HasRoot (after q steps).trees x) (not (has_document q.trees d x)) (set_document x d ∷ []) []
    (root-map_nodes (document_put q.trees x d) (λ n. (document_put-keeps q.trees x d n).0) q.trees x rooted) rooted)

-- a node is adopted and placed
pub leads-placing : (parent : NodeName) (before : Option NodeName) (p : Part) (x : NodeName) → IsPart p → MayGo parent p x →
    Leads (Some parent) p (placing parent before x p)
leads-placing parent before p x i m =
    let d = document_below p.trees parent in
    let q = after p (adopt_plan d x p) in
    let first = leads-eased (Some parent) p (adopt_plan d x p) (leads-adopting d x p i m.owner) in
    let n = may-still parent p q x first.changed m in
    leads-then (Some parent) p (adopt_plan d x p) (place x parent before ∷ []) first
    (leads-one q (place x parent before) first.changed.part (n.below, n.apart, root-adopting d x p m.there))

-- removals
pub removing-each : (how : Observing) → LeadsEach None (λ p (x : NodeName). ⊤) (remove_plan how)
removing-each how = record { leads = λ p x i t. leads-removing how x p i; stays = λ p q x c t. tt }

-- placings
pub placing-each : (parent : NodeName) (before : Option NodeName) → LeadsEach (Some parent) (MayGo parent) (placing parent before)
placing-each parent before = record { leads = leads-placing parent before; stays = may-still parent }

-- Insertions.
leads-emptying : (node : NodeName) (children : List NodeName) (p : Part) → IsPart p → Leads None p (emptying node children p)
leads-emptying node children p i =
    let first = leads-each (removing-each suppressed) children p i (all-from (λ y. ⊤) (λ y. tt) children) in
    leads-then None p (in_turn (remove_plan suppressed) children p) (queue_record (child_list node [] children None None) ∷ []) first
    (leads-one (after p (in_turn (remove_plan suppressed) children p)) (queue_record (child_list node [] children None None)) first.changed.part tt)

-- offsets that grow
pub leads-making_room : (parent : NodeName) (before : Option NodeName) (count : ℕ) (p : Part) → IsPart p → Leads None p (making_room parent before count p)
leads-making_room parent None count p i = leads-nothing None p i
leads-making_room parent (Some child) count p i = leads-one p (make_room parent (index_of p.trees child) count) i tt

-- the children of a node may go where it may
pub children-may : (parent : NodeName) (p : Part) (x : NodeName) → IsPart p → MayGo parent p x → AllByRecursion (MayGo parent p) (children_of p.trees x)
children-may parent p x i m =
    let ts = p.trees in
    all-then (λ y. 1 ≤ times_in (subtree ts x) y) (MayGo parent p)
    (λ y h. let there : 1 ≤ times_in ts y = let s = times_subtree ts x y in omega arith in
    record {
      there = there;
      owner = i.owned y there;
      below = m.below;
      apart = let a = m.apart in let b = inside-nested ts x y parent i.unique h in let c = times-inside ts x parent in omega arith;
    }) (children_of ts x) (children-inside ts x)

-- the nodes that an insertion places
pub placed-may : (parent : NodeName) (p : Part) (x : NodeName) → IsPart p → MayGo parent p x → AllByRecursion (MayGo parent p) (placed_nodes p.trees x)
placed-may parent p x i m = either_way (AllByRecursion (MayGo parent p)) (is_fragment (kind_of p.trees x)) (children_of p.trees x) (x ∷ [])
    (children-may parent p x i m) (m, tt)

-- the fragment, if it is one, is emptied
abbrev pub emptied_of : Part → NodeName → Plan
emptied_of p node = if is_fragment (kind_of p.trees node) then emptying node (placed_nodes p.trees node) else steps_of []

-- what comes before the placing
pub leads-emptied : (node : NodeName) (p : Part) → IsPart p → Leads None p (emptied_of p node p)
leads-emptied node p i = from (is_fragment (kind_of p.trees node))
  where
    from : (b : Bool) → Leads None p ((if b then emptying node (placed_nodes p.trees node) else steps_of []) p)
    from true = leads-emptying node (placed_nodes p.trees node) p i
    from false = leads-nothing None p i

-- what comes before the placing: the fragment, if it is one, is emptied, and room is made
module _ (node parent : NodeName) (before : Option NodeName) where
  abbrev pub roomed : Plan
  roomed p = emptied_of p node p ++ making_room parent before (length (placed_nodes p.trees node)) (after p (emptied_of p node p))

  pub leads-roomed : {p : Part} → IsPart p → Leads (Some parent) p (roomed p)
  leads-roomed {p} i =
      let one = emptied_of p node p in
      let a = leads-eased (Some parent) p one (leads-emptied node p i) in
      let count = length (placed_nodes p.trees node) in
      let two = making_room parent before count (after p one) in
      leads-then (Some parent) p one two a
      (leads-eased (Some parent) (after p one) two (leads-making_room parent before count (after p one) a.changed.part))

  -- what is placed may still go below the parent
  pub roomed-may : {p : Part} → IsPart p → MayGo parent p node → AllByRecursion (MayGo parent (after p (roomed p))) (placed_nodes p.trees node)
  roomed-may {p} i m =
      let r = after p (roomed p) in
      all-then (MayGo parent p) (MayGo parent r) (λ y. may-still parent p r y (leads-roomed i).changed) (placed_nodes p.trees node)
      (placed-may parent p node i m)

-- an insertion
pub leads-inserting : {p : Part} (how : Observing) (node parent : NodeName) (before : Option NodeName) → IsPart p → MayGo parent p node →
    Leads (Some parent) p (insert_plan how node parent before p)
leads-inserting {p = p} how node parent before i m =
    let spot = Some parent in
    let moved = placed_nodes p.trees node in
    let told = telling how (child_list parent moved [] (sibling_before p.trees parent before) before) in
    let front = roomed node parent before p in
    let three = in_turn (placing parent before) moved (after p front) in
    let ab = leads-roomed node parent before i in
    let abc = leads-then spot p front three ab
    (leads-each (placing-each parent before) moved (after p front) ab.changed.part (roomed-may node parent before i m)) in
    let d = leads-eased spot (after p (front ++ three)) told
    (leads-telling how (child_list parent moved [] (sibling_before p.trees parent before) before) (after p (front ++ three)) abc.changed.part) in
    leads-if (is_empty moved) (leads-nothing spot p i) (leads-then spot p (front ++ three) told abc d)

-- insertions of nodes behind the children of one
pub inserting-each : (x : NodeName) → LeadsEach (Some x) (MayGo x) (λ y. insert_plan suppressed y x None)
inserting-each x = record { leads = λ p y i m. leads-inserting suppressed y x None i m; stays = may-still x }
