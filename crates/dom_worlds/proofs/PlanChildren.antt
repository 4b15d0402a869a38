-- What holds of lists of steps one after another holds of insertions and of plans in turn; so plans leave the children that they do not name.
use Rattle.dom_base.proofs.Std.{◌++◌, ◌∷◌, [], Bool, false, length, List, None, Option, Some, true, ◌≡◌, ◌≤◌, ℕ, ◌-◌, not, sym, ap, ◌∙◌, arith, true≢false}
use Rattle.dom_base.proofs.Std.{subst, AllByRecursion, if◌then◌else◌, ⊤, min, option_map_or}
use Rattle.dom_model.proofs.Model.{NodeName, emptying, in_turn, insert_plan, inserting_nodes, making_room, Observing, placed_nodes, placing, Plan, remove_plan}
use Rattle.dom_model.proofs.Model.{sibling_before, steps_of, suppressed, telling, observed, removal_record, removing_from, has_document, changing_document}
use Rattle.dom_model.proofs.Model.{adopt_plan, document_below, is_empty, DomString, name_eq, child_list, Part, next_name, after, queue_record, Step, make}
use Rattle.dom_model.proofs.Model.{place, take_out, set_document, part_step, is_fragment, kind_of, Trees, Node, node_in, children_of, parent_of, with_name}
use Rattle.dom_model.proofs.Model.{replacing_data, name_eq-same, name_eq-true}
use Rattle.dom_worlds.specs.Definitions.{IsPart}
use Rattle.dom_worlds.proofs.Lists.{all-from, all-then, either_way, by_cases, by_some_is}
use Rattle.dom_worlds.proofs.PlanPlaces.{Changed, emptied_of, leads-each, leads-eased, leads-emptied, leads-making_room, leads-then, LeadsEach, may-still}
use Rattle.dom_worlds.proofs.PlanPlaces.{MayGo, placed-may, placing-each, removing-each, may-place, taken-step, telling-trees, after-append, leads-removing}
use Rattle.dom_worlds.proofs.PlanPlaces.{leads-adopting, leads-placing}
use Rattle.dom_worlds.proofs.ChildPairs.{childs, childs-taken_out, childs-placed, child-placed, childs-with_node, childs-map_nodes, childs-parent}
use Rattle.dom_worlds.proofs.ChildPairs.{children-childs}
use Rattle.dom_worlds.proofs.ChildCounts.{root-below}
use Rattle.dom_worlds.proofs.Trees.{all-in}
use Rattle.dom_worlds.proofs.PartSteps.{data_put, data_put-keeps, document_put, document_put-keeps}

-- It holds of no step, and of steps after steps.
pub record Joins (S : Part → List Step → Type 0) : Type 0 where
  pub nothing : (p : Part) → S p []
  pub append : {spot : Option NodeName} (p : Part) (xs ys : List Step) → Changed spot p (after p xs) → S p xs → S (after p xs) ys → S p (xs ++ ys)

-- What has to be shown of an insertion, of each part of its plan where that is made.
pub record InsertsBy (S : Part → List Step → Type 0) (how : Observing) (node parent : NodeName) (before : Option NodeName) (p : Part) : Type 0 where
  pub removals : S p (in_turn (remove_plan suppressed) (placed_nodes p.trees node) p)
  pub left : (q : Part) → Changed None p q → S q (queue_record (child_list node [] (placed_nodes p.trees node) None None) ∷ [])
  pub room : (q : Part) → S q (making_room parent before (length (placed_nodes p.trees node)) q)
  pub placed : (q : Part) → Changed (Some parent) p q → AllByRecursion (MayGo parent q) (placed_nodes p.trees node) →
      S q (in_turn (placing parent before) (placed_nodes p.trees node) q)
  pub told : (q : Part) → Changed (Some parent) p q →
      S q (telling how (child_list parent (placed_nodes p.trees node) [] (sibling_before p.trees parent before) before))

module _ {S : Part → List Step → Type 0} (joins : Joins S) where
  -- of plans for items that lead on, if it holds of each
  pub each-by : {A : Type 0} {spot : Option NodeName} {Q : Part → A → Type 0} {f : A → Plan} → LeadsEach spot Q f →
      ((p : Part) (x : A) → IsPart p → Q p x → S p (f x p)) → (xs : List A) (p : Part) → IsPart p → AllByRecursion (Q p) xs → S p (in_turn f xs p)
  each-by each holds [] p i g = joins.nothing p
  each-by {Q = Q} {f = f} each holds (x ∷ xs) p i g =
      let c = (each.leads p x i g.0).changed in
      let q = after p (f x p) in
      joins.append p (f x p) (in_turn f xs q) c (holds p x i g.0)
      (each-by each holds xs q c.part (all-then (Q p) (Q q) (λ y. each.stays p q y c) xs g.1))

  -- of a fragment that is emptied
  emptied-by : {node : NodeName} {p : Part} → IsPart p → S p (in_turn (remove_plan suppressed) (placed_nodes p.trees node) p) →
      ((q : Part) → Changed None p q → S q (queue_record (child_list node [] (placed_nodes p.trees node) None None) ∷ [])) → S p (emptied_of p node p)
  emptied-by {node} {p} i removals left =
      let moved = placed_nodes p.trees node in
      let gone = in_turn (remove_plan suppressed) moved p in
      let c = (leads-each (removing-each suppressed) moved p i (all-from (λ y. ⊤) (λ y. tt) moved)).changed in
      from (is_fragment (kind_of p.trees node))
      (joins.append p gone (queue_record (child_list node [] moved None None) ∷ []) c removals (left (after p gone) c))
    where
      from : (b : Bool) → S p (emptying node (placed_nodes p.trees node) p) → S p ((if b then emptying node (placed_nodes p.trees node) else steps_of []) p)
      from true h = h
      from false h = joins.nothing p

  -- of an insertion
  pub inserting-by : {how : Observing} {node parent : NodeName} {before : Option NodeName} {p : Part} → IsPart p → MayGo parent p node →
      InsertsBy S how node parent before p → S p (insert_plan how node parent before p)
  inserting-by {how} {node} {parent} {before} {p} i m by =
      let spot = Some parent in
      let moved = placed_nodes p.trees node in
      let one = emptied_of p node p in
      let a = leads-eased spot p one (leads-emptied node p i) in
      let q = after p one in
      let two = making_room parent before (length moved) q in
      let ab = leads-then spot p one two a (leads-eased spot q two (leads-making_room parent before (length moved) q a.changed.part)) in
      let r = after p (one ++ two) in
      let three = in_turn (placing parent before) moved r in
      let may = all-then (MayGo parent p) (MayGo parent r) (λ y. may-still parent p r y ab.changed) moved (placed-may parent p node i m) in
      let abc = leads-then spot p (one ++ two) three ab (leads-each (placing-each parent before) moved r ab.changed.part may) in
      either_way (S p) (is_empty moved) [] (inserting_nodes how node moved parent before p) (joins.nothing p)
      (joins.append p ((one ++ two) ++ three) (telling how (child_list parent moved [] (sibling_before p.trees parent before) before)) abc.changed
      (joins.append p (one ++ two) three ab.changed (joins.append p one two a.changed (emptied-by i by.removals by.left) (by.room q))
      (by.placed r ab.changed may)) (by.told (after p ((one ++ two) ++ three)) abc.changed))

-- The trees with another node document
pub documented : (d x : NodeName) (q : Part) (P : Trees → Type 0) → P q.trees → P (part_step q (set_document x d)).trees →
    P (after q (changing_document d x q)).trees
documented d x q P a b = either_way (λ steps. P (after q steps).trees) (not (has_document q.trees d x)) (set_document x d ∷ []) [] b a

-- x is a child of y.
abbrev pub IsChild : NodeName → NodeName → Part → Type 0
IsChild x y p = 1 ≤ childs p.trees x y

-- other nodes
abbrev pub IsNot : NodeName → NodeName → Type 0
IsNot x z = name_eq z x ≡ false

-- A child, in a part that is as it should be.
pub record IsChildIn (x y : NodeName) (p : Part) : Type 0 where
  pub part : IsPart p
  pub child : IsChild x y p

-- It stays a child where others leave.
pub child-removing : {x y : NodeName} {p : Part} (how : Observing) (z : NodeName) → IsChildIn x y p → IsNot x z → IsChild x y (after p (remove_plan how z p))
child-removing {x} {y} {p} how z c d =
    by_some_is (λ (o : Option NodeName). IsChild x y (after p (option_map_or (removing_from how z p.trees) o []))) (parent_of p.trees z) (λ e. c.child)
    (λ parent e. subst (λ ts. 1 ≤ childs ts x y) (sym
    (telling-trees how (removal_record p.trees parent z) (part_step p (take_out z)) ∙ ap (λ (q : Part). q.trees) (taken-step p z parent e)))
    (let s = childs-taken_out p.trees z x y c.part.unique d in omega arith))

-- steps after steps
pub child-then : (x y : NodeName) (p : Part) (xs ys : List Step) → IsChild x y (after (after p xs) ys) → IsChild x y (after p (xs ++ ys))
child-then x y p xs ys h = subst (IsChild x y) (sym (after-append p xs ys)) h

-- many that leave
pub child-removals : {x y : NodeName} (how : Observing) (zs : List NodeName) {p : Part} → IsChildIn x y p → AllByRecursion (IsNot x) zs →
    IsChild x y (after p (in_turn (remove_plan how) zs p))
child-removals how [] c d = c.child
child-removals {x} {y} how (z ∷ zs) {p} c d =
    let q = after p (remove_plan how z p) in
    child-then x y p (remove_plan how z p) (in_turn (remove_plan how) zs q)
    (child-removals how zs (record { part = (leads-removing how z p c.part).changed.part; child = child-removing how z c d.0 }) d.1)

-- an adoption
child-adopting : {x y : NodeName} {p : Part} (d z : NodeName) → IsChildIn x y p → IsNot x z → IsChild x y (after p (adopt_plan d z p))
child-adopting {x} {y} {p} d z c n =
    let q = after p (remove_plan observed z p) in
    let g = child-removing observed z c n in
    child-then x y p (remove_plan observed z p) (changing_document d z q)
    (documented d z q (λ ts. 1 ≤ childs ts x y) g
    (let s = childs-map_nodes (document_put q.trees z d) (λ n. (document_put-keeps q.trees z d n).0) q.trees x y in omega arith))

-- another one that is placed
child-placing : {x y parent : NodeName} {p : Part} {z : NodeName} (before : Option NodeName) → IsChildIn x y p → MayGo parent p z → IsNot x z →
    IsChild x y (after p (placing parent before z p))
child-placing {x} {y} {parent} {p} {z} before c m n =
    let doc = document_below p.trees parent in
    let steps = adopt_plan doc z p in
    let q = after p steps in
    let first = leads-eased (Some parent) p steps (leads-adopting doc z p c.part m.owner) in
    let k = may-still parent p q z first.changed m in
    let g = child-adopting doc z c n in
    child-then x y p steps (place z parent before ∷ [])
    (let s = childs-placed before (may-place first.changed.part k) x y n in omega arith)

-- all others that are placed
child-each : {x y : NodeName} (parent : NodeName) (before : Option NodeName) (zs : List NodeName) {p : Part} → IsChildIn x y p →
    AllByRecursion (MayGo parent p) zs → AllByRecursion (IsNot x) zs → IsChild x y (after p (in_turn (placing parent before) zs p))
child-each parent before [] c m d = c.child
child-each {x} {y} parent before (z ∷ zs) {p} k m d =
    let steps = placing parent before z p in
    let q = after p steps in
    let c = (leads-placing parent before p z k.part m.0).changed in
    child-then x y p steps (in_turn (placing parent before) zs q)
    (child-each parent before zs (record { part = c.part; child = child-placing before k m.0 d.0 })
    (all-then (MayGo parent p) (MayGo parent q) (λ a. may-still parent p q a c) zs m.1) d.1)

-- x is a child of y, and neither is the node that is inserted
pub record IsOtherChild (x y node : NodeName) (p : Part) : Type 0 where
  pub first : IsNot x node
  pub second : IsNot y node
  pub child : IsChild x y p

-- then what is placed is another one
others-placed : (x y node : NodeName) (p : Part) → IsPart p → IsOtherChild x y node p → AllByRecursion (IsNot x) (placed_nodes p.trees node)
others-placed x y node p i other =
    either_way (AllByRecursion (IsNot x)) (is_fragment (kind_of p.trees node)) (children_of p.trees node) (node ∷ [])
    (all-then (λ z. 1 ≤ childs p.trees z node) (IsNot x)
    (λ z g. by_cases (name_eq z x)
    (λ e. let same = name_eq-true z x e in
    let one = childs-parent p.trees x node i.unique (subst (λ n. 1 ≤ childs p.trees n node) same g) in
    let two = childs-parent p.trees x y i.unique other.child in
    let both : Some node ≡ Some y = sym one ∙ two in let is : node ≡ y = cc in
    absurd (true≢false (sym (name_eq-same node) ∙ ap (name_eq node) is ∙ other.second)))
    (λ e. e)) (children_of p.trees node) (children-childs p.trees node)) (other.first, tt)

-- an insertion
pub child-inserting : {x y node parent : NodeName} {p : Part} (how : Observing) (before : Option NodeName) → IsPart p → MayGo parent p node →
    IsOtherChild x y node p → IsChild x y (after p (insert_plan how node parent before p))
child-inserting {x} {y} {node} {parent} {p} how before i m other =
    let S : Part → List Step → Type 0 = λ q steps. IsChild x y q → IsChild x y (after q steps) in
    let joins : Joins S = record { nothing = λ q h. h; append = λ q xs ys c a b h. child-then x y q xs ys (b (a h)) } in
    let others = others-placed x y node p i other in
    inserting-by joins {before = before} i m (record {
      removals = λ h. child-removals suppressed (placed_nodes p.trees node) (record { part = i; child = h }) others;
      left = λ q c h. h;
      room = λ q. unmoved before q;
      placed = λ q c may h. child-each parent before (placed_nodes p.trees node) (record { part = c.part; child = h }) may others;
      told = λ q c h. subst (λ ts. 1 ≤ childs ts x y)
          (sym (telling-trees how (child_list parent (placed_nodes p.trees node) [] (sibling_before p.trees parent before) before) q)) h;
    }) other.child
  where
    unmoved : (before : Option NodeName) (q : Part) → IsChild x y q →
        IsChild x y (after q (making_room parent before (length (placed_nodes p.trees node)) q))
    unmoved None q g = g
    unmoved (Some child) q g = g

-- A child stays one.
module _ (x y : NodeName) where
  -- beside other data
  pub child-replacing_data : (z : NodeName) (offset count : ℕ) (new : DomString) (p : Part) → IsChild x y p →
      IsChild x y (after p (replacing_data z offset count new p))
  child-replacing_data z offset count new p h =
      let few = min count (length (node_in p.trees z).text - offset) in
      let s = childs-map_nodes (data_put z offset few new) (λ n. (data_put-keeps z offset few new n).0) p.trees x y in omega
      arith

  -- beside a new node
  pub child-make : (n : Node) (p : Part) → IsChild x y p → IsChild x y (part_step p (make n))
  child-make n p h = let s = childs-with_node (with_name (next_name p) n) p.trees x y in omega arith

-- A child, by its parent.
pub parent-child : (p : Part) (x y : NodeName) → IsPart p → parent_of p.trees x ≡ Some y → IsChild x y p
parent-child p x y i e = all-in (λ z. 1 ≤ childs p.trees z y) x (children_of p.trees y) (children-childs p.trees y) (root-below p.trees x y i.unique e)

-- and back
pub child-parent : (p : Part) (x y : NodeName) → IsPart p → IsChild x y p → parent_of p.trees x ≡ Some y
child-parent p x y i h = childs-parent p.trees x y i.unique h

-- What is placed is a child.
child-placing_it : (x parent : NodeName) (before : Option NodeName) (p : Part) → IsPart p → MayGo parent p x →
    IsChild x parent (after p (placing parent before x p))
child-placing_it x parent before p i m =
    let steps = adopt_plan (document_below p.trees parent) x p in
    let q = after p steps in
    let first = leads-eased (Some parent) p steps (leads-adopting (document_below p.trees parent) x p i m.owner) in
    let k = may-still parent p q x first.changed m in
    child-then x parent p steps (place x parent before ∷ []) (child-placed before (may-place first.changed.part k) k.there)

-- by an insertion of a node that is no fragment
pub child-inserted : {node parent : NodeName} {p : Part} (how : Observing) (before : Option NodeName) → IsPart p → MayGo parent p node →
    is_fragment (kind_of p.trees node) ≡ false → IsChild node parent (after p (insert_plan how node parent before p))
child-inserted {node} {parent} {p} how before i m k =
    from (is_fragment (kind_of p.trees node)) k
  where
    told : List NodeName → List Step
    told moved = telling how (child_list parent moved [] (sibling_before p.trees parent before) before)

    alone : IsChild node parent (after p
        (((making_room parent before 1 p) ++ in_turn (placing parent before) (node ∷ []) (after p (making_room parent before 1 p))) ++
        told (node ∷ [])))
    alone =
        let one = making_room parent before 1 p in
        let l = leads-making_room parent before 1 p i in
        let q = after p one in
        let two = in_turn (placing parent before) (node ∷ []) q in
        let put = child-placing_it node parent before q l.changed.part (may-still parent p q node (leads-eased (Some parent) p one l).changed m) in
        let r = after p (one ++ two) in
        child-then node parent p (one ++ two) (told (node ∷ []))
        (subst (λ ts. 1 ≤ childs ts node parent) (sym (telling-trees how (child_list parent (node ∷ []) [] (sibling_before p.trees parent before) before) r))
        (child-then node parent p one two (child-then node parent q (placing parent before node q) [] put)))

    from : (t : Bool) → t ≡ false → let moved : List NodeName = if t then children_of p.trees node else node ∷ [] in
        IsChild node parent (after p (if is_empty moved then [] else
        ((((if t then emptying node moved else steps_of []) p ++ making_room parent before (length moved)
        (after p ((if t then emptying node moved else steps_of []) p))) ++
        in_turn (placing parent before) moved
        (after p ((if t then emptying node moved else steps_of []) p ++ making_room parent before (length moved)
        (after p ((if t then emptying node moved else steps_of []) p))))) ++ told moved)))
    from true e = absurd (true≢false e)
    from false e = alone
