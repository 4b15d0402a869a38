-- Plans keep the ends of ranges within their nodes; what extractions and deletions ask of the nodes that they take.
use Rattle.dom_base.proofs.Std.{◌≡◌, ◌≤◌, ℕ, ◌+◌, Bool, true, false, not, List, [], ◌∷◌, ◌++◌, length, Option, Some, None, sym, ap, ◌∙◌, arith, subst, ◌-◌}
use Rattle.dom_base.proofs.Std.{refl, if◌then◌else◌, AllByRecursion, option_map_or, cond-true, cond-false}
use Rattle.dom_model.proofs.Model.{NodeName, Word, DomString, name_eq, is_empty, node_in, kind_of, is_fragment, has_data, parent_of, next_sibling}
use Rattle.dom_model.proofs.Model.{previous_sibling, index_of, attribute_value, Node, Change, child_list, attributes, character_data, Part, next_name, Step}
use Rattle.dom_model.proofs.Model.{place, take_out, set_document, set_attribute, queue_record, part_step, after, make, Plan, ◌and_then◌, in_turn, steps_of}
use Rattle.dom_model.proofs.Model.{Observing, observed, suppressed, telling, removal_record, remove_plan, removing_from, has_document, changing_document}
use Rattle.dom_model.proofs.Model.{adopt_plan, document_below, placed_nodes, emptying, making_room, placing, sibling_before, inserting_nodes, insert_plan}
use Rattle.dom_model.proofs.Model.{reference_child, replace_plan, setting_attribute, unsetting_attribute, replacing_data, with_name, Pieces, whole, cut, clone}
use Rattle.dom_model.proofs.Model.{clone_part, making_below, taking}
use Rattle.dom_worlds.specs.Definitions.{IsPart}
use Rattle.dom_worlds.proofs.Bounds.{IsRoomy, nowhere, at_node, HasRoom, room-more, room-place, room-document, room-attribute, room-record, room-made}
use Rattle.dom_worlds.proofs.Bounds.{room-take, room-replace, room-make}
use Rattle.dom_worlds.proofs.ChildCounts.{one_at}
use Rattle.dom_worlds.proofs.Lists.{all-then, by_cases, either_way, by_some}
use Rattle.dom_worlds.proofs.PlanPlaces.{may-place, Changed, Leads, MayGo, may-still, root-adopting, after-append, emptied_of, leads-then, leads-eased}
use Rattle.dom_worlds.proofs.PlanPlaces.{leads-one, leads-removing, leads-adopting, leads-placing, still}
use Rattle.dom_worlds.proofs.PlanPlaces.{leads-inserting, roomed, leads-roomed, roomed-may}
use Rattle.dom_worlds.proofs.TableSteps.{HasNode}
use Rattle.dom_model.specs.Extract.{nothing}
use Rattle.dom_worlds.proofs.ChildPairs.{childs-parent}
use Rattle.dom_worlds.proofs.Roots.{node-new}
use Rattle.dom_worlds.proofs.PartSteps.{next-absent}
use Rattle.dom_worlds.proofs.PlanChildren.{IsChild, IsNot, child-inserting, child-replacing_data, child-make}
use Rattle.dom_worlds.proofs.PlanTexts.{new-there, next-not, new-may, leads-replacing_data}
use Rattle.dom_worlds.proofs.PlanContents.{CanTake, take-still, take-below, OldIn, old-may, changed-inner, leads-making_below, leads-taking}
use Rattle.dom_worlds.proofs.Plans.{AreFit, AllWhole}
use Rattle.dom_worlds.proofs.ShadowRoots.{fit-then}
use Rattle.dom_worlds.proofs.Trees.{all-both}

-- Steps after steps.
pub room-then : (e : NodeName → ℕ) (p : Part) (xs ys : List Step) → HasRoom e (after (after p xs) ys) → HasRoom e (after p (xs ++ ys))
room-then e p xs ys h = subst (HasRoom e) (sym (after-append p xs ys)) h

-- one plan and then another
pub room-plan : {spot : Option NodeName} {p : Part} (f g : Plan) → Leads spot p (f p) → HasRoom nowhere (after p (f p)) →
    ((q : Part) → Changed spot p q → HasRoom nowhere q → HasRoom nowhere (after q (g q))) → HasRoom nowhere (after p ((f and_then g) p))
room-plan {p} f g a h k = room-then nowhere p (f p) (g (after p (f p))) (k (after p (f p)) a.changed h)

-- Records, removals and adoptions.
room-telling : (e : NodeName → ℕ) (how : Observing) (c : Change NodeName) (p : Part) → HasRoom e p → HasRoom e (after p (telling how c))
room-telling e observed c p h = room-record e p c h
room-telling e suppressed c p h = h

-- a removal
pub room-removing : (e : NodeName → ℕ) (how : Observing) (x : NodeName) (p : Part) → IsPart p → HasRoom e p → HasRoom e (after p (remove_plan how x p))
room-removing e how x p i h =
    by_some (λ (o : Option NodeName). HasRoom e (after p (option_map_or (removing_from how x p.trees) o []))) (parent_of p.trees x) h
    (λ parent. room-telling e how (removal_record p.trees parent x) (part_step p (take_out x)) (room-take e p x i h))

-- an adoption
pub room-adopting : (e : NodeName → ℕ) (d x : NodeName) (p : Part) → IsPart p → HasRoom e p → HasRoom e (after p (adopt_plan d x p))
room-adopting e d x p i h =
    let q = after p (remove_plan observed x p) in
    let g = room-removing e observed x p i h in
    let j = (leads-removing observed x p i).changed.part in
    room-then e p (remove_plan observed x p) (changing_document d x q)
    (either_way (λ steps. HasRoom e (after q steps)) (not (has_document q.trees d x)) (set_document x d ∷ []) [] (room-document e q x d j g) g)

-- removals
pub room-removals : (e : NodeName → ℕ) (how : Observing) (xs : List NodeName) (p : Part) → IsPart p → HasRoom e p →
    HasRoom e (after p (in_turn (remove_plan how) xs p))
room-removals e how [] p i h = h
room-removals e how (x ∷ xs) p i h =
    let q = after p (remove_plan how x p) in
    room-then e p (remove_plan how x p) (in_turn (remove_plan how) xs q)
    (room-removals e how xs q (leads-removing how x p i).changed.part (room-removing e how x p i h))

-- What is known of a node below which others are placed.
abbrev pub IsOpen : Part → NodeName → Type 0
IsOpen p x = has_data (kind_of p.trees x) ≡ false

-- it stays so
pub open-still : {spot : Option NodeName} {p q : Part} → Changed spot p q → (x : NodeName) → HasNode p x → IsOpen p x → IsOpen q x
open-still c x t k = ap has_data (c.kinds x t) ∙ k

-- What may be placed below a node that may have children.
pub record MayEnter (parent : NodeName) (p : Part) (x : NodeName) : Type 0 where
  pub go : MayGo parent p x
  pub open_parent : IsOpen p parent

-- a node is adopted and placed: it takes its room
room-placing : {d : NodeName → ℕ} {parent : NodeName} {p : Part} {x : NodeName} (e : NodeName → ℕ) (before : Option NodeName) → IsRoomy d p →
    MayEnter parent p x → ((y : NodeName) → d y ≤ e y + one_at parent y) → HasRoom e (after p (placing parent before x p))
room-placing {d} {parent} {p} {x} e before w m more =
    let doc = document_below p.trees parent in
    let q = after p (adopt_plan doc x p) in
    let first = leads-eased (Some parent) p (adopt_plan doc x p) (leads-adopting doc x p w.part m.go.owner) in
    let n = may-still parent p q x first.changed m.go in
    room-then e p (adopt_plan doc x p) (place x parent before ∷ [])
    (room-place before (record { part = first.changed.part; room = room-adopting d doc x p w.part w.room }) (may-place first.changed.part n)
    (root-adopting doc x p m.go.there) (open-still first.changed parent m.go.below m.open_parent) more)

-- all that are to be placed
room-each : (parent : NodeName) (before : Option NodeName) (xs : List NodeName) {p : Part} → IsRoomy (at_node parent (length xs)) p →
    AllByRecursion (MayGo parent p) xs → IsOpen p parent → HasRoom nowhere (after p (in_turn (placing parent before) xs p))
room-each parent before [] {p} w m k =
    room-more (at_node parent 0) nowhere p (λ y. either_way (λ (n : ℕ). n ≤ 0) (name_eq parent y) 0 0 (omega arith) (omega arith)) w.room
room-each parent before (x ∷ xs) {p} w m k =
    let first = leads-placing parent before p x w.part m.0 in
    let q = after p (placing parent before x p) in
    let c = first.changed in
    let n = length xs in
    room-then nowhere p (placing parent before x p) (in_turn (placing parent before) xs q)
    (room-each parent before xs (record {
      part = c.part;
      room = room-placing (at_node parent n) before w (record { go = m.0; open_parent = k })
          (λ y. by_cases (name_eq parent y)
          (λ e. let a : at_node parent (length (x ∷ xs)) y ≡ length (x ∷ xs) = cond-true (name_eq parent y) (length (x ∷ xs)) 0 e in let b : at_node
          parent n y ≡ n = cond-true (name_eq parent y) n 0 e in let o : one_at parent y ≡ 1 = cond-true (name_eq parent y) 1 0 e in omega arith)
          (λ e. let a : at_node parent (length (x ∷ xs)) y ≡ 0 = cond-false (name_eq parent y) (length (x ∷ xs)) 0 e in omega arith));
    })
    (all-then (MayGo parent p) (MayGo parent q) (λ y. may-still parent p q y c) xs m.1) (open-still c parent m.0.below k))

-- Insertions.
room-emptied : (e : NodeName → ℕ) (node : NodeName) (p : Part) → IsPart p → HasRoom e p → HasRoom e (after p (emptied_of p node p))
room-emptied e node p i h = from (is_fragment (kind_of p.trees node))
  where
    moved : List NodeName
    moved = placed_nodes p.trees node

    from : (b : Bool) → HasRoom e (after p ((if b then emptying node (placed_nodes p.trees node) else steps_of []) p))
    from true =
        let steps = in_turn (remove_plan suppressed) (placed_nodes p.trees node) p in
        room-then e p steps (queue_record (child_list node [] (placed_nodes p.trees node) None None) ∷ [])
        (room-record e (after p steps) (child_list node [] (placed_nodes p.trees node) None None)
        (room-removals e suppressed (placed_nodes p.trees node) p i h))
    from false = h

-- room is made
room-making : (parent : NodeName) (before : Option NodeName) (count : ℕ) (p : Part) → HasRoom nowhere p →
    HasRoom (at_node parent count) (after p (making_room parent before count p))
room-making parent None count p h = room-more nowhere (at_node parent count) p (λ y. omega arith) h
room-making parent (Some child) count p h = room-made (at_node parent count) parent (index_of p.trees child) count (λ y. omega arith) h

-- an insertion
pub room-inserting : {node parent : NodeName} {p : Part} (how : Observing) (before : Option NodeName) → IsRoomy nowhere p → MayEnter parent p node →
    HasRoom nowhere (after p (insert_plan how node parent before p))
room-inserting {node} {parent} {p} how before w m =
    let moved = placed_nodes p.trees node in
    let record_of = child_list parent moved [] (sibling_before p.trees parent before) before in
    let front = roomed node parent before p in
    let three = in_turn (placing parent before) moved (after p front) in
    let ab = leads-roomed node parent before w.part in
    let q = after p (emptied_of p node p) in
    let made : HasRoom (at_node parent (length moved)) (after p front) =
    room-then (at_node parent (length moved)) p (emptied_of p node p) (making_room parent before (length moved) q)
    (room-making parent before (length moved) q (room-emptied nowhere node p w.part w.room)) in
    let put = room-each parent before moved (record { part = ab.changed.part; room = made }) (roomed-may node parent before w.part m.go)
    (open-still ab.changed parent m.go.below m.open_parent) in
    either_way (λ steps. HasRoom nowhere (after p steps)) (is_empty moved) [] (inserting_nodes how node moved parent before p) w.room
    (room-then nowhere p (front ++ three) (telling how record_of)
    (room-telling nowhere how record_of (after p (front ++ three)) (room-then nowhere p front three put)))

-- Replacements, attributes and data.
pub room-replacing : {parent node : NodeName} {p : Part} (child : NodeName) → IsRoomy nowhere p → MayEnter parent p node →
    HasRoom nowhere (after p (replace_plan parent node child p))
room-replacing {parent} {node} {p} child w m =
    let spot = Some parent in
    let reference = reference_child p.trees node (next_sibling p.trees child) in
    let told = child_list parent (placed_nodes p.trees node) (child ∷ []) (previous_sibling p.trees child) reference in
    let first = leads-eased spot p (remove_plan suppressed child p) (leads-removing suppressed child p w.part) in
    let q = after p (remove_plan suppressed child p) in
    let put = room-inserting suppressed reference (record { part = first.changed.part; room = room-removing nowhere suppressed child p w.part w.room })
    (record { go = may-still parent p q node first.changed m.go; open_parent = open-still first.changed parent m.go.below m.open_parent })
    in
    let both = remove_plan suppressed child p ++ insert_plan suppressed node parent reference q in
    room-then nowhere p both (queue_record told ∷ [])
    (room-record nowhere (after p both) told
    (room-then nowhere p (remove_plan suppressed child p) (insert_plan suppressed node parent reference q) put))

-- an attribute
pub room-setting_attribute : (x : NodeName) (a : Word) (v : DomString) (p : Part) → IsPart p → HasRoom nowhere p →
    HasRoom nowhere (after p (setting_attribute x a v p))
room-setting_attribute x a v p i h =
    let told = attributes x a (attribute_value (node_in p.trees x) a) in
    room-attribute x a (Some v) (leads-one p (queue_record told) i tt).changed.part (room-record nowhere p told h)

-- an attribute that goes
pub room-unsetting_attribute : (x : NodeName) (a : Word) (p : Part) → IsPart p → HasRoom nowhere p → HasRoom nowhere (after p (unsetting_attribute x a p))
room-unsetting_attribute x a p i h = from (attribute_value (node_in p.trees x) a)
  where
    from : (v : Option DomString) → HasRoom nowhere
        (after p (option_map_or (λ old. queue_record (attributes x a (Some old)) ∷ set_attribute x a None ∷ []) v []))
    from None = h
    from (Some old) =
        let told = attributes x a (Some old) in
        room-attribute x a None (leads-one p (queue_record told) i tt).changed.part (room-record nowhere p told h)

-- data
pub room-replacing_data : {p : Part} (x : NodeName) (offset count : ℕ) (new : DomString) → IsRoomy nowhere p → has_data (kind_of p.trees x) ≡ true →
    HasRoom nowhere (after p (replacing_data x offset count new p))
room-replacing_data {p} x offset count new w k =
    let old = (node_in p.trees x).text in
    let told = character_data x (Some old) in
    room-replace x offset count new k (record { part = (leads-one p (queue_record told) w.part tt).changed.part; room = room-record nowhere p told w.room })

-- Extraction: pieces of data are of Texts and Comments, and other clones are not.
abbrev pub IsData : Part → NodeName → Type 0
IsData p x = HasNode p x × (has_data (kind_of p.trees x) ≡ true)

-- of other nodes
abbrev pub IsOpenIn : Part → NodeName → Type 0
IsOpenIn p x = HasNode p x × IsOpen p x

-- neither x nor its parent is taken whole
abbrev pub Misses : List NodeName → NodeName → NodeName → Type 0
Misses xs y z = IsNot y z × AllByRecursion (λ x. IsNot x z) xs

-- children that stay
abbrev pub AreChildren : List NodeName → NodeName → Part → Type 0
AreChildren xs y p = AllByRecursion (λ x. IsChild x y p) xs × HasNode p y

-- a child is there
pub child-there_in : (p : Part) (x y : NodeName) → IsPart p → IsChild x y p → HasNode p x
child-there_in p x y i h = Rattle.dom_worlds.proofs.InsideAncestors.child-there p.trees x y (childs-parent p.trees x y i.unique h)

-- the part after a new node went below another one
record IsMadeBelow (xs : List NodeName) (y : NodeName) (n : Node) (into : NodeName) (p : Part) : Type 0 where
  room : HasRoom nowhere (after p (making_below into n p))
  children : AreChildren xs y (after p (making_below into n p))
  there : HasNode (after p (making_below into n p)) (next_name p)
  kind : kind_of (after p (making_below into n p)).trees (next_name p) ≡ n.kind

-- one plan and then the rest
taken-then : (xs : List NodeName) (y : NodeName) (p : Part) (one two : List Step) → HasRoom nowhere (after (after p one) two) ×
    AreChildren xs y (after (after p one) two) → HasRoom nowhere (after p (one ++ two)) × AreChildren xs y (after p (one ++ two))
taken-then xs y p one two h = subst (λ (q : Part). HasRoom nowhere q × AreChildren xs y q) (sym (after-append p one two)) h

-- pieces stay fit
pub fits-still : {spot : Option NodeName} {p q : Part} (xs : List NodeName) (y : NodeName) → Changed spot p q → (pieces : Pieces) →
    AreFit (Misses xs y) (IsData p) (IsOpenIn p) pieces → AreFit (Misses xs y) (IsData q) (IsOpenIn q) pieces
fits-still {p} {q} xs y c pieces h =
    fit-then (Misses xs y) (λ x m. m)
    (λ x d. (still c x d.0, ap has_data (c.kinds x d.0) ∙ d.1)) (λ x d. (still c x d.0, open-still c x d.0 d.1)) pieces h

-- pieces may be taken into a node: they are of old nodes and fit, and there is room and the children are there that are to stay
pub record MayTake (xs : List NodeName) (y : NodeName) (count : ℕ) (pieces : Pieces) (into : NodeName) (p : Part) : Type 0 where
  pub take : CanTake count pieces into p
  pub opened : IsOpen p into
  pub fit : AreFit (Misses xs y) (IsData p) (IsOpenIn p) pieces
  pub room : HasRoom nowhere p
  pub children : AreChildren xs y p

module _ (xs : List NodeName) (y : NodeName) (count : ℕ) where
  -- some of them may be taken still after steps that put nodes below it
  module _ {pieces : Pieces} {into : NodeName} {p : Part} (may : MayTake xs y count pieces into p) where
    may-take-still : {q : Part} (rest : Pieces) → Changed (Some into) p q → AllWhole (OldIn count p) rest →
        AreFit (Misses xs y) (IsData p) (IsOpenIn p) rest → HasRoom nowhere q → AreChildren xs y q → MayTake xs y count rest into q
    may-take-still {q = q} rest changed old fit room children = record {
      take = take-still rest may.take old changed;
      opened = open-still changed into may.take.there may.opened;
      fit = fits-still xs y changed rest fit;
      room = room;
      children = children;
    }

  -- a new node that goes below it leaves it such
  made-below : {pieces : Pieces} {into : NodeName} {p : Part} (n : Node) → MayTake xs y count pieces into p → n.name ≡ next_name p → IsMadeBelow xs y n into p
  made-below {into = into} {p = p} n may e =
      let i = may.take.part in
      let t = may.take.there in
      let k = may.opened in
      let h = may.room in
      let c = may.children in
      let q = part_step p (make n) in
      let first = leads-one p (make n) i tt in
      let may : MayGo into q n.name = subst (MayGo into q) (sym e) (new-may p n into i t) in
      let put = leads-inserting observed n.name into None first.changed.part may in
      let not_y : IsNot y n.name = ap (λ z. name_eq z y) e ∙ next-not p i y c.1 in
      let qc = all-then (λ x. IsChild x y p) (λ x. IsChild x y q) (λ x g. child-make x y n p g) xs c.0 in
      let made : node_in q.trees (next_name p) ≡ with_name (next_name p) n = node-new (with_name (next_name p) n) p.trees (next-absent p i) in
      record {
        room =
            room-inserting observed None (record { part = first.changed.part; room = room-make nowhere p n i h })
            (record { go = may; open_parent = open-still first.changed into t k });
        children = (each xs c.0 first.changed.part may not_y qc, still put.changed y (still first.changed y c.1));
        there = still put.changed (next_name p) (new-there p n);
        kind = put.changed.kinds (next_name p) (new-there p n) ∙ ap (λ (m : Node). m.kind) made;
      }
    where
      each : (xs : List NodeName) → AllByRecursion (λ x. IsChild x y p) xs → {q : Part} → IsPart q → MayGo into q n.name → IsNot y n.name →
          AllByRecursion (λ x. IsChild x y q) xs → AllByRecursion (λ x. IsChild x y (after q (insert_plan observed n.name into None q))) xs
      each [] g j m d h = tt
      each (x ∷ xs) g {q} j m d h =
          let not_x : IsNot x n.name = ap (λ z. name_eq z x) e ∙ next-not p may.take.part x (child-there_in p x y may.take.part g.0) in
          (child-inserting observed None j m (record { first = not_x; second = d; child = h.0 }), each xs g.1 j m d h.1)

  -- the taking of pieces
  pub room-taking : (pieces : Pieces) (into : NodeName) (p : Part) → MayTake xs y count pieces into p →
      HasRoom nowhere (after p (taking into pieces p)) × AreChildren xs y (after p (taking into pieces p))
  room-taking nothing into p may = (may.room, may.children)
  room-taking (whole x rest) into p may =
      let i = may.take.part in
      let goes = old-may into i may.take.old.0 may.take.there may.take.new in
      let one = insert_plan observed x into None p in
      let l = leads-inserting observed x into None i goes in
      let f = may.fit in
      let f0 = f.0 in
      let c = may.children in
      let children : AreChildren xs y (after p one) = (
        all-then (λ z. IsNot z x × IsChild z y p) (λ z. IsChild z y (after p one))
            (λ z n. child-inserting observed None i goes (record { first = n.0; second = f0.0; child = n.1 })) xs
            (all-both (λ z. IsNot z x) (λ z. IsChild z y p) xs f0.1 c.0),
        still l.changed y c.1,
      ) in
      taken-then xs y p one (taking into rest (after p one))
      (room-taking rest into (after p one)
      (may-take-still may rest l.changed may.take.old.1 f.1 (room-inserting observed None (record { part = i; room = may.room })
      (record { go = goes; open_parent = may.opened })) children))
  room-taking (cut x from to rest) into p may =
      let i = may.take.part in
      let n = clone_part (next_name p) from to (node_in p.trees x) in
      let one = making_below into n p in
      let l = leads-making_below into n p refl i may.take.there in
      let made = made-below n may refl in
      let q = after p one in
      let two = replacing_data x from (to - from) [] q in
      let lq = leads-replacing_data x from (to - from) [] q l.changed.part in
      let old = may.take.old in
      let fit = may.fit in
      let units : has_data (kind_of q.trees x) ≡ true = ap has_data (l.changed.kinds x old.0.there) ∙ fit.0.1 in
      let s = after q two in
      let both = leads-then (Some into) p one two l (leads-eased (Some into) q two lq) in
      let mc = made.children in
      let cs : AreChildren xs y s = (
        all-then (λ z. IsChild z y q) (λ z. IsChild z y s) (λ z g. child-replacing_data z y x from (to - from) [] q g)
            xs mc.0,
        still lq.changed y mc.1,
      ) in
      let after_both = taken-then xs y p one two (room-replacing_data x from (to - from) [] (record { part = l.changed.part; room = made.room }) units, cs) in
      taken-then xs y p (one ++ two) (taking into rest (after p (one ++ two)))
      (room-taking rest into (after p (one ++ two)) (may-take-still may rest both.changed old.1 fit.1 after_both.0 after_both.1))
  room-taking (clone x inner rest) into p may =
      let i = may.take.part in
      let new = next_name p in
      let n = with_name new (node_in p.trees x) in
      let one = making_below into n p in
      let l = leads-making_below into n p refl i may.take.there in
      let made = made-below n may refl in
      let q = after p one in
      let two = taking new inner q in
      let old = may.take.old in
      let fit = may.fit in
      let below : MayTake xs y count inner new q = record {
        take = take-below inner may.take old.1 l.changed made.there;
        opened = ap has_data made.kind ∙ fit.0.1;
        fit = fits-still xs y l.changed inner fit.1;
        room = made.room;
        children = made.children;
      } in
      let lq = leads-taking inner below.take in
      let deep = taken-then xs y p one two (room-taking inner new q below) in
      let both : Changed (Some into) p (after p (one ++ two)) =
      subst (Changed (Some into) p) (sym (after-append p one two))
      (changed-inner (next-absent p i) l.changed lq.changed) in
      taken-then xs y p (one ++ two) (taking into rest (after p (one ++ two)))
      (room-taking rest into (after p (one ++ two)) (may-take-still may rest both old.2 fit.2 deep.0 deep.1))
