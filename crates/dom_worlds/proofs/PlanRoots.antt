-- What stands in the tree of a node that no step takes out keeps to it: the start of a live range through an insertion.
use Rattle.dom_base.proofs.Std.{zero, suc, ◌≡◌, ℕ, ◌-◌, not, List, [], ◌∷◌, ◌++◌, drop, map, length, Option, Some, None, option_map, unwrap_or, refl, sym, ◌∙◌}
use Rattle.dom_base.proofs.Std.{arith, subst, ⊤, slice_get, option_map_or, option_flatten}
use Rattle.dom_model.proofs.Model.{NodeName, name_eq, Trees, node_in, parent_of, root_of, index_of, next_sibling, is_inclusive_ancestor, taken_out, child_list}
use Rattle.dom_model.proofs.Model.{Part, next_name, range_at, Boundary, Range, map_ends, after_insert, after_removal, after_replace_data, after_split}
use Rattle.dom_model.proofs.Model.{after_join, Step, make, make_room, place, take_out, set_document, set_attribute, replace_data, split_at, join_at, set_range}
use Rattle.dom_model.proofs.Model.{queue_record, part_step, leave, with_ends, after, Observing, observed, suppressed, telling, remove_plan, removing_from}
use Rattle.dom_model.proofs.Model.{has_document, changing_document, adopt_plan, document_below, placed_nodes, making_room, placing, sibling_before, insert_plan}
use Rattle.dom_model.proofs.Model.{replacing_data, new_text_node, placing_tail, splitting}
use Rattle.dom_worlds.specs.Definitions.{IsPart, IsNodeIn, EndsIn, HasTables}
use Rattle.dom_worlds.proofs.Insides.{inside}
use Rattle.dom_worlds.proofs.InsideAncestors.{times-has_node, parent-there}
use Rattle.dom_worlds.proofs.KindLines.{has_node-times}
use Rattle.dom_worlds.proofs.Lists.{either_way, at-each, by_some_is}
use Rattle.dom_worlds.proofs.PartSteps.{part-step}
use Rattle.dom_worlds.proofs.PlanPlaces.{MayGo, may-still, leads-eased, leads-one, leads-removing, LeadsEach, placing-each, placed-may}
use Rattle.dom_worlds.proofs.PlanTexts.{new-may}
use Rattle.dom_worlds.proofs.Roots.{KeepsRoots, roots-stay, roots-left}
use Rattle.dom_worlds.proofs.TableSteps.{HasNode, Fits, MadeIn, MovesIn, ancestors-step, stays-step, moves-insert, moves-removal, moves-data, moves-split}
use Rattle.dom_worlds.proofs.TableSteps.{moves-join}
use Rattle.dom_worlds.proofs.TableRecords.{IfSome, tables-step}
use Rattle.dom_worlds.proofs.PlanChildren.{Joins, each-by, inserting-by}

-- The start of a live range, if there is one, has the root of a node.
abbrev pub StartsBy : ℕ → NodeName → Part → Type 0
StartsBy k y p = IfSome (λ (r : Range NodeName). root_of p.trees r.start.node ≡ root_of p.trees y) (range_at p k)

-- the node does not leave a parent with the step, and the ranges get no other ends but by moves
abbrev pub Spares : NodeName → Part → Step → Type 0
Spares y p (take_out x) = inside p.trees x y ≡ 0
Spares y p (set_range k r) = ⊥
Spares y p s = ⊤

-- of steps, each where it is made
abbrev pub SparesAll : NodeName → Part → List Step → Type 0
SparesAll y p [] = ⊤
SparesAll y p (s ∷ steps) = Spares y p s × SparesAll y (part_step p s) steps

-- A range that is looked up among moved ones.
at-moved : (f : Range NodeName → Range NodeName) (rs : List (Option (Range NodeName))) (k : ℕ) →
    option_flatten (slice_get (map (option_map f) rs) k) ≡ option_map f (option_flatten (slice_get rs k))
at-moved f [] k = refl
at-moved f (None ∷ rs) zero = refl
at-moved f (Some r ∷ rs) zero = refl
at-moved f (r ∷ rs) (suc k) = at-moved f rs k

-- its ends
pub ends-at : (p : Part) (k : ℕ) → HasTables p → EndsIn p.trees (range_at p k)
ends-at p k h = at-each (EndsIn p.trees) tt p.ranges k h.ranges

-- What is asked of the node whose tree a range's start stands in, if there is such a range.
pub record IsStart (k : ℕ) (y : NodeName) (p : Part) : Type 0 where
  pub part : IsPart p
  pub tables : HasTables p
  pub there : HasNode p y
  pub starts : StartsBy k y p

-- Other trees.
starts-trees : {k : ℕ} {y : NodeName} {p : Part} (us : Trees) (count : ℕ) → KeepsRoots p.trees us → IsStart k y p →
    StartsBy k y (record p { trees = us; node_count = count })
starts-trees {k} {y} {p} us count keeps a = from (range_at p k) (ends-at p k a.tables) a.starts
  where
    from : (o : Option (Range NodeName)) → EndsIn p.trees o →
        IfSome (λ (r : Range NodeName). root_of p.trees r.start.node ≡ root_of p.trees y) o →
        IfSome (λ (r : Range NodeName). root_of us r.start.node ≡ root_of us y) o
    from None e g = tt
    from (Some r) e g = keeps r.start.node y (has_node-times p.trees r.start.node e.start) a.there g

-- moved boundaries, with their roots
starts-moved : {k : ℕ} {y : NodeName} {p : Part} (us : Trees) (f : Boundary NodeName → Boundary NodeName) →
    ((b : Boundary NodeName) → IsNodeIn p.trees b.node → root_of p.trees b.node ≡ root_of p.trees y → root_of us (f b).node ≡ root_of us y) → IsStart k y p →
    IfSome (λ (r : Range NodeName). root_of us r.start.node ≡ root_of us y) (option_flatten (slice_get (map (option_map (map_ends f)) p.ranges) k))
starts-moved {k} {y} {p} us f m a = subst (IfSome (λ (r : Range NodeName). root_of us r.start.node ≡ root_of us y))
    (sym (at-moved (map_ends f) p.ranges k)) (from (range_at p k) (ends-at p k a.tables) a.starts)
  where
    from : (o : Option (Range NodeName)) → EndsIn p.trees o →
        IfSome (λ (r : Range NodeName). root_of p.trees r.start.node ≡ root_of p.trees y) o →
        IfSome (λ (r : Range NodeName). root_of us r.start.node ≡ root_of us y) (option_map (map_ends f) o)
    from None e g = tt
    from (Some r) e g = m r.start e.start g

-- in the same trees
starts-ends : {k : ℕ} {y : NodeName} {p : Part} (f : Boundary NodeName → Boundary NodeName) → MovesIn p.trees f → IsStart k y p → StartsBy k y (with_ends f p)
starts-ends {p} f m a = starts-moved p.trees f (λ b t e. (m b t).1 ∙ e) a

-- where a node leaves
starts-left : {k : ℕ} {y : NodeName} {p : Part} {parent : NodeName} (x : NodeName) → parent_of p.trees x ≡ Some parent → inside p.trees x y ≡ 0 →
    IsStart k y p → StartsBy k y (leave p x parent)
starts-left {y} {p} {parent} x e out a =
    let ts = p.trees in
    let u = a.part.unique in
    starts-moved (taken_out x ts) (after_removal name_eq (is_inclusive_ancestor ts x) parent (index_of ts x))
    (λ b n r. let m = moves-removal ts x u e b n in
    let c = (after_removal name_eq (is_inclusive_ancestor ts x) parent (index_of ts x) b).node in
    roots-left u (record { there = has_node-times ts c m.0.0; apart = m.1 }) (record { there = a.there; apart = out }) (m.0.1 ∙ r)) a

-- A step.
starts-step : {k : ℕ} {y : NodeName} {p : Part} (s : Step) → Fits p s → Spares y p s → IsStart k y p → StartsBy k y (part_step p s)
starts-step {p} (make n) f o a =
    starts-trees (part_step p (make n)).trees (suc p.node_count)
    (roots-stay p.trees (part_step p (make n)).trees (part-step p (make n) a.part).unique (ancestors-step p (make n) a.part f tt)) a
starts-step {p} (make_room parent index count) f o a =
    starts-ends (after_insert name_eq parent index count) (moves-insert p.trees parent index count) a
starts-step {p} (place x parent before) f o a =
    let us = (part_step p (place x parent before)).trees in
    starts-trees us p.node_count (roots-stay p.trees us (part-step p (place x parent before) a.part).unique
    (ancestors-step p (place x parent before) a.part f tt)) a
starts-step {k} {y} {p} (take_out x) f out a =
    by_some_is (λ (o : Option NodeName). StartsBy k y (option_map_or (leave p x) o p)) (parent_of p.trees x) (λ e. a.starts)
    (λ parent e. starts-left x e out a)
starts-step {p} (set_document x d) f o a =
    let us = (part_step p (set_document x d)).trees in
    starts-trees us p.node_count
    (roots-stay p.trees us (part-step p (set_document x d) a.part).unique (ancestors-step p (set_document x d) a.part f tt)) a
starts-step {p} (set_attribute x b v) f o a =
    let us = (part_step p (set_attribute x b v)).trees in
    starts-trees us p.node_count (roots-stay p.trees us (part-step p (set_attribute x b v) a.part).unique
    (ancestors-step p (set_attribute x b v) a.part f tt)) a
starts-step {y} {p} (replace_data x offset count new) f z a =
    let i = a.part in
    let us = (part_step p (replace_data x offset count new)).trees in
    let keeps = roots-stay p.trees us (part-step p (replace_data x offset count new) i).unique (ancestors-step p (replace_data x offset count new) i f tt) in
    starts-moved us (after_replace_data name_eq x offset count (length new))
    (λ b n r. let more = times-has_node us b.node
    (let o = stays-step p (replace_data x offset count new) i f b.node in let q = has_node-times p.trees b.node n in omega arith) in
    (moves-data us x offset count (length new) b more).1 ∙ keeps b.node y (has_node-times p.trees b.node n) a.there r) a
starts-step {p} (split_at x offset new parent index) f o a =
    starts-ends (after_split name_eq x offset new parent index)
    (moves-split p.trees parent index x offset new (times-has_node p.trees new f.0) f.1) a
starts-step {p} (join_at first size next parent index) f o a =
    starts-ends (after_join name_eq first size next parent index)
    (moves-join p.trees parent index first size next (times-has_node p.trees first f.0) f.1 f.2) a
starts-step (set_range j r) f o a = absurd o
starts-step (queue_record c) f o a = a.starts

-- many steps
pub starts-after : {k : ℕ} {y : NodeName} (steps : List Step) {p : Part} → MadeIn p steps → SparesAll y p steps → IsStart k y p → IsStart k y (after p steps)
starts-after [] m o a = a
starts-after {y} (s ∷ steps) {p} m o a =
    let t = a.there in
    starts-after steps m.1 o.1
    (record {
      part = part-step p s a.part;
      tables = tables-step p s a.part m.0 a.tables;
      there = let more = stays-step p s a.part m.0 y in omega arith;
      starts = starts-step s m.0 o.0 a;
    })

-- Plans that spare a node.
pub spares-append : (y : NodeName) (p : Part) (xs ys : List Step) → SparesAll y p xs → SparesAll y (after p xs) ys → SparesAll y p (xs ++ ys)
spares-append y p [] ys h g = g
spares-append y p (x ∷ xs) ys h g = (h.0, spares-append y (part_step p x) xs ys h.1 g)

-- a removal
pub spares-removing : (y : NodeName) (how : Observing) (x : NodeName) (p : Part) → inside p.trees x y ≡ 0 → SparesAll y p (remove_plan how x p)
spares-removing y how x p h = from (parent_of p.trees x) how
  where
    from : (o : Option NodeName) (how : Observing) → SparesAll y p (option_map_or (removing_from how x p.trees) o [])
    from None how = tt
    from (Some parent) observed = (h, (tt, tt))
    from (Some parent) suppressed = (h, tt)

-- a node that is adopted and placed
spares-placing : (parent : NodeName) (before : Option NodeName) (p : Part) (x : NodeName) → MayGo parent p x → SparesAll parent p (placing parent before x p)
spares-placing parent before p x m =
    let d = document_below p.trees parent in
    let q = after p (remove_plan observed x p) in
    spares-append parent p (adopt_plan d x p) (place x parent before ∷ [])
    (spares-append parent p (remove_plan observed x p) (changing_document d x q) (spares-removing parent observed x p m.apart)
    (either_way (SparesAll parent q) (not (has_document q.trees d x)) (set_document x d ∷ []) [] (tt, tt) tt)) (tt, tt)

-- as other plans need it
spares-joins_on : (y : NodeName) → Joins (SparesAll y)
spares-joins_on y = record { nothing = λ p. tt; append = λ p xs ys c. spares-append y p xs ys }

-- an insertion
pub spares-inserting : {node parent : NodeName} {p : Part} (how : Observing) (before : Option NodeName) → IsPart p → MayGo parent p node →
    SparesAll parent p (insert_plan how node parent before p)
spares-inserting {node} {parent} {p} how before i m =
    let each : LeadsEach (Some parent) (MayGo parent) (remove_plan suppressed) = record {
      leads = λ q x j n. leads-eased (Some parent) q (remove_plan suppressed x q) (leads-removing suppressed x q j);
      stays = may-still parent;
    } in
    inserting-by (spares-joins_on parent) i m (record {
      removals = each-by (spares-joins_on parent) each (λ q x j n. spares-removing parent suppressed x q n.apart) (placed_nodes p.trees node) p i
          (placed-may parent p node i m);
      left = λ q c. (tt, tt);
      room = λ q. roomy before q;
      placed = λ q c may. each-by (spares-joins_on parent) (placing-each parent before) (λ r x j n. spares-placing parent before r x n)
          (placed_nodes p.trees node) q c.part may;
      told = λ q c. silent how q;
    })
  where
    silent : (how : Observing) (q : Part) →
        SparesAll parent q (telling how (child_list parent (placed_nodes p.trees node) [] (sibling_before p.trees parent before) before))
    silent observed q = (tt, tt)
    silent suppressed q = tt

    roomy : (before : Option NodeName) (q : Part) → SparesAll parent q (making_room parent before (length (placed_nodes p.trees node)) q)
    roomy None q = tt
    roomy (Some child) q = (tt, tt)

-- a split of a Text below the node
pub spares-splitting : (x : NodeName) (offset : ℕ) (p : Part) → IsPart p → SparesAll (unwrap_or (parent_of p.trees x) x) p (splitting x offset p)
spares-splitting x offset p i =
    let old = node_in p.trees x in
    let new = next_name p in
    let tail = new_text_node new old.document (drop offset old.text) in
    let spot = parent_of p.trees x in
    let q = part_step p (make tail) in
    let one = make tail ∷ placing_tail x offset new spot q in
    let put = by_some_is (λ (o : Option NodeName). SparesAll (unwrap_or o x) q (placing_tail x offset new o q)) spot (λ e. tt)
    (λ parent e. spares-append parent q (insert_plan observed new parent (next_sibling q.trees x) q) _
    (spares-inserting observed (next_sibling q.trees x) (leads-one p (make tail) i tt).changed.part
    (new-may p tail parent i (parent-there p.trees x parent e))) (tt, tt)) in
    spares-append (unwrap_or spot x) p one (replacing_data x offset (length old.text - offset) [] (after p one)) (tt, put) (tt, (tt, tt))
