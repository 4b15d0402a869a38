-- Texts stay where no data are replaced, and a root that is placed is one child more for its parent.
use Rattle.dom_base.proofs.Std.{◌≡◌, ℕ, ◌+◌, Bool, true, false, not, List, [], ◌∷◌, ◌++◌, drop, length, Option, Some, None, refl, sym, ap, ◌∙◌, arith}
use Rattle.dom_base.proofs.Std.{true≢false, subst, if◌then◌else◌, ⊤, AllByRecursion, option_map_or, cond-true, cond-false}
use Rattle.dom_model.proofs.Model.{NodeName, name_eq, is_in, is_empty, Trees, Node, node_in, kind_of, is_fragment, children_of, parent_of}
use Rattle.dom_model.proofs.Model.{inclusive_descendants, roots, with_document, child_list, Part, Step, place, take_out, set_document, part_step, after, Plan}
use Rattle.dom_model.proofs.Model.{in_turn, steps_of, Observing, observed, suppressed, telling, removal_record, remove_plan, removing_from, has_document}
use Rattle.dom_model.proofs.Model.{changing_document, adopt_plan, document_below, placed_nodes, emptying, making_room, placing, sibling_before, inserting_nodes}
use Rattle.dom_model.proofs.Model.{insert_plan, name_eq-same}
use Rattle.dom_worlds.specs.Definitions.{IsPart}
use Rattle.dom_worlds.proofs.ChildCounts.{kids, one_at, kids-placed, kids-map_nodes}
use Rattle.dom_worlds.proofs.Roots.{node-taken_out, node-placed, node-map_nodes}
use Rattle.dom_worlds.proofs.Lists.{all-then, either_way, all-from}
use Rattle.dom_worlds.proofs.PlanChildren.{documented, Joins, each-by, inserting-by}
use Rattle.dom_worlds.proofs.PlanPlaces.{may-place, MayGo, may-still, still, taken-step, telling-trees, root-adopting, after-append, emptied_of}
use Rattle.dom_worlds.proofs.PlanPlaces.{removing-each, leads-eased, placing-each, leads-removing, leads-adopting, leads-placing}
use Rattle.dom_worlds.proofs.PlanPlaces.{roomed, leads-roomed, roomed-may}
use Rattle.dom_worlds.proofs.Reached.{root-alone}
use Rattle.dom_worlds.proofs.TableSteps.{HasNode}
use Rattle.dom_worlds.proofs.TreeChangeLaws.{HasRoot, root-placed, root-map_nodes}
use Rattle.dom_worlds.proofs.Trees.{all-both}
use Rattle.dom_worlds.proofs.PartSteps.{document_put, document_put-keeps}

-- Texts stay where no data are replaced.
abbrev pub SameTexts : Part → Part → Type 0
SameTexts p q = (y : NodeName) → HasNode p y → (node_in q.trees y).text ≡ (node_in p.trees y).text

-- of removals
texts-removing : (how : Observing) (x : NodeName) (p : Part) → IsPart p → SameTexts p (after p (remove_plan how x p))
texts-removing how x p i y t = from (parent_of p.trees x) refl
  where
    from : (o : Option NodeName) → parent_of p.trees x ≡ o →
        (node_in (after p (option_map_or (removing_from how x p.trees) o [])).trees y).text ≡ (node_in p.trees y).text
    from None e = refl
    from (Some parent) e =
        ap (λ ts. (node_in ts y).text) (telling-trees how (removal_record p.trees parent x) (part_step p (take_out x)) ∙
        ap (λ (q : Part). q.trees) (taken-step p x parent e))
        ∙ ap (λ (n : Node). n.text) (node-taken_out p.trees x y i.unique t)

-- of one after another
texts-then : (p : Part) (xs ys : List Step) → ((y : NodeName) → HasNode p y → HasNode (after p xs) y) → SameTexts p (after p xs) →
    SameTexts (after p xs) (after (after p xs) ys) → SameTexts p (after p (xs ++ ys))
texts-then p xs ys s a b y t = ap (λ (q : Part). (node_in q.trees y).text) (after-append p xs ys) ∙ b y (s y t) ∙ a y t

-- of an adoption
texts-adopting : (d x : NodeName) (p : Part) → IsPart p → SameTexts p (after p (adopt_plan d x p))
texts-adopting d x p i =
    let first = leads-removing observed x p i in
    let q = after p (remove_plan observed x p) in
    texts-then p (remove_plan observed x p) (changing_document d x q) (λ y. still first.changed y) (texts-removing observed x p i)
    (λ y t. either_way (λ steps. (node_in (after q steps).trees y).text ≡ (node_in q.trees y).text) (not (has_document q.trees d x)) (set_document x d ∷ []) []
    (ap (λ (n : Node). n.text) (node-map_nodes (document_put q.trees x d) (λ n. (document_put-keeps q.trees x d n).0) q.trees y t)
    ∙ either_way (λ (m : Node). m.text ≡ (node_in q.trees y).text) (is_in name_eq (node_in q.trees y).name (inclusive_descendants q.trees x))
    (with_document d (node_in q.trees y)) (node_in q.trees y) refl refl) refl)

-- Roots that are placed: one child more for each. Each of a list is another.
abbrev pub Distinct : List NodeName → Type 0
Distinct [] = ⊤
Distinct (x ∷ xs) = AllByRecursion (λ y. name_eq x y ≡ false) xs × Distinct xs

-- a root has no parent
root-parent : (p : Part) (x : NodeName) → IsPart p → HasRoot p.trees x → parent_of p.trees x ≡ None
root-parent p x i h = ap (λ path. Rattle.dom_model.specs.Names.first_of (drop 1 path)) (root-alone p.trees i.unique x h)

-- so nothing is removed
root-stays : (how : Observing) (x : NodeName) (p : Part) → IsPart p → HasRoot p.trees x → remove_plan how x p ≡ []
root-stays how x p i h = ap (λ o. option_map_or (removing_from how x p.trees) o []) (root-parent p x i h)

-- The adoption of a root.
module _ (d x : NodeName) (p : Part) (i : IsPart p) (h : HasRoot p.trees x) where
  -- it leaves what a new document leaves
  root-adopted : (P : Trees → Type 0) → P p.trees → P (part_step p (set_document x d)).trees →
      P (after p (adopt_plan d x p)).trees
  root-adopted P a b =
      let steps = remove_plan observed x p in
      let none_made = root-stays observed x p i h in
      let q = after p steps in
      let same : q ≡ p = ap (after p) none_made in
      subst (λ (r : Part). P r.trees) (sym (after-append p steps (changing_document d x q)))
      (documented d x q P (subst (λ (r : Part). P r.trees) (sym same) a)
      (subst (λ (r : Part). P (part_step r (set_document x d)).trees) (sym same) b))

  -- children
  kids-root_adopted : (y : NodeName) → kids (after p (adopt_plan d x p)).trees y ≡ kids p.trees y
  kids-root_adopted y =
      root-adopted (λ ts. kids ts y ≡ kids p.trees y) refl
      (kids-map_nodes (document_put p.trees x d) (λ n. (document_put-keeps p.trees x d n).0) p.trees y)

  -- other roots
  roots-root_adopted : (y : NodeName) → HasRoot p.trees y → HasRoot (after p (adopt_plan d x p)).trees y
  roots-root_adopted y r =
      root-adopted (λ ts. HasRoot ts y) r
      (root-map_nodes (document_put p.trees x d) (λ n. (document_put-keeps p.trees x d n).0) p.trees y r)

-- The placing of nodes below a parent.
module _ (parent : NodeName) (before : Option NodeName) where
  -- of one
  module _ (p : Part) (x : NodeName) (i : IsPart p) where
    -- a root that is placed
    kids-root_placed : MayGo parent p x → HasRoot p.trees x → (y : NodeName) → kids (after p (placing parent before x p)).trees y
        ≡ kids p.trees y + one_at parent y
    kids-root_placed m h y =
        let doc = document_below p.trees parent in
        let steps = adopt_plan doc x p in
        let q = after p steps in
        let first = leads-eased (Some parent) p steps (leads-adopting doc x p i m.owner) in
        let n = may-still parent p q x first.changed m in
        let a = kids-root_adopted doc x p i h y in
        let b = kids-placed before y (may-place first.changed.part n) (root-adopting doc x p m.there) in
        let c = ap (λ (r : Part). kids r.trees y) (after-append p steps (place x parent before ∷ [])) in omega arith

    -- leaves other roots
    roots-root_placed : HasRoot p.trees x → (y : NodeName) → name_eq x y ≡ false → HasRoot p.trees y → HasRoot (after p (placing parent before x p)).trees y
    roots-root_placed h y e r =
        let doc = document_below p.trees parent in
        let steps = adopt_plan doc x p in
        subst (λ (q : Part). HasRoot q.trees y) (sym (after-append p steps (place x parent before ∷ [])))
        (root-placed parent before x (after p steps).trees y e (roots-root_adopted doc x p i h y r))

  -- all of them
  kids-roots_placed : (xs : List NodeName) {p : Part} → IsPart p → AllByRecursion (MayGo parent p) xs →
      AllByRecursion (HasRoot p.trees) xs → Distinct xs → kids (after p (in_turn (placing parent before) xs p)).trees parent ≡ kids p.trees parent + length xs
  kids-roots_placed [] i m r d = omega arith
  kids-roots_placed (x ∷ xs) {p} i m r d =
      let steps = placing parent before x p in
      let q = after p steps in
      let c = (leads-placing parent before p x i m.0).changed in
      let a = kids-root_placed p x i m.0 r.0 parent in
      let o : one_at parent parent ≡ 1 = cond-true (name_eq parent parent) 1 0 (name_eq-same parent) in
      let b = kids-roots_placed xs c.part (all-then (MayGo parent p) (MayGo parent q) (λ y. may-still parent p q y c) xs m.1)
      (all-then (λ y. HasRoot p.trees y × (name_eq x y ≡ false)) (HasRoot q.trees)
      (λ y h. let h1 = h.1 in roots-root_placed p x i r.0 y h.1 h.0) xs
      (all-both (HasRoot p.trees) (λ y. name_eq x y ≡ false) xs r.1 d.0)) d.1 in
      let e = ap (λ (s : Part). kids s.trees parent) (after-append p steps (in_turn (placing parent before) xs q)) in omega arith

-- The insertion of a node that may go below the parent.
module _ (how : Observing) (node parent : NodeName) (before : Option NodeName) (p : Part) (i : IsPart p) (m : MayGo parent p node) where
  -- An insertion, by what is placed: the children of its parent are that many more.
  pub kids-inserted : let moved = placed_nodes p.trees node in let q = after p (emptied_of p node p) in AllByRecursion (HasRoot q.trees) moved →
      Distinct moved → kids q.trees parent ≡ kids p.trees parent → kids (after p (insert_plan how node parent before p)).trees parent
      ≡ kids p.trees parent + length moved
  kids-inserted roots distinct same =
      let moved = placed_nodes p.trees node in
      let record_of = child_list parent moved [] (sibling_before p.trees parent before) before in
      let one = emptied_of p node p in
      let q = after p one in
      let front = roomed node parent before p in
      let r_trees : (after p front).trees ≡ q.trees =
      ap (λ (s : Part). s.trees) (after-append p one (making_room parent before (length moved) q)) ∙ unmoved before (length moved) q in
      let three = in_turn (placing parent before) moved (after p front) in
      let placed_all = kids-roots_placed parent before moved (leads-roomed node parent before i).changed.part (roomed-may node parent before i m)
      (subst (λ ts. AllByRecursion (HasRoot ts) moved) (sym r_trees) roots) distinct in
      let s_trees = ap (λ (t : Part). kids t.trees parent) (after-append p front three) in
      let end = ap (λ (t : Part). kids t.trees parent) (after-append p (front ++ three) (telling how record_of)) in
      let quiet = ap (λ ts. kids ts parent) (telling-trees how record_of (after p (front ++ three))) in
      let before_all = ap (λ ts. kids ts parent) r_trees in
      from (is_empty moved) moved refl (inserting_nodes how node moved parent before p) (omega arith)
    where
      unmoved : (before : Option NodeName) (count : ℕ) (q : Part) → (after q (making_room parent before count q)).trees ≡ q.trees
      unmoved None count q = refl
      unmoved (Some child) count q = refl

      from : (b : Bool) (moved : List NodeName) → is_empty moved ≡ b → (steps : List Step) →
          kids (after p steps).trees parent ≡ kids p.trees parent + length moved →
          kids (after p (if b then [] else steps)).trees parent ≡ kids p.trees parent + length moved
      from false moved e steps h = h
      from true [] e steps h = omega arith
      from true (x ∷ moved) e steps h = absurd (true≢false (sym e))

  -- of a root that is no fragment
  pub kids-plain : HasRoot p.trees node → is_fragment (kind_of p.trees node) ≡ false → kids (after p (insert_plan how node parent before p)).trees parent
      ≡ kids p.trees parent + 1
  kids-plain h k =
      let moved = placed_nodes p.trees node in
      let alone : moved ≡ node ∷ [] = cond-false (is_fragment (kind_of p.trees node)) (children_of p.trees node) (node ∷ []) k in
      let none_made : emptied_of p node p
      ≡ [] = ap (λ (f : Plan). f p) (cond-false (is_fragment (kind_of p.trees node)) (emptying node moved) (steps_of []) k) in
      let same : after p (emptied_of p node p) ≡ p = ap (after p) none_made in
      let size = ap length alone in
      let g = kids-inserted
      (subst (λ (q : Part). AllByRecursion (HasRoot q.trees) moved) (sym same)
      (subst (AllByRecursion (HasRoot p.trees)) (sym alone) (h, tt))) (subst Distinct (sym alone) (tt, tt))
      (ap (λ (q : Part). kids q.trees parent) same) in omega arith

-- Texts, through insertions.
texts-placing : (parent : NodeName) (before : Option NodeName) (p : Part) (x : NodeName) → IsPart p → MayGo parent p x →
    SameTexts p (after p (placing parent before x p))
texts-placing parent before p x i m =
    let doc = document_below p.trees parent in
    let steps = adopt_plan doc x p in
    let q = after p steps in
    let first = leads-eased (Some parent) p steps (leads-adopting doc x p i m.owner) in
    let n = may-still parent p q x first.changed m in
    texts-then p steps (place x parent before ∷ []) (λ y. still first.changed y) (texts-adopting doc x p i)
    (λ y t. ap (λ (n : Node). n.text) (node-placed before y (may-place first.changed.part n) t))

-- as other plans need it
texts-joins_on : Joins (λ p steps. SameTexts p (after p steps))
texts-joins_on = record { nothing = λ p y t. refl; append = λ p xs ys c a b. texts-then p xs ys (λ y. still c y) a b }

-- of an insertion
pub texts-inserting : {node parent : NodeName} {p : Part} (how : Observing) (before : Option NodeName) → IsPart p → MayGo parent p node →
    SameTexts p (after p (insert_plan how node parent before p))
texts-inserting {node} {parent} {p} how before i m =
    let moved = placed_nodes p.trees node in
    inserting-by texts-joins_on {before = before} i m (record {
      removals = each-by texts-joins_on (removing-each suppressed) (λ q x j g. texts-removing suppressed x q j) moved p i (all-from (λ x. ⊤) (λ x. tt) moved);
      left = λ q c y t. refl;
      room = λ q y t. ap (λ ts. (node_in ts y).text) (unmoved before q);
      placed = λ q c may. each-by texts-joins_on (placing-each parent before) (texts-placing parent before) moved q c.part may;
      told = λ q c y t. ap (λ ts. (node_in ts y).text) (telling-trees how (child_list parent moved [] (sibling_before p.trees parent before) before) q);
    })
  where
    unmoved : (before : Option NodeName) (q : Part) → (after q (making_room parent before (length (placed_nodes p.trees node)) q)).trees ≡ q.trees
    unmoved None q = refl
    unmoved (Some child) q = refl
