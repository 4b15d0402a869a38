-- Extractions of a range whose ends are in one tree keep all ends of ranges within their nodes.
use Rattle.dom_base.proofs.Std.{◌≡◌, ◌≤◌, ℕ, ◌-◌, true, false, not, ◌&&◌, List, [], ◌∷◌, ◌++◌, length, None, refl, sym, ap, ◌∙◌, arith, true≢false, subst}
use Rattle.dom_base.proofs.Std.{if◌then◌else◌, cond-true, and_parts, not-true}
use Rattle.dom_model.proofs.Model.{NodeName, DomString, name_eq, Trees, none, tree, Node, node_in, kind_of, has_data, subtree, trees_below, length_of}
use Rattle.dom_model.proofs.Model.{is_inclusive_ancestor, times_in, with_name, Part, next_name, Boundary, is_before, Range, at, is_collapsed, make, set_range}
use Rattle.dom_model.proofs.Model.{part_step, after, observed, insert_plan, replacing_data, Pieces, cut, tree_holding, pieces_of, common_ancestor}
use Rattle.dom_model.proofs.Model.{is_in_one_data, clone_part, making_below, taking, new_fragment_node, own_document, new_place, both_at, extracting}
use Rattle.dom_model.proofs.Model.{name_eq-same, name_eq-true}
use Rattle.dom_model.specs.Extract.{nothing}
use Rattle.dom_worlds.specs.Definitions.{IsPart, AllNodes}
use Rattle.dom_worlds.proofs.Bounds.{nowhere, HasRoom, room-make}
use Rattle.dom_worlds.proofs.Bounds as bounds
use Rattle.dom_worlds.proofs.Contained.{IsSpared}
use Rattle.dom_worlds.proofs.Descents.{inside-ancestor, inside-below}
use Rattle.dom_worlds.proofs.ShadowRoots.{IsClonable, common_below, fit-apart, fit-pieces}
use Rattle.dom_worlds.proofs.Insides.{inside, inside-here, inside-without}
use Rattle.dom_worlds.proofs.ChildCounts.{kids}
use Rattle.dom_worlds.proofs.Plans.{AreFit}
use Rattle.dom_worlds.proofs.Roots.{above-parent, length-data, node-with_node, node-new, read-all}
use Rattle.dom_worlds.proofs.TableRecords.{above-above}
use Rattle.dom_worlds.proofs.Lists.{all-then, by_cases, either_way, which_way}
use Rattle.dom_worlds.proofs.PartSteps.{next-absent}
use Rattle.dom_worlds.proofs.RangeBounds.{room-then, IsOpen, AreChildren, Misses, IsData, IsOpenIn, fits-still, room-taking}
use Rattle.dom_worlds.proofs.PlacedBounds.{texts-inserting}
use Rattle.dom_worlds.proofs.PlanPlaces.{Changed, MayGo, still, after-append, leads-one, leads-inserting}
use Rattle.dom_worlds.proofs.PlanTexts.{new-there, next-not, new-may}
use Rattle.dom_worlds.proofs.PlanContents.{CanTake, OldIn, old-there, whole-then, leads-making_below, pieces-there, leads-taking}
use Rattle.dom_worlds.proofs.PlanChildren.{IsChild, IsNot, child-make, child-parent}
use Rattle.dom_worlds.proofs.RangePlans.{room-at, above-kids, room-place_new, IsProper, zero_one, data-left, early-not, room-last}
use Rattle.dom_worlds.proofs.TableSteps.{HasNode}
use Rattle.dom_worlds.proofs.TreeChangeLaws.{nodes-subtree, nodes-then, nodes-named}
use Rattle.dom_laws.proofs.Laws.{Once}

-- Extraction. Each node of the trees is there, and is the one that is read under its name.
all-read : (ts : Trees) → Once ts → AllNodes (λ n. (1 ≤ times_in ts n.name) × (n ≡ node_in ts n.name)) ts
all-read ts u = diagonal ts (nodes-named (λ y. 1 ≤ times_in ts y) ts (λ y m. m)) (λ y t. read-all ts y u t)
  where
    diagonal : (us : Trees) → AllNodes (λ n. 1 ≤ times_in ts n.name) us →
        ((y : NodeName) → 1 ≤ times_in ts y → AllNodes (λ n. name_eq n.name y ≡ true → n ≡ node_in ts y) us) →
        AllNodes (λ n. (1 ≤ times_in ts n.name) × (n ≡ node_in ts n.name)) us
    diagonal none h f = tt
    diagonal (tree n c r) h f = ((h.0, (f n.name h.0).0 (name_eq-same n.name)), diagonal c h.1 (λ y t. (f y t).1), diagonal r h.2 (λ y t. (f y t).2))

-- the trees below a node
below-read : (P : Node → Type 0) (ts : Trees) → AllNodes P ts → AllNodes P (trees_below ts)
below-read P none h = tt
below-read P (tree n c r) h = h.1

-- so it is with those below the common ancestor of a range's ends
pub common-read : (ts : Trees) (r : Range NodeName) → Once ts → AllNodes (λ n. (1 ≤ times_in ts n.name) × (n ≡ node_in ts n.name)) (common_below ts r)
common-read ts r u =
    let Read : Node → Type 0 = λ n. (1 ≤ times_in ts n.name) × (n ≡ node_in ts n.name) in
    let a = common_ancestor ts r in
    below-read Read (subtree ts a) (nodes-subtree Read ts a (all-read ts u))

-- A node in a tree whose root is an inclusive ancestor of a range's end node, and not of its start node.
record IsOnEndSide (ts : Trees) (r : Range NodeName) (z : NodeName) : Type 0 where
  root : NodeName
  above : is_inclusive_ancestor ts root r.end.node ≡ true
  apart : is_inclusive_ancestor ts root r.start.node ≡ false
  over : is_inclusive_ancestor ts root z ≡ true

-- so is each node of the tree that holds the end alone
all-held : (ts : Trees) (r : Range NodeName) → Once ts → (us : Trees) → ((a z : NodeName) → inside us a z ≤ inside ts a z) →
    AllNodes (λ n. IsOnEndSide ts r n.name) (tree_holding ts r.end.node r.start.node us)
all-held ts r u none f = tt
all-held ts r u (tree n c e) f =
    let has_end = is_inclusive_ancestor ts n.name r.end.node in
    let has_start = is_inclusive_ancestor ts n.name r.start.node in
    which_way (AllNodes (λ m. IsOnEndSide ts r m.name)) (has_end && not has_start) (tree n c none) (tree_holding ts r.end.node r.start.node e)
    (λ k. let both = and_parts has_end (not has_start) k in
    nodes-named (IsOnEndSide ts r) (tree n c none) (λ z m. record {
      root = n.name;
      above = both.0;
      apart = not-true has_start both.1;
      over = inside-ancestor ts n.name z u (let i = inside-here n c e n.name z (name_eq-same n.name) in let j = f n.name z in omega arith);
    }))
    (λ k. all-held ts r u e (λ a z. let j = f a z in omega arith))

-- A range of a part, and children of a node that stay.
module _ (p : Part) (xs : List NodeName) (y : NodeName) (r : Range NodeName) (i : IsPart p) where
  -- where such a node is not above the end, it is none of the children of a node above the start, nor that node
  held-misses : AreChildren xs y p → is_inclusive_ancestor p.trees y r.start.node ≡ true → (z : NodeName) → IsOnEndSide p.trees r z →
      is_inclusive_ancestor p.trees z r.end.node ≡ false → Misses xs y z
  held-misses c above z h g =
      let ts = p.trees in
      let root = h.root in
      let lower : name_eq root z ≡ false =
      by_cases (name_eq root z) (λ e. absurd
      (true≢false (sym h.above ∙ ap (λ a. is_inclusive_ancestor ts a r.end.node) (name_eq-true root z e) ∙ g))) (λ e. e) in
      let not_over : is_inclusive_ancestor ts root y ≡ true → ⊥ = λ k. true≢false (sym (above-above ts root y r.start.node i.unique k above) ∙ h.apart) in (
        by_cases (name_eq z y) (λ e. absurd (not_over (subst (λ a. is_inclusive_ancestor ts root a ≡ true) (name_eq-true z y e) h.over))) (λ e. e),
        all-then (λ x. IsChild x y p) (λ x. IsNot x z)
            (λ x k. by_cases (name_eq z x)
            (λ e. let same = name_eq-true z x e in
            absurd (not_over (above-parent ts x i.unique (child-parent p x y i k) root
            (subst (λ a. is_inclusive_ancestor ts root a ≡ true) same h.over) (subst (λ a. name_eq root a ≡ false) same lower))))
            (λ e. e))
            xs c.0,
      )

  -- the pieces of a range
  fit-range : HasNode p r.start.node → IsSpared p.trees r y xs → AreChildren xs y p → AreFit (Misses xs y) (IsData p) (IsOpenIn p) (pieces_of p.trees r)
  fit-range t s c =
      let ts = p.trees in
      let W = Misses xs y in
      let a = common_ancestor ts r in
      let below = common_below ts r in
      let Read : Node → Type 0 = λ n. (1 ≤ times_in ts n.name) × (n ≡ node_in ts n.name) in
      let clonable = nodes-then Read (IsClonable (IsData p) (IsOpenIn p))
      (λ n h. let kind = sym (ap (λ (m : Node). has_data m.kind) h.1) in ((λ d. (h.0, kind ∙ d)), (λ d. (h.0, kind ∙ d)))) below
      (common-read ts r i.unique) in
      let early = nodes-named (λ z. is_before ts r.start (at z 0) ≡ true → W z) below (λ z m k. early-not ts r z k (y ∷ xs) (s.parent, s.children)) in
      let held = all-held ts r i.unique below (λ x z. let b = inside-below (subtree ts a) x z in let w = inside-without ts a x z in omega arith) in
      let last = nodes-then (λ n. IsOnEndSide ts r n.name) (λ n. is_inclusive_ancestor ts n.name r.end.node ≡ false → W n.name)
      (λ n h. held-misses c s.above n.name h) (tree_holding ts r.end.node r.start.node below) held in
      fit-pieces W (IsData p) (IsOpenIn p) ts r (λ e. (t, (and_parts (name_eq r.start.node r.end.node) (has_data (kind_of ts r.start.node)) e).1))
      (fit-apart W (IsData p) (IsOpenIn p) ts r clonable early last)

-- pieces that were there before a new node are old
pieces-old : (p q : Part) → Changed None p q → IsPart p → (pieces : Pieces) → Rattle.dom_worlds.proofs.Plans.AllWhole (HasNode p) pieces →
    Rattle.dom_worlds.proofs.Plans.AllWhole (OldIn p.node_count q) pieces
pieces-old p q c i pieces h =
    whole-then (HasNode p) (OldIn p.node_count q)
    (λ x t. let o = old-there p i x t in record { there = still c x t; alone = λ z k. c.apart x z t tt (o.alone z k) }) pieces h

-- a Text in a part with a new node
length-made : (p : Part) (n : Node) (x : NodeName) → IsPart p → has_data (kind_of p.trees x) ≡ true →
    length_of (part_step p (make n)).trees x ≡ length_of p.trees x
length-made p n x i k =
    let t = bounds.data-there p.trees x k in
    let same = node-with_node (with_name (next_name p) n) p.trees x i.unique t (next-not p i x t) in
    length-data (part_step p (make n)).trees x (ap (λ (m : Node). has_data m.kind) same ∙ k) ∙ ap (λ (m : Node). length m.text) same ∙
    sym (length-data p.trees x k)

-- a new node, and the one that it goes below
record MakesBelow (n : Node) (into : NodeName) (p : Part) : Type 0 where
  named : n.name ≡ next_name p
  part : IsPart p
  there : HasNode p into

-- and where that went below another one
length-below : {p : Part} (n : Node) (into x : NodeName) → MakesBelow n into p → has_data (kind_of p.trees x) ≡ true →
    length_of (after p (making_below into n p)).trees x ≡ length_of p.trees x
length-below {p} n into x makes k =
    let i = makes.part in
    let q = part_step p (make n) in
    let first = leads-one p (make n) i tt in
    let there = bounds.data-there p.trees x k in
    let may : MayGo into q n.name = subst (MayGo into q) (sym makes.named) (new-may p n into i makes.there) in
    let put = leads-inserting observed n.name into None first.changed.part may in
    let texts = texts-inserting observed None first.changed.part may x (still first.changed x there) in
    let kq : has_data (kind_of q.trees x) ≡ true = ap has_data (first.changed.kinds x there) ∙ k in
    length-data (after q (insert_plan observed n.name into None q)).trees x (ap has_data (put.changed.kinds x (still first.changed x there)) ∙ kq) ∙
    ap (λ (s : DomString). length s) texts ∙ sym (length-data q.trees x kq) ∙ length-made p n x i k

-- an extraction
pub room-extracting : (k : ℕ) (r : Range NodeName) (p : Part) → IsPart p → IsProper p r → HasRoom nowhere p → HasRoom nowhere (after p (extracting k r p))
room-extracting k r p i g h =
    let steps = taking into (pieces_of p.trees r) q in
    let done = by_cases (is_inclusive_ancestor p.trees r.start.node r.end.node)
    (λ e. by_cases (has_data (kind_of p.trees r.start.node)) (λ d. in_data e d) (λ d. in_trees (λ f. d)))
    (λ e. in_trees (λ f. absurd (true≢false (sym f ∙ e)))) in
    room-then nowhere p (make fragment ∷ steps) (set_range k (both_at (new_place p.trees r)) ∷ [])
    (room-last p (after q steps) k (new_place p.trees r) done.1 done.0)
  where
    into : NodeName
    into = next_name p

    fragment : Node
    fragment = new_fragment_node (next_name p) (own_document p.trees r.start.node)

    q : Part
    q = part_step p (make (new_fragment_node (next_name p) (own_document p.trees r.start.node)))

    first : Changed None p (part_step p (make (new_fragment_node (next_name p) (own_document p.trees r.start.node))))
    first = (leads-one p (make (new_fragment_node (next_name p) (own_document p.trees r.start.node))) i tt).changed

    opened : IsOpen (part_step p (make (new_fragment_node (next_name p) (own_document p.trees r.start.node)))) (next_name p)
    opened = ap (λ (n : Node). has_data n.kind)
        (node-new (with_name (next_name p) (new_fragment_node (next_name p) (own_document p.trees r.start.node))) p.trees (next-absent p i))

    in_trees : (is_inclusive_ancestor p.trees r.start.node r.end.node ≡ true → IsOpen p r.start.node) → let q =
        part_step p (make (new_fragment_node (next_name p) (own_document p.trees r.start.node))) in HasRoom nowhere
        (after q (taking (next_name p) (pieces_of p.trees r) q)) ×
        ((new_place p.trees r).offset ≤ length_of (after q (taking (next_name p) (pieces_of p.trees r) q)).trees (new_place p.trees r).node)
    in_trees op =
        let n = new_fragment_node (next_name p) (own_document p.trees r.start.node) in
        let q = part_step p (make n) in
        let c = (leads-one p (make n) i tt).changed in
        let pieces = pieces_of p.trees r in
        let room = room-place_new p r i h g.start g.end g.one_tree g.within op in
        let b = new_place p.trees r in
        let kc = room.children in
        let kids_q : AreChildren room.held b.node q = (
          all-then (λ x. IsChild x b.node p) (λ x. IsChild x b.node q) (λ x m. child-make x b.node n p m) room.held kc.0,
          still c b.node
              kc.1,
        ) in
        let old = pieces-old p q c i pieces (pieces-there p r g.start) in
        let fit = fits-still room.held b.node c pieces (fit-range p room.held b.node r i g.start room.spared kc) in
        let le : p.node_count ≤ (next_name p).number = omega arith in
        let take : CanTake p.node_count pieces (next_name p) q = record { part = c.part; counted = c.count; new = le; there = new-there p n; old = old } in
        let taken = room-taking room.held b.node p.node_count pieces (next_name p) q (record {
          take = take;
          opened = opened;
          fit = fit;
          room = room-make nowhere p n i h;
          children = kids_q;
        }) in
        let l = leads-taking pieces take in (
          taken.0,
          room-at room l.changed.part
              (ap has_data (l.changed.kinds b.node (still c b.node kc.1) ∙ c.kinds b.node kc.1) ∙ room.opened) taken.1,
        )

    in_data : is_inclusive_ancestor p.trees r.start.node r.end.node ≡ true → has_data (kind_of p.trees r.start.node) ≡ true → let q =
        part_step p (make (new_fragment_node (next_name p) (own_document p.trees r.start.node))) in HasRoom nowhere
        (after q (taking (next_name p) (pieces_of p.trees r) q)) ×
        ((new_place p.trees r).offset ≤ length_of (after q (taking (next_name p) (pieces_of p.trees r) q)).trees (new_place p.trees r).node)
    in_data e d =
        let ts = p.trees in
        let x = r.start.node in
        let n = new_fragment_node (next_name p) (own_document p.trees r.start.node) in
        let q = part_step p (make n) in
        let c = (leads-one p (make n) i tt).changed in
        let le : p.node_count ≤ (next_name p).number = omega arith in
        let place : new_place ts r ≡ r.start = cond-true (is_inclusive_ancestor ts x r.end.node) r.start _ e in
        let same : name_eq x r.end.node ≡ true =
        by_cases (name_eq x r.end.node) (λ s. s)
        (λ s. absurd (let a = above-kids p x r.end.node i e s in let z = h.leaves x d in zero_one (kids p.trees x) z a)) in
        let one : is_in_one_data ts r ≡ true = ap (λ b. b && has_data (kind_of ts x)) same ∙ d in
        let small = cut x r.start.offset r.end.offset nothing in
        let is : pieces_of ts r ≡ (if is_collapsed name_eq r then nothing else small) =
        ap (λ (s : Pieces). if is_collapsed name_eq r then nothing else s) (cond-true (is_in_one_data ts r) small _ one) in
        let kq : has_data (kind_of q.trees x) ≡ true = ap has_data (c.kinds x g.start) ∙ d in
        let lq = length-made p n x i d in
        let w = g.within in
        let m = clone_part (next_name q) r.start.offset r.end.offset (node_in q.trees x) in
        let below = making_below (next_name p) m q in
        let s = after q below in
        let lm = leads-making_below (next_name p) m q refl c.part (new-there p n) in
        let ls = length-below m (next_name p) x (record { named = refl; part = c.part; there = new-there p n }) kq in
        let ks : has_data (kind_of s.trees x) ≡ true = ap has_data (lm.changed.kinds x (still c x g.start)) ∙ kq in
        let count = r.end.offset - r.start.offset in
        let left = data-left s x r.start.offset count ks (omega arith) in
        let two = replacing_data x r.start.offset count [] s in
        let old = pieces-old p q c i small (g.start, tt) in
        let taken = room-taking [] x p.node_count small (next_name p) q (record {
          take = record { part = c.part; counted = c.count; new = le; there = new-there p n; old = old };
          opened = opened;
          fit = ((still c x g.start, kq), tt);
          room = room-make nowhere p n i h;
          children = (tt, still c x g.start);
        }) in
        let whole_steps = after-append q (below ++ two) [] ∙ after-append q below two in
        subst (λ pieces. HasRoom nowhere (after q (taking (next_name p) pieces q)) ×
        ((new_place ts r).offset ≤ length_of (after q (taking (next_name p) pieces q)).trees (new_place ts r).node)) (sym is)
        (subst (λ (b : Boundary NodeName). HasRoom nowhere
        (after q (taking (next_name p) (if is_collapsed name_eq r then nothing else small) q)) ×
        (b.offset ≤ length_of (after q (taking (next_name p) (if is_collapsed name_eq r then nothing else small) q)).trees b.node)) (sym place)
        (either_way (λ pieces. HasRoom nowhere (after q (taking (next_name p) pieces q)) ×
        (r.start.offset ≤ length_of (after q (taking (next_name p) pieces q)).trees x)) (is_collapsed name_eq r) nothing small
        (room-make nowhere p n i h, omega arith)
        (taken.0, subst (λ (v : Part). r.start.offset ≤ length_of v.trees x) (sym whole_steps) left)))
