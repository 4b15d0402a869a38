-- The extraction of a live range of a `Doc`: what its pieces are, that they may be taken, and what is left.
use Rattle.dom_range_ops.proofs.Cited.{◌≡◌, [], ◌∷◌, ◌++◌, List, refl, sym, ap, ◌∙◌, append_assoc, ℕ, ◌-◌, None, append-nil, NodeName, Plan, ◌and_then◌, doing}
use Rattle.dom_range_ops.proofs.Cited.{observed, insert_plan, Pieces, whole, cut, clone, clone_part, making_below, taking, pieces_of, new_fragment_node}
use Rattle.dom_range_ops.proofs.Cited.{own_document, both_at, new_place, extracting, Part, next_name, Range, after, make, set_range, replacing_data, node_in}
use Rattle.dom_range_ops.proofs.Cited.{with_name, after-append, nothing, Item, end_item, items_of, extracting_items, top_of, taking_items, suc, ◌≤◌, ◌+◌, true}
use Rattle.dom_range_ops.proofs.Cited.{false, true≢false, arith, AllByRecursion, and_parts, tree_holding, common_ancestor, is_in_one_data, name_eq, is_before}
use Rattle.dom_range_ops.proofs.Cited.{at, part_step, Node, kind_of, has_data, is_shadow, subtree, trees_below, is_inclusive_ancestor, times_in, HasBounds}
use Rattle.dom_range_ops.proofs.Cited.{HasEnds, IsPart, IsClonable, common_below, fit-apart, fit-pieces, whole-pieces, next-absent, OldIn, old-there, Changed}
use Rattle.dom_range_ops.proofs.Cited.{still, leads-one, new-there, AreFit, AllWhole, HasNode, no_parent-root, times-has_node, node-new, nodes-named}
use Rattle.dom_range_ops.proofs.Cited.{nodes-then, root-below_none, times-below, make-keeps, common-read, has_node-times, all-append, all-then, by_cases}
use Rattle.dom_range_ops.proofs.Cited.{times_subtree, whole_item, cut_item, clone_item, made_by, ShadowRootsHaveNoParent, MayBeTaken, MayTake, map, Option}
use Rattle.dom_range_ops.proofs.Cited.{Some, subst, ForSome, option_map_or, ltb-false, Owner, Limit, limit_on, of_range, past_limit, plan_of_range}
use Rattle.dom_range_ops.proofs.Cited.{made_by_extracting, range_at, Boundary, first_refusal, World, part_of, world_after, DocState, made, name_in, trees_in}
use Rattle.dom_range_ops.proofs.Cited.{Points, Piece, IsOfPoints, item_in, new_names, range_at_points}
use Rattle.dom_range_ops.proofs.TakingParts.{data-no_shadow, taken-of}
use Rattle.dom_range_ops.proofs.PieceSteps.{made-pieces}

-- three plans in turn
pub then-assoc : (f g h : Plan) (p : Part) → ((f and_then g) and_then h) p ≡ (f and_then (g and_then h)) p
then-assoc f g h p =
    let one = f p in
    let q = after p one in
    let two = g q in
    ap (λ (r : Part). (one ++ two) ++ h r) (after-append p one two) ∙ append_assoc one two (h (after q two))

-- two plans that do the same do it behind another plan too
pub then-same : (f g h : Plan) (p : Part) → ((q : Part) → g q ≡ h q) → (f and_then g) p ≡ (f and_then h) p
then-same f g h p is = ap (λ steps. f p ++ steps) (is (after p (f p)))

-- and a plan that is the same
then-first : (f g h : Plan) (p : Part) → f p ≡ g p → (f and_then h) p ≡ (g and_then h) p
then-first f g h p is = ap (λ steps. steps ++ h (after p steps)) is

-- pieces and then more
pub items-taking : (into : NodeName) (pieces : Pieces) (clones : List NodeName) (more : List Item) (p : Part) →
    taking_items into clones (items_of pieces ++ more) p ≡ (taking (top_of into clones) pieces and_then taking_items into clones more) p
items-taking into nothing clones more p = refl
items-taking into (whole x rest) clones more p =
    let top = top_of into clones in
    let one : Plan = insert_plan observed x top None in
    let last = taking_items into clones more in
    then-same one (taking_items into clones (items_of rest ++ more)) (taking top rest and_then last) p (items-taking into rest clones more) ∙
    sym (then-assoc one (taking top rest) last p)
items-taking into (cut x from to rest) clones more p =
    let top = top_of into clones in
    let one : Plan = making_below top (clone_part (next_name p) from to (node_in p.trees x)) and_then replacing_data x from (to - from) [] in
    let last = taking_items into clones more in
    then-same one (taking_items into clones (items_of rest ++ more)) (taking top rest and_then last) p (items-taking into rest clones more) ∙
    sym (then-assoc one (taking top rest) last p)
items-taking into (clone x inside rest) clones more p =
    let top = top_of into clones in
    let new = next_name p in
    let one = making_below top (with_name new (node_in p.trees x)) in
    let last = taking_items into clones more in
    let behind = items_of rest ++ more in
    let deep : (q : Part) → taking_items into (new ∷ clones) ((items_of inside ++ end_item ∷ items_of rest) ++ more)
    q ≡ (taking new inside and_then (taking top rest and_then last)) q =
    λ q. ap (λ items. taking_items into (new ∷ clones) items q) (append_assoc (items_of inside) (end_item ∷ items_of rest) more)
    ∙ items-taking into inside (new ∷ clones) (end_item ∷ behind) q
    ∙ then-same (taking new inside) (taking_items into (new ∷ clones) (end_item ∷ behind)) (taking top rest and_then last) q
    (items-taking into rest clones more) in
    then-same one (taking_items into (new ∷ clones) ((items_of inside ++ end_item ∷ items_of rest) ++ more))
    (taking new inside and_then (taking top rest and_then last)) p deep
    ∙ sym (then-assoc one (taking new inside) (taking top rest and_then last) p)
    ∙ sym (then-assoc (one and_then taking new inside) (taking top rest) last p)

-- all pieces
pub items-all : (into : NodeName) (pieces : Pieces) (p : Part) → taking_items into [] (items_of pieces) p ≡ taking into pieces p
items-all into pieces p =
    ap (λ items. taking_items into [] items p) (sym (append-nil (items_of pieces)))
    ∙ items-taking into pieces [] [] p
    ∙ append-nil (taking into pieces p)

-- so the steps of an extraction are those with the items of its pieces
pub items-extracting : (k : ℕ) (r : Range NodeName) (p : Part) →
    extracting_items k r.start.node (new_place p.trees r) (items_of (pieces_of p.trees r)) p ≡ extracting k r p
items-extracting k r p =
    let into = next_name p in
    let first = doing (make (new_fragment_node into (own_document p.trees r.start.node))) in
    let pieces = pieces_of p.trees r in
    then-first (first and_then taking_items into [] (items_of pieces)) (first and_then taking into pieces)
    (doing (set_range k (both_at (new_place p.trees r)))) p
    (then-same first (taking_items into [] (items_of pieces)) (taking into pieces) p (items-all into pieces))

-- What is known of an item before the fragment is made.
abbrev pub IsItemIn : Part → Item → Type 0
IsItemIn p (whole_item x) = HasNode p x × (is_shadow (kind_of p.trees x) ≡ false)
IsItemIn p (cut_item x from to) = HasNode p x × (has_data (kind_of p.trees x) ≡ true)
IsItemIn p (clone_item x) = HasNode p x × (has_data (kind_of p.trees x) ≡ false) × (is_shadow (kind_of p.trees x) ≡ false)
IsItemIn p end_item = Unit {0}

module _ (p : Part) (r : Range NodeName) (part : IsPart p) (ends : HasEnds p.trees r) (shadows : ShadowRootsHaveNoParent p.trees) where
  start-there : HasNode p r.start.node
  start-there = has_node-times p.trees r.start.node ends.start

  -- a node that is there, of which a clone may be made where it is no Text and no Comment
  abbrev IsLower : NodeName → Type 0
  IsLower x = HasNode p x × (has_data (kind_of p.trees x) ≡ false → is_shadow (kind_of p.trees x) ≡ false)

  -- what is below a node is so: a shadow root is below none
  below-lower : (a x : NodeName) → 1 ≤ times_in (trees_below (subtree p.trees a)) x → IsLower x
  below-lower a x m =
      let t : HasNode p x = let b = times-below (subtree p.trees a) x in let c = times_subtree p.trees a x in omega arith in (
        t,
        λ k. by_cases (is_shadow (kind_of p.trees x))
            (λ s. absurd (let off = root-below_none p.trees part.unique x (no_parent-root p.trees x t (shadows x s)) a in omega arith)) (λ s. s),
      )

  -- a start in a Text or Comment that has both ends
  in-data : is_in_one_data p.trees r ≡ true → has_data (kind_of p.trees r.start.node) ≡ true
  in-data e = (and_parts (name_eq r.start.node r.end.node) (has_data (kind_of p.trees r.start.node)) e).1

  -- so are the nodes of the pieces
  pieces-lower : AllWhole IsLower (pieces_of p.trees r)
  pieces-lower =
      whole-pieces IsLower p.trees r (λ e. (start-there, λ k. absurd (true≢false (sym (in-data e) ∙ k))))
      (nodes-named IsLower (common_below p.trees r) (below-lower (common_ancestor p.trees r)))

  -- what is cut is a Text or a Comment, and what is cloned is not
  abbrev AreKinds : Pieces → Type 0
  AreKinds pieces = AreFit (λ x. Unit {0}) (λ x. has_data (kind_of p.trees x) ≡ true) (λ x. has_data (kind_of p.trees x) ≡ false) pieces

  pieces-kinds : AreKinds (pieces_of p.trees r)
  pieces-kinds =
      let ts = p.trees in
      let Any = λ (x : NodeName). Unit {0} in
      let IsData = λ (x : NodeName). has_data (kind_of ts x) ≡ true in
      let IsOpen = λ (x : NodeName). has_data (kind_of ts x) ≡ false in
      let Read : Node → Type 0 = λ n. (1 ≤ times_in ts n.name) × (n ≡ node_in ts n.name) in
      let below = common_below ts r in
      let clonable = nodes-then Read (IsClonable IsData IsOpen)
      (λ n h. let kind = sym (ap (λ (m : Node). has_data m.kind) h.1) in ((λ d. kind ∙ d), (λ d. kind ∙ d))) below
      (common-read ts r part.unique) in
      fit-pieces Any IsData IsOpen ts r in-data
      (fit-apart Any IsData IsOpen ts r clonable (nodes-named (λ x. is_before ts r.start (at x 0) ≡ true → Any x) below (λ x m k. tt))
      (nodes-named (λ x. is_inclusive_ancestor ts x r.end.node ≡ false → Any x) (tree_holding ts r.end.node r.start.node below) (λ x m k. tt)))

  -- so their items are as is asked
  items-in : (pieces : Pieces) → AllWhole IsLower pieces → AreKinds pieces → AllByRecursion (IsItemIn p) (items_of pieces)
  items-in nothing h k = tt
  items-in (whole x rest) h k =
      ((h.0.0, by_cases (has_data (kind_of p.trees x)) (data-no_shadow (kind_of p.trees x)) h.0.1), items-in rest h.1 k.1)
  items-in (cut x from to rest) h k = ((h.0.0, k.0), items-in rest h.1 k.1)
  items-in (clone x inner rest) h k =
      ((h.0.0, k.0, h.0.1 k.0), all-append (IsItemIn p) (items_of inner) (end_item ∷ items_of rest) (items-in inner h.1 k.1) (tt, items-in rest h.2 k.2))

  -- With the fragment that is made they may be taken.
  module _ (n : Node) (named : n ≡ record n { name = next_name p }) (no_data : has_data n.kind ≡ false) (bounds : HasBounds p)
      (few : suc p.node_count + made_by (items_of (pieces_of p.trees r)) ≤ 1000000) where
    abbrev q : Part
    q = part_step p (make n)

    changed : Changed None p (part_step p (make n))
    changed = (leads-one p (make n) part tt).changed

    old : (x : NodeName) → HasNode p x → OldIn p.node_count (part_step p (make n)) x
    old x t = let o = old-there p part x t in record { there = still changed x o.there; alone = λ z h. changed.apart x z o.there tt (o.alone z h) }

    item-may : (item : Item) → IsItemIn p item → MayBeTaken (next_name p) (part_step p (make n)).trees item
    item-may (whole_item x) h = (taken-of (next_name p) q x (old x h.0), ap is_shadow (changed.kinds x h.0) ∙ h.1)
    item-may (cut_item x from to) h = (taken-of (next_name p) q x (old x h.0), ap has_data (changed.kinds x h.0) ∙ h.1)
    item-may (clone_item x) h = (taken-of (next_name p) q x (old x h.0), ap has_data (changed.kinds x h.0) ∙ h.1, ap is_shadow (changed.kinds x h.0) ∙ h.2)
    item-may end_item h = tt

    pub extract-may_take : MayTake (part_step p (make n)) (next_name p) [] (items_of (pieces_of p.trees r))
    extract-may_take =
        let made : node_in q.trees (next_name p) ≡ with_name (next_name p) n = node-new (with_name (next_name p) n) p.trees (next-absent p part) in
        record {
          bounds = make-keeps p n part bounds;
          takers = (
            record {
              there = times-has_node q.trees (next_name p) (new-there p n);
              no_data = ap (λ (m : Node). has_data m.kind) made ∙ no_data;
              new = omega arith;
            },
            tt,
          );
          taken = all-then (IsItemIn p) (MayBeTaken (next_name p) q.trees) item-may (items_of (pieces_of p.trees r))
              (items-in (pieces_of p.trees r) pieces-lower pieces-kinds);
          limited = few;
        }

-- an owner's live range of a number, and its pieces
pub record RangePieces : Type 0 where
  pub doc : DocState
  pub owner : Owner
  pub number : ℕ
  pub points : Points
  pub here : IsOfPoints doc owner number points
  pub pieces : List Piece
  pub value : map (item_in doc.names) pieces ≡ items_of (pieces_of (trees_in doc points.start.0) (range_at_points doc.names points))

module _ (m : RangePieces) where
  open m use {doc as d, owner as o, number as k, points, here, pieces, value}

  abbrev p : Part
  p = part_of d.world o

  abbrev r : Range NodeName
  r = range_at_points d.names points

  abbrev items : List Item
  items = map (item_in d.names) pieces

  -- the pieces of the owner's range
  pub own-items : map (item_in d.names) pieces ≡ items_of (pieces_of (part_of d.world o).trees (range_at_points d.names points))
  own-items = value ∙ ap (λ q. items_of (pieces_of (part_of d.world q).trees r)) here.owner

  -- they ask for as many nodes as the range's
  pub made-own : suc (made_by (map (item_in d.names) pieces)) ≡ made_by_extracting (part_of d.world o) (range_at_points d.names points)
  made-own = ap suc (ap made_by own-items ∙ made-pieces (pieces_of p.trees r))

  -- the limit that they keep or not is the command's
  pub limit-own : (more : ℕ) → more ≡ made_by (map (item_in d.names) pieces) →
      of_range (part_of d.world o) k None (λ range. limit_on (part_of d.world o).node_count (made_by_extracting (part_of d.world o) range)) ≡
      limit_on (part_of d.world o).node_count (suc more)
  limit-own more is =
      ap (λ (m : Option (Range NodeName)). option_map_or (λ range. limit_on p.node_count (made_by_extracting p range)) m None) here.there
      ∙ ap (limit_on p.node_count) (sym (ap suc is ∙ made-own))

  -- so is the refusal past it, and there is none where it is kept
  pub limit-refused : (more : ℕ) → more ≡ made_by (map (item_in d.names) pieces) → past_limit (part_of d.world o).node_count (suc more) ≡ true →
      of_range (part_of d.world o) k None (λ range. limit_on (part_of d.world o).node_count (made_by_extracting (part_of d.world o) range)) ≡ Some Limit
  limit-refused more is past = limit-own more is ∙ ap (λ b. first_refusal ((b, Limit) ∷ [])) past

  pub limit-kept : (more : ℕ) → more ≡ made_by (map (item_in d.names) pieces) → past_limit (part_of d.world o).node_count (suc more) ≡ false →
      of_range (part_of d.world o) k None (λ range. limit_on (part_of d.world o).node_count (made_by_extracting (part_of d.world o) range)) ≡ None
  limit-kept more is kept = limit-own more is ∙ ap (λ b. first_refusal ((b, Limit) ∷ [])) kept

  -- they may be taken, where the limit is kept
  pub own-may_take : IsPart (part_of d.world o) → HasBounds (part_of d.world o) → ShadowRootsHaveNoParent (part_of d.world o).trees →
      past_limit (part_of d.world o).node_count (suc (made_by (map (item_in d.names) pieces))) ≡ false →
      MayTake (part_step (part_of d.world o)
      (make (new_fragment_node (next_name (part_of d.world o)) (own_document (part_of d.world o).trees (name_in d points.start.0)))))
      (next_name (part_of d.world o)) [] (map (item_in d.names) pieces)
  own-may_take part bounds shadows few =
      let n = new_fragment_node (next_name p) (own_document p.trees (name_in d points.start.0)) in
      let ends = subst (λ q. HasEnds (part_of d.world q).trees r) here.owner here.range.ends in
      let most = ltb-false 1000000 (p.node_count + suc (made_by items)) few in
      let fits : suc p.node_count + made_by (items_of (pieces_of p.trees r)) ≤ 1000000 =
      subst (λ xs. suc p.node_count + made_by xs ≤ 1000000) own-items (omega arith) in
      subst (λ xs. MayTake (part_step p (make n)) (next_name p) [] xs) (sym own-items) (extract-may_take p r part ends shadows n refl refl bounds fits)

  -- the names that are given
  pub names-own : (more : List NodeName) → more ≡ d.names ++ new_names o (part_of d.world o).node_count (suc (made_by (map (item_in d.names) pieces))) →
      ForSome (range_at (part_of d.world o) k)
      (λ range. more ≡ d.names ++ new_names o (part_of d.world o).node_count (made_by_extracting (part_of d.world o) range))
  names-own more is range there =
      let both : Some r ≡ Some range = sym here.there ∙ there in
      let same : r ≡ range = cc in
      is ∙ ap (λ n. d.names ++ new_names o p.node_count n) (made-own ∙ ap (made_by_extracting p) same)

  -- the world that is left
  pub world-own : (place : Boundary NodeName) → place ≡ new_place (trees_in d points.start.0) (range_at_points d.names points) → (w : World) →
      w ≡ made o (extracting_items k (name_in d points.start.0) place (map (item_in d.names) pieces)) d.world →
      w ≡ made o (λ q. plan_of_range q k (extracting k)) d.world
  world-own place at_place w is =
      let new : place ≡ new_place p.trees r = at_place ∙ ap (λ q. new_place (part_of d.world q).trees r) here.owner in
      is
      ∙ ap (world_after o d.world) (
      ap (λ b. extracting_items k r.start.node b items p) new
      ∙ ap (λ xs. extracting_items k r.start.node (new_place p.trees r) xs p) own-items
      ∙ items-extracting k r p
      ∙ sym (ap (λ (m : Option (Range NodeName)). option_map_or (λ range. extracting k range p) m []) here.there))
