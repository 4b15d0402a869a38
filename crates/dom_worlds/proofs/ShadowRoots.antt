-- Pieces of ranges, and plans in a part with a shadow root: they place it nowhere.
use Rattle.dom_base.proofs.Std.{◌≡◌, ℕ, Bool, true, false, ◌&&◌, not, filter, ◌≤◌, List, [], ◌∷◌, ◌++◌, find, unwrap_or, Option, Some, None, refl, sym}
use Rattle.dom_base.proofs.Std.{ap, ◌∙◌, arith, true≢false, if◌then◌else◌, ⊤, and_parts, cond-true, cond-false, AllByRecursion, option_map_or}
use Rattle.dom_base.proofs.Std.{option_or, find-append}
use Rattle.dom_model.proofs.Model.{NodeName, name_eq, Trees, none, tree, Node, names_of, roots, has_data, subtree, trees_below, length_of}
use Rattle.dom_model.proofs.Model.{is_inclusive_ancestor, nodes, no_node, kind_of, times_in, is_before, Range, at, is_collapsed, is_contained, Pieces}
use Rattle.dom_model.proofs.Model.{whole, cut, clone, pieces_along, pieces_behind, pieces_in_front, tree_holding, all_whole, ◌followed_by◌}
use Rattle.dom_model.proofs.Model.{common_ancestor, is_in_one_data, pieces_apart, pieces_of, Shadow, Refusal, Hierarchy, Command, NodeWord, own_refusal}
use Rattle.dom_model.proofs.Model.{effect, Part, range_at, may_be_inserted, pre_insert_refusal, named, limit_on, made_by_insert_node, cannot_take_node}
use Rattle.dom_model.proofs.Model.{insert_node_refusal, insertion_parent, start_reference, Effect, name_eq-true}
use Rattle.dom_model.specs.Extract.{nothing}
use Rattle.dom_worlds.specs.Definitions.{AllNodes, IsShadowAt}
use Rattle.dom_worlds.proofs.Plans.{AreFit, AllWhole, IsKept}
use Rattle.dom_worlds.proofs.Rules.{rules-kept}
use Rattle.dom_worlds.proofs.Lists.{by_cases, either_way, which_way}
use Rattle.dom_worlds.proofs.TreeChangeLaws.{nodes-then, nodes-listed, nodes-named, root-below_none}
use Rattle.dom_worlds.proofs.Trees.{root-there}
use Rattle.dom_laws.proofs.Laws.{times-here, times-elsewhere, times-more, by_times}
use Rattle.dom_worlds.proofs.PartSteps.{Allowed, IsOwn, own-step, next-other}
use Rattle.dom_worlds.proofs.Effects.{or-none, Makes, MayDo, made-effect}
use Rattle.dom_worlds.proofs.Placings.{insertion-tested, replacement-tested}

-- what follows for each
pub fit-then : (W : NodeName → Type 0) {C K W' C' K' : NodeName → Type 0} → ((x : NodeName) → W x → W' x) → ((x : NodeName) → C x → C' x) →
    ((x : NodeName) → K x → K' x) → (pieces : Pieces) → AreFit W C K pieces → AreFit W' C' K' pieces
fit-then W f g k nothing h = tt
fit-then W f g k (whole x rest) h = (f x h.0, fit-then W f g k rest h.1)
fit-then W f g k (cut x from to rest) h = (g x h.0, fit-then W f g k rest h.1)
fit-then W f g k (clone x inner rest) h = (k x h.0, fit-then W f g k inner h.1, fit-then W f g k rest h.2)

-- a node of which a clone may be taken: of data a part, of another one what is taken of its children
abbrev pub IsClonable : (NodeName → Type 0) → (NodeName → Type 0) → Node → Type 0
IsClonable C K n = (has_data n.kind ≡ true → C n.name) × (has_data n.kind ≡ false → K n.name)

-- the trees below the common ancestor of a range's ends
abbrev pub common_below : Trees → Range NodeName → Trees
common_below ts r = trees_below (subtree ts (common_ancestor ts r))

-- what holds of all nodes holds of those of a tree that holds one node alone
nodes-holding : (P : Node → Type 0) (ts : Trees) (x other : NodeName) (us : Trees) → AllNodes P us → AllNodes P (tree_holding ts x other us)
nodes-holding P ts x other none h = tt
nodes-holding P ts x other (tree n c r) h =
    either_way (AllNodes P) (is_inclusive_ancestor ts n.name x && not (is_inclusive_ancestor ts n.name other)) (tree n c none)
    (tree_holding ts x other r) (h.0, h.1, tt) (nodes-holding P ts x other r h.2)

-- Pieces whose nodes are W where they are taken whole, C where they are cut, and K where they are cloned.
module _ (W C K : NodeName → Type 0) where
  -- some and then others
  fit-followed : (pieces others : Pieces) → AreFit W C K pieces → AreFit W C K others → AreFit W C K (pieces followed_by others)
  fit-followed nothing others h g = g
  fit-followed (whole x rest) others h g = (h.0, fit-followed rest others h.1 g)
  fit-followed (cut x from to rest) others h g = (h.0, fit-followed rest others h.1 g)
  fit-followed (clone x inner rest) others h g = (h.0, h.1, fit-followed rest others h.2 g)

  -- trees on the path down to a node and beside it: what of them is cut or cloned, and what is taken whole
  record FitsAlong (ts : Trees) (x : NodeName) (taken : NodeName → Bool) (us : Trees) : Type 0 where
    clonable : AllNodes (IsClonable C K) us
    beside : AllNodes (λ n. is_inclusive_ancestor ts n.name x ≡ false → taken n.name ≡ true → W n.name) us

  -- those along the path down to a node
  fit-along : {us : Trees} (ts : Trees) (x : NodeName) (taken : NodeName → Bool) (from to : ℕ) → FitsAlong ts x taken us →
      AreFit W C K (pieces_along ts x taken from to us)
  fit-along {us = none} ts x taken from to fits = tt
  fit-along {us = tree n c r} ts x taken from to fits =
      let h = fits.clonable in
      let g = fits.beside in
      let P = AreFit W C K in
      let rest = pieces_along ts x taken from to r in
      let inner = pieces_along ts x taken from to c in
      let others = fit-along {us = r} ts x taken from to (record { clonable = h.2; beside = g.2 }) in
      let within = fit-along {us = c} ts x taken from to (record { clonable = h.1; beside = g.1 }) in
      which_way P (is_inclusive_ancestor ts n.name x) (if has_data n.kind then cut n.name from to rest else clone n.name inner rest)
      (if taken n.name then whole n.name rest else rest)
      (λ k. which_way P (has_data n.kind) (cut n.name from to rest) (clone n.name inner rest) (λ d. (h.0.0 d, others)) (λ d. (h.0.1 d, within, others)))
      (λ k. which_way P (taken n.name) (whole n.name rest) rest (λ t. (g.0 k t, others)) (λ t. others))

  -- roots that pass a test
  fit-roots : (taken : NodeName → Bool) (us : Trees) → AllNodes (λ n. taken n.name ≡ true → W n.name) us →
      AreFit W C K (all_whole (filter taken (names_of (roots us))))
  fit-roots taken none h = tt
  fit-roots taken (tree n c r) h = by_cases (taken n.name) (λ e. rw e (h.0 e, fit-roots taken r h.2)) (λ e. rw e (fit-roots taken r h.2))

  -- the pieces of a range whose ends are not in one Text or Comment: what is taken whole begins behind the start, or is in the
  -- tree that holds the end alone, and not above it
  pub fit-apart : (ts : Trees) (r : Range NodeName) → AllNodes (IsClonable C K) (common_below ts r) →
      AllNodes (λ n. is_before ts r.start (at n.name 0) ≡ true → W n.name) (common_below ts r) →
      AllNodes (λ n. is_inclusive_ancestor ts n.name r.end.node ≡ false → W n.name)
      (tree_holding ts r.end.node r.start.node (common_below ts r)) → AreFit W C K (pieces_apart ts r)
  fit-apart ts r clonable early last =
      let below = common_below ts r in
      let Early : Node → Type 0 = λ n. is_before ts r.start (at n.name 0) ≡ true → W n.name in
      let Last : Node → Type 0 = λ n. is_inclusive_ancestor ts n.name r.end.node ≡ false → W n.name in
      let front = tree_holding ts r.start.node r.end.node below in
      let back = tree_holding ts r.end.node r.start.node below in
      let starts = λ (x : NodeName). is_before ts r.start (at x 0) in
      let ends = λ (x : NodeName). is_before ts (at x (length_of ts x)) r.end in
      let first_child = fit-along {us = front} ts r.start.node starts r.start.offset (length_of ts r.start.node) (record {
        clonable = nodes-holding (IsClonable C K) ts r.start.node r.end.node below clonable;
        beside = nodes-then Early (λ n. is_inclusive_ancestor ts n.name r.start.node ≡ false → starts n.name ≡ true → W n.name) (λ n h k. h) front
            (nodes-holding Early ts r.start.node r.end.node below early);
      }) in
      let contained = fit-roots (is_contained ts r) below
      (nodes-then Early (λ n. is_contained ts r n.name ≡ true → W n.name) (λ n h k. h (and_parts (starts n.name) (ends n.name) k).0) below
      early) in
      let last_child = fit-along {us = back} ts r.end.node ends 0 r.end.offset (record {
        clonable = nodes-holding (IsClonable C K) ts r.end.node r.start.node below clonable;
        beside = nodes-then Last (λ n. is_inclusive_ancestor ts n.name r.end.node ≡ false → ends n.name ≡ true → W n.name) (λ n h k t. h k) back last;
      }) in
      fit-followed (pieces_behind ts r.start front)
      (all_whole (filter (is_contained ts r) (names_of (roots below))) followed_by pieces_in_front ts r.end back) first_child
      (fit-followed (all_whole (filter (is_contained ts r) (names_of (roots below)))) (pieces_in_front ts r.end back) contained last_child)

  -- the pieces of any range
  pub fit-pieces : (ts : Trees) (r : Range NodeName) → (is_in_one_data ts r ≡ true → C r.start.node) → AreFit W C K (pieces_apart ts r) →
      AreFit W C K (pieces_of ts r)
  fit-pieces ts r h g =
      let P = AreFit W C K in
      let one = cut r.start.node r.start.offset r.end.offset nothing in
      either_way P (is_collapsed name_eq r) nothing (if is_in_one_data ts r then one else pieces_apart ts r) tt
      (which_way P (is_in_one_data ts r) one (pieces_apart ts r) (λ e. (h e, tt)) (λ e. g))

-- what holds of all nodes below the common ancestor, and of the start node where it is a Text or Comment with both ends,
-- holds of all pieces
pub whole-pieces : (P : NodeName → Type 0) (ts : Trees) (r : Range NodeName) → (is_in_one_data ts r ≡ true → P r.start.node) →
    AllNodes (λ n. P n.name) (common_below ts r) → AllWhole P (pieces_of ts r)
whole-pieces P ts r h all =
    let below = common_below ts r in
    let N : Node → Type 0 = λ n. P n.name in
    fit-pieces P P P ts r h
    (fit-apart P P P ts r (nodes-then N (IsClonable P P) (λ n k. ((λ d. k), (λ d. k))) below all)
    (nodes-then N (λ n. is_before ts r.start (at n.name 0) ≡ true → P n.name) (λ n k e. k) below all)
    (nodes-then N (λ n. is_inclusive_ancestor ts n.name r.end.node ≡ false → P n.name) (λ n k e. k)
    (tree_holding ts r.end.node r.start.node below) (nodes-holding N ts r.end.node r.start.node below all)))

-- The rules of plans.
pub any-whole : (pieces : Pieces) → AllWhole (λ x. ⊤) pieces
any-whole nothing = tt
any-whole (whole x rest) = (tt, any-whole rest)
any-whole (cut x from to rest) = (tt, any-whole rest)
any-whole (clone x inside rest) = (tt, any-whole inside, any-whole rest)

-- a node that is not r
abbrev pub IsOther : NodeName → NodeName → Type 0
IsOther r x = name_eq x r ≡ false

-- A shadow root has its kind.
pub found-absent : (ts : Trees) (x : NodeName) → times_in ts x ≡ 0 → find (λ n. name_eq n.name x) (nodes ts) ≡ None
found-absent none x h = refl
found-absent (tree n c r) x h =
    by_cases (name_eq n.name x) (λ e. absurd (let g = times-here n c r x e in omega arith))
    (λ e. let g = times-elsewhere n c r x e in
    cond-false (name_eq n.name x) (Some n) (find (λ n. name_eq n.name x) (nodes c ++ nodes r)) e ∙ find-append (λ (n : Node). name_eq n.name x)
    (nodes c) (nodes r)
    ∙ ap (λ o. option_or o (find (λ n. name_eq n.name x) (nodes r))) (found-absent c x (omega arith)) ∙ found-absent r x (omega arith))

-- a node that is there is found
pub found-there : (ts : Trees) (x : NodeName) → 1 ≤ times_in ts x → (m : Node) × (find (λ n. name_eq n.name x) (nodes ts) ≡ Some m)
found-there none x h = absurd (omega arith)
found-there (tree n c r) x h =
    by_cases (name_eq n.name x) (λ e. (n, cond-true (name_eq n.name x) (Some n) (find (λ n. name_eq n.name x) (nodes c ++ nodes r)) e))
    (λ e. let g = times-elsewhere n c r x e in
    let skip = cond-false (name_eq n.name x) (Some n) (find (λ n. name_eq n.name x) (nodes c ++ nodes r)) e ∙
    find-append (λ (n : Node). name_eq n.name x) (nodes c) (nodes r) in
    by_times (times_in c x)
    (λ z. let at = found-there r x (omega arith) in (at.0, skip ∙ ap (λ o. option_or o (find (λ n. name_eq n.name x) (nodes r))) (found-absent c x z) ∙ at.1))
    (λ z. let at = found-there c x z in (at.0, skip ∙ ap (λ o. option_or o (find (λ n. name_eq n.name x) (nodes r))) at.1)))

-- what is found under the root's name is a shadow root
found-is : (x : NodeName) (ns : List Node) (m : Node) → AllByRecursion (IsShadowAt x) ns → find (λ n. name_eq n.name x) ns ≡ Some m → m.kind ≡ Shadow
found-is x [] m h e = cc
found-is x (n ∷ ns) m h e =
    by_cases (name_eq n.name x) (λ t. let same : Some n ≡ Some m = sym
    (cond-true (name_eq n.name x) (Some n) (find (λ n. name_eq n.name x) ns) t) ∙ e in let is : n ≡ m =
    cc in ap (λ (k : Node). k.kind) (sym is) ∙ h.0 t)
    (λ t. found-is x ns m h.1 (sym (cond-false (name_eq n.name x) (Some n) (find (λ n. name_eq n.name x) ns) t) ∙ e))

-- so it is in a part with its shadow root
pub kind-root : (r : NodeName) (p : Part) → IsOwn r p → kind_of p.trees r ≡ Shadow
kind-root r p o =
    let at = found-there p.trees r (root-there p.trees r o.root.alone) in
    ap (λ (m : Option Node). (unwrap_or m (no_node r)).kind) at.1 ∙ found-is r (nodes p.trees) at.0 (nodes-listed (IsShadowAt r) p.trees o.root.shadow) at.1

-- so what may be inserted is another node
inserted-other : (r : NodeName) (p : Part) → IsOwn r p → (node : NodeName) → may_be_inserted (kind_of p.trees node) ≡ true → IsOther r node
inserted-other r p o node h =
    by_cases (name_eq node r) (λ e. absurd
    (true≢false (sym h ∙ ap (λ x. may_be_inserted (kind_of p.trees x)) (name_eq-true node r e) ∙ ap may_be_inserted (kind-root r p o)))) (λ e. e)

-- no refusal at once
pub not_taken : (b : Bool) (r : Option Refusal) → (if b then Some Hierarchy else r) ≡ None → r ≡ None
not_taken true r h = cc
not_taken false r h = h

-- the node of an accepted `insert-node`
insert_node-other : {r : NodeName} {p : Part} → IsOwn r p → (k : ℕ) (x : NodeWord) → own_refusal p (Command.insert_node k x) ≡ None → (range : Range NodeName) →
    range_at p k ≡ Some range → IsOther r (named p x)
insert_node-other {r} {p} o k x h range e =
    let tests = λ (q : Range NodeName). option_or (insert_node_refusal p.trees q (named p x)) (limit_on p.node_count (made_by_insert_node p q)) in
    let here : tests range ≡ None = sym (ap (λ a. option_map_or tests a None) e) ∙ h in
    let first = or-none (insert_node_refusal p.trees range (named p x)) (limit_on p.node_count (made_by_insert_node p range)) here in
    let valid = not_taken (cannot_take_node p.trees range (named p x))
    (pre_insert_refusal p.trees (insertion_parent p.trees range) (named p x) (start_reference p.trees range)) first.0 in
    inserted-other r p o (named p x) (insertion-tested p.trees (insertion_parent p.trees range) (named p x) (start_reference p.trees range) valid).inserted

-- both ends of a range are in one Text or Comment
abbrev is_in_data : Part → NodeName → NodeName → Bool
is_in_data p x y = name_eq x y && has_data (kind_of p.trees x)

-- What is below a shadow root's part is no shadow root.
module _ (r : NodeName) where
  -- roots among which r is not
  absent-other : (ts : Trees) → times_in ts r ≡ 0 → AllByRecursion (IsOther r) (names_of (roots ts))
  absent-other none h = tt
  absent-other (tree n c rest) h = (
    by_cases (name_eq n.name r) (λ e. absurd (let g = times-here n c rest r e in omega arith)) (λ e. e),
    absent-other rest
        (let g = times-more n c rest r in omega arith),
  )

  -- a Text or a Comment is no shadow root
  data-other : (p : Part) → IsOwn r p → (x y : NodeName) → is_in_data p x y ≡ true → IsOther r x
  data-other p o x y h =
      let data_kind = (and_parts (name_eq x y) (has_data (kind_of p.trees x)) h).1 in
      by_cases (name_eq x r) (λ e. absurd
      (true≢false (sym data_kind ∙ ap (λ z. has_data (kind_of p.trees z)) (name_eq-true x r e) ∙ ap has_data (kind-root r p o)))) (λ e. e)

  -- the pieces of a range
  whole-of : (p : Part) → IsOwn r p → (range : Range NodeName) → AllWhole (IsOther r) (pieces_of p.trees range)
  whole-of p o range =
      let ts = p.trees in
      let below = common_below ts range in
      let absent : times_in below r ≡ 0 = root-below_none ts o.part.unique r o.root.alone (common_ancestor ts range) in
      whole-pieces (IsOther r) ts range (data-other p o range.start.node range.end.node)
      (nodes-named (IsOther r) below (λ y h. by_cases (name_eq y r)
      (λ e. absurd (let same = ap (times_in below) (name_eq-true y r e) in omega arith)) (λ e. e)))

  -- The rules of plans, for a part with its shadow root r, which no step places.
  pub shadow-rules : IsKept (IsOwn r) (Allowed r) (IsOther r) (λ x. ⊤)
  shadow-rules =
      rules-kept (record {
        step = own-step r;
        children_told = λ x added removed previous next. tt;
        data_told = λ x old. tt;
        new_text = λ x d text. tt;
        new_fragment = λ x d. tt;
        clone = λ p x y i m. tt;
        clone_part = λ p x y from to i m. tt;
        new_node = next-other r;
        children = λ p o x. absent-other (trees_below (subtree p.trees x)) (root-below_none p.trees o.part.unique r o.root.alone x);
        wholes = whole-of;
      })

-- What an accepted command places is no shadow root.
pub may-do : (r : NodeName) (p : Part) → IsOwn r p → (c : Command) → own_refusal p c ≡ None → MayDo (Allowed r) (IsOther r) p c
may-do r p o (Command.new_element a) h = tt
may-do r p o (Command.append a b) h = inserted-other r p o (named p b) (insertion-tested p.trees (named p a) (named p b) None h).inserted
may-do r p o (Command.insert a b c) h = inserted-other r p o (named p b) (insertion-tested p.trees (named p a) (named p b) (Some (named p c)) h).inserted
may-do r p o (Command.replace a b c) h = inserted-other r p o (named p b) (replacement-tested p.trees (named p a) (named p b) (named p c) h).inserted
may-do r p o (Command.insert_node a b) h = insert_node-other o a b h
may-do r p o (Command.set_attribute a b c) h = ((λ old. tt), tt)
may-do r p o (Command.unset_attribute a b) h = ((λ old. tt), tt)
may-do r p o c h = tt

-- the steps of an accepted command place no shadow root
abbrev pub SafeEffect : NodeName → Effect → Type 0
SafeEffect r e = Makes (Allowed r) e

-- no accepted command places a shadow root
pub safe-effect : (r : NodeName) (p : Part) → IsOwn r p → (c : Command) → own_refusal p c ≡ None → SafeEffect r (effect p c)
safe-effect r p o c h = made-effect (shadow-rules r) p o c (may-do r p o c h)
