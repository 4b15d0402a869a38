-- An owner's own trees: what they hold, and that reads of an owner's nodes are reads of its own trees.
use Rattle.dom_base.proofs.Std.{◌≡◌, inl, inr, Bool, true, false, not, cond, ◌||◌, List, [], ◌∷◌, ◌++◌, drop, Option, Some, None, unwrap_or, refl, sym, ap}
use Rattle.dom_base.proofs.Std.{subst, ◌∙◌, true≢false, find, length, AllByRecursion, last_or, ForSome, option_map_or, option_or, and_left, or_from, or_cases}
use Rattle.dom_base.proofs.Std.{cases_Bool, map-append, same_Some, none-some, find-append}
use Rattle.dom_model.proofs.Model.{Owner, NodeName, owner_eq, name_eq, is_in, first_of, last_of, items_before, items_after, Trees, none, tree, Node, nodes}
use Rattle.dom_model.proofs.Model.{roots, names_of, node_in, no_node, kind_of, attribute_value, subtree, or_else, trees_below, on_top, inclusive_ancestors}
use Rattle.dom_model.proofs.Model.{is_inclusive_ancestor, inclusive_descendants, child_nodes, children_of, parent_of, siblings, has_data, first_refusal}
use Rattle.dom_model.proofs.Model.{placing_tests, has_parent, without_given, breaks_document, pre_insert_refusal, replace_refusal, owner_eq-true, name_eq-true}
use Rattle.dom_tree.specs.Definitions.{trees_of_owner, AreOf, HaveOwners, NoneBefore, AreInOrder, AreOwned, IsReadOwn, StaysOwn}
use Rattle.dom_tree.proofs.Reach.{reaches, has_node-reaches, none_reached}

-- ---- the trees

-- trees of one owner are trees with owners
pub HaveOwners-one : (o : Owner) (ts : Trees) → AreOf o ts → HaveOwners ts
HaveOwners-one o none of = tt
HaveOwners-one o (tree n c r) of = (subst (λ (p : Owner). AreOf p c) (sym of.0) of.1, HaveOwners-one o r of.2)

-- an owner's own trees are the owner's
pub AreOf-own : (o : Owner) (ts : Trees) → HaveOwners ts → AreOf o (trees_of_owner o ts)
AreOf-own o none have = tt
AreOf-own o (tree n c r) have = elim (cases_Bool (owner_eq n.name.owner o)) [
  | inl e ↦ let is = owner_eq-true n.name.owner o e in rw e (is, subst (λ (p : Owner). AreOf p c) is have.0, AreOf-own o r have.1)
  | inr e ↦ rw e (AreOf-own o r have.1)
]

-- no owner's tree comes earlier among its own than among all
NoneBefore-own : (o : Owner) (x : NodeName) (ts : Trees) → NoneBefore x ts → NoneBefore x (trees_of_owner o ts)
NoneBefore-own o x none off = tt
NoneBefore-own o x (tree n c r) off = elim (cases_Bool (owner_eq n.name.owner o)) [
  | inl e ↦ rw e (off.0, NoneBefore-own o x r off.1)
  | inr e ↦ rw e (NoneBefore-own o x r off.1)
]

-- an owner's own trees stand in order
AreInOrder-own : (o : Owner) (ts : Trees) → AreInOrder ts → AreInOrder (trees_of_owner o ts)
AreInOrder-own o none order = tt
AreInOrder-own o (tree n c r) order = elim (cases_Bool (owner_eq n.name.owner o)) [
  | inl e ↦ rw e (NoneBefore-own o n.name r order.0, AreInOrder-own o r order.1)
  | inr e ↦ rw e (AreInOrder-own o r order.1)
]

-- an owner's own trees are trees of all owners, and the owner's
pub own_trees : (ts : Trees) → AreOwned ts → (o : Owner) → AreOwned (trees_of_owner o ts) × AreOf o (trees_of_owner o ts)
own_trees ts owned o =
    let of = AreOf-own o ts owned.owners in
    (record { owners = HaveOwners-one o (trees_of_owner o ts) of; order = AreInOrder-own o ts owned.order }, of)

-- ---- the reads

module _ (o p : Owner) (apart : owner_eq p o ≡ false) where
  -- a node of one owner has no name of another one
  pub name_apart : (x y : NodeName) → x.owner ≡ o → y.owner ≡ p → name_eq y x ≡ false
  name_apart x y of_x of_y = and_left (owner_eq y.owner x.owner) _ (rw (of_x, of_y) apart)

  -- so it is not among the other's
  reaches-apart : (x : NodeName) → x.owner ≡ o → (ts : Trees) → AreOf p ts → reaches ts x ≡ false
  reaches-apart x is none of = refl
  reaches-apart x is (tree n c r) of =
      or_from (name_eq n.name x) _ (name_apart x n.name is of.0)
      (or_from (reaches c x) _ (reaches-apart x is c of.1) (reaches-apart x is r of.2))

-- an owner's node: its tree alone, the nodes above it, the node of its name, and whether there is one
reads-own : (o : Owner) (x : NodeName) → x.owner ≡ o → (ts : Trees) → HaveOwners ts → let us = trees_of_owner o ts in
    (subtree ts x ≡ subtree us x) × (inclusive_ancestors ts x ≡ inclusive_ancestors us x)
    × (find (λ n. name_eq n.name x) (nodes ts) ≡ find (λ n. name_eq n.name x) (nodes us)) × (reaches ts x ≡ reaches us x)
reads-own o x is none have = (refl, refl, refl, refl)
reads-own o x is (tree n c r) have =
    let rest = reads-own o x is r have.1 in
    let p : Node → Bool = λ y. name_eq y.name x in
    let split = find-append p (nodes c) in
    elim (cases_Bool (owner_eq n.name.owner o)) [
      | inl e ↦ rw e (
        ap (λ t. cond (name_eq n.name x) (tree n c none) (or_else (subtree c x) t)) rest.0,
        ap (λ t. cond (name_eq n.name x) (x ∷ []) (on_top (inclusive_ancestors c x) n.name t)) rest.1,
        ap (λ t. cond (p n) (Some n) t) (split (nodes r) ∙ (ap (option_or (find p (nodes c))) rest.2 ∙ sym (split (nodes (trees_of_owner o r))))),
        ap (λ b. name_eq n.name x || (reaches c x || b)) rest.3,
      )
      | inr e ↦
          let lost = reaches-apart o n.name.owner e x is c have.0 in
          let off = none_reached c x lost in
          rw (e, name_apart o n.name.owner e x n.name is refl, lost, off.0, off.1)
          (rest.0, rest.1, split (nodes r) ∙ (ap (λ t. option_or t (find p (nodes r))) off.2 ∙ rest.2), rest.3)
    ]

-- ---- what is read of an owner's trees is the owner's

-- names of one owner
abbrev AllOf : Owner → List NodeName → Type 0
AllOf o ys = AllByRecursion (λ (y : NodeName). y.owner ≡ o) ys

-- two lists of an owner's names, one after the other
AllOf-append : (o : Owner) (xs ys : List NodeName) → AllOf o xs → AllOf o ys → AllOf o (xs ++ ys)
AllOf-append o [] ys a b = b
AllOf-append o (x ∷ xs) ys a b = (a.0, AllOf-append o xs ys a.1 b)

-- a name in such a list is the owner's
AllOf-in : (o : Owner) (ys : List NodeName) → AllOf o ys → (y : NodeName) → is_in name_eq y ys ≡ true → y.owner ≡ o
AllOf-in o [] all y found = absurd (true≢false (sym found))
AllOf-in o (z ∷ zs) all y found = elim (or_cases (name_eq y z) _ found) [
  | inl e ↦ ap (λ (w : NodeName). w.owner) (name_eq-true y z e) ∙ all.0
  | inr e ↦ AllOf-in o zs all.1 y e
]

-- so is the first
AllOf-first : (o : Owner) (ys : List NodeName) → AllOf o ys → ForSome (first_of ys) (λ y. y.owner ≡ o)
AllOf-first o [] all = λ y e. absurd (none-some y e)
AllOf-first o (y ∷ ys) all = λ z e. subst (λ (w : NodeName). w.owner ≡ o) (same_Some y z e) all.0

-- all but the first are
AllOf-drop : (o : Owner) (ys : List NodeName) → AllOf o ys → AllOf o (drop 1 ys)
AllOf-drop o [] all = tt
AllOf-drop o (y ∷ ys) all = all.1

-- so is the last
AllOf-last : (o : Owner) (q : Option NodeName) (x : NodeName) (ys : List NodeName) → (unwrap_or q x).owner ≡ o → AllOf o ys →
    (unwrap_or (last_or q ys) x).owner ≡ o
AllOf-last o q x [] is all = is
AllOf-last o q x (y ∷ ys) is all = AllOf-last o (Some y) x ys all.0 all.1

-- the names in an owner's trees
AllOf-nodes : (o : Owner) (ts : Trees) → AreOf o ts → AllOf o (names_of (nodes ts))
AllOf-nodes o none of = tt
AllOf-nodes o (tree n c r) of =
    (of.0, subst (AllOf o) (sym (map-append (λ (y : Node). y.name) (nodes c) (nodes r))) (AllOf-append o _ _ (AllOf-nodes o c of.1) (AllOf-nodes o r of.2)))

-- the names of their roots
AllOf-roots : (o : Owner) (ts : Trees) → AreOf o ts → AllOf o (names_of (roots ts))
AllOf-roots o none of = tt
AllOf-roots o (tree n c r) of = (of.0, AllOf-roots o r of.2)

-- the trees of the first root's children
AreOf-below : (o : Owner) (ts : Trees) → AreOf o ts → AreOf o (trees_below ts)
AreOf-below o none of = tt
AreOf-below o (tree n c r) of = of.1

-- one of two lists of an owner's trees
AreOf-or_else : (o : Owner) (ts us : Trees) → AreOf o ts → AreOf o us → AreOf o (or_else ts us)
AreOf-or_else o none us of_ts of_us = of_us
AreOf-or_else o (tree n c r) us of_ts of_us = of_ts

-- the tree of a node among an owner's trees
AreOf-subtree : (o : Owner) (x : NodeName) (ts : Trees) → AreOf o ts → AreOf o (subtree ts x)
AreOf-subtree o x none of = tt
AreOf-subtree o x (tree n c r) of = elim (cases_Bool (name_eq n.name x)) [
  | inl e ↦ rw e (of.0, of.1, tt)
  | inr e ↦ rw e (AreOf-or_else o (subtree c x) (subtree r x) (AreOf-subtree o x c of.1) (AreOf-subtree o x r of.2))
]

-- a path with a node on top
AllOf-on_top : {o : Owner} (x : NodeName) (path others : List NodeName) → x.owner ≡ o → AllOf o path → AllOf o others → AllOf o (on_top path x others)
AllOf-on_top x [] others is all rest = rest
AllOf-on_top {o} x (a ∷ path) others is all rest = AllOf-append o (a ∷ path) (x ∷ []) all (is, tt)

-- the path of an owner's node in an owner's trees
AllOf-path : (o : Owner) (x : NodeName) → x.owner ≡ o → (ts : Trees) → AreOf o ts → AllOf o (inclusive_ancestors ts x)
AllOf-path o x is none of = tt
AllOf-path o x is (tree n c r) of = elim (cases_Bool (name_eq n.name x)) [
  | inl e ↦ rw e (is, tt)
  | inr e ↦ rw e (AllOf-on_top n.name (inclusive_ancestors c x) (inclusive_ancestors r x) of.0 (AllOf-path o x is c of.1) (AllOf-path o x is r of.2))
]

-- the tree of an owner's node is the owner's
pub AreOf-alone : (o : Owner) (x : NodeName) → x.owner ≡ o → (ts : Trees) → HaveOwners ts → AreOf o (subtree ts x)
AreOf-alone o x is ts have = subst (AreOf o) (sym (reads-own o x is ts have).0) (AreOf-subtree o x (trees_of_owner o ts) (AreOf-own o ts have))

-- what is around an owner's node is the owner's
pub stays_own : (ts : Trees) → AreOwned ts → (o : Owner) (x : NodeName) → x.owner ≡ o → StaysOwn o ts x
stays_own ts owned o x is =
    let above : AllOf o (inclusive_ancestors ts x) =
    subst (AllOf o) (sym (reads-own o x is ts owned.owners).1) (AllOf-path o x is (trees_of_owner o ts) (AreOf-own o ts owned.owners)) in
    let alone = AreOf-alone o x is ts owned.owners in
    record {
      path = AllOf-in o (inclusive_ancestors ts x) above;
      inside = AllOf-in o (inclusive_descendants ts x) (AllOf-nodes o (subtree ts x) alone);
      children = AllOf-in o (children_of ts x) (AllOf-roots o _ (AreOf-below o (subtree ts x) alone));
      parent = AllOf-first o _ (AllOf-drop o (inclusive_ancestors ts x) above);
      root = AllOf-last o None x (inclusive_ancestors ts x) is above;
    }

-- ---- the laws of reads

-- the siblings of an owner's node, by its parent
siblings-own : (o : Owner) (ts : Trees) → HaveOwners ts → (x : NodeName) (q : Option NodeName) → ForSome q (λ y. y.owner ≡ o)
    → option_map_or (children_of ts) q (x ∷ []) ≡ option_map_or (children_of (trees_of_owner o ts)) q (x ∷ [])
siblings-own o ts have x None of = refl
siblings-own o ts have x (Some p) of = ap (λ us. names_of (roots (trees_below us))) (reads-own o p (of p refl) ts have).0

-- each read of an owner's node is that of the owner's own trees
pub read_own : (ts : Trees) → AreOwned ts → (o : Owner) (x : NodeName) → x.owner ≡ o → IsReadOwn o ts x
read_own ts owned o x is = record {
  node = node;
  presence = has_node-reaches ts x ∙ ((reads-own o x is ts owned.owners).3 ∙ sym (has_node-reaches us x));
  alone = alone;
  path = path;
  parent = parent;
  root = ap (λ ys. unwrap_or (last_of ys) x) path;
  inside = ap (λ us. names_of (nodes us)) alone;
  child_list = ap (λ us. roots (trees_below us)) alone;
  children = children;
  sibling_list = siblings_same;
  before = ap (λ ys. last_of (items_before name_eq x ys)) siblings_same;
  behind = ap (λ ys. first_of (items_after name_eq x ys)) siblings_same;
  index = ap (λ ys. length (items_before name_eq x ys)) siblings_same;
  size = ap (λ (n : Node). cond (has_data n.kind) (length n.text) (length (children_of ts x))) node
      ∙ ap (λ ys. cond (has_data (node_in us x).kind) (length (node_in us x).text) (length ys)) children;
  attribute = λ a. ap (λ n. attribute_value n a) node;
}
  where
    us : Trees
    us = trees_of_owner o ts

    node : node_in ts x ≡ node_in us x
    node = ap (λ q. unwrap_or q (no_node x)) (reads-own o x is ts owned.owners).2

    alone : subtree ts x ≡ subtree us x
    alone = (reads-own o x is ts owned.owners).0

    path : inclusive_ancestors ts x ≡ inclusive_ancestors us x
    path = (reads-own o x is ts owned.owners).1

    parent : parent_of ts x ≡ parent_of us x
    parent = ap (λ ys. first_of (drop 1 ys)) path

    children : children_of ts x ≡ children_of us x
    children = ap (λ vs. names_of (roots (trees_below vs))) alone

    siblings_same : siblings ts x ≡ siblings us x
    siblings_same = siblings-own o ts owned.owners x (parent_of ts x) (stays_own ts owned o x is).parent ∙
        ap (λ q. option_map_or (children_of us) q (x ∷ [])) parent

-- ---- validity

-- the tests of an insertion among an owner's nodes
placing-own : {ts : Trees} → AreOwned ts → {o : Owner} (parent node : NodeName) {is_lost : Bool} (others : List Node) → parent.owner ≡ o → node.owner ≡ o
    → placing_tests ts parent node is_lost others ≡ placing_tests (trees_of_owner o ts) parent node is_lost others
placing-own {ts} owned {o} parent node others of_parent of_node =
    let around = read_own ts owned o parent of_parent in
    let inside = read_own ts owned o node of_node in
    let into : kind_of ts parent ≡ kind_of (trees_of_owner o ts) parent = ap (λ (n : Node). n.kind) around.node in
    let kind : kind_of ts node ≡ kind_of (trees_of_owner o ts) node = ap (λ (n : Node). n.kind) inside.node in
    let above : is_inclusive_ancestor ts node parent ≡ is_inclusive_ancestor (trees_of_owner o ts) node parent = ap (is_in name_eq node) around.path in
    let below : child_nodes ts node ≡ child_nodes (trees_of_owner o ts) node = inside.child_list in
    let breaks : breaks_document ts node others ≡ breaks_document (trees_of_owner o ts) node others = rw (kind, below) refl in
    cc

module _ (ts : Trees) (owned : AreOwned ts) (o : Owner) (parent : NodeName) where
  -- whether an owner's node has a parent
  has_parent-own : (x : NodeName) → x.owner ≡ o →
      has_parent ts parent x ≡ has_parent (trees_of_owner o ts) parent x
  has_parent-own x is = ap (λ q. option_map_or (name_eq parent) q false) (read_own ts owned o x is).parent

  -- the refusal of an insertion among an owner's nodes
  pub insertion_own : (node : NodeName) (child : Option NodeName)
      → parent.owner ≡ o → node.owner ≡ o → ForSome child (λ c. c.owner ≡ o)
      → pre_insert_refusal ts parent node child ≡ pre_insert_refusal (trees_of_owner o ts) parent node child
  insertion_own node child of_parent of_node of_child =
      ap first_refusal (placing-own owned parent node (child_nodes ts parent) of_parent of_node
      ∙ (ap (λ b. placing_tests us parent node b (child_nodes ts parent)) (same_lost child of_child)
      ∙ ap (placing_tests us parent node (lost us child)) (read_own ts owned o parent of_parent).child_list))
    where
      us : Trees
      us = trees_of_owner o ts

      lost : Trees → Option NodeName → Bool
      lost vs given = option_map_or (λ c. not (has_parent vs parent c)) given false

      same_lost : (given : Option NodeName) → ForSome given (λ c. c.owner ≡ o) → lost ts given ≡ lost us given
      same_lost None of = refl
      same_lost (Some c) of = ap not (has_parent-own c (of c refl))

  -- the refusal of a replacement among an owner's nodes
  pub replacement_own : (node child : NodeName)
      → parent.owner ≡ o → node.owner ≡ o → child.owner ≡ o
      → replace_refusal ts parent node child ≡ replace_refusal (trees_of_owner o ts) parent node child
  replacement_own node child of_parent of_node of_child =
      let us = trees_of_owner o ts in
      let others : Trees → List Node = λ vs. without_given (Some child) (child_nodes vs parent) in
      ap first_refusal (placing-own owned parent node (others ts) of_parent of_node
      ∙ (ap (λ b. placing_tests us parent node (not b) (others ts)) (has_parent-own child of_child)
      ∙ ap (λ ns. placing_tests us parent node (not (has_parent us parent child)) (without_given (Some child) ns))
      (read_own ts owned o parent of_parent).child_list))
