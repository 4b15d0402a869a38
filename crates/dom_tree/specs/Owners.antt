-- An owner's own trees among the trees of all owners, and what reads and changes of one owner's nodes have to do with them.
use Rattle.std.specs.Prelude.{◌≡◌, ◌≢◌, true, false, Option, if◌then◌else◌}
use Rattle.std.specs.Option.{ForSome}
use Rattle.dom_base.specs.declared.Owner.{Owner}
use Rattle.dom_base.specs.declared.NodeName.{NodeName}
use Rattle.dom_model.specs.Names.{Word, owner_eq, name_eq, name_before, is_in}
use Rattle.dom_model.specs.Tree.{Trees, none, tree, Node, node_in, has_node, attribute_value, subtree, inclusive_ancestors, inclusive_descendants}
use Rattle.dom_model.specs.Tree.{parent_of, root_of, child_nodes, children_of, siblings, previous_sibling, next_sibling, index_of, length_of}
use Rattle.dom_model.specs.TreeChanges.{placed, taken_out, with_node, change_node, change_subtree}
use Rattle.dom_model.specs.Validity.{pre_insert_refusal, replace_refusal}

-- an owner's own trees: those whose root is the owner's
abbrev pub trees_of_owner : Owner → Trees → Trees
trees_of_owner o none = none
trees_of_owner o (tree n children rest) =
    if owner_eq n.name.owner o then tree n children (trees_of_owner o rest) else trees_of_owner o rest

-- each node is the owner's
abbrev pub AreOf : Owner → Trees → Type 0
AreOf o none = Unit {0}
AreOf o (tree n children rest) = (n.name.owner ≡ o) × AreOf o children × AreOf o rest

-- each node has the owner of its root
abbrev pub HaveOwners : Trees → Type 0
HaveOwners none = Unit {0}
HaveOwners (tree n children rest) = AreOf n.name.owner children × HaveOwners rest

-- no root's name comes before x
abbrev pub NoneBefore : NodeName → Trees → Type 0
NoneBefore x none = Unit {0}
NoneBefore x (tree n children rest) = (name_before n.name x ≡ false) × NoneBefore x rest

-- the roots stand in the order of their names
abbrev pub AreInOrder : Trees → Type 0
AreInOrder none = Unit {0}
AreInOrder (tree n children rest) = NoneBefore n.name rest × AreInOrder rest

-- trees of all owners: each node has the owner of its root, and the roots stand in the order of their names
pub record AreOwned (ts : Trees) : Type 0 where
  pub owners : HaveOwners ts
  pub order : AreInOrder ts

-- a change f of the nodes of o: the trees are those of all owners as before, f is done on the owner's own trees, and each
-- other owner's trees stay as they are
pub record IsOwnChange (o : Owner) (f : Trees → Trees) (ts : Trees) : Type 0 where
  pub owned : AreOwned (f ts)
  pub own : trees_of_owner o (f ts) ≡ f (trees_of_owner o ts)
  pub others : (p : Owner) → p ≢ o → trees_of_owner p (f ts) ≡ trees_of_owner p ts

-- what is read of a node x of o in the trees of all owners is what is read of it in the owner's own trees
pub record IsReadOwn (o : Owner) (ts : Trees) (x : NodeName) : Type 0 where
  pub node : node_in ts x ≡ node_in (trees_of_owner o ts) x
  pub presence : has_node ts x ≡ has_node (trees_of_owner o ts) x
  pub alone : subtree ts x ≡ subtree (trees_of_owner o ts) x
  pub path : inclusive_ancestors ts x ≡ inclusive_ancestors (trees_of_owner o ts) x
  pub parent : parent_of ts x ≡ parent_of (trees_of_owner o ts) x
  pub root : root_of ts x ≡ root_of (trees_of_owner o ts) x
  pub inside : inclusive_descendants ts x ≡ inclusive_descendants (trees_of_owner o ts) x
  pub child_list : child_nodes ts x ≡ child_nodes (trees_of_owner o ts) x
  pub children : children_of ts x ≡ children_of (trees_of_owner o ts) x
  pub sibling_list : siblings ts x ≡ siblings (trees_of_owner o ts) x
  pub before : previous_sibling ts x ≡ previous_sibling (trees_of_owner o ts) x
  pub behind : next_sibling ts x ≡ next_sibling (trees_of_owner o ts) x
  pub index : index_of ts x ≡ index_of (trees_of_owner o ts) x
  pub size : length_of ts x ≡ length_of (trees_of_owner o ts) x
  pub attribute : (a : Word) → attribute_value (node_in ts x) a ≡ attribute_value (node_in (trees_of_owner o ts) x) a

-- the nodes around a node x of o are the owner's too
pub record StaysOwn (o : Owner) (ts : Trees) (x : NodeName) : Type 0 where
  pub path : (y : NodeName) → is_in name_eq y (inclusive_ancestors ts x) ≡ true → y.owner ≡ o
  pub inside : (y : NodeName) → is_in name_eq y (inclusive_descendants ts x) ≡ true → y.owner ≡ o
  pub children : (y : NodeName) → is_in name_eq y (children_of ts x) ≡ true → y.owner ≡ o
  pub parent : ForSome (parent_of ts x) (λ y. y.owner ≡ o)
  pub root : (root_of ts x).owner ≡ o

-- ---- the laws

-- an owner's own trees are those of all owners, and all of its nodes are the owner's
abbrev pub OwnTreesLaw : Type 0
OwnTreesLaw = (ts : Trees) → AreOwned ts → (o : Owner) → AreOwned (trees_of_owner o ts) × AreOf o (trees_of_owner o ts)

-- reads of an owner's node are reads of the owner's own trees
abbrev pub ReadLaw : Type 0
ReadLaw = (ts : Trees) → AreOwned ts → (o : Owner) (x : NodeName) → x.owner ≡ o → IsReadOwn o ts x

-- the nodes around an owner's node are the owner's
abbrev pub NearLaw : Type 0
NearLaw = (ts : Trees) → AreOwned ts → (o : Owner) (x : NodeName) → x.owner ≡ o → StaysOwn o ts x

-- the validity of insertions and replacements among an owner's nodes
abbrev pub InsertionLaw : Type 0
InsertionLaw = (ts : Trees) → AreOwned ts → (o : Owner) (parent node : NodeName) (child : Option NodeName)
    → parent.owner ≡ o → node.owner ≡ o → ForSome child (λ c. c.owner ≡ o)
    → pre_insert_refusal ts parent node child ≡ pre_insert_refusal (trees_of_owner o ts) parent node child

-- the validity of replacements among an owner's nodes
abbrev pub ReplacementLaw : Type 0
ReplacementLaw = (ts : Trees) → AreOwned ts → (o : Owner) (parent node child : NodeName)
    → parent.owner ≡ o → node.owner ≡ o → child.owner ≡ o
    → replace_refusal ts parent node child ≡ replace_refusal (trees_of_owner o ts) parent node child

-- the elementary changes
abbrev pub AddedLaw : Type 0
AddedLaw = (ts : Trees) → AreOwned ts → (o : Owner) (n : Node) → n.name.owner ≡ o → IsOwnChange o (with_node n) ts

-- a node taken out of its tree
abbrev pub TakenOutLaw : Type 0
TakenOutLaw = (ts : Trees) → AreOwned ts → (o : Owner) (x : NodeName) → x.owner ≡ o → IsOwnChange o (taken_out x) ts

-- a tree placed below a node of the same owner
abbrev pub PlacedLaw : Type 0
PlacedLaw = (ts : Trees) → AreOwned ts → (o : Owner) (x parent : NodeName) (before : Option NodeName)
    → x.owner ≡ o → parent.owner ≡ o → IsOwnChange o (placed x parent before) ts

-- other contents of a node, under the same name
abbrev pub ChangedNodeLaw : Type 0
ChangedNodeLaw = (ts : Trees) → AreOwned ts → (o : Owner) (f : Node → Node) (x : NodeName)
    → ((n : Node) → (f n).name ≡ n.name) → x.owner ≡ o → IsOwnChange o (change_node f x) ts

-- other contents of a node and all below it, under the same names
abbrev pub ChangedSubtreeLaw : Type 0
ChangedSubtreeLaw = (ts : Trees) → AreOwned ts → (o : Owner) (f : Node → Node) (x : NodeName)
    → ((n : Node) → (f n).name ≡ n.name) → x.owner ≡ o → IsOwnChange o (change_subtree f x) ts
