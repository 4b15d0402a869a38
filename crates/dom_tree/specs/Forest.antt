-- What a contract sees of a `Forest`: the names of the nodes by their keys, and the trees.
use Rattle.std.specs.Prelude.{◌≡◌, ℕ, ◌^◌, ◌<◌, ◌≤◌, List, map, length, slice_get, slice_index_or, Option, Some, None, Result, Ok, Err}
use Rattle.std.specs.Prelude.{count_by, refl}
use Rattle.std.specs.Option.{option_map}
use Rattle.std.specs.String.{string_bytes}
use Rattle.std.specs.Coded.{Coded, code_by, coded×, coded_list}
use Rattle.dom_base.specs.declared.Owner.{Owner}
use Rattle.dom_base.specs.declared.Owner.TheVariants.{Page}
use Rattle.dom_base.specs.declared.NodeName.{NodeName}
use Rattle.dom_model.specs.Names.{node_of, owner_eq}
use Rattle.dom_model.specs.Tree.{Trees, Node, Attribute}
use Rattle.dom_model.specs.Codes.{name_code, trees_code}
use Rattle.node_arena.specs.Nodes.{IsForest}
use Rattle.dom_attributes.specs.Attributes.{attributes_from}
use Rattle.dom_tree.specs.declared.data.NodeData.{NodeData}
use Rattle.dom_tree.specs.Contents.{Contents, Stored}

-- the names of the nodes, by their keys, and the trees in which they stand, in the order of their roots' names
pub record NamedTrees : Type 0 where
  pub names : List NodeName
  pub trees : Trees

-- a code of what a contract sees of a forest
abbrev pub named_trees_code : Coded NamedTrees
named_trees_code = code_by (List NodeName × Trees) (coded× (coded_list name_code) trees_code) (λ f. (f.names, f.trees))
    (λ p. record { names = p.0; trees = p.1 }) (λ _. refl)

-- the name of a key
abbrev pub name_at : List NodeName → ℕ → NodeName
name_at names k = slice_index_or names k (node_of Page 0)

-- a key of a node
abbrev pub IsNode : NamedTrees → ℕ → Type 0
IsNode f k = k < length f.names

-- the name of a node, by its key
abbrev pub name_of : NamedTrees → ℕ → NodeName
name_of f k = name_at f.names k

-- how many of these names are an owner's
abbrev pub count_of : Owner → List NodeName → ℕ
count_of o names = count_by (λ x. owner_eq x.owner o) names

-- an owner's next name
abbrev pub next_name : Owner → List NodeName → NodeName
next_name o names = node_of o (count_of o names)

-- the attributes of a node that the code holds
abbrev pub attributes_of : NodeData → List Attribute
attributes_of d = attributes_from d.attributes.entries

-- a node from its name and what the code holds of it
abbrev pub node_from : List NodeName → NodeName → NodeData → Node
node_from names x d = record {
  name = x;
  kind = d.kind;
  element = string_bytes d.element;
  attributes = attributes_of d;
  text = d.text.items;
  document = option_map (name_at names) d.document;
}

-- what a node holds, from what the code hands over
abbrev pub contents_of : NodeData → Contents
contents_of d = record { kind = d.kind; element = string_bytes d.element; attributes = attributes_of d; text = d.text.items; document = d.document }

-- a node from its name and what it holds
abbrev pub node_with : List NodeName → NodeName → Contents → Node
node_with names x d = record {
  name = x;
  kind = d.kind;
  element = d.element;
  attributes = d.attributes;
  text = d.text;
  document = option_map (name_at names) d.document;
}

-- the names of what is stored, by its keys
abbrev pub stored_names : List Stored → List NodeName
stored_names ps = map (λ s. s.name) ps

-- the nodes of what is stored, where these are the names of all
abbrev pub nodes_with : List NodeName → List Stored → List Node
nodes_with names ps = map (λ s. node_with names s.name s.node) ps

-- the nodes of what is stored
abbrev pub nodes_of : List Stored → List Node
nodes_of ps = nodes_with (stored_names ps) ps

-- what holds of the nodes, their lists, and the keys of each owner
pub record IsKept (ps : List Stored) (lists : List (List ℕ)) (keys : Owner → List ℕ) : Type 0 where
  pub paired : length ps ≡ length lists
  pub forest : IsForest lists
  pub few : length ps ≤ 2 ^ 64
  pub found : (x : NodeName) (k : ℕ) → slice_get (keys x.owner) x.number ≡ Some k → slice_get (stored_names ps) k ≡ Some x
  pub kept : (x : NodeName) (k : ℕ) → slice_get (stored_names ps) k ≡ Some x → slice_get (keys x.owner) x.number ≡ Some k
  pub counted : (o : Owner) → length (keys o) ≡ count_of o (stored_names ps)
  pub limited : (o : Owner) → count_of o (stored_names ps) ≤ 1000000
  pub documents : (s : Stored) (k d : ℕ) → slice_get ps k ≡ Some s → s.node.document ≡ Some d → d < length ps

-- the error of a test, if there is one
abbrev pub err_of : {X E : Type 0} → Result X E → Option E
err_of (Ok x) = None
err_of (Err e) = Some e
