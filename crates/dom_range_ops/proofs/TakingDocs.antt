-- A new node of a `Doc` below another one.
use Rattle.dom_range_ops.proofs.Cited.{◌≡◌, ◌<◌, ℕ, true, false, List, [], ◌∷◌, ◌++◌, length, None, refl, sym, ap, ◌∙◌, arith, length-append, subst}
use Rattle.dom_range_ops.proofs.Cited.{get_or-append, get_or-append_seam, ForSome, NodeName, Owner, Page, owner-part_of, Plan, ◌and_then◌, doing}
use Rattle.dom_range_ops.proofs.Cited.{observed, insert_plan, making_below, node_of, Part, next_name, make, part_step, replacing_data, Node, node_in}
use Rattle.dom_range_ops.proofs.Cited.{kind_of, has_data, is_shadow, has_node, is_inclusive_ancestor, with_name, World, part_of, ancestor-inside}
use Rattle.dom_range_ops.proofs.Cited.{node-new, has_node-times, next-absent, leads-one, new-may, by_cases, DocState, made, planned, name_in, owner_in}
use Rattle.dom_range_ops.proofs.Cited.{trees_in, MayMove, IsAlone, HasBoundedPart, plan_alone, made_then, read_own, NamedTrees, name_at, node_from}
use Rattle.dom_range_ops.proofs.Cited.{keeps-making_below, AreOwned, trees_of_owner, NodeData, IsCopyOf, own_rules}

-- a node keeps its name where others come
pub name-kept : (d e : DocState) (more : List NodeName) (k : ℕ) → e.names ≡ d.names ++ more → k < length d.names → name_in e k ≡ name_in d k
name-kept d e more k is here = ap (λ (ns : List NodeName). name_at ns k) is ∙ get_or-append d.names more (node_of Page 0) k here

-- and stays a node
pub node-kept : (d e : DocState) (more : List NodeName) (k : ℕ) → e.names ≡ d.names ++ more → k < length d.names → k < length e.names
node-kept d e more k is here = let a = ap (λ (ns : List NodeName). length ns) is in let b = length-append d.names more in omega arith

-- a new one has the name that comes, and is a node
pub new-name : (d e : DocState) (y : NodeName) (k : ℕ) → e.names ≡ d.names ++ y ∷ [] → k ≡ length d.names → name_in e k ≡ y
new-name d e y k is key = ap (name_in e) key ∙ ap (λ (ns : List NodeName). name_at ns (length d.names)) is ∙ get_or-append_seam d.names y [] (node_of Page 0)

pub new-node : (d e : DocState) (y : NodeName) (k : ℕ) → e.names ≡ d.names ++ y ∷ [] → k ≡ length d.names → k < length e.names
new-node d e y k is key = let a = ap (λ (ns : List NodeName). length ns) is in let b = length-append d.names (y ∷ []) in omega arith

-- a node was made, with the next name of the owner of a node `top`
pub record NewNode : Type 0 where
  pub before : DocState
  pub after : DocState
  pub top : ℕ
  pub node : Node
  pub here : HasBoundedPart before top
  pub stands : has_node (trees_in before top) (name_in before top) ≡ true
  pub named : node.name ≡ next_name (part_of before.world (owner_in before top))
  pub names : after.names ≡ before.names ++ next_name (part_of before.world (owner_in before top)) ∷ []
  pub world : after.world ≡ made (owner_in before top) (doing (make node)) before.world

module _ (m : NewNode) where
  open m use {before as d, after as e, top, node as n, stands, named, names, world}

  abbrev o : Owner
  o = owner_in d top

  abbrev p : Part
  p = part_of d.world (owner_in d top)

  abbrev new : ℕ
  new = length d.names

  new_is : name_in e new ≡ next_name p
  new_is = new-name d e (next_name p) new names refl

  new-owner : (next_name p).owner ≡ o
  new-owner = owner-part_of d.world o

  top-name : name_in e top ≡ name_in d top
  top-name = name-kept d e (next_name p ∷ []) top names m.here.here

  new-part : part_of e.world o ≡ part_step p (make n)
  new-part = ap (λ (w : World). part_of w o) world ∙ plan_alone o (doing (make n)) d.world m.here.alone (λ q own. (tt, tt))

  apart : is_inclusive_ancestor (part_of e.world o).trees (next_name p) (name_in d top) ≡ false
  apart =
      let may = new-may p n (name_in d top) m.here.part (has_node-times p.trees (name_in d top) stands) in
      let q = part_step p (make n) in
      ap (λ (r : Part). is_inclusive_ancestor r.trees (next_name p) (name_in d top)) new-part
      ∙ by_cases (is_inclusive_ancestor q.trees (next_name p) (name_in d top))
      (λ k. absurd (let a = ancestor-inside q.trees (next_name p) (name_in d top) k in let b = may.apart in omega arith)) (λ k. k)

  -- it may be placed below that one
  pub new-moves : MayMove e top None new
  new-moves =
      record {
        node = new-node d e (next_name p) new names refl;
        owner = ap (λ (y : NodeName). y.owner) new_is ∙ new-owner ∙ sym (ap (λ (y : NodeName). y.owner) top-name);
        not_above = ap (λ (y : NodeName). is_inclusive_ancestor (part_of e.world y.owner).trees (name_in e new) y) top-name ∙
            ap (λ (y : NodeName). is_inclusive_ancestor (part_of e.world o).trees y (name_in d top)) new_is ∙ apart;
        apart = λ b is. absurd (cc);
      }

  -- which takes it, and it is no shadow root where it was made as none
  pub new-open : has_data (kind_of p.trees (name_in d top)) ≡ false → has_data (kind_of (trees_in e top) (name_in e top)) ≡ false
  new-open h =
      let changed = (leads-one p (make n) m.here.part tt).changed in
      ap (λ (y : NodeName). has_data (kind_of (part_of e.world y.owner).trees y)) top-name
      ∙ ap (λ (r : Part). has_data (kind_of r.trees (name_in d top))) new-part
      ∙ ap has_data (changed.kinds (name_in d top) (has_node-times p.trees (name_in d top) stands)) ∙ h

  pub new-plain : is_shadow n.kind ≡ false → is_shadow (kind_of (trees_in e new) (name_in e new)) ≡ false
  new-plain h =
      ap (λ (y : NodeName). is_shadow (kind_of (part_of e.world y.owner).trees y)) new_is
      ∙ ap (λ w. is_shadow (kind_of (part_of e.world w).trees (next_name p))) new-owner
      ∙ ap (λ (r : Part). is_shadow (kind_of r.trees (next_name p))) new-part
      ∙ ap (λ (a : Node). is_shadow a.kind) (node-new (with_name (next_name p) n) p.trees (next-absent p m.here.part)) ∙ h

  -- and both are one plan
  pub below-made : (f : DocState) → f ≡ planned (owner_in e top) (insert_plan observed (name_in e new) (name_in e top) None) e →
      f.world ≡ made o (making_below (name_in d top) n) d.world
  below-made f is =
      let put : Plan = insert_plan observed n.name (name_in d top) None in
      ap (λ (s : DocState). s.world) is
      ∙ ap (λ (y : NodeName). made y.owner (insert_plan observed (name_in e new) y None) e.world) top-name
      ∙ ap (λ (y : NodeName). made o (insert_plan observed y (name_in d top) None) e.world) (new_is ∙ sym named)
      ∙ ap (made o put) world
      ∙ sym (made_then o (doing (make n)) put d.world m.here.alone (λ q own. (tt, tt)))

-- the forest of a state, of which an owner's part has the owner's trees
pub record IsForestOf (d : DocState) (f : NamedTrees) (o : Owner) : Type 0 where
  pub owned : AreOwned f.trees
  pub names : f.names ≡ d.names
  pub trees : trees_of_owner o f.trees ≡ (part_of d.world o).trees

-- what the forest has of a node of an owner is what its part has of it
module _ (d : DocState) (f : NamedTrees) (o : Owner) (k : ℕ) (forest : IsForestOf d f o) (is : owner_in d k ≡ o) where
  pub node-read : node_in f.trees (name_at f.names k) ≡ node_in (part_of d.world o).trees (name_in d k)
  node-read =
      ap (λ (ns : List NodeName). node_in f.trees (name_at ns k)) forest.names ∙ (read_own f.trees forest.owned o (name_in d k) is).node ∙
      ap (λ us. node_in us (name_in d k)) forest.trees

  -- so is what a clone of it holds, which is no shadow root where the node is none
  pub copy-read : {copy : NodeData} {y : NodeName} {n : Node} → copy.kind ≡ kind_of f.trees (name_at f.names k) → node_from f.names y copy ≡ n →
      n.element ≡ (node_in f.trees (name_at f.names k)).element → is_shadow (kind_of (part_of d.world o).trees (name_in d k)) ≡ false →
      ForSome copy.document (λ j. j < length f.names) → IsCopyOf d k copy
  copy-read {copy} kind value element plain document =
      let own = ap (λ q. node_in (part_of d.world q).trees (name_in d k)) (sym is) in
      record {
        kind = kind ∙ ap (λ (n : Node). n.kind) (node-read ∙ own);
        element = ap (λ (n : Node). n.element) value ∙ element ∙ ap (λ (n : Node). n.element) (node-read ∙ own);
        no_shadow = ap is_shadow (kind ∙ ap (λ (n : Node). n.kind) node-read) ∙ plain;
        document = subst (λ (ns : List NodeName). ForSome copy.document (λ j. j < length ns)) forest.names document;
      }

-- A new node was made below another one, and code units go from a node of its owner.
module _ (d e : DocState) (top node : ℕ) (n : Node) (alone : IsAlone d.world (owner_in d top)) (own : owner_in d node ≡ owner_in d top)
    (kept : name_in e node ≡ name_in d node) (world : e.world ≡ made (owner_in d top) (making_below (name_in d top) n) d.world) where
  pub units-made : n.name.owner ≡ owner_in d top → {g : DocState} (from count : ℕ) →
      g ≡ planned (owner_in e node) (replacing_data (name_in e node) from count []) e →
      g.world ≡ made (owner_in d top) (making_below (name_in d top) n and_then replacing_data (name_in d node) from count []) d.world
  units-made mine from count is =
      let o = owner_in d top in
      let cut : Plan = replacing_data (name_in d node) from count [] in
      ap (λ (s : DocState). s.world) is
      ∙ ap (λ (y : NodeName). made y.owner (replacing_data y from count []) e.world) kept
      ∙ ap (λ r. made r cut e.world) own
      ∙ ap (made o cut) world
      ∙ sym (made_then o (making_below (name_in d top) n) cut d.world alone (keeps-making_below (own_rules o) (name_in d top) n tt mine))
