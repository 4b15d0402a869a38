-- From a place to the next one: to the host of a shadow root, to the slot of a node, or to its parent.
use Rattle.dom_path.proofs.Cited.{◌≡◌, inl, inr, ℕ, ◌<◌, Bool, true, false, not, ◌||◌, List, [], ◌∷◌, length, find, Option, Some, None, refl, sym, ap, subst}
use Rattle.dom_path.proofs.Cited.{◌∙◌, nat_eq, option_map, slice_get, is_some, if◌then◌else◌, option_and_then, option_or, NodeName, DomString, name_eq, slot_in}
use Rattle.dom_path.proofs.Cited.{has_slot_name, slottable_name, Trees, Node, nodes, names_of, node_in, parent_of, root_of, subtree, NamedTrees, name_at}
use Rattle.dom_path.proofs.Cited.{TellApart, Has-names, In, Has, Once, ShadowHost, host_named, root_named, shadows, slot_at, key-test, root-alone, root-parent}
use Rattle.dom_path.proofs.Cited.{root-below, PathNode, Tree, IsHosted, IsTreeOf, IsTree, AreTrees, IsPathNode, event_parent_at}

-- a slot that is found stands in the trees
found-in : (q : Node → Bool) (ns : List Node) (y : NodeName) → option_map (λ (n : Node). n.name) (find q ns) ≡ Some y → In y (names_of ns)
found-in q [] y e = cc
found-in q (n ∷ ns) y e = by (q n) (λ k. found-in q ns y k) e
  where
    by : (b : Bool) → (option_map (λ (m : Node). m.name) (find q ns) ≡ Some y → In y (names_of ns)) →
        option_map (λ (m : Node). m.name) (if b then Some n else find q ns) ≡ Some y → In y (names_of (n ∷ ns))
    by true again k = inl (let same : n.name ≡ y = cc in sym same)
    by false again k = inr (again k)

pub slot-has : (ts : Trees) (n : Node) (y : NodeName) → slot_in ts n ≡ Some y → Has ts y
slot-has ts n y e = by (slottable_name n) e
  where
    by : (o : Option DomString) → option_and_then (λ name. option_map (λ (m : Node). m.name) (find (has_slot_name name) (nodes ts))) o ≡ Some y → Has ts y
    by None k = cc
    by (Some name) k = Has-names ts y (found-in (has_slot_name name) (nodes ts) y k)

-- a path node that stands in trees, and its tree
pub record IsInTree (f : NamedTrees) (hosts : List ShadowHost) (trees : List Tree) (x : PathNode) (t : Tree) : Type 0 where
  pub are : AreTrees f hosts trees
  pub stands : IsPathNode f hosts trees x
  pub at : slice_get trees x.tree ≡ Some t

-- a host in the tree at a place, and its shadow root
pub record IsEntered (f : NamedTrees) (hosts : List ShadowHost) (trees : List Tree) (place root host : ℕ) : Type 0 where
  pub at : root_named f.names hosts (name_at f.names host) ≡ Some (name_at f.names root)
  pub is : (depth : ℕ) → IsHosted f hosts depth → IsTreeOf f trees place (name_at f.names host)

module _ (f : NamedTrees) (hosts : List ShadowHost) (once : Once f.trees) where
  abbrev name : ℕ → NodeName
  name k = name_at f.names k

  -- the host of a shadow root stands in the tree around
  pub tree-outside : {trees : List Tree} {x : PathNode} {t : Tree} → IsInTree f hosts trees x t → (host : ℕ) → Has f.trees (name x.node)
      → host_named f.names hosts (name x.node) ≡ Some (name host) → (depth : ℕ) → IsHosted f hosts depth → IsTreeOf f trees t.outer (name host)
  tree-outside {trees = trees} {x = x} {t = t} inside host has is depth hosted = by t.host refl
    where
      alone : root_of f.trees (name x.node) ≡ name x.node
      alone = root-alone f.trees (name x.node) has (hosted.roots (name x.node) (ap is_some is))

      its : IsTree f hosts trees t
      its = inside.are.each depth hosted x.tree t inside.at

      root : name t.root ≡ name x.node
      root = let both : Some (name t.root) ≡ Some (root_of f.trees (name x.node)) =
          ap (option_map (λ (t : Tree). name t.root)) (sym inside.at) ∙ inside.stands.tree depth hosted in let same : name t.root ≡ root_of f.trees
          (name x.node) = cc in same ∙ alone

      above : option_map name t.host ≡ Some (name host)
      above = its.host ∙ ap (host_named f.names hosts) root ∙ is

      by : (o : Option ℕ) → t.host ≡ o → IsTreeOf f trees t.outer (name host)
      by None e = let both : None ≡ Some (name host) = ap (option_map name) (sym e) ∙ above in cc
      by (Some k) e =
          let both : Some (name k) ≡ Some (name host) = ap (option_map name) (sym e) ∙ above in
          let same : name k ≡ name host = cc in
          subst (λ y. IsTreeOf f trees t.outer y) same (its.outer k e)

  -- a parent stands in the node's tree
  pub tree-parent : {trees : List Tree} {x : PathNode} {p : NodeName} → IsPathNode f hosts trees x → Has f.trees (name x.node) →
      Some p ≡ parent_of f.trees (name x.node) → (depth : ℕ) → IsHosted f hosts depth → IsTreeOf f trees x.tree p
  tree-parent {x = x} {p = p} stands has up depth hosted = stands.tree depth hosted ∙ ap Some (root-parent f.trees once (name x.node) p has (sym up))

  -- a slot stands in the tree of its shadow root
  pub slot-root : (x : NodeName) {p r y : NodeName} → parent_of f.trees x ≡ Some p → root_named f.names hosts p ≡ Some r → Has f.trees r →
      slot_at (shadows f hosts) x ≡ Some y → {depth : ℕ} → IsHosted f hosts depth
      → r ≡ root_of f.trees y
  slot-root x {p} {r} {y} up at has is hosted =
      let found : slot_in (subtree f.trees r) (node_in f.trees x) ≡ Some y =
      ap (λ o. option_and_then (λ q. slot_in (subtree f.trees q) (node_in f.trees x)) o) (sym at)
      ∙ ap (λ o. option_and_then (λ q. slot_in (subtree f.trees q) (node_in f.trees x)) (option_and_then (root_named f.names hosts) o)) (sym up) ∙ is in
      let alone = root-alone f.trees r has (hosted.roots r (ap is_some (hosted.theirs p r at))) in
      sym (root-below f.trees once r y has (slot-has (subtree f.trees r) (node_in f.trees x) y found) ∙ alone)

  -- so its tree may be added behind that of the host
  pub tree-entered : {trees : List Tree} {place root host : ℕ} → IsEntered f hosts trees place root host → (depth : ℕ) → IsHosted f hosts depth →
      IsTree f hosts trees (record { root = root; host = Some host; outer = place })
  tree-entered {trees = trees} {place = place} {root = root} {host = host} entered depth hosted = record {
    host = sym (hosted.theirs (name host) (name root) entered.at);
    outer = λ k e. subst (λ j. IsTreeOf f trees place (name j)) (let same : host ≡ k = cc in same) (entered.is depth hosted);
  }

-- ---- the event parent

module _ (f : NamedTrees) (hosts : List ShadowHost) (distinct : TellApart f.names) (composed : Bool) (top : ℕ) (trees : List Tree) (x : PathNode)
    (place : IsPathNode f hosts trees x)
    (top_node : top < length f.names) where
  abbrev named : NodeName
  named = name_at f.names x.node

  abbrev up : Option NodeName
  up = event_parent_at (shadows f hosts) composed (name_at f.names top) named

  abbrev inside : Option NodeName
  inside = option_or (slot_at (shadows f hosts) named) (parent_of f.trees named)

  -- whether an event goes on from a shadow root
  opens : (composed || not (nat_eq x.node top)) ≡ (composed || not (name_eq named (name_at f.names top)))
  opens = ap (λ b. composed || not b) (key-test f.names distinct x.node top place.node top_node)

  -- of a shadow root
  at-shadow : x.is_shadow_root ≡ true → up ≡ (if composed || not (nat_eq x.node top) then host_named f.names hosts named else None)
  at-shadow e =
      ap (λ b. if b then (if composed || not (name_eq named (name_at f.names top)) then host_named f.names hosts named else None) else inside)
      (sym place.shadow ∙ e)
      ∙ ap (λ b. if b then host_named f.names hosts named else None) (sym opens)

  -- its host
  pub up-host : x.is_shadow_root ≡ true → (composed || not (nat_eq x.node top)) ≡ true → host_named f.names hosts named ≡ up
  up-host e opened = sym (at-shadow e ∙ ap (λ b. if b then host_named f.names hosts named else None) opened)

  -- of another node
  pub up-plain : x.is_shadow_root ≡ false → inside ≡ up
  up-plain e = sym (ap (λ b. if b then (if composed || not (name_eq named (name_at f.names top)) then host_named f.names hosts named else None)
      else inside) (sym place.shadow ∙ e))
