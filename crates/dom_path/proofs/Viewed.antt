-- What is seen from the places of a path by keys is what is seen by names, and so are its items.
use Rattle.dom_path.proofs.Cited.{◌≡◌, ℕ, ◌<◌, Bool, not, ◌&&◌, List, length, Option, Some, None, refl, sym, ap, ◌∙◌, option_map, option_to_list, if◌then◌else◌}
use Rattle.dom_path.proofs.Cited.{ForSome, option_and_then, NodeName, name_eq, is_in, root_of, NamedTrees, name_at, TellApart, ShadowHost, ShadowTrees, shadows}
use Rattle.dom_path.proofs.Cited.{key-test, found-test, PathNode, Tree, IsEvent, IsItemOf, related_name, IsHosted, AreTrees, IsPathNode, seen_of, related_from}
use Rattle.dom_path.proofs.Cited.{is_key, ends_before, is_silent, item_from, seen_at, related_at, ends_at, event_parent_at, is_empty_at, next_at, unless_ended}
use Rattle.dom_path.specs.declared.event.Event.{Event}
use Rattle.dom_path.proofs.Places.{seen-node, seen-named}

-- a related node by its place is that by its key
pub related-key : (names : List NodeName) (r : Option PathNode) (k : Option ℕ) → option_map (λ (a : PathNode). a.node) r ≡ k →
    related_name names r ≡ option_map (name_at names) k
related-key names None k e = ap (option_map (name_at names)) e
related-key names (Some a) k e = ap (option_map (name_at names)) e

module _ (f : NamedTrees) (hosts : List ShadowHost) (distinct : TellApart f.names) (trees : List Tree) (are : AreTrees f hosts trees) where
  abbrev name : ℕ → NodeName
  name k = name_at f.names k

  abbrev s : ShadowTrees
  s = shadows f hosts

  -- what is seen of a node is a node
  of-node : (viewer : ℕ) (a : PathNode) → IsPathNode f hosts trees a → seen_of trees viewer a < length f.names
  of-node viewer a h = seen-node f hosts trees are viewer a.node a.tree are.nested h.node

  related-node : (viewer : ℕ) (r : Option PathNode) → ForSome r (IsPathNode f hosts trees) → ForSome (related_from trees viewer r) (λ k. k < length f.names)
  related-node viewer None h k e = cc
  related-node viewer (Some a) h k e = let same : seen_of trees viewer a ≡ k = cc in rw (← same) (of-node viewer a (h a refl))

  module _ (depth : ℕ) (hosted : IsHosted f hosts depth) where
    -- by names
    of-named : (a x : PathNode) → IsPathNode f hosts trees a → IsPathNode f hosts trees x →
        name (seen_of trees x.tree a) ≡ seen_at s depth (name x.node) (name a.node)
    of-named a x h g = seen-named f hosts distinct trees are.nested are depth hosted x.tree (name x.node) (g.tree depth hosted) a.node a.tree
        (h.tree depth hosted)

    related-named : (r : Option PathNode) (x : PathNode) → ForSome r (IsPathNode f hosts trees) → IsPathNode f hosts trees x
        → option_map (name_at f.names) (related_from trees x.tree r) ≡ related_at s depth (name x.node) (related_name f.names r)
    related-named None x h g = refl
    related-named (Some a) x h g = ap Some (of-named a x (h a refl) g)

    -- whether a path ends before a place
    ends-named : (t : PathNode) (r : Option PathNode) (x : PathNode) → IsPathNode f hosts trees t → ForSome r (IsPathNode f hosts trees) →
        IsPathNode f hosts trees x
        → ends_before trees t r x ≡ ends_at s depth (name t.node) (related_name f.names r) (name x.node)
    ends-named t r x ht hr hx =
        let test_node = key-test f.names distinct x.node t.node hx.node ht.node in
        let test_seen = key-test f.names distinct x.node (seen_of trees x.tree t) hx.node (of-node x.tree t ht) ∙
        ap (name_eq (name x.node)) (of-named t x ht hx) in
        let test_related = found-test f.names distinct (related_from trees x.tree r) x.node (related-node x.tree r hr) hx.node
        ∙ ap (λ o. is_in name_eq (name x.node) (option_to_list o)) (related-named r x hr hx) in
        λ j. not (test_node j) && (test_seen j && test_related j)

    -- the node behind another one on the path, whose event parent has this place
    pub next-named : {t : PathNode} {r : Option PathNode} {x : PathNode} {b : Bool} (composed : Bool) (from : NodeName) → IsEvent f hosts trees t r →
        IsPathNode f hosts trees x → b ≡ ends_before trees t r x → event_parent_at s composed (root_of f.trees (name t.node)) from ≡ Some (name x.node)
        → (if b then None else Some (name x.node)) ≡ next_at s depth (name t.node) (related_name f.names r) composed from
    next-named {t} {r} {x} composed from event at ends up =
        ap (λ (b : Bool). if b then None else Some (name x.node)) (ends ∙ ends-named t r x event.at_target event.at_related at)
        ∙ sym (ap (option_and_then (unless_ended s depth (name t.node) (related_name f.names r))) up)

    -- whether there is a path
    silent-named : (t : PathNode) (r : Option PathNode) → IsPathNode f hosts trees t → ForSome r (IsPathNode f hosts trees)
        → is_silent trees t r ≡ is_empty_at s depth (name t.node) (related_name f.names r)
    silent-named t r ht hr =
        let test_related = found-test f.names distinct (related_from trees t.tree r) t.node (related-node t.tree r hr) ht.node
        ∙ ap (λ o. is_in name_eq (name t.node) (option_to_list o)) (related-named r t hr ht) in
        λ j. test_related j && not (is_related r hr j)
      where
        is_related : (r : Option PathNode) → ForSome r (IsPathNode f hosts trees) →
            is_key (option_map (λ (a : PathNode). a.node) r) t.node ≡ is_in name_eq (name t.node) (option_to_list (related_name f.names r))
        is_related None h = refl
        is_related (Some a) h = found-test f.names distinct (Some a.node) t.node (λ k e. let same : a.node ≡ k = cc in rw (← same) ((h a refl).node)) ht.node

    -- the same of nodes with these keys
    pub silent-keys : {t : PathNode} {r : Option PathNode} {k : ℕ} {o : Option ℕ} {b : Bool} → IsPathNode f hosts trees t →
        ForSome r (IsPathNode f hosts trees) → t.node ≡ k → option_map (λ (a : PathNode). a.node) r ≡ o →
        b ≡ is_silent trees t r → is_empty_at s depth (name k) (option_map name o) ≡ b
    silent-keys {t} {r} {k} {o} ht hr at its silent =
        sym (λ j. is_empty_at s depth (name (at j)) (related-key f.names r o its j)) ∙ sym (silent ∙ silent-named t r ht hr)

  -- the item of a place
  pub item-made : (t : PathNode) (r : Option PathNode) (x : PathNode) → IsEvent f hosts trees t r → IsPathNode f hosts trees x
      → IsItemOf f hosts (name t.node) (related_name f.names r) trees (item_from trees t r x)
  item-made t r x event at = record {
    node = at.node;
    within = at.within;
    target_node = of-node x.tree t event.at_target;
    related_node = related-node x.tree r event.at_related;
    at_target = refl;
    shadow = at.shadow;
    shown = λ depth hosted. record {
      in_tree = at.tree depth hosted;
      target_seen = of-named depth hosted t x event.at_target at;
      related_seen = related-named depth hosted r x event.at_related at;
    };
  }

module _ (f : NamedTrees) (hosts : List ShadowHost) (e : Event) (from : NodeName) where
  -- the event parent of a node, where it has this place
  pub parent-named : {o : Option Tree} {top : Tree} {above : Option PathNode} {x : PathNode} →
      option_map (λ (t : Tree). name_at f.names t.root) o ≡ Some (root_of f.trees (name_at f.names e.target.node)) → o ≡ Some top → above ≡ Some x →
      option_map (λ (a : PathNode). name_at f.names a.node) above ≡ event_parent_at (shadows f hosts) e.composed (name_at f.names top.root) from →
      event_parent_at (shadows f hosts) e.composed (root_of f.trees (name_at f.names e.target.node)) from ≡ Some (name_at f.names x.node)
  parent-named {o} {top} root at found up =
      let both : Some (name_at f.names top.root) ≡ Some (root_of f.trees (name_at f.names e.target.node)) =
      ap (option_map (λ (t : Tree). name_at f.names t.root)) (sym at) ∙ root in
      let same : name_at f.names top.root ≡ root_of f.trees (name_at f.names e.target.node) = cc in
      sym (ap (λ y. event_parent_at (shadows f hosts) e.composed y from) same) ∙ sym up ∙ ap (option_map (λ (a : PathNode). name_at f.names a.node)) found
