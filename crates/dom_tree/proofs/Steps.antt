-- A node of a forest, where it lies, and the steps from there.
use Rattle.dom_base.proofs.Std.{◌≡◌, ℕ, ◌<◌, true, List, length, Option, Some, sym, subst, slice_get, option_map, ForSome}
use Rattle.dom_model.proofs.Model.{NodeName, Trees, first_of, items_after, name_eq, next_sibling, node_in, parent_of as parent_in}
use Rattle.dom_model.proofs.Model.{inclusive_descendants, is_inclusive_ancestor}
use Rattle.node_arena.specs.Nodes.{Nodes, children_of, next_of, parent_of}
use Rattle.node_arena.specs.Spots.{Spot}
use Rattle.node_arena.proofs.Lists.{head_or}
use Rattle.dom_tree.specs.Definitions.{Stored, NamedTrees, name_at, node_with, nodes_of}
use Rattle.dom_tree.specs.Spots.{IsOfForest}
use Rattle.dom_tree.proofs.Kept.{IsReadOf, shows, within_names, shows_node}
use Rattle.dom_tree.proofs.Reading.{next_in-at, parent_in-at}
use Rattle.dom_tree.proofs.Walks.{InTree, in_tree}
use Rattle.dom_tree.proofs.Within.{following_within}
use Rattle.dom_tree.proofs.OrderWithin.{behind_in, shows_following}

module _ {f : NamedTrees} {s : Spot (Nodes Stored)} (here : IsOfForest f s) where
  -- its key is one of the forest
  pub key_here : s.key < length f.names
  key_here = within_names here.seen here.kept s.key here.node

  -- what is stored of it is its node in the trees
  pub node_here : {d : Stored} → slice_get s.whole.payloads s.key ≡ Some d → node_in f.trees (name_at f.names s.key) ≡ node_with f.names d.name d.node
  node_here {d} at = shows_node here.seen here.kept s.key d key_here at

  -- what is read of the lists is read of the trees
  pub read_here : {read : Trees → NodeName → Option NodeName} {key_read : List (List ℕ) → ℕ → Option ℕ} → IsReadOf read key_read →
      {v : Spot NamedTrees} → record { whole = f; key = s.key } ≡ v → {r : Option ℕ} → r ≡ key_read s.whole.children s.key →
      option_map (name_at v.whole.names) r ≡ read v.whole.trees (name_at v.whole.names v.key)
  read_here {read} {key_read} same is {r} found =
      subst (λ (x : Spot NamedTrees). option_map (name_at x.whole.names) r ≡ read x.whole.trees (name_at x.whole.names x.key)) is
      (shows here.seen here.kept {read = read} {key_read = key_read} same s.key key_here found)

  -- the node in whose list it stands is its parent in the trees
  pub parent_here : {v : Spot NamedTrees} → record { whole = f; key = s.key } ≡ v → {r : Option ℕ} → r ≡ parent_of s.whole.children s.key →
      option_map (name_at v.whole.names) r ≡ parent_in v.whole.trees (name_at v.whole.names v.key)
  parent_here = read_here {read = parent_in} {key_read = parent_of} (record { agree = parent_in-at })

  -- and the one behind it there is its next sibling
  pub next_here : {v : Spot NamedTrees} → record { whole = f; key = s.key } ≡ v → {r : Option ℕ} → r ≡ next_of s.whole.children s.key →
      option_map (name_at v.whole.names) r ≡ next_sibling v.whole.trees (name_at v.whole.names v.key)
  next_here = read_here {read = next_sibling} {key_read = next_of} (record { agree = next_in-at })

  -- It is seen as v, and stands in the tree of another node.
  module _ {v : Spot NamedTrees} (is : record { whole = f; key = s.key } ≡ v) {top : ℕ} (at_top : top < length v.whole.names)
      (below : is_inclusive_ancestor v.whole.trees (name_at v.whole.names top) (name_at v.whole.names v.key) ≡ true) where
    top_here : top < length f.names
    top_here = subst (λ (x : Spot NamedTrees). top < length x.whole.names) (sym is) at_top

    pub tree_here : InTree s.whole.payloads s.whole.children top s.key
    tree_here =
        in_tree here.seen here.kept top_here key_here
        (subst (λ (x : Spot NamedTrees). is_inclusive_ancestor x.whole.trees (name_at x.whole.names top) (name_at x.whole.names x.key) ≡ true) (sym is) below)

    -- this is what stands just behind it there
    abbrev IsFollowing : Option ℕ → Spot NamedTrees → Type 0
    IsFollowing r x =
        option_map (name_at x.whole.names) r ≡
        first_of (items_after name_eq (name_at x.whole.names x.key) (inclusive_descendants x.whole.trees (name_at x.whole.names top)))

    -- it is the first child, or else what stands behind all that is below
    pub found_behind : {r : Option ℕ} → r ≡ head_or (children_of s.whole.children s.key) (behind_in (nodes_of s.whole.payloads) s.whole.children top s.key) →
        IsFollowing r v
    found_behind {r} found =
        subst (IsFollowing r) is
        (shows_following here.seen here.kept (record { at_top = top_here; at_x = key_here; above = tree_here.above }) found)

    -- and stands in the tree too
    pub found_below : (r : Option ℕ) → ForSome r (λ k. k < length s.whole.payloads) → IsFollowing r v →
        ForSome r (λ k. is_inclusive_ancestor v.whole.trees (name_at v.whole.names top) (name_at v.whole.names k) ≡ true)
    found_below r nodes =
        subst (λ (x : Spot NamedTrees). IsFollowing r x →
        ForSome r (λ k. is_inclusive_ancestor x.whole.trees (name_at x.whole.names top) (name_at x.whole.names k) ≡ true)) is
        (following_within here.seen here.kept top s.key r top_here nodes)
