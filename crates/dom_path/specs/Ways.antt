-- The way of an event through trees with shadow hosts, whoever owns the nodes, by the hosts of the roots of trees.
use Rattle.std.specs.Prelude.{◌≡◌, ℕ, zero, suc, Bool, not, ◌&&◌, ◌||◌, List, [], ◌∷◌, find, flat_map, map, Option, Some, None, option_map}
use Rattle.std.specs.Prelude.{option_to_list, is_some, unwrap_or, if◌then◌else◌}
use Rattle.std.specs.Option.{ForSome, option_or, option_and_then}
use Rattle.dom_base.specs.declared.NodeName.{NodeName}
use Rattle.dom_model.specs.Names.{name_eq, is_in}
use Rattle.dom_model.specs.Paths.{is_node}
use Rattle.dom_model.specs.Tree.{is_shadow, node_in, parent_of, root_of}
use Rattle.dom_slots.specs.Shadows.{ShadowTrees, slot_at}

module _ (s : ShadowTrees) where
  -- the host of the root of a node's tree, where that is a shadow root (DOM Standard, concept: host)
  abbrev pub host_above_at : NodeName → Option NodeName
  host_above_at x = s.host_of (root_of s.trees x)

  -- a node stands in no more shadow trees than this, each in the one around it
  abbrev pub EndsWithin : ℕ → NodeName → Type 0
  EndsWithin zero x = host_above_at x ≡ None
  EndsWithin (suc depth) x = ForSome (host_above_at x) (EndsWithin depth)

  -- a node, the host of its root, the host of that one's root, and so on, at most so many times
  abbrev pub chain_at : ℕ → NodeName → List NodeName
  chain_at zero x = x ∷ []
  chain_at (suc depth) x = x ∷ flat_map (chain_at depth) (option_to_list (host_above_at x))

  -- the event parent of a node; an event that isn't composed has none above the shadow root `top` (DOM Standard, concept: get
  -- the parent)
  abbrev pub event_parent_at : Bool → NodeName → NodeName → Option NodeName
  event_parent_at composed top x =
      if is_shadow (node_in s.trees x).kind
      then (if composed || not (name_eq x top) then s.host_of x else None)
      else option_or (slot_at s x) (parent_of s.trees x)

  -- Where nodes stand in no more shadow trees than this:
  module _ (depth : ℕ) where
    -- whether a is hidden from x: it is in a shadow tree whose root is not that of x, nor that of a host around x (DOM Standard,
    -- concept: closed-shadow-hidden; a shadow root is an inclusive ancestor of just the nodes of its tree)
    abbrev pub is_hidden_at : NodeName → NodeName → Bool
    is_hidden_at x a = is_some (host_above_at a) && not (is_in name_eq (root_of s.trees a) (map (root_of s.trees) (chain_at depth x)))

    -- what x sees in place of a (DOM Standard, concept: retarget)
    abbrev pub seen_at : NodeName → NodeName → NodeName
    seen_at x a = unwrap_or (find (λ y. not (is_hidden_at x y)) (chain_at depth a)) a

    -- what a node sees in place of a related one, if there is one
    abbrev pub related_at : NodeName → Option NodeName → Option NodeName
    related_at x related = option_map (seen_at x) related

    -- whether a path ends before a node (DOM Standard, concept: dispatch)
    abbrev pub ends_at : NodeName → Option NodeName → NodeName → Bool
    ends_at target related x = not (name_eq x target) && (name_eq x (seen_at x target) && is_node x (related_at x related))

    -- a node, unless a path ends before it
    abbrev pub unless_ended : NodeName → Option NodeName → NodeName → Option NodeName
    unless_ended target related x = if ends_at target related x then None else Some x

    -- the node of a path behind x, if there is one
    abbrev pub next_at : NodeName → Option NodeName → Bool → NodeName → Option NodeName
    next_at target related composed x =
        option_and_then (unless_ended target related) (event_parent_at composed (root_of s.trees target) x)

    -- whether a path has no node at all (DOM Standard, concept: dispatch)
    abbrev pub is_empty_at : NodeName → Option NodeName → Bool
    is_empty_at target related = is_node target (related_at target related) && not (is_node target related)
