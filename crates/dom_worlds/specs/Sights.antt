-- What is hidden from a node, and what it sees in place of a hidden one, by the roots of trees alone.
use Rattle.std.specs.Prelude.{◌≡◌, Bool, not, ◌&&◌, map, is_some, if◌then◌else◌}
use Rattle.std.specs.Option.{option_map_or}
use Rattle.dom_base.specs.declared.NodeName.{NodeName}
use Rattle.dom_model.specs.Names.{name_eq, is_in}
use Rattle.dom_model.specs.World.{World, root_at, host_above, host_chain}
use Rattle.dom_model.specs.Paths.{is_hidden_from, retarget}
use Rattle.dom_worlds.specs.Reached.{IsReached}

-- whether a node stands in the tree of another one's chain of hosts: its root is that of the node, of its host, or of a host further out
abbrev pub is_within : World → NodeName → NodeName → Bool
is_within w x y = is_in name_eq (root_at w y) (map (root_at w) (host_chain w x))

-- a node is hidden from another one where it is in a shadow tree, in which neither that one is nor any host further out (DOM Standard,
-- concept: closed-shadow-hidden)
abbrev pub HiddenByRoots : Type 0
HiddenByRoots =
    (only_log : Bool) (w : World) → IsReached only_log w → (x y : NodeName) → is_hidden_from w x y ≡ (is_some (host_above w y) && not (is_within w x y))

-- in place of a node in a shadow tree others see what they see in place of its root's host (DOM Standard, concept: retarget)
abbrev pub RetargetedByRoots : Type 0
RetargetedByRoots =
    (only_log : Bool) (w : World) → IsReached only_log w → (a x : NodeName) →
    retarget w a x ≡ option_map_or (λ host. if is_within w x a then a else retarget w host x) (host_above w a) a
