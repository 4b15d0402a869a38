-- A part with one node alone is ready, and so is one without nodes: the first world, what was given up, and a world with one component
-- more.
use Rattle.dom_mutation.proofs.Cited.{◌≡◌, List, [], ◌∷◌, ◌++◌, drop, length, Option, None, refl, Kind, Document, Shadow, NodeName, Owner, Page, Component}
use Rattle.dom_mutation.proofs.Cited.{first_world, part_with_root, new_root, attaching, name_eq, node_of, first_of, Part, empty_part, Trees, none, tree, Node}
use Rattle.dom_mutation.proofs.Cited.{node_in, names_of, roots, trees_below, children_of, parent_of, World, part_of, with_part, component_made, owner-part_of}
use Rattle.dom_mutation.proofs.Cited.{either_way, nothing_left, IsReadyPart, AreReady, IsReady}
use Rattle.dom_mutation.proofs.ReadyTables.{ready-same}
use Rattle.dom_mutation.proofs.ReadyWorlds.{ready-written}

-- it has no child and no parent
alone-children : (n : Node) (x : NodeName) → children_of (tree n none none) x ≡ []
alone-children n x = either_way (λ (ts : Trees). names_of (roots (trees_below ts)) ≡ []) (name_eq n.name x) (tree n none none) none refl refl

alone-parent : (n : Node) (x : NodeName) → parent_of (tree n none none) x ≡ None
alone-parent n x = either_way (λ (path : List NodeName). first_of (drop 1 path) ≡ None) (name_eq n.name x) (x ∷ []) [] refl refl

-- a part with its first node alone
ready-root : (o : Owner) (k : Kind) (d : Option NodeName) → IsReadyPart (part_with_root o k d)
ready-root o k d =
    let n = new_root (node_of o 0) k d in
    record { bounds = record { ranges = tt; leaves = λ x h. alone-children n x }; ends = tt; roots = λ x h. alone-parent n x }

-- a part with nothing
ready-empty : (o : Owner) → IsReadyPart (empty_part o)
ready-empty o = record { bounds = record { ranges = tt; leaves = λ x h. refl }; ends = tt; roots = λ x h. refl }

-- the first world
pub ready-first : AreReady first_world
ready-first Page = ready-root Page Document None
ready-first (Component k) = ready-empty (Component k)

-- what is left of a document that was given up
pub ready-nothing_left : IsReady nothing_left
ready-nothing_left Page = ready-empty Page
ready-nothing_left (Component k) = ready-empty (Component k)

-- one component more
pub ready-attaching : (w : World) (o : Owner) (x : NodeName) → AreReady w → AreReady (attaching w o x).0
ready-attaching w o x h =
    let p = part_of w o in
    let c = component_made o (length p.attached) in
    let more : Part = record p { attached = p.attached ++ x ∷ [] } in
    let d = (node_in p.trees x).document in
    ready-written (with_part w more) c (part_with_root c Shadow d) refl (ready-root c Shadow d)
    (ready-written w o more (owner-part_of w o) (ready-same p more refl refl (h o)) h)
