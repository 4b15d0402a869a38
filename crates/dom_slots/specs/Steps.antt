-- Elementary steps, and the slots that they signal.
use Rattle.std.specs.Prelude.{◌≡◌, ℕ, ◌<◌, Bool, true, false, ◌&&◌, ◌||◌, not, List, [], length, Option, Some, None, option_map, is_none}
use Rattle.std.specs.Option.{option_map_or, ForSome}
use Rattle.dom_base.specs.declared.NodeName.{NodeName}
use Rattle.dom_model.specs.Names.{Word, DomString, first_of}
use Rattle.dom_model.specs.Slots.{is_slot_element}
use Rattle.dom_model.specs.Tree.{Trees, node_in, parent_of, root_of, children_of}
use Rattle.dom_model.specs.TreeChanges.{placed, taken_out, change_node, with_attribute}
use Rattle.dom_tree.specs.Forest.{name_at}
use Rattle.dom_slots.specs.declared.step.Step.{Step}
use Rattle.dom_slots.specs.declared.step.Step.TheVariants.{Place, Removal, Attribute}
use Rattle.dom_slots.specs.Shadows.{ShadowTrees, signals_at}

-- the node that is placed, removed or has an attribute changed
abbrev pub step_node : Step → ℕ
step_node (Place x parent before) = x
step_node (Removal x) = x
step_node (Attribute x) = x

-- whether a node is placed or removed
abbrev pub is_move : Step → Bool
is_move (Place x parent before) = true
is_move (Removal x) = true
is_move (Attribute x) = false

-- the parent, of a removal the one that was left, or the node itself
abbrev pub around_of : Step → Option ℕ → Option ℕ
around_of (Place x parent before) left = Some parent
around_of (Removal x) left = left
around_of (Attribute x) left = Some x

-- the parent that a placed node left, for which it is not signalled around
abbrev pub left_behind : Step → Option ℕ → Option ℕ
left_behind (Place x parent before) left = left
left_behind (Removal x) left = None
left_behind (Attribute x) left = None

-- the parent that a node has before it is placed or removed
abbrev pub left_by : List NodeName → Trees → Step → Option NodeName
left_by names ts (Place x parent before) = parent_of ts (name_at names x)
left_by names ts (Removal x) = parent_of ts (name_at names x)
left_by names ts (Attribute x) = None

-- the nodes of a step are nodes of these names
abbrev pub StepHasNodes : List NodeName → Step → Type 0
StepHasNodes names (Place x parent before) = (x < length names) × (parent < length names) × ForSome before (λ k. k < length names)
StepHasNodes names (Removal x) = x < length names
StepHasNodes names (Attribute x) = x < length names

-- a step alone leads from the first trees to the second
abbrev pub IsStepFrom : List NodeName → Trees → Trees → Step → Type 0
IsStepFrom names was now (Place x parent before) = now ≡ placed (name_at names x) (name_at names parent) (option_map (name_at names) before) was
IsStepFrom names was now (Removal x) = now ≡ taken_out (name_at names x) was
IsStepFrom names was now (Attribute x) = (a : Word) × (v : Option DomString) × (now ≡ change_node (with_attribute a v) (name_at names x) was)

-- the slots that a step signals, in order (own rule); a removal of a node without a parent signals none
abbrev pub step_signals : List NodeName → ShadowTrees → ShadowTrees → Step → Option ℕ → List NodeName
step_signals names was now step left =
    option_map_or (λ around. signals_at was now (name_at names (step_node step)) (name_at names around) (is_move step)) (around_of step left) []

-- whether a step surely moves no slot, and changes no slot's attributes: its node is no slot, and where it is moved has no child
abbrev pub is_light : List NodeName → Trees → Step → Bool
is_light names ts step =
    not (is_slot_element (node_in ts (name_at names (step_node step)))) &&
    (not (is_move step) || is_none (first_of (children_of ts (name_at names (step_node step)))))

-- whether a node, if there is one, stands in no shadow tree
abbrev pub is_outside : ShadowTrees → Option NodeName → Bool
is_outside s o = option_map_or (λ p. is_none (s.host_of (root_of s.trees p))) o true

-- whether a step of x, which left this parent if one, was made outside of shadow trees: x is no shadow root, and neither the
-- parent that it left nor the one that it has now stands in a shadow tree (own rule)
abbrev pub is_apart : ShadowTrees → NodeName → Option NodeName → Bool
is_apart s x left = is_none (s.host_of x) && (is_outside s left && is_outside s (parent_of s.trees x))
