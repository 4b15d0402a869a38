-- The insertion of a node into a live range that is given by its number.
use Rattle.std.specs.Prelude.{ℕ, ◌+◌, List, [], ◌∷◌, Option, Some, None, if◌then◌else◌}
use Rattle.std.specs.Option.{option_or, option_map_or}
use Rattle.dom_base.specs.declared.NodeName.{NodeName}
use Rattle.dom_base.specs.declared.Refusal.{Refusal}
use Rattle.dom_model.specs.Changes.{Plan, ◌and_then◌}
use Rattle.dom_model.specs.CommandRefusals.{limit_on, made_by_insert_node, of_range}
use Rattle.dom_model.specs.Effects.{plan_of_range}
use Rattle.dom_model.specs.Part.{Part, next_name}
use Rattle.dom_model.specs.Ranges.{Range}
use Rattle.dom_model.specs.RangeOps.{insert_node_refusal, inserting_at, inserting_into_range}
use Rattle.dom_model.specs.TextChanges.{splitting}
use Rattle.dom_model.specs.Tree.{Trees, kind_of, is_text, is_fragment, index_of, length_of}

-- its steps (DOM Standard, concept: insert a node into a live range; so too what follows)
abbrev pub inserting_node : ℕ → NodeName → Plan
inserting_node k x p = plan_of_range p k (λ r. inserting_into_range k r x)

-- those where a Text at the start is split: the node goes before its tail
abbrev pub inserting_before_tail : ℕ → Range NodeName → NodeName → NodeName → Plan
inserting_before_tail k r parent x p = (splitting r.start.node r.start.offset and_then inserting_at k x parent (Some (next_name p))) p

-- the refusal by the tests of the nodes
abbrev pub node_refusal : Part → ℕ → NodeName → Option Refusal
node_refusal p k x = of_range p k None (λ r. insert_node_refusal p.trees r x)

-- the refusal by these, or else by the limit of nodes
abbrev pub inserting_refusal : Part → ℕ → NodeName → Option Refusal
inserting_refusal p k x = of_range p k None (λ r. option_or (insert_node_refusal p.trees r x) (limit_on p.node_count (made_by_insert_node p r)))

-- the name that a Text at the start gives its tail
abbrev pub tail_names : Part → NodeName → List NodeName
tail_names p start = if is_text (kind_of p.trees start) then next_name p ∷ [] else []

-- the names that an insertion gives
abbrev pub names_given : Part → ℕ → List NodeName
names_given p k = of_range p k [] (λ r. tail_names p r.start.node)

-- the offset behind the nodes that are inserted before a reference, or last
abbrev pub offset_behind : Trees → NodeName → NodeName → Option NodeName → ℕ
offset_behind ts parent node reference =
    option_map_or (index_of ts) reference (length_of ts parent) + (if is_fragment (kind_of ts node) then length_of ts node else 1)
