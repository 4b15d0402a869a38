-- What an extraction asks of the trees, and its steps where its pieces are known.
use Rattle.std.specs.Prelude.{◌≡◌, ℕ, true, List, [], None}
use Rattle.dom_base.specs.declared.NodeName.{NodeName}
use Rattle.dom_model.specs.Changes.{Plan, ◌and_then◌, doing}
use Rattle.dom_model.specs.Extract.{new_fragment_node, own_document, both_at}
use Rattle.dom_model.specs.Part.{next_name}
use Rattle.dom_model.specs.Place.{Boundary}
use Rattle.dom_model.specs.Steps.{make, set_range}
use Rattle.dom_model.specs.Tree.{Trees, kind_of, is_shadow, parent_of}
use Rattle.dom_range_ops.specs.Pieces.{Item}
use Rattle.dom_range_ops.specs.Takings.{taking_items}

-- a shadow root has no parent (DOM Standard, 4.2.2 Shadow tree)
abbrev pub ShadowRootsHaveNoParent : Trees → Type 0
ShadowRootsHaveNoParent ts = (x : NodeName) → is_shadow (kind_of ts x) ≡ true → parent_of ts x ≡ None

-- the steps of an extraction into a fragment, where the items of its pieces and the range's new place are known (DOM Standard,
-- concept: extract a live range)
abbrev pub extracting_items : ℕ → NodeName → Boundary NodeName → List Item → Plan
extracting_items k start b items p =
    let into = next_name p in
    (doing (make (new_fragment_node into (own_document p.trees start)))
    and_then taking_items into [] items
    and_then doing (set_range k (both_at b))) p
