-- Children of a host that wait for slots, and slots that are served in turn.
use Rattle.std.specs.Prelude.{◌≡◌, ℕ, Bool, true, List, [], ◌∷◌, map, Option, if◌then◌else◌}
use Rattle.std.specs.BTreeMap.{get_by}
use Rattle.std.specs.Cmp.Lexicographic.{slice_cmp}
use Rattle.std.specs.Option.{option_map_or}
use Rattle.std.specs.Ordering.{nat_cmp}
use Rattle.dom_model.specs.Names.{text_eq}
use Rattle.dom_model.specs.Slots.{slot_name}
use Rattle.dom_model.specs.Tree.{node_in}
use Rattle.dom_tree.specs.Forest.{NamedTrees, name_at}
use Rattle.dom_slots.specs.Hosts.{ShadowHost}
use Rattle.dom_slots.specs.Shadows.{shadows, assigned_at}
use Rattle.dom_slots.specs.declared.waiting.Waiting.{Waiting}

-- those that wait under a name, in their order
abbrev pub waiting_under : Waiting → List ℕ → List ℕ
waiting_under w name = option_map_or (λ v. v.items) (get_by (λ k. slice_cmp nat_cmp name k.now) w.lists) []

-- whether a name is the one that is wanted, if one is
abbrev pub is_wanted : Option (List ℕ) → List ℕ → Bool
is_wanted wanted name = option_map_or (λ a. text_eq name a) wanted true

-- Slots are served in turn, each with those that wait under its name; then nobody waits there. So each gets what is assigned to
-- it.
abbrev pub Serves : NamedTrees → List ShadowHost → (List ℕ → List ℕ) → List ℕ → Type 0
Serves f hosts waiting [] = Unit {0}
Serves f hosts waiting (k ∷ ks) =
    let name = slot_name (node_in f.trees (name_at f.names k)) in
    (map (name_at f.names) (waiting name) ≡ assigned_at (shadows f hosts) (name_at f.names k)) ×
    Serves f hosts (λ other. if text_eq name other then [] else waiting other) ks
