-- What is held after a step has signalled slots.
use Rattle.std.specs.Prelude.{◌≡◌, ℕ, true, List, [], fold, All, Option, None, option_map}
use Rattle.dom_base.specs.declared.NodeName.{NodeName}
use Rattle.dom_model.specs.Names.{name_eq, is_in, append_once}
use Rattle.dom_model.specs.Tree.{Trees, none}
use Rattle.dom_model.specs.World.{Task, queued_notify}
use Rattle.dom_slots.specs.Kept.{AreSlotsOf}
use Rattle.dom_slots.specs.Shadows.{shadow_trees}
use Rattle.dom_slots.specs.Steps.{step_signals, left_by}
use Rattle.dom_slots.specs.declared.step.Step.{Step}
use Rattle.dom_tree.specs.Forest.{name_at}
use Rattle.dom_mutation.specs.declared.node_trees.steps.NodeTrees.{NodeTrees}

-- no nodes, and nothing that belongs to some (own rule)
abbrev pub no_trees : NodeTrees
no_trees = record {
  forest = record { names = []; trees = none };
  slots = record { hosts = []; table = []; bare = []; index = []; parked = None };
  signalled = [];
  queue = [];
}

-- the same with these trees (own rule)
abbrev pub with_trees : Trees → NodeTrees → NodeTrees
with_trees trees t = record t { forest = record { names = t.forest.names; trees = trees } }

-- nodes (own rule)
abbrev pub AreNames : List NodeName → List NodeName → Type 0
AreNames names xs = All (λ x. is_in name_eq x names ≡ true) xs

-- the slots are those of the trees, and the signalled ones are nodes (own rule)
pub record AreSignals (t : NodeTrees) : Type 0 where
  pub slots : AreSlotsOf t.forest t.slots
  pub nodes : AreNames t.forest.names t.signalled

-- the slots that a step signals that led to these trees, if its node left this parent (DOM Standard, concept: signal a slot change)
abbrev pub signals_of : Step → Option ℕ → Trees → NodeTrees → List NodeName
signals_of step left trees t =
    step_signals t.forest.names (shadow_trees t.forest.names t.forest.trees t.slots.hosts) (shadow_trees t.forest.names trees t.slots.hosts) step left

-- A step led to these trees, and its slots were signalled, one after another: each is kept, once, and its owner's notification is
-- queued (DOM Standard, concept: signal a slot change).
pub record HasStepped (step : Step) (to : Trees) (before after : NodeTrees) : Type 0 where
  pub names : after.forest.names ≡ before.forest.names
  pub trees : after.forest.trees ≡ to
  -- the parent that the step's node had, if it is moved
  pub left : Option ℕ
  pub is_left : option_map (name_at before.forest.names) left ≡ left_by before.forest.names before.forest.trees step
  pub hosts : after.slots.hosts ≡ before.slots.hosts
  pub held : AreSignals after
  pub signalled : after.signalled ≡ fold (append_once name_eq) before.signalled (signals_of step left to before)
  pub tasks : after.queue ≡ fold (λ (ts : List Task) (s : NodeName). queued_notify s.owner ts) before.queue (signals_of step left to before)
