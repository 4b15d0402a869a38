-- The laws, each about one piece of what the document machine does: a group that keeps makers has of it what it would have where no
-- others were, and of others their outward events.
use Rattle.std.specs.Prelude.{◌≡◌, Bool, true, false, IsTrue, [], filter, Option, None, Some, option_to_list}
use Rattle.std.specs.List.{AllByRecursion}
use Rattle.dom_base.specs.declared.Owner.{Owner}
use Rattle.dom_base.specs.declared.NodeName.{NodeName}
use Rattle.dom_model.specs.Command.{Command, Line, EventWords, NodeWord, part_refusal}
use Rattle.dom_model.specs.Dispatch.{dispatch_in}
use Rattle.dom_model.specs.DocumentMachine.{step, perform, finish}
use Rattle.dom_model.specs.Groups.{KeepsMakers, group_world, group_turn, group_run, is_task_of, outward_in, ends_group_turn}
use Rattle.dom_model.specs.Paths.{View, views}
use Rattle.dom_model.specs.Runs.{run_each}
use Rattle.dom_model.specs.Slots.{assigned_nodes, signals}
use Rattle.dom_model.specs.Steps.{Step}
use Rattle.dom_model.specs.Trace.{is_of, owner_of_line, boundary_host, outward_dispatch, outward_event}
use Rattle.dom_model.specs.Turns.{ending_turn}
use Rattle.dom_model.specs.World.{World, part_of}
use Rattle.dom_model.specs.WorldSteps.{world_step}
use Rattle.dom_worlds.specs.Reached.{IsQuiet, IsReached}
use Rattle.dom_worlds.specs.Tables.{IsWhole}
use Rattle.dom_worlds.specs.Worlds.{IsWorld}

-- a node of the group
abbrev pub IsIn : (Owner → Bool) → NodeName → Type 0
IsIn group x = IsTrue (group x.owner)

-- Slots: what is assigned to a slot of the group is what is assigned where no others are, and the group's signals of a step are those
-- where no others are.
abbrev pub AssignedAgree : Type 0
AssignedAgree =
    (group : Owner → Bool) → KeepsMakers group → (w : World) → IsWorld w → (s : NodeName) → IsIn group s →
    assigned_nodes (group_world group w) s ≡ assigned_nodes w s

-- its signals
abbrev pub SignalsAgree : Type 0
SignalsAgree =
    (group : Owner → Bool) → KeepsMakers group → (was now : World) → IsWorld was → IsWorld now → (x around : NodeName) (is_move : Bool) →
    signals (group_world group was) (group_world group now) x around is_move ≡ filter (λ s. group s.owner) (signals was now x around is_move)

-- One step of an owner of the group.
abbrev pub StepAgrees : Type 0
StepAgrees =
    (group : Owner → Bool) → KeepsMakers group → (o : Owner) → IsTrue (group o) → (w : World) → IsWorld w → (s : Step) →
    group_world group (world_step o w s) ≡ group_world group (world_step o (group_world group w) s)

-- One event: what one of a node of the group shows at the group's nodes is what it shows where no others are;
abbrev pub ViewsAgree : Type 0
ViewsAgree =
    (group : Owner → Bool) → KeepsMakers group → (w : World) → IsWorld w → (x : NodeName) (related : Option NodeName) (composed : Bool) → IsIn group x →
    AllByRecursion (IsIn group) (option_to_list related) →
    filter (λ (v : View NodeName). group v.node.owner) (views w x related composed) ≡ views (group_world group w) x related composed

-- and what one of a node outside that goes out shows there is what one at its boundary host shows where no others are.
abbrev pub OutwardViewsAgree : Type 0
OutwardViewsAgree =
    (group : Owner → Bool) → KeepsMakers group → (w : World) → IsWorld w → (x host : NodeName) → group x.owner ≡ false → boundary_host group w x ≡ Some host →
    filter (λ (v : View NodeName). group v.node.owner) (views w x None true) ≡ views (group_world group w) host None true

-- One dispatch at a node of the group, in two worlds of which the group has the same.
abbrev pub DispatchAgrees : Type 0
DispatchAgrees =
    (group : Owner → Bool) → KeepsMakers group → (w v : World) → IsQuiet w → IsQuiet v → group_world group w ≡ group_world group v →
    (x : NodeName) (related : Option NodeName) (e : EventWords) → IsIn group x → AllByRecursion (IsIn group) (option_to_list related) →
    (group_run group (dispatch_in w x related e).run ≡ group_run group (dispatch_in v x related e).run)
    × ((dispatch_in w x related e).answer ≡ (dispatch_in v x related e).answer)

-- one of a component outside: nothing, or its outward event
abbrev pub OtherDispatchAgrees : Type 0
OtherDispatchAgrees =
    (group : Owner → Bool) → KeepsMakers group → (w : World) (o : Owner) → group o ≡ false → IsQuiet w →
    (x : NodeWord) (e : EventWords) (related : Option NodeWord) →
    let c = Command.dispatch x e related in
    part_refusal (part_of w o) c ≡ None →
    group_run group (perform w o c) ≡ group_run group (run_each outward_in w (option_to_list (outward_dispatch group w o c)))

-- The ending of a turn, in two such worlds; where no turn of the group is open and it has no tasks, it shows the group nothing.
abbrev pub EndingAgrees : Type 0
EndingAgrees =
    (group : Owner → Bool) → KeepsMakers group → (w v : World) → IsQuiet w → IsQuiet v → group_world group w ≡ group_world group v →
    group_run group (ending_turn w) ≡ group_run group (ending_turn v)

-- The group has tasks in a turn of its own alone.
abbrev pub IsCalm : (Owner → Bool) → World → Type 0
IsCalm group w = group_turn group w.turn ≡ None → filter (is_task_of group) w.tasks ≡ []

-- One line of the group, in two such worlds.
abbrev pub LineAgrees : Type 0
LineAgrees =
    (group : Owner → Bool) → KeepsMakers group → (w v : World) → IsQuiet w → IsQuiet v → group_world group w ≡ group_world group v → IsCalm group w →
    (l : Line) → IsTrue (is_of group (owner_of_line l)) → group_run group (step w l) ≡ group_run group (step v l)

-- A line of another owner, which ends no turn of the group: its outward event.
abbrev pub OtherLineAgrees : Type 0
OtherLineAgrees =
    (group : Owner → Bool) → KeepsMakers group → (w : World) → IsReached true w → IsWhole w → IsCalm group w →
    (l : Line) → is_of group (owner_of_line l) ≡ false → ends_group_turn group w l ≡ false →
    group_run group (step w l) ≡ group_run group (run_each outward_in w (option_to_list (outward_event group w l)))

-- The end of input.
abbrev pub FinishAgrees : Type 0
FinishAgrees =
    (group : Owner → Bool) → KeepsMakers group → (w v : World) → IsQuiet w → IsQuiet v → group_world group w ≡ group_world group v → IsCalm group w →
    group_run group (finish w) ≡ group_run group (finish v)
