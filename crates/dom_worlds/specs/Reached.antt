-- A world as the document machine reaches it, and what follows of each such world.
use Rattle.std.specs.Prelude.{◌≡◌, ◌≢◌, Bool, false, List, map, None, Some, is_some, IsTrue, true}
use Rattle.std.specs.List.{AllByRecursion}
use Rattle.dom_base.specs.Owners.{has_word}
use Rattle.dom_base.specs.declared.Owner.{Owner}
use Rattle.dom_base.specs.declared.Owner.TheVariants.{Page}
use Rattle.dom_base.specs.declared.NodeName.{NodeName}
use Rattle.dom_base.specs.declared.Kind.TheVariants.{Shadow}
use Rattle.dom_model.specs.Tree.{has_node}
use Rattle.dom_model.specs.Command.{Line}
use Rattle.dom_model.specs.World.{World, part_of, is_there, host_of, component_at, kind_at, parent_at, shadow_root_of}
use Rattle.dom_model.specs.Slots.{assigned_nodes}
use Rattle.dom_model.specs.Turns.{ending_other_turn}
use Rattle.dom_model.specs.DocumentMachine.{first_world, step, run_lines, finish}
use Rattle.dom_model.specs.Trace.{line_may_stop, no_component_stops}
use Rattle.dom_worlds.specs.Worlds.{IsOf, IsWorld, MayBeShadow, HasKinds, HasOwners, ComponentsOnlyLog}

-- A world of which the laws speak; where only_log, no listener of a component stops or cancels.
pub record Invariant (only_log : Bool) (w : World) : Type 0 where
  pub world : IsWorld w
  pub logs : only_log ≡ true → ComponentsOnlyLog w

-- what holds of reached worlds where no listener of a component stops or cancels
abbrev pub IsQuiet : World → Type 0
IsQuiet w = Invariant true w

-- A world as the machine reaches it.
pub record IsReached (only_log : Bool) (w : World) : Type 0 where
  pub world : IsWorld w
  pub kinds : (o : Owner) → HasKinds (part_of w o)
  pub owners : HasOwners w
  pub logs : only_log ≡ true → ComponentsOnlyLog w

-- The first world is as the machine reaches it, and each line keeps that. Where components are to log alone, the line is
-- no accepted `listen` of theirs that does more.
abbrev pub FirstIsReached : Type 0
FirstIsReached = (only_log : Bool) → IsReached only_log first_world

-- each line
abbrev pub StepKeepsReached : Type 0
StepKeepsReached = (only_log : Bool) (w : World) (l : Line) → IsReached only_log w → (only_log ≡ true → line_may_stop w l ≡ false) →
    IsReached only_log (step w l).0

-- The ending of another component's turn keeps it, and so does the end of input, behind which further lines may come.
abbrev pub EndingKeepsReached : Type 0
EndingKeepsReached = (only_log : Bool) (w : World) (o : Owner) → IsReached only_log w → IsReached only_log (ending_other_turn w o).0

-- the end of input
abbrev pub FinishKeepsReached : Type 0
FinishKeepsReached = (only_log : Bool) (w : World) → IsReached only_log w → IsReached only_log (finish w).0

-- So each script leads to such a world, and one in which no component listener stops or cancels to one where they only log.
abbrev pub ScriptsReach : {L : Type 0} → (L → Line) → Type 0
ScriptsReach {L = L} read = (ls : List L) → IsReached false (run_lines first_world (map read ls)).0

-- scripts in which no component listener stops or cancels
abbrev pub QuietScriptsReach : {L : Type 0} → (L → Line) → Type 0
QuietScriptsReach {L = L} read = (ls : List L) → IsTrue (no_component_stops read ls) → IsReached true (run_lines first_world (map read ls)).0

-- What follows, in the definitions' own words. An attached component's first node is there, is a shadow root and has no
-- parent.
abbrev pub ShadowRootsAreRoots : Type 0
ShadowRootsAreRoots =
    (only_log : Bool) (w : World) → IsReached only_log w → (o : Owner) → IsTrue (is_some (host_of w o)) →
    let x = shadow_root_of o in
    IsTrue (has_node (part_of w o).trees x) × (kind_at w x ≡ Shadow) × (parent_at w x ≡ None)

-- No other node is a shadow root.
abbrev pub NoOtherShadowRoots : Type 0
NoOtherShadowRoots = (only_log : Bool) (w : World) → IsReached only_log w → (x : NodeName) → kind_at w x ≡ Shadow → MayBeShadow x.owner x

-- But for the page, just those owners are there that have a host.
abbrev pub AttachedAreThere : Type 0
AttachedAreThere = (only_log : Bool) (w : World) → IsReached only_log w → (o : Owner) → o ≢ Page → is_there w o ≡ is_some (host_of w o)

-- Each owner that is there has a word.
abbrev pub OwnersHaveWords : Type 0
OwnersHaveWords = (only_log : Bool) (w : World) → IsReached only_log w → (o : Owner) → IsTrue (is_there w o) → IsTrue (has_word o)

-- The component at a node is that whose host the node is.
abbrev pub HostsAreTheirs : Type 0
HostsAreTheirs = (only_log : Bool) (w : World) → IsReached only_log w → (o : Owner) (x : NodeName) → host_of w o ≡ Some x → component_at w x ≡ Some o

-- The nodes that are assigned to a slot are of the owner whose host the slot's root has.
abbrev pub AssignedAreSiblings : Type 0
AssignedAreSiblings =
    (only_log : Bool) (w : World) → IsReached only_log w → (s host : NodeName) → host_of w s.owner ≡ Some host → AllByRecursion (IsOf host.owner)
    (assigned_nodes w s)
