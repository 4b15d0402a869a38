-- Groups of owners: the page, and with each component its maker. What a group has of a world and of a run, and the run of a trace
-- in which all others are silent. All own rules.
use Rattle.std.specs.Prelude.{◌≡◌, ℕ, zero, suc, Bool, true, not, ◌&&◌, ◌||◌, List, [], ◌∷◌, filter, flat_map, get_or, Option, Some, None, option_to_list}
use Rattle.std.specs.List.{list_any}
use Rattle.dom_base.specs.declared.Owner.{Owner}
use Rattle.dom_base.specs.declared.Owner.TheVariants.{Page, Component}
use Rattle.dom_base.specs.Owners.{longer_path, no_path, made_by}
use Rattle.dom_model.specs.Names.{owner_eq, owner_depth}
use Rattle.dom_model.specs.Command.{Line}
use Rattle.dom_model.specs.CommandWords.{EventWords}
use Rattle.dom_model.specs.Output.{Output}
use Rattle.dom_model.specs.Runs.{Run}
use Rattle.dom_model.specs.World.{World, Task, micro_task, notify_task, component_made, MayAttach, some_if}
use Rattle.dom_model.specs.Dispatch.{dispatch_in}
use Rattle.dom_model.specs.Turns.{has_other_turn}
use Rattle.dom_model.specs.DocumentMachine.{step}
use Rattle.dom_model.specs.Trace.{OutwardEvent, TraceItem, line, outward, is_page, is_of, owner_of_line, owner_of_output}

-- the component that the page attached, in whose trees an owner is, at any depth: its word has the first number of the owner's. Of the page it
-- is the page (own rule)
abbrev pub top_owner : Owner → Owner
top_owner Page = Page
top_owner (Component q) = Component (longer_path no_path (get_or q.parts 0 0))

-- The family of a component that the page attached: it, and all that are attached inside its trees, at any depth.
abbrev pub is_in_family : Owner → Owner → Bool
is_in_family root o = owner_eq root (top_owner o)

-- the page, and the family of a component (own rule)
abbrev pub family_group : Owner → Owner → Bool
family_group root o = is_page o || is_in_family root o

-- An owner, whoever made it, whoever made that one, and so on out to the page; there are no more than its depth says.
abbrev pub makers_from : ℕ → Owner → List Owner
makers_from zero o = o ∷ []
makers_from (suc depth) o = o ∷ flat_map (λ ((maker, k) : Owner × ℕ). makers_from depth maker) (option_to_list (made_by o))

-- whether an owner is a component, or is made inside it, at any depth
abbrev pub is_inside : Owner → Owner → Bool
is_inside c o = list_any (owner_eq c) (makers_from (owner_depth o) o)

-- the page, a component, and its makers: the least group that has the component
abbrev pub makers_group : Owner → Owner → Bool
makers_group c o = is_page o || is_inside o c

-- all but a component and what is made inside it: the greatest group that lacks the component
abbrev pub group_without : Owner → Owner → Bool
group_without c o = not (is_inside c o)

-- A group has the page, and with each component whoever made it, and so its makers out to the page.
pub record KeepsMakers (group : Owner → Bool) : Type 0 where
  pub page : group Page ≡ true
  pub made : (o : Owner) (k : ℕ) → MayAttach o → group (component_made o k) ≡ true → group o ≡ true

-- whether a task is of a group (own rule)
abbrev pub is_task_of : (Owner → Bool) → Task → Bool
is_task_of group (micro_task o label) = group o
is_task_of group (notify_task o) = group o

-- the turn, where it is of a group
abbrev pub group_turn : (Owner → Bool) → Option Owner → Option Owner
group_turn group None = None
group_turn group (Some o) = some_if (group o) o

-- What a group has of a world: its own parts, signalled slots and tasks, and the turn where it is its own.
abbrev pub group_world : (Owner → Bool) → World → World
group_world group w = record {
  parts = filter (λ p. group p.owner) w.parts;
  signalled = filter (λ s. group s.owner) w.signalled;
  tasks = filter (is_task_of group) w.tasks;
  turn = group_turn group w.turn;
}

-- its lines of output
abbrev pub group_outputs : (Owner → Bool) → List Output → List Output
group_outputs group lines = filter (λ l. is_of group (owner_of_output l)) lines

-- what it has of a run
abbrev pub group_run : (Owner → Bool) → Run World → Run World
group_run group r = (group_world group r.0, group_outputs group r.1)

-- the words of an outward event, which is composed
abbrev pub outward_words : OutwardEvent → EventWords
outward_words e = record { event = e.event; bubbles = e.bubbles; cancelable = e.cancelable; composed = true }

-- an outward event is dispatched at its host
abbrev pub outward_in : World → OutwardEvent → Run World
outward_in w e = (dispatch_in w e.host None (outward_words e)).run

-- one item of a trace, where all others are silent: a line as it stands, and an outward event at its host
abbrev pub silent_step : {L : Type 0} → (L → Line) → World → TraceItem L → Run World
silent_step read w (line l) = step w (read l)
silent_step read w (outward e) = outward_in w e

-- whether a line ends another component's turn
abbrev pub ends_other_turn : World → Line → Bool
ends_other_turn w l = is_of (has_other_turn w) (owner_of_line l)

-- whether a line of an owner outside a group ends the turn of a component inside
abbrev pub ends_group_turn : (Owner → Bool) → World → Line → Bool
ends_group_turn group w l = not (is_of group (owner_of_line l)) && (is_of group w.turn && ends_other_turn w l)
