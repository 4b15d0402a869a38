-- What a contract sees of a dispatch: the event, the visits, the lines, and how far it is.
use Rattle.std.specs.Prelude.{◌≡◌, ℕ, ◌<◌, not, List, [], filter, length, map, slice_get, Option, Some, option_map, string_bytes, unwrap_or}
use Rattle.std.specs.Option.{ForSome}
use Rattle.std.specs.List.{AllByRecursion}
use Rattle.dom_base.specs.declared.Owner.{Owner}
use Rattle.dom_base.specs.declared.NodeName.{NodeName}
use Rattle.dom_model.specs.Command.{EventWords}
use Rattle.dom_model.specs.Dispatch.{dispatch_in, event_output}
use Rattle.dom_model.specs.Listeners.{Listener, Visit as Visited, Dispatching}
use Rattle.dom_model.specs.Output.{EventLine}
use Rattle.dom_model.specs.Paths.{View, views}
use Rattle.dom_model.specs.World.{World, part_of}
use Rattle.dom_tree.specs.Forest.{NamedTrees, name_at}
use Rattle.dom_slots.specs.Hosts.{ShadowHost}
use Rattle.dom_slots.specs.Shadows.{shadows}
use Rattle.dom_path.specs.Hosted.{IsHosted}
use Rattle.dom_path.specs.Items.{IsWorldOf, PathNow, ShowsNodes, view_named}
use Rattle.dom_path.specs.Paths.{AreViews}
use Rattle.dom_dispatch.specs.declared.event.EventInit.{EventInit}
use Rattle.dom_dispatch.specs.declared.event.LogLine.{LogLine}
use Rattle.dom_dispatch.specs.declared.event.Outcome.{Outcome}
use Rattle.dom_dispatch.specs.declared.progress.Progress.{Progress}
use Rattle.dom_dispatch.specs.declared.shown.Shown.{Shown}
use Rattle.dom_dispatch.specs.declared.visit.Visit.{Visit}
use Rattle.dom_dispatch.specs.Kept.{is_of_owner, HasListeners, dispatch_along}
use Rattle.dom_dispatch.specs.ListenersByName.{listener_named, line_named}

-- the words of an event, without its related node
abbrev pub event_words : EventInit → EventWords
event_words e = record { event = string_bytes e.name; bubbles = e.bubbles; cancelable = e.cancelable; composed = e.composed }

-- a visit
abbrev pub visit_in : Visit → Visited ℕ
visit_in v = record { current = v.current; phase = v.phase; capturing = v.capturing; target = v.target; related = v.related; path = v.path.value.items }

-- what was asked for last are the nodes that an event shows at an item of its path
abbrev pub IsShownOf : PathNow → Shown → Type 0
IsShownOf p s =
    ForSome s.last (λ l. (l.at < length p.items) × (option_map (λ (v : View ℕ). v.path) (slice_get p.views l.at) ≡ Some l.nodes.value.items))

-- the line of a call
abbrev pub line_in : LogLine → EventLine ℕ
line_in l = record {
  label = l.listener.value.label.items;
  event = string_bytes l.listener.value.kind.value.event;
  phase = l.phase;
  target = l.target;
  current = l.current;
  related = l.related;
  path = l.path.value.items;
}

-- how far a dispatch is, with these listeners
abbrev pub dispatching_in : List (Listener ℕ) → Progress → Dispatching ℕ
dispatching_in ls p = record { listeners = ls; stopped = p.stopped; stopped_now = p.stopped_now; cancelled = p.cancelled; lines = map line_in p.lines.items }

-- a line is its node's owner's
abbrev pub IsOwnLine : List NodeName → LogLine → Type 0
IsOwnLine names l = l.owner ≡ (name_at names l.current).owner

-- the path of a line is the one that stands here for its number
abbrev pub HasPathOf : (ℕ → List ℕ) → LogLine → Type 0
HasPathOf paths l = l.path.value.items ≡ paths l.path_at

-- lines with the same number have the same path
pub record AreNumbered (ls : List LogLine) : Type 0 where
  pub paths : ℕ → List ℕ
  pub each : AllByRecursion (HasPathOf paths) ls

-- a line is its node's owner's, and its path is the one of its number
abbrev pub IsLineAlong : List NodeName → (ℕ → List ℕ) → LogLine → Type 0
IsLineAlong names paths l = IsOwnLine names l × HasPathOf paths l

-- the nodes that an event shows at the items of its path
abbrev pub paths_of : PathNow → ℕ → List ℕ
paths_of p at = unwrap_or (option_map (λ (v : View ℕ). v.path) (slice_get p.views at)) []

-- where the visit is of its node's owner, and its path the one of its number, such lines are followed by such lines
abbrev pub KeepsLines : Visit → Progress → Progress → Type 0
KeepsLines v before after =
    (names : List NodeName) (paths : ℕ → List ℕ) → v.owner ≡ (name_at names v.current).owner → v.path.value.items ≡ paths v.path_at →
    AllByRecursion (IsLineAlong names paths) before.lines.items → AllByRecursion (IsLineAlong names paths) after.lines.items

-- An event was dispatched along what it shows at some nodes.
pub record IsDispatchedAlong (names : List NodeName) (before after : List (Listener ℕ)) (e : EventWords) (outcome : Outcome) : Type 0 where
  pub shown : List (View ℕ)
  pub nodes : AllByRecursion (ShowsNodes names) shown
  pub listeners : after ≡ (dispatch_along before e shown).listeners
  pub lines : map line_in outcome.lines.items ≡ (dispatch_along before e shown).lines
  pub answer : outcome.answer ≡ not (dispatch_along before e shown).cancelled

module _ (f : NamedTrees) (hosts : List ShadowHost) (before after : List (Listener ℕ)) (target : ℕ) (related : Option ℕ) (e : EventWords)
    (outcome : Outcome) where
  -- An event was dispatched along its path: what it shows there are nodes; it is what the event shows in these trees and hosts, and in
  -- every world that has them (DOM Standard, concept: dispatch).
  pub record IsDispatched : Type 0 where
    pub shown : List (View ℕ)
    pub nodes : AllByRecursion (ShowsNodes f.names) shown
    pub path : (w : World) → IsWorldOf f hosts w →
        map (view_named f.names) shown ≡ views w (name_at f.names target) (option_map (name_at f.names) related) e.composed
    pub hosted : (depth : ℕ) → IsHosted f hosts depth →
        AreViews (shadows f hosts) depth (name_at f.names target) (option_map (name_at f.names) related) e.composed (map (view_named f.names) shown)
    pub listeners : after ≡ (dispatch_along before e shown).listeners
    pub lines : map line_in outcome.lines.items ≡ (dispatch_along before e shown).lines
    pub answer : outcome.answer ≡ not (dispatch_along before e shown).cancelled

  -- In every such world that has these listeners the dispatch leaves each owner the same ones, and has the same lines and the same
  -- answer (DOM Standard, concept: dispatch).
  abbrev pub IsDispatchedIn : Type 0
  IsDispatchedIn =
      (w : World) → IsWorldOf f hosts w → HasListeners w (map (listener_named f.names) before) →
      let end = dispatch_in w (name_at f.names target) (option_map (name_at f.names) related) e in
      ((o : Owner) → part_of end.run.0 o ≡ record (part_of w o) { listeners = filter (is_of_owner o) (map (listener_named f.names) after) })
      × (end.run.1 ≡ map event_output (map (line_named f.names) (map line_in outcome.lines.items))) × (end.answer ≡ outcome.answer)
