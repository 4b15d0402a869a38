-- One list of all owners' listeners in place of each owner's own.
use Rattle.std.specs.Prelude.{◌≡◌, ℕ, nat_eq, Bool, not, List, filter, fold, map, Option}
use Rattle.std.specs.List.{AllByRecursion}
use Rattle.dom_base.specs.declared.Owner.{Owner}
use Rattle.dom_base.specs.declared.NodeName.{NodeName}
use Rattle.dom_model.specs.Names.{owner_eq, name_eq}
use Rattle.dom_model.specs.Command.{EventWords}
use Rattle.dom_model.specs.Listeners.{Listener, Dispatching, after_invoke, begun}
use Rattle.dom_model.specs.Dispatch.{dispatch_in, event_output, visits_of}
use Rattle.dom_model.specs.Paths.{View, views}
use Rattle.dom_model.specs.World.{World, part_of}
use Rattle.dom_path.specs.Items.{view_named}
use Rattle.dom_dispatch.specs.ListenersByName.{listener_named, line_named, IsListenerAt, IsViewOf}
use Rattle.dom_tree.specs.Apart.{TellApart}

-- whether a listener is at an owner's node
abbrev pub is_of_owner : Owner → Listener NodeName → Bool
is_of_owner o l = owner_eq l.node.owner o

-- each owner's listeners are those of the list at its own nodes, in the same order (DOM Standard, concept: event listener list)
abbrev pub HasListeners : World → List (Listener NodeName) → Type 0
HasListeners w ls = (o : Owner) → (part_of w o).listeners ≡ filter (is_of_owner o) ls

-- a dispatch with one list of all owners' listeners (DOM Standard, concept: dispatch)
abbrev pub dispatch_among : World → List (Listener NodeName) → NodeName → Option NodeName → EventWords → Dispatching NodeName
dispatch_among w ls target related e = fold (after_invoke name_eq e) (begun ls) (visits_of name_eq e.bubbles (views w target related e.composed))

-- Such a dispatch has the lines and the answer of the dispatch in the world, and leaves each owner the listeners that the
-- latter leaves it; and of a part nothing else changes (DOM Standard, concept: dispatch).
abbrev pub DispatchedAmong : Type 0
DispatchedAmong =
    (w : World) (ls : List (Listener NodeName)) → HasListeners w ls → (target : NodeName) (related : Option NodeName) (e : EventWords) →
    let all = dispatch_among w ls target related e in
    let end = dispatch_in w target related e in
    ((o : Owner) → part_of end.run.0 o ≡ record (part_of w o) { listeners = filter (is_of_owner o) all.listeners })
    × (end.run.1 ≡ map event_output all.lines) × (end.answer ≡ not all.cancelled)

-- a dispatch by keys along the views of a path, with one list of all owners' listeners
abbrev pub dispatch_along : List (Listener ℕ) → EventWords → List (View ℕ) → Dispatching ℕ
dispatch_along ls e vs = fold (after_invoke nat_eq e) (begun ls) (visits_of nat_eq e.bubbles vs)

-- So a dispatch by keys, along what a path shows in a world, has by names the lines and the answer of the dispatch in that world, and
-- leaves each owner its listeners (DOM Standard, concept: dispatch).
abbrev pub DispatchedAlong : Type 0
DispatchedAlong =
    (names : List NodeName) → TellApart names → (ls : List (Listener ℕ)) → AllByRecursion (IsListenerAt names) ls → (vs : List (View ℕ)) →
    AllByRecursion (IsViewOf names) vs →
    (w : World) → HasListeners w (map (listener_named names) ls) → (target : NodeName) (related : Option NodeName) (e : EventWords) →
    map (view_named names) vs ≡ views w target related e.composed →
    let all = dispatch_along ls e vs in
    let end = dispatch_in w target related e in
    ((o : Owner) → part_of end.run.0 o ≡ record (part_of w o) { listeners = filter (is_of_owner o) (map (listener_named names) all.listeners) })
    × (end.run.1 ≡ map event_output (map (line_named names) all.lines)) × (end.answer ≡ not all.cancelled)
