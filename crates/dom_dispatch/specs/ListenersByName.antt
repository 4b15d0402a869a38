-- Listeners, visits and the lines of calls with keys for nodes, and the same by names.
use Rattle.std.specs.Prelude.{◌≡◌, ℕ, ◌<◌, nat_eq, Bool, List, length, map, fold, option_map}
use Rattle.std.specs.List.{AllByRecursion}
use Rattle.dom_base.specs.declared.NodeName.{NodeName}
use Rattle.dom_model.specs.Names.{Word, name_eq}
use Rattle.dom_model.specs.Command.{EventWords, ListenerWords}
use Rattle.dom_model.specs.Output.{EventLine}
use Rattle.dom_model.specs.Listeners.{Listener, Visit, Dispatching, with_listener_added, with_listener_removed, after_invoke, begun}
use Rattle.dom_model.specs.Paths.{View}
use Rattle.dom_model.specs.Dispatch.{visits_of}
use Rattle.dom_tree.specs.Forest.{name_at}
use Rattle.dom_tree.specs.Apart.{TellApart}
use Rattle.dom_path.specs.Items.{view_named}

module _ (names : List NodeName) where
  -- a listener by names
  abbrev pub listener_named : Listener ℕ → Listener NodeName
  listener_named l = record { node = name_at names l.node; words = l.words }

  -- a visit by names
  abbrev pub visit_named : Visit ℕ → Visit NodeName
  visit_named v = record {
    current = name_at names v.current;
    phase = v.phase;
    capturing = v.capturing;
    target = name_at names v.target;
    related = option_map (name_at names) v.related;
    path = map (name_at names) v.path;
  }

  -- the line of a call by names
  abbrev pub line_named : EventLine ℕ → EventLine NodeName
  line_named l = record {
    label = l.label;
    event = l.event;
    phase = l.phase;
    target = name_at names l.target;
    current = name_at names l.current;
    related = option_map (name_at names) l.related;
    path = map (name_at names) l.path;
  }

  -- a dispatch on its way by names
  abbrev pub dispatching_named : Dispatching ℕ → Dispatching NodeName
  dispatching_named s = record {
    listeners = map listener_named s.listeners;
    stopped = s.stopped;
    stopped_now = s.stopped_now;
    cancelled = s.cancelled;
    lines = map line_named s.lines;
  }

  -- a listener's node is one of them
  abbrev pub IsListenerAt : Listener ℕ → Type 0
  IsListenerAt l = l.node < length names

  -- the node of a view, and the target that it shows, are some of them
  pub record IsViewOf (v : View ℕ) : Type 0 where
    pub node : v.node < length names
    pub target : v.target < length names

-- What is done by keys is what is done by names (DOM Standard, 2.7: add an event listener, remove an event listener).
abbrev pub ListenedByNames : Type 0
ListenedByNames =
    (names : List NodeName) → TellApart names → (ls : List (Listener ℕ)) → AllByRecursion (IsListenerAt names) ls → (x : ℕ) → x < length names →
    (words : ListenerWords) →
    map (listener_named names) (with_listener_added nat_eq x words ls) ≡ with_listener_added name_eq (name_at names x) words (map (listener_named names) ls)

-- a listener less
abbrev pub UnlistenedByNames : Type 0
UnlistenedByNames =
    (names : List NodeName) → TellApart names → (ls : List (Listener ℕ)) → AllByRecursion (IsListenerAt names) ls → (x : ℕ) → x < length names →
    (event label : Word) (capture : Bool) →
    map (listener_named names) (with_listener_removed nat_eq x event label capture ls) ≡ with_listener_removed name_eq (name_at names x) event label capture
    (map (listener_named names) ls)

-- a dispatch along a path, from the listeners that there are (DOM Standard, concept: dispatch)
abbrev pub DispatchedByNames : Type 0
DispatchedByNames =
    (names : List NodeName) → TellApart names → (ls : List (Listener ℕ)) → AllByRecursion (IsListenerAt names) ls → (vs : List (View ℕ)) →
    AllByRecursion (IsViewOf names) vs → (e : EventWords) →
    dispatching_named names (fold (after_invoke nat_eq e) (begun ls) (visits_of nat_eq e.bubbles vs))
    ≡ fold (after_invoke name_eq e) (begun (map (listener_named names) ls)) (visits_of name_eq e.bubbles (map (view_named names) vs))
