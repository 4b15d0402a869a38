-- What each call leaves of this: listeners are at nodes.
use Rattle.std.specs.Prelude.{ℕ, ◌<◌, nat_eq, Bool, List, [], ◌++◌, length, Option}
use Rattle.std.specs.List.{AllByRecursion}
use Rattle.dom_base.specs.declared.NodeName.{NodeName}
use Rattle.dom_model.specs.Names.{Word}
use Rattle.dom_model.specs.Command.{EventWords, ListenerWords}
use Rattle.dom_model.specs.Listeners.{Listener, with_listener_added, with_listener_removed}
use Rattle.dom_tree.specs.Forest.{NamedTrees}
use Rattle.dom_slots.specs.Hosts.{ShadowHost}
use Rattle.dom_dispatch.specs.declared.event.Outcome.{Outcome}
use Rattle.dom_dispatch.specs.Dispatches.{IsDispatched}
use Rattle.dom_dispatch.specs.ListenersByName.{IsListenerAt}

-- listeners are at nodes with these names
abbrev pub AreAtNodes : List NodeName → List (Listener ℕ) → Type 0
AreAtNodes names ls = AllByRecursion (IsListenerAt names) ls

-- nobody listens
abbrev pub NoneStay : Type 0
NoneStay = (names : List NodeName) → AreAtNodes names []

-- more nodes
abbrev pub MoreStay : Type 0
MoreStay = (names more : List NodeName) (ls : List (Listener ℕ)) → AreAtNodes names ls → AreAtNodes (names ++ more) ls

-- a node is listened to
abbrev pub ListenedStay : Type 0
ListenedStay = (names : List NodeName) (ls : List (Listener ℕ)) → AreAtNodes names ls → (x : ℕ) → x < length names → (words : ListenerWords) →
    AreAtNodes names (with_listener_added nat_eq x words ls)

-- a listener goes
abbrev pub UnlistenedStay : Type 0
UnlistenedStay =
    (names : List NodeName) (ls : List (Listener ℕ)) → AreAtNodes names ls → (x : ℕ) (event label : Word) (capture : Bool) →
    AreAtNodes names (with_listener_removed nat_eq x event label capture ls)

-- an event is dispatched
abbrev pub DispatchedStay : Type 0
DispatchedStay =
    (f : NamedTrees) (hosts : List ShadowHost) (before after : List (Listener ℕ)) (target : ℕ) (related : Option ℕ) (e : EventWords) (outcome : Outcome) →
    AreAtNodes f.names before → IsDispatched f hosts before after target related e outcome → AreAtNodes f.names after
