-- Worlds with the listeners of each owner.
use Rattle.std.specs.Prelude.{ℕ, List, filter, map}
use Rattle.dom_base.specs.declared.Owner.{Owner}
use Rattle.dom_base.specs.declared.NodeName.{NodeName}
use Rattle.dom_model.specs.Listeners.{Listener}
use Rattle.dom_model.specs.Part.{Part}
use Rattle.dom_model.specs.World.{World}
use Rattle.dom_dispatch.specs.Kept.{is_of_owner}
use Rattle.dom_dispatch.specs.ListenersByName.{listener_named}

-- a part with its owner's listeners
abbrev pub hearing : (Owner → List (Listener NodeName)) → Part → Part
hearing of p = record p { listeners = of p.owner }

-- a world with each owner's listeners
abbrev pub heard : (Owner → List (Listener NodeName)) → World → World
heard of w = record { parts = map (hearing of) w.parts; signalled = w.signalled; tasks = w.tasks; turn = w.turn }

-- each owner's listeners: of a list for all owners those at its own nodes (DOM Standard, concept: event listener list)
abbrev pub own_listeners : List NodeName → List (Listener ℕ) → Owner → List (Listener NodeName)
own_listeners names ls o = filter (is_of_owner o) (map (listener_named names) ls)
