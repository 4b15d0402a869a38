-- The ends of ranges are within their nodes also in the worlds on the way through a line, and in a world without its listeners;
-- there too each owner has its first node.
use Rattle.dom_commands.proofs.Cited.{◌≡◌, List, [], Option, Some, sym, ◌∙◌, subst, is_some, HasBounds, IsBounded, IsNodeIn, part_of-visits, each-part}
use Rattle.dom_commands.proofs.Cited.{either_way, heard, HasFirstNodes}
use Rattle.dom_model.proofs.Model.{NodeName, Owner, EventWords, dispatch_in, visits_of, Listener, begun, name_eq, Part, first_node, views, opening_turn}
use Rattle.dom_model.proofs.Model.{notified, without_signals, World, part_of, with_part, owner-part_of}
use Rattle.dom_commands.proofs.ListenerWorlds.{FitsIn, there-heard, part-heard}

-- a part is written
bounded-with_part : (w : World) (p : Part) (o : Owner) → p.owner ≡ o → HasBounds p → IsBounded w → IsBounded (with_part w p)
bounded-with_part w p o e h b = each-part (λ x q. HasBounds q) w p o e h b

-- an event is dispatched: its visits change listeners alone
pub bounded-dispatch : (w : World) (x : NodeName) (related : Option NodeName) (e : EventWords) → IsBounded w → IsBounded (dispatch_in w x related e).run.0
bounded-dispatch w x related e b = λ o.
    subst HasBounds (sym (part_of-visits e (visits_of name_eq e.bubbles (views w x related e.composed)) (w, begun []) o))
    (record { ranges = (b o).ranges; leaves = (b o).leaves })

-- an owner's signals are taken, and its observers notified
pub bounded-told : (w : World) (o : Owner) → IsBounded w → IsBounded (with_part (without_signals w o) (notified (part_of w o)))
bounded-told w o b = bounded-with_part (without_signals w o) (notified (part_of w o)) o (owner-part_of w o)
    (record { ranges = (b o).ranges; leaves = (b o).leaves }) b

-- a turn is opened
pub bounded-opening : (w : World) (o : Owner) → IsBounded w → IsBounded (opening_turn w o)
bounded-opening w o b = either_way IsBounded (is_some w.turn) w (record w { turn = Some o }) b b

-- without its listeners too each owner has its first node
pub first_nodes-unheard : (of : Owner → List (Listener NodeName)) (w : World) → FitsIn of w → HasFirstNodes (heard of w) → HasFirstNodes w
first_nodes-unheard of w fits h o there = subst (λ (p : Part). IsNodeIn p.trees (first_node p)) (part-heard of w fits o) (h o (there-heard of w o ∙ there))
