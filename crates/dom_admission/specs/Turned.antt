-- A `Doc` with an open turn.
use Rattle.std.specs.Prelude.{Option, Some, None}
use Rattle.dom_base.specs.declared.Owner.{Owner}
use Rattle.dom_model.specs.World.{World}
use Rattle.dom_mutation.specs.Doc.{DocState}

-- a world with this open turn
abbrev pub with_turn : Option Owner → World → World
with_turn t w = record w { turn = t }

abbrev pub turned : Option Owner → DocState → DocState
turned t d = record { names = d.names; world = with_turn t d.world }

-- the turn that is open after an accepted command of an owner
abbrev pub opened_turn : Option Owner → Owner → Option Owner
opened_turn None o = Some o
opened_turn (Some x) o = Some x
