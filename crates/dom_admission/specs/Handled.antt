-- What the handling of a command does: the world and the answers that the document machine gives, or its refusal; and the names of the
-- nodes, which stay.
use Rattle.std.specs.Prelude.{◌≡◌, List, length, take, Result, Ok, Err, Option, Some, None}
use Rattle.dom_base.specs.declared.Owner.{Owner}
use Rattle.dom_base.specs.declared.NodeName.{NodeName}
use Rattle.dom_base.specs.declared.Refusal.{Refusal}
use Rattle.dom_base.specs.declared.Fault.{Fault}
use Rattle.dom_base.specs.declared.Fault.TheVariants.{Refused, Memory}
use Rattle.dom_model.specs.Command.{Command}
use Rattle.dom_model.specs.Output.{Output}
use Rattle.dom_model.specs.Runs.{Run}
use Rattle.dom_model.specs.World.{World}
use Rattle.dom_model.specs.DocumentMachine.{refusal, accepted}

-- Over what takes answers: `adds` tells which came after what was there.
module _ {S : Type 0} (adds : S → List Output → S → Type 0) where
  -- what was to give this refusal, or else this world and these answers, has done so, from an old world and what was answered to new
  -- ones; where memory was refused, nothing is said (own rule)
  abbrev pub IsDone : Option Refusal → Run World → World → World → S → S → Result (Unit {0}) Fault → Type 0
  IsDone refusal run old new before after (Ok x) = (refusal ≡ None) × (new ≡ run.0) × adds before run.1 after
  IsDone refusal run old new before after (Err (Refused r)) = (refusal ≡ Some r) × (new ≡ old) × (after ≡ before)
  IsDone refusal run old new before after (Err Memory) = Unit {0}

  -- a command of an owner is handled as the document machine does it (own rule)
  abbrev pub IsHandled : Owner → Command → World → World → S → S → Result (Unit {0}) Fault → Type 0
  IsHandled o c old new before after r = IsDone (refusal old o c) (accepted old o c) old new before after r

-- how a line is let pass: without a refusal, or with this one (own rule)
abbrev pub let_pass : Option Refusal → Result (Unit {0}) Fault
let_pass None = Ok tt
let_pass (Some r) = Err (Refused r)

-- how a line is let pass that gives something then (own rule)
abbrev pub passing : {A : Type 0} → Result A Fault → Result (Unit {0}) Fault
passing (Ok x) = Ok tt
passing (Err f) = Err f

-- the first names are these: nodes were made, or none
abbrev pub BeginsWith : List NodeName → List NodeName → Type 0
BeginsWith names more = take (length names) more ≡ names

-- what was done has kept the names of nodes; where memory was refused, nothing is said (own rule)
abbrev pub KeepsNames : List NodeName → List NodeName → Result (Unit {0}) Fault → Type 0
KeepsNames old new (Ok x) = BeginsWith old new
KeepsNames old new (Err (Refused r)) = BeginsWith old new
KeepsNames old new (Err Memory) = Unit {0}
