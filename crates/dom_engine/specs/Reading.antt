-- What a run has done when it has read some of its input.
use Rattle.std.specs.Prelude.{◌≡◌, ℕ, ◌+◌, ◌<◌, ◌≤◌, List, [], length, Option, Result, Ok, Err, MatchResult}
use Rattle.std.specs.Io.KnownBytes.{Consumes, IsAtEnd}
use Rattle.dom_base.specs.declared.Owner.{Owner}
use Rattle.dom_model.specs.World.{World}
use Rattle.dom_model.specs.DocumentMachine.{first_world}
use Rattle.dom_reader.specs.Streams.{fed}
use Rattle.dom_streams.specs.declared.fault.RunFault.{RunFault}
use Rattle.dom_streams.specs.declared.fault.RunFault.TheVariants.{Read, Write, Memory, InputLimit}
use Rattle.dom_engine.specs.Run.{world_after, shown, WritesSome, read_size, input_limit}
use Rattle.dom_streams.specs.Writing.{Taken, Takes, StopsWriting}

-- from the start these bytes were read: what is kept of the unfinished line, the world, and what is written
pub record HasRead (given : List ℕ) (view : Option Owner) (from to : Option (List ℕ)) (old new : Taken) (kept : List ℕ) (w : World) : Type 0 where
  pub consumed : Consumes from to given
  pub kept_is : kept ≡ (fed [] given).rest
  pub world_is : w ≡ world_after first_world (fed [] given).finished
  pub written : Takes old new (shown view first_world (fed [] given).finished)

-- all bytes were read, and they are no more than a run reads
abbrev pub HasReadAll : Option Owner → Option (List ℕ) → Option (List ℕ) → Taken → Taken → List ℕ → World → Type 0
HasReadAll view from to old new kept w = (given : List ℕ) × HasRead given view from to old new kept w × IsAtEnd to × (length given ≤ input_limit)

-- how a fault stops what is done for one read of at most so many bytes, behind what is kept of the unfinished line
abbrev pub StopsOneRead : RunFault → ℕ → (List (List ℕ) → List ℕ) → List ℕ → Option (List ℕ) → Option (List ℕ) → ℕ → ℕ → Taken → Taken → Type 0
StopsOneRead Read room text kept from to failed fails old new = Consumes from to [] × Takes old new []
StopsOneRead InputLimit room text kept from to failed fails old new = ⊥
StopsOneRead Write room text kept from to failed fails old new = (given : List ℕ) × (length given ≤ room) × Consumes from to given
    × StopsWriting Write failed fails old new (text (fed kept given).finished) (WritesSome old new text (fed kept given).finished)
StopsOneRead Memory room text kept from to failed fails old new = (given : List ℕ) × (length given ≤ room) × Consumes from to given
    × StopsWriting Memory failed fails old new (text (fed kept given).finished) (WritesSome old new text (fed kept given).finished)

-- what one more read gave where it found no end
abbrev pub MoreAt : RunFault → List ℕ → Type 0
MoreAt Read more = more ≡ []
MoreAt InputLimit more = (0 < length more) × (length more ≤ read_size)
MoreAt Write more = ⊥
MoreAt Memory more = ⊥

-- one more read gave these bytes, and none at the end
abbrev pub LeavesMore : {A : Type 0} → Result A RunFault → List ℕ → Type 0
LeavesMore r more = MatchResult r (λ _. more ≡ []) (λ e. MoreAt e more)

-- the count of the bytes that a source gave by one more read, of at most so many: more only where it found no end
abbrev pub ReadsMore : Result (Unit {0}) RunFault → ℕ → ℕ → ℕ → Type 0
ReadsMore (Err InputLimit) room old new = (old < new) × (new ≤ old + room)
ReadsMore (Err Read) room old new = new ≡ old
ReadsMore (Err Write) room old new = ⊥
ReadsMore (Err Memory) room old new = ⊥
ReadsMore (Ok x) room old new = new ≡ old
