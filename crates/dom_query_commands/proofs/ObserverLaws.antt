-- What the commands on observers say of records, and what the command for a microtask does.
use Rattle.dom_query_commands.proofs.Cited.{◌≡◌, ℕ, List, map, sym, [], ◌∷◌, ◌++◌, Option, Some, None, refl, Owner, Command, Word, nothing, recorded, says}
use Rattle.dom_query_commands.proofs.Cited.{replied, World, Task, micro_task, accepted, opening_turn, DocState, change_in, record_lines, Observer, with_turn}
use Rattle.dom_query_commands.proofs.Cited.{IsNaming, namings}
use Rattle.dom_observers.specs.declared.change.Change.{Change}
use Rattle.dom_query_commands.proofs.Notices.{map_twice}

-- the taking of records names its observer alone
pub naming-take : (o : Owner) (k : ℕ) → IsNaming o (Command.take k) (Observer k ∷ [])
naming-take o k = search namings

-- the lines of an observer's records
pub record_lines_are : (d : DocState) (o : Owner) (k : ℕ) (records : List Change) →
    record_lines d.names o k records ≡ map (says o) (map (λ r. recorded k (change_in d r)) records)
record_lines_are d o k records = sym (map_twice (λ r. recorded k (change_in d r)) (says o) records)

-- a world with other tasks
abbrev tasked : World → List Task → World
tasked w ts = record { parts = w.parts; signalled = w.signalled; tasks = ts; turn = w.turn }

-- the turn may be opened after a label is queued
pub micro_queued : (t : Option Owner) (w : World) (o : Owner) (label : Word) →
    (opening_turn (with_turn t (tasked w (w.tasks ++ micro_task o label ∷ []))) o, says o (replied nothing) ∷ []) ≡ accepted (with_turn t w) o
    (Command.micro label)
micro_queued None w o label = refl
micro_queued (Some x) w o label = refl
