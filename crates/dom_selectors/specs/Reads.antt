-- What a reader returned, seen as a reading of the definitions.
use Rattle.std.specs.Prelude.{◌≡◌, List, ◌++◌, map, Option, option_map, Result, Ok, Err}
use Rattle.dom_model.specs.Names.{DomString}
use Rattle.dom_model.specs.Selectors.{Simple, CompoundPart, simple}
use Rattle.std.specs.declared.alloc.AllocError.{AllocError}
use Rattle.dom_base.specs.declared.Fault.{Fault}
use Rattle.dom_base.specs.declared.Fault.TheVariants.{Refused, Memory}
use Rattle.dom_base.specs.declared.Refusal.TheVariants.{Selector}

-- what was returned, seen by view, is what is read; want of memory says nothing of it (own rule)
abbrev pub Reads : {X Y : Type 0} → (X → Y) → Result (Option X) AllocError → Option Y → Type 0
Reads view (Ok found) read = option_map view found ≡ read
Reads view (Err e) read = Unit {0}

-- a refusal with `Selector` where this holds, or want of memory (own rule)
abbrev pub IsRefusalWhere : Type 0 → Fault → Type 0
IsRefusalWhere holds Memory = Unit {0}
IsRefusalWhere holds (Refused refusal) = (refusal ≡ Selector) × holds

-- what was read first, before what was read behind it
abbrev pub behind_list : {Y : Type 0} → List Y → List Y × DomString → List Y × DomString
behind_list ys more = (ys ++ more.0, more.1)

-- simple selectors as parts of a compound
abbrev pub as_parts : List Simple × DomString → List CompoundPart × DomString
as_parts r = (map simple r.0, r.1)
