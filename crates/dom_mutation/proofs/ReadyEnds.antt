-- Steps keep both ends of a live range at nodes of one tree, whatever else the part holds. The laws for this speak of all tables, so
-- they are read of a part without the others.
use Rattle.dom_mutation.proofs.Cited.{◌≡◌, ℕ, List, [], ◌∷◌, ◌++◌, fold, Option, Some, None, refl, sym, ap, subst, ◌∙◌, nat_eq, slice_set}
use Rattle.dom_mutation.proofs.Cited.{AllByRecursion, option_map_or, NodeName, append_once, Registration, target_of, Change, Part, queue_of, Step, make}
use Rattle.dom_mutation.proofs.Cited.{take_out, queue_record, part_step, leave, after, record_in, inclusive_ancestors, parent_of, none_interested}
use Rattle.dom_mutation.proofs.Cited.{none_transient, HasBounds, EndsIn, HasTables, IsPart, tables-after, Fits, MadeIn}

-- the part with its trees and live ranges alone
abbrev pub bare : Part → Part
bare p = record p { iterators = []; walkers = []; registrations = []; record_queues = []; pending = []; listeners = []; attached = [] }

-- a step does the same with the others left out
pub bare-step : (p : Part) (s : Step) → part_step (bare p) s ≡ bare (part_step p s)
bare-step p (take_out x) = by (parent_of p.trees x)
  where
    by : (o : Option NodeName) → option_map_or (leave (bare p) x) o (bare p) ≡ bare (option_map_or (leave p x) o p)
    by None = refl
    by (Some parent) = ap (λ (rs : List (Registration NodeName)). record (bare (leave p x parent)) { registrations = rs })
        (none_transient x (inclusive_ancestors p.trees parent))
bare-step p (queue_record c) =
    let add : List (List (Change NodeName)) → ℕ → List (List (Change NodeName)) =
    λ queues k. slice_set queues k (queue_of queues k ++ record_in (bare p) c k ∷ []) in
    ap (λ (ks : List ℕ). record (bare p) { record_queues = fold add [] ks; pending = fold (append_once nat_eq) [] ks })
    (none_interested (inclusive_ancestors p.trees (target_of c)) c)
bare-step p s = refl

-- and so do many
pub bare-after : (p : Part) (steps : List Step) → after (bare p) steps ≡ bare (after p steps)
bare-after p [] = refl
bare-after p (s ∷ steps) = ap (λ (q : Part). after q steps) (bare-step p s) ∙ bare-after (part_step p s) steps

-- and it fits where it did
bare-fits : (p : Part) (s : Step) → Fits (bare p) s ≡ Fits p s
bare-fits p (make n) = refl
bare-fits p s = refl

-- many do
pub bare-made : (p : Part) (steps : List Step) → MadeIn p steps → MadeIn (bare p) steps
bare-made p [] m = tt
bare-made p (s ∷ steps) m =
    (subst (λ (t : Type 0). t) (sym (bare-fits p s)) m.0, subst (λ (q : Part). MadeIn q steps) (sym (bare-step p s)) (bare-made (part_step p s) steps m.1))

pub made-bare : (p : Part) (steps : List Step) → MadeIn (bare p) steps → MadeIn p steps
made-bare p [] m = tt
made-bare p (s ∷ steps) m =
    (subst (λ (t : Type 0). t) (bare-fits p s) m.0, made-bare (part_step p s) steps (subst (λ (q : Part). MadeIn q steps) (bare-step p s) m.1))

-- what holds of the part holds of it then
pub bare-part : (p : Part) → IsPart p → IsPart (bare p)
bare-part p i = record { unique = i.unique; owned = i.owned; numbered = i.numbered }

pub bare-bounds : (p : Part) → HasBounds p → HasBounds (bare p)
bare-bounds p h = record { ranges = h.ranges; leaves = h.leaves }

pub bounds-bare : (p : Part) → HasBounds (bare p) → HasBounds p
bounds-bare p h = record { ranges = h.ranges; leaves = h.leaves }

-- its tables are the live ranges alone
pub bare-tables : (p : Part) → AllByRecursion (EndsIn p.trees) p.ranges → HasTables (bare p)
bare-tables p h = record { hosts = tt; ranges = h; iterators = tt; walkers = tt; registrations = tt; pending = tt; listeners = tt }

-- So steps that fit keep the ends of live ranges.
pub ends-after : (p : Part) (steps : List Step) → IsPart p → MadeIn p steps → AllByRecursion (EndsIn p.trees) p.ranges →
    AllByRecursion (EndsIn (after p steps).trees) (after p steps).ranges
ends-after p steps i m h =
    let t : HasTables (bare (after p steps)) =
    subst HasTables (bare-after p steps) (tables-after (bare p) steps (bare-part p i) (bare-made p steps m) (bare-tables p h)) in t.ranges
