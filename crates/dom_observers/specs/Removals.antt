-- Which registrations go, and what is left of a list where those in some places were looked at.
use Rattle.std.specs.Prelude.{◌≡◌, ℕ, ◌+◌, ◌&&◌, nat_eq, not, Bool, true, false, List, Some, length, map, filter}
use Rattle.dom_model.specs.Names.{is_in}
use Rattle.dom_model.specs.Observers.{Registration, is_transient, stems_from}
use Rattle.dom_observers.specs.declared.registered.Registered.{Registered}
use Rattle.dom_observers.specs.declared.removal.Removal.{Removal}
use Rattle.dom_observers.specs.declared.removal.Removal.TheVariants.{Of, TransientsOf, CopiesOf}
use Rattle.dom_observers.specs.Numbers.{numbers_in}
use Rattle.dom_observers.specs.Views.{registration_of, those_there, there_in}

-- whether a registration goes (DOM Standard, disconnect(), concept: notify mutation observers, observe())
abbrev pub goes : Removal → Registration ℕ → Bool
goes (Of k) r = nat_eq r.observer k
goes (TransientsOf ks) r = is_transient r.source && is_in nat_eq r.observer (numbers_in ks)
goes (CopiesOf k x) r = nat_eq r.observer k && stems_from nat_eq x r.source

-- A list before and after those in some places that go were taken away, so many as this (own rule).
pub record HaveLeft (removal : Removal) (places : List ℕ) (went : ℕ) (before after : List Registered) : Type 0 where
  pub same : map registration_of after ≡ map registration_of before
  pub counted : length (those_there after) + went ≡ length (those_there before)
  pub others : filter (λ r. not (goes removal r)) (those_there after) ≡ filter (λ r. not (goes removal r)) (those_there before)
  pub fewer : (i : ℕ) (r : Registration ℕ) → there_in after i ≡ Some r → there_in before i ≡ Some r
  pub gone : (i : ℕ) (r : Registration ℕ) → is_in nat_eq i places ≡ true → there_in after i ≡ Some r → goes removal r ≡ false
