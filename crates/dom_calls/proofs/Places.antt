-- The owner that stands at a place.
use Rattle.dom_base.proofs.Std.{◌≡◌, true, refl, sym, ap, ◌∙◌}
use Rattle.std.specs.Prelude.{ℕ, List, slice_get, Option, Some}
use Rattle.dom_base.specs.declared.Owner.{Owner}
use Rattle.dom_base.specs.contracts.OwnerPartialEq.TheImpl as OwnerImpl
use Rattle.dom_model.proofs.Model.{owner_eq, owner_eq-true}
use Rattle.dom_model.proofs.OwnerTests.{same_owner}
use Rattle.dom_calls.specs.Owners.{owner_in, or_nobody}

-- owners that the test finds the same are one
pub one_owner : (o p : Owner) → OwnerImpl.ghosts.eq o p ≡ true → o ≡ p
one_owner o p e = owner_eq-true o p (sym (same_owner o p) ∙ e)
