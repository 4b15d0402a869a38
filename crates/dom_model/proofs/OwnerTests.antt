-- The test of owners that maps and sets make is the one of the definitions.
use Rattle.dom_base.proofs.Std.{◌≡◌, refl}
use Rattle.dom_base.specs.declared.Owner.{Owner}
use Rattle.dom_base.specs.declared.Owner.TheVariants.{Page, Component}
use Rattle.dom_base.specs.contracts.OwnerPartialEq.TheImpl as OwnerImpl
use Rattle.dom_model.specs.Names.{owner_eq}

pub same_owner : (o p : Owner) → OwnerImpl.ghosts.eq o p ≡ owner_eq o p
same_owner Page Page = refl
same_owner Page (Component k) = refl
same_owner (Component j) Page = refl
same_owner (Component j) (Component k) = refl
