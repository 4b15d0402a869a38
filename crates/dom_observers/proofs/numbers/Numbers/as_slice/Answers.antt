use Rattle.dom_base.proofs.Std.{nat_eq, sym, subst, IsDistinct}
use Rattle.dom_observers.proofs.numbers.Numbers.as_slice.Goals as goal

pub returns-in-Empty-clause-unique : goal.returns-in-Empty-clause-unique
unfolding IsDistinct
returns-in-Empty-clause-unique c = tt

pub returns-in-One-clause-unique : goal.returns-in-One-clause-unique
unfolding IsDistinct
returns-in-One-clause-unique c = subst (IsDistinct nat_eq) (sym c.from_ref.ensures.value) (tt, tt)
