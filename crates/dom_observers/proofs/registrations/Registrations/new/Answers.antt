use Rattle.dom_base.proofs.Std.{◌≡◌, List, length, refl, sym, subst, arith}
use Rattle.dom_observers.specs.declared.registered.Registered.{Registered}
use Rattle.dom_observers.specs.Definitions.{those_there}
use Rattle.dom_observers.proofs.Once.{AreOnce}
use Rattle.dom_observers.proofs.registrations.Registrations.new.Goals as goal

pub invariant_of-result : goal.invariant_of-result
invariant_of-result c =
    let none = c.new.ensures.items in
    record {
      noted = c.new-2.ensures c.new.result.items;
      counted =
          let same = subst (λ (rs : List Registered). length (those_there rs) ≡ length rs) (sym none) refl in
          omega (arith, same);
      once = subst (λ (rs : List Registered). AreOnce (those_there rs)) (sym none) (λ k x. omega arith);
    }
