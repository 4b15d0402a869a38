use Rattle.dom_base.proofs.Std.{◌≡◌, ◌&&◌, not, List, length, filter, sym, ap, ◌∙◌, subst, arith, rules, tests, filter_same}
use Rattle.dom_observers.specs.declared.registered.Registered.{Registered}
use Rattle.dom_observers.specs.Definitions.{goes, registration_of, those_there}
use Rattle.dom_observers.proofs.Leaving.{there-kept, kept-there}
use Rattle.dom_observers.proofs.Once.{AreOnce, once-filter}
use Rattle.dom_observers.proofs.registrations.Registrations.close_up.Goals as goal

pub invariant_of-self : goal.invariant_of-self
invariant_of-self c =
    let items = c.self.inside.list.items in
    let p = goes c.args.removal.now in
    let kept = filter_same _ (λ (r : Registered). not r.has_gone && not (p (registration_of r))) _
    (λ x b q k. (search (rules, tests), search (rules, tests))) items c.retain.new.self.items c.retain.ensures.filtered in
    record {
      noted = c.forget.ensures c.retain.new.self.items;
      counted =
          let same = subst (λ (rs : List Registered). length (those_there rs) ≡ length rs) (sym kept) (kept-there p items) in
          omega (arith, same);
      once = subst AreOnce (sym (ap those_there kept ∙ there-kept p items)) (once-filter (λ t. not (p t)) (those_there items) c.self.invariant.once);
    }

pub returns : goal.returns
returns c =
    let items = c.self.inside.list.items in
    let p = goes c.args.removal.now in
    let kept = filter_same _ (λ (r : Registered). not r.has_gone && not (p (registration_of r))) _
    (λ x b q k. (search (rules, tests), search (rules, tests))) items c.retain.new.self.items c.retain.ensures.filtered in
    ap those_there kept ∙ (there-kept p items ∙ ap (filter (λ t. not (p t))) c.self.view_is)
