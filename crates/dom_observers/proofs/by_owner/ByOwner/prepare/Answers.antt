use Rattle.dom_base.proofs.Std.{◌≡◌, None, Some, is_some, IsSome, refl, sym, ap, ◌∙◌, subst, cond}
use Rattle.dom_model.proofs.Model.{owner_eq-same}
use Rattle.dom_observers.specs.declared.by_owner.ByOwner.{ByOwner}
use Rattle.dom_observers.specs.Definitions.{table_at}
use Rattle.dom_observers.proofs.Lookups.{is-component, put, put-none}
use Rattle.dom_laws.proofs.Laws.{was_none, is_some-map}
use Rattle.dom_observers.proofs.by_owner.ByOwner.prepare.Goals as goal

pub returns : goal.returns
returns c =
    let q = c.args.self.now in
    let o = c.args.owner in
    let r : ByOwner = record q { components = c.insert.new.self } in
    let none : None ≡ table_at q o =
    sym (was_none (table_at q o) (ap is_some (sym c.get.ensures) ∙ (is_some-map (λ t. t.now) c.get.result ∙ (sym c.is_some.ensures ∙ c.if-is_some.false)))) in
    let at = put q r o c.new.result (is-component q o none).1 refl c.in_ok-insert.ensures.updates.0 in
    record {
      keeps = put-none q r o c.new.result none c.new.ensures at;
      there = subst IsSome (sym (at o ∙ ap (λ b. cond b (Some c.new.result) (table_at q o)) (owner_eq-same o))) refl;
      none = tt;
    }
