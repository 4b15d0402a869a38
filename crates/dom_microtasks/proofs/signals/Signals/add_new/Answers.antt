use Rattle.dom_base.proofs.Std.{◌≡◌, ◌+◌, ◌++◌, ◌∷◌, [], refl, sym, ap, ◌∙◌, arith, common_steps}
use Rattle.dom_model.proofs.Model.{name_eq, is_in, append_once}
use Rattle.dom_microtasks.proofs.Keeping.{is_among, few, added, added_kept}
use Rattle.dom_microtasks.proofs.signals.Signals.add_new.Goals as goal

pub push-requires : goal.push-requires
push-requires c =
    sym (is_among c.self.inside c.self.invariant c.args.slot) ∙ (ap (is_in name_eq c.args.slot) c.self.view_is ∙ c.requires)

pub overflow_add-self : goal.overflow_add-self
overflow_add-self c =
    let few = few c.self.inside c.self.invariant in
    let log : c.push-2.new.self.items ≡ c.self.inside.log.items ++ c.args.slot ∷ [] = grind (arith, common_steps) in
    omega (arith, few)

pub invariant_of-self-2 : goal.invariant_of-self-2
invariant_of-self-2 c =
    let log : c.push-2.new.self.items ≡ c.self.inside.log.items ++ c.args.slot ∷ [] = grind (arith, common_steps) in
    let absent = sym (is_among c.self.inside c.self.invariant c.args.slot) ∙ (ap (is_in name_eq c.args.slot) c.self.view_is ∙ c.requires) in
    added_kept c.self.inside c.self.invariant _ c.args.slot absent c.in_ok-push.ensures.numbers c.push.ensures.since log refl

pub returns-clause-ok : goal.returns-clause-ok
returns-clause-ok c =
    let log : c.push-2.new.self.items ≡ c.self.inside.log.items ++ c.args.slot ∷ [] = grind (arith, common_steps) in
    let absent = sym (is_among c.self.inside c.self.invariant c.args.slot) ∙ (ap (is_in name_eq c.args.slot) c.self.view_is ∙ c.requires) in
    added c.self.inside c.self.invariant
    record { log = c.push-2.new.self; own = c.push.new.self; count = c.self.inside.count + 1; alloc = c.self.inside.alloc }
    c.args.slot absent c.in_ok-push.ensures.numbers c.push.ensures.since log refl
    ∙ ap (λ xs. append_once name_eq xs c.args.slot) c.self.view_is
