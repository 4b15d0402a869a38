-- Each of the attributes has what it has within the arrays.
use Rattle.dom_base.proofs.Std.{ap, subst, sym, ◌∙◌}
use Rattle.std.specs.List.{AllByRecursion}
use Rattle.std.proofs.lemmas.List.Elements.{All-from_recursion}
use Rattle.dom_answers.specs.Arrays.{Arrays, IsAttribute}
use Rattle.dom_answers.proofs.pools.Pools.attributes.Goals as goal

pub returns-clause-within : goal.returns-clause-within
returns-clause-within c =
    let now = c.args.self.now in
    let all = subst (λ (a : Arrays). AllByRecursion (IsAttribute a) a.attributes) c.self.view_is c.self.invariant.attributes in
    All-from_recursion (IsAttribute now) _
    (subst (AllByRecursion (IsAttribute now)) (sym (c.as_slice.ensures.value ∙ ap (λ (a : Arrays). a.attributes) c.self.view_is)) all)
