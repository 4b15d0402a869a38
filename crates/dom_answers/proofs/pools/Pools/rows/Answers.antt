-- Each of the rows has what it has within the arrays.
use Rattle.dom_base.proofs.Std.{ap, subst, sym, ◌∙◌}
use Rattle.std.specs.List.{AllByRecursion}
use Rattle.std.proofs.lemmas.List.Elements.{All-from_recursion}
use Rattle.dom_answers.specs.Arrays.{Arrays, IsRow}
use Rattle.dom_answers.proofs.pools.Pools.rows.Goals as goal

pub returns-clause-within : goal.returns-clause-within
returns-clause-within c =
    let now = c.args.self.now in
    let all = subst (λ (a : Arrays). AllByRecursion (IsRow a) a.rows) c.self.view_is c.self.invariant.rows in
    All-from_recursion (IsRow now) _
    (subst (AllByRecursion (IsRow now)) (sym (c.as_slice.ensures.value ∙ ap (λ (a : Arrays). a.rows) c.self.view_is)) all)
