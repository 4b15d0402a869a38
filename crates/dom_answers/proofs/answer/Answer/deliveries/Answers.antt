-- Each item before the last has its parts within the arrays.
use Rattle.dom_base.proofs.Std.{ap, subst, sym, ◌∙◌}
use Rattle.std.specs.List.{AllByRecursion}
use Rattle.std.proofs.lemmas.List.Elements.{All-from_recursion}
use Rattle.dom_answers.specs.Arrays.{IsItem}
use Rattle.dom_answers.specs.Told.{Contents}
use Rattle.dom_answers.proofs.Parts.{all-take}
use Rattle.dom_answers.proofs.answer.Answer.deliveries.Goals as goal

pub returns-clause-within : goal.returns-clause-within
returns-clause-within c =
    let now = c.args.self.now in
    let all = subst (λ (a : Contents). AllByRecursion (IsItem a.arrays) a.items) c.self.view_is c.self.invariant.items in
    let there = subst (AllByRecursion (IsItem now.arrays)) (sym (c.deref.ensures.value ∙ ap (λ (a : Contents). a.items) c.self.view_is)) all in
    All-from_recursion (IsItem now.arrays) _ (all-take (IsItem now.arrays) c.saturating_sub.result _ there)
