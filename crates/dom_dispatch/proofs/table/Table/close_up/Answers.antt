use Rattle.dom_dispatch.proofs.Cited.{ap, subst, sym, ◌∙◌, rules, tests, is_some, filter_same, present, IsIndexed}
use Rattle.dom_dispatch.proofs.Taking.{closed-present}
use Rattle.dom_dispatch.proofs.table.Table.close_up.Goals as goal

pub returns-clause-indexed : goal.returns-clause-indexed
returns-clause-indexed c =
    let es = c.args.self.now.entries.items in
    let kept = filter_same _ is_some _ (λ x b q k. (search (rules, tests), search (rules, tests))) es c.retain.new.self.items c.retain.ensures.filtered in
    subst (IsIndexed c.in_ok-places.places) (sym kept) c.in_ok-places.ensures

pub returns-clause-present : goal.returns-clause-present
returns-clause-present c =
    let es = c.args.self.now.entries.items in
    let kept = filter_same _ is_some _ (λ x b q k. (search (rules, tests), search (rules, tests))) es c.retain.new.self.items c.retain.ensures.filtered in
    ap present kept ∙ closed-present es
