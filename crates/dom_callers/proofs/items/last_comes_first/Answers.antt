use Rattle.std.proofs.Common.{ℕ, ◌∷◌, sym, ap, subst, ◌∙◌}
use Rattle.std.proofs.lemmas.Option.{same_Some}
use Rattle.dom_model.specs.Tree.{children_of}
use Rattle.dom_laws.specs.Siblings.{without_name}
use Rattle.dom_tree.specs.Definitions.{name_at}
use Rattle.dom_callers.specs.Items.{HasTurned}
use Rattle.dom_callers.proofs.items.last_comes_first.Goals as goal

pub returns-clause-turned : goal.returns-clause-turned
returns-clause-turned c = λ k e.
    let f = c.args.forest.now in
    let mid = c.unlink.new.self in
    let new = c.link_before.new.self in
    let list = name_at f.names c.args.list in
    let item = c.in_ok-item.item in
    let x = name_at f.names item in
    let names = c.unlink.ensures.names in
    let at_list = ap (λ ns. name_at ns c.args.list) names in
    let left = children_of mid.trees (name_at mid.names c.args.list) in
    let others = ap (children_of mid.trees) at_list ∙ c.unlink.ensures.children c.args.list c.requires in
    let now = ap (children_of new.trees) (sym at_list) ∙ c.link_before.ensures.comes_first c.first-first.ensures.value
    ∙ ap (λ ns. name_at ns item ∷ left) names ∙ ap (λ xs. x ∷ xs) others in
    subst (λ (j : ℕ). HasTurned (name_at f.names j) (children_of f.trees list) (children_of new.trees list)) (same_Some item k e)
    (without_name x (children_of f.trees list), sym (c.law_children.ensures.last list x (sym c.in_ok-item.ensures.value)), now)
