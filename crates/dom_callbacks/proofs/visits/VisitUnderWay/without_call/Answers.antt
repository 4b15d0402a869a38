use Rattle.dom_base.proofs.Std.{◌≡◌, ◌∙◌, ap, sym, not, true, map, rules, tests, filter_same}
use Rattle.dom_model.specs.Names.{name_eq}
use Rattle.dom_reader.specs.Views.{listener_view}
use Rattle.dom_callbacks.specs.Views.{is_of_words, listener_at, visiting_view}
use Rattle.dom_callbacks.proofs.Removing.{removed-at, visit-without}
use Rattle.dom_callbacks.proofs.visits.VisitUnderWay.without_call.Goals as goal

pub returns-then-is_same_node : goal.returns-then-is_same_node
returns-then-is_same_node c =
    let v = c.args.self.now in
    let x = c.args.node.now in
    let e = c.args.event.now in
    let l = c.args.label.now in
    let one : name_eq v.visit.current x ≡ true = sym c.is_same_node.ensures ∙ c.if-is_same_node.true in
    visit-without (visiting_view v) x e l c.args.capture _ one
    (ap (map (λ w. listener_at v.visit.current w.value)) (filter_same _ (λ w. not (is_of_words e l c.args.capture (listener_view w.value))) _
    (λ w q b k. (search (rules, tests), search (rules, tests))) v.calls.items c.retain.new.self.items c.retain.ensures.filtered)
    ∙ removed-at (λ w. listener_view w.value) v.visit.current x e l c.args.capture one v.calls.items)
