use Rattle.dom_base.proofs.Std.{◌∙◌, ap, sym, not, map, rules, tests, filter_same}
use Rattle.dom_model.specs.Names.{name_eq}
use Rattle.dom_model.specs.Listeners.{is_listener}
use Rattle.dom_worlds.proofs.ListLemmas.{filter-map}
use Rattle.dom_callbacks.specs.States.{live_listener}
use Rattle.dom_callbacks.proofs.words.remove_live_listener.Goals as goal

pub returns : goal.returns
returns c =
    let x = c.args.node.now in
    let e = c.args.event.now in
    let l = c.args.label.now in
    ap (map live_listener) (filter_same _ (λ w. not (is_listener name_eq x e l c.args.capture (live_listener w))) _
    (λ w q b k. (search (rules, tests), search (rules, tests))) c.args.listeners.now.items c.retain.new.self.items c.retain.ensures.filtered)
    ∙ sym (filter-map (λ m. not (is_listener name_eq x e l c.args.capture m)) live_listener c.args.listeners.now.items)
