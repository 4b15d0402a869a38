use Rattle.dom_base.proofs.Std.{◌∙◌, ap₂, sym, list_any}
use Rattle.dom_model.specs.Names.{name_eq}
use Rattle.dom_model.specs.Listeners.{is_listener}
use Rattle.dom_reader.specs.Views.{listener_view}
use Rattle.dom_callbacks.specs.States.{live_listener}
use Rattle.dom_callbacks.proofs.Texts.{any-map}
use Rattle.dom_callbacks.proofs.words.is_live_listener.Goals as goal

pub returns : goal.returns
returns c =
    let x = c.args.node.now in
    let w = listener_view c.args.words.now in
    c.has_listener.ensures
    ∙ ap₂ (λ e l. list_any (λ m. is_listener name_eq x e l w.capture (live_listener m)) c.args.listeners.now)
    c.as_bytes-event.ensures.value c.as_bytes-label.ensures.value
    ∙ sym (any-map (is_listener name_eq x w.event w.label w.capture) live_listener c.args.listeners.now)
