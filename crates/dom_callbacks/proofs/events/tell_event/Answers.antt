use Rattle.dom_base.proofs.Std.{◌∙◌, ap}
use Rattle.std.proofs.lemmas.Result.{on_ok_weaker}
use Rattle.dom_reader.specs.Views.{listener_view}
use Rattle.dom_callbacks.specs.Views.{visit_view}
use Rattle.dom_callbacks.proofs.Telling.{told-with}
use Rattle.dom_callbacks.proofs.events.tell_event.Goals as goal

pub returns : goal.returns
returns g c =
    let v = c.args.visit.now in
    on_ok_weaker c.event.result
    (λ told. told-with g.A.Answers.adds g.A.Answers.shows g.met.A.Answers.more v.current.owner (visit_view v) (listener_view c.args.words.now)
    c.as_bytes.result.now c.as_bytes-2.result.now c.as_slice.result.now c.place_path.new.text.items c.as_slice-2.result.now
    c.args.answer.now c.place_path.new.self c.event.new.self
    c.as_bytes.ensures.value c.as_bytes-2.ensures.value (c.as_slice.ensures.value ∙ ap (λ p. p.items) c.deref.ensures) c.as_slice-2.ensures.value
    c.place_path.ensures.same c.in_ok-place_path.ensures.shown told)
    c.event.ensures.ok
