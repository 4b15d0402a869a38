-- The words of `dispatch` are read one after the other.
use Rattle.dom_base.proofs.Std.{Option, Some, None}
use Rattle.dom_model.specs.Command as model
use Rattle.dom_reader.specs.Views.{word_view, event_view}
use Rattle.dom_reader.proofs.Lasts.{made_at_end}
use Rattle.dom_reader.proofs.commands.events.dispatch.Goals.{then-flag+in_ok-next_node, else-flag}
use Rattle.dom_reader.proofs.commands.events.dispatch.Goals as goal

pub returns : goal.returns
returns c =
    let event = event_view (record { event = c.in_ok-label.field-0; bubbles = c.flag.result; cancelable = c.flag-2.result; composed = c.flag-3.result }) in
    let makes : Option model.NodeWord → model.Command = model.dispatch (word_view c.in_ok-target.target) event in
    rw (c.in_ok-target.ensures, c.in_ok-label.ensures, ← c.flag.ensures, ← c.flag-2.ensures, ← c.flag-3.ensures, ← c.flag-4.ensures)
    (elim c.if-flag.branch [
      | then-flag+in_ok-next_node w ↦
          rw (w.if-flag.true, w.in_ok-next_node.ensures, made_at_end makes (Some (word_view w.in_ok-next_node.field-0)) w.next_node-then-flag.new.words)
          (rw (w.words-is, w.related-is) at c.put_ended.ensures)
      | else-flag w ↦ rw (w.if-flag.false, made_at_end makes None c.flag-4.new.self) (rw (w.words-is, w.related-is) at c.put_ended.ensures)
    ])
