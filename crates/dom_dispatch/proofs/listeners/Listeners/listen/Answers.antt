use Rattle.dom_dispatch.proofs.Cited.{ap, sym, ◌∙◌, ListenerWords, listeners_in, present, is_noted}
use Rattle.dom_dispatch.proofs.Typed.{more-typed, pushed-typed}
use Rattle.dom_dispatch.proofs.listeners.Listeners.listen.Goals as goal

pub invariant_of-self : goal.invariant_of-self
invariant_of-self c = record {
  indexed = c.self.invariant.indexed;
  typed = more-typed c.self.inside.types c.note.new.self c.note.ensures.kept (listeners_in (present c.self.inside.table.entries.items))
      c.self.invariant.typed;
}

pub invariant_of-self-in_err-words : goal.invariant_of-self-in_err-words
invariant_of-self-in_err-words c = record {
  indexed = c.self.invariant.indexed;
  typed = more-typed c.self.inside.types c.note.new.self c.note.ensures.kept (listeners_in (present c.self.inside.table.entries.items))
      c.self.invariant.typed;
}

pub invariant_of-self-2 : goal.invariant_of-self-2
invariant_of-self-2 c = record {
  indexed = c.push.ensures.indexed;
  typed = pushed-typed c.note.new.self (present c.self.inside.table.entries.items) (present c.push.new.self.entries.items)
      record { node = c.args.node; words = c.in_ok-words.words } c.push.result c.push.ensures.ok c.push.ensures.err
      (more-typed c.self.inside.types c.note.new.self c.in_ok-note.ensures.kept (listeners_in (present c.self.inside.table.entries.items))
      c.self.invariant.typed)
      (ap (λ (w : ListenerWords). is_noted c.note.new.self w.capture w.event) c.in_ok-words.ensures
      ∙ ap (is_noted c.note.new.self c.args.words.capture) (sym c.as_str.ensures.value) ∙ c.in_ok-note.ensures.noted);
}
