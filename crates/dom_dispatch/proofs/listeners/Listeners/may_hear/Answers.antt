use Rattle.dom_dispatch.proofs.Cited.{subst, sym, ◌∙◌, listeners_in, NoneHears, present}
use Rattle.dom_dispatch.proofs.Typed.{none-typed}
use Rattle.dom_dispatch.proofs.listeners.Listeners.may_hear.Goals as goal

pub returns : goal.returns
returns c = λ none.
    subst (NoneHears c.args.event.now c.args.capturing) c.self.view_is
    (none-typed c.self.inside.types (listeners_in (present c.self.inside.table.entries.items)) c.args.event.now c.args.capturing c.self.invariant.typed
    (sym c.contains.ensures ∙ none))
