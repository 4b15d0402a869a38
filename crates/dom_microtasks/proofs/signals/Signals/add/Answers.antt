use Rattle.dom_base.proofs.Std.{sym, ap, ◌∙◌}
use Rattle.dom_model.proofs.Model.{name_eq, is_in, append_once, node_of}
use Rattle.dom_microtasks.proofs.Keeping.{is_among, stays}
use Rattle.dom_microtasks.proofs.signals.Signals.add.Goals as goal

pub returns-then-has-clause-ok : goal.returns-then-has-clause-ok
returns-then-has-clause-ok c =
    let slot = node_of c.args.owner.now c.args.number in
    sym c.self.view_is ∙ (stays c.self.inside c.self.invariant slot (sym c.has.ensures ∙ c.if-has.true)
    ∙ ap (λ xs. append_once name_eq xs slot) c.self.view_is)

pub add_new-requires : goal.add_new-requires
add_new-requires c =
    let slot = node_of c.args.owner.now c.args.number in
    ap (is_in name_eq slot) (sym c.self.view_is)
    ∙ (is_among c.self.inside c.self.invariant slot ∙ (sym c.has.ensures ∙ c.if-has.false))
