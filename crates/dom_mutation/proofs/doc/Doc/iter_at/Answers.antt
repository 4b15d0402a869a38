use Rattle.dom_mutation.proofs.Cited.{ℕ, ◌<◌, Bool, [], length, sym, ap, subst, ◌∙◌, Command, reference, Effect, name_at, all_tables}
use Rattle.dom_mutation.proofs.Cursors.{with_own, at_effect}
use Rattle.dom_mutation.proofs.CursorCommands.{there_iter, iter_there, the_iterator, reads, name_known}
use Rattle.dom_mutation.proofs.doc.Doc.iter_at.Goals as goal

pub iter_at-requires : goal.iter_at-requires
iter_at-requires c =
    let f = c.parts.inside.trees.forest in
    iter_there f c.parts.invariant (c.parts.view_is ∙ c.self.view_is) c.args.owner c.args.number c.requires

pub returns-clause-node : goal.returns-clause-node
returns-clause-node c =
    let f = c.parts.inside.trees.forest in
    let item = the_iterator f c.parts.invariant (c.parts.view_is ∙ c.self.view_is) c.args.owner c.args.number c.requires in
    let h = (c.parts.invariant.own c.args.owner).iterators
    c.args.number item.0 item.1 in
    name_known f c.parts.invariant (c.parts.view_is ∙ c.self.view_is) c.args.owner c.iter_at.result.0
    (subst (λ j. j < length f.names) (sym (ap (λ (p : ℕ × Bool). p.0) (c.iter_at.ensures item.0 item.1))) h.stands.reference.node)

pub returns-clause-value : goal.returns-clause-value
returns-clause-value c =
    let f = c.parts.inside.trees.forest in
    let there = there_iter f c.parts.invariant (c.parts.view_is ∙ c.self.view_is) c.args.owner c.args.number c.requires in
    let item = the_iterator f c.parts.invariant (c.parts.view_is ∙ c.self.view_is) c.args.owner c.args.number c.requires in
    reads f c.parts.invariant (c.parts.view_is ∙ c.self.view_is) c.args.owner there
    (λ ns. Command.iterator_at c.args.number) (λ ns. reference (name_at ns c.iter_at.result.0) c.iter_at.result.1)
    (at_effect f.names f.trees (all_tables c.parts.inside) c.parts.invariant c.args.owner there c.args.number
    item.0 item.1
    ∙ ap (λ (p : ℕ × Bool). Effect.tables
    (with_own f.names f.trees (all_tables c.parts.inside) c.parts.invariant c.args.owner there ((all_tables c.parts.inside).each c.args.owner)) []
    (reference (name_at f.names p.0) p.1)) (sym (c.iter_at.ensures item.0 item.1)))
