use Rattle.dom_mutation.proofs.Cited.{◌<◌, [], length, sym, ap, subst, ◌∙◌, Command, a_node, Effect, name_at, all_tables}
use Rattle.dom_mutation.proofs.Cursors.{with_own, walk_at_effect}
use Rattle.dom_mutation.proofs.CursorCommands.{there_walk, walk_there, the_walker, reads, name_known}
use Rattle.dom_mutation.proofs.doc.Doc.walk_at.Goals as goal

pub walker_at-requires : goal.walker_at-requires
walker_at-requires c =
    let f = c.parts.inside.trees.forest in
    walk_there f c.parts.invariant (c.parts.view_is ∙ c.self.view_is) c.args.owner c.args.number c.requires

pub returns-clause-node : goal.returns-clause-node
returns-clause-node c =
    let f = c.parts.inside.trees.forest in
    let item = the_walker f c.parts.invariant (c.parts.view_is ∙ c.self.view_is) c.args.owner c.args.number c.requires in
    let h = (c.parts.invariant.own c.args.owner).walkers
    c.args.number item.0 item.1 in
    name_known f c.parts.invariant (c.parts.view_is ∙ c.self.view_is) c.args.owner c.walker_at.result
    (subst (λ j. j < length f.names) (sym (c.walker_at.ensures item.0 item.1)) h.stands.current)

pub returns-clause-value : goal.returns-clause-value
returns-clause-value c =
    let f = c.parts.inside.trees.forest in
    let there = there_walk f c.parts.invariant (c.parts.view_is ∙ c.self.view_is) c.args.owner c.args.number c.requires in
    let item = the_walker f c.parts.invariant (c.parts.view_is ∙ c.self.view_is) c.args.owner c.args.number c.requires in
    reads f c.parts.invariant (c.parts.view_is ∙ c.self.view_is) c.args.owner there
    (λ ns. Command.walker_at c.args.number) (λ ns. a_node (name_at ns c.walker_at.result))
    (walk_at_effect f.names f.trees (all_tables c.parts.inside) c.parts.invariant c.args.owner there c.args.number
    item.0 item.1
    ∙ ap (λ j. Effect.tables
    (with_own f.names f.trees (all_tables c.parts.inside) c.parts.invariant c.args.owner there ((all_tables c.parts.inside).each c.args.owner)) []
    (a_node (name_at f.names j))) (sym (c.walker_at.ensures item.0 item.1)))
