use Rattle.dom_mutation.proofs.Beside.{ready-beside}
use Rattle.dom_mutation.proofs.Cited.{false, Command, cursors_of, all_tables, ◌∙◌, refl}
use Rattle.dom_mutation.proofs.Cursors.{next_effect}
use Rattle.dom_mutation.proofs.CursorCommands.{there_iter, iter_there, iters_of, the_iterator, Moves, iter_moves}
use Rattle.dom_mutation.proofs.doc.Doc.iter_next.Goals as goal

pub iter_next-requires-clause-there : goal.iter_next-requires-clause-there
iter_next-requires-clause-there c =
    iter_there c.parts.inside.trees.forest c.parts.invariant (c.parts.view_is ∙ c.self.view_is) c.args.owner c.args.number c.requires

pub iter_next-requires-clause-iterators : goal.iter_next-requires-clause-iterators
iter_next-requires-clause-iterators c = iters_of c.parts.inside.trees.forest c.parts.invariant (c.parts.view_is ∙ c.self.view_is) c.args.owner

-- what the move leaves
moves : (c : goal.After-iter_next) → Moves c.parts.inside.trees.forest (all_tables c.parts.inside) c.args.self.now c.args.owner
    (cursors_of c.iter_next.new.self) (Command.iterator_next c.args.number) c.iter_next.result
moves c =
    let f = c.parts.inside.trees.forest in
    let item = the_iterator c.parts.inside.trees.forest c.parts.invariant (c.parts.view_is ∙ c.self.view_is) c.args.owner c.args.number c.requires in
    let there = there_iter c.parts.inside.trees.forest c.parts.invariant (c.parts.view_is ∙ c.self.view_is) c.args.owner c.args.number c.requires in
    iter_moves c.parts.inside.trees.forest c.parts.invariant (c.parts.view_is ∙ c.self.view_is) c.args.owner c.args.number (cursors_of c.iter_next.new.self)
    c.requires false
    (Command.iterator_next c.args.number) (c.iter_next.ensures.state item.0 item.1) (c.iter_next.ensures.kept item.0 item.1)
    (next_effect f.names f.trees (all_tables c.parts.inside) c.parts.invariant c.args.owner there
    c.args.number item.0 c.iter_next.result item.1 (c.iter_next.ensures.value item.0 item.1))

pub invariant_of-parts : goal.invariant_of-parts
invariant_of-parts c = (moves c).held

pub returns-clause-names : goal.returns-clause-names
returns-clause-names c = (moves c).names

pub returns-clause-node : goal.returns-clause-node
returns-clause-node c = (moves c).node

pub returns-clause-world : goal.returns-clause-world
returns-clause-world c = (moves c).world

pub invariant_of-self : goal.invariant_of-self
invariant_of-self c =
    ready-beside c.parts.inside.trees.forest (all_tables c.parts.inside) c.parts.view_is c.self.invariant
    (record (all_tables c.parts.inside) { each = cursors_of c.iter_next.new.self }) refl refl
