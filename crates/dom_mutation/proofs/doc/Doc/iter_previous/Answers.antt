use Rattle.dom_mutation.proofs.Beside.{ready-beside}
use Rattle.dom_mutation.proofs.Cited.{true, Command, cursors_of, all_tables, ◌∙◌, refl}
use Rattle.dom_mutation.proofs.Cursors.{previous_effect}
use Rattle.dom_mutation.proofs.CursorCommands.{there_iter, iter_there, iters_of, the_iterator, Moves, iter_moves}
use Rattle.dom_mutation.proofs.doc.Doc.iter_previous.Goals as goal

pub iter_previous-requires-clause-there : goal.iter_previous-requires-clause-there
iter_previous-requires-clause-there c =
    iter_there c.parts.inside.trees.forest c.parts.invariant (c.parts.view_is ∙ c.self.view_is) c.args.owner c.args.number c.requires

pub iter_previous-requires-clause-iterators : goal.iter_previous-requires-clause-iterators
iter_previous-requires-clause-iterators c = iters_of c.parts.inside.trees.forest c.parts.invariant (c.parts.view_is ∙ c.self.view_is) c.args.owner

-- what the move leaves
moves : (c : goal.After-iter_previous) → Moves c.parts.inside.trees.forest (all_tables c.parts.inside) c.args.self.now c.args.owner
    (cursors_of c.iter_previous.new.self) (Command.iterator_previous c.args.number) c.iter_previous.result
moves c =
    let f = c.parts.inside.trees.forest in
    let item = the_iterator c.parts.inside.trees.forest c.parts.invariant (c.parts.view_is ∙ c.self.view_is) c.args.owner c.args.number c.requires in
    let there = there_iter c.parts.inside.trees.forest c.parts.invariant (c.parts.view_is ∙ c.self.view_is) c.args.owner c.args.number c.requires in
    iter_moves c.parts.inside.trees.forest c.parts.invariant (c.parts.view_is ∙ c.self.view_is) c.args.owner c.args.number
    (cursors_of c.iter_previous.new.self) c.requires true
    (Command.iterator_previous c.args.number) (c.iter_previous.ensures.state item.0 item.1) (c.iter_previous.ensures.kept item.0 item.1)
    (previous_effect f.names f.trees (all_tables c.parts.inside) c.parts.invariant c.args.owner there
    c.args.number item.0 c.iter_previous.result item.1 (c.iter_previous.ensures.value item.0 item.1))

pub invariant_of-parts : goal.invariant_of-parts
invariant_of-parts c = (moves c).held

pub returns-clause-names : goal.returns-clause-names
returns-clause-names c = (moves c).names

pub returns-clause-node : goal.returns-clause-node
returns-clause-node c = (moves c).node

pub returns-clause-world : goal.returns-clause-world
returns-clause-world c = (moves c).world

pub invariant_of-self : goal.invariant_of-self
invariant_of-self c =
    ready-beside c.parts.inside.trees.forest (all_tables c.parts.inside) c.parts.view_is c.self.invariant
    (record (all_tables c.parts.inside) { each = cursors_of c.iter_previous.new.self }) refl refl
