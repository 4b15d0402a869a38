use Rattle.dom_mutation.proofs.Beside.{ready-beside}
use Rattle.dom_mutation.proofs.Cited.{Command, cursors_of, all_tables, ◌∙◌, refl}
use Rattle.dom_mutation.proofs.CursorCommands.{walk_there, walks_of, the_walker, Moves, walk_moves}
use Rattle.dom_mutation.proofs.doc.Doc.walk.Goals as goal

pub walk-requires-clause-there : goal.walk-requires-clause-there
walk-requires-clause-there c =
    walk_there c.parts.inside.trees.forest c.parts.invariant (c.parts.view_is ∙ (c.remember_root.ensures ∙ c.self.view_is)) c.args.owner c.args.number
    c.requires

pub walk-requires-clause-walkers : goal.walk-requires-clause-walkers
walk-requires-clause-walkers c =
    walks_of c.parts.inside.trees.forest c.parts.invariant (c.parts.view_is ∙ (c.remember_root.ensures ∙ c.self.view_is)) c.args.owner

-- what the move leaves
moves : (c : goal.After-walk) → Moves c.parts.inside.trees.forest (all_tables c.parts.inside) c.args.self.now c.args.owner (cursors_of c.walk.new.self)
    (Command.walk c.args.number c.args.step) c.walk.result
moves c =
    let item = the_walker c.parts.inside.trees.forest c.parts.invariant (c.parts.view_is ∙ (c.remember_root.ensures ∙ c.self.view_is)) c.args.owner
    c.args.number c.requires in
    walk_moves c.parts.inside.trees.forest c.parts.invariant (c.parts.view_is ∙ (c.remember_root.ensures ∙ c.self.view_is)) c.args.owner c.args.number
    (cursors_of c.walk.new.self)
    c.requires c.args.step
    (c.walk.ensures.state item.0 item.1) (c.walk.ensures.kept item.0 item.1) (c.walk.ensures.value item.0 item.1)

pub invariant_of-parts : goal.invariant_of-parts
invariant_of-parts c = (moves c).held

pub returns-clause-names : goal.returns-clause-names
returns-clause-names c = (moves c).names

pub returns-clause-node : goal.returns-clause-node
returns-clause-node c = (moves c).node

pub returns-clause-world : goal.returns-clause-world
returns-clause-world c = (moves c).world

pub invariant_of-self : goal.invariant_of-self
invariant_of-self c =
    ready-beside c.parts.inside.trees.forest (all_tables c.parts.inside) (c.parts.view_is ∙ c.remember_root.ensures) c.self.invariant
    (record (all_tables c.parts.inside) { each = cursors_of c.walk.new.self }) refl refl
