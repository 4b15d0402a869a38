use Rattle.dom_mutation.proofs.Beside.{ready-beside}
use Rattle.dom_mutation.proofs.Cited.{cursors_of, filter_of, ◌∙◌, refl, all_tables}
use Rattle.dom_mutation.proofs.CursorCommands.{iter_made, iter_made_writes, iter_limit, none_made}
use Rattle.dom_mutation.proofs.doc.Doc.iter_make.Goals as goal

pub add_iter-requires : goal.add_iter-requires
add_iter-requires c = (c.parts.invariant.own c.args.owner).few_iterators

pub invariant_of-parts : goal.invariant_of-parts
invariant_of-parts c =
    iter_made c.parts.inside.trees.forest c.parts.invariant (c.parts.view_is ∙ c.self.view_is) c.args.owner c.args.root (filter_of c.args.filter)
    c.requires.root_is_node c.requires.own c.law_nodes_stand_once.ensures.once (cursors_of c.add_iter.new.self) c.add_iter.ensures.added
    c.add_iter.ensures.limit
    c.add_iter.ensures.err

pub returns-clause-world : goal.returns-clause-world
returns-clause-world c =
    iter_made_writes c.parts.inside.trees.forest c.parts.invariant (c.parts.view_is ∙ c.self.view_is) c.args.owner c.args.root (filter_of c.args.filter)
    c.requires.root_is_node c.requires.own (cursors_of c.add_iter.new.self) c.add_iter.result c.add_iter.ensures.added c.add_iter.ensures.number

pub returns-clause-limit : goal.returns-clause-limit
returns-clause-limit c = iter_limit c.parts.inside.trees.forest c.parts.invariant (c.parts.view_is ∙ c.self.view_is) c.args.owner c.add_iter.ensures.limit

pub returns-clause-err : goal.returns-clause-err
returns-clause-err c =
    none_made c.parts.inside.trees.forest c.parts.invariant (c.parts.view_is ∙ c.self.view_is) c.args.owner (cursors_of c.add_iter.new.self) c.add_iter.result
    c.add_iter.ensures.err

pub invariant_of-self : goal.invariant_of-self
invariant_of-self c =
    ready-beside c.parts.inside.trees.forest (all_tables c.parts.inside) c.parts.view_is c.self.invariant
    (record (all_tables c.parts.inside) { each = cursors_of c.add_iter.new.self }) refl refl
