use Rattle.dom_mutation.proofs.ReadyTables.{range_end-ready}
use Rattle.dom_mutation.proofs.ReadyCalls.{end-set}
use Rattle.dom_mutation.proofs.Cited.{arith, Command, own, all_tables, name_in, ◌∙◌, state_from, with_live}
use Rattle.dom_mutation.proofs.RangedLists.{own_at_nodes}
use Rattle.dom_mutation.proofs.RangeCommands.{EndIsSet, end_is_set}
use Rattle.dom_mutation.proofs.doc.Doc.range_set_end.Goals as goal

pub set_end-requires-clause-ends : goal.set_end-requires-clause-ends
set_end-requires-clause-ends c = own_at_nodes c.parts.inside.trees.forest.names c.parts.inside.ranges c.parts.invariant.ranges.own c.args.owner

-- what the call leaves
sets : (c : goal.After-set_end) → EndIsSet c.parts.inside.trees.forest (all_tables c.parts.inside) c.args.self.now c.args.owner c.args.node c.args.offset
    c.set_end.new.self (Command.range_end c.args.number (own (name_in c.args.self.now c.args.node).number) c.args.offset) c.set_end.result
sets c =
    end_is_set c.parts.inside.trees.forest c.parts.invariant (c.parts.view_is ∙ c.self.view_is) c.args.owner c.args.number c.requires.there
    c.law_nodes_stand_once.ensures.once c.law_nodes_stand_once.ensures.only c.args.node c.args.offset c.requires.node_is_node c.requires.own
    (let fits = c.ranges.offset in omega arith) c.set_end.new.self c.set_end.result (record {
      set = c.set_end.ensures.set;
      same = c.set_end.ensures.err;
      refused = c.set_end.ensures.index_size;
      unknown = c.set_end.ensures.unknown;
      other = c.set_end.ensures.other;
    })

pub invariant_of-parts : goal.invariant_of-parts
invariant_of-parts c = (sets c).held

pub returns-clause-names : goal.returns-clause-names
returns-clause-names c = (sets c).says.names

pub returns-clause-world : goal.returns-clause-world
returns-clause-world c = (sets c).says.world

pub returns-clause-refused : goal.returns-clause-refused
returns-clause-refused c = (sets c).says.refused

pub returns-clause-other : goal.returns-clause-other
returns-clause-other c = (sets c).says.other

pub returns-clause-err : goal.returns-clause-err
returns-clause-err c = (sets c).says.err

pub invariant_of-self : goal.invariant_of-self
invariant_of-self c =
    end-set c.args.self.now (state_from c.parts.inside.trees.forest.names c.parts.inside.trees.forest.trees
    (with_live (all_tables c.parts.inside) c.set_end.new.self))
    (record { alone = c.laws.ensures.alone; parts = c.laws.ensures.parts; stand = c.laws.ensures.stand }) c.args.owner c.args.node c.args.offset
    c.requires.node_is_node c.requires.own c.laws.ensures.ready c.args.number Command.range_end range_end-ready (sets c).says
