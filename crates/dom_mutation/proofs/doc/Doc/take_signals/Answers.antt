use Rattle.dom_mutation.proofs.Beside.{ready-beside}
use Rattle.dom_mutation.proofs.Cited.{◌∙◌, refl, all_tables}
use Rattle.dom_mutation.proofs.Taking.{taken_names, taken_nodes, rest_held, rest_state}
use Rattle.dom_mutation.proofs.doc.Doc.take_signals.Goals as goal

pub own_slots-requires : goal.own_slots-requires
own_slots-requires c = c.parts.invariant.signals.nodes

pub invariant_of-parts : goal.invariant_of-parts
invariant_of-parts c =
    rest_held c.parts.inside.trees.forest c.parts.invariant (c.parts.view_is ∙ c.self.view_is) c.args.owner c.forget.new.self c.forget.ensures

pub returns-clause-keys : goal.returns-clause-keys
returns-clause-keys c =
    taken_names c.parts.inside.trees.forest c.parts.invariant (c.parts.view_is ∙ c.self.view_is) c.args.owner c.in_ok-own.own.items c.in_ok-own.ensures.names

pub returns-clause-nodes : goal.returns-clause-nodes
returns-clause-nodes c =
    taken_nodes c.parts.inside.trees.forest c.parts.invariant (c.parts.view_is ∙ c.self.view_is) c.args.owner c.in_ok-own.own.items c.in_ok-own.ensures.nodes

pub returns-clause-rest : goal.returns-clause-rest
returns-clause-rest c =
    rest_state c.parts.inside.trees.forest c.parts.invariant (c.parts.view_is ∙ c.self.view_is) c.args.owner c.forget.new.self c.forget.ensures

pub invariant_of-self-2 : goal.invariant_of-self-2
invariant_of-self-2 c =
    ready-beside c.parts.inside.trees.forest (all_tables c.parts.inside) c.parts.view_is c.self.invariant
    (record (all_tables c.parts.inside) { signalled = c.forget.new.self }) refl refl
