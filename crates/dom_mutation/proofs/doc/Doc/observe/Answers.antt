use Rattle.dom_mutation.proofs.Beside.{ready-beside}
use Rattle.dom_mutation.proofs.Cited.{◌≡◌, ◌<◌, length, tables_of, words_of, owner_in, ◌∙◌, refl, all_tables}
use Rattle.dom_mutation.proofs.Shown.{known}
use Rattle.dom_mutation.proofs.Observing.{same_if, refused_known, faults_known, observed_held, observed_world}
use Rattle.dom_mutation.proofs.doc.Doc.observe.Goals as goal

pub invariant_of-parts : goal.invariant_of-parts
invariant_of-parts c =
    observed_held c.parts.inside.trees.forest c.parts.invariant (c.parts.view_is ∙ c.self.view_is) c.args.owner c.args.number c.requires.there
    (tables_of c.observe.new.self)
    c.args.node c.requires.node_is_node c.requires.own (words_of c.args.options) c.observe.result c.observe.ensures.err c.observe.ensures.tables

pub observe-requires-clause-node_is_node : goal.observe-requires-clause-node_is_node
observe-requires-clause-node_is_node c =
    known c.parts.inside.trees.forest c.parts.invariant (c.parts.view_is ∙ c.self.view_is) (λ e. c.args.node < length e.names) c.requires.node_is_node

pub observe-requires-clause-own : goal.observe-requires-clause-own
observe-requires-clause-own c =
    known c.parts.inside.trees.forest c.parts.invariant (c.parts.view_is ∙ c.self.view_is) (λ e. owner_in e c.args.node ≡ c.args.owner) c.requires.own

pub returns-clause-world : goal.returns-clause-world
returns-clause-world c =
    observed_world c.parts.inside.trees.forest c.parts.invariant (c.parts.view_is ∙ c.self.view_is) c.args.owner c.args.number c.requires.there
    (tables_of c.observe.new.self)
    c.args.node c.requires.node_is_node c.requires.own (words_of c.args.options) c.law_nodes_stand_once.ensures.distinct c.observe.result
    c.observe.ensures.tables

pub returns-clause-no_kind : goal.returns-clause-no_kind
returns-clause-no_kind c =
    refused_known c.parts.inside.trees.forest c.parts.invariant (c.parts.view_is ∙ c.self.view_is) c.args.owner c.args.number c.requires.there
    (tables_of c.observe.new.self)
    c.observe.result c.observe.ensures.no_kind

pub returns-clause-other : goal.returns-clause-other
returns-clause-other c =
    faults_known c.parts.inside.trees.forest c.parts.invariant (c.parts.view_is ∙ c.self.view_is) c.args.owner c.args.number c.requires.there
    (tables_of c.observe.new.self)
    c.observe.result c.observe.ensures.unknown c.observe.ensures.other

pub returns-clause-err : goal.returns-clause-err
returns-clause-err c =
    same_if c.parts.inside.trees.forest c.parts.invariant (c.parts.view_is ∙ c.self.view_is) c.args.owner (tables_of c.observe.new.self) c.observe.result
    c.observe.ensures.err

pub invariant_of-self : goal.invariant_of-self
invariant_of-self c =
    ready-beside c.parts.inside.trees.forest (all_tables c.parts.inside) c.parts.view_is c.self.invariant
    (record (all_tables c.parts.inside) { observers = tables_of c.observe.new.self }) refl refl
