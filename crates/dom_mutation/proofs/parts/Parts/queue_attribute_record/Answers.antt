use Rattle.dom_model.specs.Output.{attributes}
use Rattle.dom_model.specs.Tree.{attribute_value, node_in}
use Rattle.dom_mutation.specs.Doc.{name_in, trees_in}
use Rattle.dom_mutation.proofs.parts.Parts.queue_attribute_record.Goals as goal

pub returns-then-not-watched : goal.returns-then-not-watched
returns-then-not-watched c =
    let d = c.args.self.now in
    c.watch-watched.ensures c.if-not-watched.true
    (attributes (name_in d c.args.node) c.args.name.now (attribute_value (node_in (trees_in d c.args.node) (name_in d c.args.node)) c.args.name.now))
