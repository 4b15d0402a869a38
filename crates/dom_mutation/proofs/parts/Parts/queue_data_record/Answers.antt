use Rattle.std.specs.Prelude.{Some}
use Rattle.dom_model.specs.Output.{character_data}
use Rattle.dom_model.specs.Tree.{node_in}
use Rattle.dom_mutation.specs.Doc.{name_in, trees_in}
use Rattle.dom_mutation.proofs.parts.Parts.queue_data_record.Goals as goal

pub returns-then-not-watched : goal.returns-then-not-watched
returns-then-not-watched c =
    let d = c.args.self.now in
    c.watch-watched.ensures c.if-not-watched.true
    (character_data (name_in d c.args.node) (Some (node_in (trees_in d c.args.node) (name_in d c.args.node)).text))
