use Rattle.std.specs.Prelude.{map, option_map}
use Rattle.dom_model.specs.Output.{child_list}
use Rattle.dom_mutation.specs.Doc.{name_in}
use Rattle.dom_mutation.proofs.parts.Parts.queue_tree_record.Goals as goal

pub returns-then-not-watched : goal.returns-then-not-watched
returns-then-not-watched c =
    let d = c.args.self.now in
    c.watch-watched.ensures c.if-not-watched.true
    (child_list (name_in d c.args.target) (map (name_in d) c.args.added.now) (map (name_in d) c.args.removed.now) (option_map (name_in d) c.args.prev)
    (option_map (name_in d) c.args.next))
