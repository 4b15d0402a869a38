use Rattle.dom_tree.specs.Definitions.{next_name, node_from}
use Rattle.dom_base.specs.declared.Owner.TheVariants.{Page}
use Rattle.dom_callers.proofs.Written.{appended-is}
use Rattle.dom_callers.proofs.notes.append.Goals as goal

pub returns-clause-forest : goal.returns-clause-forest
returns-clause-forest c =
    let f = c.args.forest.now in
    let x = next_name Page f.names in
    appended-is f c.link_before.new.self c.args.document c.args.parent c.args.word.now record {
      alone = c.add.new.self;
      key = c.in_ok-key.key;
      node = node_from f.names x c.in_ok-data.data;
      key_is = c.in_ok-key.ensures.key;
      names = c.in_ok-key.ensures.names;
      trees = c.in_ok-key.ensures.trees;
      node_is = c.in_ok-data.ensures.node f.names x;
      parent_is = c.in_ok-key.ensures.named c.args.parent c.requires.parent_is_node;
      names_then = c.link_before.ensures.names;
      trees_then = c.link_before.ensures.trees;
    }
