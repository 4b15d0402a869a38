use Rattle.dom_base.specs.declared.Owner.TheVariants.{Page}
use Rattle.dom_tree.specs.Definitions.{next_name, node_from}
use Rattle.dom_callers.proofs.Written.{note-is}
use Rattle.dom_callers.proofs.notes.write_note.Goals as goal

pub returns-clause-written : goal.returns-clause-written
returns-clause-written c =
    let f = c.args.forest.now in
    let x = next_name Page f.names in
    note-is f c.append-3.new.forest record {
      first = c.add.new.self;
      second = c.append.new.forest;
      third = c.append-2.new.forest;
      node = node_from f.names x c.in_ok-data.data;
      document = c.in_ok-document.document;
      article = c.in_ok-article.article;
      new = c.requires.new;
      document_is = c.in_ok-document.ensures.key;
      names = c.in_ok-document.ensures.names;
      trees = c.in_ok-document.ensures.trees;
      node_is = c.in_ok-data.ensures.node f.names x;
      article_is = c.in_ok-article.ensures.key;
      second_is = c.in_ok-article.ensures.forest;
      third_is = c.in_ok-heading.ensures.forest;
      last_is = c.in_ok-paragraph.ensures.forest;
    }
