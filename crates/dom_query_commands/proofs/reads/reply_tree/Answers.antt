use Rattle.dom_query_commands.proofs.Cited.{◌∙◌, ap, subtree, shown_steps, steps_view, read_of}
use Rattle.dom_query_commands.proofs.reads.reply_tree.Goals as goal

pub tree_steps-requires : goal.tree_steps-requires
tree_steps-requires g c = rw (c.forest.ensures.names) c.requires

pub returns : goal.returns
returns g c =
    let f = c.forest.ensures in
    c.reply_tree.ensures.ok _
    (ap steps_view c.deref.ensures.value ∙ c.in_ok-steps.ensures
    ∙ ap shown_steps (read_of c.args.state.now _ subtree f.names f.owned f.trees (λ o x own. own.alone)))
