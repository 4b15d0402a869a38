-- The rows are read in the trees of all owners as in its owner's.
use Rattle.dom_query_commands.proofs.Cited.{◌∙◌, None, ap, IfOk-weaker, read_of}
use Rattle.dom_query_commands.specs.Looks.{rows_below, structure_of}
use Rattle.dom_query_commands.proofs.looks.structure_in.Goals as goal

pub structure_rows-requires : goal.structure_rows-requires
structure_rows-requires c = rw (c.forest.ensures.names) c.requires

pub returns : goal.returns
returns c =
    let f = c.forest.ensures in
    IfOk-weaker c.structure_rows.result _ _
    (λ rows is. is ∙ read_of c.args.state.now _ structure_of f.names f.owned f.trees (λ o x own. ap (rows_below None 0) own.alone)) c.structure_rows.ensures
