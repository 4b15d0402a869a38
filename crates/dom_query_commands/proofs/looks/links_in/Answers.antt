-- The nodes around a node are read in the trees of all owners as in its owner's.
use Rattle.dom_query_commands.proofs.Cited.{◌∙◌, ap, first_of, last_of, read_of}
use Rattle.dom_query_commands.specs.Looks.{links_of}
use Rattle.dom_query_commands.proofs.looks.links_in.Goals as goal

pub returns : goal.returns
returns c =
    let f = c.forest.ensures in
    c.links_at.ensures ∙ read_of c.args.state.now _ links_of f.names f.owned f.trees
    (λ o x own. λ j. record {
      parent = own.parent j;
      first = ap first_of own.children j;
      last = ap last_of own.children j;
      previous = own.before j;
      next = own.behind j;
    })
