use Rattle.dom_query_commands.proofs.Cited.{◌∙◌, List, ap, sym, option_map, NodeName, parent_of, name_at, read_of}
use Rattle.dom_query_commands.proofs.reads.parent_of.Goals as goal

pub parent-requires : goal.parent-requires
parent-requires c = rw (c.forest.ensures.names) c.requires

pub returns : goal.returns
returns c =
    let f = c.forest.ensures in
    record {
      value = ap (λ (names : List NodeName). option_map (name_at names) c.parent.result) (sym f.names) ∙ c.parent.ensures.value
          ∙ read_of c.args.state.now _ parent_of f.names f.owned f.trees (λ o x own. own.parent);
      node = λ k e. rw f.names at (c.parent.ensures.node k e);
    }
