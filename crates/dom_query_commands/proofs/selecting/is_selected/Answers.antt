use Rattle.dom_query_commands.proofs.Cited.{◌∙◌, named, selector_matches, part_of, word_view, selector_view, read_at, read_by_key}
use Rattle.dom_query_commands.proofs.SelectorLaws.{selector_own}
use Rattle.dom_query_commands.proofs.selecting.is_selected.Goals as goal

pub returns : goal.returns
returns c =
    let f = c.forest.result.now in
    let s = selector_view c.args.selector.now in
    let shown = c.forest.ensures in
    let at = read_by_key _ c.state.inside.doc _ c.state.view_is _ _ _ c.key-key.ensures.name _ shown.names shown.owned shown.trees in
    let own = selector_own f.trees shown.owned c.args.owner s (named (part_of c.state.inside.doc.world c.args.owner) (word_view c.args.node)) at.mine in
    rw (← c.state.view_is) (c.matches.ensures ∙ read_at (λ ts y. selector_matches ts s y) f.trees at.here at.trees own)
