use Rattle.dom_query_commands.proofs.Cited.{◌∙◌, ◌∷◌, [], List, DocState, NodeName, a_list, ap, map, named, name_at, on_ok_weaker}
use Rattle.dom_query_commands.proofs.Cited.{part_of, query_all, read_at, read_by_key, replied, says, selector_view, subst, word_view}
use Rattle.dom_query_commands.proofs.SelectorLaws.{query_own}
use Rattle.dom_query_commands.proofs.selecting.reply_selected.Goals as goal

pub returns : goal.returns
returns g c =
    let f = c.forest-forest.result.now in
    let p = part_of c.state.inside.doc.world c.args.owner in
    let s = selector_view c.args.selector.now in
    let x = named p (word_view c.args.node) in
    let shown = c.forest-forest.ensures in
    let at = read_by_key _ c.state.inside.doc _ c.state.view_is _ _ _ c.key-key.ensures.name _ shown.names shown.owned shown.trees in
    let own = query_own f.trees shown.owned c.args.owner s x at.mine in
    let told = ap (map (name_at f.names)) c.deref.ensures.value
    ∙ c.in_ok-keys.ensures.found ∙ read_at (λ ts y. query_all ts s y) f.trees at.here at.trees own
    ∙ ap (λ (d : DocState). query_all (part_of d.world c.args.owner).trees s (named (part_of d.world c.args.owner) (word_view c.args.node)))
    c.state.view_is in
    on_ok_weaker c.reply_list.result (λ put.
    subst (λ (nodes : List NodeName). g.A.Answers.adds c.args.out.now (says c.args.owner (replied (a_list nodes)) ∷ []) c.reply_list.new.self) told put)
    c.reply_list.ensures.ok
