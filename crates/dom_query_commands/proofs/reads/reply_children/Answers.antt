use Rattle.dom_query_commands.proofs.Cited.{◌∙◌, ◌∷◌, [], List, NodeName, a_list, ap, children_of, map, name_at, on_ok_weaker, read_of}
use Rattle.dom_query_commands.proofs.Cited.{replied, says, subst}
use Rattle.dom_query_commands.proofs.reads.reply_children.Goals as goal

pub children_of-requires : goal.children_of-requires
children_of-requires g c = rw (c.forest-forest.ensures.names) c.requires

pub returns : goal.returns
returns g c =
    let f = c.forest-forest.ensures in
    let told = ap (map (name_at c.forest-forest.result.now.names)) c.deref.ensures.value ∙ c.in_ok-children.ensures.names
    ∙ read_of c.args.state.now _ children_of f.names f.owned f.trees (λ o x own. own.children) in
    on_ok_weaker c.reply_list.result (λ put.
    subst (λ (nodes : List NodeName). g.A.Answers.adds c.args.out.now (says c.args.owner.now (replied (a_list nodes)) ∷ []) c.reply_list.new.self) told put)
    c.reply_list.ensures.ok
