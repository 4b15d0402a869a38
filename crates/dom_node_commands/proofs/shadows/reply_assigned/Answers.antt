use Rattle.dom_node_commands.proofs.Handlers.{◌∙◌, ◌∷◌, [], List, NodeName, a_list, ap, assigned_at, map, name_at, on_ok_weaker}
use Rattle.dom_node_commands.proofs.Handlers.{replied, says, shadows, subst, sym}
use Rattle.dom_node_commands.proofs.shadows.reply_assigned.Goals as goal

pub returns : goal.returns
returns g c =
    let s = c.args.state.now in
    let f = c.forest_and_slots.result.0.now in
    let trees = shadows f c.forest_and_slots.result.1.now.hosts in
    let x = name_at s.names c.args.slot in
    let told = ap (map (name_at f.names)) c.deref.ensures.value
    ∙ c.in_ok-nodes.ensures.value ∙ ap (λ (names : List NodeName). assigned_at trees (name_at names c.args.slot)) c.forest_and_slots.ensures.names
    ∙ sym (c.law_slots_are_of_worlds.ensures.assigned trees s.world c.forest_and_slots.ensures.shown x) in
    on_ok_weaker c.reply_list.result (λ put.
    subst (λ (nodes : List NodeName). g.A.Answers.adds c.args.out.now (says c.args.owner.now (replied (a_list nodes)) ∷ []) c.reply_list.new.self) told put)
    c.reply_list.ensures.ok
