use Rattle.dom_mutation.proofs.Cited.{◌≡◌, ◌+◌, [], length, refl, ap, ◌∙◌, arith, length_push, slots_among, Node, subtree, Shadow, name_at, node_from}
use Rattle.dom_mutation.proofs.Cited.{HasOneMore, slots-more}
use Rattle.dom_mutation.proofs.parts.attaching.attach_root.Goals as goal
use Rattle.dom_tree.specs.Definitions.{next_name}

pub returns-clause-slots : goal.returns-clause-slots
returns-clause-slots c =
    let f = c.args.forest.now in
    let g = c.add.new.self in
    let n : Node = node_from f.names (next_name c.args.owner f.names)
    record { kind = Shadow; element = c.new.result; attributes = c.new-2.result; text = c.new-3.result; document = c.document.result } in
    let one : HasOneMore f g n = record {
      names = c.in-Ok.ensures.names;
      trees = c.in-Ok.ensures.trees;
      distinct = c.law_nodes_stand_once.ensures.distinct;
      stands = record { once = c.law_nodes_stand_once.ensures.once; only = c.law_nodes_stand_once.ensures.only };
    } in
    let long : length g.names ≡ length f.names + 1 = ap length c.in-Ok.ensures.names ∙ length_push f.names n.name in
    let host = c.requires.host_is_node in
    let key : c.in-Ok.root ≡ length f.names = c.in-Ok.ensures.key in
    let bare : slots_among (subtree g.trees (name_at g.names c.in-Ok.root)) ≡ [] =
    ap (λ k. slots_among (subtree g.trees (name_at g.names k))) key ∙ c.law_new_nodes_are_free.ensures.bare f g n one refl in
    c.in_ok-attach.ensures.slots g one.stands (slots-more f g n one c.args.slots.now c.requires.slots) (omega (arith, long, host))
    (omega (arith, long, key)) bare
