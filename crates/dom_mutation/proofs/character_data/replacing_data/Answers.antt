use Rattle.dom_mutation.proofs.Cited.{length, Some, ap, arith, DomString, character_data, node_in, name_in, owner_in, trees_in}
use Rattle.dom_mutation.proofs.Recorded.{held_then, may_then}
use Rattle.dom_mutation.proofs.character_data.replacing_data.Goals as goal

pub change_data-requires-clause-may_come : goal.change_data-requires-clause-may_come
change_data-requires-clause-may_come c =
    let d = c.args.parts.now in
    may_then d c.queue_data_record.new.self c.args.node
    (character_data (name_in d c.args.node) (Some (node_in (trees_in d c.args.node) (name_in d c.args.node)).text))
    (c.laws.ensures.alone c.args.node c.requires.node_is_node) c.in_ok-queue_data_record.ensures
    (c.laws.ensures.parts (owner_in d c.args.node)) c.args.change.units.items c.requires.may_come

pub change_data-requires-clause-there : goal.change_data-requires-clause-there
change_data-requires-clause-there c =
    let d = c.args.parts.now in
    let text = held_then d c.queue_data_record.new.self c.args.node
    (character_data (name_in d c.args.node) (Some (node_in (trees_in d c.args.node) (name_in d c.args.node)).text))
    (c.laws.ensures.alone c.args.node c.requires.node_is_node) c.in_ok-queue_data_record.ensures c.args.node in
    let same = ap (λ n. length n.text) text in
    let units = ap (λ (s : DomString). length s) c.text.ensures in
    let left = c.saturating_sub-left.ensures in
    let least = c.min.ensures in
    omega (arith, same, units, left, least)
