use Rattle.std.proofs.Common.{ap, ◌∙◌}
use Rattle.dom_ranges.specs.Definitions.{named_ranges, ranges_of}
use Rattle.dom_callers.proofs.Rooms.{NodeLeaves, out-room}
use Rattle.dom_callers.proofs.moving.take_out.Goals as goal

pub on_remove-requires-clause-ends : goal.on_remove-requires-clause-ends
on_remove-requires-clause-ends c =
    c.law_ends_stay.ensures.at_nodes c.args.forest.now.names c.requires.room.most c.args.ranges.now c.requires.room.within

pub returns-clause-ranges : goal.returns-clause-ranges
returns-clause-ranges c = λ o. ap (λ ns. named_ranges ns (ranges_of c.on_remove.new.self o)) c.unlink.ensures.names ∙ c.on_remove.ensures.named o

pub returns-clause-room : goal.returns-clause-room
returns-clause-room c =
    let leaves : NodeLeaves c.args.forest.now c.args.node c.args.ranges.now c.on_remove.new.self = record {
      parent = c.parent-parent.result;
      parent_is = c.parent-parent.ensures.value;
      there = c.parent-parent.ensures.node;
      root = c.on_remove.ensures.root;
      child = c.on_remove.ensures.child;
    } in
    out-room c.law_ends_stay.ensures.same c.law_ends_stay.ensures.removal leaves c.unlink.new.self c.unlink.ensures.names
    (c.law_index.ensures c.args.node c.requires.node_is_node)
