use Rattle.dom_callers.proofs.Rooms.{in-fits, NodeComes, in-room, in-shown}
use Rattle.dom_callers.proofs.moving.put_before.Goals as goal

pub on_insert-requires : goal.on_insert-requires
on_insert-requires c =
    in-fits c.law_ends_stay.ensures.insert c.args.parent c.index-index.result c.requires.parent_is_node c.requires.room

pub returns : goal.returns
returns c =
    let comes : NodeComes c.args.forest.now c.link_before.new.self c.args.parent c.index-index.result c.args.ranges.now c.on_insert.new.self = record {
      names = c.link_before.ensures.names;
      there = c.requires.parent_is_node;
      moved = c.on_insert.ensures;
    } in
    record {
      names = c.link_before.ensures.names;
      trees = c.link_before.ensures.trees;
      ranges = in-shown comes c.law_keys_stand_for_names.ensures.insert c.law_ends_stay.ensures.at_nodes c.args.child
          record { apart = c.law_nodes_stand_once.ensures.distinct; index_is = c.index-index.ensures; room = c.requires.room };
      room = in-room comes c.law_ends_stay.ensures.insert;
    }
