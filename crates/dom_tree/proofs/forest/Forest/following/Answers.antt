use Rattle.dom_tree.proofs.forest.Forest.following.Goals as goal

pub following-requires : goal.following-requires
following-requires c = rw c.at.ensures (record { top_is_node = c.requires.top_is_node; within = c.requires.within })
