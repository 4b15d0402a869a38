use Rattle.dom_callers.proofs.arena.move_to_front.Goals as goal

-- src/arena.rt:17:5
pub link_before-requires-clause-not_above : goal.link_before-requires-clause-not_above
link_before-requires-clause-not_above g c found =
    c.parent.ensures.above c.in-Some.parent c.in-Some.is (c.unlink.ensures.above c.args.key c.in-Some.parent found)
