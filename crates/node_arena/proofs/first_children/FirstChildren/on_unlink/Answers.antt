use Rattle.node_arena.specs.Known.{AreFirst}
use Rattle.node_arena.proofs.FirstKnown.{first_kept, first_without}
use Rattle.node_arena.proofs.first_children.FirstChildren.on_unlink.Goals as goal

pub returns-clause-there : goal.returns-clause-there
returns-clause-there c here siblings first =
    let kept : AreFirst c.tire.new.self.keys siblings = first_kept c.tire.ensures.kept first in
    rw c.remove.ensures (first_without _ siblings c.args.child kept)
