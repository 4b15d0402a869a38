use Rattle.std.proofs.Common.{sym, ◌∙◌}
use Rattle.node_arena.proofs.FirstKnown.{last_of-get}
use Rattle.node_arena.proofs.block.Block.last.Goals as goal

pub returns : goal.returns
returns c = rw (← c.self.view_is) (c.copied.ensures ∙ (c.last.ensures.value ∙ rw c.deref.ensures.value (sym (last_of-get c.self.inside.keys.items))))
