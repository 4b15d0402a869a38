use Rattle.std.proofs.Common.{◌≡◌, ◌-◌, [], length, sym, ◌∙◌, ap, arith}
use Rattle.std.proofs.lemmas.Option.{get_or_from_slice_get, slice_get_within}
use Rattle.node_arena.specs.Nodes.{last_of}
use Rattle.node_arena.specs.Blocks.{block_of}
use Rattle.node_arena.proofs.BlockLists.{last_of-concat}
use Rattle.node_arena.proofs.ordered_keys.OrderedKeys.last.Goals as goal

pub returns : goal.returns
returns c =
    let blocks = c.self.inside.blocks.items in
    let at = rw c.deref.ensures.value at (sym c.in_ok-last.ensures.value) in
    let is : block_of blocks (length blocks - 1) ≡ c.in_ok-last.field-0.now = get_or_from_slice_get blocks (length blocks - 1) c.in_ok-last.field-0.now [] at in
    let within = slice_get_within blocks (length blocks - 1) c.in_ok-last.field-0.now at in
    rw (← c.self.view_is)
    (c.last-2.ensures ∙ (ap last_of (sym is) ∙ sym (last_of-concat blocks (length blocks - 1) c.self.invariant.filled (omega (arith, within)))))
