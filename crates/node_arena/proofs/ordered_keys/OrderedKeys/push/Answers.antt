use Rattle.std.proofs.Common.{◌≡◌, ◌-◌, ℕ, List, false, length, ◌∙◌, ap, arith}
use Rattle.std.specs.List.{concat}
use Rattle.std.proofs.lemmas.List.{length_push}
use Rattle.node_arena.specs.Nodes.{contains}
use Rattle.node_arena.proofs.BlockLists.{sum_that_fits}
use Rattle.node_arena.proofs.BlockChanges.{AreFilled-gained, IsNumbered-gained, IsWritten-set}
use Rattle.node_arena.proofs.ordered_keys.OrderedKeys.push.Goals as goal

pub invariant_of-self-2 : goal.invariant_of-self-2
invariant_of-self-2 c =
    let blocks = c.self.inside.blocks.items in
    let last = length c.push_in.new.blocks.items - 1 in
    let absent : contains (concat blocks) c.args.key ≡ false = ap (λ (xs : List ℕ). contains xs c.args.key) c.self.view_is ∙ c.requires in
    let number : c.len.result - 1 ≡ last = omega (arith, c.len.ensures, c.push_in.new.blocks.ok) in
    let count = sum_that_fits c.checked_add.result _ _ c.in_ok-count.ensures.ok_part c.checked_add.ensures in
    rw (number, c.key.view_is) record {
      are_numbered = IsNumbered-gained c.self.invariant.are_numbered absent c.in_ok-push_in.ensures.gained
          (IsWritten-set c.make_room.new.numbers.items last c.args.key c.in_ok-make_room.ensures.reach c.make_room.ensures.kept);
      filled = AreFilled-gained c.self.invariant.filled c.in_ok-push_in.ensures.gained;
      counted = omega (arith, count.1, ap (length {A = ℕ}) c.in_ok-push_in.ensures.keys, length_push (concat blocks) c.args.key, c.self.invariant.counted);
      few = omega (arith, count.0, count.1);
    }
