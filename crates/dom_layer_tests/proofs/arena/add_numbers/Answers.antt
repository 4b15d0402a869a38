use Rattle.dom_base.proofs.Std.{◌≡◌, ◌+◌, ◌<◌, ℕ, length, ap, ◌∙◌, arith, length_push, All-push, All-weaker, same_Some}
use Rattle.node_arena.specs.Nodes.{Nodes}
use Rattle.dom_layer_tests.proofs.arena.add_numbers.Goals as goal

pub loop-number-preserved : goal.loop-number-preserved
loop-number-preserved g c =
    let old = c.loop-number.arena.payloads in
    let grown = ap (λ (s : Nodes ℕ). length s.payloads) c.in_ok-child.ensures.ok ∙ length_push old _ in
    let longer : length c.link.new.arena.payloads ≡ length old + 1 = c.link.ensures ∙ grown in
    record {
      root = omega (arith, c.loop-number.invariant.root);
      before = λ k is. let same = same_Some _ k is in omega (arith, c.in_ok-child.ensures.key);
      children = rw c.in_ok-push.ensures.items (All-push (λ k. k < length c.link.new.arena.payloads) c.loop-number.children.items c.in_ok-child.child
          (All-weaker (λ k. k < length old) (λ k. k < length c.link.new.arena.payloads) (λ k within. omega (arith, longer))
          c.loop-number.children.items c.loop-number.invariant.children)
          (omega (arith, c.in_ok-child.ensures.key)));
    }
