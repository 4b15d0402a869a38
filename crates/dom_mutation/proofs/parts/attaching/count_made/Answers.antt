use Rattle.dom_mutation.proofs.Cited.{◌≢◌, ◌+◌, ◌/◌, ap, ◌∙◌, arith, Owner, component_made, count_of}
use Rattle.dom_mutation.proofs.parts.attaching.count_made.Goals as goal

-- a component that has nodes: so have all before it
pub loop-low-preserved-then-node_count-gt0 : goal.loop-low-preserved-then-node_count-gt0
loop-low-preserved-then-node_count-gt0 c =
    let names = c.args.forest.now.names in
    let middle = (c.loop-low.low + c.loop-low.high) / 2 in
    let less = c.loop-low-test.true in
    let some : count_of (component_made c.args.maker middle) names ≢ 0 = λ none.
    let count = c.node_count.ensures ∙ (ap (λ (o : Owner). count_of o names) c.component_made.ensures ∙ none) in
    let more = c.if-node_count-gt0.true in
    omega (arith, count, more) in
    record {
      order = omega (arith, less);
      few = c.loop-low.invariant.few;
      made = λ k h none. some (c.requires.run k middle (omega (arith, h)) none);
      next = c.loop-low.invariant.next;
    }

-- and one that has none
pub loop-low-preserved : goal.loop-low-preserved
loop-low-preserved c =
    let names = c.args.forest.now.names in
    let less = c.loop-low-test.true in
    let few = c.loop-low.invariant.few in
    record {
      order = omega (arith, less);
      few = omega (arith, less, few);
      made = c.loop-low.invariant.made;
      next = λ h.
          let count = c.node_count.ensures ∙ ap (λ (o : Owner). count_of o names) c.component_made.ensures in
          let none = c.if-node_count-gt0.false in
          omega (arith, count, none);
    }
