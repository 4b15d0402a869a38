-- What a node's words added.
use Rattle.dom_base.proofs.Std.{arith}
use Rattle.dom_answers.proofs.Parts.{bytes-held, grows-then}
use Rattle.dom_answers.proofs.pools.Pools.node_row.Goals as goal

pub returns-in_err-row-in-Element-2-clause-grown : goal.returns-in_err-row-in-Element-2-clause-grown
returns-in_err-row-in-Element-2-clause-grown c =
    grows-then c.args.self.now c.add_bytes.new.self c.add_attributes.new.self c.in_ok-row-in-Element.ensures.grown c.add_attributes.ensures.grown

pub returns-in_ok-row-in-Element-2-clause-grown : goal.returns-in_ok-row-in-Element-2-clause-grown
returns-in_ok-row-in-Element-2-clause-grown c =
    grows-then c.args.self.now c.add_bytes.new.self c.add_attributes.new.self c.in_ok-row-in-Element.ensures.grown c.add_attributes.ensures.grown

pub returns-in_ok-row-in-Element-2-clause-within : goal.returns-in_ok-row-in-Element-2-clause-within
returns-in_ok-row-in-Element-2-clause-within c =
    let added = c.in_ok-row-in-Element.ensures in
    let name = bytes-held c.args.self.now c.add_bytes.new.self _ c.in_ok-row-in-Element.field-0 added.ok added.span in
    record {
      element = (c.add_attributes.ensures.grown.bytes c.in_ok-row-in-Element.field-0 name.0).0;
      attributes = c.in_ok-row-in-Element-2.ensures.within;
      text = omega arith;
    }
