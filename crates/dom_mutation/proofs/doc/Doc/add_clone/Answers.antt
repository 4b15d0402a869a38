use Rattle.dom_mutation.proofs.Cited.{next_name, part_of, node_from}
use Rattle.dom_mutation.proofs.ReadyCalls.{node-made}
use Rattle.dom_mutation.proofs.doc.Doc.add_clone.Goals as goal

pub invariant_of-self : goal.invariant_of-self
invariant_of-self c =
    let b = c.self.inside.parts in
    let o = c.owner-owner.result in
    node-made b c.add.new.self (record { alone = c.laws.ensures.alone; parts = c.laws.ensures.parts; stand = c.laws.ensures.stand }) c.self.invariant o
    (node_from b.names (next_name (part_of b.world o)) c.args.node) c.requires.no_shadow c.add.result c.add.ensures.world c.add.ensures.err
