use Rattle.std.proofs.Common.{◌<◌, ◌≡◌, length, ap, sym, subst}
use Rattle.dom_base.specs.declared.NodeName.{NodeName}
use Rattle.dom_model.specs.Effects.{plan_of_range}
use Rattle.dom_model.specs.Extract.{extracting}
use Rattle.dom_model.specs.Names.{node_of}
use Rattle.dom_model.specs.Part.{range_at}
use Rattle.dom_model.specs.World.{part_of}
use Rattle.dom_mutation.specs.Definitions.{name_in, owner_in, HasNodes, HasStillAll}
use Rattle.dom_range_ops.specs.Definitions.{inserting_node}
use Rattle.dom_callers.proofs.editing.take_and_put_back.Goals as goal
use Rattle.dom_callers.proofs.InHand.{the_value}

-- the fragment is a node of the owner, and the range is still there
pub insert_node-requires : goal.insert_node-requires
insert_node-requires c =
    let d = c.args.doc.now in
    let e = c.extract.new.doc in
    let p = part_of d.world c.args.owner in
    let here = the_value (range_at p c.args.range) c.requires.range in
    let x = node_of c.args.owner p.node_count in
    let names = c.in_ok-taken.ensures.names here.0 here.1 in
    record {
      there = c.in_ok-taken.ensures.there;
      node_is_node = subst (λ k. k < length e.names) (sym c.in_ok-taken.ensures.key) (c.law_new_node.ensures.node d e x _ names);
      own = subst (λ k. owner_in e k ≡ c.args.owner) (sym c.in_ok-taken.ensures.key)
          (ap (λ (y : NodeName). y.owner) (c.law_new_node.ensures.name d e x _ names));
    }

pub returns-clause-still : goal.returns-clause-still
returns-clause-still c =
    let law = c.law_still.ensures in
    let d = c.args.doc.now in
    let e = c.extract.new.doc in
    let f = c.insert_node.new.doc in
    let here = the_value (range_at (part_of d.world c.args.owner) c.args.range) c.requires.range in
    let between : HasNodes e = record { parts = c.laws-2.ensures.parts; stand = c.laws-2.ensures.stand } in
    let taken : HasStillAll d e = law.plans d e c.args.owner (λ p. plan_of_range p c.args.range (extracting c.args.range)) _
    record { parts = c.laws.ensures.parts; stand = c.laws.ensures.stand } between (c.in_ok-taken.ensures.names here.0 here.1)
    c.in_ok-taken.ensures.world in
    let back : HasStillAll e f = law.plans e f c.args.owner (inserting_node c.args.range (name_in e c.in_ok-taken.taken)) _ between
    record { parts = c.laws-3.ensures.parts; stand = c.laws-3.ensures.stand } c.in_ok-insert_node.ensures.names
    c.in_ok-insert_node.ensures.world in
    law.next d e f taken back
