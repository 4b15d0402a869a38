use Rattle.std.proofs.Common.{None, refl, ◌∙◌}
use Rattle.dom_callers.proofs.InHand.{text-still, text-new, still-same}
use Rattle.dom_callers.specs.Editing.{IsTextOf}
use Rattle.dom_model.specs.Changes.{doing, pre_insert_plan}
use Rattle.dom_model.specs.Part.{next_name}
use Rattle.dom_model.specs.Steps.{make}
use Rattle.dom_model.specs.World.{part_of}
use Rattle.dom_mutation.specs.Definitions.{name_in, owner_in, HasNodes, HasStillAll}
use Rattle.dom_tree.specs.Definitions.{node_from}
use Rattle.dom_callers.proofs.editing.add_last.Goals as goal

pub returns : goal.returns
returns c =
    let law = c.law_still.ensures in
    let made = c.law_new_node.ensures in
    let added = c.in_ok-text.ensures in
    let d = c.args.doc.now in
    let e = c.add.new.self in
    let f = c.insert.new.self in
    let o = c.args.owner in
    let text = c.in_ok-text.text in
    let n = node_from d.names (next_name (part_of d.world o)) c.args.node in
    let before : HasNodes d = record { parts = c.laws.ensures.parts; stand = c.laws.ensures.stand } in
    let between : HasNodes e = record { parts = c.laws-2.ensures.parts; stand = c.laws-2.ensures.stand } in
    let inserted : HasStillAll e f = still-same law.plans e f (owner_in e c.args.paragraph)
    (pre_insert_plan (name_in e text) (name_in e c.args.paragraph) None) record {
      before = between;
      after = record { parts = c.laws-3.ensures.parts; stand = c.laws-3.ensures.stand };
      names = c.in_ok-insert.ensures.names;
      world = c.in_ok-insert.ensures.world;
    } in
    let new : IsTextOf e o text = text-new e added.key (made.node d e _ _ added.names) (made.owner d e o _ added.names)
    (made.kind d e o (doing (make n)) n _ before between added.names added.world refl ∙ c.requires.node.kind) in
    record {
      still = law.next d e f (law.plans d e o (doing (make n)) _ before between added.names added.world) inserted;
      text = text-still inserted new;
    }
