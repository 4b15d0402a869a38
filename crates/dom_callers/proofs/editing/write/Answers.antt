use Rattle.std.proofs.Common.{drop, ap, refl, ◌∙◌}
use Rattle.dom_callers.proofs.InHand.{text-still, text-new}
use Rattle.dom_model.specs.Part.{next_name}
use Rattle.dom_model.specs.TextChanges.{splitting, new_text_node}
use Rattle.dom_model.specs.Tree.{is_text, node_in}
use Rattle.dom_model.specs.World.{part_of}
use Rattle.dom_mutation.specs.Definitions.{name_in, owner_in, HasNodes, HasStillAll}
use Rattle.dom_callers.proofs.editing.write.Goals as goal

pub split-requires-clause-text : goal.split-requires-clause-text
split-requires-clause-text c = ap is_text c.in_ok-text.ensures.text.kind

pub returns : goal.returns
returns c =
    let law = c.law_still.ensures in
    let new = c.law_new_node.ensures in
    let written = c.in_ok-text.ensures in
    let made = c.in_ok-tail.ensures in
    let f = c.add_last.new.doc in
    let g = c.split.new.self in
    let text = c.in_ok-text.text in
    let o = owner_in f text in
    let plan = splitting (name_in f text) 1 in
    let before : HasNodes f = record { parts = c.laws.ensures.parts; stand = c.laws.ensures.stand } in
    let after : HasNodes g = record { parts = c.laws-2.ensures.parts; stand = c.laws-2.ensures.stand } in
    let split : HasStillAll f g = law.plans f g o plan _ before after made.names made.world in
    let q = part_of f.world o in
    let old = node_in q.trees (name_in f text) in
    let tail_node = new_text_node (next_name q) old.document (drop 1 old.text) in
    record {
      still = law.next _ _ _ written.still split;
      text = text-still split written.text;
      tail = text-new g made.key (new.node f g _ _ made.names) (new.owner f g o _ made.names ∙ written.text.node.owner)
          (new.kind f g o plan tail_node _ before after made.names made.world refl);
    }
