use Rattle.dom_mutation.proofs.Cited.{[], Some, refl, ap, sym, ◌∙◌, is_empty, replacing_children, name_in}
use Rattle.dom_mutation.proofs.Inserted.{some_left}
use Rattle.dom_mutation.proofs.Grown.{IsMade, made_so, new_owner, new_not_above}
use Rattle.dom_mutation.proofs.Emptied.{text_whole}
use Rattle.dom_mutation.proofs.BoundedDocs.{bounds_added}
use Rattle.dom_mutation.proofs.ReadyCalls.{plan-done, planned-done}
use Rattle.dom_mutation.proofs.ReadyPlans.{ready-children}
use Rattle.dom_mutation.proofs.texts.replace_children.Goals.{In_ok-text}
use Rattle.dom_mutation.proofs.texts.replace_children.Goals as goal

-- the new Text
new_text : (c : In_ok-text) → IsMade c.args.parts.now c.make_text.new.parts c.args.node c.in_ok-text.text
    (Some (name_in c.args.parts.now c.document_below-document.result)) c.args.units.items
new_text c =
    made_so c.in_ok-text.ensures.names c.in_ok-text.ensures.world c.in_ok-text.ensures.key c.requires.node_is_node
    (c.laws.ensures.alone c.args.node c.requires.node_is_node)

pub put_text-requires-clause-one_owner : goal.put_text-requires-clause-one_owner
put_text-requires-clause-one_owner c = new_owner (new_text (goal.at.put_text-requires-clause-one_owner c).In_ok-text)

pub put_text-requires-clause-not_above : goal.put_text-requires-clause-not_above
put_text-requires-clause-not_above c =
    new_not_above (new_text (goal.at.put_text-requires-clause-not_above c).In_ok-text) c.laws-2.ensures.distinct c.laws-2.ensures.once

pub returns-in-Ok-put_text-clause-world : goal.returns-in-Ok-put_text-clause-world
returns-in-Ok-put_text-clause-world c =
    text_whole (new_text (goal.at.returns-in-Ok-put_text-clause-world c).In_ok-text) c.laws-2.ensures.distinct c.laws-2.ensures.once c.put_text.new.parts
    (ap is_empty (sym c.as_slice.ensures.value) ∙ some_left c.as_slice.result.now c.if-is_empty.ensures)
    (ap (λ y. Some y) c.document_below-document.ensures.value) c.in-Ok-put_text.ensures

pub put_text-requires-clause-bounds : goal.put_text-requires-clause-bounds
put_text-requires-clause-bounds c =
    bounds_added c.args.parts.now c.make_text.new.parts c.args.node (new_text (goal.at.put_text-requires-clause-bounds c).In_ok-text)
    (c.laws.ensures.parts _) (c.requires.ready _).bounds

pub returns-in-Ok-clause-ready : goal.returns-in-Ok-clause-ready
returns-in-Ok-clause-ready c =
    planned-done c.args.parts.now c.args.parts.now c.clear.new.parts refl
    (record { alone = c.laws.ensures.alone; parts = c.laws.ensures.parts; stand = c.laws.ensures.stand }) c.args.node
    c.requires.node_is_node (λ a. replacing_children (name_in a c.args.node) [])
    (λ l i r. ready-children _ i r (name_in c.args.parts.now c.args.node) [] (l.stand c.args.node c.requires.node_is_node) c.requires.inner) c.in-Ok.ensures
    c.requires.ready

pub returns-in-Ok-put_text-clause-ready : goal.returns-in-Ok-put_text-clause-ready
returns-in-Ok-put_text-clause-ready c =
    plan-done c.args.parts.now c.args.parts.now c.put_text.new.parts refl
    (record { alone = c.laws.ensures.alone; parts = c.laws.ensures.parts; stand = c.laws.ensures.stand }) c.args.node
    c.requires.node_is_node (λ a. replacing_children (name_in a c.args.node) c.args.units.items)
    (λ l i r. ready-children _ i r (name_in c.args.parts.now c.args.node) c.args.units.items (l.stand c.args.node c.requires.node_is_node) c.requires.inner)
    (returns-in-Ok-put_text-clause-world c) c.requires.ready
