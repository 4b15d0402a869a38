use Rattle.dom_mutation.proofs.Cited.{Some, ap, ◌∙◌, on_ok_weaker, set_attribute}
use Rattle.dom_mutation.specs.Definitions.{stepped, name_in, owner_in}
use Rattle.dom_mutation.proofs.doc.attributes.change_attribute.Goals as goal

pub returns : goal.returns
returns c =
    let x = c.args.node in
    on_ok_weaker c.set_attribute.result
    (λ set. set ∙ ap (λ e. stepped (owner_in e x) (set_attribute (name_in e x) c.args.name.now
    (Some c.args.value.items)) e) c.in_ok-queue_attribute_record.ensures)
    c.set_attribute.ensures
