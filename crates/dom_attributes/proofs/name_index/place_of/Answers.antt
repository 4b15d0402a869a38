use Rattle.dom_base.proofs.Std.{ap, subst, ◌∙◌}
use Rattle.std.specs.BTreeMap.{get_by_text}
use Rattle.dom_attributes.specs.Attributes.{MayIndex}
use Rattle.dom_attributes.proofs.name_index.place_of.Goals as goal

pub returns-in-Some : goal.returns-in-Some
returns-in-Some c =
    c.copied.ensures ∙ c.get.ensures.value ∙ ap (λ m. get_by_text m c.args.name.now) c.deref.ensures
    ∙ subst (λ o. MayIndex o c.args.list.now) c.in-Some.is c.requires c.args.name.now
