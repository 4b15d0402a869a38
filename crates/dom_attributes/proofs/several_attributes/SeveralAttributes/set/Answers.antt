use Rattle.dom_base.proofs.Std.{◌≡◌, ap, sym, subst, ◌∙◌, rc_str_bytes, AllByRecursion, false}
use Rattle.dom_model.proofs.Model.{text_eq, attributes_with}
use Rattle.dom_attributes.specs.Attributes.{HaveOwnNames, attributes_under}
use Rattle.dom_attributes.proofs.FewAttributes.{place-at, place-off, named, found-set, off-attributes, own-with}
use Rattle.dom_attributes.proofs.NameIndexes.{may-set}
use Rattle.dom_attributes.proofs.several_attributes.SeveralAttributes.set.Goals.{After-drop-index_mut}
use Rattle.dom_attributes.proofs.several_attributes.SeveralAttributes.set.Goals as goal

replaced : (c : After-drop-index_mut) →
    attributes_under (Rattle.std.specs.Vec.with_item c.self.inside.list c.in-Some.place (c.index_mut.result.now.0, c.args.value)).items
    ≡ attributes_with c.args.name.now c.args.value.items (attributes_under c.self.inside.list.items)
replaced c =
    let a = c.args.name.now in
    found-set rc_str_bytes (λ v. v.items) a c.self.inside.list.items c.in-Some.place c.index_mut.result.now c.args.value
    (place-at (named rc_str_bytes (λ v. v.items) a) c.place_of.ensures c.deref.ensures.value c.in-Some.is) c.index_mut.ensures.value

pub invariant_of-self : goal.invariant_of-self
invariant_of-self c = record {
  own = subst HaveOwnNames (sym (replaced c)) (own-with c.args.name.now c.args.value.items (attributes_under c.self.inside.list.items) c.self.invariant.own);
  found = may-set c.self.inside.list.items c.in-Some.place c.index_mut.result.now c.args.value c.index_mut.ensures.value c.self.inside.index
      c.self.invariant.found;
}

pub returns-in-Some-clause-ok : goal.returns-in-Some-clause-ok
returns-in-Some-clause-ok c = replaced c ∙ ap (attributes_with c.args.name.now c.args.value.items) c.self.view_is

pub add-requires : goal.add-requires
add-requires c =
    let list = c.self.inside.list.items in
    let a = c.args.name.now in
    subst (AllByRecursion (λ b. text_eq a b.name ≡ false)) c.self.view_is (off-attributes rc_str_bytes (λ v. v.items) a list
    (place-off (named rc_str_bytes (λ v. v.items) a) list c.deref.result.now c.place_of.result c.place_of.ensures c.deref.ensures.value c.in-None.is))
