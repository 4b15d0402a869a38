use Rattle.dom_base.proofs.Std.{ap, sym, ◌∙◌, refl, None}
use Rattle.dom_model.proofs.Model.{with_attribute, attribute_value, attributes_without}
use Rattle.dom_tree.specs.Definitions.{Stored, stored_from, node_with}
use Rattle.dom_tree.proofs.Kept.{shows_node}
use Rattle.dom_tree.proofs.Setting.{IsKept-set_same}
use Rattle.dom_tree.proofs.Noted.{noted-anew, widens-same}
use Rattle.dom_tree.proofs.Holds.{IsChangedAt-stored}
use Rattle.dom_tree.proofs.forest.Forest.remove_attr.Goals as goal

pub invariant_of-self : goal.invariant_of-self
invariant_of-self c = record {
  kept = IsKept-set_same c.self.invariant.kept c.args.key _ c.payload_mut.ensures.value
      (ap (λ (s : Stored). s.name) c.remove_attribute-value.ensures.without)
      (ap (λ (s : Stored). s.node.document) c.remove_attribute-value.ensures.without);
  ids = noted-anew c.self.invariant.ids (widens-same c.args.key (λ h. refl)) c.forget.ensures c.payload.ensures.value c.payload_mut.ensures.value
      (λ s. stored_from s.name (record s.node { attributes = attributes_without c.args.name.now s.node.attributes }))
      c.remove_attribute-value.ensures.without (c.code_under-left.ensures _ c.args.key);
}

pub returns : goal.returns
returns c =
    let done = IsChangedAt-stored c.self.view_is c.self.invariant.kept (invariant_of-self c).kept
    (record { at = c.payload_mut.ensures.value; name_kept = ap (λ (s : Stored). s.name) c.remove_attribute-value.ensures.without })
    c.requires (with_attribute c.args.name.now None) (λ n. refl)
    (ap (λ (s : Stored). node_with c.args.self.now.names s.name s.node) c.remove_attribute-value.ensures.without) in
    record {
      value = c.remove_attribute-value.ensures.value ∙
          ap (λ n. attribute_value n c.args.name.now)
          (sym (shows_node c.self.view_is c.self.invariant.kept c.args.key _ c.requires c.payload_mut.ensures.value));
      names = done.names;
      trees = done.trees;
      above = done.above;
      children = done.children;
      holds = done.holds;
      held = done.held;
    }
