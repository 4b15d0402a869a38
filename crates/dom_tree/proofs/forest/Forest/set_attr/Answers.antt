use Rattle.dom_base.proofs.Std.{◌≡◌, ap, set, refl, Some, ◌∙◌}
use Rattle.dom_model.proofs.Model.{inclusive_ancestors, children_of, node_in, with_attribute}
use Rattle.dom_tree.specs.Definitions.{Stored, name_at, node_with}
use Rattle.dom_tree.proofs.Setting.{IsKept-set_same, set_back}
use Rattle.dom_tree.proofs.Kept.{seen, within}
use Rattle.dom_tree.proofs.Noted.{noted-anew, noted-more, set_in}
use Rattle.dom_tree.proofs.Holds.{IsChangedAt-stored}
use Rattle.dom_tree.proofs.OwnerLists.{on_err}
use Rattle.dom_tree.proofs.forest.Forest.set_attr.Goals as goal
use Rattle.dom_tree.proofs.forest.Forest.set_attr.Goals.{After-from_residual-in_err-set_attribute}

pub invariant_of-self : goal.invariant_of-self
invariant_of-self c = record {
  kept = c.self.invariant.kept;
  ids = noted-more c.self.invariant.ids c.note_value.ensures.widens (within c.self.view_is c.self.invariant.kept c.args.key c.requires);
}

pub invariant_of-self-in_err-set_attribute : goal.invariant_of-self-in_err-set_attribute
invariant_of-self-in_err-set_attribute c = rw (set_back c.self.inside.arena.payloads c.args.key _ c.set_attribute.new.self
    c.payload_mut.ensures.value c.in_err-set_attribute.ensures.err) (record {
      kept = c.self.invariant.kept;
      ids = noted-more c.self.invariant.ids c.note_value.ensures.widens (within c.self.view_is c.self.invariant.kept c.args.key c.requires);
    })

pub invariant_of-self-2 : goal.invariant_of-self-2
invariant_of-self-2 c = record {
  kept = IsKept-set_same c.self.invariant.kept c.args.key _ c.payload_mut.ensures.value
      (ap (λ (s : Stored). s.name) c.in_ok-set_attribute.ensures.ok) (ap (λ (s : Stored). s.node.document) c.in_ok-set_attribute.ensures.ok);
  ids = noted-anew c.self.invariant.ids c.note_value.ensures.widens c.forget.ensures c.payload-node.ensures.value c.payload_mut.ensures.value
      (set_in c.args.name.now c.args.value.items) c.in_ok-set_attribute.ensures.ok c.in_ok-left.ensures.noted;
}

-- a refused call leaves the forest
left : (c : After-from_residual-in_err-set_attribute) →
    seen (set c.self.inside.arena.payloads c.args.key c.set_attribute.new.self) c.self.inside.arena.children ≡ c.args.self.now
left c = ap (λ ps. seen ps c.self.inside.arena.children) (set_back c.self.inside.arena.payloads c.args.key _ c.set_attribute.new.self
    c.payload_mut.ensures.value c.in_err-set_attribute.ensures.err) ∙ c.self.view_is

pub returns-in_err-set_attribute-clause-names : goal.returns-in_err-set_attribute-clause-names
returns-in_err-set_attribute-clause-names c = ap (λ g. g.names) (left c)

pub returns-in_err-set_attribute-clause-above : goal.returns-in_err-set_attribute-clause-above
returns-in_err-set_attribute-clause-above c = λ x. ap (λ g. inclusive_ancestors g.trees x) (left c)

pub returns-in_err-set_attribute-clause-children : goal.returns-in_err-set_attribute-clause-children
returns-in_err-set_attribute-clause-children c = λ x. ap (λ g. children_of g.trees x) (left c)

pub returns-in_err-set_attribute-clause-held : goal.returns-in_err-set_attribute-clause-held
returns-in_err-set_attribute-clause-held c = λ k node other. let f = c.args.self.now in ap (λ g. node_in g.trees (name_at f.names k)) (left c)

pub returns-in_err-set_attribute-clause-err : goal.returns-in_err-set_attribute-clause-err
returns-in_err-set_attribute-clause-err c = on_err c.from_residual-in_err-set_attribute.result (left c)

pub returns : goal.returns
returns c =
    let done = IsChangedAt-stored c.self.view_is c.self.invariant.kept (invariant_of-self-2 c).kept
    (record { at = c.payload_mut.ensures.value; name_kept = ap (λ (s : Stored). s.name) c.in_ok-set_attribute.ensures.ok })
    c.requires (with_attribute c.args.name.now (Some c.args.value.items)) (λ n. refl)
    (ap (λ (s : Stored). node_with c.args.self.now.names s.name s.node) c.in_ok-set_attribute.ensures.ok) in
    record {
      names = done.names;
      ok = done.trees;
      err = tt;
      above = done.above;
      children = done.children;
      holds = done.holds;
      held = done.held;
    }
