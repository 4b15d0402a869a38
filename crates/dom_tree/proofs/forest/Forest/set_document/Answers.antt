use Rattle.dom_base.proofs.Std.{ap, sym, refl, ◌∙◌, option_map}
use Rattle.dom_model.proofs.Model.{under_document}
use Rattle.dom_tree.specs.Definitions.{Stored, name_at, node_with}
use Rattle.dom_tree.proofs.Kept.{within}
use Rattle.dom_tree.specs.Ids.{code_in}
use Rattle.dom_tree.proofs.Setting.{IsKept-set}
use Rattle.dom_tree.proofs.Noted.{kept_with_ids}
use Rattle.dom_tree.proofs.Holds.{IsChangedAt-stored}
use Rattle.dom_tree.proofs.forest.Forest.set_document.Goals as goal

pub invariant_of-self : goal.invariant_of-self
invariant_of-self c = kept_with_ids c.self.invariant c.args.key _ c.payload_mut.ensures.value (ap code_in c.set_document.ensures)
    (IsKept-set c.self.invariant.kept c.args.key _ c.payload_mut.ensures.value (ap (λ (s : Stored). s.name) c.set_document.ensures)
    (λ d e. within c.self.view_is c.self.invariant.kept d
    (c.requires.document_is_node d (ap (λ (s : Stored). s.node.document) (sym c.set_document.ensures) ∙ e))))

pub returns : goal.returns
returns c =
    let done = IsChangedAt-stored c.self.view_is c.self.invariant.kept (invariant_of-self c).kept
    (record { at = c.payload_mut.ensures.value; name_kept = ap (λ (s : Stored). s.name) c.set_document.ensures })
    c.requires.key_is_node (under_document (option_map (name_at c.args.self.now.names) c.args.document)) (λ n. refl)
    (ap (λ (s : Stored). node_with c.args.self.now.names s.name s.node) c.set_document.ensures) in
    record { names = done.names; trees = done.trees; above = done.above; children = done.children; holds = done.holds; held = done.held }
