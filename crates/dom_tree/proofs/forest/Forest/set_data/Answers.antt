use Rattle.dom_base.proofs.Std.{ap, refl}
use Rattle.dom_model.proofs.Model.{with_text}
use Rattle.dom_tree.specs.Definitions.{Stored, node_with}
use Rattle.dom_tree.specs.Ids.{code_in}
use Rattle.dom_tree.proofs.Noted.{stays_kept}
use Rattle.dom_tree.proofs.Holds.{IsChangedAt-stored}
use Rattle.dom_tree.proofs.forest.Forest.set_data.Goals as goal

pub invariant_of-self : goal.invariant_of-self
invariant_of-self c = stays_kept c.self.invariant c.args.key _ c.payload_mut.ensures.value
    (ap (λ (s : Stored). s.name) c.set_text.ensures) (ap (λ (s : Stored). s.node.document) c.set_text.ensures) (ap code_in c.set_text.ensures)

pub returns : goal.returns
returns c =
    let done = IsChangedAt-stored c.self.view_is c.self.invariant.kept (invariant_of-self c).kept
    (record { at = c.payload_mut.ensures.value; name_kept = ap (λ (s : Stored). s.name) c.set_text.ensures })
    c.requires (with_text c.args.text.items) (λ n. refl)
    (ap (λ (s : Stored). node_with c.args.self.now.names s.name s.node) c.set_text.ensures) in
    record { names = done.names; trees = done.trees; above = done.above; children = done.children; holds = done.holds; held = done.held }
