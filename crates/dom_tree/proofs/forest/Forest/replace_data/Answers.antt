use Rattle.dom_base.proofs.Std.{◌≡◌, ◌≤◌, ℕ, List, length, ap, set, refl, subst, sym, true≢false, ◌∙◌}
use Rattle.dom_model.proofs.Model.{inclusive_ancestors, children_of, node_in, with_data_replaced}
use Rattle.dom_tree.specs.Definitions.{Stored, name_at, node_with}
use Rattle.dom_tree.specs.Ids.{code_in}
use Rattle.dom_tree.proofs.Setting.{set_back}
use Rattle.dom_tree.proofs.Noted.{stays_kept}
use Rattle.dom_tree.proofs.Kept.{seen, shows_node}
use Rattle.dom_tree.proofs.Holds.{IsChangedAt-stored}
use Rattle.dom_tree.proofs.OwnerLists.{on_err}
use Rattle.dom_tree.proofs.forest.Forest.replace_data.Goals as goal

pub invariant_of-self : goal.invariant_of-self
invariant_of-self c = rw (set_back c.self.inside.arena.payloads c.args.key _ c.replace_text.new.self c.payload_mut.ensures.value
    c.in_err-replace_text.ensures.err) c.self.invariant

pub invariant_of-self-2 : goal.invariant_of-self-2
invariant_of-self-2 c = stays_kept c.self.invariant c.args.key _ c.payload_mut.ensures.value
    (ap (λ (s : Stored). s.name) c.in_ok-replace_text.ensures.ok) (ap (λ (s : Stored). s.node.document) c.in_ok-replace_text.ensures.ok)
    (ap code_in c.in_ok-replace_text.ensures.ok)

pub returns-in_err-replace_text-clause-whole : goal.returns-in_err-replace_text-clause-whole
returns-in_err-replace_text-clause-whole c start all =
    let node = shows_node c.self.view_is c.self.invariant.kept c.args.key _ c.requires c.payload_mut.ensures.value in
    absurd (true≢false (sym (c.in_err-replace_text.ensures.whole start
    (subst (λ (units : List ℕ). length units ≤ c.args.count) (ap (λ n. n.text) node) all))))

-- a refused call leaves the forest
left : (c : goal.After-from_residual) →
    seen (set c.self.inside.arena.payloads c.args.key c.replace_text.new.self) c.self.inside.arena.children ≡ c.args.self.now
left c = ap (λ ps. seen ps c.self.inside.arena.children) (set_back c.self.inside.arena.payloads c.args.key _ c.replace_text.new.self
    c.payload_mut.ensures.value c.in_err-replace_text.ensures.err) ∙ c.self.view_is

pub returns-in_err-replace_text-clause-names : goal.returns-in_err-replace_text-clause-names
returns-in_err-replace_text-clause-names c = ap (λ g. g.names) (left c)

pub returns-in_err-replace_text-clause-above : goal.returns-in_err-replace_text-clause-above
returns-in_err-replace_text-clause-above c = λ x. ap (λ g. inclusive_ancestors g.trees x) (left c)

pub returns-in_err-replace_text-clause-children : goal.returns-in_err-replace_text-clause-children
returns-in_err-replace_text-clause-children c = λ x. ap (λ g. children_of g.trees x) (left c)

pub returns-in_err-replace_text-clause-held : goal.returns-in_err-replace_text-clause-held
returns-in_err-replace_text-clause-held c = λ k node other. let f = c.args.self.now in ap (λ g. node_in g.trees (name_at f.names k)) (left c)

pub returns-in_err-replace_text-clause-err : goal.returns-in_err-replace_text-clause-err
returns-in_err-replace_text-clause-err c = on_err c.from_residual.result (left c)

pub returns : goal.returns
returns c =
    let done = IsChangedAt-stored c.self.view_is c.self.invariant.kept (invariant_of-self-2 c).kept
    (record { at = c.payload_mut.ensures.value; name_kept = ap (λ (s : Stored). s.name) c.in_ok-replace_text.ensures.ok })
    c.requires (with_data_replaced c.args.offset c.args.count c.args.units.items) (λ n. refl)
    (ap (λ (s : Stored). node_with c.args.self.now.names s.name s.node) c.in_ok-replace_text.ensures.ok) in
    record {
      names = done.names;
      ok = done.trees;
      whole = λ start all. refl;
      err = tt;
      above = done.above;
      children = done.children;
      holds = done.holds;
      held = done.held;
    }
