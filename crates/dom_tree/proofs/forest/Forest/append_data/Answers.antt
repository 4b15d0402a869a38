use Rattle.dom_base.proofs.Std.{◌≡◌, ℕ, List, length, ap, set, refl, sym, ◌∙◌, ◌++◌, append-nil, drop, take-length}
use Rattle.std.proofs.Math.Seq.{drop-length}
use Rattle.dom_model.proofs.Model.{Node, inclusive_ancestors, children_of, node_in, replaced, with_data_replaced}
use Rattle.dom_tree.specs.Definitions.{Stored, name_at, node_with}
use Rattle.dom_tree.specs.Ids.{code_in}
use Rattle.dom_tree.proofs.Setting.{set_back}
use Rattle.dom_tree.proofs.Noted.{stays_kept}
use Rattle.dom_tree.proofs.Kept.{seen, shows_node}
use Rattle.dom_tree.proofs.Holds.{IsChangedAt-stored}
use Rattle.dom_tree.proofs.OwnerLists.{on_err}
use Rattle.dom_tree.proofs.forest.Forest.append_data.Goals as goal

pub invariant_of-self : goal.invariant_of-self
invariant_of-self c = rw (set_back c.self.inside.arena.payloads c.args.key _ c.append_text.new.self c.payload_mut.ensures.value
    c.in_err-append_text.ensures.err) c.self.invariant

pub invariant_of-self-2 : goal.invariant_of-self-2
invariant_of-self-2 c = stays_kept c.self.invariant c.args.key _ c.payload_mut.ensures.value
    (ap (λ (s : Stored). s.name) c.in_ok-append_text.ensures.ok) (ap (λ (s : Stored). s.node.document) c.in_ok-append_text.ensures.ok)
    (ap code_in c.in_ok-append_text.ensures.ok)

-- a refused call leaves the forest
left : (c : goal.After-drop-units) →
    seen (set c.self.inside.arena.payloads c.args.key c.append_text.new.self) c.self.inside.arena.children ≡ c.args.self.now
left c = ap (λ ps. seen ps c.self.inside.arena.children) (set_back c.self.inside.arena.payloads c.args.key _ c.append_text.new.self
    c.payload_mut.ensures.value c.in_err-append_text.ensures.err) ∙ c.self.view_is

pub returns-in_err-append_text-clause-names : goal.returns-in_err-append_text-clause-names
returns-in_err-append_text-clause-names c = ap (λ g. g.names) (left c)

pub returns-in_err-append_text-clause-above : goal.returns-in_err-append_text-clause-above
returns-in_err-append_text-clause-above c = λ x. ap (λ g. inclusive_ancestors g.trees x) (left c)

pub returns-in_err-append_text-clause-children : goal.returns-in_err-append_text-clause-children
returns-in_err-append_text-clause-children c = λ x. ap (λ g. children_of g.trees x) (left c)

pub returns-in_err-append_text-clause-held : goal.returns-in_err-append_text-clause-held
returns-in_err-append_text-clause-held c = λ k node other. let f = c.args.self.now in ap (λ g. node_in g.trees (name_at f.names k)) (left c)

pub returns-in_err-append_text-clause-err : goal.returns-in_err-append_text-clause-err
returns-in_err-append_text-clause-err c = on_err c.from_residual-in_err-append_text.result (left c)

-- data behind others are data that take the place of none at the end
behind : (t u : List ℕ) → t ++ u ≡ replaced (length t) 0 u t
behind t u = sym ((λ i. (take-length t i ++ u) ++ drop 0 (drop-length t i)) ∙ append-nil (t ++ u))

pub returns : goal.returns
returns c =
    let f = c.args.self.now in
    let s : Stored = c.payload_mut.result.now in
    let own = shows_node c.self.view_is c.self.invariant.kept c.args.key s c.requires.key_is_node c.payload_mut.ensures.value in
    let other = shows_node c.self.view_is c.self.invariant.kept c.args.of c.payload.result.now c.requires.of_is_node c.payload.ensures.value in
    let units = c.as_slice.ensures ∙ c.in_ok-units.ensures ∙ c.text.ensures ∙ sym (ap (λ n. n.text) other) in
    let text : s.node.text ++ c.as_slice.result.now ≡
    replaced (length (node_in f.trees (name_at f.names c.args.key)).text) 0 (node_in f.trees (name_at f.names c.args.of)).text s.node.text =
    ap (λ u. s.node.text ++ u) units ∙ behind s.node.text (node_in f.trees (name_at f.names c.args.of)).text
    ∙ ap (λ (n : Node). replaced (length n.text) 0 (node_in f.trees (name_at f.names c.args.of)).text s.node.text) (sym own) in
    let done = IsChangedAt-stored c.self.view_is c.self.invariant.kept (invariant_of-self-2 c).kept
    (record { at = c.payload_mut.ensures.value; name_kept = ap (λ (s : Stored). s.name) c.in_ok-append_text.ensures.ok })
    c.requires.key_is_node (with_data_replaced (length (node_in f.trees (name_at f.names c.args.key)).text) 0
    (node_in f.trees (name_at f.names c.args.of)).text) (λ n. refl)
    (ap (λ (s : Stored). node_with f.names s.name s.node) c.in_ok-append_text.ensures.ok
    ∙ (λ i. record (node_with f.names s.name s.node) { text = text i })) in
    record {
      names = done.names;
      ok = done.trees;
      err = tt;
      above = done.above;
      children = done.children;
      holds = done.holds;
      held = done.held;
    }
