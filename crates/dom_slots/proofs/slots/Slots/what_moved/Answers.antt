use Rattle.dom_base.proofs.Std.{◌≡◌, inl, ℕ, ◌==◌, None, List, [], ◌∷◌, true, length, map, filter, refl, sym, ap, ◌∙◌, arith}
use Rattle.dom_base.proofs.Std.{eqb-true, vec_len, option_map_or}
use Rattle.dom_model.proofs.Model.{root_of, slots_among, subtree}
use Rattle.dom_tree.specs.Definitions.{NamedTrees, name_at}
use Rattle.dom_laws.proofs.Laws.{filter-all}
use Rattle.dom_slots.specs.Definitions.{is_called, is_marked, SlotsNow, with_parked}
use Rattle.dom_slots.proofs.Bare.{bare-moved}
use Rattle.dom_slots.proofs.slots.Slots.what_moved.Goals as goal

pub returns-then-contains : goal.returns-then-contains
returns-then-contains c =
    let f = c.args.forest.now in
    let e = c.law_nodes_stand_once.ensures in
    let h = c.requires.ended in
    bare-moved h.0 f (with_parked h.1 c.args.self.now) c.args.change h.2 record { once = e.once; only = e.only } c.top_of.result (sym c.if-is_move.ensures)
    (ap (λ (s : SlotsNow). is_marked s.bare c.top_of.result) (sym c.self.view_is) ∙ sym c.if-contains.ensures)
    (c.top_of.ensures.value ∙ ap (λ n. option_map_or (λ k. root_of f.trees (name_at f.names k)) c.args.change.left (name_at f.names n)) c.node-node.ensures)

-- the slots that were found are those below the node
below : (f : NamedTrees) (ks : List ℕ) {n x : ℕ} → n ≡ x
    → map (name_at f.names) ks ≡ filter (is_called f.trees None) (slots_among (subtree f.trees (name_at f.names n)))
    → map (name_at f.names) ks ≡ slots_among (subtree f.trees (name_at f.names x))
below f ks same are = are ∙ (filter-all (is_called f.trees None) _ (λ y i. refl) ∙ ap (λ k. slots_among (subtree f.trees (name_at f.names k))) same)

-- a list of no length
nothing : (ks : List ℕ) → (length ks == 0) ≡ true → ks ≡ []
nothing [] e = refl
nothing (k ∷ ks) e = let none : length (k ∷ ks) ≡ 0 = eqb-true (length (k ∷ ks)) 0 e in absurd (omega (arith, none))

pub returns-then-is_empty : goal.returns-then-is_empty
returns-then-is_empty c =
    let long : vec_len c.in_ok-slots.slots ≡ length c.in_ok-slots.slots.items = omega (arith, c.in_ok-slots.slots.ok) in
    inl (sym (below c.args.forest.now c.in_ok-slots.slots.items c.node-node.ensures c.in_ok-slots.ensures.value)
    ∙ ap (map (name_at c.args.forest.now.names)) (nothing c.in_ok-slots.slots.items (ap (λ n. n == 0) (sym long) ∙ sym c.if-is_empty.ensures)))

pub returns : goal.returns
returns c = (below c.args.forest.now c.in_ok-slots.slots.items c.node-node.ensures c.in_ok-slots.ensures.value, c.in_ok-slots.ensures.nodes)
