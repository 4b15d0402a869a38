use Rattle.dom_base.proofs.Std.{◌≡◌, inl, inr, ℕ, List, [], ◌∷◌, true, map, length, get_or, sym, ap, ◌∙◌, arith, true≢false}
use Rattle.dom_model.proofs.Model.{NodeName, text_eq, name_eq, is_in, slot_name, node_in}
use Rattle.dom_tree.specs.Definitions.{name_at}
use Rattle.dom_laws.proofs.Laws.{In-from}
use Rattle.dom_slots.proofs.Firsts.{text_same}
use Rattle.dom_slots.proofs.slots.inside.moved_name.Goals as goal

-- the name of a list's only key is the only one there
module _ (names : List NodeName) where
  one-named : (ks : List ℕ) (k : ℕ) → length ks ≡ 1 → k ≡ get_or ks 0 k → (z : NodeName) → is_in name_eq z (map (name_at names) ks) ≡ true →
      z ≡ name_at names k
  one-named [] k one at z i = absurd (true≢false (sym i))
  one-named (j ∷ []) k one at z i = elim (In-from z (name_at names j ∷ []) i) [
    | inl e ↦ e ∙ ap (name_at names) (sym at)
    | inr off ↦ absurd off
  ]
  one-named (j ∷ l ∷ ks) k one at z i = absurd (omega (arith, one))

pub returns : goal.returns
returns c = λ y off.
    let f = c.args.forest.now in (
      sym c.is_move.ensures ∙ c.if-not-is_move.false,
      λ z i.
          let k = c.index-moved-0.result in
          let same = one-named f.names c.args.moved.now k c.if-count-ne1.false c.index-moved-0.is z (ap (is_in name_eq z) c.requires.moved ∙ i) in
          ap (text_eq (slot_name (node_in f.trees z))) c.slot_name.ensures
          ∙ (ap (λ w. text_eq (slot_name (node_in f.trees z)) (slot_name (node_in f.trees w))) (sym same) ∙ text_same (slot_name (node_in f.trees z))),
    )
