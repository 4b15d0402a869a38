-- How the links of the cells follow the lists where one place of one list changes.
use Rattle.std.proofs.Common.{◌≡◌, ◌≢◌, inl, inr, ℕ, Bool, true, false, cond, eqb, List, length}
use Rattle.std.proofs.Common.{Option, Some, None, refl, sym, ap, ◌∙◌}
use Rattle.std.specs.Option.{is_none, option_and_then}
use Rattle.std.proofs.lemmas.Bool.{eq-eqb, both_ways, cases_Bool, cases_eq, true_from_ne_false}
use Rattle.std.proofs.lemmas.Bool.Decides.{eqb_tells}
use Rattle.node_arena.specs.Nodes.{children_of, contains, parent_of, next_of, prev_of, head_of, last_of}
use Rattle.node_arena.specs.Links.{Links as CellLinks, Edit, replaced}
use Rattle.node_arena.specs.Cells.{back_of, Holds}
use Rattle.node_arena.proofs.Lists.{is, is-last_of}
use Rattle.node_arena.proofs.Forests.{cases_Option}
use Rattle.node_arena.proofs.Writes.{prev_by, IsEdit, length-replaced, replaced-parent, replaced-first, replaced-next, replaced-prev, replaced-back}

-- how the new lists differ from the old ones, in the terms of `replaced`
pub record Follows (lists others : List (List ℕ)) (e : Edit) : Type 0 where
  pub cells : length others ≡ length lists
  pub parents : (k : ℕ) → parent_of others k ≡ cond (eqb e.child k) e.up (parent_of lists k)
  pub firsts : (k : ℕ) → head_of (children_of others k) ≡
      cond (is_none e.previous) (cond (eqb e.parent k) e.from_previous (head_of (children_of lists k))) (head_of (children_of lists k))
  pub nexts : (k : ℕ) → next_of others k ≡ cond (is e.previous k) e.from_previous (cond (eqb e.child k) e.on (next_of lists k))
  pub prevs : (k : ℕ) → prev_of others k ≡
      cond (is e.follower k) (prev_by e.follower_has_prev e.from_follower) (cond (eqb e.child k) (prev_by e.back_is_prev e.back) (prev_of lists k))
  pub backs : (k : ℕ) → back_of others k ≡ cond (is e.follower k) e.from_follower (cond (eqb e.child k) e.back (back_of lists k))

pub Holds-replaced : {links : List CellLinks} {lists : List (List ℕ)} (others : List (List ℕ)) {e : Edit} → IsEdit links e → Holds links lists →
    Follows lists others e → Holds (replaced links e) others
Holds-replaced {links} others {e} edit holds follows = record {
  cells = follows.cells ∙ holds.cells ∙ sym (length-replaced links e edit);
  parent = λ k. replaced-parent links e edit k ∙ ap (cond (eqb e.child k) e.up) (holds.parent k) ∙ sym (follows.parents k);
  first = λ k. replaced-first links e edit k ∙ ap (λ o. cond (is_none e.previous) (cond (eqb e.parent k) e.from_previous o) o) (holds.first k)
      ∙ sym (follows.firsts k);
  next = λ k. replaced-next links e edit k ∙ ap (λ o. cond (is e.previous k) e.from_previous (cond (eqb e.child k) e.on o)) (holds.next k)
      ∙ sym (follows.nexts k);
  prev = λ k. replaced-prev links e edit k
      ∙ ap (λ o. cond (is e.follower k) (prev_by e.follower_has_prev e.from_follower) (cond (eqb e.child k) (prev_by e.back_is_prev e.back) o)) (holds.prev k)
      ∙ sym (follows.prevs k);
  back = λ k. replaced-back links e edit k ∙ ap (λ o. cond (is e.follower k) e.from_follower (cond (eqb e.child k) e.back o)) (holds.back k)
      ∙ sym (follows.backs k);
}

-- what stands beside a node, by one of `next_in`, `prev_in` and `back_in`
abbrev pub beside_of : (List ℕ → ℕ → Option ℕ) → List (List ℕ) → ℕ → Option ℕ
beside_of f lists k = option_and_then (λ r. f (children_of lists r) k) (parent_of lists k)

-- where only the list of p changes
module _ (lists others : List (List ℕ)) (p : ℕ) (kept : (r : ℕ) → r ≢ p → children_of others r ≡ children_of lists r) (k : ℕ) (o x : Option ℕ) where
  -- what stands beside a node, where in that list only the neighbour of one member changes
  pub beside_elsewhere : (f : List ℕ → ℕ → Option ℕ) → parent_of others k ≡ parent_of lists k →
      f (children_of others p) k ≡ cond (is o k) x (f (children_of lists p) k) → (is o k ≡ true → parent_of lists k ≡ Some p) →
      beside_of f others k ≡ cond (is o k) x (beside_of f lists k)
  beside_elsewhere f same changed concerned = elim (cases_Option (parent_of lists k)) [
    | inl e ↦ elim (cases_Bool (is o k)) [
      | inl h ↦ let none_some : None ≡ Some p = sym e ∙ concerned h in cc
      | inr h ↦ rw (same, e, h)
    ]
    | inr w ↦ elim (cases_eq w.0 p) [
      | inl at ↦ rw (same, w.1, at, changed)
      | inr off ↦ elim (cases_Bool (is o k)) [
        | inl h ↦ let two : Some w.0 ≡ Some p = sym w.1 ∙ concerned h in absurd (off cc)
        | inr h ↦ rw (same, w.1, h, kept w.0 off)
      ]
    ]
  ]

  -- an end of that list is another at p alone
  pub end_elsewhere : (f : List ℕ → Option ℕ) → f (children_of others p) ≡ cond (is_none o) x (f (children_of lists p)) →
      f (children_of others k) ≡ cond (is_none o) (cond (eqb p k) x (f (children_of lists k))) (f (children_of lists k))
  end_elsewhere f changed = elim (eqb_tells p k) [
    | inl h ↦ rw (h.0, ← h.1) changed
    | inr h ↦ rw (h.0, kept k (λ e. h.1 (sym e))) (either (is_none o) (f (children_of lists k)))
  ]
    where
      either : (b : Bool) (z : Option ℕ) → z ≡ cond b z z
      either true z = refl
      either false z = refl

-- what stands beside a node, where it is another for one node alone and beside the neighbour of that node
module _ (lists others : List (List ℕ)) (c : ℕ) (o x : Option ℕ) where
  pub beside_changed : {own : Option ℕ} (f : List ℕ → ℕ → Option ℕ) → is o c ≡ false → beside_of f others c ≡ own →
      ((k : ℕ) → c ≢ k → beside_of f others k ≡ cond (is o k) x (beside_of f lists k)) →
      (k : ℕ) → beside_of f others k ≡ cond (is o k) x (cond (eqb c k) own (beside_of f lists k))
  beside_changed f apart here elsewhere k = elim (eqb_tells c k) [
    | inl h ↦ rw (← h.1, here, apart, eq-eqb c c refl)
    | inr h ↦ rw h.0 (elsewhere k h.1)
  ]

pub last_is_in : (xs : List ℕ) (k : ℕ) → is (last_of xs) k ≡ true → contains xs k ≡ true
last_is_in xs k h = true_from_ne_false (contains xs k) (λ absent. both_ways (is (last_of xs) k) (is-last_of xs k absent) h)
