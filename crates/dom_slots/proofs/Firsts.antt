-- What is assigned to a slot, by the name of the slot: a child of its host is where the slot is the first of its name, and the
-- child looks for that name.
use Rattle.dom_base.proofs.Std.{◌≡◌, inl, inr, ℕ, Bool, true, false, ◌&&◌, ◌||◌, ◌==◌, List, [], ◌∷◌, Option, None, Some, refl, sym, ap, ◌∙◌, true≢false, find}
use Rattle.dom_base.proofs.Std.{if◌then◌else◌, option_to_list, option_map, option_map_or, option_and_then, and_parts, eqb-true, eq-eqb, false_from_ne_true}
use Rattle.dom_model.proofs.Model.{NodeName, DomString, text_eq, name_eq, is_in, has_slot_name, is_slot_element, slot_name, slottable_name, Trees, Node, nodes}
use Rattle.dom_model.proofs.Model.{node_in, subtree, parent_of, name_eq-true}
use Rattle.dom_laws.proofs.Laws.{Once}
use Rattle.dom_slots.specs.Definitions.{ShadowTrees, is_assigned_at, is_first_at, looks_for}
use Rattle.dom_slots.proofs.NamesOfNodes.{InNodes, in_tree, node_in-self}

-- texts that are the same one by one
pub text_true : (xs ys : List ℕ) → text_eq xs ys ≡ true → xs ≡ ys
text_true [] [] e = refl
text_true [] (y ∷ ys) e = absurd (true≢false (sym e))
text_true (x ∷ xs) [] e = absurd (true≢false (sym e))
text_true (x ∷ xs) (y ∷ ys) e =
    let parts = and_parts (x == y) (text_eq xs ys) e in
    ap (λ z. z ∷ xs) (eqb-true x y parts.0) ∙ ap (λ zs. y ∷ zs) (text_true xs ys parts.1)

pub text_same : (xs : List ℕ) → text_eq xs xs ≡ true
text_same [] = refl
text_same (x ∷ xs) = ap (λ b. b && text_eq xs xs) (eq-eqb x x refl) ∙ text_same xs

-- a slot that is found by a name has it
found_named : (ts : Trees) (y : NodeName) (a : DomString) (ns : List Node) → ((m : Node) → InNodes m ns → node_in ts m.name ≡ m) →
    is_in name_eq y (option_to_list (option_map (λ (n : Node). n.name) (find (has_slot_name a) ns))) ≡ true
    → text_eq (slot_name (node_in ts y)) a ≡ true
found_named ts y a [] own e = absurd (true≢false (sym e))
found_named ts y a (n ∷ ns) own e = by (has_slot_name a n) refl e (found_named ts y a ns (λ m i. own m (inr i)))
  where
    by : (b : Bool) → has_slot_name a n ≡ b →
        is_in name_eq y (option_to_list (option_map (λ (m : Node). m.name) (if b then Some n else find (has_slot_name a) ns))) ≡ true
        → (is_in name_eq y (option_to_list (option_map (λ (m : Node). m.name) (find (has_slot_name a) ns))) ≡ true →
        text_eq (slot_name (node_in ts y)) a ≡ true) → text_eq (slot_name (node_in ts y)) a ≡ true
    by true h i deeper =
        let same : y ≡ n.name = name_eq-true y n.name (or_none (name_eq y n.name) i) in
        ap (λ m. text_eq (slot_name m) a) (ap (node_in ts) same ∙ own n (inl refl)) ∙ (and_parts (is_slot_element n) _ h).1
      where
        or_none : (b : Bool) → (b || false) ≡ true → b ≡ true
        or_none true h' = refl
        or_none false h' = h'
    by false h i deeper = deeper i

module _ (s : ShadowTrees) (once : Once s.trees) (h y : NodeName) where
  abbrev own_name : DomString
  own_name = slot_name (node_in s.trees y)

  -- who looks for this name in a tree finds the node just where it is the first of that name
  pub named_so : (r : NodeName) (o : Option DomString)
      → is_in name_eq y (option_to_list (option_and_then (λ a. option_map (λ (n : Node). n.name) (find (has_slot_name a) (nodes (subtree s.trees r)))) o))
      ≡ (is_in name_eq y (option_to_list (option_map (λ (n : Node). n.name) (find (has_slot_name own_name) (nodes (subtree s.trees r))))) &&
      option_map_or (λ a. text_eq a own_name) o false)
  named_so r None = sym (and_false _)
    where
      and_false : (b : Bool) → (b && false) ≡ false
      and_false true = refl
      and_false false = refl
  named_so r (Some a) = by (text_eq a own_name) refl
    where
      found : DomString → Bool
      found name = is_in name_eq y (option_to_list (option_map (λ (n : Node). n.name) (find (has_slot_name name) (nodes (subtree s.trees r)))))

      and_true : (b : Bool) → b ≡ (b && true)
      and_true true = refl
      and_true false = refl

      and_false : (b : Bool) → false ≡ (b && false)
      and_false true = refl
      and_false false = refl

      by : (b : Bool) → text_eq a own_name ≡ b → found a ≡ (found own_name && b)
      by true e = ap found (text_true a own_name e) ∙ and_true (found own_name)
      by false e =
          false_from_ne_true (found a)
          (λ hit.
          let same : own_name ≡ a = text_true own_name a
          (found_named s.trees y a (nodes (subtree s.trees r)) (λ m i. node_in-self s.trees once m (in_tree s.trees r m i)) hit) in
          true≢false (sym (text_same a) ∙ (ap (text_eq a) (sym same) ∙ e)))
          ∙ and_false (found own_name)

  -- so for a child of a host
  pub assigned-first : (c : NodeName) → parent_of s.trees c ≡ Some h → is_assigned_at s y c ≡ (is_first_at s h y && looks_for own_name (node_in s.trees c))
  assigned-first c e =
      ap (λ o. is_in name_eq y (option_to_list
      (option_and_then (λ r. option_and_then (λ a. option_map (λ (n : Node). n.name) (find (has_slot_name a) (nodes (subtree s.trees r))))
      (slottable_name (node_in s.trees c))) (option_and_then s.shadow_of o)))) e
      ∙ by (s.shadow_of h)
    where
      by : (o : Option NodeName) → is_in name_eq y
          (option_to_list (option_and_then
          (λ r. option_and_then (λ a. option_map (λ (n : Node). n.name) (find (has_slot_name a) (nodes (subtree s.trees r))))
          (slottable_name (node_in s.trees c))) o))
          ≡ (is_in name_eq y (option_to_list
          (option_and_then (λ r. option_map (λ (n : Node). n.name) (find (has_slot_name own_name) (nodes (subtree s.trees r)))) o)) &&
          looks_for own_name (node_in s.trees c))
      by None = refl
      by (Some r) = named_so r (slottable_name (node_in s.trees c))
