-- A list that a node joins.
use Rattle.dom_base.proofs.Std.{◌≡◌, inl, inr, ℕ, ◌<◌, Bool, true, false, not, ◌&&◌, ◌||◌, List, [], ◌∷◌, ◌++◌, All, map, filter, length, Option, None, Some}
use Rattle.dom_base.proofs.Std.{refl, sym, ap, subst, ◌∙◌, true≢false, nat_eq, drop, if◌then◌else◌, option_to_list, option_map, option_map_or, option_eq}
use Rattle.dom_base.proofs.Std.{ForSome, eqb-true, eq-eqb, and_parts, or_right, false_from_ne_true, map-append, append-nil, All-nil, All-cons, All-head}
use Rattle.dom_base.proofs.Std.{All-tail, All-append, filter-append, same_Some, none-some}
use Rattle.dom_model.proofs.Model.{NodeName, name_eq, list_eq, is_in, is_empty, first_of, items_before, items_after, slot_name, node_in, parent_of, root_of}
use Rattle.dom_model.proofs.Model.{children_of, siblings, name_eq-other}
use Rattle.dom_tree.specs.Definitions.{NamedTrees, name_at, TellApart}
use Rattle.dom_laws.proofs.Laws.{parent-of_child, child-of_parent, children-single, In, Single, Single-apart, Single-right, In-parts, after-in, name_eq-from}
use Rattle.dom_laws.proofs.Laws.{filter-same, filter-yes, first_split, split_at, Once, Has}
use Rattle.node_arena.specs.Nodes.{put_before, insert_before}
use Rattle.node_arena.specs.contracts.key.KeyPartialEq.TheImpl as KeyImpl
use Rattle.dom_slots.specs.Definitions.{ShadowHost, host_named, names_but, ShadowTrees, shadows, slot_at, is_assigned_at, is_first_at, assigned_at}
use Rattle.dom_slots.specs.Definitions.{assigned_under, looks_for}
use Rattle.dom_slots.proofs.Assigned.{names-in}
use Rattle.dom_slots.proofs.Attaching.{in_filter}
use Rattle.dom_slots.proofs.Firsts.{assigned-first}
use Rattle.dom_slots.proofs.Mapping.{in-inserted}
use Rattle.dom_slots.proofs.Renewing.{same_keys}
use Rattle.dom_slots.proofs.Shortened.{but-none}
use Rattle.dom_slots.proofs.Siblings.{parent-stands, siblings-children}

-- keys that are the same, if they are there
pub same-option : (a b : Option ℕ) → option_eq KeyImpl.ghosts.eq a b ≡ true → a ≡ b
same-option None None e = refl
same-option None (Some k) e = absurd (true≢false (sym e))
same-option (Some j) None e = absurd (true≢false (sym e))
same-option (Some j) (Some k) e = ap Some (eqb-true j k e)

-- what holds of a node and of those of a list holds of all with it
put-inside : (P : ℕ → Type 0) (n : ℕ) → P n → (c : ℕ) (xs : List ℕ) → All P xs → All P (put_before xs n c)
put-inside P n here c [] all = All-cons P n [] here all
put-inside P n here c (x ∷ xs) all = by (nat_eq x c) (put-inside P n here c xs (All-tail P x xs all))
  where
    by : (d : Bool) → All P (put_before xs n c) → All P (if d then n ∷ x ∷ xs else x ∷ put_before xs n c)
    by true rest = All-cons P n (x ∷ xs) here all
    by false rest = All-cons P x (put_before xs n c) (All-head P x xs all) rest

inserted-inside : (P : ℕ → Type 0) (n : ℕ) → P n → (before : Option ℕ) (xs : List ℕ) → All P xs → All P (insert_before xs n before)
inserted-inside P n here None xs all = All-append P xs (n ∷ []) all (All-cons P n [] here (All-nil P))
inserted-inside P n here (Some c) xs all = put-inside P n here c xs all

-- ---- names

-- without a name that stands between others those are left
but-between : (x : NodeName) (a b : List NodeName) → (In x a → ⊥) → (In x b → ⊥) → names_but x (a ++ x ∷ b) ≡ a ++ b
but-between x [] b off_a off_b = ap (λ d. if not d then x ∷ names_but x b else names_but x b) (name_eq-from x x refl) ∙ but-none x b off_b
but-between x (z ∷ zs) b off_a off_b =
    ap (λ d. if not d then z ∷ names_but x (zs ++ x ∷ b) else names_but x (zs ++ x ∷ b)) (name_eq-other x z (λ e. off_a (inl e))) ∙
    ap (λ ys. z ∷ ys) (but-between x zs b (λ i. off_a (inr i)) off_b)

-- keys of nodes, with the names of one list and then those of another one
record AreParted (names : List NodeName) (ks : List ℕ) (a b : List NodeName) : Type 0 where
  inside : All (λ k. k < length names) ks
  named : map (name_at names) ks ≡ a ++ b

module _ (names : List NodeName) (distinct : TellApart names) (n : ℕ) where
  -- a key that is put just before another one has its name there
  put-named : {a b : List NodeName} {ks : List ℕ} (c : ℕ) → c < length names → (In (name_at names c) a → ⊥) → first_of b ≡ Some (name_at names c) →
      AreParted names ks a b → map (name_at names) (put_before ks n c) ≡ a ++ name_at names n ∷ b
  put-named {a = []} {b} {ks = []} c node off first parted = absurd (none-some (name_at names c) (ap first_of parted.named ∙ first))
  put-named {a = []} {b} {ks = k ∷ ks} c node off first parted =
      let same : k ≡ c = distinct k c (All-head (λ j. j < length names) k ks parted.inside) node
      (same_Some (name_at names k) (name_at names c) (ap first_of parted.named ∙ first)) in
      ap (λ d. map (name_at names) (if d then n ∷ k ∷ ks else k ∷ put_before ks n c)) (eq-eqb k c same) ∙ ap (λ ys. name_at names n ∷ ys) parted.named
  put-named {a = z ∷ a} {b} {ks = []} c node off first parted = absurd (none-some z (ap first_of parted.named))
  put-named {a = z ∷ a} {b} {ks = k ∷ ks} c node off first parted =
      let at : name_at names k ≡ z = same_Some (name_at names k) z (ap first_of parted.named) in
      let apart : nat_eq k c ≡ false = false_from_ne_true (nat_eq k c) (λ e. off (inl (ap (name_at names) (sym (eqb-true k c e)) ∙ at))) in
      let rest : AreParted names ks a b =
      record { inside = All-tail (λ j. j < length names) k ks parted.inside; named = ap (drop 1) parted.named } in
      ap (λ d. map (name_at names) (if d then n ∷ k ∷ ks else k ∷ put_before ks n c)) apart
      ∙ (ap (λ y. y ∷ map (name_at names) (put_before ks n c)) at ∙ ap (λ ys. z ∷ ys) (put-named c node (λ i. off (inr i)) first rest))

  -- one that is put before another one or last, where those behind it begin with that one
  inserted-named : {a b : List NodeName} {ks : List ℕ} (before : Option ℕ) → ForSome before (λ k. k < length names) →
      ((y : NodeName) → In y a → In y b → ⊥) → option_map (name_at names) before ≡ first_of b → AreParted names ks a b
      → map (name_at names) (insert_before ks n before) ≡ a ++ name_at names n ∷ b
  inserted-named {a} {b = []} {ks} None node apart first parted =
      map-append (name_at names) ks (n ∷ []) ∙ ap (λ ys. ys ++ name_at names n ∷ []) (parted.named ∙ append-nil a)
  inserted-named {a} {b = y ∷ b} {ks} None node apart first parted = absurd (none-some y first)
  inserted-named {a} {b} {ks} (Some c) node apart first parted =
      put-named c (node c refl)
      (λ i. let s = first_split b (name_at names c) (sym first) in apart (name_at names c) i (subst (In (name_at names c)) (sym s.1) (inl refl)))
      (sym first) parted

-- ---- the list of the slot of a child

-- a list with a node more is another one
pub inserted-differs : (n : ℕ) (before : Option ℕ) (xs : List ℕ) → is_in nat_eq n xs ≡ false → true ≡ not (list_eq nat_eq xs (insert_before xs n before))
inserted-differs n before xs off =
    sym (ap not (false_from_ne_true (list_eq nat_eq xs (insert_before xs n before)) (λ same.
    true≢false (sym (ap (is_in nat_eq n) (same_keys xs (insert_before xs n before) same) ∙
    (in-inserted n n before xs ∙ or_right (is_in nat_eq n xs) (nat_eq n n) (eq-eqb n n refl))) ∙ off))))

module _ (f : NamedTrees) (once : Once f.trees) (distinct : TellApart f.names) (hosts : List ShadowHost) (n k : ℕ) (h : NodeName)
    (at : Has f.trees (name_at f.names n)) (up : parent_of f.trees (name_at f.names n) ≡ Some h)
    (hosted : host_named f.names hosts (root_of f.trees (name_at f.names k)) ≡ Some h)
    (own : slot_at (shadows f hosts) (name_at f.names n) ≡ Some (name_at f.names k)) where
  abbrev s : ShadowTrees
  s = shadows f hosts

  abbrev x : NodeName
  x = name_at f.names n

  abbrev y : NodeName
  y = name_at f.names k

  abbrev all : List NodeName
  all = children_of f.trees h

  abbrev mine : NodeName → Bool
  mine = is_assigned_at s y

  stands : Has f.trees h
  stands = parent-stands f.trees once x h at up

  among : In x all
  among = (child-of_parent f.trees x h once at up).1

  whole : all ≡ items_before name_eq x all ++ x ∷ items_after name_eq x all
  whole = split_at x all among

  single : Single (items_before name_eq x all ++ x ∷ items_after name_eq x all)
  single = subst Single whole (children-single f.trees h once stands)

  abbrev front : List NodeName
  front = filter mine (items_before name_eq x all)

  abbrev rear : List NodeName
  rear = filter mine (items_after name_eq x all)

  it_is : mine x ≡ true
  it_is = ap (λ o. is_in name_eq y (option_to_list o)) own ∙ ap (λ b. b || false) (name_eq-from y y refl)

  -- those that are assigned before it, it and those behind it
  assigned-parts : assigned_at s y ≡ front ++ x ∷ rear
  assigned-parts =
      ap (λ o. option_map_or (assigned_under s y) o []) hosted
      ∙ (ap (filter mine) whole
      ∙ (filter-append mine (items_before name_eq x all) (x ∷ items_after name_eq x all)
      ∙ ap (λ ys. front ++ ys) (filter-yes mine x (items_after name_eq x all) it_is)))

  in_filtered : (z : NodeName) (ys : List NodeName) → In z (filter mine ys) → In z ys
  in_filtered z ys i = (in_filter mine z ys i).1

  off_front : In x front → ⊥
  off_front i = Single-apart x (items_before name_eq x all) (x ∷ items_after name_eq x all) single (in_filtered x (items_before name_eq x all) i) (inl refl)

  off_rear : In x rear → ⊥
  off_rear i = (Single-right (items_before name_eq x all) (x ∷ items_after name_eq x all) single).0 (in_filtered x (items_after name_eq x all) i)

  apart : (z : NodeName) → In z front → In z rear → ⊥
  apart z i j = Single-apart z (items_before name_eq x all) (x ∷ items_after name_eq x all) single (in_filtered z (items_before name_eq x all) i)
      (inr (in_filtered z (items_after name_eq x all) j))

  -- behind it those are assigned that look for the name of the slot
  looks : (z : NodeName) → In z (items_after name_eq x all) → looks_for (slot_name (node_in f.trees y)) (node_in f.trees z) ≡ mine z
  looks z i =
      let first : is_first_at s h y ≡ true = (and_parts (is_first_at s h y) _ (sym (assigned-first s once h y x up) ∙ it_is)).0 in
      let parent : parent_of f.trees z ≡ Some h = (parent-of_child f.trees h z once stands (after-in x z all i)).0 in
      sym (assigned-first s once h y z parent ∙ ap (λ b. b && looks_for (slot_name (node_in f.trees y)) (node_in f.trees z)) first)

  -- the first behind it that looks for the name of the slot
  abbrev next : Option NodeName
  next = first_of (filter (λ z. looks_for (slot_name (node_in f.trees y)) (node_in f.trees z)) (items_after name_eq x (siblings f.trees x)))

  next-rear : next ≡ first_of rear
  next-rear =
      ap (λ ys. first_of (filter (λ z. looks_for (slot_name (node_in f.trees y)) (node_in f.trees z)) (items_after name_eq x ys)))
      (siblings-children f once x h at up)
      ∙ ap first_of (filter-same (λ z. looks_for (slot_name (node_in f.trees y)) (node_in f.trees z)) mine (items_after name_eq x all) looks)

  module _ (list : List ℕ) (inside : All (λ j. j < length f.names) list) (right : map (name_at f.names) list ≡ names_but x (assigned_at s y))
      (before : Option ℕ) (node : ForSome before (λ j. j < length f.names))
      (is : option_map (name_at f.names) before ≡ (if is_empty list then None else next)) where
    parts : map (name_at f.names) list ≡ front ++ rear
    parts = right ∙ (ap (names_but x) assigned-parts ∙ but-between x front rear off_front off_rear)

    parted : AreParted f.names list front rear
    parted = record { inside = inside; named = parts }

    -- of an empty list nobody stands behind it
    behind : (ks : List ℕ) → map (name_at f.names) ks ≡ front ++ rear → (if is_empty ks then None else next) ≡ first_of rear
    behind [] e = no-rear front e
      where
        no-rear : (ys : List NodeName) → [] ≡ ys ++ rear → None ≡ first_of rear
        no-rear [] e' = ap first_of e'
        no-rear (z ∷ ys) e' = absurd (none-some z (ap first_of e'))
    behind (k ∷ ks) e = next-rear

    -- with the node at its place the list is that of what is assigned
    pub joined : map (name_at f.names) (insert_before list n before) ≡ assigned_at s y
    joined = inserted-named f.names distinct n before node apart (is ∙ behind list parts) parted ∙ sym assigned-parts

    -- it was not in the list
    pub not-listed : is_in nat_eq n list ≡ false
    not-listed =
        false_from_ne_true (is_in nat_eq n list)
        (λ i. elim (In-parts x front rear (subst (In x) parts (names-in f.names n list i))) [ inl j ↦ off_front j | inr j ↦ off_rear j ])

    pub joined-inside : n < length f.names → All (λ j. j < length f.names) (insert_before list n before)
    joined-inside within = inserted-inside (λ j. j < length f.names) n within before list inside
