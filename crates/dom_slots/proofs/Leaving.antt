-- Lists that a node leaves.
use Rattle.dom_base.proofs.Std.{◌≡◌, ℕ, ◌<◌, Bool, true, false, not, ◌&&◌, ◌||◌, ◌==◌, List, [], ◌∷◌, ◌++◌, All, map, filter, length, Option, Some, refl, sym}
use Rattle.dom_base.proofs.Std.{ap, subst, ◌∙◌, true≢false, nat_eq, if◌then◌else◌, option_to_list, option_map, eqb-true, eq-eqb, or_parts, false_from_ne_true}
use Rattle.dom_base.proofs.Std.{All-head, All-tail, All-filter}
use Rattle.dom_model.proofs.Model.{NodeName, name_eq, list_eq, is_in, append_once, name_eq-turned}
use Rattle.dom_tree.specs.Definitions.{NamedTrees, name_at, TellApart}
use Rattle.node_arena.specs.Nodes.{without}
use Rattle.dom_slots.specs.Definitions.{ShadowHost, AreRenewed, Renews, names_but, shadows, assigned_at, SlotTable, list_of}
use Rattle.dom_slots.proofs.Hosted.{key-test}
use Rattle.dom_slots.proofs.Renewing.{same_keys, renewed-more}

-- ---- keys

without-out : (n : ℕ) (xs : List ℕ) → is_in nat_eq n (without n xs) ≡ false
without-out n [] = refl
without-out n (x ∷ xs) = by (nat_eq x n) refl (without-out n xs)
  where
    by : (d : Bool) → nat_eq x n ≡ d → is_in nat_eq n (without n xs) ≡ false → is_in nat_eq n (if not d then x ∷ without n xs else without n xs) ≡ false
    by true e rest = rest
    by false e rest = ap (λ d. d || is_in nat_eq n (without n xs))
        (false_from_ne_true (nat_eq n x) (λ same. true≢false (sym (eq-eqb x n (sym (eqb-true n x same))) ∙ e))) ∙ rest

-- a list in which the node does not stand is the same
pub without-same : (n : ℕ) (xs : List ℕ) → is_in nat_eq n xs ≡ false → without n xs ≡ xs
without-same n [] e = refl
without-same n (x ∷ xs) e = by (nat_eq x n) refl (without-same n xs parts.1)
  where
    parts : (nat_eq n x ≡ false) × (is_in nat_eq n xs ≡ false)
    parts = or_parts (nat_eq n x) (is_in nat_eq n xs) e

    by : (d : Bool) → nat_eq x n ≡ d → without n xs ≡ xs → (if not d then x ∷ without n xs else without n xs) ≡ x ∷ xs
    by true i rest = absurd (true≢false (sym (eq-eqb n x (sym (eqb-true x n i))) ∙ parts.0))
    by false i rest = ap (λ ys. x ∷ ys) rest

pub list_same : (xs : List ℕ) → list_eq nat_eq xs xs ≡ true
list_same [] = refl
list_same (x ∷ xs) = ap (λ b. b && list_eq nat_eq xs xs) (eq-eqb x x refl) ∙ list_same xs

-- a list is another one without a node just where the node stands in it
pub without-differs : (n : ℕ) (xs : List ℕ) → is_in nat_eq n xs ≡ not (list_eq nat_eq xs (without n xs))
without-differs n xs = by (is_in nat_eq n xs) refl
  where
    by : (d : Bool) → is_in nat_eq n xs ≡ d → d ≡ not (list_eq nat_eq xs (without n xs))
    by false e = sym (ap (λ ys. not (list_eq nat_eq xs ys)) (without-same n xs e) ∙ ap not (list_same xs))
    by true e = sym (ap not (false_from_ne_true (list_eq nat_eq xs (without n xs))
        (λ same. true≢false (sym e ∙ (ap (is_in nat_eq n) (same_keys xs (without n xs) same) ∙ without-out n xs)))))

-- the lists after that of one slot was changed, by the list that it had
pub at-slot : (change : List ℕ → List ℕ) (k : ℕ) (table new : SlotTable) →
    ((j : ℕ) → list_of new j ≡ (if nat_eq k j then change (list_of table j) else list_of table j))
    → (j : ℕ) → list_of new j ≡ (if nat_eq k j then change (list_of table k) else list_of table j)
at-slot change k table new lists j = lists j ∙ by (nat_eq k j) refl
  where
    by : (d : Bool) → nat_eq k j ≡ d → (if d then change (list_of table j) else list_of table j) ≡ (if d then change (list_of table k) else list_of table j)
    by true e = ap (λ i. change (list_of table i)) (sym (eqb-true k j e))
    by false e = refl

-- ---- names

module _ (names : List NodeName) (distinct : TellApart names) (n : ℕ) (node : n < length names) where
  -- a list of names without the name of a node is that of the keys without it
  pub without-named : (ks : List ℕ) → All (λ k. k < length names) ks → map (name_at names) (without n ks) ≡ names_but (name_at names n) (map (name_at names) ks)
  without-named [] inside = refl
  without-named (k ∷ ks) inside = by (nat_eq k n) (name_eq (name_at names n) (name_at names k)) same
      (without-named ks (All-tail (λ j. j < length names) k ks inside))
    where
      same : nat_eq k n ≡ name_eq (name_at names n) (name_at names k)
      same = key-test names distinct k n (All-head (λ j. j < length names) k ks inside) node ∙ name_eq-turned (name_at names k) (name_at names n)

      by : (d e : Bool) → d ≡ e → map (name_at names) (without n ks) ≡ names_but (name_at names n) (map (name_at names) ks)
          → map (name_at names) (if not d then k ∷ without n ks else without n ks) ≡
          (if not e then name_at names k ∷ names_but (name_at names n) (map (name_at names) ks) else names_but (name_at names n)
          (map (name_at names) ks))
      by true true is rest = rest
      by false false is rest = ap (λ ys. name_at names k ∷ ys) rest
      by true false is rest = absurd (true≢false is)
      by false true is rest = absurd (true≢false (sym is))

-- A node was taken out of the list of a slot.
module _ (f : NamedTrees) (distinct : TellApart f.names) (hosts : List ShadowHost) {slot : Option ℕ} {k : ℕ} (is : slot ≡ Some k)
    (within : k < length f.names) (node : ℕ) {inside table new : SlotTable} (same : inside ≡ table) {stood : Bool}
    (told : stood ≡ is_in nat_eq node (list_of inside k))
    (lists : (j : ℕ) → list_of new j ≡ (if nat_eq k j then without node (list_of inside j) else list_of inside j))
    (right : (j : ℕ) → slot ≡ Some j → map (name_at f.names) (without node (list_of table j)) ≡ assigned_at (shadows f hosts) (name_at f.names j)) where
  -- its list is renewed, and it is signalled where the node stood there
  pub renews-left : {keys next : List ℕ} → next ≡ (if stood then append_once nat_eq keys k else keys) →
      Renews f hosts (option_to_list (option_map (name_at f.names) slot)) table keys new next
  renews-left {keys} {next} are p old done told_before r =
      subst (λ o. AreRenewed f hosts p old (done ++ option_to_list (option_map (name_at f.names) o))
      (told_before ++ filter p (option_to_list (option_map (name_at f.names) o))) new next) (sym is)
      (renewed-more f distinct hosts p old done told_before table keys r k within (without node (list_of table k)) (right k is)
      (All-filter (λ j. not (j == node)) (λ j. j < length f.names) (list_of table k) (r.nodes k)) new
      (at-slot (without node) k table new
      (λ j. lists j ∙ ap (λ (t : SlotTable). if nat_eq k j then without node (list_of t j) else list_of t j) same)) next
      (are ∙ ap (λ (b : Bool). if b then append_once nat_eq keys k else keys)
      (told ∙ (ap (λ (t : SlotTable). is_in nat_eq node (list_of t k)) same ∙ without-differs node (list_of table k)))))
