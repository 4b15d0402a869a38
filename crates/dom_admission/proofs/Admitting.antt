-- Nodes that a line names are looked up once, and the line passes or is refused by what was found.
use Rattle.dom_admission.proofs.Cited.{◌≡◌, ℕ, Bool, true, false, not, ◌&&◌, List, [], ◌∷◌, Option, Some, None, Result, Ok, Err, refl, sym, ap, ◌∙◌, IsErrAnd}
use Rattle.dom_admission.proofs.Cited.{map, is_some, option_map_or, list_all, DocState, name_in, NodeWord, word_view, Operand, passing, accepts_node}
use Rattle.dom_admission.proofs.Cited.{four_tests, node_named, name_named, is_counted, is_there_as, is_fit, is_kind_at, has_foreign, are_there, are_fitting}
use Rattle.dom_admission.proofs.Cited.{early_refusal, IsLookedUp}
use Rattle.dom_model.proofs.Model.{Owner, node_of, node_in, has_node, named, Fault, Refusal, Busy, Foreign, Unknown, WrongKind, first_refusal, Part, part_of}
use Rattle.dom_model.proofs.Model.{is_there, is_busy}
use Rattle.dom_admission.proofs.Finding.{told_here}

-- a refusal that is handed on
pub passing_err : {A : Type 0} {f : Fault} (q : Result A Fault) → IsErrAnd q (λ e. e ≡ f) → passing q ≡ Err f
passing_err (Ok x) h = absurd h
passing_err (Err e) h = ap Err h

-- what is said of a node that is named by its word
module _ (p : Part) (n : Operand) (x : NodeWord) (is : node_named n ≡ Some x) where
  pub name_of_word : name_named p n ≡ named p (word_view x)
  name_of_word = λ j. option_map_or (λ y. named p (word_view y)) (is j) (node_of p.owner 0)

  pub there_by_word : is_there_as p n ≡ has_node p.trees (named p (word_view x))
  there_by_word = λ j. option_map_or (λ y. has_node p.trees (named p (word_view y))) (is j) (is_counted p n)

  pub fit_by_word : is_fit p n ≡ accepts_node n (node_in p.trees (named p (word_view x)))
  fit_by_word = λ j. option_map_or (λ y. accepts_node n (node_in p.trees (named p (word_view y)))) (is j) true

module _ (s : DocState) (o : Owner) where
  -- the kind of a node is asked of its key
  pub kind_by_word : (n : Operand) (key : ℕ) (x : NodeWord) → node_named n ≡ Some x → name_in s key ≡ named (part_of s.world o) (word_view x) →
      is_kind_at s n key ≡ is_fit (part_of s.world o) n
  kind_by_word n key x is name =
      told_here s o (word_view x) key name (λ p y. accepts_node n (node_in p.trees y))
      ∙ sym (fit_by_word (part_of s.world o) n x is)

  kind_by_key : (n : Operand) (key : ℕ) → is_some (node_named n) ≡ true → name_in s key ≡ name_named (part_of s.world o) n →
      is_kind_at s n key ≡ is_fit (part_of s.world o) n
  kind_by_key n key node name = by (node_named n) refl node
    where
      by : (m : Option NodeWord) → node_named n ≡ m → is_some m ≡ true → is_kind_at s n key ≡ is_fit (part_of s.world o) n
      by None is h = absurd cc
      by (Some x) is h = kind_by_word n key x is (name ∙ name_of_word (part_of s.world o) n x is)

  -- nodes that are named, as they were looked up
  abbrev pub AreLookedUp : List (Operand × Option ℕ) → Type 0
  AreLookedUp [] = Unit {0}
  AreLookedUp (x ∷ xs) = (is_some (node_named x.0) ≡ true) × IsLookedUp s o x.0 x.1 × AreLookedUp xs

  abbrev present : List (Operand × Option ℕ) → Bool
  present xs = list_all (λ x. is_some x.1) xs

  abbrev fitting : List (Operand × Option ℕ) → Bool
  fitting xs = list_all (λ x. option_map_or (is_kind_at s x.0) x.1 false) xs

  present-is : (xs : List (Operand × Option ℕ)) → AreLookedUp xs → present xs ≡ are_there (part_of s.world o) (map (λ x. x.0) xs)
  present-is [] h = refl
  present-is (x ∷ xs) h = λ j. h.1.there j && present-is xs h.2 j

  fitting-is : (xs : List (Operand × Option ℕ)) → AreLookedUp xs → present xs ≡ true → fitting xs ≡ are_fitting (part_of s.world o) (map (λ x. x.0) xs)
  fitting-is [] h there = refl
  fitting-is ((n, None) ∷ xs) h there = absurd cc
  fitting-is ((n, Some k) ∷ xs) h there = λ j. kind_by_key n k h.0 (h.1.found k refl).name j && fitting-is xs h.2 there j

  owner-is : (n : Operand) (r : Option ℕ) (xs : List (Operand × Option ℕ)) → AreLookedUp ((n, r) ∷ xs) → present ((n, r) ∷ xs) ≡ true →
      is_there s.world o ≡ true
  owner-is n None xs h there = absurd cc
  owner-is n (Some k) xs h there = (h.1.found k refl).owner

  -- the tests by what was found are those by what is there
  module _ (n : Operand) where
    pub admitted : (r : Option ℕ) (xs : List (Operand × Option ℕ)) → AreLookedUp ((n, r) ∷ xs) → {f p k : Bool} →
        f ≡ has_foreign (n ∷ map (λ x. x.0) xs) → p ≡ present ((n, r) ∷ xs) → k ≡ fitting ((n, r) ∷ xs) →
        four_tests (is_busy s.world o) f p k ≡ early_refusal s.world o (n ∷ map (λ x. x.0) xs)
    admitted r xs h spelled there fits =
        (λ j. four_tests (is_busy s.world o) (spelled j) (there j) (fits j))
        ∙ by (is_busy s.world o) (has_foreign (n ∷ map (λ x. x.0) xs)) (is_there s.world o) (present ((n, r) ∷ xs)) (fitting ((n, r) ∷ xs))
        (λ e. (owner-is n r xs h e, fitting-is ((n, r) ∷ xs) h e)) ∙ (λ j. tests (is_busy s.world o) (has_foreign (n ∷ map (λ x. x.0) xs))
        (is_there s.world o) (present-is ((n, r) ∷ xs) h j) (are_fitting (part_of s.world o) (n ∷ map (λ x. x.0) xs)))
      where
        tests : Bool → Bool → Bool → Bool → Bool → Option Refusal
        tests b f t p k = first_refusal ((b, Busy) ∷ (f, Foreign) ∷ (not t, Unknown) ∷ (not p, Unknown) ∷ (not k, WrongKind) ∷ [])

        by : (b f t p k : Bool) {l : Bool} → (p ≡ true → (t ≡ true) × (k ≡ l)) → four_tests b f p k ≡ tests b f t p l
        by true f t p k same = refl
        by false true t p k same = refl
        by false false t true k same =
            λ j. first_refusal ((not (sym (same refl).0 j), Unknown) ∷ (false, Unknown) ∷ (not ((same refl).1 j), WrongKind) ∷ [])
        by false false true false k same = refl
        by false false false false k same = refl
