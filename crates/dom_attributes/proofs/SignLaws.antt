-- What signs have: bits of a union, of what a node has, and of what it gets.
use Rattle.dom_base.proofs.Std.{◌≡◌, ◌+◌, ◌∙◌, ◌⊎◌, ◌++◌, ◌∷◌, [], inl, inr, ℕ, zero, suc, Bool, true, false, List, Some, arith, refl, sym, ap, subst, cond}
use Rattle.dom_base.proofs.Std.{drop, take, length, fold, fold-append, slice_index_or, codes, cases_Bool, or_cases, none-some, same_Some}
use Rattle.dom_base.proofs.Std.{drop_more, take_more, drop_of_length-le, get_or_from_slice_get, slice_get_within, ◌<◌, ◌≤◌, min}
use Rattle.std.specs.Prelude.{bit_and, bit_or, slice_get}
use Rattle.std.specs.List.{list_any}
use Rattle.std.specs.Int.{bit_at}
use Rattle.std.proofs.lemmas.Nat.Bits.{bit_at_and, bit_at_or, bit_at-lt, same_from_bits}
use Rattle.dom_model.proofs.Model.{Word, words_from, text_eq, Attribute, attributes_with, attributes_without}
use Rattle.dom_model.specs.Names.{DomString}
use Rattle.dom_model.specs.Selectors.{is_space}
use Rattle.dom_attributes.specs.Attributes.{HaveOwnNames, value_among, attribute_from}
use Rattle.dom_attributes.specs.Signs.{mix, bits_of, element_bits, attribute_bits, class_bits, id_bits, HasBits, Cover, Gains}
use Rattle.dom_attributes.specs.declared.signs.Signs.{Signs}
use Rattle.dom_attributes.proofs.AttributeValues.{text_same, text_eq-same, other_name, value-here, value-behind, value-set, value-set_other}
use Rattle.dom_attributes.proofs.AttributeValues.{value-removed, value-removed_other}

-- ---- bits

pub has_left : (a b : ℕ) → HasBits (bit_or a b) a
has_left a b i h = omega (arith, bit_at_or a b i, bit_at-lt b i, h)

pub has_right : (a b : ℕ) → HasBits (bit_or a b) b
has_right a b i h = omega (arith, bit_at_or a b i, bit_at-lt a i, h)

-- the test of the code
pub has_from : (a b : ℕ) → bit_and a b ≡ b → HasBits a b
has_from a b same i h = omega (arith, bit_at_and a b i, ap (λ n. bit_at n i) same, bit_at-lt a i, h)

pub has_same : (a b : ℕ) → HasBits a b → bit_and a b ≡ b
has_same a b has = same_from_bits (bit_and a b) b (λ i. bit_at_and a b i ∙ at (bit_at a i) (bit_at b i) (bit_at-lt b i) (has i))
  where
    at : (x y : ℕ) → y < 2 → (y ≡ 1 → x ≡ 1) → min x y ≡ y
    at x zero below h = omega arith
    at x (suc zero) below h = omega (arith, h refl)
    at x (suc (suc y)) below h = absurd (omega (arith, below))

-- ---- the classes in a value, as far as it is read

pub record AreClassed (value : DomString) (bits number index : ℕ) : Type 0 where
  pub word : DomString
  pub numbered : number ≡ fold mix 3 word
  pub classed : (w : DomString) → list_any (text_eq w) (words_from [] value) ≡ true →
      HasBits bits (class_bits w) ⊎ (list_any (text_eq w) (words_from word (drop index value)) ≡ true)

pub classed-none : (value : DomString) → AreClassed value 0 3 0
classed-none value = record { word = []; numbered = refl; classed = λ w h. inr h }

-- the word so far is the class
pub class_here : (w word : DomString) (number : ℕ) → number ≡ fold mix 3 word → text_eq w word ≡ true → bits_of number ≡ class_bits w
class_here w word number is same = ap bits_of (is ∙ ap (fold mix 3) (sym (text_same w word same)))

-- what is read from a unit on
from_unit : (w word rest : DomString) (c : ℕ) {b : Bool} → is_space c ≡ b → list_any (text_eq w) (words_from word (c ∷ rest)) ≡ true →
    list_any (text_eq w) (cond b (word ∷ words_from [] rest) (words_from (word ++ c ∷ []) rest)) ≡ true
from_unit w word rest c is h = subst (λ b. list_any (text_eq w) (cond b (word ∷ words_from [] rest) (words_from (word ++ c ∷ []) rest)) ≡ true) is h

module _ (value : DomString) (bits number index : ℕ) (within : index < length value) where
  pub classed-space : is_space (slice_index_or value index 0) ≡ true → AreClassed value bits number index →
      AreClassed value (bit_or bits (bits_of number)) 3 (index + 1)
  classed-space space so_far = record {
    word = [];
    numbered = refl;
    classed = λ w h. elim (so_far.classed w h) [
      | inl has ↦ inl (λ i on. has_left bits (bits_of number) i (has i on))
      | inr more ↦ elim (or_cases (text_eq w so_far.word) (list_any (text_eq w) (words_from [] (drop (index + 1) value)))
          (from_unit w so_far.word (drop (index + 1) value) (slice_index_or value index 0) space
          (subst (λ cs. list_any (text_eq w) (words_from so_far.word cs) ≡ true) (drop_more value index 0 within) more))) [
            | inl same ↦ inl (λ i on. has_right bits (bits_of number) i
                (subst (λ n. bit_at n i ≡ 1) (sym (class_here w so_far.word number so_far.numbered same)) on))
            | inr rest ↦ inr rest
          ]
    ];
  }

  pub classed-unit : is_space (slice_index_or value index 0) ≡ false → AreClassed value bits number index →
      AreClassed value bits (mix number (slice_index_or value index 0)) (index + 1)
  classed-unit other so_far = record {
    word = so_far.word ++ slice_index_or value index 0 ∷ [];
    numbered = ap (λ n. mix n (slice_index_or value index 0)) so_far.numbered ∙ sym (fold-append mix 3 so_far.word (slice_index_or value index 0 ∷ []));
    classed = λ w h. elim (so_far.classed w h) [
      | inl has ↦ inl has
      | inr more ↦ inr (from_unit w so_far.word (drop (index + 1) value) (slice_index_or value index 0) other
          (subst (λ cs. list_any (text_eq w) (words_from so_far.word cs) ≡ true) (drop_more value index 0 within) more))
    ];
  }

pub classed-all : {value : DomString} {bits number index : ℕ} → length value ≤ index → AreClassed value bits number index → (w : DomString) →
    list_any (text_eq w) (words_from [] value) ≡ true → HasBits (bit_or bits (bits_of number)) (class_bits w)
classed-all {value} {bits} {number} {index} end so_far w h = elim (so_far.classed w h) [
  | inl has ↦ λ i on. has_left bits (bits_of number) i (has i on)
  | inr more ↦ elim (or_cases (text_eq w so_far.word) false
      (subst (λ cs. list_any (text_eq w) (words_from so_far.word cs) ≡ true) (drop_of_length-le value end) more)) [
        | inl same ↦ λ i on. has_right bits (bits_of number) i
            (subst (λ n. bit_at n i ≡ 1) (sym (class_here w so_far.word number so_far.numbered same)) on)
        | inr none ↦ absurd (cc)
      ]
]

-- ---- attributes that are set, added or taken away

-- the value of an attribute is that which is set, or was there
with_cases : {a n : Word} {v u : DomString} (bs : List Attribute) → value_among a (attributes_with n v bs) ≡ Some u →
    ((a ≡ n) × (v ≡ u)) ⊎ (value_among a bs ≡ Some u)
with_cases {a} {n} {v} {u} bs e = elim (cases_Bool (text_eq a n)) [
  | inl same ↦ let is = text_same a n same in
      inl (is, same_Some v u (sym (value-set n v bs) ∙ (ap (λ m. value_among m (attributes_with n v bs)) (sym is) ∙ e)))
  | inr other ↦ inr (sym (value-set_other n a (λ is. other_name a n other (sym is)) v bs) ∙ e)
]

-- and where one more stands last, that or what is there
pushed_cases : (a : Word) (c : Attribute) (u : DomString) (bs : List Attribute) → value_among a (bs ++ c ∷ []) ≡ Some u →
    ((a ≡ c.name) × (c.value ≡ u)) ⊎ (value_among a bs ≡ Some u)
pushed_cases a c u [] e = elim (cases_Bool (text_eq a c.name)) [
  | inl same ↦ inl (text_same a c.name same, same_Some c.value u (sym (value-here a c [] same) ∙ e))
  | inr other ↦ absurd (none-some u (sym (value-behind a c [] other) ∙ e))
]
pushed_cases a c u (b ∷ bs) e = elim (cases_Bool (text_eq a b.name)) [
  | inl same ↦ inr (value-here a b bs same ∙ (sym (value-here a b (bs ++ c ∷ []) same) ∙ e))
  | inr other ↦ elim (pushed_cases a c u bs (sym (value-behind a b (bs ++ c ∷ []) other) ∙ e)) [
    | inl this ↦ inl this
    | inr behind ↦ inr (value-behind a b bs other ∙ behind)
  ]
]

-- whose values are those of an attribute that is gained, or were there
abbrev pub OnlyGains : Word → DomString → List Attribute → List Attribute → Type 0
OnlyGains n v bs cs = (a : Word) (u : DomString) → value_among a cs ≡ Some u → ((a ≡ n) × (v ≡ u)) ⊎ (value_among a bs ≡ Some u)

named_same : (a n : Word) → a ≡ n → text_eq n a ≡ true
named_same a n is = subst (λ (m : Word). text_eq n m ≡ true) (sym is) (text_eq-same n)

pub cover-gained : {s t : Signs} {n : Word} {v : DomString} {element : Word} {bs cs : List Attribute} → Gains s.bits t.bits n v →
    OnlyGains n v bs cs → Cover s element bs → Cover t element cs
cover-gained {s} {t} {n} {v} {element} {bs} {cs} gains only cover = record {
  named = λ i on. gains.kept i (cover.named i on);
  attributed = λ a u e. elim (only a u e) [
    | inl this ↦ subst (λ (m : Word). HasBits t.bits (attribute_bits m)) (sym this.0) gains.attributed
    | inr there ↦ λ i on. gains.kept i (cover.attributed a u there i on)
  ];
  classed = λ u w e among. elim (only (codes "class") u e) [
    | inl this ↦ gains.classed (named_same (codes "class") n this.0) w
        (subst (λ (x : DomString). list_any (text_eq w) (words_from [] x) ≡ true) (sym this.1) among)
    | inr there ↦ λ i on. gains.kept i (cover.classed u w there among i on)
  ];
  identified = λ u e. elim (only (codes "id") u e) [
    | inl this ↦ subst (λ (x : DomString). HasBits t.bits (id_bits x)) this.1 (gains.identified (named_same (codes "id") n this.0))
    | inr there ↦ λ i on. gains.kept i (cover.identified u there i on)
  ];
}

pub cover-with : {s t : Signs} {n : Word} {v : DomString} → Gains s.bits t.bits n v → (element : Word) (bs : List Attribute) → Cover s element bs →
    Cover t element (attributes_with n v bs)
cover-with gains element bs cover = cover-gained gains (λ a u e. with_cases bs e) cover

pub cover-none : (s : Signs) (element : Word) → s.bits ≡ element_bits element → Cover s element []
cover-none s element is = record {
  named = λ i on. subst (λ n. bit_at n i ≡ 1) (sym is) on;
  attributed = λ a u e. absurd (none-some u e);
  classed = λ u w e. absurd (none-some u e);
  identified = λ u e. absurd (none-some u e);
}

-- one attribute more of a list
pub cover-more : {s t : Signs} {n : Word} {v : DomString} {element : Word} (bs : List Attribute) (i : ℕ) →
    slice_get bs i ≡ Some (attribute_from n v) → Gains s.bits t.bits n v → Cover s element (take i bs) → Cover t element (take (i + 1) bs)
cover-more {n} {v} {element} bs i is gains cover =
    cover-gained gains (λ a u e. pushed_cases a (attribute_from n v) u (take i bs)
    (subst (λ (cs : List Attribute). value_among a cs ≡ Some u) (more) e)) cover
  where
    more : take (i + 1) bs ≡ take i bs ++ attribute_from n v ∷ []
    more = take_more bs i (attribute_from n v) (slice_get_within bs i (attribute_from n v) is)
        ∙ ap (λ c. take i bs ++ c ∷ []) (get_or_from_slice_get bs i (attribute_from n v) (attribute_from n v) is)

-- an attribute that is taken away
pub cover-without : {s : Signs} {element : Word} (n : Word) (bs : List Attribute) → HaveOwnNames bs → Cover s element bs →
    Cover s element (attributes_without n bs)
cover-without {s} {element} n bs own cover = record {
  named = cover.named;
  attributed = λ a u e. cover.attributed a u (there a u e);
  classed = λ u w e. cover.classed u w (there (codes "class") u e);
  identified = λ u e. cover.identified u (there (codes "id") u e);
}
  where
    there : (a : Word) (u : DomString) → value_among a (attributes_without n bs) ≡ Some u → value_among a bs ≡ Some u
    there a u e = elim (cases_Bool (text_eq a n)) [
      | inl same ↦ absurd (none-some u (sym (ap (λ (m : Word). value_among m (attributes_without n bs)) (text_same a n same) ∙ value-removed n bs own) ∙ e))
      | inr other ↦ sym (value-removed_other n a (λ is. other_name a n other (sym is)) bs) ∙ e
    ]
