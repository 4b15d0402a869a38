-- The signs that a node has where selectors match it.
use Rattle.dom_selectors.proofs.Cited.{◌≡◌, ◌≤◌, ◌<◌, ◌∙◌, inl, inr, ℕ, zero, suc, Bool, true, false, true≢false, List, [], ◌∷◌, Option, Some, None, refl}
use Rattle.dom_selectors.proofs.Cited.{arith, ap, sym, subst, map, length, drop, take, take_all, get_or, not, option_map_or, is_some, and_parts, or_cases}
use Rattle.dom_selectors.proofs.Cited.{cases_Bool, codes, Trees, NodeName, Word, DomString, node_in, attribute_value, is_empty, text_eq, text_same}
use Rattle.dom_selectors.proofs.Cited.{simple_matches, value_passes, equals, has_word, of_id, of_class, AttributeTest, complex_matches, compound_matches}
use Rattle.dom_selectors.proofs.Cited.{selector_matches, last_compound, complex_view}
use Rattle.dom_base.proofs.Std.{◌⊎◌, max}
use Rattle.std.specs.Prelude.{bit_and, bit_or, ◌||◌, ◌-◌}
use Rattle.std.specs.Int.{bit_at}
use Rattle.std.proofs.lemmas.Nat.Bits.{bit_at_and, bit_at_or, bit_at-lt, bit_at-zero}
use Rattle.dom_model.specs.Selectors.{has_space, attribute_passes}
use Rattle.dom_attributes.specs.Signs.{HasBits, element_bits, attribute_bits, class_bits, id_bits}
use Rattle.dom_selectors.specs.Signs.{CompoundShows, SelectorShows, Shows}
use Rattle.dom_selectors.specs.declared.selector.Complex.{Complex as Read}
use Rattle.dom_selectors.proofs.Chains.{not_last}

-- ---- bits

-- a bit of both is one of either
of_either : (a b : ℕ) → a < 2 → max a b ≡ 1 → (a ≡ 1) ⊎ (b ≡ 1)
of_either zero b below on = inr (omega (arith, on))
of_either (suc zero) b below on = inl refl
of_either (suc (suc n)) b below on = absurd (omega (arith, below))

-- the common bits are those of each
pub common_left : (a b : ℕ) → HasBits a (bit_and a b)
common_left a b i on = omega (arith, bit_at_and a b i, bit_at-lt a i, bit_at-lt b i, on)

pub common_right : (a b : ℕ) → HasBits b (bit_and a b)
common_right a b i on = omega (arith, bit_at_and a b i, bit_at-lt a i, bit_at-lt b i, on)

-- ---- values

-- an attribute that passes has a value
valued : {C : Type 0} (test : DomString → Bool) (o : Option DomString) → option_map_or test o false ≡ true →
    ((v : DomString) → o ≡ Some v → test v ≡ true → C) → C
valued test None e have = absurd (true≢false (sym e))
valued test (Some v) e have = have v refl e

there : (o : Option DomString) → is_some o ≡ true → (v : DomString) × (o ≡ Some v)
there None e = absurd (true≢false (sym e))
there (Some v) e = (v, refl)

module _ (ts : Trees) (x : NodeName) where
  -- ---- signs that a node has

  -- none
  pub none_shown : Shows ts x 0
  none_shown s cover i on = absurd (omega (arith, bit_at-zero i, on))

  -- some, and others
  pub both_shown : (a b : ℕ) → Shows ts x a → Shows ts x b → Shows ts x (bit_or a b)
  both_shown a b left right s cover i on = elim (of_either (bit_at a i) (bit_at b i) (bit_at-lt a i) (sym (bit_at_or a b i) ∙ on)) [
    | inl here ↦ left s cover i here
    | inr here ↦ right s cover i here
  ]

  -- fewer
  pub fewer_shown : (a b : ℕ) → HasBits a b → Shows ts x a → Shows ts x b
  fewer_shown a b has all s cover i on = all s cover i (has i on)

  -- ---- those of simple selectors

  pub type_shown : (a : Word) → text_eq (node_in ts x).element a ≡ true → Shows ts x (element_bits a)
  type_shown a e s cover = subst (λ (n : Word). HasBits s.bits (element_bits n)) (text_same (node_in ts x).element a e) cover.named

  pub attribute_shown : (a : Word) → is_some (attribute_value (node_in ts x) a) ≡ true → Shows ts x (attribute_bits a)
  attribute_shown a e s cover = let v = there (attribute_value (node_in ts x) a) e in cover.attributed a v.0 v.1

  pub value_shown : (a : Word) (t : AttributeTest) (w : DomString) → attribute_passes (node_in ts x) a t w ≡ true → Shows ts x (attribute_bits a)
  value_shown a t w e s cover = valued (value_passes t w) (attribute_value (node_in ts x) a) e (λ v is passes. cover.attributed a v is)

  pub id_shown : (w : DomString) → simple_matches ts x (of_id w) ≡ true → Shows ts x (bit_or (attribute_bits (codes "id")) (id_bits w))
  id_shown w e = both_shown (attribute_bits (codes "id")) (id_bits w) (value_shown (codes "id") equals w e)
      (λ s cover. valued (value_passes equals w) (attribute_value (node_in ts x) (codes "id")) e
      (λ v is passes. subst (λ (n : DomString). HasBits s.bits (id_bits n)) (text_same v w passes) (cover.identified v is)))

  pub class_shown : (w : DomString) → simple_matches ts x (of_class w) ≡ true → Shows ts x (bit_or (attribute_bits (codes "class")) (class_bits w))
  class_shown w e = both_shown (attribute_bits (codes "class")) (class_bits w) (value_shown (codes "class") has_word w e)
      (λ s cover. valued (value_passes has_word w) (attribute_value (node_in ts x) (codes "class")) e
      (λ v is passes. cover.classed v w is (and_parts (not (is_empty w || has_space w)) _ passes).1))

-- ---- those of selectors

-- one more complex selector shows what its compound on the right does
pub one_more_shows : (bits : ℕ) (c : Read) (cs : List Read) → CompoundShows (last_compound (complex_view c)) bits →
    SelectorShows (map complex_view cs) bits → SelectorShows (map complex_view (c ∷ cs)) bits
one_more_shows bits c cs one rest ts x e = elim (or_cases (complex_matches ts (complex_view c) x) (selector_matches ts (map complex_view cs) x) e) [
  | inl m ↦ elim (cases_Bool (compound_matches ts (last_compound (complex_view c)) x)) [
    | inl h ↦ one ts x h
    | inr h ↦ absurd (true≢false (sym m ∙ not_last ts (complex_view c) x h))
  ]
  | inr m ↦ rest ts x m
]

-- those behind the first are all others
pub all_others : (c : Read) (cs : List Read) → take (length (c ∷ cs) - 1) cs ≡ cs
all_others c cs =
    let same : length (c ∷ cs) - 1 ≡ length cs = omega arith in
    ap (λ n. take n cs) same ∙ take_all (length cs) cs (omega arith)

-- so where the first is followed by others
pub rest_shows : (bits : ℕ) (cs : List Read) (d : Read) → 1 ≤ length cs → CompoundShows (last_compound (complex_view (get_or cs 0 d))) bits →
    SelectorShows (map complex_view (take (length cs - 1) (drop 1 cs))) bits → SelectorShows (map complex_view cs) bits
rest_shows bits [] d some one rest = absurd (omega (arith, some))
rest_shows bits (c ∷ cs) d some one rest =
    one_more_shows bits c cs one (subst (λ (ds : List Read). SelectorShows (map complex_view ds) bits) (all_others c cs) rest)
