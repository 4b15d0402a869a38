-- Where the attributes of a list stand by their names, as one is put behind the others or taken out.
use Rattle.dom_base.proofs.Std.{◌≡◌, ℕ, zero, suc, ◌+◌, ◌-◌, Bool, true, false, cond, not, List, [], ◌∷◌, ◌++◌, length, take, Option, Some, None, refl, sym}
use Rattle.dom_base.proofs.Std.{ap, subst, ◌∙◌, arith, nat_lt, if◌then◌else◌, AllByRecursion, position, position_or_len, remove, bytes_eq, bytes_eq-Decides}
use Rattle.dom_base.proofs.Std.{ltb-true, ltb-false, lt-ltb, le-ltb, cases_Bool, inl, inr, option_map, option_or, set, slice_get, slice_index_or, same_Some}
use Rattle.dom_base.proofs.Std.{none-some, true≢false}
use Rattle.dom_base.proofs.Std.{false_from_ne_true, Vec, rc_str_bytes, Global}
use Rattle.std.specs.BTreeMap.{BTreeMap, get_by_text}
use Rattle.std.specs.Prelude.{String}
use Rattle.std.specs.declared.boxed.Box.{Box}
use Rattle.std.specs.declared.rc.RcStr.{RcStr}
use Rattle.dom_model.proofs.Model.{text_eq}
use Rattle.dom_attributes.specs.Attributes.{HaveOwnNames, attributes_under, IsIndexOf, MayIndex}
use Rattle.dom_attributes.proofs.Attributes.{text_test}
use Rattle.dom_attributes.proofs.FewAttributes.{IsAt}

-- ---- the first place, item by item

module _ {X : Type 0} (q : X → Bool) where
  position-cons : (x : X) (xs : List X) → position q (x ∷ xs) ≡ cond (q x) (Some 0) (option_map (λ p. 1 + p) (position q xs))
  position-cons x xs = by (q x)
    where
      more : (a b : ℕ) → cond (nat_lt (1 + a) (1 + b)) (Some (1 + a)) None ≡ option_map (λ p. 1 + p) (cond (nat_lt a b) (Some a) None)
      more a b = elim (cases_Bool (nat_lt a b)) [
        | inl e ↦ ap (λ c. cond c (Some (1 + a)) None) (lt-ltb (1 + a) (1 + b) (omega (arith, ltb-true a b e))) ∙
            sym (ap (λ c. option_map (λ p. 1 + p) (cond c (Some a) None)) e)
        | inr e ↦ ap (λ c. cond c (Some (1 + a)) None) (le-ltb (1 + a) (1 + b) (omega (arith, ltb-false a b e))) ∙
            sym (ap (λ c. option_map (λ p. 1 + p) (cond c (Some a) None)) e)
      ]

      by : (b : Bool) → cond (nat_lt (cond (not b) (1 + position_or_len q xs) 0) (length (x ∷ xs))) (Some (cond (not b) (1 + position_or_len q xs) 0)) None ≡
          cond b (Some 0) (option_map (λ p. 1 + p) (position q xs))
      by true = ap (λ c. cond c (Some 0) None) (lt-ltb 0 (length (x ∷ xs)) (omega arith))
      by false = ap (λ n. cond (nat_lt (1 + position_or_len q xs) n) (Some (1 + position_or_len q xs)) None) (omega arith) ∙
          more (position_or_len q xs) (length xs)

  pub off-position : (xs : List X) → AllByRecursion (λ x. q x ≡ false) xs → position q xs ≡ None
  off-position [] off = refl
  off-position (x ∷ xs) off = position-cons x xs ∙ ap (λ b. cond b (Some 0) (option_map (λ p. 1 + p) (position q xs))) off.0 ∙
      ap (option_map (λ p. 1 + p)) (off-position xs off.1)

  -- with one item more at the end
  position-push : (xs : List X) (y : X) → position q (xs ++ y ∷ []) ≡ option_or (position q xs) (cond (q y) (Some (length xs)) None)
  position-push [] y = position-cons y []
  position-push (x ∷ xs) y =
      position-cons x (xs ++ y ∷ []) ∙ ap (λ o. cond (q x) (Some 0) (option_map (λ p. 1 + p) o)) (position-push xs y) ∙ by (q x) (position q xs) (q y)
      ∙ sym (ap (λ o. option_or o (cond (q y) (Some (length (x ∷ xs))) None)) (position-cons x xs))
    where
      by : (b : Bool) (o : Option ℕ) (c : Bool) → cond b (Some 0) (option_map (λ p. 1 + p) (option_or o (cond c (Some (length xs)) None))) ≡
          option_or (cond b (Some 0) (option_map (λ p. 1 + p) o)) (cond c (Some (length (x ∷ xs))) None)
      by true o c = refl
      by false (Some p) c = refl
      by false None true = ap Some (omega arith)
      by false None false = refl

-- the place of an item once the one in another place is taken out
abbrev pub moved_up : ℕ → ℕ → ℕ
moved_up place p = if nat_lt place p then p - 1 else p

moved-later : (i p : ℕ) → moved_up (suc i) (1 + p) ≡ 1 + moved_up i p
moved-later i p = elim (cases_Bool (nat_lt i p)) [
  | inl e ↦ ap (λ b. if b then (1 + p) - 1 else 1 + p) (lt-ltb (suc i) (1 + p) (omega (arith, ltb-true i p e))) ∙ omega (arith, ltb-true i p e)
      ∙ sym (ap (λ b. 1 + (if b then p - 1 else p)) e)
  | inr e ↦ ap (λ b. if b then (1 + p) - 1 else 1 + p) (le-ltb (suc i) (1 + p) (omega (arith, ltb-false i p e))) ∙
      sym (ap (λ b. 1 + (if b then p - 1 else p)) e)
]

position-less : {X : Type 0} (own q : X → Bool) → ((x : X) → own x ≡ true → q x ≡ false) → (xs : List X) (i : ℕ) → IsAt own xs i →
    position q (remove xs i) ≡ option_map (moved_up i) (position q xs)
position-less own q apart [] i at = absurd at
position-less own q apart (x ∷ xs) zero at =
    whole (position q xs) ∙ sym (ap (option_map (moved_up 0)) (position-cons q x xs ∙
    ap (λ b. cond b (Some 0) (option_map (λ p. 1 + p) (position q xs))) (apart x at)))
  where
    whole : (o : Option ℕ) → o ≡ option_map (moved_up 0) (option_map (λ p. 1 + p) o)
    whole None = refl
    whole (Some p) = ap Some (sym (ap (λ b. if b then (1 + p) - 1 else 1 + p) (lt-ltb 0 (1 + p) (omega arith)) ∙ omega arith))
position-less own q apart (x ∷ xs) (suc i) at =
    position-cons q x (remove xs i) ∙ ap (λ o. cond (q x) (Some 0) (option_map (λ p. 1 + p) o)) (position-less own q apart xs i at.1) ∙ by (q x) (position q xs)
    ∙ sym (ap (option_map (moved_up (suc i))) (position-cons q x xs))
  where
    by : (b : Bool) (o : Option ℕ) → cond b (Some 0) (option_map (λ p. 1 + p) (option_map (moved_up i) o)) ≡
        option_map (moved_up (suc i)) (cond b (Some 0) (option_map (λ p. 1 + p) o))
    by true o = ap Some (sym (ap (λ b. if b then 0 - 1 else 0) (le-ltb (suc i) 0 (omega arith))))
    by false None = refl
    by false (Some p) = ap Some (sym (moved-later i p))

-- ---- names

texts-differ : (s t : List ℕ) → bytes_eq s t ≡ false → bytes_eq t s ≡ false
texts-differ s t e = false_from_ne_true (bytes_eq t s) (λ same. true≢false (sym ((bytes_eq-Decides s t).1 (sym ((bytes_eq-Decides t s).0 same))) ∙ e))

abbrev pub Entry : Type 0
Entry = RcStr Global × Vec ℕ Global

abbrev has_name : List ℕ → Entry → Bool
has_name t e = bytes_eq t (rc_str_bytes e.0)

-- the value of one is another
module _ (es : List Entry) (i : ℕ) (e : Entry) (v : Vec ℕ Global) (got : e ≡ slice_index_or es i e) where
  index-set : (m : BTreeMap (String Global) ℕ) → IsIndexOf m es → IsIndexOf m (set es i (e.0, v))
  index-set m index = λ t. index t ∙ sym (same t es i got)
    where
      same : (t : List ℕ) (xs : List Entry) (i : ℕ) → e ≡ slice_index_or xs i e → position (has_name t) (set xs i (e.0, v)) ≡ position (has_name t) xs
      same t [] i got = refl
      same t (x ∷ xs) zero got =
          position-cons (has_name t) (e.0, v) xs ∙ ap (λ (y : Entry). cond (has_name t y) (Some 0) (option_map (λ p. 1 + p) (position (has_name t) xs))) got
          ∙ sym (position-cons (has_name t) x xs)
      same t (x ∷ xs) (suc i) got =
          position-cons (has_name t) x (set xs i (e.0, v)) ∙ ap (λ o. cond (has_name t x) (Some 0) (option_map (λ p. 1 + p) o)) (same t xs i got)
          ∙ sym (position-cons (has_name t) x xs)

  -- where there is an index
  pub may-set : (o : Option (Box (BTreeMap (String Global) ℕ) Global)) → MayIndex o es → MayIndex o (set es i (e.0, v))
  may-set None index = tt
  may-set (Some b) index = index-set b.value index

module _ (m n : BTreeMap (String Global) ℕ) (es : List Entry) (a : List ℕ) (index : IsIndexOf m es) where
  -- one more of a name that none has
  pub index-added : (e : Entry) → rc_str_bytes e.0 ≡ a →
      ((t : List ℕ) → get_by_text n t ≡ (if bytes_eq a t then Some (length es) else get_by_text m t)) →
      AllByRecursion (λ x. has_name a x ≡ false) es → IsIndexOf n (es ++ e ∷ [])
  index-added e same noted off = λ t. noted t ∙ elim (cases_Bool (bytes_eq a t)) [
    | inl it ↦
        let is : a ≡ t = (bytes_eq-Decides a t).0 it in
        ap (λ b. if b then Some (length es) else get_by_text m t) it
        ∙ sym (position-push (has_name t) es e ∙ (λ j. option_or (none t is j) (cond (here t is j) (Some (length es)) None)))
    | inr other ↦
        ap (λ b. if b then Some (length es) else get_by_text m t) other ∙ index t ∙ sym (nothing (position (has_name t) es))
        ∙ sym (position-push (has_name t) es e ∙ ap (λ b. option_or (position (has_name t) es) (cond b (Some (length es)) None))
        (ap (bytes_eq t) same ∙ texts-differ a t other))
  ]
    where
      none : (t : List ℕ) → a ≡ t → position (has_name t) es ≡ None
      none t is = subst (λ s. position (has_name s) es ≡ None) is (off-position (has_name a) es off)

      here : (t : List ℕ) → a ≡ t → has_name t e ≡ true
      here t is = (bytes_eq-Decides t (rc_str_bytes e.0)).1 (sym is ∙ sym same)

      nothing : (o : Option ℕ) → option_or o None ≡ o
      nothing None = refl
      nothing (Some p) = refl

  -- one taken out
  pub index-less : (i : ℕ) → ((t : List ℕ) → get_by_text n t ≡ (if bytes_eq a t then None else
      option_map (λ p. if nat_lt i p then p - 1 else p) (get_by_text m t))) → IsAt (has_name a) es i → HaveOwnNames (attributes_under es) →
      IsIndexOf n (remove es i)
  index-less i forgot at own = λ t. forgot t ∙ elim (cases_Bool (bytes_eq a t)) [
    | inl it ↦
        ap (λ b. if b then None else option_map (moved_up i) (get_by_text m t)) it
        ∙ sym (subst (λ s. position (has_name s) (remove es i) ≡ None) ((bytes_eq-Decides a t).0 it)
        (off-position (has_name a) (remove es i) (alone es i at own)))
    | inr other ↦
        ap (λ b. if b then None else option_map (moved_up i) (get_by_text m t)) other ∙ ap (option_map (moved_up i)) (index t)
        ∙ sym (position-less (has_name a) (has_name t)
        (λ x has. ap (bytes_eq t) (sym ((bytes_eq-Decides a (rc_str_bytes x.0)).0 has)) ∙ texts-differ a t other) es i at)
  ]
    where
      -- those behind the first one of a name have others
      behind : (n : List ℕ) (xs : List Entry) → bytes_eq a n ≡ true → AllByRecursion (λ c. text_eq c.name n ≡ false) (attributes_under xs) →
          AllByRecursion (λ x. has_name a x ≡ false) xs
      behind n [] is off = tt
      behind n (x ∷ xs) is off = (
        ap (λ s. bytes_eq s (rc_str_bytes x.0)) ((bytes_eq-Decides a n).0 is) ∙ texts-differ (rc_str_bytes x.0) n (text_test (rc_str_bytes x.0) n ∙ off.0),
        behind n xs is off.1,
      )

      alone : (xs : List Entry) (i : ℕ) → IsAt (has_name a) xs i → HaveOwnNames (attributes_under xs) →
          AllByRecursion (λ x. has_name a x ≡ false) (remove xs i)
      alone [] i at own = absurd at
      alone (x ∷ xs) zero at own = behind (rc_str_bytes x.0) xs at own.0
      alone (x ∷ xs) (suc i) at own = (at.0, alone xs i at.1 own.1)

-- those in front of one have other names
pub names-before : (es : List Entry) (i : ℕ) (e : Entry) → slice_get es i ≡ Some e → HaveOwnNames (attributes_under es) →
    AllByRecursion (λ x. has_name (rc_str_bytes e.0) x ≡ false) (take i es)
names-before [] i e at own = absurd (none-some e at)
names-before (x ∷ es) zero e at own = tt
names-before (x ∷ es) (suc i) e at own = (text_test (rc_str_bytes e.0) (rc_str_bytes x.0) ∙ later es i at own.0, names-before es i e at own.1)
  where
    later : (xs : List Entry) (j : ℕ) → slice_get xs j ≡ Some e → AllByRecursion (λ c. text_eq c.name (rc_str_bytes x.0) ≡ false) (attributes_under xs) →
        text_eq (rc_str_bytes e.0) (rc_str_bytes x.0) ≡ false
    later [] j at off = absurd (none-some e at)
    later (y ∷ xs) zero at off = subst (λ (z : Entry). text_eq (rc_str_bytes z.0) (rc_str_bytes x.0) ≡ false) (same_Some y e at) off.0
    later (y ∷ xs) (suc j) at off = later xs j at off.1
