-- Words of strings, and fronts of strings.
use Rattle.dom_selectors.proofs.Cited.{◌≡◌, ℕ, ◌<◌, Bool, true, false, List, [], ◌∷◌, ◌++◌, length, drop, zero, suc, ◌≤◌, refl, ap, sym, ◌∙◌, arith, not}
use Rattle.dom_selectors.proofs.Cited.{◌&&◌, ◌||◌, ◌==◌, nat_eq, Option, Some, None, if◌then◌else◌, starts_with, list_any, none-some, DomString, text_eq}
use Rattle.dom_selectors.proofs.Cited.{and_parts, cases_Bool, eqb-true, has_word, is_empty, or_cases, true≢false, value_passes}
use Rattle.dom_selectors.proofs.Cited.{is_space, words_from, begins_with_word, behind_space, is_among}
use Rattle.dom_base.proofs.Std.{and_right, inl, inr, not-true}
use Rattle.dom_model.specs.Selectors.{has_space}

-- a front of two parts stands where the first does and the second behind it
pub behind_front : (front more text : List ℕ) →
    starts_with nat_eq text (front ++ more) ≡ (starts_with nat_eq text front && starts_with nat_eq (drop (length front) text) more)
behind_front [] more text = refl
behind_front (x ∷ front) more [] = refl
behind_front (x ∷ front) more (c ∷ text) =
    elim (nat_eq x c) as (λ b. (b && starts_with nat_eq text (front ++ more)) ≡
    ((b && starts_with nat_eq text front) && starts_with nat_eq (drop (length front) text) more)) [
      | true ↦ behind_front front more text
      | false ↦ refl
    ]

-- what is left of a word behind a front
abbrev left_of : DomString → DomString → Option DomString
left_of [] word = Some word
left_of (c ∷ cs) [] = None
left_of (c ∷ cs) (x ∷ xs) = if x == c then left_of cs xs else None

-- whether what is left of a word stands in front of a string
abbrev begins : Option DomString → DomString → Bool
begins None cs = false
begins (Some word) cs = begins_with_word word cs

-- nothing is left of a word behind itself alone
done : (front word : DomString) → text_eq word front ≡ begins (left_of front word) []
done (c ∷ cs) (x ∷ xs) = elim (x == c) as (λ b. (b && text_eq xs cs) ≡ begins (if b then left_of cs xs else None) []) [
  | true ↦ done cs xs
  | false ↦ refl
]
done [] (x ∷ xs) = refl
done front word = refl

-- what is left behind one unit more
abbrev left_behind : Option DomString → ℕ → Option DomString
left_behind None c = None
left_behind (Some []) c = None
left_behind (Some (x ∷ xs)) c = if x == c then Some xs else None

-- a front that goes on
longer : (front word : DomString) (c : ℕ) → left_of (front ++ c ∷ []) word ≡ left_behind (left_of front word) c
longer [] [] c = refl
longer [] (x ∷ xs) c = refl
longer (d ∷ ds) [] c = refl
longer (d ∷ ds) (x ∷ xs) c = elim (x == d) as
    (λ b. (if b then left_of (ds ++ c ∷ []) xs else None) ≡ left_behind (if b then left_of ds xs else None) c) [
      | true ↦ longer ds xs c
      | false ↦ refl
    ]

-- at white space a word ends
ends : (left : Option DomString) (c : ℕ) (cs : DomString) → is_space c ≡ true → begins left [] ≡ begins left (c ∷ cs)
ends None c cs h = refl
ends (Some []) c cs h = sym h
ends (Some (x ∷ xs)) c cs h = sym (ap (λ b. (not b && (x == c)) && begins_with_word xs cs) h)

-- at another unit it goes on
goes_on : (left : Option DomString) (c : ℕ) (cs : DomString) → is_space c ≡ false → begins (left_behind left c) cs ≡ begins left (c ∷ cs)
goes_on None c cs h = refl
goes_on (Some []) c cs h = sym h
goes_on (Some (x ∷ xs)) c cs h =
    (elim (x == c) as (λ b. begins (if b then Some xs else None) cs ≡ (b && begins_with_word xs cs)) [ true ↦ refl | false ↦ refl ])
    ∙ sym (ap (λ b. (not b && (x == c)) && begins_with_word xs cs) h)

-- the first word of a string, or those behind it, where this is in front of the string
abbrev IsAmong : DomString → DomString → DomString → Type 0
IsAmong word front cs = list_any (text_eq word) (words_from front cs) ≡ (begins (left_of front word) cs || is_among word (behind_space cs))

module _ (word front : DomString) (c : ℕ) (cs : DomString) where
  -- one unit more, which is white space or not
  at_unit : (b : Bool) → is_space c ≡ b → IsAmong word (front ++ c ∷ []) cs →
      list_any (text_eq word) (if b then front ∷ words_from [] cs else words_from (front ++ c ∷ []) cs) ≡
      (begins (left_of front word) (c ∷ cs) || is_among word (if b then Some cs else behind_space cs))
  at_unit true h more = ap (λ b. b || list_any (text_eq word) (words_from [] cs)) (done front word ∙ ends (left_of front word) c cs h)
  at_unit false h more = more ∙ ap (λ b. b || is_among word (behind_space cs))
      (ap (λ left. begins left cs) (longer front word c) ∙ goes_on (left_of front word) c cs h)

-- of any string
among_words : (word front cs : DomString) → IsAmong word front cs
among_words word front [] = ap (λ b. b || false) (done front word)
among_words word front (c ∷ cs) = at_unit word front c cs (is_space c) refl (among_words word (front ++ c ∷ []) cs)

module _ (word rest : DomString) where
  -- the first word is the one
  pub word_here : begins_with_word word rest ≡ true → list_any (text_eq word) (words_from [] rest) ≡ true
  word_here h = among_words word [] rest ∙ ap (λ b. b || is_among word (behind_space rest)) h

  -- it is another one: those behind it are left
  pub word_behind : begins_with_word word rest ≡ false → is_among word (behind_space rest) ≡ list_any (text_eq word) (words_from [] rest)
  word_behind h = sym (among_words word [] rest ∙ ap (λ b. b || is_among word (behind_space rest)) h)

-- less is behind white space
pub behind-less : (cs r : DomString) → Some r ≡ behind_space cs → length r < length cs
behind-less [] r e = absurd (none-some r (sym e))
behind-less (c ∷ cs) r e = at_space (is_space c) (behind-less cs r) e
  where
    at_space : (b : Bool) → (Some r ≡ behind_space cs → length r < length cs) → Some r ≡ (if b then Some cs else behind_space cs) →
        length r < length (c ∷ cs)
    at_space true less f = grind (arith, f)
    at_space false less f = omega (arith, less f)

-- a longer word is not in front of a string
pub too_long : (word text : DomString) → length text < length word → begins_with_word word text ≡ false
too_long [] text l = absurd (omega (arith, l))
too_long (x ∷ xs) [] l = refl
too_long (x ∷ xs) (c ∷ cs) l = ap (λ b. (not (is_space c) && (x == c)) && b) (too_long xs cs (omega (arith, l))) ∙ and_false (not (is_space c) && (x == c))
  where
    and_false : (b : Bool) → (b && false) ≡ false
    and_false true = refl
    and_false false = refl

module _ (word : DomString) where
  -- behind white space of a string that is no longer than a word there is less than the word
  no_room : (n : ℕ) (cs : DomString) → length cs ≤ n → n ≤ length word → is_among word (behind_space cs) ≡ false
  no_room zero [] l m = refl
  no_room zero (c ∷ cs) l m = absurd (omega (arith, l))
  no_room (suc n) cs l m = behind (behind_space cs) refl (λ r h. no_room n r h (omega (arith, m)))
    where
      behind : (o : Option DomString) → o ≡ behind_space cs → ((r : DomString) → length r ≤ n → is_among word (behind_space r) ≡ false) →
          is_among word o ≡ false
      behind None e less = refl
      behind (Some r) e less =
          among_words word [] r ∙ ap (λ b. b || is_among word (behind_space r)) (too_long word r (omega (arith, behind-less cs r e, l, m)))
          ∙ less r (omega (arith, behind-less cs r e, l))

  pub none_behind : (cs : DomString) → length cs ≤ length word → is_among word (behind_space cs) ≡ false
  none_behind cs l = no_room (length cs) cs (omega arith) l

-- a word that stands in front of a string has no white space
front_plain : (word text : DomString) → begins_with_word word text ≡ true → has_space word ≡ false
front_plain [] text h = refl
front_plain (x ∷ xs) [] h = absurd (true≢false (sym h))
front_plain (x ∷ xs) (c ∷ cs) h =
    let parts = and_parts (not (is_space c) && (x == c)) (begins_with_word xs cs) h in
    let first = and_parts (not (is_space c)) (x == c) parts.0 in
    ap (λ (unit : ℕ). is_space unit || has_space xs) (eqb-true x c first.1) ∙ ap (λ b. b || has_space xs) (not-true (is_space c) first.0)
    ∙ front_plain xs cs parts.1

module _ (word : DomString) where
  -- nor has one that stands among the words of a string, where those behind the first white space have been seen to
  plain_from : (cs : DomString) → ((r : DomString) → Some r ≡ behind_space cs → list_any (text_eq word) (words_from [] r) ≡ true → has_space word ≡ false) →
      list_any (text_eq word) (words_from [] cs) ≡ true → has_space word ≡ false
  plain_from cs less h = elim (or_cases _ _ (sym (among_words word [] cs) ∙ h)) [
    | inl front ↦ front_plain word cs front
    | inr behind_it ↦ behind (behind_space cs) refl behind_it
  ]
    where
      behind : (o : Option DomString) → o ≡ behind_space cs → is_among word o ≡ true → has_space word ≡ false
      behind None e m = absurd (true≢false (sym m))
      behind (Some r) e m = less r e m

  among_plain : (n : ℕ) (cs : DomString) → length cs ≤ n → list_any (text_eq word) (words_from [] cs) ≡ true → has_space word ≡ false
  among_plain zero cs l h = plain_from cs (λ r e m. absurd (omega (arith, behind-less cs r e, l))) h
  among_plain (suc n) cs l h = plain_from cs (λ r e m. among_plain n r (omega (arith, behind-less cs r e, l)) m) h

  -- so whether it has some need not be asked
  pub is_word : (text : DomString) → (not (is_empty word) && list_any (text_eq word) (words_from [] text)) ≡ value_passes has_word word text
  is_word text = elim (cases_Bool (list_any (text_eq word) (words_from [] text))) [
    | inl stands ↦ among stands
    | inr other ↦ apart other
  ]
    where
      among : list_any (text_eq word) (words_from [] text) ≡ true →
          (not (is_empty word) && list_any (text_eq word) (words_from [] text)) ≡ value_passes has_word word text
      among h =
          ap (λ b. not b && list_any (text_eq word) (words_from [] text))
          (elim (is_empty word) as (λ b. b ≡ (b || false)) [ true ↦ refl | false ↦ refl ])
          ∙ ap (λ b. not (is_empty word || b) && list_any (text_eq word) (words_from [] text)) (sym (among_plain (length text) text (omega arith) h))

      apart : list_any (text_eq word) (words_from [] text) ≡ false →
          (not (is_empty word) && list_any (text_eq word) (words_from [] text)) ≡ value_passes has_word word text
      apart h = and_right _ _ h ∙ sym (and_right _ _ h)
