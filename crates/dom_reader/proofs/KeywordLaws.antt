-- A command's word is found among those with its first byte.
use Rattle.dom_base.proofs.Std.{◌≡◌, ℕ, Bool, true, false, List, [], ◌∷◌, Some, None, cond, refl, ap, ◌∙◌, eq-eqb, ◌<◌, length, get_or, arith, find}
use Rattle.dom_base.proofs.Std.{filter, bytes_eq}
use Rattle.dom_text.specs.Definitions.{keyword_word, keywords}
use Rattle.dom_text.specs.Decode.{keyword_of}
use Rattle.dom_text.proofs.NumberLaws.{bytes_eq-true}
use Rattle.dom_reader.specs.Keywords.{begins, keyword_with}

-- what a test finds is found among all that pass another test, which it implies
find-filter : {X : Type 0} (p q : X → Bool) (xs : List X) → ((x : X) → p x ≡ true → q x ≡ true) → find p (filter q xs) ≡ find p xs
find-filter p q [] h = refl
find-filter {X = X} p q (x ∷ xs) h = go (q x) refl (p x) refl (find-filter p q xs h)
  where
    go : (t : Bool) → q x ≡ t → (u : Bool) → p x ≡ u → find p (filter q xs) ≡ find p xs → find p (filter q (x ∷ xs)) ≡ find p (x ∷ xs)
    go true e u f more = rw e (ap (cond (p x) (Some x)) more)
    go false e true f more = absurd (let t = h x f in cc)
    go false e false f more = rw (e, f) more

-- the word is found among those with its first byte
pub named_with : (word : List ℕ) → 0 < length word → keyword_with (get_or word 0 0) word ≡ keyword_of word
unfolding keyword_of
named_with [] h = absurd (omega arith)
named_with (first ∷ rest) h =
    find-filter (λ k. bytes_eq (keyword_word k) (first ∷ rest)) (λ k. begins first (keyword_word k)) keywords
    (λ k e. ap (begins first) (bytes_eq-true (keyword_word k) (first ∷ rest) e) ∙ eq-eqb first first refl)

-- no word is empty
pub none_empty : (word : List ℕ) → length word ≡ 0 → keyword_of word ≡ None
unfolding keyword_of
none_empty [] h = refl
none_empty (b ∷ word) h = absurd (omega arith)
