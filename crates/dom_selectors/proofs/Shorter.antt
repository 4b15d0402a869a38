-- What a reader leaves is shorter than what it was given.
use Rattle.dom_selectors.proofs.Cited.{◌≡◌, ℕ, zero, suc, ◌<◌, ◌≤◌, Bool, List, [], ◌∷◌, length, drop, Option, Some, None, subst, arith, length-drop, ◌++◌, map}
use Rattle.dom_selectors.proofs.Cited.{fold, option_map, take_while, codes, nat_eq, nat_lt, if◌then◌else◌, option_and_then, option_or, option_map_or}
use Rattle.dom_selectors.proofs.Cited.{starts_with, cond_both, ltb-true, Word, DomString, begins_name, continues_name, is_empty, Simple, CompoundPart}
use Rattle.dom_selectors.proofs.Cited.{Combinator, AttributeTest, is_space, of_type, of_any_type, of_id, of_class, with_value, first_child, last_child, simple}
use Rattle.dom_selectors.proofs.Cited.{is_not, descendant, child, next, later, equals, has_word, begins_with_dash, begins, ends, holds, alone, Reader}
use Rattle.dom_selectors.proofs.Cited.{drop_while, skip_space, read_map, expect, closed_by, read_more, read_each, read_all, read_name, may_stand_quoted}
use Rattle.dom_selectors.proofs.Cited.{read_quoted, read_value, read_one_of, signs, read_test_of, read_test, read_attribute, read_simple, read_type_name}
use Rattle.dom_selectors.proofs.Cited.{read_type, read_compound_of, read_not, read_part, read_compound, read_combinator, read_link, read_complex, read_next}
use Rattle.dom_selectors.proofs.Cited.{link, combinator_signs}

-- units are left of which there are fewer than n, if any were read
abbrev pub Behind : ℕ → Option DomString → Type 0
Behind n None = Unit {0}
Behind n (Some rest) = length rest < n

-- behind what was read there are fewer than n units left
abbrev pub Ends : {A : Type 0} → ℕ → Option (A × DomString) → Type 0
Ends n None = Unit {0}
Ends n (Some r) = length r.1 < n

-- such a reader
pub record Shrinks {A : Type 0} (read : Reader A) : Type 0 where
  pub shorter : (cs : DomString) → Ends (length cs) (read cs)

-- what is left is shorter
pub Shrinks-rest : {A : Type 0} (read : Reader A) → Shrinks read → (cs : DomString) (r : A × DomString) → read cs ≡ Some r → length r.1 < length cs
Shrinks-rest read s cs r h = subst (Ends (length cs)) h (s.shorter cs)

-- what stands behind units that pass is no longer
drop_while-length : (test : ℕ → Bool) (cs : DomString) → length (drop_while test cs) ≤ length cs
drop_while-length test [] = omega arith
drop_while-length test (c ∷ cs) =
    cond_both (test c) (drop_while test cs) (c ∷ cs) (λ rest. length rest ≤ length (c ∷ cs)) (λ _. omega (arith, drop_while-length test cs)) (λ _. omega arith)

-- nor what stands behind white space
pub skip_space-length : (cs : DomString) → length (skip_space cs) ≤ length cs
skip_space-length cs = drop_while-length is_space cs

-- a text that stands here is not empty
pub expect-ends : (t : ℕ) (ts : DomString) (cs : DomString) → Behind (length cs) (expect (t ∷ ts) cs)
expect-ends t ts [] = tt
expect-ends t ts (c ∷ cs) =
    cond_both (starts_with nat_eq (c ∷ cs) (t ∷ ts)) (Some (drop (length ts) cs)) None (Behind (length (c ∷ cs)))
    (λ _. omega (arith, length-drop (length ts) cs)) (λ _. tt)

-- what is read behind a text that stands here
ends-then : {A : Type 0} (n : ℕ) (f : DomString → Option (A × DomString)) (o : Option DomString) → Behind n o →
    ((rest : DomString) → length rest < n → Ends n (f rest)) → Ends n (option_and_then f o)
ends-then n f None h more = tt
ends-then n f (Some rest) h more = more rest h

-- the first or the second
ends-or : {A : Type 0} (n : ℕ) (a b : Option (A × DomString)) → Ends n a → Ends n b → Ends n (option_or a b)
ends-or n None b h g = g
ends-or n (Some r) b h g = h

-- f of what is read
ends-map : {A B : Type 0} (n : ℕ) (f : A → B) (r : Option (A × DomString)) → Ends n r → Ends n (read_map f r)
ends-map n f None h = tt
ends-map n f (Some r) h = h

-- what stands for a text
ends-means : {A : Type 0} (n : ℕ) (a : A) (o : Option DomString) → Behind n o → Ends n (option_map (λ rest. (a, rest)) o)
ends-means n a None h = tt
ends-means n a (Some rest) h = h

-- fewer are fewer than more
ends-more : {A : Type 0} (m n : ℕ) (r : Option (A × DomString)) → m ≤ n → Ends m r → Ends n r
ends-more m n None h e = tt
ends-more m n (Some r) h e = omega (arith, h, e)

-- fewer units of a text are fewer than more
behind-more : (m n : ℕ) (o : Option DomString) → m ≤ n → Behind m o → Behind n o
behind-more m n None h e = tt
behind-more m n (Some r) h e = omega (arith, h, e)

-- what is read with a text behind it
ends-closed : {A : Type 0} (n t : ℕ) (ts : DomString) (r : Option (A × DomString)) → Ends n r → Ends n (closed_by (t ∷ ts) r)
ends-closed n t ts None h = tt
ends-closed n t ts (Some r) h =
    ends-means n r.0 (expect (t ∷ ts) (skip_space r.1))
    (behind-more (length (skip_space r.1)) n (expect (t ∷ ts) (skip_space r.1)) (omega (arith, skip_space-length r.1, h)) (expect-ends t ts (skip_space r.1)))

-- a name
name-ends : (cs : DomString) → Ends (length cs) (read_name cs)
name-ends [] = tt
name-ends (c ∷ cs) =
    cond_both (begins_name c) (Some (c ∷ take_while continues_name cs, drop_while continues_name cs)) None (Ends (length (c ∷ cs)))
    (λ _. omega (arith, drop_while-length continues_name cs)) (λ _. tt)

-- a name behind a text
named-ends : {A : Type 0} (f : Word → A) (t : ℕ) (ts cs : DomString) →
    Ends (length cs) (option_and_then (λ rest. read_map f (read_name rest)) (expect (t ∷ ts) cs))
named-ends f t ts cs =
    ends-then (length cs) (λ rest. read_map f (read_name rest)) (expect (t ∷ ts) cs) (expect-ends t ts cs)
    (λ rest h. ends-map (length cs) f (read_name rest) (ends-more (length rest) (length cs) (read_name rest) (omega (arith, h)) (name-ends rest)))

-- a quoted value
quoted-ends : (n quote : ℕ) (cs : DomString) → length cs < n → Ends n (read_quoted quote cs)
quoted-ends n quote cs h =
    let rest = drop_while (may_stand_quoted quote) cs in
    ends-means n (take_while (may_stand_quoted quote) cs) (expect (quote ∷ []) rest)
    (behind-more (length rest) n (expect (quote ∷ []) rest) (omega (arith, h, drop_while-length (may_stand_quoted quote) cs)) (expect-ends quote [] rest))

-- a value
value-ends : (cs : DomString) → Ends (length cs) (read_value cs)
value-ends [] = tt
value-ends (c ∷ cs) =
    cond_both _ (read_quoted c cs) (read_name (c ∷ cs)) (Ends (length (c ∷ cs))) (λ _. quoted-ends (length (c ∷ cs)) c cs (omega arith))
    (λ _. name-ends (c ∷ cs))

-- a sign and its value, or nothing
test_of-ends : (n : ℕ) (a : Word) (cs : DomString) (r : Option (AttributeTest × DomString)) → length cs < n → Ends n r → Ends n (read_test_of a cs r)
test_of-ends n a cs None h e = h
test_of-ends n a cs (Some t) h e =
    ends-map n (with_value a t.0) (read_value (skip_space t.1))
    (ends-more (length (skip_space t.1)) n (read_value (skip_space t.1)) (omega (arith, e, skip_space-length t.1)) (value-ends (skip_space t.1)))

-- a sign
signs-ends : (cs : DomString) → Ends (length cs) (read_one_of signs cs)
signs-ends cs =
    let n = length cs in
    ends-or n _ _ (ends-means n equals _ (expect-ends 61 [] cs))
    (ends-or n _ _ (ends-means n has_word _ (expect-ends 126 (61 ∷ []) cs))
    (ends-or n _ _ (ends-means n begins_with_dash _ (expect-ends 124 (61 ∷ []) cs))
    (ends-or n _ _ (ends-means n begins _ (expect-ends 94 (61 ∷ []) cs))
    (ends-or n _ _ (ends-means n ends _ (expect-ends 36 (61 ∷ []) cs))
    (ends-or n _ _ (ends-means n holds _ (expect-ends 42 (61 ∷ []) cs)) tt)))))

-- what stands in brackets
attribute-ends : (cs : DomString) → Ends (length cs) (read_attribute cs)
attribute-ends cs =
    ends-closed (length cs) 93 [] _ (named (read_name (skip_space cs))
    (ends-more (length (skip_space cs)) (length cs) (read_name (skip_space cs)) (skip_space-length cs) (name-ends (skip_space cs))))
  where
    named : (r : Option (Word × DomString)) → Ends (length cs) r → Ends (length cs) (option_and_then (λ (a, rest). read_test a (skip_space rest)) r)
    named None h = tt
    named (Some r) h =
        let rest = skip_space r.1 in
        let short : length rest < length cs = omega (arith, h, skip_space-length r.1) in
        test_of-ends (length cs) r.0 rest (read_one_of signs rest) short
        (ends-more (length rest) (length cs) (read_one_of signs rest) (omega (arith, short)) (signs-ends rest))

-- a simple selector
pub simple-ends : Shrinks read_simple
simple-ends = record {
  shorter = λ cs.
      let n = length cs in
      ends-or n _ _ (named-ends of_id 35 [] cs)
      (ends-or n _ _ (named-ends of_class 46 [] cs)
      (ends-or n _ _ (ends-then n read_attribute (expect (codes "[") cs) (expect-ends 91 [] cs)
      (λ rest h. ends-more (length rest) n (read_attribute rest) (omega (arith, h)) (attribute-ends rest)))
      (ends-or n _ _ (ends-means n first_child _ (expect-ends 58 (codes "first-child") cs))
      (ends-or n _ _ (ends-means n last_child _ (expect-ends 58 (codes "last-child") cs)) tt))));
}

-- what is left behind one that was read, and those behind it
more-length : {A : Type 0} (read : Reader A) (k : ℕ) (cs : DomString) (r : Option (A × DomString)) → Ends (length cs) r
    → ((rest : DomString) → length (read_each k read rest).1 ≤ length rest) → length (read_more (λ rest. read_each k read rest) cs r).1 ≤ length cs
more-length read k cs None h less = omega arith
more-length read k cs (Some r) h less = omega (arith, h, less r.1)

-- what is left behind some of them
each-length : {A : Type 0} (read : Reader A) → Shrinks read → (k : ℕ) (cs : DomString) → length (read_each k read cs).1 ≤ length cs
each-length read s zero cs = omega arith
each-length read s (suc k) cs = more-length read k cs (read cs) (s.shorter cs) (λ rest. each-length read s k rest)

-- what is left behind all
pub all-length : {A : Type 0} (read : Reader A) → Shrinks read → (cs : DomString) → length (read_all read cs).1 ≤ length cs
all-length read s cs = each-length read s (length cs) cs

-- NAME or `*`
type_name-ends : (cs : DomString) → Ends (length cs) (read_type_name cs)
type_name-ends cs =
    ends-or (length cs) _ _ (ends-map (length cs) of_type (read_name cs) (name-ends cs))
    (ends-or (length cs) _ _ (ends-means (length cs) of_any_type _ (expect-ends 42 [] cs)) tt)

-- what is left behind NAME or `*`, if it is there
type-length : (cs : DomString) → length (read_type cs).1 ≤ length cs
type-length cs = at (read_type_name cs) (type_name-ends cs)
  where
    at : (r : Option (Simple × DomString)) → Ends (length cs) r → let after : List Simple × DomString =
        option_map_or (λ r'. (r'.0 ∷ [], r'.1)) r ([], cs) in length after.1 ≤ length cs
    at None h = omega arith
    at (Some r) h = omega (arith, h)

-- a compound
compound_of-ends : {A : Type 0} (part : Simple → A) (read : Reader A) → Shrinks read → (n : ℕ) (cs : DomString) → length cs < n →
    Ends n (read_compound_of part read cs)
compound_of-ends {A} part read s n cs h =
    let parts : List A × DomString = read_all read (read_type cs).1 in
    let all = map part (read_type cs).0 ++ parts.0 in
    cond_both (is_empty all) None (Some (all, parts.1)) (Ends n) (λ _. tt) (λ _. omega (arith, h, type-length cs, all-length read s (read_type cs).1))

-- `:not(..)`
not-ends : (cs : DomString) → Ends (length cs) (read_not cs)
not-ends cs =
    let n = length cs in
    ends-then n _ (expect (codes ":not(") cs) (expect-ends 58 (codes "not(") cs)
    (λ rest h. ends-closed n 41 [] _ (ends-map n is_not _
    (compound_of-ends (λ s. s) read_simple simple-ends n (skip_space rest) (omega (arith, h, skip_space-length rest)))))

-- a part of a compound
pub part-ends : Shrinks read_part
part-ends = record {
  shorter = λ cs. ends-or (length cs) _ _ (ends-map (length cs) simple (read_simple cs) (simple-ends.shorter cs)) (not-ends cs);
}

-- a combinator
combinator-ends : (cs : DomString) → Ends (length cs) (read_combinator cs)
combinator-ends cs =
    let spaced = skip_space cs in
    let m = length spaced in
    at (read_one_of combinator_signs spaced)
    (ends-or m _ _ (ends-means m child _ (expect-ends 62 [] spaced))
    (ends-or m _ _ (ends-means m next _ (expect-ends 43 [] spaced)) (ends-or m _ _ (ends-means m later _ (expect-ends 126 [] spaced)) tt)))
  where
    at : (sign : Option (Combinator × DomString)) → Ends (length (skip_space cs)) sign
        → Ends (length cs) (option_map (λ (how, rest). (how, skip_space rest))
        (option_or sign (if nat_lt (length (skip_space cs)) (length cs) then Some (descendant, cs) else None)))
    at None h =
        cond_both (nat_lt (length (skip_space cs)) (length cs)) (Some (descendant, cs)) None
        (λ o. Ends (length cs) (option_map (λ (how, rest). (how, skip_space rest)) o)) (λ e. ltb-true (length (skip_space cs)) (length cs) e)
        (λ _. tt)
    at (Some r) h = omega (arith, h, skip_space-length r.1, skip_space-length cs)

-- a combinator with a compound
pub link-ends : Shrinks read_link
link-ends = record { shorter = λ cs. link_at (length cs) (read_combinator cs) (combinator-ends cs) }
  where
    link_at : (n : ℕ) (r : Option (Combinator × DomString)) → Ends n r →
        Ends {A = Combinator × List CompoundPart} n (option_and_then (λ (how, rest). read_map (λ c. (how, c)) (read_compound rest)) r)
    link_at n None h = tt
    link_at n (Some r) h = ends-map n (λ c. (r.0, c)) (read_compound r.1) (compound_of-ends simple read_part part-ends n r.1 h)

-- a complex selector
complex-ends : (n : ℕ) (cs : DomString) → length cs < n → Ends n (read_complex cs)
complex-ends n cs h = at (read_compound (skip_space cs))
    (compound_of-ends simple read_part part-ends n (skip_space cs) (omega (arith, h, skip_space-length cs)))
  where
    at : (r : Option (List CompoundPart × DomString)) → Ends n r
        → Ends n (option_map (λ (c, rest). let links : List (Combinator × List CompoundPart) ×
        DomString = read_all read_link rest in (fold link (alone c) links.0, links.1)) r)
    at None e = tt
    at (Some r) e = omega (arith, e, all-length read_link link-ends r.1)

-- `,` with a complex selector
pub next-ends : Shrinks read_next
next-ends = record {
  shorter = λ cs.
      let n = length cs in
      ends-then n read_complex (expect (codes ",") (skip_space cs))
      (behind-more (length (skip_space cs)) n _ (skip_space-length cs) (expect-ends 44 [] (skip_space cs))) (λ rest h. complex-ends n rest h);
}
