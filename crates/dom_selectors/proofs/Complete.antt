-- What is in the grammar is read: tokens and simple selectors.
use Rattle.dom_selectors.proofs.Cited.{◌≡◌, ℕ, Bool, true, false, [], ◌∷◌, ◌++◌, Option, Some, None, refl, ap, ◌∙◌, append_assoc, arith, ◌||◌, ◌==◌}
use Rattle.dom_selectors.proofs.Cited.{option_map, take_while, codes, option_and_then, option_or, list_all, cond-true, cond-false, and_parts, eq-eqb}
use Rattle.dom_selectors.proofs.Cited.{nat_tests, take_while-cons, Word, DomString, begins_name, continues_name, is_name, Simple, AttributeTest}
use Rattle.dom_selectors.proofs.Cited.{is_space, of_type, of_any_type, of_id, of_class, with_value, first_child, last_child, equals, drop_while}
use Rattle.dom_selectors.proofs.Cited.{skip_space, read_map, expect, closed_by, read_name, may_stand_quoted, read_quoted, read_value, read_one_of}
use Rattle.dom_selectors.proofs.Cited.{signs, read_test_of, read_test, read_attribute, read_simple, with_attribute, IsBracketed, IsTested, IsSpaces}
use Rattle.dom_selectors.proofs.Cited.{IsValue, plain, double, single, sign, IsSimple}
use Rattle.dom_selectors.proofs.TokenLaws.{expect_at}

-- whether the first unit passes
abbrev pub head_passes : (ℕ → Bool) → DomString → Bool
head_passes test [] = false
head_passes test (c ∷ cs) = test c

-- units that pass, up to one that does not
run-front : (test : ℕ → Bool) (xs rest : DomString) → list_all test xs ≡ true → head_passes test rest ≡ false → take_while test (xs ++ rest) ≡ xs
run-front test [] [] h off = refl
run-front test [] (c ∷ cs) h off = take_while-cons test c cs ∙ cond-false (test c) (c ∷ take_while test cs) [] off
run-front test (x ∷ xs) rest h off =
    let both = and_parts (test x) (list_all test xs) h in
    take_while-cons test x (xs ++ rest) ∙ cond-true (test x) (x ∷ take_while test (xs ++ rest)) [] both.0 ∙ ap (λ t. x ∷ t) (run-front test xs rest both.1 off)

-- and the units behind them
run-back : (test : ℕ → Bool) (xs rest : DomString) → list_all test xs ≡ true → head_passes test rest ≡ false → drop_while test (xs ++ rest) ≡ rest
run-back test [] [] h off = refl
run-back test [] (c ∷ cs) h off = cond-false (test c) (drop_while test cs) (c ∷ cs) off
run-back test (x ∷ xs) rest h off =
    let both = and_parts (test x) (list_all test xs) h in
    cond-true (test x) (drop_while test (xs ++ rest)) (x ∷ (xs ++ rest)) both.0 ∙ run-back test xs rest both.1 off

-- white space is skipped
pub skip-read : (spaces rest : DomString) → IsSpaces spaces → head_passes is_space rest ≡ false → skip_space (spaces ++ rest) ≡ rest
skip-read spaces rest h off = run-back is_space spaces rest h off

-- a text is found where it stands
pub expect-read : (t rest : DomString) → expect t (t ++ rest) ≡ Some rest
expect-read [] rest = refl
expect-read (t ∷ ts) rest = expect_at t ts t (ts ++ rest) ∙ cond-true (t == t) (expect ts (ts ++ rest)) None (eq-eqb t t refl) ∙ expect-read ts rest

-- a name does not begin with white space
begins_not_space : (c : ℕ) → begins_name c ≡ true → is_space c ≡ false
begins_not_space c h = grind (arith, nat_tests)

-- nor with a quote
begins_not_quote : (c : ℕ) → begins_name c ≡ true → ((c == 34) || (c == 39)) ≡ false
begins_not_quote c h = grind (arith, nat_tests)

-- it does not go on with white space
pub space_not_name : (c : ℕ) → is_space c ≡ true → continues_name c ≡ false
space_not_name c h = grind (arith, nat_tests)

-- no name goes on with white space, or with what stands behind it
pub spaces-off : (spaces rest : DomString) → IsSpaces spaces → head_passes continues_name rest ≡ false → head_passes continues_name (spaces ++ rest) ≡ false
spaces-off [] rest h off = off
spaces-off (c ∷ spaces) rest h off = space_not_name c (and_parts (is_space c) (list_all is_space spaces) h).0

-- a name is read as far as it goes
pub name-read : (name rest : DomString) → is_name name ≡ true → head_passes continues_name rest ≡ false → read_name (name ++ rest) ≡ Some (name, rest)
name-read [] rest h off = cc
name-read (c ∷ cs) rest h off =
    let both = and_parts (begins_name c) (list_all continues_name cs) h in
    cond-true (begins_name c) (Some (c ∷ take_while continues_name (cs ++ rest), drop_while continues_name (cs ++ rest))) None both.0
    ∙ ap (λ t. Some (c ∷ t, drop_while continues_name (cs ++ rest))) (run-front continues_name cs rest both.1 off)
    ∙ ap (λ t. Some (c ∷ cs, t)) (run-back continues_name cs rest both.1 off)

-- no white space stands where a name begins
pub name-head : (name rest : DomString) → is_name name ≡ true → head_passes is_space (name ++ rest) ≡ false
name-head [] rest h = cc
name-head (c ∷ cs) rest h = begins_not_space c (and_parts (begins_name c) (list_all continues_name cs) h).0

-- a quoted value is read up to its quote
quoted-read : (quote : ℕ) (value rest : DomString) → list_all (may_stand_quoted quote) value ≡ true → may_stand_quoted quote quote ≡ false →
    read_quoted quote ((value ++ quote ∷ []) ++ rest) ≡ Some (value, rest)
quoted-read quote value rest h off =
    ap (read_quoted quote) (append_assoc value (quote ∷ []) rest)
    ∙ ap (λ t. option_map (λ b. (t, b)) (expect (quote ∷ []) (drop_while (may_stand_quoted quote) (value ++ quote ∷ rest))))
    (run-front (may_stand_quoted quote) value (quote ∷ rest) h off)
    ∙ ap (λ d. option_map (λ b. (value, b)) (expect (quote ∷ []) d)) (run-back (may_stand_quoted quote) value (quote ∷ rest) h off)
    ∙ ap (option_map (λ b. (value, b))) (expect-read (quote ∷ []) rest)

-- a value that is a name
plain-read : (value rest : DomString) → is_name value ≡ true → head_passes continues_name rest ≡ false → read_value (value ++ rest) ≡ Some (value, rest)
plain-read [] rest h off = cc
plain-read (c ∷ cs) rest h off =
    cond-false ((c == 34) || (c == 39)) (read_quoted c (cs ++ rest)) (read_name (c ∷ (cs ++ rest)))
    (begins_not_quote c (and_parts (begins_name c) (list_all continues_name cs) h).0) ∙ name-read (c ∷ cs) rest h off

-- a value
value-read : (said value rest : DomString) → IsValue said value → head_passes continues_name rest ≡ false → read_value (said ++ rest) ≡ Some (value, rest)
value-read said value rest (plain h) off = ap (λ t. read_value (t ++ rest)) h.0 ∙ plain-read value rest h.1 off
value-read said value rest (double h) off = ap (λ t. read_value (t ++ rest)) h.0 ∙ quoted-read 34 value rest h.1 refl
value-read said value rest (single h) off = ap (λ t. read_value (t ++ rest)) h.0 ∙ quoted-read 39 value rest h.1 refl

-- no white space stands where a value begins
value-head : (said value rest : DomString) → IsValue said value → head_passes is_space (said ++ rest) ≡ false
value-head said value rest (plain h) = ap (λ t. head_passes is_space (t ++ rest)) h.0 ∙ name-head value rest h.1
value-head said value rest (double h) = ap (λ t. head_passes is_space (t ++ rest)) h.0
value-head said value rest (single h) = ap (λ t. head_passes is_space (t ++ rest)) h.0

-- a sign is read, and neither white space nor a name goes on there
record Signed (t : AttributeTest) (rest : DomString) : Type 0 where
  found : read_one_of signs (sign t ++ rest) ≡ Some (t, rest)
  apart : head_passes is_space (sign t ++ rest) ≡ false
  off : head_passes continues_name (sign t ++ rest) ≡ false

signed : (t : AttributeTest) (rest : DomString) → Signed t rest
signed equals rest = record { found = refl; apart = refl; off = refl }
signed t rest = record { found = refl; apart = refl; off = refl }

-- what is read in brackets behind the name
abbrev behind_name : Word × DomString → Option (Simple × DomString)
behind_name (a, rest) = read_test a (skip_space rest)

-- up to the name
to_name : (before name rest : DomString) → IsSpaces before → is_name name ≡ true → head_passes continues_name rest ≡ false
    → read_attribute (before ++ (name ++ rest)) ≡ closed_by (codes "]") (read_test name (skip_space rest))
to_name before name rest spaces named off =
    ap (λ k. closed_by (codes "]") (option_and_then behind_name (read_name k))) (skip-read before (name ++ rest) spaces (name-head name rest named))
    ∙ ap (λ r. closed_by (codes "]") (option_and_then behind_name r)) (name-read name rest named off)

-- `[NAME]`
bracketed-read : {text : DomString} (name : Word) (h : IsBracketed text name) (rest : DomString) →
    read_attribute (h.before ++ (name ++ (h.after ++ 93 ∷ rest))) ≡ Some (with_attribute name, rest)
bracketed-read name h rest =
    to_name h.before name (h.after ++ 93 ∷ rest) h.spaces_before h.named (spaces-off h.after (93 ∷ rest) h.spaces_after refl)
    ∙ ap (λ k. closed_by (codes "]") (read_test name k)) (skip-read h.after (93 ∷ rest) h.spaces_after refl)

-- `[NAME op VALUE]`
tested-read : {text value : DomString} (name : Word) (t : AttributeTest) (h : IsTested text name t value) (rest : DomString) →
    read_attribute (h.before ++ (name ++ (h.between ++ (sign t ++ (h.behind ++ (h.said ++ (h.after ++ 93 ∷ rest)))))))
    ≡ Some (with_value name t value, rest)
tested-read {value = value} name t h rest =
    let end = h.after ++ 93 ∷ rest in
    let more = h.behind ++ (h.said ++ end) in
    let at = signed t more in
    to_name h.before name (h.between ++ (sign t ++ more)) h.spaces_before h.named (spaces-off h.between (sign t ++ more) h.spaces_between at.off)
    ∙ ap (λ k. closed_by (codes "]") (read_test name k)) (skip-read h.between (sign t ++ more) h.spaces_between at.apart)
    ∙ ap (λ o. closed_by (codes "]") (read_test_of name (sign t ++ more) o)) at.found
    ∙ ap (λ k. closed_by (codes "]") (read_map (with_value name t) (read_value k)))
    (skip-read h.behind (h.said ++ end) h.spaces_behind (value-head h.said value end h.valued))
    ∙ ap (λ r. closed_by (codes "]") (read_map (with_value name t) r))
    (value-read h.said value end h.valued (spaces-off h.after (93 ∷ rest) h.spaces_after refl))
    ∙ ap (λ k. option_map (λ b. (with_value name t value, b)) (expect (codes "]") k)) (skip-read h.after (93 ∷ rest) h.spaces_after refl)

-- the first that is found
or_found : {A : Type 0} (a b : Option A) (x : A) → a ≡ Some x → option_or a b ≡ Some x
or_found a b x h = ap (λ o. option_or o b) h

-- a simple selector
pub simple-read : (text : DomString) (s : Simple) (rest : DomString) → IsSimple text s → head_passes continues_name rest ≡ false →
    read_simple (text ++ rest) ≡ Some (s, rest)
simple-read text (of_type name) rest h off = absurd h
simple-read text of_any_type rest h off = absurd h
simple-read text (of_id name) rest h off =
    ap (λ t. read_simple (t ++ rest)) h.0 ∙ or_found (read_map of_id (read_name (name ++ rest))) _ (of_id name, rest)
    (ap (read_map of_id) (name-read name rest h.1 off))
simple-read text (of_class name) rest h off =
    ap (λ t. read_simple (t ++ rest)) h.0 ∙ or_found (read_map of_class (read_name (name ++ rest))) _ (of_class name, rest)
    (ap (read_map of_class) (name-read name rest h.1 off))
simple-read text (with_attribute name) rest h off =
    let w = h.before ++ (name ++ (h.after ++ codes "]")) in
    let whole : w ++ rest ≡ h.before ++ (name ++ (h.after ++ 93 ∷ rest)) =
    append_assoc h.before (name ++ (h.after ++ codes "]")) rest
    ∙ ap (λ t. h.before ++ t) (append_assoc name (h.after ++ codes "]") rest ∙ ap (λ t. name ++ t) (append_assoc h.after (codes "]") rest)) in
    ap (λ t. read_simple (t ++ rest)) h.whole
    ∙ or_found (read_attribute (w ++ rest)) _ (with_attribute name, rest)
    (ap read_attribute whole ∙ bracketed-read name h rest)
simple-read text (with_value name t value) rest h off =
    let end = h.after ++ codes "]" in
    let last : end ++ rest ≡ h.after ++ 93 ∷ rest = append_assoc h.after (codes "]") rest in
    let three : (h.said ++ end) ++ rest ≡ h.said ++ (h.after ++ 93 ∷ rest) = append_assoc h.said end rest ∙ ap (λ x. h.said ++ x) last in
    let four : (h.behind ++ (h.said ++ end)) ++ rest ≡ h.behind ++ (h.said ++ (h.after ++ 93 ∷ rest)) =
    append_assoc h.behind (h.said ++ end) rest ∙ ap (λ x. h.behind ++ x) three in
    let five : (sign t ++ (h.behind ++ (h.said ++ end))) ++ rest ≡ sign t ++ (h.behind ++ (h.said ++ (h.after ++ 93 ∷ rest))) =
    append_assoc (sign t) (h.behind ++ (h.said ++ end)) rest ∙ ap (λ x. sign t ++ x) four in
    let six : (h.between ++ (sign t ++ (h.behind ++ (h.said ++ end)))) ++ rest ≡ h.between ++ (sign t ++ (h.behind ++ (h.said ++ (h.after ++ 93 ∷ rest)))) =
    append_assoc h.between (sign t ++ (h.behind ++ (h.said ++ end))) rest ∙ ap (λ x. h.between ++ x) five in
    let seven : (name ++ (h.between ++ (sign t ++ (h.behind ++ (h.said ++ end))))) ++ rest ≡ name ++
    (h.between ++ (sign t ++ (h.behind ++ (h.said ++ (h.after ++ 93 ∷ rest))))) =
    append_assoc name (h.between ++ (sign t ++ (h.behind ++ (h.said ++ end)))) rest ∙ ap (λ x. name ++ x) six in
    let w = h.before ++ (name ++ (h.between ++ (sign t ++ (h.behind ++ (h.said ++ end))))) in
    let whole : w ++ rest ≡ h.before ++ (name ++ (h.between ++ (sign t ++ (h.behind ++ (h.said ++ (h.after ++ 93 ∷ rest)))))) =
    append_assoc h.before (name ++ (h.between ++ (sign t ++ (h.behind ++ (h.said ++ end))))) rest ∙ ap (λ x. h.before ++ x) seven in
    ap (λ x. read_simple (x ++ rest)) h.whole
    ∙ or_found (read_attribute (w ++ rest)) _ (with_value name t value, rest)
    (ap read_attribute whole ∙ tested-read name t h rest)
simple-read text first_child rest h off = ap (λ t. read_simple (t ++ rest)) h
simple-read text last_child rest h off = ap (λ t. read_simple (t ++ rest)) h
