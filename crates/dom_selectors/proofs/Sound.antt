-- What is read is in the grammar.
use Rattle.dom_selectors.proofs.Cited.{◌≡◌, ℕ, Bool, true, false, [], ◌∷◌, ◌++◌, Option, Some, None, refl, ap, sym, subst, ◌∙◌, append_assoc, ◌||◌, ◌==◌}
use Rattle.dom_selectors.proofs.Cited.{option_map, take_while, codes, option_and_then, option_or, list_all, cond_both, cond-true, cond-false, and_from}
use Rattle.dom_selectors.proofs.Cited.{eqb-true, take_while-cons, list_all-append, Word, DomString, begins_name, continues_name, is_name, Simple, AttributeTest}
use Rattle.dom_selectors.proofs.Cited.{is_space, of_id, of_class, with_value, first_child, last_child, equals, has_word, begins_with_dash, begins, ends, holds}
use Rattle.dom_selectors.proofs.Cited.{Reader, drop_while, skip_space, read_map, expect, closed_by, read_name, may_stand_quoted, read_quoted, read_value}
use Rattle.dom_selectors.proofs.Cited.{read_one_of, signs, read_test_of, read_test, read_attribute, read_simple, with_attribute, Form, IsSpaces, IsName}
use Rattle.dom_selectors.proofs.Cited.{IsQuoted, IsValue, plain, double, single, sign, IsSimple}
use Rattle.dom_selectors.proofs.TokenLaws.{expect_at}

-- what was read stands in front, if anything was
abbrev pub Says : {A : Type 0} → Form A → DomString → Option (A × DomString) → Type 0
Says form cs None = Unit {0}
Says form cs (Some r) = (text : DomString) × form text r.0 × (cs ≡ text ++ r.1)

-- this text stands in front, if the units behind it were found
abbrev pub Stands : DomString → DomString → Option DomString → Type 0
Stands text cs None = Unit {0}
Stands text cs (Some rest) = cs ≡ text ++ rest

-- a text and one behind it are one text
pub put : {cs k : DomString} (x y rest : DomString) → cs ≡ x ++ k → k ≡ y ++ rest → cs ≡ (x ++ y) ++ rest
put x y rest e g = e ∙ ap (λ t. x ++ t) g ∙ sym (append_assoc x y rest)

-- white space behind white space
pub more_spaces : (x y : DomString) → IsSpaces x → IsSpaces y → IsSpaces (x ++ y)
more_spaces x y h g = list_all-append is_space x y ∙ and_from (list_all is_space x) (list_all is_space y) h g

-- units that pass, and those behind them
pub while_split : (test : ℕ → Bool) (cs : DomString) → (list_all test (take_while test cs) ≡ true) × (cs ≡ take_while test cs ++ drop_while test cs)
while_split test [] = (refl, refl)
while_split test (c ∷ cs) = at (test c) refl (while_split test cs)
  where
    at : (b : Bool) → test c ≡ b → (list_all test (take_while test cs) ≡ true) × (cs ≡ take_while test cs ++ drop_while test cs)
        → (list_all test (take_while test (c ∷ cs)) ≡ true) × (c ∷ cs ≡ take_while test (c ∷ cs) ++ drop_while test (c ∷ cs))
    at true e more =
        let front : take_while test (c ∷ cs) ≡ c ∷ take_while test cs = take_while-cons test c cs ∙ cond-true (test c) (c ∷ take_while test cs) [] e in
        let back : drop_while test (c ∷ cs) ≡ drop_while test cs = cond-true (test c) (drop_while test cs) (c ∷ cs) e in (
          ap (list_all test) front ∙ and_from (test c) (list_all test (take_while test cs)) e more.0,
          ap (λ t. c ∷ t) more.1 ∙ sym (ap (λ t. t ++ drop_while test (c ∷ cs)) front ∙ ap (λ t. (c ∷ take_while test cs) ++ t) back),
        )
    at false e more =
        let front : take_while test (c ∷ cs) ≡ [] = take_while-cons test c cs ∙ cond-false (test c) (c ∷ take_while test cs) [] e in
        let back : drop_while test (c ∷ cs) ≡ c ∷ cs = cond-false (test c) (drop_while test cs) (c ∷ cs) e in (
          ap (list_all test) front,
          sym (ap (λ t. t ++ drop_while test (c ∷ cs)) front ∙ back),
        )

-- white space, and what is behind it
abbrev pub Skips : DomString → Type 0
Skips cs = (spaces : DomString) × IsSpaces spaces × (cs ≡ spaces ++ skip_space cs)

pub skips : (cs : DomString) → Skips cs
skips cs = let split = while_split is_space cs in (take_while is_space cs, split.0, split.1)

-- a text that stands here
pub expect-stands : (t cs : DomString) → Stands t cs (expect t cs)
expect-stands [] cs = refl
expect-stands (t ∷ ts) [] = tt
expect-stands (t ∷ ts) (c ∷ cs) =
    subst (Stands (t ∷ ts) (c ∷ cs)) (sym (expect_at t ts c cs))
    (cond_both (t == c) (expect ts cs) None (Stands (t ∷ ts) (c ∷ cs)) (λ e. on (expect ts cs) (expect-stands ts cs) (eqb-true t c e)) (λ _. tt))
  where
    on : (o : Option DomString) → Stands ts cs o → t ≡ c → Stands (t ∷ ts) (c ∷ cs) o
    on None h e = tt
    on (Some rest) h e = ap (λ x. x ∷ cs) (sym e) ∙ ap (λ x. t ∷ x) h

-- the first or the second
pub says-or : {A : Type 0} (form : Form A) (cs : DomString) (a b : Option (A × DomString)) → Says form cs a → Says form cs b → Says form cs (option_or a b)
says-or form cs None b h g = g
says-or form cs (Some r) b h g = h

-- a text of a value is, in another form, one of f of the value
pub record IsFormOf {A B : Type 0} (form : Form A) (other : Form B) (f : A → B) : Type 0 where
  pub by : (text : DomString) (x : A) → form text x → other text (f x)

-- f of what is read
pub says-map : {A B : Type 0} {form : Form A} {other : Form B} {f : A → B} → IsFormOf form other f → (cs : DomString) (r : Option (A × DomString)) →
    Says form cs r → Says other cs (read_map f r)
says-map of cs None h = tt
says-map of cs (Some r) h = (h.0, of.by h.0 r.0 h.1, h.2)

-- what is meant by a text that stands here
pub says-means : {A : Type 0} (form : Form A) (a : A) (t cs : DomString) → form t a → Says form cs (option_map (λ rest. (a, rest)) (expect t cs))
says-means form a t cs h = at (expect t cs) (expect-stands t cs)
  where
    at : (o : Option DomString) → Stands t cs o → Says form cs (option_map (λ rest. (a, rest)) o)
    at None s = tt
    at (Some rest) s = (t, h, s)

-- what is read behind a text that stands here
pub says-then : {A : Type 0} (form : Form A) (t cs : DomString) (read : Reader A) →
    ((rest : DomString) → Says (λ text x. form (t ++ text) x) rest (read rest)) → Says form cs (option_and_then read (expect t cs))
says-then {A} form t cs read h = at (expect t cs) (expect-stands t cs)
  where
    on : (rest : DomString) → cs ≡ t ++ rest → (r : Option (A × DomString)) → Says (λ text x. form (t ++ text) x) rest r → Says form cs r
    on rest s None g = tt
    on rest s (Some r) g = (t ++ g.0, g.1, put t g.0 r.1 s g.2)

    at : (o : Option DomString) → Stands t cs o → Says form cs (option_and_then read o)
    at None s = tt
    at (Some rest) s = on rest s (read rest) (h rest)

-- a name
pub name-says : (cs : DomString) → Says IsName cs (read_name cs)
name-says [] = tt
name-says (c ∷ cs) =
    let split = while_split continues_name cs in
    cond_both (begins_name c) (Some (c ∷ take_while continues_name cs, drop_while continues_name cs)) None (Says IsName (c ∷ cs))
    (λ h. (
      c ∷ take_while continues_name cs,
      (refl, and_from (begins_name c) (list_all continues_name (take_while continues_name cs)) h split.0),
      ap (λ t. c ∷ t) split.1,
    )) (λ _. tt)

-- a quoted value, behind its quote
quoted-says : (quote : ℕ) (cs : DomString) → Says (λ text value. IsQuoted quote (quote ∷ text) value) cs (read_quoted quote cs)
quoted-says quote cs = at (expect (quote ∷ []) (drop_while (may_stand_quoted quote) cs)) (expect-stands (quote ∷ []) (drop_while (may_stand_quoted quote) cs))
  where
    at : (o : Option DomString) → Stands (quote ∷ []) (drop_while (may_stand_quoted quote) cs) o →
        Says (λ text v. IsQuoted quote (quote ∷ text) v) cs (option_map (λ rest'. (take_while (may_stand_quoted quote) cs, rest')) o)
    at None s = tt
    at (Some behind) s =
        let split = while_split (may_stand_quoted quote) cs in
        let v = take_while (may_stand_quoted quote) cs in
        (v ++ quote ∷ [], (refl, split.0), put v (quote ∷ []) behind split.1 s)

-- a value
value-says : (cs : DomString) → Says IsValue cs (read_value cs)
value-says [] = tt
value-says (c ∷ cs) =
    cond_both ((c == 34) || (c == 39)) (read_quoted c cs) (read_name (c ∷ cs)) (Says IsValue (c ∷ cs))
    (λ h. quoted (read_quoted c cs) (quoted-says c cs) h) (λ _. named (read_name (c ∷ cs)) (name-says (c ∷ cs)))
  where
    named : (r : Option (Word × DomString)) → Says IsName (c ∷ cs) r → Says IsValue (c ∷ cs) r
    named None h = tt
    named (Some r) h = (h.0, plain h.1, h.2)

    by_quote : (text value : DomString) → IsQuoted c text value → (b : Bool) → (c == 34) ≡ b → (b || (c == 39)) ≡ true → IsValue text value
    by_quote text value q true e h = double (subst (λ x. IsQuoted x text value) (eqb-true c 34 e) q)
    by_quote text value q false e h = single (subst (λ x. IsQuoted x text value) (eqb-true c 39 h) q)

    quoted : (r : Option (DomString × DomString)) → Says (λ text value. IsQuoted c (c ∷ text) value) cs r → ((c == 34) || (c == 39)) ≡ true →
        Says IsValue (c ∷ cs) r
    quoted None h e = tt
    quoted (Some r) h e = (c ∷ h.0, by_quote (c ∷ h.0) r.0 h.1 (c == 34) refl e, ap (λ t. c ∷ t) h.2)

-- a sign
sign-says : (cs : DomString) → Says (λ text t. text ≡ sign t) cs (read_one_of signs cs)
sign-says cs =
    let form : Form AttributeTest = λ text t. text ≡ sign t in
    says-or form cs _ _ (says-means form equals (codes "=") cs refl)
    (says-or form cs _ _ (says-means form has_word (codes "~=") cs refl)
    (says-or form cs _ _ (says-means form begins_with_dash (codes "|=") cs refl)
    (says-or form cs _ _ (says-means form begins (codes "^=") cs refl)
    (says-or form cs _ _ (says-means form ends (codes "$=") cs refl)
    (says-or form cs _ _ (says-means form holds (codes "*=") cs refl) tt)))))

-- An attribute's name, and the sign behind it.
record HasSign (cs : DomString) (a : Word) (t : AttributeTest) (behind : DomString) : Type 0 where
  named : is_name a ≡ true
  rest : DomString
  name_is : skip_space cs ≡ a ++ rest
  sign_is : skip_space rest ≡ sign t ++ behind

-- what stands in brackets
attribute-says : (cs : DomString) → Says (λ text s. IsSimple (codes "[" ++ text) s) cs (read_attribute cs)
attribute-says cs = named (read_name (skip_space cs)) (name-says (skip_space cs))
  where
    bare : (a : Word) (rest : DomString) → is_name a ≡ true → skip_space cs ≡ a ++ rest → (o : Option DomString) →
        Stands (codes "]") (skip_space (skip_space rest)) o
        → Says (λ text s. IsSimple (codes "[" ++ text) s) cs (option_map (λ behind. (with_attribute a, behind)) o)
    bare a rest n e None s = tt
    bare a rest n e (Some behind) s =
        let first = skips cs in
        let middle = skips rest in
        let last = skips (skip_space rest) in
        let after = middle.0 ++ last.0 in (
          first.0 ++ (a ++ (after ++ codes "]")),
          record {
            before = first.0;
            after = after;
            spaces_before = first.1;
            spaces_after = more_spaces middle.0 last.0 middle.1 last.1;
            named = n;
            whole = refl;
          },
          put first.0 (a ++ (after ++ codes "]")) behind first.2
              (put a (after ++ codes "]") behind e
              (put after (codes "]") behind
              (put middle.0 last.0 (skip_space (skip_space rest)) middle.2 last.2) s)),
        )

    closed : {a : Word} {t : AttributeTest} {behind v said : DomString} (left : DomString) → HasSign cs a t behind → IsValue said v →
        skip_space behind ≡ said ++ left → (o : Option DomString) → Stands (codes "]") (skip_space left) o →
        Says (λ text s. IsSimple (codes "[" ++ text) s) cs (option_map (λ b. (with_value a t v, b)) o)
    closed left m value h None s = tt
    closed {a} {t} {behind} {said = said} left m value h (Some b) s =
        let rest = m.rest in
        let one = skips cs in
        let two = skips rest in
        let three = skips behind in
        let four = skips left in
        let end = four.0 ++ codes "]" in
        let end_is = put four.0 (codes "]") b four.2 s in
        let said_is = put said end b h end_is in
        let behind_is = put three.0 (said ++ end) b three.2 said_is in
        let sign_is = put (sign t) (three.0 ++ (said ++ end)) b m.sign_is behind_is in
        let rest_is = put two.0 (sign t ++ (three.0 ++ (said ++ end))) b two.2 sign_is in
        let name_is = put a (two.0 ++ (sign t ++ (three.0 ++ (said ++ end)))) b m.name_is rest_is in (
          one.0 ++ (a ++ (two.0 ++ (sign t ++ (three.0 ++ (said ++ end))))),
          record {
            before = one.0;
            between = two.0;
            behind = three.0;
            after = four.0;
            said = said;
            spaces_before = one.1;
            spaces_between = two.1;
            spaces_behind = three.1;
            spaces_after = four.1;
            named = m.named;
            valued = value;
            whole = refl;
          },
          put one.0 (a ++ (two.0 ++ (sign t ++ (three.0 ++ (said ++ end))))) b one.2 name_is,
        )

    valued : {a : Word} {t : AttributeTest} {behind : DomString} → HasSign cs a t behind → (r : Option (DomString × DomString)) →
        Says IsValue (skip_space behind) r
        → Says (λ text s. IsSimple (codes "[" ++ text) s) cs (closed_by (codes "]") (read_map (with_value a t) r))
    valued m None h = tt
    valued m (Some r) h =
        closed r.1 m h.1 h.2 (expect (codes "]") (skip_space r.1)) (expect-stands (codes "]") (skip_space r.1))

    tested : (a : Word) (rest : DomString) → is_name a ≡ true → skip_space cs ≡ a ++ rest → (o : Option (AttributeTest × DomString)) →
        Says (λ text t. text ≡ sign t) (skip_space rest) o
        → Says (λ text s. IsSimple (codes "[" ++ text) s) cs (closed_by (codes "]") (read_test_of a (skip_space rest) o))
    tested a rest n e None h = bare a rest n e (expect (codes "]") (skip_space (skip_space rest))) (expect-stands (codes "]") (skip_space (skip_space rest)))
    tested a rest n e (Some t) h =
        valued (record { named = n; rest = rest; name_is = e; sign_is = h.2 ∙ ap (λ x. x ++ t.1) h.1 })
        (read_value (skip_space t.1)) (value-says (skip_space t.1))

    named : (r : Option (Word × DomString)) → Says IsName (skip_space cs) r →
        Says (λ text s. IsSimple (codes "[" ++ text) s) cs (closed_by (codes "]") (option_and_then (λ (a, rest). read_test a (skip_space rest)) r))
    named None h = tt
    named (Some r) h = tested r.0 r.1 h.1.1 (h.2 ∙ ap (λ x. x ++ r.1) h.1.0) (read_one_of signs (skip_space r.1)) (sign-says (skip_space r.1))

-- a name behind a sign
named-says : (t : DomString) (f : Word → Simple) → ((name : Word) → is_name name ≡ true → IsSimple (t ++ name) (f name)) → (cs : DomString) →
    Says IsSimple cs (option_and_then (λ rest. read_map f (read_name rest)) (expect t cs))
named-says t f by cs =
    says-then IsSimple t cs (λ rest. read_map f (read_name rest))
    (λ rest. says-map {form = IsName} {other = λ text x. IsSimple (t ++ text) x} {f = f}
    (record { by = λ text name h. subst (λ x. IsSimple (t ++ x) (f name)) (sym h.0) (by name h.1) }) rest (read_name rest) (name-says rest))

-- a simple selector
pub simple-says : (cs : DomString) → Says IsSimple cs (read_simple cs)
simple-says cs =
    says-or IsSimple cs _ _ (named-says (codes "#") of_id (λ name h. (refl, h)) cs)
    (says-or IsSimple cs _ _ (named-says (codes ".") of_class (λ name h. (refl, h)) cs)
    (says-or IsSimple cs _ _ (says-then IsSimple (codes "[") cs read_attribute attribute-says)
    (says-or IsSimple cs _ _ (says-means IsSimple first_child (codes ":first-child") cs refl)
    (says-or IsSimple cs _ _ (says-means IsSimple last_child (codes ":last-child") cs refl) tt))))
