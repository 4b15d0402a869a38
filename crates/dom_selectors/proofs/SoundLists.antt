-- What is read as compounds, complex selectors and lists of them is in the grammar.
use Rattle.dom_selectors.proofs.Cited.{◌≡◌, ℕ, zero, suc, Bool, true, false, List, [], ◌∷◌, ◌++◌, length, Option, Some, None, refl, ap, sym, subst, ◌∙◌, ◌<◌}
use Rattle.dom_selectors.proofs.Cited.{arith, append_assoc, map, fold, option_map, codes, nat_lt, if◌then◌else◌, option_and_then, option_or, option_map_or}
use Rattle.dom_selectors.proofs.Cited.{cond_both, ltb-true, append-nil, none-some, same_Some, DomString, is_empty, Simple, CompoundPart, Combinator, Complex}
use Rattle.dom_selectors.proofs.Cited.{of_type, of_any_type, simple, is_not, descendant, child, next, later, alone, Reader, skip_space, read_map, expect}
use Rattle.dom_selectors.proofs.Cited.{closed_by, read_more, read_each, read_all, read_name, read_one_of, read_simple, read_type_name, read_type}
use Rattle.dom_selectors.proofs.Cited.{read_compound_of, read_not, read_part, read_compound, read_combinator, read_link, read_complex, read_next, link}
use Rattle.dom_selectors.proofs.Cited.{parse_selectors, whole, Form, IsSpaces, IsName, IsSimple, IsType, AreEach, IsCompoundOf, IsPart, IsCompound, IsSpaced}
use Rattle.dom_selectors.proofs.Cited.{IsCombinator, IsLink, IsComplex, IsSelector, combinator_signs}
use Rattle.dom_selectors.proofs.Sound.{Says, Stands, put, skips, expect-stands, says-or, says-map, says-means, says-then, name-says, simple-says}

-- what was read, with what it is read from
abbrev Reads : {A : Type 0} → Form A → DomString → A × DomString → Type 0
Reads form cs r = (text : DomString) × form text r.0 × (cs ≡ text ++ r.1)

-- those that are read one after another
each-says : {A : Type 0} (form : Form A) (read : Reader A) → ((cs : DomString) → Says form cs (read cs)) → (k : ℕ) (cs : DomString) →
    Reads (AreEach form) cs (read_each k read cs)
each-says form read s zero cs = ([], refl, refl)
each-says {A} form read s (suc k) cs = behind (read cs) (s cs) (λ rest. each-says form read s k rest)
  where
    -- one, and those behind it
    behind : (r : Option (A × DomString)) → Says form cs r → ((rest : DomString) → Reads (AreEach form) rest (read_each k read rest))
        → Reads (AreEach form) cs (read_more (λ rest. read_each k read rest) cs r)
    behind None h others = ([], refl, refl)
    behind (Some r) h others =
        let more = others r.1 in
        (h.0 ++ more.0, (h.0, more.0, h.1, more.1, refl), put h.0 more.0 (read_each k read r.1).1 h.2 more.2)

-- NAME or `*`
type_name-says : (cs : DomString) → Says (λ text s. IsType text (s ∷ [])) cs (read_type_name cs)
type_name-says cs =
    let form : Form Simple = λ text s. IsType text (s ∷ []) in
    says-or form cs _ _ (says-map {form = IsName} {other = form} {f = of_type} (record { by = λ text name h. h }) cs (read_name cs) (name-says cs))
    (says-or form cs _ _ (says-means form of_any_type (codes "*") cs refl) tt)

-- a type is read soundly, if it is there
type-says : (cs : DomString) → Reads IsType cs (read_type cs)
type-says cs = at (read_type_name cs) (type_name-says cs)
  where
    at : (r : Option (Simple × DomString)) → Says (λ text s. IsType text (s ∷ [])) cs r → Reads IsType cs (option_map_or (λ r'. (r'.0 ∷ [], r'.1)) r ([], cs))
    at None h = ([], refl, refl)
    at (Some r) h = h

-- a compound
compound-says : {A : Type 0} (part : Simple → A) (form : Form A) (read : Reader A) → ((cs : DomString) → Says form cs (read cs)) →
    (cs : DomString) → Says (IsCompoundOf part form) cs (read_compound_of part read cs)
compound-says {A} part form read s cs =
    let front = type-says cs in
    let mid = (read_type cs).1 in
    let back = each-says form read s (length mid) mid in
    let parts : List A × DomString = read_all read mid in
    let all = map part (read_type cs).0 ++ parts.0 in
    cond_both (is_empty all) None (Some (all, parts.1)) (Says (IsCompoundOf part form) cs) (λ _. tt)
    (λ e. (
      front.0 ++ back.0,
      record {
        front = front.0;
        back = back.0;
        types = (read_type cs).0;
        parts = parts.0;
        typed = front.1;
        each = back.1;
        joined = refl;
        some = e;
        whole = refl;
      },
      put front.0 back.0 parts.1 front.2 back.2,
    ))

-- `:not(..)`
not-says : (cs : DomString) → Says IsPart cs (read_not cs)
not-says cs = says-then IsPart (codes ":not(") cs
    (λ rest. closed_by (codes ")") (read_map is_not (read_compound_of (λ s. s) read_simple (skip_space rest))))
    (λ rest. at rest (read_compound_of (λ s. s) read_simple (skip_space rest))
    (compound-says (λ s. s) IsSimple read_simple simple-says (skip_space rest)))
  where
    closed : (rest inner : DomString) (r : List Simple × DomString) → IsCompoundOf (λ s. s) IsSimple inner r.0 → skip_space rest ≡ inner ++ r.1 →
        (o : Option DomString) → Stands (codes ")") (skip_space r.1) o
        → Says (λ text p. IsPart (codes ":not(" ++ text) p) rest (option_map (λ behind. (is_not r.0, behind)) o)
    closed rest inner r h e None s = tt
    closed rest inner r h e (Some behind) s =
        let first = skips rest in
        let last = skips r.1 in
        let end_is = put last.0 (codes ")") behind last.2 s in (
          first.0 ++ (inner ++ (last.0 ++ codes ")")),
          record { before = first.0; inner = inner; after = last.0; spaces_before = first.1; spaces_after = last.1; negated = h; whole = refl },
          put first.0 (inner ++ (last.0 ++ codes ")")) behind first.2
              (put inner (last.0 ++ codes ")") behind e end_is),
        )

    at : (rest : DomString) (r : Option (List Simple × DomString)) → Says (IsCompoundOf (λ s. s) IsSimple) (skip_space rest) r →
        Says (λ text p. IsPart (codes ":not(" ++ text) p) rest (closed_by (codes ")") (read_map is_not r))
    at rest None h = tt
    at rest (Some r) h = closed rest h.0 r h.1 h.2 (expect (codes ")") (skip_space r.1)) (expect-stands (codes ")") (skip_space r.1))

-- a part of a compound
part-says : (cs : DomString) → Says IsPart cs (read_part cs)
part-says cs = says-or IsPart cs _ _ (says-map {form = IsSimple} {other = IsPart} {f = simple} (record { by = λ text s h. h }) cs (read_simple cs)
    (simple-says cs)) (not-says cs)

-- `>`, `+` or `~` alone
abbrev Bare : Form Combinator
Bare text descendant = ⊥
Bare text child = text ≡ codes ">"
Bare text next = text ≡ codes "+"
Bare text later = text ≡ codes "~"

-- with white space around it, it is a combinator
of_bare : (text said : DomString) (how : Combinator) → Bare said how → IsSpaced text said → IsCombinator text how
of_bare text said descendant h s = absurd h
of_bare text said how h s = subst (IsSpaced text) h s

-- a front is not empty where less stands behind it
not_empty : (front back cs : DomString) → cs ≡ front ++ back → length back < length cs → is_empty front ≡ false
not_empty [] back cs e h = absurd (omega (arith, h, ap length e))
not_empty (c ∷ front) back cs e h = refl

-- a combinator
combinator-says : (cs : DomString) → Says IsCombinator cs (read_combinator cs)
combinator-says cs =
    let bare : Form Combinator = λ text how. Bare text how in
    at (read_one_of combinator_signs (skip_space cs))
    (says-or bare (skip_space cs) _ _ (says-means bare child (codes ">") (skip_space cs) refl)
    (says-or bare (skip_space cs) _ _ (says-means bare next (codes "+") (skip_space cs) refl)
    (says-or bare (skip_space cs) _ _ (says-means bare later (codes "~") (skip_space cs) refl) tt)))
  where
    spaced : (text : DomString) (how : Combinator) (rest : DomString) → Bare text how → skip_space cs ≡ text ++ rest →
        Says IsCombinator cs (Some (how, skip_space rest))
    spaced text how rest h e =
        let first = skips cs in
        let last = skips rest in
        let said : IsSpaced (first.0 ++ (text ++ last.0)) text =
        record { before = first.0; after = last.0; spaces_before = first.1; spaces_after = last.1; whole = refl } in (
          first.0 ++ (text ++ last.0),
          of_bare (first.0 ++ (text ++ last.0)) text how h said,
          put first.0 (text ++ last.0)
              (skip_space rest) first.2 (put text last.0 (skip_space rest) e last.2),
        )

    some_space : nat_lt (length (skip_space cs)) (length cs) ≡ true → Says IsCombinator cs (Some (descendant, skip_space cs))
    some_space e =
        let first = skips cs in
        (first.0, (first.1, not_empty first.0 (skip_space cs) cs first.2 (ltb-true (length (skip_space cs)) (length cs) e)), first.2)

    at : (sign : Option (Combinator × DomString)) → Says (λ text how. Bare text how) (skip_space cs) sign
        → Says IsCombinator cs (option_map (λ (how, rest). (how, skip_space rest))
        (option_or sign (if nat_lt (length (skip_space cs)) (length cs) then Some (descendant, cs) else None)))
    at None h =
        cond_both (nat_lt (length (skip_space cs)) (length cs)) (Some (descendant, cs)) None
        (λ o. Says IsCombinator cs (option_map (λ (how, rest). (how, skip_space rest)) o)) some_space (λ _. tt)
    at (Some r) h = spaced h.0 r.0 r.1 h.1 h.2

-- a combinator with a compound
link-says : (cs : DomString) → Says IsLink cs (read_link cs)
link-says cs = at (read_combinator cs) (combinator-says cs)
  where
    on : (r : Combinator × DomString) (h : Says IsCombinator cs (Some r)) (c : Option (List CompoundPart × DomString)) → Says IsCompound r.1 c →
        Says IsLink cs (read_map (λ c'. (r.0, c')) c)
    on r h None g = tt
    on r h (Some c) g = (
      h.0 ++ g.0,
      record { front = h.0; back = g.0; combines = h.1; compound = g.1; whole = refl },
      put h.0 g.0 c.1 h.2 g.2,
    )

    at : (r : Option (Combinator × DomString)) → Says IsCombinator cs r →
        Says IsLink cs (option_and_then (λ (how, rest). read_map (λ c. (how, c)) (read_compound rest)) r)
    at None h = tt
    at (Some r) h = on r h (read_compound r.1) (compound-says simple IsPart read_part part-says r.1)

-- a complex selector with white space before it
abbrev IsSpacedComplex : Form Complex
IsSpacedComplex text x = (before inner : DomString) × IsSpaces before × IsComplex inner x × (text ≡ before ++ inner)

complex-says : (cs : DomString) → Says IsSpacedComplex cs (read_complex cs)
complex-says cs = at (read_compound (skip_space cs)) (compound-says simple IsPart read_part part-says (skip_space cs))
  where
    at : (r : Option (List CompoundPart × DomString)) → Says IsCompound (skip_space cs) r
        → Says IsSpacedComplex cs (option_map
        (λ (c, rest). let links : List (Combinator × List CompoundPart) ×
        DomString = read_all read_link rest in (fold link (alone c) links.0, links.1)) r)
    at None h = tt
    at (Some r) h =
        let first = skips cs in
        let back = each-says IsLink read_link link-says (length r.1) r.1 in
        let links : List (Combinator × List CompoundPart) × DomString = read_all read_link r.1 in (
          first.0 ++ (h.0 ++ back.0),
          (
            first.0,
            h.0 ++ back.0,
            first.1,
            record { front = h.0; back = back.0; first = r.0; links = links.0; compound = h.1; linked = back.1; joined = refl; whole = refl },
            refl,
          ),
          put first.0 (h.0 ++ back.0) links.1 first.2 (put h.0 back.0 links.1 h.2 back.2),
        )

-- `,` with a complex selector, and white space before both
abbrev IsNext : Form Complex
IsNext text x = (before inner : DomString) × IsSpaces before × IsSpacedComplex inner x × (text ≡ before ++ 44 ∷ inner)

next-says : (cs : DomString) → Says IsNext cs (read_next cs)
next-says cs = at (expect (codes ",") (skip_space cs)) (expect-stands (codes ",") (skip_space cs))
  where
    on : (rest : DomString) → skip_space cs ≡ 44 ∷ rest → (r : Option (Complex × DomString)) → Says IsSpacedComplex rest r → Says IsNext cs r
    on rest e None h = tt
    on rest e (Some r) h =
        let first = skips cs in
        (first.0 ++ 44 ∷ h.0, (first.0, h.0, first.1, h.1, refl), put first.0 (44 ∷ h.0) r.1 first.2 (e ∙ ap (λ t. 44 ∷ t) h.2))

    at : (o : Option DomString) → Stands (codes ",") (skip_space cs) o → Says IsNext cs (option_and_then read_complex o)
    at None s = tt
    at (Some rest) s = on rest s (read_complex rest) (complex-says rest)

-- A first one and those behind it, with the text that is left.
record AreListed (cs : DomString) (x : Complex) (xs : List Complex) (left : DomString) : Type 0 where
  one : DomString
  others : DomString
  first : IsSpacedComplex one x
  each : AreEach IsNext others xs
  whole : cs ≡ one ++ (others ++ left)

-- they are a selector, where white space is left
listed : {x : Complex} (xs : List Complex) {cs end : DomString} → AreListed cs x xs end → IsSpaces end → IsSelector cs (x ∷ xs)
listed [] {end = end} l spaces =
    let h = l.first in
    record {
      before = h.0;
      inner = h.1;
      after = end;
      spaces_before = h.2;
      spaces_after = spaces;
      complex = h.3;
      whole = l.whole ∙ ap (λ t. l.one ++ (t ++ end)) l.each ∙ ap (λ t. t ++ end) h.4 ∙ append_assoc h.0 h.1 end;
    }
listed (y ∷ ys) {end = end} l spaces =
    let h = l.first in
    let each = l.each in
    let first = each.2 in (
      l.one ++ first.0,
      first.1 ++ (each.1 ++ end),
      record {
        before = h.0;
        inner = h.1;
        after = first.0;
        spaces_before = h.2;
        spaces_after = first.2;
        complex = h.3;
        whole = ap (λ t. t ++ first.0) h.4 ∙ append_assoc h.0 h.1 first.0;
      },
      listed {x = y} ys (record { one = first.1; others = each.1; first = first.3; each = each.3; whole = refl }) spaces,
      l.whole ∙ ap (λ t. l.one ++ (t ++ end)) (each.4 ∙ ap (λ t. t ++ each.1) first.4)
          ∙ ap (λ t. l.one ++ t) (append_assoc (first.0 ++ 44 ∷ first.1) each.1 end ∙ append_assoc first.0 (44 ∷ first.1) (each.1 ++ end))
          ∙ sym (append_assoc l.one first.0 (44 ∷ (first.1 ++ (each.1 ++ end)))),
    )

-- only white space is left
only_spaces : (cs : DomString) → is_empty (skip_space cs) ≡ true → IsSpaces cs
only_spaces cs e =
    let first = skips cs in
    subst IsSpaces (sym (first.2 ∙ ap (λ t. first.0 ++ t) (none (skip_space cs) e) ∙ append-nil first.0)) first.1
  where
    none : (t : DomString) → is_empty t ≡ true → t ≡ []
    none [] e = refl
    none (c ∷ t) e = cc

-- what is read is in the grammar
pub parsed_says : (cs : DomString) (s : List Complex) → parse_selectors cs ≡ Some s → IsSelector cs s
parsed_says cs s = at (read_complex cs) (complex-says cs)
  where
    ended : {x : Complex} {xs : List Complex} {left : DomString} → AreListed cs x xs left → {b : Bool} → is_empty (skip_space left) ≡ b →
        (if b then Some (x ∷ xs) else None) ≡ Some s → IsSelector cs s
    ended {xs = xs} {left = left} l {b = true} f is = subst (IsSelector cs) (same_Some _ _ is) (listed xs l (only_spaces left f))
    ended l {b = false} f is = absurd (none-some s is)

    at : (r : Option (Complex × DomString)) → Says IsSpacedComplex cs r
        → option_and_then (λ (c, rest). let more : List Complex × DomString = read_all read_next rest in whole (c ∷ more.0, more.1)) r ≡ Some s →
        IsSelector cs s
    at None h is = absurd (none-some s is)
    at (Some r) h is =
        let more = each-says IsNext read_next next-says (length r.1) r.1 in
        ended (record { one = h.0; others = more.0; first = h.1; each = more.1; whole = h.2 ∙ ap (λ t. h.0 ++ t) more.2 }) refl is
