-- What is in the grammar is read: compounds, complex selectors and lists of them.
use Rattle.dom_selectors.proofs.Cited.{◌≡◌, ℕ, Bool, true, false, List, [], ◌∷◌, ◌++◌, Option, Some, None, refl, ap, sym, subst, ◌∙◌, append_assoc, arith, ◌||◌}
use Rattle.dom_selectors.proofs.Cited.{◌==◌, map, option_map, codes, option_or, option_map_or, list_all, cond-false, and_parts, or_parts, nat_tests, Word}
use Rattle.dom_selectors.proofs.Cited.{DomString, begins_name, continues_name, is_name, is_empty, Simple, CompoundPart, is_space, of_type, of_any_type, of_id}
use Rattle.dom_selectors.proofs.Cited.{of_class, with_value, first_child, last_child, simple, is_not, Reader, skip_space, read_map, expect, closed_by, read_all}
use Rattle.dom_selectors.proofs.Cited.{read_one_of, read_simple, read_type_name, read_type, read_compound_of, read_not, read_part, read_compound}
use Rattle.dom_selectors.proofs.Cited.{with_attribute, Form, IsSpaces, IsSimple, IsType, AreEach, IsCompoundOf, IsPart, IsCompound, behind_list}
use Rattle.dom_selectors.proofs.Shorter.{Shrinks, simple-ends, part-ends}
use Rattle.dom_selectors.proofs.Repeats.{all-one, all-none}
use Rattle.dom_selectors.proofs.FoundCompounds.{some_of}
use Rattle.dom_selectors.proofs.Complete.{head_passes, skip-read, name-read, name-head, simple-read, space_not_name}

-- a unit with which a part begins: `#`, `.`, `[`, `:`
abbrev begins_part : ℕ → Bool
begins_part c = (35 == c) || (46 == c) || (91 == c) || (58 == c)

-- a sign between compounds
abbrev pub begins_sign : ℕ → Bool
begins_sign c = (62 == c) || (43 == c) || (126 == c)

-- neither a name nor a part goes on here
pub record Off (rest : DomString) : Type 0 where
  pub name : head_passes continues_name rest ≡ false
  pub part : head_passes begins_part rest ≡ false

-- neither white space nor a sign stands where a compound begins
pub record Begins (rest : DomString) : Type 0 where
  pub space : head_passes is_space rest ≡ false
  pub sign : head_passes begins_sign rest ≡ false

part_not_name : (c : ℕ) → begins_part c ≡ true → continues_name c ≡ false
part_not_name c h = grind (arith, nat_tests)

part_not_begin : (c : ℕ) → begins_part c ≡ true → begins_name c ≡ false
part_not_begin c h = grind (arith, nat_tests)

part_not_star : (c : ℕ) → begins_part c ≡ true → (42 == c) ≡ false
part_not_star c h = grind (arith, nat_tests)

part_not_space : (c : ℕ) → begins_part c ≡ true → is_space c ≡ false
part_not_space c h = grind (arith, nat_tests)

part_not_sign : (c : ℕ) → begins_part c ≡ true → begins_sign c ≡ false
part_not_sign c h = grind (arith, nat_tests)

name_not_sign : (c : ℕ) → begins_name c ≡ true → begins_sign c ≡ false
name_not_sign c h = grind (arith, nat_tests)

pub space_not_part : (c : ℕ) → is_space c ≡ true → begins_part c ≡ false
space_not_part c h = grind (arith, nat_tests)

-- behind white space, or none
pub spaces_off : (spaces rest : DomString) → IsSpaces spaces → Off rest → Off (spaces ++ rest)
spaces_off [] rest h off = off
spaces_off (c ∷ spaces) rest h off = let s =
    (and_parts (is_space c) (list_all is_space spaces) h).0 in record { name = space_not_name c s; part = space_not_part c s }

-- a part begins with its unit
simple-head : (text : DomString) (s : Simple) → IsSimple text s → head_passes begins_part text ≡ true
simple-head text (of_type name) h = absurd h
simple-head text of_any_type h = absurd h
simple-head text (of_id name) h = ap (head_passes begins_part) h.0
simple-head text (of_class name) h = ap (head_passes begins_part) h.0
simple-head text (with_attribute name) h = ap (head_passes begins_part) h.whole
simple-head text (with_value name t value) h = ap (head_passes begins_part) h.whole
simple-head text first_child h = ap (head_passes begins_part) h
simple-head text last_child h = ap (head_passes begins_part) h

part-head : (text : DomString) (p : CompoundPart) → IsPart text p → head_passes begins_part text ≡ true
part-head text (simple s) h = simple-head text s h
part-head text (is_not ss) h = ap (head_passes begins_part) h.whole

-- a test fails at the head of a part
head-fails : (test : ℕ → Bool) → ((c : ℕ) → begins_part c ≡ true → test c ≡ false) → (text rest : DomString) →
    head_passes begins_part text ≡ true → head_passes test (text ++ rest) ≡ false
head-fails test not_part [] rest h = cc
head-fails test not_part (c ∷ text) rest h = not_part c h

-- no part begins with such a unit
no-sign : (c : ℕ) → begins_part c ≡ false → ((35 == c) ≡ false) × ((46 == c) ≡ false) × ((91 == c) ≡ false) × ((58 == c) ≡ false)
no-sign c h =
    let a = or_parts ((35 == c) || (46 == c) || (91 == c)) (58 == c) h in
    let b = or_parts ((35 == c) || (46 == c)) (91 == c) a.0 in
    let d = or_parts (35 == c) (46 == c) b.0 in
    (d.0, d.1, b.1, a.1)

-- no simple selector is read where none begins
simple-none : (rest : DomString) → head_passes begins_part rest ≡ false → read_simple rest ≡ None
simple-none [] h = refl
simple-none (c ∷ cs) h = let d = no-sign c h in rw (d.0, d.1, d.2, d.3) refl

part-none : (rest : DomString) → head_passes begins_part rest ≡ false → read_part rest ≡ None
part-none [] h = refl
part-none (c ∷ cs) h = let d = no-sign c h in rw (d.0, d.1, d.2, d.3) refl

-- a compound begins where a part does, or a name
of_head : (t : DomString) → head_passes begins_part t ≡ true → Begins t
of_head [] h = cc
of_head (c ∷ t) h = record { space = part_not_space c h; sign = part_not_sign c h }

of_name : (name rest : DomString) → is_name name ≡ true → Begins (name ++ rest)
of_name [] rest h = cc
of_name (c ∷ cs) rest h = record { space = name-head (c ∷ cs) rest h; sign = name_not_sign c (and_parts (begins_name c) (list_all continues_name cs) h).0 }

-- some items, read one after another
module _ {A : Type 0} (form : Form A) (read : Reader A) (shrinks : Shrinks read) (Ok : DomString → Type 0)
    (one : (text : DomString) (x : A) (rest : DomString) → form text x → Ok rest → read (text ++ rest) ≡ Some (x, rest))
    (starts : (text : DomString) (x : A) (rest : DomString) → form text x → Ok (text ++ rest)) where
  pub each-ok : (xs : List A) (text rest : DomString) → AreEach form text xs → Ok rest → Ok (text ++ rest)
  each-ok [] text rest h ok = subst (λ t. Ok (t ++ rest)) (sym h) ok
  each-ok (x ∷ xs) text rest h ok = subst Ok (sym (ap (λ t. t ++ rest) h.4 ∙ append_assoc h.0 h.1 rest)) (starts h.0 x (h.1 ++ rest) h.2)

  pub each-read : (xs : List A) (text rest : DomString) → AreEach form text xs → Ok rest → read rest ≡ None → read_all read (text ++ rest) ≡ (xs, rest)
  each-read [] text rest h ok none = ap (λ t. read_all read (t ++ rest)) h ∙ all-none read rest none
  each-read (x ∷ xs) text rest h ok none =
      ap (read_all read) (ap (λ t. t ++ rest) h.4 ∙ append_assoc h.0 h.1 rest)
      ∙ all-one read shrinks (h.0 ++ (h.1 ++ rest)) (x, h.1 ++ rest) (one h.0 x (h.1 ++ rest) h.2 (each-ok xs h.1 rest h.3 ok))
      ∙ ap (behind_list (x ∷ [])) (each-read xs h.1 rest h.3 ok none)

-- NAME or `*`
type-read : (types : List Simple) (front rest : DomString) → IsType front types → head_passes continues_name rest ≡ false →
    (types ≡ [] → read_type_name rest ≡ None) → read_type (front ++ rest) ≡ (types, rest)
type-read [] front rest h off none =
    let after : Option (Simple × DomString) → List Simple × DomString = λ r. option_map_or (λ x. (x.0 ∷ [], x.1)) r ([], rest) in
    ap (λ t. read_type (t ++ rest)) h ∙ ap after (none refl)
type-read (of_type name ∷ []) front rest h off none =
    let after : Option (Word × DomString) → List Simple × DomString =
    λ r. option_map_or (λ x. (x.0 ∷ [], x.1))
    (option_or (read_map of_type r) (read_one_of ((codes "*", of_any_type) ∷ []) (name ++ rest))) ([], name ++ rest) in
    ap (λ t. read_type (t ++ rest)) h.0 ∙ ap after (name-read name rest h.1 off)
type-read (of_any_type ∷ []) front rest h off none = ap (λ t. read_type (t ++ rest)) h
type-read (x ∷ ys) front rest h off none = absurd h

-- compounds of such parts
module _ {A : Type 0} (part : Simple → A) (form : Form A) (read : Reader A) (shrinks : Shrinks read)
    (heads : (text : DomString) (x : A) → form text x → head_passes begins_part text ≡ true)
    (one : (text : DomString) (x : A) (rest : DomString) → form text x → head_passes continues_name rest ≡ false →
    read (text ++ rest) ≡ Some (x, rest)) (no_part : (rest : DomString) → head_passes begins_part rest ≡ false → read rest ≡ None) where
  part-starts : (text : DomString) (x : A) (rest : DomString) → form text x → head_passes continues_name (text ++ rest) ≡ false
  part-starts text x rest h = head-fails continues_name part_not_name text rest (heads text x h)

  back-read : (parts : List A) (back rest : DomString) → AreEach form back parts → Off rest → read_all read (back ++ rest) ≡ (parts, rest)
  back-read parts back rest h off = each-read form read shrinks (λ r. head_passes continues_name r ≡ false) one part-starts parts back rest h
      off.name (no_part rest off.part)

  back-off : (parts : List A) (back rest : DomString) → AreEach form back parts → Off rest → head_passes continues_name (back ++ rest) ≡ false
  back-off parts back rest h off = each-ok form read shrinks (λ r. head_passes continues_name r ≡ false) one part-starts parts back rest h off.name

  -- parts that are some begin with a part
  back-head : (parts : List A) (back rest : DomString) → AreEach form back parts → is_empty parts ≡ false → head_passes begins_part (back ++ rest) ≡ true
  back-head [] back rest h some = cc
  back-head (x ∷ xs) back rest h some = ap (λ t. head_passes begins_part (t ++ rest)) h.4 ∙ longer h.0 (h.1) (heads h.0 x h.2)
    where
      longer : (first more : DomString) → head_passes begins_part first ≡ true → head_passes begins_part ((first ++ more) ++ rest) ≡ true
      longer [] more e = cc
      longer (c ∷ first) more e = e

  compound-none : {text : DomString} {all : List A} (h : IsCompoundOf part form text all) (rest : DomString) → h.types ≡ [] →
      read_type_name (h.back ++ rest) ≡ None
  compound-none {all = all} h rest e =
      let shape : all ≡ h.parts = h.joined ∙ ap (λ ts. map part ts ++ h.parts) e in
      none (h.back ++ rest) (back-head h.parts h.back rest h.each (sym (ap (is_empty {X = A}) shape) ∙ h.some))
    where
      none : (t : DomString) → head_passes begins_part t ≡ true → read_type_name t ≡ None
      none [] h = cc
      none (c ∷ t) h = rw (part_not_begin c h, part_not_star c h) refl

  compound-read : (text : DomString) (all : List A) (rest : DomString) → IsCompoundOf part form text all → Off rest →
      read_compound_of part read (text ++ rest) ≡ Some (all, rest)
  compound-read text all rest h off =
      let found : List Simple × DomString → Option (List A × DomString) = λ t. some_of (behind_list (map part t.0) (read_all read t.1)) in
      let more : List A × DomString → Option (List A × DomString) = λ m. some_of (behind_list (map part h.types) m) in
      ap (λ t. read_compound_of part read (t ++ rest)) h.whole
      ∙ ap (read_compound_of part read) (append_assoc h.front h.back rest)
      ∙ ap found (type-read h.types h.front (h.back ++ rest) h.typed (back-off h.parts h.back rest h.each off)
      (compound-none h rest))
      ∙ ap more (back-read h.parts h.back rest h.each off)
      ∙ ap (λ ys. some_of (ys, rest)) (sym h.joined)
      ∙ cond-false (is_empty all) None (Some (all, rest)) h.some

  -- where it begins
  compound-begins : (text : DomString) (all : List A) (rest : DomString) → IsCompoundOf part form text all → Begins (text ++ rest)
  compound-begins text all rest h =
      subst Begins (sym (ap (λ t. t ++ rest) h.whole ∙ append_assoc h.front h.back rest)) (at h.types h.front h.typed h.joined)
    where
      at : (types : List Simple) (front : DomString) → IsType front types → all ≡ map part types ++ h.parts → Begins (front ++ (h.back ++ rest))
      at [] front t joined =
          let head = back-head h.parts h.back rest h.each (sym (ap (is_empty {X = A}) joined) ∙ h.some) in
          subst (λ f. Begins (f ++ (h.back ++ rest))) (sym t) (of_head (h.back ++ rest) head)
      at (of_type name ∷ []) front t joined = subst (λ f. Begins (f ++ (h.back ++ rest))) (sym t.0) (of_name name (h.back ++ rest) t.1)
      at (of_any_type ∷ []) front t joined = subst (λ f. Begins (f ++ (h.back ++ rest))) (sym t) (record { space = refl; sign = refl })
      at (x ∷ ys) front t joined = absurd t

-- a compound without `:not`
simples-read : (text : DomString) (ss : List Simple) (rest : DomString) → IsCompoundOf (λ s. s) IsSimple text ss → Off rest →
    read_compound_of (λ s. s) read_simple (text ++ rest) ≡ Some (ss, rest)
simples-read = compound-read (λ s. s) IsSimple read_simple simple-ends simple-head simple-read simple-none

-- `:not(..)`, behind its bracket
negation-read : {ss : List Simple} {inner : DomString} (before after rest : DomString) → IsSpaces before → IsSpaces after →
    IsCompoundOf (λ s. s) IsSimple inner ss
    → closed_by (codes ")") (read_map is_not (read_compound_of (λ s. s) read_simple (skip_space (before ++ (inner ++ (after ++ 41 ∷ rest)))))) ≡
    Some (is_not ss, rest)
negation-read {ss} {inner} before after rest h1 h2 h =
    let end = after ++ 41 ∷ rest in
    let begins = compound-begins (λ s. s) IsSimple read_simple simple-ends simple-head simple-read simple-none inner ss end h in
    ap (λ k. closed_by (codes ")") (read_map is_not (read_compound_of (λ s. s) read_simple k))) (skip-read before (inner ++ end) h1 begins.space)
    ∙ ap (λ r. closed_by (codes ")") (read_map is_not r)) (simples-read inner ss end h (spaces_off after (41 ∷ rest) h2 (record { name = refl; part = refl })))
    ∙ ap (λ k. option_map (λ b. (is_not ss, b)) (expect (codes ")") k)) (skip-read after (41 ∷ rest) h2 refl)

-- a part of a compound
part-read : (text : DomString) (p : CompoundPart) (rest : DomString) → IsPart text p → head_passes continues_name rest ≡ false →
    read_part (text ++ rest) ≡ Some (p, rest)
part-read text (simple s) rest h off = ap (λ o. option_or (read_map simple o) (read_not (text ++ rest))) (simple-read text s rest h off)
part-read text (is_not ss) rest h off =
    let w = h.before ++ (h.inner ++ (h.after ++ codes ")")) in
    let whole : w ++ rest ≡ h.before ++ (h.inner ++ (h.after ++ 41 ∷ rest)) =
    append_assoc h.before (h.inner ++ (h.after ++ codes ")")) rest
    ∙ ap (λ t. h.before ++ t) (append_assoc h.inner (h.after ++ codes ")") rest ∙ ap (λ t. h.inner ++ t) (append_assoc h.after (codes ")") rest)) in
    ap (λ t. read_part (t ++ rest)) h.whole
    ∙ ap (λ t. closed_by (codes ")") (read_map is_not (read_compound_of (λ s. s) read_simple (skip_space t)))) whole
    ∙ negation-read h.before h.after rest h.spaces_before h.spaces_after h.negated

-- a compound
pub full-read : (text : DomString) (c : List CompoundPart) (rest : DomString) → IsCompound text c → Off rest → read_compound (text ++ rest) ≡ Some (c, rest)
full-read = compound-read simple IsPart read_part part-ends part-head part-read part-none

pub full-begins : (text : DomString) (c : List CompoundPart) (rest : DomString) → IsCompound text c → Begins (text ++ rest)
full-begins = compound-begins simple IsPart read_part part-ends part-head part-read part-none
