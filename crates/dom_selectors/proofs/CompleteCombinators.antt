-- What is in the grammar is read: combinators, complex selectors and lists.
use Rattle.dom_selectors.proofs.Cited.{◌≡◌, ◌<◌, false, List, [], ◌∷◌, ◌++◌, length, Option, Some, None, refl, ap, sym, subst, ◌∙◌, append_assoc, length-append}
use Rattle.dom_selectors.proofs.Cited.{arith, ◌||◌, ◌==◌, fold, option_map, codes, nat_lt, if◌then◌else◌, option_and_then, option_or, list_all, cond-true}
use Rattle.dom_selectors.proofs.Cited.{cond_both, and_parts, or_parts, lt-ltb, false≢true, append-nil, none-some, DomString, is_empty, CompoundPart, Combinator}
use Rattle.dom_selectors.proofs.Cited.{Complex, is_space, descendant, child, next, later, alone, skip_space, read_map, expect, read_all, read_one_of}
use Rattle.dom_selectors.proofs.Cited.{read_compound, read_combinator, read_link, read_complex, read_next, link, parse_selectors, whole, IsSpaces, IsSpaced}
use Rattle.dom_selectors.proofs.Cited.{IsCombinator, IsLink, IsComplex, IsSelector, combinator_signs, behind_list}
use Rattle.dom_selectors.proofs.Shorter.{link-ends, next-ends}
use Rattle.dom_selectors.proofs.Repeats.{all-one, all-none}
use Rattle.dom_selectors.proofs.Complete.{head_passes, skip-read, space_not_name}
use Rattle.dom_selectors.proofs.CompleteLists.{begins_sign, Off, Begins, space_not_part, spaces_off, each-ok, each-read, full-read, full-begins}

-- the combinator at the front of units, which become these without white space
abbrev combinator_at : DomString → DomString → Option (Combinator × DomString)
combinator_at spaced cs = option_map (λ (how, rest). (how, skip_space rest))
    (option_or (read_one_of combinator_signs spaced) (if nat_lt (length spaced) (length cs) then Some (descendant, cs) else None))

-- no sign is read where none stands
sign-none : (rest : DomString) → head_passes begins_sign rest ≡ false → read_one_of combinator_signs rest ≡ None
sign-none [] h = refl
sign-none (c ∷ cs) h =
    let a = or_parts ((62 == c) || (43 == c)) (126 == c) h in
    let b = or_parts (62 == c) (43 == c) a.0 in
    rw (b.0, b.1, a.1) refl

-- a sign with white space around it
spaced-read : {text said rest : DomString} (how : Combinator) → IsSpaced text said →
    ((t : DomString) → read_one_of combinator_signs (said ++ t) ≡ Some (how, t)) → ((t : DomString) → head_passes is_space (said ++ t) ≡ false) → Begins rest →
    read_combinator (text ++ rest) ≡ Some (how, rest)
spaced-read {text} {said} {rest} how h found apart begins =
    let tail = h.after ++ rest in
    let cs = text ++ rest in
    let shape : cs ≡ h.before ++ (said ++ tail) =
    ap (λ t. t ++ rest) h.whole ∙ append_assoc h.before (said ++ h.after) rest ∙ ap (λ t. h.before ++ t) (append_assoc said h.after rest) in
    ap (λ k. combinator_at k cs) (ap skip_space shape ∙ skip-read h.before (said ++ tail) h.spaces_before (apart tail))
    ∙ ap (λ o. option_map (λ (how', rest'). (how', skip_space rest'))
    (option_or o (if nat_lt (length (said ++ tail)) (length cs) then Some (descendant, cs) else None))) (found tail)
    ∙ ap (λ k. Some (how, k)) (skip-read h.after rest h.spaces_after begins.space)

-- a combinator
combinator-read : (text : DomString) (how : Combinator) (rest : DomString) → IsCombinator text how → Begins rest →
    read_combinator (text ++ rest) ≡ Some (how, rest)
combinator-read text child rest h begins = spaced-read child h (λ t. refl) (λ t. refl) begins
combinator-read text next rest h begins = spaced-read next h (λ t. refl) (λ t. refl) begins
combinator-read text later rest h begins = spaced-read later h (λ t. refl) (λ t. refl) begins
combinator-read text descendant rest h begins =
    let cs = text ++ rest in
    let skipped = skip-read text rest h.0 begins.space in
    ap (λ k. combinator_at k cs) skipped
    ∙ ap (λ o. option_map (λ (how, rest'). (how, skip_space rest'))
    (option_or o (if nat_lt (length rest) (length cs) then Some (descendant, cs) else None))) (sign-none rest begins.sign)
    ∙ ap (option_map (λ (how, rest'). (how, skip_space rest')))
    (cond-true (nat_lt (length rest) (length cs)) (Some (descendant, cs)) None (lt-ltb (length rest) (length cs) (longer text h.1)))
    ∙ ap (λ k. Some (descendant, k)) skipped
  where
    longer : (t : DomString) → is_empty t ≡ false → length rest < length (t ++ rest)
    longer [] e = cc
    longer (c ∷ t) e = omega (arith, length-append t rest)

-- neither a name nor a part goes on at a sign with white space around it
spaced-off : (text said rest : DomString) → IsSpaced text said → ((t : DomString) → Off (said ++ t)) → Off (text ++ rest)
spaced-off text said rest h off =
    subst Off (sym (ap (λ t. t ++ rest) h.whole ∙ append_assoc h.before (said ++ h.after) rest ∙ ap (λ t. h.before ++ t) (append_assoc said h.after rest)))
    (spaces_off h.before (said ++ (h.after ++ rest)) h.spaces_before (off (h.after ++ rest)))

-- neither a name nor a part goes on at a combinator
combinator-off : (text : DomString) (how : Combinator) (rest : DomString) → IsCombinator text how → Off (text ++ rest)
combinator-off text child rest h = spaced-off text (codes ">") rest h (λ t. record { name = refl; part = refl })
combinator-off text next rest h = spaced-off text (codes "+") rest h (λ t. record { name = refl; part = refl })
combinator-off text later rest h = spaced-off text (codes "~") rest h (λ t. record { name = refl; part = refl })
combinator-off [] descendant rest h = absurd (false≢true (sym h.1))
combinator-off (c ∷ text) descendant rest h = let s =
    (and_parts (is_space c) (list_all is_space text) h.0).0 in record { name = space_not_name c s; part = space_not_part c s }

-- a combinator with a compound
link-read : (text : DomString) (l : Combinator × List CompoundPart) (rest : DomString) → IsLink text l → Off rest → read_link (text ++ rest) ≡ Some (l, rest)
link-read text l rest h off =
    let on : Option (Combinator × DomString) → Option ((Combinator × List CompoundPart) × DomString) =
    λ o. option_and_then (λ (how, rest'). read_map (λ c. (how, c)) (read_compound rest')) o in
    let with_how : Option (List CompoundPart × DomString) → Option ((Combinator × List CompoundPart) × DomString) = λ o. read_map (λ c. (l.0, c)) o in
    ap read_link (ap (λ t. t ++ rest) h.whole ∙ append_assoc h.front h.back rest)
    ∙ ap on (combinator-read h.front l.0 (h.back ++ rest) h.combines (full-begins h.back l.1 rest h.compound))
    ∙ ap with_how (full-read h.back l.1 rest h.compound off)

link-starts : (text : DomString) (l : Combinator × List CompoundPart) (rest : DomString) → IsLink text l → Off (text ++ rest)
link-starts text l rest h = subst Off (sym (ap (λ t. t ++ rest) h.whole ∙ append_assoc h.front h.back rest))
    (combinator-off h.front l.0 (h.back ++ rest) h.combines)

-- no complex selector goes on here: white space, and then the end or `,`
data Stops (rest : DomString) : Type 0 where
  ended : IsSpaces rest → Stops rest
  comma : (spaces more : DomString) → IsSpaces spaces → rest ≡ spaces ++ 44 ∷ more → Stops rest

-- no link is read from units of which none but these is left behind white space
no-link : (rest spaced : DomString) → skip_space rest ≡ spaced → read_one_of combinator_signs spaced ≡ None → read_compound spaced ≡ None →
    read_link rest ≡ None
no-link rest spaced e none empty =
    let on : Option (Combinator × DomString) → Option ((Combinator × List CompoundPart) × DomString) =
    λ o. option_and_then (λ (how, rest'). read_map (λ c. (how, c)) (read_compound rest')) o in
    ap (λ k. on (combinator_at k rest)) e
    ∙ ap (λ o. on (option_map (λ (how, rest'). (how, skip_space rest'))
    (option_or o (if nat_lt (length spaced) (length rest) then Some (descendant, rest) else None)))) none
    ∙ cond_both (nat_lt (length spaced) (length rest)) (Some (descendant, rest)) None (λ o. on (option_map (λ (how, rest'). (how, skip_space rest')) o) ≡ None)
    (λ _. ap (λ k. read_map (λ c. (descendant, c)) (read_compound k)) e ∙ ap (read_map (λ c. (descendant, c))) empty) (λ _. refl)

stops-link : (rest : DomString) → Stops rest → read_link rest ≡ None
stops-link rest (ended h) = no-link rest [] (ap skip_space (sym (append-nil rest)) ∙ skip-read rest [] h refl) refl refl
stops-link rest (comma spaces more h e) = no-link rest (44 ∷ more) (ap skip_space e ∙ skip-read spaces (44 ∷ more) h refl) refl refl

stops-off : (rest : DomString) → Stops rest → Off rest
stops-off rest (ended h) = subst Off (append-nil rest) (spaces_off rest [] h (record { name = refl; part = refl }))
stops-off rest (comma spaces more h e) = subst Off (sym e) (spaces_off spaces (44 ∷ more) h (record { name = refl; part = refl }))

-- a complex selector
complex-read : {text : DomString} {x : Complex} {rest : DomString} (before : DomString) → IsSpaces before → IsComplex text x → Stops rest →
    read_complex (before ++ (text ++ rest)) ≡ Some (x, rest)
complex-read {text} {rest} before spaces h stops =
    let off = stops-off rest stops in
    let tail = h.back ++ rest in
    let on : Option (List CompoundPart × DomString) → Option (Complex × DomString) =
    λ r. option_map (λ (c, rest'). let links : List (Combinator × List CompoundPart) ×
    DomString = read_all read_link rest' in (fold link (alone c) links.0, links.1)) r in
    let made : List (Combinator × List CompoundPart) × DomString → Option (Complex × DomString) = λ ls. Some (fold link (alone h.first) ls.0, ls.1) in
    let shape : text ++ rest ≡ h.front ++ tail = ap (λ t. t ++ rest) h.whole ∙ append_assoc h.front h.back rest in
    ap (λ t. read_complex (before ++ t)) shape
    ∙ ap (λ k. on (read_compound k)) (skip-read before (h.front ++ tail) spaces (full-begins h.front h.first tail h.compound).space)
    ∙ ap on (full-read h.front h.first tail h.compound (each-ok IsLink read_link link-ends Off link-read link-starts h.links h.back rest h.linked off))
    ∙ ap made (each-read IsLink read_link link-ends Off link-read link-starts h.links h.back rest h.linked off (stops-link rest stops))
    ∙ ap (λ y. Some (y, rest)) (sym h.joined)

-- what is behind a first complex selector, seen as those behind `,`
next-step : (spaces rest : DomString) → IsSpaces spaces → read_next (spaces ++ 44 ∷ rest) ≡ read_complex rest
next-step spaces rest h = ap (λ k. option_and_then read_complex (expect (codes ",") k)) (skip-read spaces (44 ∷ rest) h refl)

-- nothing is behind white space at the end
next-none : (rest : DomString) → IsSpaces rest → read_next rest ≡ None
next-none rest h = ap (λ k. option_and_then read_complex (expect (codes ",") k)) (ap skip_space (sym (append-nil rest)) ∙ skip-read rest [] h refl)

-- the first of a list, and the others
split : (x : Complex) (xs : List Complex) (text : DomString) → IsSelector text (x ∷ xs) → (end : DomString) × IsSpaces end × (left : DomString) ×
    (read_complex text ≡ Some (x, left)) × (read_all read_next left ≡ (xs, end))
split x [] text h = (
  h.after,
  h.spaces_after,
  h.after,
  ap read_complex h.whole ∙ complex-read h.before h.spaces_before h.complex
      (ended h.spaces_after),
  all-none read_next h.after (next-none h.after h.spaces_after),
)
split x (y ∷ ys) text h =
    let front = h.2 in
    let rest = h.1 in
    let more = split y ys rest h.3 in
    let left = front.after ++ 44 ∷ rest in
    let shape : text ≡ front.before ++ (front.inner ++ left) =
    h.4 ∙ ap (λ t. t ++ 44 ∷ rest) front.whole ∙ append_assoc front.before (front.inner ++ front.after) (44 ∷ rest) ∙
    ap (λ t. front.before ++ t) (append_assoc front.inner front.after (44 ∷ rest)) in (
      more.0,
      more.1,
      left,
      ap read_complex shape ∙ complex-read front.before front.spaces_before front.complex (comma front.after rest front.spaces_after refl),
      all-one read_next next-ends left (y, more.2) (next-step front.after rest front.spaces_after ∙ more.3) ∙ ap (behind_list (y ∷ [])) more.4,
    )

-- what is in the grammar is read
pub said_parsed : (text : DomString) (s : List Complex) → IsSelector text s → parse_selectors text ≡ Some s
said_parsed text [] h = absurd h
said_parsed text (x ∷ xs) h =
    let it = split x xs text h in
    let on : Option (Complex × DomString) → Option (List Complex) =
    λ r. option_and_then (λ (c, rest). let more : List Complex × DomString = read_all read_next rest in whole (c ∷ more.0, more.1)) r in
    let ends : List Complex × DomString → Option (List Complex) = λ more. whole (x ∷ more.0, more.1) in
    ap on it.3 ∙ ap ends it.4
    ∙ ap (λ k. if is_empty k then Some (x ∷ xs) else None) (ap skip_space (sym (append-nil it.0)) ∙ skip-read it.0 [] it.1 refl)

-- what is not read is not in the grammar
pub unsaid : (text : DomString) → parse_selectors text ≡ None → (s : List Complex) → IsSelector text s → ⊥
unsaid text none s h = none-some s (sym none ∙ said_parsed text s h)
