-- Compounds, from NAME or `*` and the parts behind it.
use Rattle.dom_selectors.proofs.Cited.{◌≡◌, false, List, [], ◌∷◌, length, Option, Some, None, refl, ap, sym, ◌∙◌, map, if◌then◌else◌, cond-false, map-id}
use Rattle.dom_selectors.proofs.Cited.{DomString, is_empty, Simple, CompoundPart, read_all, read_type, read_simple, read_part, read_compound, read_compound_of}
use Rattle.dom_selectors.proofs.Cited.{behind_list, as_parts}

-- the compound of some parts, with the units behind them
abbrev pub some_of : {A : Type 0} → List A × DomString → Option (List A × DomString)
some_of p = if is_empty p.0 then None else Some (p.0, p.1)

-- parts that are seen in some way are some
seen_some : {X A : Type 0} (view : X → A) (xs : List X) → (length xs ≡ 0 → ⊥) → is_empty (map view xs) ≡ false
seen_some view [] h = absurd (h refl)
seen_some view (x ∷ xs) h = refl

-- a compound without `:not`
pub simples_found : {X : Type 0} {mid rest : DomString} {typed : List Simple} (view : X → Simple) (cs : DomString) (all : List X) →
    read_type cs ≡ (typed, mid) → behind_list typed (read_all read_simple mid) ≡ (map view all, rest) → (length all ≡ 0 → ⊥) →
    Some (map view all, rest) ≡ read_compound_of (λ s. s) read_simple cs
simples_found {mid} {rest} {typed} view cs all e b some =
    let front : List Simple × DomString → Option (List Simple × DomString) = λ t. some_of (behind_list (map (λ s. s) t.0) (read_all read_simple t.1)) in
    sym (ap front e ∙ ap (λ ys. some_of (behind_list ys (read_all read_simple mid))) (map-id typed) ∙ ap some_of b ∙
    cond-false (is_empty (map view all)) None (Some (map view all, rest)) (seen_some view all some))

-- a compound
pub parts_found : {X : Type 0} {mid rest : DomString} {typed : List CompoundPart} (view : X → CompoundPart) (cs : DomString) (all : List X) →
    as_parts (read_type cs) ≡ (typed, mid) → behind_list typed (read_all read_part mid) ≡ (map view all, rest) → (length all ≡ 0 → ⊥) →
    Some (map view all, rest) ≡ read_compound cs
parts_found {rest} view cs all e b some =
    let front : List CompoundPart × DomString → Option (List CompoundPart × DomString) = λ t. some_of (behind_list t.0 (read_all read_part t.1)) in
    sym (ap front e ∙ ap some_of b ∙ cond-false (is_empty (map view all)) None (Some (map view all, rest)) (seen_some view all some))
