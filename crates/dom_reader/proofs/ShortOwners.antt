-- A component of one number, read in one pass.
use Rattle.dom_base.proofs.Std.{◌≡◌, ℕ, ◌-◌, ◌≤◌, List, [], ◌∷◌, ◌++◌, Some, refl, sym, ap, ◌∙◌, length, get_or, take, drop, take_while, prefix_len, arith}
use Rattle.dom_base.proofs.Std.{is_ascii_graphic, drop-cons, take_rest}
use Rattle.dom_model.proofs.Model.{Component, no_path, longer_path}
use Rattle.dom_text.specs.Definitions.{IsOwner, positive_of, owner_at}
use Rattle.dom_text.proofs.WordLaws.{run_sound}
use Rattle.dom_text.proofs.NumberLaws.{positive_of_sound}
use Rattle.dom_text.proofs.DecodeLaws.{owner_at_complete}

-- bytes that begin with this one
begun : (bytes : List ℕ) (first : ℕ) → (1 ≤ length bytes) × (get_or bytes 0 0 ≡ first) → bytes ≡ first ∷ drop 1 bytes
begun bytes first is = drop-cons bytes 0 0 (omega (arith, is.0)) ∙ ap (λ (b : ℕ). b ∷ drop 1 bytes) is.1

-- the component of a number whose word and a space begin the line, as the code takes it apart
pub short_owner : {n : ℕ} (line rest : List ℕ) → (1 ≤ length line) × (get_or line 0 0 ≡ 99) → (1 ≤ length rest) × (get_or rest 0 0 ≡ 32) →
    positive_of (take_while is_ascii_graphic (take (length line - 1) (drop 1 line))) ≡ Some n →
    drop (prefix_len is_ascii_graphic (take (length line - 1) (drop 1 line))) (take (length line - 1) (drop 1 line)) ≡ rest →
    owner_at line ≡ Some (Component (longer_path no_path n), rest)
short_owner {n = n} line rest letter space number behind =
    let text = take (length line - 1) (drop 1 line) in
    let word = take_while is_ascii_graphic text in
    let spaced = begun rest 32 space in
    let whole : line ≡ 99 ∷ word ++ 32 ∷ drop 1 rest = begun line 99 letter ∙ ap (λ (xs : List ℕ). 99 ∷ xs) (sym (take_rest line 1)
    ∙ (run_sound is_ascii_graphic text).1 ∙ ap (λ (xs : List ℕ). word ++ xs) (behind ∙ spaced)) in
    let is : IsOwner (Component (longer_path no_path n)) (99 ∷ word) =
    (n ∷ [], word ∷ [], (positive_of_sound word n number, tt), omega arith, omega arith, refl, refl) in
    ap owner_at whole ∙ owner_at_complete (Component (longer_path no_path n)) (99 ∷ word) (drop 1 rest) is ∙
    ap (λ (xs : List ℕ). Some (Component (longer_path no_path n), xs)) (sym spaced)
