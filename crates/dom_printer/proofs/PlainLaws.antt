-- Code units that stand as they are.
use Rattle.dom_base.proofs.Std.{◌≡◌, ℕ, ◌<◌, Bool, true, false, List, [], ◌∷◌, ◌++◌, refl, ap, ◌∙◌, arith, not, ◌&&◌, ◌||◌, ◌==◌, cond, is_in_range, flat_map}
use Rattle.dom_base.proofs.Std.{list_all, All, and_parts, AllPass-from_list_all}
use Rattle.dom_text.specs.Definitions.{unit_text, hex_digits}
use Rattle.dom_text.proofs.WordLaws.{in_range_is}
use Rattle.dom_printer.specs.Strings.{is_plain}

-- the choice of a unit's text
chosen : (within special : Bool) (escaped plain coded : List ℕ) → (within && not special) ≡ true → cond special escaped (cond within plain coded) ≡ plain
chosen true false escaped plain coded h = refl
chosen true true escaped plain coded h = absurd cc
chosen false special escaped plain coded h = absurd cc

-- the text of a unit that stands as it is
plain_text : (u : ℕ) → is_plain u ≡ true → unit_text u ≡ u ∷ []
plain_text u h = chosen (is_in_range 0x20 0x7E u) ((u == 34) || (u == 92)) (92 ∷ u ∷ []) (u ∷ []) (92 ∷ 117 ∷ hex_digits u) h

-- the text of units that stand as they are
pub plain_units : (units : List ℕ) → list_all is_plain units ≡ true → flat_map unit_text units ≡ units
plain_units [] h = refl
plain_units (u ∷ units) h =
    let both = and_parts (is_plain u) (list_all is_plain units) h in
    ap (λ (t : List ℕ). t ++ flat_map unit_text units) (plain_text u both.0) ∙ ap (λ (t : List ℕ). u ∷ t) (plain_units units both.1)

-- a unit that stands as it is fits into a byte
plain_fits : (u : ℕ) → is_plain u ≡ true → u < 256
plain_fits u h =
    let both = and_parts (is_in_range 0x20 0x7E u) (not ((u == 34) || (u == 92))) h in
    omega (arith, in_range_is 0x20 0x7E u both.0)

-- and so do all of them
pub plain_units_fit : (units : List ℕ) → list_all is_plain units ≡ true → All (λ u. u < 256) units
plain_units_fit units h = λ k d l. plain_fits _ (AllPass-from_list_all is_plain units h k d l)
