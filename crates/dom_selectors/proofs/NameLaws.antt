-- Names are ASCII.
use Rattle.dom_selectors.proofs.Cited.{◌≡◌, ℕ, ◌<◌, Bool, true, false, cond, List, [], ◌∷◌, Option, Some, None, refl, ap, sym, subst, ◌∙◌, arith, ◌||◌}
use Rattle.dom_selectors.proofs.Cited.{◌==◌, take_while, IsAscii, or_left, cond-true, cond-false, cond_both, take_while-cons, nat_tests, Word}
use Rattle.dom_selectors.proofs.Cited.{DomString, begins_name, continues_name, is_digit, drop_while, read_name}
use Rattle.std.proofs.lemmas.Str.Ascii.{IsAscii-cons}

-- a unit of a name is below 128
name_unit : (c : ℕ) → continues_name c ≡ true → c < 128
name_unit c h = grind (arith, nat_tests)

-- nothing is not something
none_is_some : {X : Type 0} {x : X} → let o : Option X = None in o ≡ Some x → ⊥
none_is_some h = cc

-- so are those at the front with which a name goes on
run_ascii : (cs : List ℕ) → IsAscii (take_while continues_name cs)
run_ascii [] = λ i. omega arith
run_ascii (c ∷ cs) =
    let both : IsAscii (cond (continues_name c) (c ∷ take_while continues_name cs) []) =
    cond_both (continues_name c) (c ∷ take_while continues_name cs) [] IsAscii
    (λ h. IsAscii-cons c (take_while continues_name cs) (name_unit c h) (run_ascii cs)) (λ _ i. omega arith) in
    subst IsAscii (sym (take_while-cons continues_name c cs)) both

-- the name that was read
abbrev name_of : Option (Word × DomString) → Word
name_of None = []
name_of (Some r) = r.0

-- what is read as a name is ASCII
pub name_ascii : (cs : DomString) (name : Word) (rest : DomString) → read_name cs ≡ Some (name, rest) → IsAscii name
name_ascii [] name rest h = cc
name_ascii (c ∷ cs) name rest h =
    read (begins_name c) refl
  where
    read : (b : Bool) → begins_name c ≡ b → IsAscii name
    read true e =
        let found : Some (c ∷ take_while continues_name cs, drop_while continues_name cs) ≡ Some (name, rest) =
        sym (cond-true (begins_name c) (Some (c ∷ take_while continues_name cs, drop_while continues_name cs)) None e) ∙ h in
        let more : continues_name c ≡ true = or_left (begins_name c || is_digit c) (c == 45) (or_left (begins_name c) (is_digit c) e) in
        subst IsAscii (ap name_of found) (IsAscii-cons c (take_while continues_name cs) (name_unit c more) (run_ascii cs))
    read false e = absurd (none_is_some (sym (cond-false (begins_name c) (Some (c ∷ take_while continues_name cs, drop_while continues_name cs)) None e) ∙ h))
