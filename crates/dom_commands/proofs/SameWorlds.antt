-- Worlds in which the same owners have the same parts are the same.
use Rattle.dom_commands.proofs.Cited.{◌≡◌, false, List, [], ◌∷◌, map, Option, Some, None, unwrap_or, refl, sym, ap, subst, ◌∙◌, true≢false, is_some, cond-true}
use Rattle.dom_commands.proofs.Cited.{cond-false, owners_in, has_owner, there-listed, AreOnce, by_cases}
use Rattle.dom_model.proofs.Model.{Owner, owner_eq, Part, empty_part, World, find_part, part_of, owner_eq-same, owner_eq-true}

-- ---- parts

abbrev part_in : List Part → Owner → Part
part_in ps o = unwrap_or (find_part ps o) (empty_part o)

first-found : (p : Part) (ps : List Part) → part_in (p ∷ ps) p.owner ≡ p
first-found p ps = ap (λ (f : Option Part). unwrap_or f (empty_part p.owner))
    (cond-true (owner_eq p.owner p.owner) (Some p) (find_part ps p.owner) (owner_eq-same p.owner))

other-found : (p : Part) (ps : List Part) (o : Owner) → owner_eq p.owner o ≡ false → part_in (p ∷ ps) o ≡ part_in ps o
other-found p ps o e = ap (λ (f : Option Part). unwrap_or f (empty_part o)) (cond-false (owner_eq p.owner o) (Some p) (find_part ps o) e)

absent-found : (ps : List Part) (o : Owner) → has_owner (map (λ (p : Part). p.owner) ps) o ≡ false → part_in ps o ≡ empty_part o
absent-found ps o off = by (find_part ps o) (there-listed ps o ∙ off)
  where
    by : (f : Option Part) → is_some f ≡ false → unwrap_or f (empty_part o) ≡ empty_part o
    by None h = refl
    by (Some p) h = absurd (true≢false h)

parts-same : (ps qs : List Part) → map (λ (p : Part). p.owner) ps ≡ map (λ (p : Part). p.owner) qs → AreOnce (map (λ (p : Part). p.owner) ps) →
    ((o : Owner) → part_in ps o ≡ part_in qs o) → ps ≡ qs
parts-same [] [] e once same = refl
parts-same [] (q ∷ qs) e once same = absurd cc
parts-same (p ∷ ps) [] e once same = absurd cc
parts-same (p ∷ ps) (q ∷ qs) e once same =
    let owners : List Part → List Owner = map (λ (p : Part). p.owner) in
    let first : p.owner ≡ q.owner = cc in
    let rest : owners ps ≡ owners qs = cc in
    let here : p ≡ q = sym (first-found p ps) ∙ same p.owner ∙ ap (part_in (q ∷ qs)) first ∙ first-found q qs in
    let deeper : (o : Owner) → part_in ps o ≡ part_in qs o = λ o. by_cases (owner_eq p.owner o)
    (λ h. let is : p.owner ≡ o = owner_eq-true p.owner o h in
    let off : has_owner (owners ps) o ≡ false = sym (ap (has_owner (owners ps)) is) ∙ once.0 in
    absent-found ps o off ∙ sym (absent-found qs o (sym (ap (λ os. has_owner os o) rest) ∙ off)))
    (λ h. sym (other-found p ps o h) ∙ same o ∙ other-found q qs o (sym (ap (λ (x : Owner). owner_eq x o) first) ∙ h)) in
    λ j. here j ∷ parts-same ps qs rest once.1 deeper j

-- two worlds with the same owners' parts, and the same beside them
pub worlds-same : (v u : World) → AreOnce (owners_in u) → owners_in v ≡ owners_in u → ((o : Owner) → part_of v o ≡ part_of u o) →
    record v { parts = [] } ≡ record u { parts = [] } → v ≡ u
worlds-same v u once owners same rest =
    λ j. record {
      parts = parts-same v.parts u.parts owners (subst AreOnce (sym owners) once) same j;
      signalled = (rest j).signalled;
      tasks = (rest j).tasks;
      turn = (rest j).turn;
    }
