-- Readers that read one after another.
use Rattle.dom_selectors.proofs.Cited.{◌≡◌, ℕ, zero, suc, ◌<◌, ◌≤◌, List, [], ◌∷◌, ◌++◌, length, Option, Some, None, Bor, refl, ap, sym, ◌∙◌, arith}
use Rattle.dom_selectors.proofs.Cited.{append_assoc, map, option_map, map-append, DomString, Reader, read_more, read_each, read_all, behind_list}
use Rattle.dom_selectors.proofs.Shorter.{Shrinks, Shrinks-rest, Ends}

-- rounds at the end of the units read nothing
each-nil : {A : Type 0} (read : Reader A) → Shrinks read → (k : ℕ) → read_each k read [] ≡ ([], [])
each-nil read s zero = refl
each-nil {A} read s (suc k) = at (read []) (s.shorter [])
  where
    at : (r : Option (A × DomString)) → Ends 0 r → read_more (λ rest. read_each k read rest) [] r ≡ ([], [])
    at None e = refl
    at (Some r) e = absurd (omega (arith, e))

-- no more rounds are needed than there are units
each-enough : {A : Type 0} {read : Reader A} → Shrinks read → (j k : ℕ) (cs : DomString) → length cs ≤ j → length cs ≤ k →
    read_each j read cs ≡ read_each k read cs
each-enough {read = read} s j k [] h g = each-nil read s j ∙ sym (each-nil read s k)
each-enough s zero k (c ∷ cs) h g = absurd (omega (arith, h))
each-enough s (suc j) zero (c ∷ cs) h g = absurd (omega (arith, g))
each-enough {A} {read} s (suc j) (suc k) (c ∷ cs) h g =
    behind (read (c ∷ cs)) (s.shorter (c ∷ cs)) (λ rest short. each-enough s j k rest (omega (arith, short, h)) (omega (arith, short, g)))
  where
    -- what is read behind one, in more rounds than are needed
    behind : (r : Option (A × DomString)) → Ends (length (c ∷ cs)) r
        → ((rest : DomString) → length rest < length (c ∷ cs) → read_each j read rest ≡ read_each k read rest)
        → read_more (λ rest. read_each j read rest) (c ∷ cs) r ≡ read_more (λ rest. read_each k read rest) (c ∷ cs) r
    behind None e same = refl
    behind (Some r) e same =
        let front : List A × DomString → List A × DomString = λ more. (r.0 ∷ more.0, more.1) in
        ap front (same r.1 e)

-- where one is read, the others stand behind it
pub all-one : {A : Type 0} (read : Reader A) → Shrinks read → (cs : DomString) (r : A × DomString) → read cs ≡ Some r →
    read_all read cs ≡ behind_list (r.0 ∷ []) (read_all read r.1)
all-one read s [] r h = absurd (omega (arith, Shrinks-rest read s [] r h))
all-one {A} read s (c ∷ cs) r h =
    let short = Shrinks-rest read s (c ∷ cs) r h in
    let put : List A × DomString → List A × DomString = λ more. (r.0 ∷ more.0, more.1) in
    ap (read_more (λ rest. read_each (length cs) read rest) (c ∷ cs)) h
    ∙ ap put (each-enough s (length cs) (length r.1) r.1 (omega (arith, short)) (omega arith))

-- where none is read, there are none
pub all-none : {A : Type 0} (read : Reader A) (cs : DomString) → read cs ≡ None → read_all read cs ≡ ([], cs)
all-none read [] h = refl
all-none read (c ∷ cs) h = ap (read_more (λ rest. read_each (length cs) read rest) (c ∷ cs)) h

-- one more is read, and put behind those so far
one_more : {X A : Type 0} {read : Reader A} → Shrinks read → (view : X → A) (before : List X) (x : X) (cs : DomString) {behind : DomString} →
    read cs ≡ Some (view x, behind) → behind_list (map view (before ++ x ∷ [])) (read_all read behind) ≡ behind_list (map view before) (read_all read cs)
one_more {X} {A} {read} s view before x cs {behind} h =
    let more = read_all read behind in
    let front : List A → List A × DomString = λ ys. (ys ++ more.0, more.1) in
    ap front (map-append view before (x ∷ []))
    ∙ ap (λ ys. (ys, more.1)) (append_assoc (map view before) (view x ∷ []) more.0)
    ∙ sym (ap (behind_list (map view before)) (all-one read s cs (view x, behind) h))

-- A round of a loop that reads one after another: it read one.
module _ {X A : Type 0} {read : Reader A} (s : Shrinks read) (view : X → A) (cs : DomString) {found : Option (X × Bor (List ℕ))} {x : X}
    {behind : Bor (List ℕ)} (is : option_map (λ y. (view y.0, y.1.now)) found ≡ read cs) (one : found ≡ Some (x, behind)) where
  reads : read cs ≡ Some (view x, behind.now)
  reads = sym is ∙ ap (option_map (λ y. (view y.0, y.1.now))) one

  -- less is left behind it
  pub round-less : length behind.now < length cs
  round-less = Shrinks-rest read s cs (view x, behind.now) reads

  -- it is put behind those so far
  pub round-more : (before : List X) {after : List X} → after ≡ before ++ x ∷ [] →
      behind_list (map view after) (read_all read behind.now) ≡ behind_list (map view before) (read_all read cs)
  round-more before put = ap (λ xs. behind_list (map view xs) (read_all read behind.now)) put ∙ one_more s view before x cs reads
