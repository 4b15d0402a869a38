-- Traces whose lines a program gives: two that tell the same of others are equal.
use Rattle.dom_base.proofs.Std.{◌≡◌, ℕ, Bool, true, false, List, [], ◌∷◌, ◌++◌, Option, Some, None, refl, sym, ap, ◌∙◌, subst, ⊤}
use Rattle.dom_base.proofs.Std.{append-nil, append_assoc, option_map}
use Rattle.dom_live.specs.Lines.{LiveLine}
use Rattle.dom_live.specs.Documents.{Documents, Live}
use Rattle.dom_live.specs.Things.{Thing, own_line, shut_out, sent_out, was_stopped, was_cancelled, was_run, input_over, LiveTrace}
use Rattle.dom_live.specs.Things.{with_step_if, advanced, done_after}
use Rattle.dom_live.specs.Programs.{Heard, Program, thing_with, things_with}
use Rattle.dom_live.proofs.Heard.{said_if, told_in, thing_heard, things_heard, things_done}
use Rattle.dom_live.proofs.OwnThings.{IsOwnKind}
use Rattle.dom_live.proofs.OutwardLines.{same-some}

-- ---- what says nothing

-- a small step's thing is not heard as a line
pub unsaid : {L : Type 0} (m : Option (Thing L)) → IsOwnKind m → said_if m ≡ []
unsaid None h = refl
unsaid (Some (own_line l)) h = absurd h
unsaid (Some (shut_out l)) h = absurd h
unsaid (Some (sent_out e)) h = absurd h
unsaid (Some was_stopped) h = refl
unsaid (Some was_cancelled) h = refl
unsaid (Some was_run) h = refl
unsaid (Some input_over) h = refl

-- an own step changes no things
pub same-things : {L : Type 0} (own : Bool) (t : LiveTrace L) → (with_step_if own t).things ≡ t.things
same-things true t = refl
same-things false t = refl

-- ---- traces whose lines a program gives

module _ {L C : Type 0} (cue : L → C) (next : Program C L) where
  -- a thing with the line that the program gives
  abbrev reline : List (Heard L) → Thing C → Option (Thing L)
  reline heard (own_line c) = option_map own_line (next c heard)
  reline heard (shut_out c) = option_map shut_out (next c heard)
  reline heard (sent_out e) = Some (sent_out e)
  reline heard was_stopped = Some was_stopped
  reline heard was_cancelled = Some was_cancelled
  reline heard was_run = Some was_run
  reline heard input_over = Some input_over

  -- the line of a thing, if it has one, is the program's
  abbrev pub IsGiven : List (Heard L) → Thing L → Type 0
  IsGiven heard (own_line l) = next (cue l) heard ≡ Some l
  IsGiven heard (shut_out l) = next (cue l) heard ≡ Some l
  IsGiven heard x = ⊤

  -- if there is a thing
  abbrev pub IsGivenIf : List (Heard L) → Option (Thing L) → Type 0
  IsGivenIf heard None = ⊤
  IsGivenIf heard (Some x) = IsGiven heard x

  -- so it comes of what others do
  relined : (heard : List (Heard L)) (x : Thing L) → IsGiven heard x → reline heard (thing_with cue x) ≡ Some x
  relined heard (own_line l) h = ap (option_map own_line) h
  relined heard (shut_out l) h = ap (option_map shut_out) h
  relined heard (sent_out e) h = refl
  relined heard was_stopped h = refl
  relined heard was_cancelled h = refl
  relined heard was_run h = refl
  relined heard input_over h = refl

  -- no line
  pub given-none : (heard : List (Heard L)) (m : Option (Thing L)) → IsOwnKind m → IsGivenIf heard m
  given-none heard None h = tt
  given-none heard (Some (own_line l)) h = absurd h
  given-none heard (Some (shut_out l)) h = absurd h
  given-none heard (Some (sent_out e)) h = absurd h
  given-none heard (Some was_stopped) h = tt
  given-none heard (Some was_cancelled) h = tt
  given-none heard (Some was_run) h = tt
  given-none heard (Some input_over) h = tt

  module _ {V : Type 0} (d : Documents V) (read : L → LiveLine) where
    -- of each thing, from documents on in which so much was heard
    abbrev pub AreGiven : List (Heard L) → Live V → List (ℕ × Thing L) → Type 0
    AreGiven heard v [] = ⊤
    AreGiven heard v (x ∷ xs) =
        IsGiven (heard ++ told_in d read (advanced d x.0 v)) x.1 × AreGiven (heard ++ thing_heard d read v x) (done_after d read v x).0 xs

    -- a thing with a cue in place of its line
    abbrev cued : ℕ × Thing L → ℕ × Thing C
    cued x = (x.0, thing_with cue x.1)

    -- one more
    pub more-given : (xs : List (ℕ × Thing L)) (heard : List (Heard L)) (v : Live V) (x : ℕ × Thing L) → AreGiven heard v xs →
        IsGiven ((heard ++ things_heard d read v xs) ++ told_in d read (advanced d x.0 (things_done d read v xs))) x.1 → AreGiven heard v (xs ++ x ∷ [])
    more-given [] heard v x h k = (subst (λ hs. IsGiven (hs ++ told_in d read (advanced d x.0 v)) x.1) (append-nil heard) k, tt)
    more-given (y ∷ ys) heard v x h k =
        let end = things_done d read v (y ∷ ys) in (
          h.0,
          more-given ys (heard ++ thing_heard d read v y) (done_after d read v y).0 x h.1
              (subst (λ hs. IsGiven (hs ++ told_in d read (advanced d x.0 end)) x.1)
              (sym (append_assoc heard (thing_heard d read v y) (things_heard d read (done_after d read v y).0 ys))) k),
        )

    -- Two lists of things with the same of others are equal.
    pub same-given : (xs ys : List (ℕ × Thing L)) (heard : List (Heard L)) (v : Live V) → AreGiven heard v xs × AreGiven heard v ys →
        things_with cue xs ≡ things_with cue ys → xs ≡ ys
    same-given [] [] heard v h e = refl
    same-given [] (y ∷ ys) heard v h e = absurd (clash e)
      where
        clash : things_with cue [] ≡ things_with cue (y ∷ ys) → ⊥
        clash e = cc
    same-given (x ∷ xs) [] heard v h e = absurd (clash e)
      where
        clash : things_with cue (x ∷ xs) ≡ things_with cue [] → ⊥
        clash e = cc
    same-given (x ∷ xs) (y ∷ ys) heard v h e =
        let same = one (heads e) h.0.0 h.1.0 in
        ap (λ z. z ∷ xs) same
        ∙ ap (λ zs. y ∷ zs) (same-given xs ys (heard ++ thing_heard d read v y) (done_after d read v y).0
        (subst (λ z. AreGiven (heard ++ thing_heard d read v z) (done_after d read v z).0 xs) same h.0.1, h.1.1) (tails e))
      where
        heads : things_with cue (x ∷ xs) ≡ things_with cue (y ∷ ys) → cued x ≡ cued y
        heads e = cc

        tails : things_with cue (x ∷ xs) ≡ things_with cue (y ∷ ys) → things_with cue xs ≡ things_with cue ys
        tails e = cc

        -- one thing
        one : cued x ≡ cued y → IsGiven (heard ++ told_in d read (advanced d x.0 v)) x.1 →
            IsGiven (heard ++ told_in d read (advanced d y.0 v)) y.1 → x ≡ y
        one e h k =
            let number : x.0 ≡ y.0 = ap (λ (p : ℕ × Thing C). p.0) e in
            let before = heard ++ told_in d read (advanced d y.0 v) in
            let given : IsGiven before x.1 = subst (λ n. IsGiven (heard ++ told_in d read (advanced d n v)) x.1) number h in
            ap (λ n. (n, x.1)) number
            ∙ ap (λ z. (y.0, z)) (same-some x.1 y.1
            (sym (relined before x.1 given) ∙ ap (λ (p : ℕ × Thing C). reline before p.1) e ∙ relined before y.1 k))
