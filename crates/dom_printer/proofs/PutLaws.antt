-- Puts one after the other: what the buffer has when all are done, and what it keeps where one was refused memory.
use Rattle.dom_base.proofs.Std.{◌≡◌, ℕ, ◌+◌, ◌<◌, List, ◌++◌, length, take, get_or, Ok, Err, subst, sym, ap, ◌∙◌, append_assoc, arith, Result, OnOk, OnErr}
use Rattle.dom_base.proofs.Std.{IsErr, flat_map, take_all, take_more, flat_map_more}
use Rattle.dom_printer.specs.Keeping.{Keeps}
use Rattle.dom_printer.proofs.KeepLaws.{keeps_front}

-- what a put leaves: the text behind what was there, or at least what was there
abbrev pub Puts : {X E : Type 0} → Result X E → List ℕ → List ℕ → List ℕ → Type 0
Puts result old text new = record { ok : OnOk result (new ≡ old ++ text); err : OnErr result (Keeps old new) }

-- what is there is kept where nothing changed
pub same : (old new : List ℕ) → new ≡ old → Keeps old new
same old new e = ap (take (length old)) e ∙ take_all (length old) old (omega arith)

-- Behind a first text that was put.
module _ (old first : List ℕ) {mid : List ℕ} (e : mid ≡ old ++ first) where
  -- a second text
  pub both : {new : List ℕ} (second : List ℕ) → new ≡ mid ++ second → new ≡ old ++ (first ++ second)
  both second f = f ∙ ap (λ (x : List ℕ). x ++ second) e ∙ append_assoc old first second

  -- what keeps more keeps less
  kept : (new : List ℕ) → Keeps mid new → Keeps old new
  kept new h = keeps_front old first new (subst (λ (x : List ℕ). Keeps x new) e h)

  -- a put, whatever comes of it
  pub last_put : {X E : Type 0} (r : Result X E) (second new : List ℕ) → Puts r mid second new → Puts r old (first ++ second) new
  last_put (Ok x) second new put = record { ok = both second put.ok; err = tt }
  last_put (Err x) second new put = record { ok = tt; err = kept new put.err }

  -- a put that was refused memory
  pub failed_put : {X E : Type 0} (r : Result X E) (text new : List ℕ) → IsErr r → Keeps mid new → Puts r old text new
  failed_put (Ok x) text new h keeps = absurd cc
  failed_put (Err x) text new h keeps = record { ok = tt; err = kept new keeps }

-- a round of a loop that puts the text of each of some things: what the buffer has before all rounds, before this one and after it
pub record PutsNext {X : Type 0} (f : X → List ℕ) (xs : List X) (i : ℕ) (d : X) (old mid new : List ℕ) : Type 0 where
  pub inside : i < length xs
  pub so_far : mid ≡ old ++ flat_map f (take i xs)
  pub put : new ≡ mid ++ f (get_or xs i d)

-- texts of things one behind the other, and one more
pub one_more : {X : Type 0} (f : X → List ℕ) (xs : List X) (i : ℕ) (d : X) (old : List ℕ) {mid new : List ℕ} → PutsNext f xs i d old mid new
    → new ≡ old ++ flat_map f (take (i + 1) xs)
one_more {X = X} f xs i d old h =
    h.put
    ∙ ap (λ (x : List ℕ). x ++ f (get_or xs i d)) h.so_far
    ∙ flat_map_more f old (take i xs) (get_or xs i d)
    ∙ ap (λ (ys : List X). old ++ flat_map f ys) (sym (take_more xs i d h.inside))
