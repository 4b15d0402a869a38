-- The last word of a line, where there is one more.
use Rattle.dom_base.proofs.Std.{◌≡◌, false, ℕ, List, [], ◌∷◌, Option, Some, refl}
use Rattle.dom_model.proofs.Model.{Word, is_empty}
use Rattle.dom_text.specs.Definitions.{◌>>=◌, at_end, next_as, last_as}

-- where the line goes on, a word comes and then the end
pub last_is_next : {A : Type 0} (says : Word → Option A) (bytes : List ℕ) → is_empty bytes ≡ false
    → last_as says bytes ≡ (next_as says bytes >>= λ found. at_end (Some found.0) found.1)
last_is_next says [] h = absurd cc
last_is_next says (b ∷ bytes) h = refl

-- what is made of the value at the end of the line
pub made_at_end : {A B : Type 0} (makes : A → B) (x : A) (rest : List ℕ) → (at_end x rest >>= λ y. Some (makes y)) ≡ at_end (makes x) rest
made_at_end makes x [] = refl
made_at_end makes x (b ∷ rest) = refl
