-- What is kept where text was put before a call that was refused memory.
use Rattle.dom_base.proofs.Std.{◌≡◌, ℕ, List, [], ◌∷◌, ◌++◌, length, take, refl}
use Rattle.dom_printer.specs.Keeping.{Keeps}

-- what keeps a list and more behind it keeps the list
pub keeps_front : (old more new : List ℕ) → Keeps (old ++ more) new → Keeps old new
keeps_front [] more new h = refl
keeps_front (x ∷ old) more [] h = absurd cc
keeps_front (x ∷ old) more (y ∷ new) h =
    let tail : take (length (old ++ more)) new ≡ old ++ more = cc in
    let rest : take (length old) new ≡ old = keeps_front old more new tail in
    cc

-- a text that begins with two others begins with the first, for `grind`, to which the first part shows the call to match
pub keeps_at : (old more new : List ℕ) → Keeps (old ++ more) new → (take (length (old ++ more)) new ≡ take (length (old ++ more)) new) × Keeps old new
keeps_at old more new h = (refl, keeps_front old more new h)
