-- Three tests, one after another.
use Rattle.dom_base.proofs.Std.{◌≡◌, Bool, true, false, ◌&&◌, refl, sym, ap, ◌∙◌}

-- where the first two hold, the last decides
pub all-three : (a b e : Bool) → a ≡ true → b ≡ true → e ≡ (a && (b && e))
all-three a b e p q = ap (λ x. true && (x && e)) (sym q) ∙ ap (λ x. x && (b && e)) (sym p)

-- the second fails
pub second-fails : (a b e : Bool) → b ≡ false → false ≡ (a && (b && e))
second-fails true b e q = ap (λ x. x && e) (sym q)
second-fails false b e q = refl

-- the last fails
pub third-fails : (a b e : Bool) → e ≡ false → (a && (b && e)) ≡ false
third-fails true true e p = p
third-fails true false e p = refl
third-fails false b e p = refl
