-- The code's test of texts is that of the definitions.
use Rattle.dom_base.proofs.Std.{◌≡◌, Bool, ◌&&◌, List, [], ◌∷◌, map, refl, ap, nat_eq, bytes_eq, ℕ, list_any, ◌||◌}
use Rattle.dom_model.specs.Names.{text_eq}

-- of two texts
pub text_test : (x y : List ℕ) → bytes_eq x y ≡ text_eq x y
text_test [] [] = refl
text_test [] (b ∷ y) = refl
text_test (a ∷ x) [] = refl
text_test (a ∷ x) (b ∷ y) = ap (λ t. nat_eq a b && t) (text_test x y)

-- whether one of the views of items passes
pub any-map : {X Y : Type 0} (test : Y → Bool) (f : X → Y) (xs : List X) → list_any test (map f xs) ≡ list_any (λ x. test (f x)) xs
any-map test f [] = refl
any-map test f (x ∷ xs) = ap (λ t. test (f x) || t) (any-map test f xs)
