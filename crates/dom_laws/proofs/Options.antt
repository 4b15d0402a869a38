-- Options that are there, and options that are not.
use Rattle.dom_base.proofs.Std.{◌≡◌, true, false, Option, Some, None, refl, sym, ap, ◌∙◌, true≢false, is_some, option_map}

-- an option that is not there
pub was_none : {X : Type 0} (o : Option X) → is_some o ≡ false → o ≡ None
was_none None e = refl
was_none (Some x) e = absurd (true≢false e)

-- an option that is there
pub was_some : {X : Type 0} (o : Option X) → is_some o ≡ true → (x : X) × (o ≡ Some x)
was_some None e = absurd (true≢false (sym e))
was_some (Some x) e = (x, refl)

-- an option that is no value
pub none_left : {X : Type 0} (o : Option X) → ((x : X) → o ≡ Some x → ⊥) → o ≡ None
none_left None never = refl
none_left (Some x) never = absurd (never x refl)

-- what a function is applied to is there where the value is
pub is_some-map : {X Y : Type 0} (f : X → Y) (o : Option X) → is_some (option_map f o) ≡ is_some o
is_some-map f None = refl
is_some-map f (Some x) = refl

-- no node, as a key
pub no_key : {X Y : Type 0} (f : X → Y) (key : Option X) {o : Option Y} → option_map f key ≡ o → is_some key ≡ false → o ≡ None
no_key f key is none_left = sym is ∙ ap (option_map f) (was_none key none_left)
