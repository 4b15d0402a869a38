-- Parts of a text, each of which is to be a name.
use Rattle.dom_base.proofs.Std.{◌≡◌, ℕ, Bool, true, false, List, [], ◌∷◌, ◌++◌, Some, None, refl, ap, sym, ◌∙◌, append_assoc, append-nil, arith, common_steps}
use Rattle.dom_base.proofs.Std.{map, ◌&&◌, list_all, map-append}
use Rattle.dom_words.specs.declared.not_read.NotRead.{NotRead}
use Rattle.dom_words.specs.declared.not_read.NotRead.TheVariants.{Syntax, Memory}
use Rattle.dom_words.specs.Gives.{Fails}
use Rattle.dom_model.proofs.Model.{is_name}
use Rattle.dom_text.specs.Definitions.{only_if}
use Rattle.dom_text.proofs.WordLaws.{only_if_some}

-- what was put behind the others, seen one by one
pub put_behind : {X Y : Type 0} (seen : X → Y) (xs after : List X) (x : X) → after ≡ xs ++ x ∷ [] → map seen after ≡ map seen xs ++ seen x ∷ []
put_behind seen xs after x e = ap (map seen) e ∙ map-append seen xs (x ∷ [])

-- where no part is left all are names
pub all_named : (texts left parts : List (List ℕ)) → left ≡ [] → texts ++ left ≡ parts → list_all is_name texts ≡ true
    → only_if (list_all is_name parts) parts ≡ Some texts
all_named texts left parts none all names = rw (← all, none, append-nil texts, names) refl

-- a value that is not there did not
not_passed : {A : Type 0} (t : Bool) (x : A) → only_if t x ≡ None → t ≡ false
not_passed true x e = absurd cc
not_passed false x e = refl

-- a name behind names
names_and : (texts : List (List ℕ)) (text : List ℕ) → list_all is_name texts ≡ true → is_name text ≡ true → list_all is_name (texts ++ text ∷ []) ≡ true
names_and texts text all one = grind (arith, common_steps)

-- something else behind texts
names_without : (texts : List (List ℕ)) (text : List ℕ) (others : List (List ℕ)) → is_name text ≡ false → list_all is_name (texts ++ text ∷ others) ≡ false
names_without [] text others h = rw h refl
names_without (first ∷ texts) text others h = none (is_name first) (names_without texts text others h)
  where
    none : (b : Bool) → list_all is_name (texts ++ text ∷ others) ≡ false → (b && list_all is_name (texts ++ text ∷ others)) ≡ false
    none true e = e
    none false e = refl

-- the first part that is left is a name: one name more
pub one_named : {bytes : List ℕ} {parts : List (List ℕ)} (texts : List (List ℕ)) (first : List ℕ) (others : List (List ℕ)) →
    only_if (is_name first) first ≡ Some bytes → texts ++ first ∷ others ≡ parts → list_all is_name texts ≡ true
    → ((texts ++ bytes ∷ []) ++ others ≡ parts) × (list_all is_name (texts ++ bytes ∷ []) ≡ true)
one_named {bytes} texts first others named all names =
    let found = only_if_some (is_name first) first bytes named in (
      append_assoc texts (bytes ∷ []) others ∙ ap (λ (x : List ℕ). texts ++ x ∷ others) (sym found.1) ∙ all,
      names_and texts bytes names (ap is_name (sym found.1) ∙ found.0),
    )

-- it is none: they are not all names
pub not_named : {left others parts : List (List ℕ)} {first : List ℕ} (e : NotRead) (texts : List (List ℕ))
    → left ≡ first ∷ others → texts ++ left ≡ parts → Fails e (only_if (is_name first) first) → Fails e (only_if (list_all is_name parts) parts)
not_named {others = others} {first = first} Syntax texts front all h =
    rw (← all, front, names_without texts first others (not_passed (is_name first) first h)) refl
not_named Memory texts front all h = tt
