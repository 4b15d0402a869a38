-- The refusal of a command is that of its names, or else its own.
use Rattle.dom_admission.proofs.Cited.{◌≡◌, Bool, true, false, ◌&&◌, List, [], ◌∷◌, Option, not, refl, sym, option_or, Operand, has_foreign, are_there}
use Rattle.dom_admission.proofs.Cited.{are_fitting, early_refusal, Slot, NodeWord, word_view}
use Rattle.dom_model.proofs.Model.{Owner, Page, Component, Refusal, Syntax, Busy, Foreign, Unknown, WrongKind, Command, names_foreign, nodes_exist, nodes_fit}
use Rattle.dom_model.proofs.Model.{thing_exists, is_command_of, own_refusal, Part, first_refusal, World, part_of, is_there, is_busy, refusal, is_page}
use Rattle.dom_base.proofs.Std.{and-true}

-- a command of this owner that names these nodes, ranges, iterators, walkers and observers, and nothing else
pub record IsNaming (o : Owner) (c : Command) (names : List Operand) : Type 0 where
  pub mine : is_command_of o c ≡ true
  pub foreign : names_foreign c ≡ has_foreign names
  pub exist : (p : Part) → (nodes_exist p c && thing_exists p c) ≡ are_there p names
  pub fit : (p : Part) → nodes_fit p c ≡ are_fitting p names

-- what the page may say, all owners may
pub offered : (o : Owner) (c : Command) → is_command_of Page c ≡ true → is_command_of o c ≡ true
offered Page c h = h
offered (Component k) c h = refl

-- two lists of tests, one after the other
joined : (busy foreign absent unknown misfit : Bool) (own : Option Refusal) →
    option_or (first_refusal ((false, Syntax) ∷ (busy, Busy) ∷ (foreign, Foreign) ∷ (absent, Unknown) ∷ []))
    (option_or (first_refusal ((unknown, Unknown) ∷ (misfit, WrongKind) ∷ [])) own)
    ≡ option_or (first_refusal ((busy, Busy) ∷ (foreign, Foreign) ∷ (absent, Unknown) ∷ (unknown, Unknown) ∷ (misfit, WrongKind) ∷ [])) own
joined false false false false true own = refl
joined busy foreign absent unknown misfit own = refl

-- a test between two others that goes last
pub and_last : (a b : Bool) → ((a && true) && b) ≡ (a && (b && true))
and_last true b = sym (and-true b)
and_last false b = refl

-- for a command that names these
pub refusal-naming : (w : World) (o : Owner) (c : Command) (names : List Operand) → IsNaming o c names →
    refusal w o c ≡ option_or (early_refusal w o names) (own_refusal (part_of w o) c)
refusal-naming w o c names is =
    rw (is.mine, is.foreign, is.exist (part_of w o), is.fit (part_of w o))
    (joined (is_busy w o) (has_foreign names) (not (is_there w o)) (not (are_there (part_of w o) names)) (not (are_fitting (part_of w o) names))
    (own_refusal (part_of w o) c))

-- ---- what each command names

-- That a command names what its handler admits follows by computation and these: a handler's proof says `search namings`.
pub ruleset namings = (offered, and-true, and_last)

-- only components may say it
pub naming-assigned : (o : Owner) → is_page o ≡ false → (x : NodeWord) → IsNaming o (Command.assigned (word_view x)) (Slot x ∷ [])
naming-assigned Page h x = absurd cc
naming-assigned (Component k) h x = record { mine = refl; foreign = refl; exist = λ p. and-true _; fit = λ p. refl }
