-- How the line of a dispatch is let pass.
use Rattle.dom_commands.proofs.Cited.{◌≡◌, Bool, true, false, not, List, [], ◌∷◌, Option, Some, None, Result, Ok, Err, refl, sym, ap, ◌∙◌, IsErrAnd}
use Rattle.dom_commands.proofs.Cited.{option_or, NodeWord, word_view, Operand, Any, IsHandled, let_pass, may_act, IsNaming, refusal-naming, namings}
use Rattle.dom_model.proofs.Model.{Fault, Refused, Memory, NodeName, Owner, Page, Component, Refusal, Syntax, Busy, Foreign, Unknown, Command, EventWords}
use Rattle.dom_model.proofs.Model.{names_foreign, is_command_of, own_refusal, part_refusal, named, related_refusal, is_busy, refusal, Part, first_refusal}
use Rattle.dom_model.proofs.Model.{Output, World, part_of, is_there, owner-part_of}
use Rattle.dom_admission.specs.Refusals.{early_refusal}

-- An owner's command, by what it names.
module _ (w : World) (o : Owner) (c : Command) (names : List Operand) (is : IsNaming o c names) where
  -- a command that passes is refused by its own tests alone
  pub passes : (q : Option Refusal) → let_pass (early_refusal w o names) ≡ Ok tt → q ≡ own_refusal (part_of w o) c →
      let_pass q ≡ let_pass (refusal w o c)
  passes q pass own = ap let_pass (own ∙ sym (may_act w o c names is refl pass).own)

  -- one that doesn't is refused before
  pub stops : (f : Fault) → let_pass (early_refusal w o names) ≡ Err f → Err f ≡ let_pass (refusal w o c)
  stops f h = by (early_refusal w o names) h ∙ sym (ap let_pass (refusal-naming w o c names is))
    where
      by : (e : Option Refusal) → let_pass e ≡ Err f → Err f ≡ let_pass (option_or e (own_refusal (part_of w o) c))
      by None h = absurd cc
      by (Some r) h = sym h

-- ---- the refusals of an event

-- without a related node
no_related : (o : Owner) (p : Part) (x : NodeName) → related_refusal o p x None ≡ None
no_related Page p x = refl
no_related (Component k) p x = refl

or_none : (e : Option Refusal) → option_or e None ≡ e
or_none None = refl
or_none (Some r) = refl

pub target_passes : (w : World) (o : Owner) (x : NodeWord) (e : EventWords) →
    early_refusal w o (Any x ∷ []) ≡ refusal w o (Command.dispatch (word_view x) e None)
target_passes w o x e =
    let early = early_refusal w o (Any x ∷ []) in
    sym (refusal-naming w o (Command.dispatch (word_view x) e None) (Any x ∷ []) (search namings) ∙
    ap (option_or early) (no_related (part_of w o).owner (part_of w o) (named (part_of w o) (word_view x))) ∙ or_none early)

-- with one
module _ (w : World) (o : Owner) (x y : NodeWord) (e : EventWords) where
  pub related_passes : (q : Option Refusal) → let_pass (early_refusal w o (Any x ∷ Any y ∷ [])) ≡ Ok tt →
      q ≡ related_refusal o (part_of w o) (named (part_of w o) (word_view x)) (Some (word_view y)) →
      let_pass q ≡ let_pass (refusal w o (Command.dispatch (word_view x) e (Some (word_view y))))
  related_passes q pass is =
      passes w o (Command.dispatch (word_view x) e (Some (word_view y))) (Any x ∷ Any y ∷ []) (search namings) q pass
      (is ∙ ap (λ (a : Owner). related_refusal a (part_of w o) (named (part_of w o) (word_view x)) (Some (word_view y))) (sym (owner-part_of w o)))

  pub related_stops : (f : Fault) → let_pass (early_refusal w o (Any x ∷ Any y ∷ [])) ≡ Err f →
      Err f ≡ let_pass (refusal w o (Command.dispatch (word_view x) e (Some (word_view y))))
  related_stops f h = stops w o (Command.dispatch (word_view x) e (Some (word_view y))) (Any x ∷ Any y ∷ []) (search namings) f h

-- ---- what is refused, and what is not

-- a line that is refused changes nothing
module _ {S : Type 0} (adds : S → List Output → S → Type 0) (w : World) (o : Owner) (c : Command) where
  pub refused_line : (told : S) {f : Fault} (q : Result (Unit {0}) Fault) → let_pass (refusal w o c) ≡ Err f →
      IsErrAnd q (λ e. e ≡ f) → IsHandled adds o c w w told told q
  refused_line told (Ok x) h err = absurd err
  refused_line told (Err e) h err = by (refusal w o c) refl e (h ∙ ap Err (sym err))
    where
      by : (r : Option Refusal) → refusal w o c ≡ r → (f : Fault) → let_pass r ≡ Err f → IsHandled adds o c w w told told (Err f)
      by None is f h = absurd cc
      by (Some r) is (Refused q) h =
          let same : r ≡ q = cc in
          (is ∙ ap Some same, refl, refl)
      by (Some r) is Memory h = tt

-- a line that is let pass has no refusal
pub unrefused_line : (r : Option Refusal) → let_pass r ≡ Ok tt → r ≡ None
unrefused_line None h = refl
unrefused_line (Some r) h = absurd cc

-- whoever is not refused is there
pub unrefused_there : (w : World) (o : Owner) (c : Command) → refusal w o c ≡ None → is_there w o ≡ true
unrefused_there w o c e = cases (is_command_of o c) (is_busy w o) (names_foreign c) (is_there w o) e
  where
    cases : (mine busy foreign there : Bool) →
        option_or (first_refusal ((not mine, Syntax) ∷ (busy, Busy) ∷ (foreign, Foreign) ∷ (not there, Unknown) ∷ []))
        (part_refusal (part_of w o) c) ≡ None → there ≡ true
    cases true false false true h = refl
    cases mine busy foreign there h = absurd cc
