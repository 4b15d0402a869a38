-- The refusal of a look, by its tests.
use Rattle.dom_base.proofs.Std.{Err}
use Rattle.dom_query_commands.proofs.Cited.{◌≡◌, ◌∷◌, ◌&&◌, ◌||◌, [], Bool, true, false, not, Option, Some, None, Ok, refl, sym, ap, ◌∙◌, option_or}
use Rattle.dom_query_commands.proofs.Cited.{first_refusal, named, namings, Any, Owner, NodeName, Refusal, Refused, World, part_of, word_view, Command}
use Rattle.dom_admission.proofs.Finding.{owner-named}
use Rattle.dom_admission.proofs.Refusing.{refusal-naming}
use Rattle.dom_admission.specs.Handled.{let_pass}
use Rattle.dom_model.proofs.Model.{has_node, is_there, Busy, Foreign, Unknown, WrongKind}
use Rattle.dom_model.specs.CommandNames.{is_foreign}
use Rattle.dom_query_commands.specs.Looks.{look_refusal}
use Rattle.dom_reader.specs.declared.line.NodeWord.{NodeWord}

-- the refusal by whether the node is spelled as another owner's, its owner is there, and it is there
abbrev by_tests : Bool → Bool → Bool → Option Refusal
by_tests others there present =
    option_or
    (first_refusal
    ((false, Busy) ∷ (others || false, Foreign) ∷ (not there, Unknown) ∷ (not (present && true), Unknown) ∷ (not (true && true), WrongKind) ∷ []))
    None

absent_either_way : (there : Bool) → by_tests false there false ≡ Some Unknown
absent_either_way true = refl
absent_either_way false = refl

-- A look of an owner at a node.
module _ (w : World) (o : Owner) (x : NodeWord) where
  tested : look_refusal w o (word_view x) ≡
      by_tests (is_foreign (word_view x)) (is_there w o) (has_node (part_of w o).trees (named (part_of w o) (word_view x)))
  tested = refusal-naming (record w { turn = None }) o (Command.parent (word_view x)) (Any x ∷ []) (search namings)

  pub foreign_refused : is_foreign (word_view x) ≡ true → Err (Refused Foreign) ≡ let_pass (look_refusal w o (word_view x))
  foreign_refused others =
      let there = is_there w o in
      let present = has_node (part_of w o).trees (named (part_of w o) (word_view x)) in
      ap let_pass (sym (tested ∙ ap (λ b. by_tests b there present) others))

  pub absent_refused : is_foreign (word_view x) ≡ false → has_node (part_of w o).trees (named (part_of w o) (word_view x)) ≡ false →
      Err (Refused Unknown) ≡ let_pass (look_refusal w o (word_view x))
  absent_refused mine absent =
      ap let_pass (sym (tested ∙ ((λ j. by_tests (mine j) (is_there w o) (absent j)) ∙ absent_either_way (is_there w o))))

  pub passed : {y : NodeName} → is_foreign (word_view x) ≡ false → true ≡ has_node (part_of w o).trees (named (part_of w o) (word_view x)) →
      y ≡ named (part_of w o) (word_view x) → is_there w y.owner ≡ true → Ok tt ≡ let_pass (look_refusal w o (word_view x))
  passed mine present is owner =
      let there : is_there w o ≡ true = ap (is_there w) (sym (ap (λ (z : NodeName). z.owner) is ∙ owner-named w o (word_view x))) ∙ owner in
      ap let_pass (sym (tested ∙ (λ j. by_tests (mine j) (there j) (sym present j))))
