use Rattle.dom_base.proofs.Std.{ap, refl, sym, codes, true, ◌≡◌, ◌∙◌, List, Option, None, Some, is_some, option_map, true≢false, option_and_then}
use Rattle.clap.specs.Words.{Row, Text, first_of, found_of, rows_of}
use Rattle.clap.proofs.WalkLemmas.{first_value-rows}
use Rattle.dom_base.specs.declared.Owner.{Owner}
use Rattle.dom_text.specs.Definitions.{owner_of}
use Rattle.dom_program.specs.Words.{NamesAnOwner}
use Rattle.dom_program.proofs.words.request_in.Goals as goal

-- where no word stands in the row of `--view`, no owner's is asked for
none-named : (rows : List Row) → first_of (codes "view") rows ≡ None → NamesAnOwner rows
none-named rows none = ap (λ w. is_some (option_and_then owner_of w)) none ∙ sym (ap is_some none)

-- an owner's word names one
some-named : (rows : List Row) (word : Text) → first_of (codes "view") rows ≡ Some word → (owner_of word ≡ None → ⊥) → NamesAnOwner rows
some-named rows word is owned = ap (λ w. is_some (option_and_then owner_of w)) is ∙ (go (owner_of word) owned ∙ sym (ap is_some is))
  where
    go : (o : Option Owner) → (o ≡ None → ⊥) → is_some o ≡ true
    go None h = absurd (h refl)
    go (Some o) h = refl

-- another word names none
not-named : (rows : List Row) (word : Text) → first_of (codes "view") rows ≡ Some word → owner_of word ≡ None → NamesAnOwner rows → ⊥
not-named rows word is none named =
    true≢false (sym (sym (ap (λ w. is_some (option_and_then owner_of w)) is ∙ ap is_some none) ∙ (named ∙ ap is_some is)))

pub returns-in-None-clause-taken : goal.returns-in-None-clause-taken
returns-in-None-clause-taken c =
    none-named (rows_of (found_of c.args.matches.now))
    (sym (first_value-rows (found_of c.args.matches.now) (codes "view")) ∙ (sym c.get_str.ensures ∙ ap (option_map (λ s. s.now)) c.in-None.is))

pub returns-in-None-clause-view : goal.returns-in-None-clause-view
returns-in-None-clause-view c =
    ap (option_and_then owner_of)
    (sym (sym (first_value-rows (found_of c.args.matches.now) (codes "view")) ∙ (sym c.get_str.ensures ∙ ap (option_map (λ s. s.now)) c.in-None.is)))

pub returns-in-None-clause-file : goal.returns-in-None-clause-file
returns-in-None-clause-file c = c.get_str-file.ensures ∙ first_value-rows (found_of c.args.matches.now) (codes "file")

pub returns-in-None-view_of-clause-refused : goal.returns-in-None-view_of-clause-refused
returns-in-None-view_of-clause-refused c = (
  refl,
  not-named (rows_of (found_of c.args.matches.now)) c.in-Some.word.now
      (sym (first_value-rows (found_of c.args.matches.now) (codes "view")) ∙ (sym c.get_str.ensures ∙ ap (option_map (λ s. s.now)) c.in-Some.is))
      (sym c.view_of.ensures ∙ c.in-None-view_of.is),
)

pub returns-in_default-clause-taken : goal.returns-in_default-clause-taken
returns-in_default-clause-taken c =
    some-named (rows_of (found_of c.args.matches.now)) c.in-Some.word.now
    (sym (first_value-rows (found_of c.args.matches.now) (codes "view")) ∙ (sym c.get_str.ensures ∙ ap (option_map (λ s. s.now)) c.in-Some.is))
    (λ none. c.in_default.not-None (c.view_of.ensures ∙ none))

pub returns-in_default-clause-view : goal.returns-in_default-clause-view
returns-in_default-clause-view c =
    c.view_of.ensures ∙ ap (option_and_then owner_of)
    (sym (sym (first_value-rows (found_of c.args.matches.now) (codes "view")) ∙ (sym c.get_str.ensures ∙ ap (option_map (λ s. s.now)) c.in-Some.is)))

pub returns-in_default-clause-file : goal.returns-in_default-clause-file
returns-in_default-clause-file c = c.get_str-file.ensures ∙ first_value-rows (found_of c.args.matches.now) (codes "file")
