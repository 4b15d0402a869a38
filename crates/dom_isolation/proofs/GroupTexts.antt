-- Members of groups: two scripts, or texts, that agree for a group have equal output of each member. So it is of families, of components with their makers,
-- and around components. An owner's lines of output are those that begin with its word and a space.
use Rattle.dom_base.proofs.Std.{◌≡◌, ◌<◌, ◌^◌, ℕ, List, [], ◌∷◌, map, Some, refl, sym, ap, ◌∙◌, inl, inr, arith, subst, Bool, true, false, not, ◌&&◌, cases_eq}
use Rattle.dom_base.proofs.Std.{and_parts, not-true, AllByRecursion, decimal, get_or, decimal_digit, and-false, or_right}
use Rattle.dom_model.proofs.Model.{Owner, Page, Component, Line, no_owner, no_command, command, outputs_of, first_world, run_lines, step, owner_eq, Output}
use Rattle.dom_model.proofs.Model.{bad_owner}
use Rattle.dom_model.proofs.Model.{says, is_in_family, family_group, makers_group, group_without, ends_other_turn, ends_group_turn, is_page, is_of}
use Rattle.dom_model.proofs.Model.{owner_of_line, owner_of_output, outputs_for, owner_eq-true, owner_eq-same, owner_eq-false, ne-owner_eq, World, output_of}
use Rattle.dom_model.proofs.Model.{turns_are_closed_from, group_turns_stand_from, SameFamily, SameFamilyWhileTurnsStand, SameComponent}
use Rattle.dom_model.proofs.Model.{SameComponentWhileTurnsStand, SameAround, SameAroundWhileTurnsStand}
use Rattle.dom_text.specs.Definitions.{decode, Says, BelongsTo, lines_of, lines_from, output_line, output_text, is_line_of, IsOwner, IsPositive, ArePositive}
use Rattle.dom_text.specs.Definitions.{owner_word}
use Rattle.dom_text.proofs.DecodeLaws.{decode_says}
use Rattle.dom_text.proofs.TextLaws.{HasWord, HasOwner, IsOwner-owner_word, IsNumber-decimal, lines_from-outputs}
use Rattle.dom_isolation.specs.Definitions.{ReadsPlainWords, IsWordOf, ReadsOwners, DecodeReadsOwners, OwnLinesHaveTheirPrefix, SameFamilyText}
use Rattle.dom_isolation.specs.Definitions.{SameFamilyTextWhileTurnsStand, SameGroupText, SameGroupTextWhileTurnsStand, SameComponentText}
use Rattle.dom_isolation.specs.Definitions.{SameComponentTextWhileTurnsStand, SameAroundText, SameAroundTextWhileTurnsStand, SameGroupTextInFull}
use Rattle.dom_isolation.specs.Definitions.{SameFamilyTextInFull, SameComponentTextInFull, SameAroundTextInFull, SameMemberInFull, SameFamilyInFull}
use Rattle.dom_isolation.specs.Definitions.{SameComponentInFull, SameAroundInFull, AgreeWhileTurnsStand, AgreeWithClosedTurns, SameMember}
use Rattle.dom_isolation.specs.Definitions.{SameMemberWhileTurnsStand}
use Rattle.dom_worlds.proofs.ListLemmas.{all-from, all-map, filter_same, by_cases}
use Rattle.dom_isolation.proofs.PageTexts.{output-has_its_lines, output-has_its_lines_so_far}
use Rattle.dom_isolation.proofs.Families.{family-is_group, makers-are_group, others-are_group, own-maker}
use Rattle.dom_isolation.proofs.WordedRuns.{IsWordedInput, worded-outputs, worded-so_far}
use Rattle.dom_isolation.proofs.GroupRuns.{same-group}
use Rattle.dom_isolation.proofs.TouchedRuns.{same-group_in_full}
use Rattle.dom_isolation.proofs.GroupSlots.{member-outputs}

module _ {L : Type 0} (read : L → Line) where
  -- a member
  pub same-member_while_turns_stand : SameMemberWhileTurnsStand read
  same-member_while_turns_stand g closed o h ls ms k =
      sym (member-outputs g o h (output_of read ls)) ∙ ap (outputs_for o) (same-group read g closed ls ms k.0.0 k.0.1 k.1 k.2 k.0.2)
      ∙ member-outputs g o h (output_of read ms)

  -- closed turns stand
  turns-stand : (g : Owner → Bool) (ls : List L) (w : World) → turns_are_closed_from read w ls ≡ true → group_turns_stand_from read g w ls ≡ true
  turns-stand g [] w h = refl
  turns-stand g (l ∷ ls) w h =
      let u = (step w (read l)).0 in
      let both = and_parts (not (ends_other_turn w (read l))) (turns_are_closed_from read u ls) h in
      let none : ends_group_turn g w (read l) ≡ false =
      ap (λ b. not (is_of g (owner_of_line (read l))) && (is_of g w.turn && b)) (not-true (ends_other_turn w (read l)) both.0)
      ∙ ap (λ b. not (is_of g (owner_of_line (read l))) && b) (and-false (is_of g w.turn)) ∙ and-false (not (is_of g (owner_of_line (read l)))) in
      ap (λ b. not b && group_turns_stand_from read g u ls) none ∙ turns-stand g ls u both.1

  -- with closed turns
  pub agree-standing : (g : Owner → Bool) (ls ms : List L) → AgreeWithClosedTurns read g ls ms → AgreeWhileTurnsStand read g ls ms
  agree-standing g ls ms k = (k.0, turns-stand g ls first_world k.1, turns-stand g ms first_world k.2)

  -- a member
  pub same-member : SameMember read
  same-member g closed o h ls ms k = same-member_while_turns_stand g closed o h ls ms (agree-standing g ls ms k)

  -- families
  pub same-family_while_turns_stand : SameFamilyWhileTurnsStand read
  same-family_while_turns_stand root member m ls ms a b c d e =
      same-member_while_turns_stand (family_group root) (family-is_group root) member (or_right (is_page member) (is_in_family root member) m) ls ms
      ((a, b, e), c, d)

  -- with closed turns
  pub same-family : SameFamily read
  same-family root member off m ls ms a b c d e =
      same-member (family_group root) (family-is_group root) member (or_right (is_page member) (is_in_family root member) m) ls ms ((a, b, e), c, d)

  -- components with their makers
  pub same-component_while_turns_stand : SameComponentWhileTurnsStand read
  same-component_while_turns_stand o ls ms a b c d e =
      same-member_while_turns_stand (makers_group o) (makers-are_group o) o (own-maker o) ls ms ((a, b, e), c, d)

  -- with closed turns
  pub same-component : SameComponent read
  same-component o ls ms a b c d e = same-member (makers_group o) (makers-are_group o) o (own-maker o) ls ms ((a, b, e), c, d)

  -- around components
  pub same-around_while_turns_stand : SameAroundWhileTurnsStand read
  same-around_while_turns_stand p o off out ls ms a b c d e =
      same-member_while_turns_stand (group_without p) (others-are_group p off) o out ls ms ((a, b, e), c, d)

  -- with closed turns
  pub same-around : SameAround read
  same-around p o off out ls ms a b c d e = same-member (group_without p) (others-are_group p off) o out ls ms ((a, b, e), c, d)

  -- Whatever others' listeners do, and whose turns they end: a member,
  pub same-member_in_full : SameMemberInFull read
  same-member_in_full g closed o h ls ms k =
      sym (member-outputs g o h (output_of read ls)) ∙ ap (outputs_for o) (same-group_in_full read g closed ls ms k)
      ∙ member-outputs g o h (output_of read ms)

  -- of a family,
  pub same-family_in_full : SameFamilyInFull read
  same-family_in_full root member m ls ms k =
      same-member_in_full (family_group root) (family-is_group root) member (or_right (is_page member) (is_in_family root member) m) ls ms k

  -- a component with its makers,
  pub same-component_in_full : SameComponentInFull read
  same-component_in_full o ls ms k = same-member_in_full (makers_group o) (makers-are_group o) o (own-maker o) ls ms k

  -- and around a component
  pub same-around_in_full : SameAroundInFull read
  same-around_in_full p o off out ls ms k = same-member_in_full (group_without p) (others-are_group p off) o out ls ms k

-- a number of one to nine digits that does not begin with 0 is not 0
positive-above : (k : ℕ) (text : List ℕ) → IsPositive k text → 0 < k
positive-above k [] h = absurd h
positive-above k (d ∷ digits) h = elim (cases_eq k 0) [
  | inl e ↦
      let zero : (d ∷ digits) ≡ 48 ∷ [] = (IsNumber-decimal k (d ∷ digits) (inr h)).0 ∙ ap decimal e ∙ decimal_digit 0 (omega arith) in
      let first : d ≡ 48 = ap (λ ds. get_or ds 0 0) zero in
      absurd (omega (arith, h.0, first))
  | inr ne ↦ omega (arith, ne)
]

-- numbers of such texts have at most nine digits
shorts-of : (ns : List ℕ) (texts : List (List ℕ)) → ArePositive ns texts → AllByRecursion (λ n. (0 < n) × (n < 10 ^ 9)) ns
shorts-of [] [] h = tt
shorts-of [] (text ∷ texts) h = absurd h
shorts-of (n ∷ ns) [] h = absurd h
shorts-of (n ∷ ns) (text ∷ texts) h = ((positive-above n text h.0, (IsNumber-decimal n text (inr h.0)).1), shorts-of ns texts h.1)

-- what is known of an owner whose word is read
word-of : (o : Owner) (name : List ℕ) → IsOwner o name → HasWord o
word-of Page name h = tt
word-of (Component q) name h = (h.0, shorts-of h.0 h.1 h.2, h.3, h.4, h.5)

-- the protocol's reading gives such owners
pub decode-reads_owners : DecodeReadsOwners
decode-reads_owners bytes o e = from (decode bytes) (decode_says bytes) e
  where
    belongs : BelongsTo bytes o → IsWordOf o
    belongs b = subst (IsOwner o) (IsOwner-owner_word o b.0 b.2) b.2

    from : (l : Line) → Says bytes l → owner_of_line l ≡ Some o → IsWordOf o
    from no_owner s e = cc
    from (no_command p) s e = let same : p ≡ o = cc in belongs (subst (BelongsTo bytes) same s.0)
    from (command p c) s e = let same : p ≡ o = cc in subst IsWordOf same (subst (IsOwner p) (IsOwner-owner_word p s.name s.owned) s.owned)

-- a line of output is an owner's, in both words
owner_eq-turned : (a b : Owner) → owner_eq a b ≡ owner_eq b a
owner_eq-turned a b =
    by_cases (owner_eq a b) (λ h. h ∙ sym (ap (λ x. owner_eq b x) (owner_eq-true a b h) ∙ owner_eq-same b))
    (λ h. h ∙ sym (ne-owner_eq b a (λ e. owner_eq-false a b h (sym e))))

-- of each
line-is_of : (o : Owner) (l : Output) → is_line_of o l ≡ is_of (owner_eq o) (owner_of_output l)
line-is_of o bad_owner = refl
line-is_of o (says p s) = owner_eq-turned p o

module _ (read : List ℕ → Line) where
  -- what lines of bytes say is of owners that lines are read of
  worded-lines : ReadsOwners read → (lines : List (List ℕ)) → AllByRecursion IsWordedInput (map read lines)
  worded-lines owners lines =
      all-map IsWordedInput read lines (all-from (λ b. IsWordedInput (read b)) (λ b p e. word-of p (owner_word p) (owners b p e)) lines)

  -- an owner's lines among lines of output
  lines-for : (o : Owner) → IsWordOf o → (outputs : List Output) → AllByRecursion HasOwner outputs →
      lines_from o (map output_line outputs) ≡ map output_line (outputs_for o outputs)
  lines-for o t outputs worded =
      lines_from-outputs o outputs (word-of o (owner_word o) t) worded
      ∙ ap (map output_line) (filter_same (is_line_of o) (λ l. is_of (owner_eq o) (owner_of_output l)) outputs
      (all-from (λ l. is_line_of o l ≡ is_of (owner_eq o) (owner_of_output l)) (line-is_of o) outputs))

  -- an owner's lines in the text of the output
  pub own_lines-have_their_prefix : ReadsOwners read → ReadsPlainWords read → OwnLinesHaveTheirPrefix read
  own_lines-have_their_prefix owners plain o t bytes =
      let lines = lines_of bytes in
      ap (lines_from o) (output-has_its_lines read plain lines)
      ∙ lines-for o t (outputs_of (map read lines)) (worded-outputs (map read lines) (worded-lines owners lines))

  -- so far
  pub own_lines-have_their_prefix_so_far : ReadsOwners read → ReadsPlainWords read → (o : Owner) → IsWordOf o → (lines : List (List ℕ)) →
      let outputs = (run_lines first_world (map read lines)).1 in lines_from o (lines_of (output_text outputs)) ≡ map output_line (outputs_for o outputs)
  own_lines-have_their_prefix_so_far owners plain o t lines =
      ap (lines_from o) (output-has_its_lines_so_far read plain lines)
      ∙ lines-for o t (run_lines first_world (map read lines)).1 (worded-so_far (map read lines) (worded-lines owners lines))

  -- Two texts: a member of a group,
  pub same-group_text_while_turns_stand : ReadsOwners read → ReadsPlainWords read → SameGroupTextWhileTurnsStand read
  same-group_text_while_turns_stand owners plain g closed member m t first second k =
      own_lines-have_their_prefix owners plain member t first
      ∙ ap (map output_line) (same-member_while_turns_stand read g closed member m (lines_of first) (lines_of second) k)
      ∙ sym (own_lines-have_their_prefix owners plain member t second)

  -- with closed turns
  pub same-group_text : ReadsOwners read → ReadsPlainWords read → SameGroupText read
  same-group_text owners plain g closed member m t first second k =
      same-group_text_while_turns_stand owners plain g closed member m t first second (agree-standing read g (lines_of first) (lines_of second) k)

  -- of a family,
  pub same-family_text_while_turns_stand : ReadsOwners read → ReadsPlainWords read → SameFamilyTextWhileTurnsStand read
  same-family_text_while_turns_stand owners plain root member m t first second a b c d e =
      same-group_text_while_turns_stand owners plain (family_group root) (family-is_group root) member
      (or_right (is_page member) (is_in_family root member) m) t first second ((a, b, e), c, d)

  -- with closed turns
  pub same-family_text : ReadsOwners read → ReadsPlainWords read → SameFamilyText read
  same-family_text owners plain root member off m t first second a b c d e =
      same-group_text owners plain (family_group root) (family-is_group root) member
      (or_right (is_page member) (is_in_family root member) m) t first second ((a, b, e), c, d)

  -- a component with its makers,
  pub same-component_text_while_turns_stand : ReadsOwners read → ReadsPlainWords read → SameComponentTextWhileTurnsStand read
  same-component_text_while_turns_stand owners plain c t first second k =
      same-group_text_while_turns_stand owners plain (makers_group c) (makers-are_group c) c (own-maker c) t first second k

  -- with closed turns
  pub same-component_text : ReadsOwners read → ReadsPlainWords read → SameComponentText read
  same-component_text owners plain c t first second k =
      same-group_text owners plain (makers_group c) (makers-are_group c) c (own-maker c) t first second k

  -- and around a component
  pub same-around_text_while_turns_stand : ReadsOwners read → ReadsPlainWords read → SameAroundTextWhileTurnsStand read
  same-around_text_while_turns_stand owners plain c o off out t first second k =
      same-group_text_while_turns_stand owners plain (group_without c) (others-are_group c off) o out t first second k

  -- with closed turns
  pub same-around_text : ReadsOwners read → ReadsPlainWords read → SameAroundText read
  same-around_text owners plain c o off out t first second k =
      same-group_text owners plain (group_without c) (others-are_group c off) o out t first second k

  -- Whatever others' listeners do, and whose turns they end: a member of a group,
  pub same-group_text_in_full : ReadsOwners read → ReadsPlainWords read → SameGroupTextInFull read
  same-group_text_in_full owners plain g closed member m t first second k =
      own_lines-have_their_prefix owners plain member t first
      ∙ ap (map output_line) (same-member_in_full read g closed member m (lines_of first) (lines_of second) k)
      ∙ sym (own_lines-have_their_prefix owners plain member t second)

  -- of a family,
  pub same-family_text_in_full : ReadsOwners read → ReadsPlainWords read → SameFamilyTextInFull read
  same-family_text_in_full owners plain root member m t first second k =
      same-group_text_in_full owners plain (family_group root) (family-is_group root) member
      (or_right (is_page member) (is_in_family root member) m) t first second k

  -- a component with its makers,
  pub same-component_text_in_full : ReadsOwners read → ReadsPlainWords read → SameComponentTextInFull read
  same-component_text_in_full owners plain c t first second k =
      same-group_text_in_full owners plain (makers_group c) (makers-are_group c) c (own-maker c) t first second k

  -- and around a component
  pub same-around_text_in_full : ReadsOwners read → ReadsPlainWords read → SameAroundTextInFull read
  same-around_text_in_full owners plain c o off out t first second k =
      same-group_text_in_full owners plain (group_without c) (others-are_group c off) o out t first second k
