-- What a session has taken and told is the machine's run on its lines, so the laws on lists of lines speak of it.
use Rattle.dom_base.proofs.Std.{◌≡◌, ℕ, List, [], ◌∷◌, ◌++◌, map, refl, sym, ap, ◌∙◌}
use Rattle.dom_model.proofs.Model.{World, Run, first_world, step, run_lines, finish, group_world, outputs_for, page_of}
use Rattle.dom_text.specs.Definitions.{decode, lines_of, lines_from, page_lines, output_line, output_text}
use Rattle.dom_text.proofs.OutputLaws.{output_text-append}
use Rattle.dom_isolation.specs.Definitions.{run_silent_under}
use Rattle.dom_isolation.proofs.PlainLines.{decode-reads_plain_words}
use Rattle.dom_isolation.proofs.PageTexts.{page-agrees_in_full, picked_lines-agree_so_far_in_full}
use Rattle.dom_isolation.proofs.GroupTexts.{decode-reads_owners}
use Rattle.dom_isolation.proofs.GroupStates.{group-agrees_in_full, member_lines-agree_so_far_in_full}
use Rattle.dom_isolation.proofs.StrategyRuns.{same-by_strategy, same-by_strategies}
use Rattle.dom_engine.specs.Run.{answers_to_end}
use Rattle.dom_engine.specs.Session.{SessionState}
use Rattle.dom_engine.specs.Sessions.{texts_from, joined, HasTaken, SessionBegins, SessionGoesOn, SessionTellsAll, SessionHasPage, SessionHasGroup}
use Rattle.dom_engine.specs.Sessions.{SameSessions, SameSessionsByStrategy, SameSessionsByStrategies}
use Rattle.dom_engine.proofs.LineRuns.{run_more}

-- the texts of more lines
texts-more : (w : World) (xs ys : List (List ℕ)) → texts_from w (xs ++ ys) ≡ texts_from w xs ++ texts_from (run_lines w (map decode xs)).0 ys
texts-more w [] ys = refl
texts-more w (x ∷ xs) ys = ap (λ ts. output_text (step w (decode x)).1 ∷ ts) (texts-more (step w (decode x)).0 xs ys)

-- together they are the text of what the lines answer
texts-joined : (w : World) (lines : List (List ℕ)) → joined (texts_from w lines) ≡ output_text (run_lines w (map decode lines)).1
texts-joined w [] = refl
texts-joined w (line ∷ lines) =
    let r = step w (decode line) in
    ap (λ (ts : List ℕ). output_text r.1 ++ ts) (texts-joined r.0 lines) ∙ sym (output_text-append r.1 (run_lines r.0 (map decode lines)).1)

-- a new session
pub session-begins : SessionBegins
session-begins = record { sound = refl; world = refl; told = refl }

-- a call
pub session-goes_on : SessionGoesOn
session-goes_on lines texts old line text new k a =
    let w = (run_lines first_world (map decode lines)).0 in
    record {
      sound = ap (λ (s : SessionState). s.has_failed) a.1;
      world =
          ap (λ (s : SessionState). s.world) a.1 ∙ ap (λ v. (step v (decode line)).0) k.world
          ∙ sym (ap (λ (r : Run World). r.0) (run_more first_world lines (line ∷ [])));
      told =
          ap (λ ts. ts ++ text ∷ []) k.told ∙ ap (λ t. texts_from first_world lines ++ t ∷ []) (a.0 ∙ ap (λ v. output_text (step v (decode line)).1) k.world)
          ∙ sym (texts-more first_world lines (line ∷ []));
    }

-- all that it has told
session-told : {lines texts : List (List ℕ)} {s : SessionState} → HasTaken lines texts s →
    joined texts ≡ output_text (run_lines first_world (map decode lines)).1
session-told {lines} k = ap joined k.told ∙ texts-joined first_world lines

-- to the end of input too
pub session-tells_all : SessionTellsAll
unfolding answers_to_end
session-tells_all lines texts s k =
    let all = run_lines first_world (map decode lines) in (
      session-told k,
      ap (λ t. t ++ output_text (finish s.world).1) (session-told k) ∙ ap (λ w. output_text all.1 ++ output_text (finish w).1) k.world
          ∙ sym (output_text-append all.1 (finish all.0).1),
    )

-- the page
pub session-has_page : SessionHasPage
session-has_page lines texts s k = (
  ap page_of k.world ∙ page-agrees_in_full decode lines,
  ap (λ t. page_lines (lines_of t)) (session-told k) ∙ picked_lines-agree_so_far_in_full decode decode-reads_plain_words lines,
)

-- a group
pub session-has_group : SessionHasGroup
session-has_group g closed lines texts s k = (
  ap (group_world g) k.world ∙ ap (λ (r : Run World). r.0) (group-agrees_in_full decode g closed lines),
  λ member m t. ap (λ x. lines_from member (lines_of x)) (session-told k)
      ∙ member_lines-agree_so_far_in_full decode decode-reads_owners decode-reads_plain_words g closed member m t lines,
)

-- two sessions
pub same-sessions : SameSessions
same-sessions g closed lines texts s more others other k j e =
    let left = session-has_group g closed lines texts s k in
    let right = session-has_group g closed more others other j in
    record {
      worlds = left.0 ∙ ap (λ items. group_world g (run_silent_under decode g first_world items).0) e ∙ sym right.0;
      told = λ member m t. left.1 member m t
          ∙ ap (λ items. map output_line (outputs_for member (run_silent_under decode g first_world items).1)) e ∙ sym (right.1 member m t);
    }

-- by a strategy
pub same-sessions_by_strategy : SameSessionsByStrategy
same-sessions_by_strategy g closed next lines texts s more others other k j f h e =
    let one = same-by_strategy decode g closed next lines more f h e in
    (one.0, same-sessions g closed lines texts s more others other k j one.1)

-- by strategies
pub same-sessions_by_strategies : SameSessionsByStrategies
same-sessions_by_strategies g closed next lines texts s more others other k j f h e =
    let one = same-by_strategies decode g closed next lines more f h e in
    (one.0, same-sessions g closed lines texts s more others other k j one.1)
