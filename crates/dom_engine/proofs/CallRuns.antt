-- What a session has done and told by calls is the machine's run on them, so the laws on scripts speak of it.
use Rattle.dom_base.proofs.Std.{◌≡◌, ℕ, Bool, List, [], ◌∷◌, ◌++◌, map, map-id, map-append, refl, sym, ap, ◌∙◌}
use Rattle.dom_model.proofs.Model.{Owner, Page, Line, command, World, Run, first_world, step, run_lines, finish, group_world, group_outputs}
use Rattle.dom_model.proofs.Model.{outputs_for, page_of, Output, bad_owner, says, owner_of_output, is_of, owner_eq}
use Rattle.dom_text.specs.Definitions.{decode, output_text}
use Rattle.dom_answers.specs.Told.{ShowsText, shown_output, told}
use Rattle.dom_isolation.specs.Definitions.{FullItem, run_silent_under, full_trace_from, page_run}
use Rattle.dom_isolation.proofs.PageTexts.{page_run-agrees_in_full}
use Rattle.dom_isolation.proofs.GroupSlots.{member-outputs}
use Rattle.dom_isolation.proofs.GroupStates.{group-agrees_in_full}
use Rattle.dom_isolation.proofs.StrategyRuns.{same-by_strategy, same-by_strategies}
use Rattle.dom_worlds.proofs.ListLemmas.{filter-map, filter_same, all-from}
use Rattle.dom_engine.specs.Session.{SessionState}
use Rattle.dom_engine.specs.Sessions.{texts_from}
use Rattle.dom_engine.specs.CallSessions.{as_called, answers_from, all_told, HasCalled, CallsBegin, CallsGoOn, CallsTellAll, LinesAreTheirCalls, CallsHavePage}
use Rattle.dom_engine.specs.CallSessions.{CallsHaveGroup, SameCalls, SameCallsByStrategy, SameCallsByStrategies}

-- more calls
run-more : (w : World) (xs ys : List Line) → (run_lines w (xs ++ ys)).0 ≡ (run_lines (run_lines w xs).0 ys).0
run-more w [] ys = refl
run-more w (x ∷ xs) ys = run-more (step w x).0 xs ys

-- their answers
answers-more : (w : World) (xs ys : List Line) → answers_from w (xs ++ ys) ≡ answers_from w xs ++ answers_from (run_lines w xs).0 ys
answers-more w [] ys = refl
answers-more w (x ∷ xs) ys = ap (λ ts. map shown_output (step w x).1 ∷ ts) (answers-more (step w x).0 xs ys)

-- together they tell what the calls tell
answers-joined : (w : World) (calls : List Line) → all_told (answers_from w calls) ≡ map shown_output (run_lines w calls).1
answers-joined w [] = refl
answers-joined w (call ∷ calls) =
    let r = step w call in
    ap (λ (ts : List Output). map shown_output r.1 ++ ts) (answers-joined r.0 calls) ∙ sym (map-append shown_output r.1 (run_lines r.0 calls).1)

-- a new session
pub calls-begin : CallsBegin
calls-begin = record { sound = refl; world = refl; told = refl }

-- a call
pub calls-go_on : CallsGoOn
calls-go_on calls answers old o c answer new k a =
    let w = (run_lines first_world calls).0 in
    record {
      sound = ap (λ (s : SessionState). s.has_failed) a.1;
      world =
          ap (λ (s : SessionState). s.world) a.1 ∙ ap (λ v. (step v (command o c)).0) k.world
          ∙ sym (run-more first_world calls (command o c ∷ []));
      told =
          ap (λ ts. ts ++ told answer ∷ []) k.told
          ∙ ap (λ t. answers_from first_world calls ++ t ∷ []) (a.0 ∙ ap (λ v. map shown_output (step v (command o c)).1) k.world)
          ∙ sym (answers-more first_world calls (command o c ∷ []));
    }

-- all that it has told
calls-told : {calls : List Line} {answers : List (List Output)} {s : SessionState} → HasCalled calls answers s →
    all_told answers ≡ map shown_output (run_lines first_world calls).1
calls-told {calls} k = ap all_told k.told ∙ answers-joined first_world calls

-- to the end of input too
pub calls-tell_all : CallsTellAll
calls-tell_all calls answers s k =
    let all = run_lines first_world calls in (
      calls-told k,
      ap (λ t. t ++ map shown_output (finish s.world).1) (calls-told k)
          ∙ ap (λ w. map shown_output all.1 ++ map shown_output (finish w).1) k.world ∙ sym (map-append shown_output all.1 (finish all.0).1),
    )

-- texts and answers
texts-answers : ShowsText → (w : World) (lines : List (List ℕ)) → texts_from w lines ≡ map output_text (answers_from w (map decode lines))
texts-answers shows w [] = refl
texts-answers shows w (line ∷ lines) =
    let r = step w (decode line) in
    ap (λ (t : List ℕ). t ∷ texts_from r.0 lines) (sym (shows r.1))
    ∙ ap (λ (ts : List (List ℕ)). output_text (map shown_output r.1) ∷ ts) (texts-answers shows r.0 lines)

-- lines and their calls
pub lines-are_their_calls : ShowsText → LinesAreTheirCalls
lines-are_their_calls shows lines texts s answers called k j = (
  k.world ∙ sym j.world,
  k.told ∙ texts-answers shows first_world lines ∙ ap (map output_text) (sym j.told),
)

-- a run as it is read
as_called-lines : (calls : List Line) → run_lines first_world calls ≡ run_lines first_world (map as_called calls)
as_called-lines calls = ap (run_lines first_world) (sym (map-id calls))

-- whose a line is that is shown
owner-shown : (l : Output) → owner_of_output (shown_output l) ≡ owner_of_output l
owner-shown bad_owner = refl
owner-shown (says o s) = refl

-- the lines of some owners in what is shown
outputs-shown : (group : Owner → Bool) (ls : List Output) → group_outputs group (map shown_output ls) ≡ map shown_output (group_outputs group ls)
outputs-shown group ls =
    filter-map (λ l. is_of group (owner_of_output l)) shown_output ls
    ∙ ap (map shown_output) (filter_same (λ l. is_of group (owner_of_output (shown_output l))) (λ l. is_of group (owner_of_output l)) ls
    (all-from (λ l. is_of group (owner_of_output (shown_output l)) ≡ is_of group (owner_of_output l)) (λ l. ap (is_of group) (owner-shown l)) ls))

-- the page
pub calls-have_page : CallsHavePage
calls-have_page calls answers s k =
    let agrees = ap page_run (as_called-lines calls) ∙ page_run-agrees_in_full as_called calls in (
      ap page_of k.world ∙ ap (λ r. r.0) agrees,
      ap (outputs_for Page) (calls-told k) ∙ outputs-shown (owner_eq Page) (run_lines first_world calls).1 ∙ ap (λ r. map shown_output r.1) agrees,
    )

-- a group
pub calls-have_group : CallsHaveGroup
calls-have_group g closed calls answers s k =
    let all = run_lines first_world calls in
    let silent = run_silent_under as_called g first_world (full_trace_from as_called g first_world calls) in
    let worlds : group_world g all.0 ≡ group_world g silent.0 =
    ap (λ r. group_world g r.0) (as_called-lines calls) ∙ ap (λ (r : Run World). r.0) (group-agrees_in_full as_called g closed calls) in
    let outputs : group_outputs g all.1 ≡ group_outputs g silent.1 =
    ap (λ r. group_outputs g r.1) (as_called-lines calls) ∙ ap (λ (r : Run World). r.1) (group-agrees_in_full as_called g closed calls) in (
      ap (group_world g) k.world ∙ worlds,
      ap (group_outputs g) (calls-told k) ∙ outputs-shown g all.1 ∙ ap (map shown_output) outputs,
      λ member m. ap (outputs_for member) (calls-told k) ∙ outputs-shown (owner_eq member) all.1
          ∙ ap (map shown_output) (sym (member-outputs g member m all.1) ∙ ap (outputs_for member) outputs ∙ member-outputs g member m silent.1),
    )

-- two sessions
pub same-calls : SameCalls
same-calls g closed calls answers s more others other k j e =
    let left = calls-have_group g closed calls answers s k in
    let right = calls-have_group g closed more others other j in
    let silent : List (FullItem Line) → Run World = run_silent_under as_called g first_world in
    record {
      worlds = left.0 ∙ ap (λ items. group_world g (silent items).0) e ∙ sym right.0;
      told = left.1 ∙ ap (λ items. map shown_output (group_outputs g (silent items).1)) e ∙ sym right.1;
      members = λ member m. left.2 member m ∙ ap (λ items. map shown_output (outputs_for member (silent items).1)) e ∙ sym (right.2 member m);
    }

-- by a strategy
pub same-calls_by_strategy : SameCallsByStrategy
same-calls_by_strategy g closed next calls answers s more others other k j f h e =
    let one = same-by_strategy as_called g closed next calls more f h e in
    (one.0, same-calls g closed calls answers s more others other k j one.1)

-- by strategies
pub same-calls_by_strategies : SameCallsByStrategies
same-calls_by_strategies g closed next calls answers s more others other k j f h e =
    let one = same-by_strategies as_called g closed next calls more f h e in
    (one.0, same-calls g closed calls answers s more others other k j one.1)
