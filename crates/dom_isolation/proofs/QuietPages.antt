-- Of the page no event of the ending of a turn is told, so what is told goes by the types of the events of its trace alone.
use Rattle.dom_base.proofs.Std.{◌≡◌, Bool, false, List, [], ◌∷◌, true, sym, ap, ◌∙◌, subst, AllByRecursion, true≢false}
use Rattle.dom_model.proofs.Model.{Word, Line, step, first_world, is_page, World, PageState, Run, run_then, run_page, first_page, page_finish}
use Rattle.dom_model.proofs.Model.{page_outputs_of}
use Rattle.dom_worlds.specs.Definitions.{Invariant}
use Rattle.dom_worlds.proofs.WorldLemmas.{quiet-first, quiet-step}
use Rattle.dom_worlds.proofs.TurnLemmas.{quiet-ending_other, quiet-opening}
use Rattle.dom_isolation.specs.Definitions.{others_log_from, HasTypeIn, NothingTouchesPageTypes, PageSeesItsTypedTrace, SamePageByTypes}
use Rattle.dom_isolation.specs.Definitions.{full_trace_of, untouched}
use Rattle.dom_isolation.proofs.FullTraces.{AreQuietFor, AreGood, trace-quiet, run-plain, full_trace-is_trace}
use Rattle.dom_isolation.proofs.Lines.{endings-are_not_told}
use Rattle.dom_isolation.proofs.QuietTypes.{LogTypes, types-event, types-ended, types-opened, types-line, logs-first}
use Rattle.dom_isolation.proofs.PageTexts.{page-sees_its_full_trace}

-- a world as it should be, in which components' listeners for some types only log
abbrev IsPageQuiet : (Word → Bool) → World → Type 0
IsPageQuiet types w = Invariant false w × LogTypes is_page types w

-- nobody touches the page's events of these types
page-quiet : (types : Word → Bool) → AreQuietFor is_page types (IsPageQuiet types)
page-quiet types = record {
  event = λ w q x r e h. types-event is_page types w q.1 x r e h;
  ending = λ w q. subst (AllByRecursion (λ i. i ≡ untouched)) (sym (endings-are_not_told w q.0.world)) tt;
  ended = λ w o q. (quiet-ending_other w q.0 o, types-ended is_page types w o q.1);
  opened = λ w o q. (quiet-opening w q.0 o, types-opened is_page types w o q.1);
}

module _ {L : Type 0} (read : L → Line) where
  -- the worlds of a script
  along : (types : Word → Bool) (ls : List L) (w : World) → IsPageQuiet types w →
      ((event : Word) → types event ≡ true → others_log_from read is_page event w ls ≡ true) → AreGood read (page-quiet types) w ls
  along types [] w q h = tt
  along types (l ∷ ls) w q h =
      let next = types-line is_page types read l ls w q.1 h in
      (q, along types ls (step w (read l)).0 (quiet-step w (read l) q.0 (λ y. absurd (true≢false (sym y))), next.0) next.1)

  -- nothing is told in the full trace
  pub nothing-touches_page_types : NothingTouchesPageTypes read
  nothing-touches_page_types types ls h typed =
      trace-quiet read (page-quiet types) ls first_world (along types ls first_world (quiet-first, λ event t. logs-first is_page event) h) typed

  -- so the page machine on the full trace is that on the trace
  pub page-sees_its_typed_trace : PageSeesItsTypedTrace read
  page-sees_its_typed_trace types ls h typed =
      page-sees_its_full_trace read ls
      ∙ ap (λ (r : Run PageState). (run_then r page_finish).1)
      (run-plain read (full_trace_of read ls) first_page (nothing-touches_page_types types ls h typed)
      ∙ ap (run_page read first_page) (full_trace-is_trace read is_page first_world ls))

  -- two scripts
  pub same-page_by_types : SamePageByTypes read
  same-page_by_types types ls ms h g typed e =
      page-sees_its_typed_trace types ls h typed ∙ ap (page_outputs_of read) e
      ∙ sym (page-sees_its_typed_trace types ms g (subst (AllByRecursion (HasTypeIn read types)) e typed))
