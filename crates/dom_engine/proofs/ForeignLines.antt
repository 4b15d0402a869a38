-- A command that names another owner's node is refused, the page's as well as a component's, and so is a line that says one. No turn is open after the end
-- of input.
use Rattle.dom_base.proofs.Std.{◌≡◌, Bool, true, false, not, ◌&&◌, [], ◌∷◌, ◌++◌, Some, refl, sym, ap, subst, ◌∙◌, Option, None, if◌then◌else◌, is_some}
use Rattle.dom_base.proofs.Std.{option_or}
use Rattle.dom_model.proofs.Model.{Page, Component, Syntax, Busy, Foreign, Unknown, Command, command, assigned, names_foreign, is_command_of, part_refusal}
use Rattle.dom_model.proofs.Model.{accepted, is_busy, refusal, step, finish, says, refused, run_then, unless_refused, quiet, ending_other_turn, is_page_turn}
use Rattle.dom_model.proofs.Model.{ending_turn, first_refusal, World, is_there, part_of, Component-IsNoPage, foreign_is_refused, Owner, Refusal}
use Rattle.dom_model.proofs.Model.{turn-ending_turn}
use Rattle.dom_text.specs.Definitions.{MayUse, Says}
use Rattle.dom_text.proofs.DecodeLaws.{decode_says}
use Rattle.dom_engine.specs.Calls.{ForeignCommandIsRefused}
use Rattle.dom_engine.specs.Session.{ForeignLinesAreRefused}

-- a component's line is busy where the page's turn is open
busy-component : (b : Bool) → (if b && true then Busy else Foreign) ≡ (if b then Busy else Foreign)
busy-component true = refl
busy-component false = refl

-- a command that the grammar admits is one of the owner's
may_use : (o : Owner) (c : Command) → MayUse c o → is_command_of o c ≡ true
may_use Page (assigned x) h = absurd h
may_use Page c h = refl
may_use (Component k) c h = refl

-- the page is never busy
page-busy : (b : Bool) → (if b && false then Busy else Foreign) ≡ Foreign
page-busy true = refl
page-busy false = refl

-- why a page's command is refused
why-page : (w : World) (c : Command) (mine : Bool) → is_command_of Page c ≡ mine → names_foreign c ≡ true →
    refusal w Page c ≡ Some (if mine then Foreign else Syntax)
why-page w c mine h g =
    ap (λ b. option_or (first_refusal ((not b, Syntax) ∷ (is_busy w Page, Busy) ∷ (names_foreign c, Foreign) ∷ (not (is_there w Page), Unknown) ∷
    [])) (part_refusal (part_of w Page) c)) h
    ∙ ap (λ b. option_or (first_refusal ((not mine, Syntax) ∷ (is_busy w Page, Busy) ∷ (b, Foreign) ∷ (not (is_there w Page), Unknown) ∷ []))
    (part_refusal (part_of w Page) c)) g
    ∙ from mine (is_page_turn w.turn)
  where
    from : (mine b : Bool) → option_or (first_refusal ((not mine, Syntax) ∷ (b && false, Busy) ∷ (true, Foreign) ∷ (not (is_there w Page), Unknown) ∷ []))
        (part_refusal (part_of w Page) c) ≡ Some (if mine then Foreign else Syntax)
    from false b = refl
    from true true = refl
    from true false = refl

-- what such a command does
pub foreign-command : ForeignCommandIsRefused
foreign-command w (Component k) c h =
    let ended = ending_other_turn w (Component k) in
    foreign_is_refused w (Component k) c (Component-IsNoPage k) refl h
    ∙ ap (λ why. (ended.0, ended.1 ++ says (Component k) (refused why) ∷ [])) (sym (busy-component (is_page_turn w.turn)))
foreign-command w Page c h =
    let ended = ending_other_turn w Page in
    let mine = is_command_of Page c in
    ap (λ o. run_then ended (λ v. unless_refused Page o ended.0 (accepted ended.0 Page c))) (why-page ended.0 c mine refl h)
    ∙ ap (λ (why : Refusal). (ended.0, ended.1 ++ says Page (refused (if mine then why else Syntax)) ∷ [])) (sym (page-busy (is_page_turn w.turn)))

-- what such a line does
pub foreign-step : ForeignLinesAreRefused
foreign-step w line o c e h =
    let ended = ending_other_turn w o in
    let said : Says line (command o c) = subst (Says line) e (decode_says line) in
    ap (step w) e ∙ foreign-command w o c h
    ∙ ap (λ mine. (ended.0, ended.1 ++ says o (refused (if mine then (if is_busy w o then Busy else Foreign) else Syntax)) ∷ [])) (may_use o c said.may_use)

pub turn-finish : (w : World) → (finish w).0.turn ≡ None
turn-finish w = by w.turn refl
  where
    by : (t : Option Owner) → w.turn ≡ t → (if is_some t then ending_turn w else quiet w).0.turn ≡ None
    by None e = e
    by (Some o) e = turn-ending_turn w

-- what the end of input leaves
pub ruleset closing = (turn-finish)
