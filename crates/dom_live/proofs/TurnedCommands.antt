-- What an accepted command does, and what it answers, does not depend on the open turn.
use Rattle.dom_base.proofs.Std.{◌≡◌, Bool, true, false, ⊤, List, [], ◌∷◌, fold, Option, Some, None, refl, sym, ap, ◌∙◌, option_map, is_some, cond-true}
use Rattle.dom_base.proofs.Std.{cond-false, if◌then◌else◌}
use Rattle.dom_model.proofs.Model.{Owner, NodeName, World, part_of, Command, Effect, tables, changes, effect, effect_in, perform, named}
use Rattle.dom_model.proofs.Model.{Run, run_then, answering}
use Rattle.dom_model.proofs.Model.{a_truth, dispatch_in, Dispatched, world_step, world_after, stepped, with_signal, with_removal_signals, with_shadow_document}
use Rattle.dom_model.proofs.Model.{signals, components_below, max_depth, with_notify_if, is_taken, parent_of, Step, place, take_out, set_document}
use Rattle.dom_model.proofs.Model.{set_attribute, queue_record, opening_turn, EventWords}
use Rattle.dom_worlds.proofs.ListLemmas.{by_cases}
use Rattle.dom_live.specs.LineScripts.{without_turn}
use Rattle.dom_live.proofs.Rested.{with_rest, connected-rested, dispatch-rested, below-rested}

-- a command other than `.`
abbrev pub IsNoEnd : Command → Type 0
IsNoEnd Command.end_turn = ⊥
IsNoEnd c = ⊤

module _ (t : Option Owner) where
  -- the world in that turn
  abbrev pub in_turn : World → World
  in_turn w = record w { turn = t }

  -- a run to such a world
  abbrev pub turn_run : Run World → Run World
  turn_run r = (in_turn r.0, r.1)

  -- signals
  signals-turned : (xs : List NodeName) (w : World) → fold with_signal (in_turn w) xs ≡ in_turn (fold with_signal w xs)
  signals-turned [] w = refl
  signals-turned (x ∷ xs) w = signals-turned xs (with_signal w x)

  -- node documents of shadow trees
  documents-turned : (d : NodeName) (cs : List Owner) (w : World) →
      fold (with_shadow_document d) (in_turn w) cs ≡ in_turn (fold (with_shadow_document d) w cs)
  documents-turned d [] w = refl
  documents-turned d (c ∷ cs) w = documents-turned d cs (with_shadow_document d w c)

  module _ (o : Owner) where
    -- a step
    step-turned : (w : World) (s : Step) → world_step o (in_turn w) s ≡ in_turn (world_step o w s)
    step-turned w (place x parent before) =
        signals-turned (signals w (stepped o w (place x parent before)) x parent true) (stepped o w (place x parent before))
    step-turned w (take_out x) = from (parent_of (part_of w o).trees x)
      where
        from : (m : Option NodeName) → with_removal_signals (in_turn w) (in_turn (stepped o w (take_out x))) x m
            ≡ in_turn (with_removal_signals w (stepped o w (take_out x)) x m)
        from None = refl
        from (Some parent) = signals-turned (signals w (stepped o w (take_out x)) x parent true) (stepped o w (take_out x))
    step-turned w (set_attribute x a v) =
        signals-turned (signals w (stepped o w (set_attribute x a v)) x x false) (stepped o w (set_attribute x a v))
    step-turned w (set_document x d) =
        ap (λ (f : NodeName → List Owner). fold (with_shadow_document d) (in_turn (stepped o w (set_document x d))) (f x))
        (below-rested w w.tasks t max_depth)
        ∙ documents-turned d (components_below max_depth w x) (stepped o w (set_document x d))
    step-turned w (queue_record c) = from (is_taken (part_of w o) c)
      where
        from : (b : Bool) → with_notify_if b o (in_turn (stepped o w (queue_record c))) ≡ in_turn (with_notify_if b o (stepped o w (queue_record c)))
        from true = refl
        from false = refl
    step-turned w s = refl

    -- steps
    steps-turned : (steps : List Step) (w : World) → world_after o (in_turn w) steps ≡ in_turn (world_after o w steps)
    steps-turned [] w = refl
    steps-turned (s ∷ steps) w = ap (λ v. world_after o v steps) (step-turned w s) ∙ steps-turned steps (world_step o w s)

    -- an effect
    effect-turned : (w : World) (e : Effect) → effect_in (in_turn w) o e ≡ turn_run (effect_in w o e)
    effect-turned w (tables q lines v) = refl
    effect-turned w (changes steps v) = ap (answering o v) (steps-turned steps w)

    -- a dispatch leaves the tasks
    dispatch-turned : (w : World) (x : NodeName) (r : Option NodeName) (e : EventWords) →
        dispatch_in (in_turn w) x r e ≡ record { run = turn_run (dispatch_in w x r e).run; answer = (dispatch_in w x r e).answer }
    dispatch-turned w x r e =
        let d = dispatch_in w x r e in
        dispatch-rested w.tasks t w x r e
        ∙ ap (λ ts. record { run = (with_rest d.run.0 ts t, d.run.1); answer = d.answer })
        (sym (ap (λ (d : Dispatched World). d.run.0.tasks) (dispatch-rested w.tasks w.turn w x r e)))

    -- a command
    pub perform-turned : (w : World) (c : Command) → IsNoEnd c → perform (in_turn w) o c ≡ turn_run (perform w o c)
    perform-turned w (Command.attach x) n = refl
    perform-turned w (Command.connected x) n =
        ap (λ b. answering o (a_truth b) (in_turn w)) (connected-rested w w.tasks t (named (part_of w o) x))
    perform-turned w (Command.assigned x) n = refl
    perform-turned w (Command.dispatch x e r) n =
        ap (λ (d : Dispatched World). run_then d.run (answering o (a_truth d.answer)))
        (dispatch-turned w (named (part_of w o) x) (option_map (named (part_of w o)) r) e)
    perform-turned w (Command.micro label) n = refl
    perform-turned w Command.end_turn n = absurd n
    perform-turned w c n = effect-turned w (effect (part_of w o) c)

-- a turn that is opened, or is open
pub opened-as : (w : World) (o : Owner) → opening_turn w o ≡ record w { turn = if is_some w.turn then w.turn else Some o }
opened-as w o =
    by_cases (is_some w.turn)
    (λ h. cond-true (is_some w.turn) w (record w { turn = Some o }) h ∙ ap (λ t. record w { turn = t }) (sym (cond-true (is_some w.turn) w.turn (Some o) h)))
    (λ h. cond-false (is_some w.turn) w (record w { turn = Some o }) h
    ∙ ap (λ t. record w { turn = t }) (sym (cond-false (is_some w.turn) w.turn (Some o) h)))

-- What a command does in the turn that it opens is what it does without a turn.
pub opened-turned : (w : World) (o : Owner) (c : Command) → IsNoEnd c →
    turn_run None (perform (opening_turn w o) o c) ≡ perform (without_turn w) o c
opened-turned w o c n =
    let t = if is_some w.turn then w.turn else Some o in
    ap (λ u. turn_run None (perform u o c)) (opened-as w o)
    ∙ ap (turn_run None) (perform-turned t o (without_turn w) c n)
    ∙ sym (perform-turned None o (without_turn w) c n)
