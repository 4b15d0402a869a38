-- In each world that the document machine reaches no observer is pending twice.
use Rattle.dom_base.proofs.Std.{◌≡◌, ℕ, nat_eq, Bool, true, false, ◌||◌, List, [], ◌∷◌, ◌++◌, fold, filter, Option, Some, None, refl, sym, ap, ◌∙◌, true≢false}
use Rattle.dom_base.proofs.Std.{subst, ⊤, option_map_or, list_any-append, eqb-true, eq-eqb, is_some, length, option_map}
use Rattle.dom_model.proofs.Model.{Owner, Page, Component, NodeName, World, Part, Task, micro_task, notify_task, part_of, with_part, Command, Line, no_owner}
use Rattle.dom_model.proofs.Model.{no_command, command, Effect, tables, changes, effect, effect_in, named, name_eq, Value, Walker, sets_walker, Step, part_step}
use Rattle.dom_model.proofs.Model.{take_out, queue_record, leave, parent_of, append_once, is_in, interested_in, dispatch_in, visits_of, views, EventWords}
use Rattle.dom_model.proofs.Model.{begun, notified, without_signals, is_owned_by, firing_slotchange, slotchange, running_task, run_each}
use Rattle.dom_model.proofs.Model.{ending_turn, Run, quiet}
use Rattle.dom_model.proofs.Model.{has_other_turn, ending_other_turn, opening_turn, perform, accepted, refusal, Refusal, unless_refused, step}
use Rattle.dom_model.proofs.Model.{first_world, part_with_root, Shadow, component_made, node_in}
use Rattle.dom_worlds.proofs.ListLemmas.{by_cases, which_way, either_way, all-from}
use Rattle.dom_worlds.proofs.TurnLemmas.{part_of-visits, told_in, at_end}
use Rattle.dom_worlds.proofs.WorldLemmas.{HoldsIn, IsKeptIn, holds-with_part, holds-world_after}

-- no number is twice in a list
abbrev pub IsOnce : List ℕ → Type 0
IsOnce [] = ⊤
IsOnce (k ∷ ks) = (is_in nat_eq k ks ≡ false) × IsOnce ks

-- no observer of an owner is pending twice
abbrev pub IsTidy : World → Type 0
IsTidy w = (o : Owner) → IsOnce (part_of w o).pending

-- one more, that is not there
once-more : (ks : List ℕ) (j : ℕ) → is_in nat_eq j ks ≡ false → IsOnce ks → IsOnce (ks ++ j ∷ [])
once-more [] j h g = (refl, tt)
once-more (k ∷ ks) j h g = (
  list_any-append (nat_eq k) ks (j ∷ []) ∙ ap (λ b. b || (nat_eq k j || false)) g.0
      ∙ by_cases (nat_eq k j) (λ e. absurd (true≢false (sym (ap (λ b. b || is_in nat_eq j ks) (eq-eqb j k (sym (eqb-true k j e)))) ∙ h)))
      (λ e. ap (λ b. b || false) e),
  once-more ks j (later (nat_eq j k) h) g.1,
)
  where
    later : (b : Bool) → (b || is_in nat_eq j ks) ≡ false → is_in nat_eq j ks ≡ false
    later true h = absurd (true≢false h)
    later false h = h

-- more of them, each once
once-all : (new old : List ℕ) → IsOnce old → IsOnce (fold (append_once nat_eq) old new)
once-all [] old h = h
once-all (k ∷ new) old h =
    once-all new (append_once nat_eq old k) (which_way IsOnce (is_in nat_eq k old) old (old ++ k ∷ []) (λ e. h) (λ e. once-more old k e h))

-- a step
once-step : (p : Part) (s : Step) → IsOnce p.pending → ⊤ → IsOnce (part_step p s).pending
once-step p (queue_record c) h t = once-all (interested_in p c) p.pending h
once-step p (take_out x) h t = from (parent_of p.trees x)
  where
    from : (m : Option NodeName) → IsOnce (option_map_or (leave p x) m p).pending
    from None = h
    from (Some y) = h
once-step p s h t = h

-- what is asked of steps
once-rules : IsKeptIn (λ (p : Part). IsOnce p.pending) (λ (s : Step). ⊤) (λ (t : Task). ⊤)
once-rules = record { step = once-step; document = λ x d. tt; notify = λ o. tt }

-- of a world
holds : (w : World) → IsTidy w → HoldsIn (λ (p : Part). IsOnce p.pending) (λ (t : Task). ⊤) w
holds w y = record { parts = y; tasks = all-from (λ (t : Task). ⊤) (λ t. tt) w.tasks }

-- another part
tidy-with_part : (w : World) (p : Part) → IsTidy w → IsOnce p.pending → IsTidy (with_part w p)
tidy-with_part w p y h = (holds-with_part once-rules w p (holds w y) h).parts

-- an effect leaves its owner's pending observers, or makes steps
abbrev KeepsPending : Part → Effect → Type 0
KeepsPending p (tables q lines v) = q.pending ≡ p.pending
KeepsPending p (changes steps v) = ⊤

-- of a thing that may not be there
keeps-some : {X : Type 0} (p : Part) (o : Option X) (f : X → Effect) (d : Effect) → ((x : X) → KeepsPending p (f x)) → KeepsPending p d →
    KeepsPending p (option_map_or f o d)
keeps-some p None f d h g = g
keeps-some p (Some x) f d h g = h x

-- a walker that is set
keeps-walker : (p : Part) (k : ℕ) (w : Walker) (o : Option NodeName) (v : Value) → KeepsPending p (sets_walker p k w o v)
keeps-walker p k w None v = refl
keeps-walker p k w (Some x) v = refl

-- every effect
keeps-effect : (p : Part) (c : Command) → KeepsPending p (effect p c)
keeps-effect p (Command.take k) = refl
keeps-effect p c = search (keeps-some, keeps-walker)

-- in the world
tidy-effect : (w : World) (o : Owner) (e : Effect) → KeepsPending (part_of w o) e → IsTidy w → IsTidy (effect_in w o e).0
tidy-effect w o (tables q lines v) k y = tidy-with_part w q y (subst IsOnce (sym k) (y o))
tidy-effect w o (changes steps v) k y = (holds-world_after once-rules o steps w (holds w y) (all-from (λ (s : Step). ⊤) (λ s. tt) steps)).parts

-- a dispatch
tidy-dispatch : (w : World) (x : NodeName) (r : Option NodeName) (e : EventWords) → IsTidy w → IsTidy (dispatch_in w x r e).run.0
tidy-dispatch w x r e y o =
    subst IsOnce (sym (ap (λ (p : Part). p.pending) (part_of-visits e (visits_of name_eq e.bubbles (views w x r e.composed)) (w, begun []) o))) (y o)

-- `slotchange` at slots
tidy-fired : (xs : List NodeName) (w : World) → IsTidy w → IsTidy (run_each firing_slotchange w xs).0
tidy-fired [] w y = y
tidy-fired (x ∷ xs) w y = tidy-fired xs (firing_slotchange w x).0 (tidy-dispatch w x None slotchange y)

-- a task
pub tidy-running : (w : World) (t : Task) → IsTidy w → IsTidy (running_task w t).0
tidy-running w (micro_task o label) y = y
tidy-running w (notify_task o) y =
    tidy-fired (filter (is_owned_by o) w.signalled) (told_in w o) (tidy-with_part (without_signals w o) (notified (part_of w o)) y tt)

-- tasks
tidy-tasks : (ts : List Task) (w : World) → IsTidy w → IsTidy (run_each running_task w ts).0
tidy-tasks [] w y = y
tidy-tasks (t ∷ ts) w y = tidy-tasks ts (running_task w t).0 (tidy-running w t y)

-- the ending of a turn
tidy-ending : (w : World) → IsTidy w → IsTidy (ending_turn w).0
tidy-ending w y = tidy-tasks w.tasks (at_end w) y

-- of another's
pub tidy-ending_other : (w : World) (o : Owner) → IsTidy w → IsTidy (ending_other_turn w o).0
tidy-ending_other w o y = either_way (λ (r : Run World). IsTidy r.0) (has_other_turn w o) (ending_turn w) (quiet w) (tidy-ending w y) y

-- a command
tidy-perform : (w : World) (o : Owner) (c : Command) → IsTidy w → IsTidy (perform w o c).0
tidy-perform w o (Command.attach x) y =
    let p = part_of w o in
    let q : Part = record p { attached = p.attached ++ named p x ∷ [] } in
    tidy-with_part (with_part w q) (part_with_root (component_made o (length p.attached)) Shadow (node_in p.trees (named p x)).document)
    (tidy-with_part w q y (y o)) tt
tidy-perform w o (Command.connected x) y = y
tidy-perform w o (Command.assigned x) y = y
tidy-perform w o (Command.dispatch x e r) y = tidy-dispatch w (named (part_of w o) x) (option_map (named (part_of w o)) r) e y
tidy-perform w o (Command.micro label) y = y
tidy-perform w o Command.end_turn y = tidy-ending w y
tidy-perform w o c y = tidy-effect w o (effect (part_of w o) c) (keeps-effect (part_of w o) c) y

-- with the turn that it opens
tidy-accepted : (w : World) (o : Owner) (c : Command) → IsTidy w → IsTidy (accepted w o c).0
tidy-accepted w o Command.end_turn y = tidy-perform w o Command.end_turn y
tidy-accepted w o c y = tidy-perform (opening_turn w o) o c (either_way IsTidy (is_some w.turn) w (record w { turn = Some o }) y y)

-- a line
pub tidy-line : (w : World) (l : Line) → IsTidy w → IsTidy (step w l).0
tidy-line w no_owner y = y
tidy-line w (no_command o) y = tidy-ending_other w o y
tidy-line w (command o c) y = from (refusal (ending_other_turn w o).0 o c)
  where
    ended : World
    ended = (ending_other_turn w o).0

    from : (r : Option Refusal) → IsTidy (unless_refused o r ended (accepted ended o c)).0
    from (Some r) = tidy-ending_other w o y
    from None = tidy-accepted ended o c (tidy-ending_other w o y)

-- at first
pub tidy-first : IsTidy first_world
tidy-first Page = tt
tidy-first (Component k) = tt
