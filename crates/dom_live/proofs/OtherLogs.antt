-- Where the listeners of owners outside a group only log, and a line of theirs adds none that does more, they only log afterwards.
use Rattle.dom_base.proofs.Std.{◌≡◌, ℕ, Bool, true, false, ⊤, not, [], ◌∷◌, ◌++◌, length, Option, Some, None, refl, sym, ap, ◌∙◌, true≢false}
use Rattle.dom_base.proofs.Std.{AllByRecursion, option_map_or, list_any}
use Rattle.dom_model.proofs.Model.{Owner, NodeName, World, Part, Task, part_of, with_part, Command, Effect, tables, changes, effect, effect_in, named, name_eq}
use Rattle.dom_model.proofs.Model.{Value, Walker, sets_walker, Step, part_step, take_out, leave, parent_of, ListenerWords, Action, Log, Stop, StopNow}
use Rattle.dom_model.proofs.Model.{Cancel, is_listener, perform, part_with_root, Shadow, component_made, node_in, owner-part_of}
use Rattle.dom_model.specs.Trace.{is_log}
use Rattle.dom_worlds.specs.Definitions.{OnlyLogs}
use Rattle.dom_worlds.proofs.ListLemmas.{either_way, all-append, all-filter, all-from}
use Rattle.dom_worlds.proofs.WorldLemmas.{HoldsIn, IsKeptIn, holds-with_part, holds-world_after}
use Rattle.dom_live.specs.Lines.{said, plain}
use Rattle.dom_live.specs.Honesty.{lets_alone}
use Rattle.dom_live.proofs.OtherLines.{is_still}

-- the listeners of all owners outside a group neither stop nor cancel
abbrev pub OthersOnlyLog : (Owner → Bool) → World → Type 0
OthersOnlyLog g w = (o : Owner) → g o ≡ false → AllByRecursion OnlyLogs (part_of w o).listeners

-- a listener that only logs
only-logs : (a : Action) (x : NodeName) (w : ListenerWords) → is_log a ≡ true → OnlyLogs (record { node = x; words = record w { action = a } })
only-logs Log x w h = refl
only-logs Stop x w h = absurd (true≢false (sym h))
only-logs StopNow x w h = absurd (true≢false (sym h))
only-logs Cancel x w h = absurd (true≢false (sym h))

module _ (g : Owner → Bool) where
  -- of a part
  abbrev Logs : Part → Type 0
  Logs p = g p.owner ≡ false → AllByRecursion OnlyLogs p.listeners

  -- a step
  logs-step : (p : Part) (s : Step) → Logs p → ⊤ → Logs (part_step p s)
  logs-step p (take_out x) h t = from (parent_of p.trees x)
    where
      from : (m : Option NodeName) → Logs (option_map_or (leave p x) m p)
      from None = h
      from (Some y) = h
  logs-step p s h t = h

  -- what is asked of steps
  logs-rules : IsKeptIn Logs (λ (s : Step). ⊤) (λ (t : Task). ⊤)
  logs-rules = record { step = logs-step; document = λ x d. tt; notify = λ o. tt }

  -- of a world
  holds : (w : World) → OthersOnlyLog g w → HoldsIn Logs (λ (t : Task). ⊤) w
  holds w h = record {
    parts = λ o k. h o (sym (ap g (owner-part_of w o)) ∙ k);
    tasks = all-from (λ (t : Task). ⊤) (λ t. tt) w.tasks;
  }

  -- and back
  logs-in : (w : World) → HoldsIn Logs (λ (t : Task). ⊤) w → OthersOnlyLog g w
  logs-in w h o k = h.parts o (ap g (owner-part_of w o) ∙ k)

  -- an effect leaves such a part, or makes steps
  abbrev LogsIn : Effect → Type 0
  LogsIn (tables q lines v) = Logs q
  LogsIn (changes steps v) = ⊤

  -- of a thing that may not be there
  logs-some : {X : Type 0} (o : Option X) (f : X → Effect) (d : Effect) → ((x : X) → LogsIn (f x)) → LogsIn d → LogsIn (option_map_or f o d)
  logs-some None f d h k = k
  logs-some (Some x) f d h k = h x

  -- Of a part whose listeners only log.
  module _ (p : Part) (i : Logs p) where
    -- a walker that is set
    logs-walker : (k : ℕ) (w : Walker) (o : Option NodeName) (v : Value) → LogsIn (sets_walker p k w o v)
    logs-walker k w None v = i
    logs-walker k w (Some x) v = i

    -- every effect
    logs-effect : (o : Owner) (c : Command) → p.owner ≡ o → (g o ≡ false → lets_alone (said o (plain c)) ≡ true) → LogsIn (effect p c)
    logs-effect o (Command.listen x w) e f = λ k.
        either_way (AllByRecursion OnlyLogs) (list_any (is_listener name_eq (named p x) w.event w.label w.capture) p.listeners) p.listeners
        (p.listeners ++ record { node = named p x; words = w } ∷ []) (i k)
        (all-append OnlyLogs p.listeners (record { node = named p x; words = w } ∷ []) (i k)
        (only-logs w.action (named p x) w (f (sym (ap g e) ∙ k)), tt))
    logs-effect o (Command.unlisten x event label capture) e f = λ k.
        all-filter OnlyLogs (λ l. not (is_listener name_eq (named p x) event label capture l)) p.listeners (i k)
    logs-effect o c e f = search (logs-some, logs-walker)

  -- in the world
  logs-effect_in : (w : World) (o : Owner) (e : Effect) → LogsIn e → OthersOnlyLog g w → OthersOnlyLog g (effect_in w o e).0
  logs-effect_in w o (tables q lines v) k h = logs-in (with_part w q) (holds-with_part logs-rules w q (holds w h) k)
  logs-effect_in w o (changes steps v) k h =
      logs-in (effect_in w o (changes steps v)).0
      (holds-world_after logs-rules o steps w (holds w h) (all-from (λ (s : Step). ⊤) (λ s. tt) steps))

  -- a command without an event
  pub logs-perform : (w : World) (o : Owner) (c : Command) → OthersOnlyLog g w → (g o ≡ false → lets_alone (said o (plain c)) ≡ true) →
      is_still c ≡ true → OthersOnlyLog g (perform w o c).0
  logs-perform w o (Command.attach x) h f q =
      let p = part_of w o in
      let marked = with_part w (record p { attached = p.attached ++ named p x ∷ [] }) in
      let root = part_with_root (component_made o (length p.attached)) Shadow (node_in p.trees (named p x)).document in
      logs-in (with_part marked root)
      (holds-with_part logs-rules marked root (holds-with_part logs-rules w (record p { attached = p.attached ++ named p x ∷ [] }) (holds w h)
      ((holds w h).parts o)) (λ k. tt))
  logs-perform w o (Command.connected x) h f q = h
  logs-perform w o (Command.assigned x) h f q = h
  logs-perform w o (Command.dispatch x e r) h f q = absurd (true≢false (sym q))
  logs-perform w o (Command.micro label) h f q = h
  logs-perform w o Command.end_turn h f q = absurd (true≢false (sym q))
  logs-perform w o c h f q =
      let p = part_of w o in
      logs-effect_in w o (effect p c) (logs-effect p ((holds w h).parts o) o c (owner-part_of w o) f) h
