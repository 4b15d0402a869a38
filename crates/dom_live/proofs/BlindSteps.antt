-- What a command does to parts and signalled slots does not hang on the tasks, nor on the open turn; so it keeps what is asked of live worlds.
use Rattle.dom_base.proofs.Std.{◌≡◌, Bool, true, false, not, List, [], ◌∷◌, fold, Option, Some, None, refl, sym, ap}
use Rattle.dom_base.proofs.Std.{◌∙◌, true≢false, subst, option_or, and-not_self, cond-false}
use Rattle.dom_model.proofs.Model.{Owner, Page, Component, NodeName, World, Task, part_of, Command, command, Effect, tables, changes, effect, effect_in}
use Rattle.dom_model.proofs.Model.{perform}
use Rattle.dom_model.proofs.Model.{refusal, step, world_step, world_after, stepped, with_signal, with_removal_signals, with_shadow_document, signals}
use Rattle.dom_model.proofs.Model.{components_below, max_depth, is_taken, with_notify_if}
use Rattle.dom_model.proofs.Model.{parent_of}
use Rattle.dom_model.proofs.Model.{Step, place, take_out, set_document, set_attribute, queue_record, Syntax, Busy, Foreign, Unknown, Refusal, first_refusal}
use Rattle.dom_model.proofs.Model.{is_command_of, names_foreign, is_there, part_refusal, owner_eq, owner_eq-same, ending_other_turn, quiet, Run}
use Rattle.dom_model.proofs.Model.{run_command, unless_refused, accepted, run_then}
use Rattle.dom_worlds.specs.Definitions.{IsWorld, Invariant, IsReached, IsWhole}
use Rattle.dom_worlds.proofs.CommandLemmas.{accepted-facts}
use Rattle.dom_worlds.proofs.WorldLemmas.{quiet-step, step-keeps_reached, step-keeps_whole}
use Rattle.dom_live.specs.Laws.{IsLiveWorld, IsLiveWhole}
use Rattle.dom_live.proofs.OtherLines.{is_still}
use Rattle.dom_live.proofs.Rested.{with_rest, below-rested}

-- the same parts and signalled slots
record AreSame (u v : World) : Type 0 where
  parts : u.parts ≡ v.parts
  signalled : u.signalled ≡ v.signalled

-- such a world differs in its tasks and its turn alone
rest-of : (u v : World) → AreSame u v → u ≡ with_rest v u.tasks u.turn
rest-of u v a = ap (λ ps. record u { parts = ps }) a.parts ∙ ap (λ xs. record u { parts = v.parts; signalled = xs }) a.signalled

-- signals
signals-same : (xs : List NodeName) (w : World) (ts : List Task) (t : Option Owner) → AreSame (fold with_signal (with_rest w ts t) xs) (fold with_signal w xs)
signals-same [] w ts t = record { parts = refl; signalled = refl }
signals-same (x ∷ xs) w ts t =
    signals-same xs (with_signal w x) (with_signal (with_rest w ts t) x).tasks t

-- node documents of shadow trees
documents-same : (d : NodeName) (cs : List Owner) (w : World) (ts : List Task) (t : Option Owner) →
    AreSame (fold (with_shadow_document d) (with_rest w ts t) cs) (fold (with_shadow_document d) w cs)
documents-same d [] w ts t = record { parts = refl; signalled = refl }
documents-same d (c ∷ cs) w ts t = documents-same d cs (with_shadow_document d w c) ts t

-- a step
step-same : (o : Owner) (w : World) (ts : List Task) (t : Option Owner) (s : Step) → AreSame (world_step o (with_rest w ts t) s) (world_step o w s)
step-same o w ts t (place x parent before) =
    signals-same (signals w (stepped o w (place x parent before)) x parent true) (stepped o w (place x parent before)) ts t
step-same o w ts t (take_out x) = from (parent_of (part_of w o).trees x)
  where
    from : (m : Option NodeName) → AreSame (with_removal_signals (with_rest w ts t) (with_rest (stepped o w (take_out x)) ts t) x m)
        (with_removal_signals w (stepped o w (take_out x)) x m)
    from None = record { parts = refl; signalled = refl }
    from (Some parent) = signals-same (signals w (stepped o w (take_out x)) x parent true) (stepped o w (take_out x)) ts t
step-same o w ts t (set_attribute x a v) =
    signals-same (signals w (stepped o w (set_attribute x a v)) x x false) (stepped o w (set_attribute x a v)) ts t
step-same o w ts t (set_document x d) =
    subst (λ (f : NodeName → List Owner). AreSame (fold (with_shadow_document d) (with_rest (stepped o w (set_document x d)) ts t) (f x))
    (world_step o w (set_document x d))) (sym (below-rested w ts t max_depth))
    (documents-same d (components_below max_depth w x) (stepped o w (set_document x d)) ts t)
step-same o w ts t (queue_record c) = from (is_taken (part_of w o) c)
  where
    from : (b : Bool) → AreSame (with_notify_if b o (with_rest (stepped o w (queue_record c)) ts t)) (with_notify_if b o (stepped o w (queue_record c)))
    from true = record { parts = refl; signalled = refl }
    from false = record { parts = refl; signalled = refl }
step-same o w ts t s = record { parts = refl; signalled = refl }

-- steps
steps-same : (o : Owner) (steps : List Step) (w : World) (ts : List Task) (t : Option Owner) →
    AreSame (world_after o (with_rest w ts t) steps) (world_after o w steps)
steps-same o [] w ts t = record { parts = refl; signalled = refl }
steps-same o (s ∷ steps) w ts t =
    let u = world_step o (with_rest w ts t) s in
    subst (λ v. AreSame (world_after o v steps) (world_after o (world_step o w s) steps)) (sym (rest-of u (world_step o w s) (step-same o w ts t s)))
    (steps-same o steps (world_step o w s) u.tasks u.turn)

-- effects
effect-same : (w : World) (ts : List Task) (t : Option Owner) (o : Owner) (e : Effect) → AreSame (effect_in (with_rest w ts t) o e).0 (effect_in w o e).0
effect-same w ts t o (tables p lines v) = record { parts = refl; signalled = refl }
effect-same w ts t o (changes steps v) = steps-same o steps w ts t

-- a command without an event
perform-same : (w : World) (ts : List Task) (t : Option Owner) (o : Owner) (c : Command) → is_still c ≡ true →
    AreSame (perform (with_rest w ts t) o c).0 (perform w o c).0
perform-same w ts t o (Command.attach a) q = record { parts = refl; signalled = refl }
perform-same w ts t o (Command.connected a) q = record { parts = refl; signalled = refl }
perform-same w ts t o (Command.assigned a) q = record { parts = refl; signalled = refl }
perform-same w ts t o (Command.dispatch a e r) q = absurd (true≢false (sym q))
perform-same w ts t o (Command.micro a) q = record { parts = refl; signalled = refl }
perform-same w ts t o Command.end_turn q = absurd (true≢false (sym q))
perform-same w ts t o c q = effect-same w ts t o (effect (part_of w o) c)

-- worlds of which one is such a live world
same-kept : (u v : World) → AreSame u v → IsWorld u → IsLiveWorld v
same-kept u v a i =
    let j : IsWorld (with_rest v u.tasks u.turn) = subst IsWorld (rest-of u v a) i in
    record {
      page = j.page;
      parts = j.parts;
      hosts = j.hosts;
      makers = j.makers;
      shadow_roots = j.shadow_roots;
      signalled = j.signalled;
      tasks = λ h. absurd (true≢false h);
    }

-- A command without an event keeps what is asked: it does in any turn what it does in its owner's.
module _ (w : World) (o : Owner) (c : Command) (i : IsLiveWorld w) (r : refusal w o c ≡ None) where
  -- the world without tasks in its turn
  abbrev lent : World
  lent = with_rest w [] (Some o)

  -- it is a world as it should be
  lent-world : Invariant false lent
  lent-world = record {
    world = record {
      page = i.page;
      parts = i.parts;
      hosts = i.hosts;
      makers = i.makers;
      shadow_roots = i.shadow_roots;
      signalled = i.signalled;
      tasks = λ h. refl;
    };
    logs = λ h. absurd (true≢false (sym h));
  }

  -- it is accepted there
  lent-refusal : refusal lent o c ≡ None
  lent-refusal =
      let why : Bool → Option Refusal = λ b. option_or
      (first_refusal ((not (is_command_of o c), Syntax) ∷ (b, Busy) ∷ (names_foreign c, Foreign) ∷ (not (is_there w o), Unknown) ∷ []))
      (part_refusal (part_of w o) c) in
      ap why (and-not_self (owner_eq o Page)) ∙ sym (ap why (accepted-facts w o c r).calm) ∙ r

  -- nothing is ended before it
  lent-ended : ending_other_turn lent o ≡ quiet lent
  lent-ended = from o
    where
      from : (o : Owner) → ending_other_turn (with_rest w [] (Some o)) o ≡ quiet (with_rest w [] (Some o))
      from Page = refl
      from (Component k) = cond-false (not (owner_eq (Component k) (Component k))) _ _ (ap not (owner_eq-same (Component k)))

  -- it is the command's own
  opened : (c : Command) → is_still c ≡ true → accepted lent o c ≡ perform lent o c
  opened (Command.dispatch a e r) q = absurd (true≢false (sym q))
  opened Command.end_turn q = absurd (true≢false (sym q))
  opened c q = refl

  -- the line does there what the command does
  lent-done : is_still c ≡ true → step lent (command o c) ≡ perform lent o c
  lent-done q =
      ap (λ r. run_then r (run_command o c)) lent-ended
      ∙ ap (λ m. unless_refused o m lent (accepted lent o c)) lent-refusal ∙ opened c q

  -- the law
  pub perform-kept : is_still c ≡ true → IsLiveWorld (perform w o c).0
  perform-kept q =
      same-kept (perform lent o c).0 (perform w o c).0 (perform-same w [] (Some o) o c q) (subst (λ (r : Run World). IsWorld r.0) (lent-done q)
      (quiet-step lent (command o c) lent-world (λ h. absurd (true≢false (sym h)))).world)

-- worlds of which one is such a whole one
same-whole : (u v : World) → AreSame u v → IsReached false u → IsWhole u → IsLiveWhole v
same-whole u v a r i =
    let x : IsReached false (with_rest v u.tasks u.turn) = subst (IsReached false) (rest-of u v a) r in
    let y : IsWhole (with_rest v u.tasks u.turn) = subst IsWhole (rest-of u v a) i in
    record {
      kinds = x.kinds;
      owners = record {
        first = x.owners.first;
        unmade = x.owners.unmade;
        made = x.owners.made;
        turn = tt;
        tasks = tt;
        signalled = x.owners.signalled;
      };
      whole = record { tables = y.tables; records = y.records; first = y.first; signalled = y.signalled };
    }

-- And so it is of what is asked beside it.
module _ (w : World) (o : Owner) (c : Command) (i : IsLiveWorld w) (k : IsLiveWhole w) (r : refusal w o c ≡ None) where
  -- the world without tasks in its turn is reached,
  lent-reached : IsReached false (lent w o c i r)
  lent-reached = record {
    world = (lent-world w o c i r).world;
    kinds = k.kinds;
    owners = record {
      first = k.owners.first;
      unmade = k.owners.unmade;
      made = k.owners.made;
      turn = ((accepted-facts w o c r).there, tt);
      tasks = tt;
      signalled = k.owners.signalled;
    };
    logs = λ h. absurd (true≢false (sym h));
  }

  -- and whole
  lent-whole : IsWhole (lent w o c i r)
  lent-whole = record { tables = k.whole.tables; records = k.whole.records; first = k.whole.first; signalled = k.whole.signalled }

  -- the law
  pub perform-whole : is_still c ≡ true → IsLiveWhole (perform w o c).0
  perform-whole q =
      let u = lent w o c i r in
      same-whole (perform u o c).0 (perform w o c).0 (perform-same w [] (Some o) o c q)
      (subst (λ (r : Run World). IsReached false r.0) (lent-done w o c i r q)
      (step-keeps_reached false u (command o c) lent-reached (λ h. absurd (true≢false (sym h)))))
      (subst (λ (r : Run World). IsWhole r.0) (lent-done w o c i r q) (step-keeps_whole false u (command o c) lent-reached lent-whole))
