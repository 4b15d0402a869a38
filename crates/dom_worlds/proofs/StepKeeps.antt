-- The first world, attaching, and each line keep what holds of the worlds.
use Rattle.dom_base.proofs.Std.{◌≡◌, ◌≢◌, ℕ, zero, suc, ◌≤◌, ◌<◌, Bool, true, false, ◌||◌, List, [], ◌∷◌, ◌++◌, length, Option, Some, None, refl, sym, ap, ◌∙◌}
use Rattle.dom_base.proofs.Std.{arith, true≢false, subst, not, ◌&&◌, filter, append-nil, IsTrue, is_some, slice_get, is_none, AllByRecursion, option_and_then}
use Rattle.dom_base.proofs.Std.{cond-false, not-false, filter-append, and-true}
use Rattle.dom_model.proofs.Model.{Owner, Page, Component, NodeName, Kind, Document, Shadow, owner_eq, name_eq, node_of, Word, none, tree, node_in}
use Rattle.dom_model.proofs.Model.{times_in, Part, empty_part, World, part_of, with_part, is_there, host_of, component_made, MayAttach, shadow_root_of}
use Rattle.dom_model.proofs.Model.{micro_task, first_world, new_root, part_with_root, attaching, refusal, effect_in, step, owner_eq-true}
use Rattle.dom_model.proofs.Model.{owner_eq-false, name_eq-same, made_by-is, component_made-other, name_eq-true, ne-owner_eq, part_of-with_part}
use Rattle.dom_model.proofs.Model.{part_of-with_part-other, owner-part_of, Action, Log, Command, Line, no_owner, no_command, command, effect, named}
use Rattle.dom_model.proofs.Model.{Effect, tables, changes, ending_other_turn, is_page_turn, is_page, is_log, may_stop, line_may_stop, is_page_task}
use Rattle.dom_worlds.specs.Definitions.{Invariant, IsPart, IsRoot, IsOf, OnlyLogs, ComponentsOnlyLog}
use Rattle.dom_worlds.proofs.Lists.{all-append, by_cases, by_some_is}
use Rattle.dom_worlds.proofs.Owners.{hosted, owner-named}
use Rattle.dom_laws.proofs.Laws.{times-here, times-elsewhere}
use Rattle.dom_worlds.proofs.Turns.{there-with_part, part-alike, world-alike, quiet-at_end, quiet-dispatch, quiet-ending_turn, quiet-told, quiet-opening}
use Rattle.dom_worlds.proofs.Effects.{KeepsBase, base-effect, AddsLogs, KeepsLogs, logs-effect, part-accepted, attach-may}
use Rattle.dom_worlds.proofs.ShadowRoots.{SafeEffect, safe-effect}
use Rattle.dom_worlds.proofs.WorldSteps.{world-with_part, own-part, InTurn, quiet-world_after}
use Rattle.dom_worlds.proofs.Invariants.{Any, kept-step, Keeps, OkLine}

-- A part with a root alone.
part-root : (o : Owner) (k : Kind) (d : Option NodeName) → IsPart (part_with_root o k d)
part-root o k d =
    let n = new_root (node_of o 0) k d in
    let is : (x : NodeName) → 1 ≤ times_in (tree n none none) x → n.name ≡ x =
    λ x h. by_cases (name_eq n.name x) (λ e. name_eq-true n.name x e) (λ e. absurd (let g = times-elsewhere n none none x e in omega arith)) in
    record {
      unique = λ x. by_cases (name_eq n.name x) (λ e. let g = times-here n none none x e in omega arith)
          (λ e. let g = times-elsewhere n none none x e in omega arith);
      owned = λ x h. ap (λ (y : NodeName). y.owner) (sym (is x h));
      numbered = λ x h. let same : 0 ≡ x.number = ap (λ (y : NodeName). y.number) (is x h) in omega arith;
    }

-- a part without nodes
part-empty : (o : Owner) → IsPart (empty_part o)
part-empty o = record { unique = λ x. omega arith; owned = λ x h. absurd (omega arith); numbered = λ x h. absurd (omega arith) }

-- The first world.
first-parts : (o : Owner) → IsPart (part_of first_world o)
first-parts Page = part-root Page Document None
first-parts (Component k) = part-empty (Component k)

-- nobody has hosts
first-no_hosts : (o : Owner) → (part_of first_world o).attached ≡ []
first-no_hosts Page = refl
first-no_hosts (Component k) = refl

-- so no component is attached
first-roots : (o : Owner) → IsTrue (is_some (host_of first_world o)) → IsRoot (part_of first_world o).trees (shadow_root_of o)
first-roots o h =
    by_some_is (λ (m : Option NodeName). is_some m ≡ true → IsRoot (part_of first_world o).trees (shadow_root_of o)) (host_of first_world o)
    (λ e g. absurd (true≢false (sym g)))
    (λ x e g. let k = hosted first_world o x e in
    let none_at : slice_get (part_of first_world k.maker).attached k.number ≡ None = ap (λ hs. slice_get hs k.number) (first-no_hosts k.maker) in
    let both : None ≡ Some x = sym none_at ∙ k.found in
    cc) h

-- no listener is there
first-logs : (o : Owner) → o ≢ Page → AllByRecursion OnlyLogs (part_of first_world o).listeners
first-logs Page f = absurd (f refl)
first-logs (Component k) f = tt

module _ {only_log : Bool} where
  -- the first world is as it should be
  pub quiet-first : Invariant only_log first_world
  quiet-first =
      record {
        world = record {
          page = refl;
          parts = first-parts;
          hosts = λ o. subst (AllByRecursion (IsOf o)) (sym (first-no_hosts o)) tt;
          makers = λ o h. let none_at = ap length (first-no_hosts o) in absurd (omega (arith, h, none_at));
          shadow_roots = first-roots;
          signalled = tt;
          tasks = λ h. refl;
        };
        logs = λ y. first-logs;
      }

-- Attaching.
get-push : {P : Type 0} (xs : List NodeName) (x : NodeName) (k : ℕ) → is_some (slice_get (xs ++ x ∷ []) k) ≡ true → (k ≡ length xs → P) →
    (is_some (slice_get xs k) ≡ true → P) → P
get-push [] x zero h f g = f refl
get-push [] x (suc k) h f g = absurd (true≢false (sym h))
get-push (y ∷ xs) x zero h f g = g refl
get-push (y ∷ xs) x (suc k) h f g = get-push xs x k h (λ e. f (ap suc e)) g

-- what holds of one owner, of another one and of all others
pub record HoldsOfTwo (P : Owner → Type 0) (o c : Owner) : Type 0 where
  pub first : P o
  pub second : P c
  pub others : (a : Owner) → a ≢ o → c ≢ a → P a

-- by whether an owner is the one or the other of two, or a third
pub by_owner : (P : Owner → Type 0) (o c : Owner) → HoldsOfTwo P o c → (a : Owner) → P a
by_owner P o c h a =
    by_cases (owner_eq o a) (λ e. subst P (owner_eq-true o a e) h.first)
    (λ e. by_cases (owner_eq c a) (λ k. subst P (owner_eq-true c a k) h.second) (λ k. h.others a (λ s. owner_eq-false o a e (sym s)) (owner_eq-false c a k)))

-- a new shadow root
root-new : (o : Owner) (d : Option NodeName) → IsRoot (part_with_root o Shadow d).trees (shadow_root_of o)
root-new o d = record { alone = ap (λ b. b || false) (name_eq-same (node_of o 0)); shadow = ((λ e. refl), tt, tt) }

module _ (w : World) (o : Owner) (x : NodeName) (may : MayAttach o) where
  -- its maker's part has one host more,
  pub attached-maker : part_of (attaching w o x).0 o ≡ record (part_of w o) { attached = (part_of w o).attached ++ x ∷ [] }
  attached-maker =
      let p = part_of w o in
      let more : Part = record p { attached = p.attached ++ x ∷ [] } in
      let c = component_made o (length p.attached) in
      part_of-with_part-other (with_part w more) (part_with_root c Shadow (node_in p.trees x).document) o (component_made-other o (length p.attached))
      ∙ part_of-with_part w more o (owner-part_of w o)

  -- the component has its shadow root,
  pub attached-new : part_of (attaching w o x).0 (component_made o (length (part_of w o).attached))
      ≡ part_with_root (component_made o (length (part_of w o).attached)) Shadow (node_in (part_of w o).trees x).document
  attached-new =
      let p = part_of w o in
      let c = component_made o (length p.attached) in
      part_of-with_part (with_part w (record p { attached = p.attached ++ x ∷ [] })) (part_with_root c Shadow (node_in p.trees x).document) c refl

  -- and nothing happens to others
  pub attached-other : (a : Owner) → a ≢ o → component_made o (length (part_of w o).attached) ≢ a → part_of (attaching w o x).0 a ≡ part_of w a
  attached-other a f g =
      let p = part_of w o in
      let more : Part = record p { attached = p.attached ++ x ∷ [] } in
      part_of-with_part-other (with_part w more) (part_with_root (component_made o (length p.attached)) Shadow (node_in p.trees x).document) a g
      ∙ part_of-with_part-other w more a (λ e. f (sym (sym (owner-part_of w o) ∙ e)))

  -- who is there stays there
  pub attached-there : (a : Owner) → is_there w a ≡ true → is_there (attaching w o x).0 a ≡ true
  attached-there a h =
      let p = part_of w o in
      let more : Part = record p { attached = p.attached ++ x ∷ [] } in
      there-with_part (with_part w more) (part_with_root (component_made o (length p.attached)) Shadow (node_in p.trees x).document) a
      (there-with_part w more a h)

  -- who is hosted then, and is not new, was so before
  host-older : (a : Owner) → component_made o (length (part_of w o).attached) ≢ a → IsTrue (is_some (host_of (attaching w o x).0 a)) →
      IsTrue (is_some (host_of w a))
  host-older a g h =
      by_some_is (λ (m : Option NodeName). is_some m ≡ true → is_some (host_of w a) ≡ true) (host_of (attaching w o x).0 a)
      (λ e t. absurd (true≢false (sym t)))
      (λ y e t. let k = hosted (attaching w o x).0 a y e in
      let c = component_made o (length (part_of w o).attached) in
      let got : is_some (slice_get (part_of (attaching w o x).0 k.maker).attached k.number) ≡ true = ap is_some k.found in
      let was : is_some (slice_get (part_of w k.maker).attached k.number) ≡ true =
      by_owner (λ m. k.maker ≡ m → is_some (slice_get (part_of w m).attached k.number) ≡ true) o c (record {
        first = λ s. get-push (part_of w o).attached x k.number (subst (λ (hs : List NodeName). is_some (slice_get hs k.number) ≡ true)
            (ap (λ m. (part_of (attaching w o x).0 m).attached) s ∙ ap (λ (q : Part). q.attached) attached-maker) got)
            (λ last. absurd (g (ap (component_made o) (sym last) ∙ ap (λ m. component_made m k.number) (sym s) ∙ made_by-is a k.maker k.number k.named)))
            (λ r. r);
        second = λ s. absurd (true≢false (sym got ∙ ap (λ (hs : List NodeName). is_some (slice_get hs k.number))
            (ap (λ m. (part_of (attaching w o x).0 m).attached) s ∙ ap (λ (q : Part). q.attached) attached-new)));
        others = λ m f n s. sym (ap (λ (q : Part). is_some (slice_get q.attached k.number))
            (ap (part_of (attaching w o x).0) s ∙ attached-other m f n)) ∙ got;
      })
      k.maker refl in
      ap is_some (ap (option_and_then (λ (m : Owner × ℕ). slice_get (part_of w m.0).attached m.1)) k.named) ∙ was) h

module _ {only_log : Bool} where
  -- attaching keeps what holds
  pub quiet-attaching : (w : World) (o : Owner) (x : NodeName) → MayAttach o → x.owner ≡ o → Invariant only_log w → Invariant only_log (attaching w o x).0
  quiet-attaching w o x may h q =
      let p = part_of w o in
      let i = q.world in
      let c = component_made o (length p.attached) in
      let d = (node_in p.trees x).document in
      let v = (attaching w o x).0 in
      let mine = attached-maker w o x may in
      let new = attached-new w o x may in
      let other = attached-other w o x may in
      let older = host-older w o x may in
      record {
        world = record {
          page = attached-there w o x may Page i.page;
          parts = by_owner (λ a. IsPart (part_of v a)) o c (record {
            first = subst IsPart (sym mine) (record { unique = (i.parts o).unique; owned = (i.parts o).owned; numbered = (i.parts o).numbered });
            second = subst IsPart (sym new) (part-root c Shadow d);
            others = λ a f g. subst IsPart (sym (other a f g)) (i.parts a);
          });
          hosts = by_owner (λ a. AllByRecursion (IsOf a) (part_of v a).attached) o c (record {
            first = subst (λ (q : Part). AllByRecursion (IsOf o) q.attached) (sym mine) (all-append (IsOf o) p.attached (x ∷ []) (i.hosts o) (h, tt));
            second = subst (λ (q : Part). AllByRecursion (IsOf c) q.attached) (sym new) tt;
            others = λ a f g. subst (λ (q : Part). AllByRecursion (IsOf a) q.attached) (sym (other a f g)) (i.hosts a);
          });
          makers = by_owner (λ a. 0 < length (part_of v a).attached → MayAttach a) o c (record {
            first = λ e. may;
            second = λ e. let none_at = ap (λ (q : Part). length q.attached) new in absurd (omega (arith, e, none_at));
            others = λ a f g e. i.makers a (subst (λ (q : Part). 0 < length q.attached) (other a f g) e);
          });
          shadow_roots = by_owner (λ a. IsTrue (is_some (host_of v a)) → IsRoot (part_of v a).trees (shadow_root_of a)) o c (record {
            first = λ e. subst (λ (q : Part). IsRoot q.trees (shadow_root_of o)) (sym mine)
                (i.shadow_roots o (older o (component_made-other o (length p.attached)) e));
            second = λ e. subst (λ (q : Part). IsRoot q.trees (shadow_root_of c)) (sym new) (root-new c d);
            others = λ a f g e. subst (λ (q : Part). IsRoot q.trees (shadow_root_of a)) (sym (other a f g)) (i.shadow_roots a (older a g e));
          });
          signalled = i.signalled;
          tasks = i.tasks;
        };
        logs = λ y. by_owner (λ a. a ≢ Page → AllByRecursion OnlyLogs (part_of v a).listeners) o c (record {
          first = λ f. subst (λ (q : Part). AllByRecursion OnlyLogs q.listeners) (sym mine) (q.logs y o f);
          second = λ f. subst (λ (q : Part). AllByRecursion OnlyLogs q.listeners) (sym new) tt;
          others = λ a f g n. subst (λ (q : Part). AllByRecursion OnlyLogs q.listeners) (sym (other a f g)) (q.logs y a n);
        });
      }

-- What is asked of a command: where components are to log alone, no `listen` of theirs that does more.
abbrev pub OkFor : Bool → Owner → Command → Type 0
OkFor only_log o c = only_log ≡ true → o ≢ Page → AddsLogs c

-- Effects.
logs-with_part : (w : World) (p : Part) (o : Owner) → p.owner ≡ o → (o ≢ Page → AllByRecursion OnlyLogs p.listeners) → ComponentsOnlyLog w →
    ComponentsOnlyLog (with_part w p)
logs-with_part w p o e h logs x f =
    by_cases (owner_eq o x)
    (λ g. let same = owner_eq-true o x g in subst (λ (q : Part). AllByRecursion OnlyLogs q.listeners) (sym (part_of-with_part w p x (e ∙ same)))
    (h (λ s. f (sym same ∙ s))))
    (λ g. subst (λ (q : Part). AllByRecursion OnlyLogs q.listeners) (sym (part_of-with_part-other w p x (λ s. owner_eq-false o x g (sym e ∙ s)))) (logs x f))

module _ {only_log : Bool} where
  -- an effect keeps what holds
  quiet-effect : {w : World} {o : Owner} (e : Effect) → InTurn w o → KeepsBase (part_of w o) e →
      (only_log ≡ true → o ≢ Page → KeepsLogs (part_of w o) e) → (IsTrue (is_some (host_of w o)) → SafeEffect (shadow_root_of o) e) →
      Invariant only_log w → Invariant only_log (effect_in w o e).0
  quiet-effect {w} {o} (tables p lines v) t base logs safe q =
      let mine = base.0 ∙ owner-part_of w o in
      record {
        world = world-with_part w p o mine (part-alike p (part_of w o) base.0 base.1 (q.world.parts o)) base.1.attached
            (λ h. subst (λ ts. IsRoot ts (shadow_root_of o)) (sym base.1.trees) (q.world.shadow_roots o h)) q.world;
        logs = λ y. logs-with_part w p o mine (λ f. logs y f (q.logs y o f)) (q.logs y);
      }
  quiet-effect {w} {o} (changes steps v) t base logs safe q = quiet-world_after o steps w t safe q

  -- a microtask, in its owner's turn
  quiet-micro : (w : World) (o : Owner) (label : Word) → InTurn w o → Invariant only_log w →
      Invariant only_log (record w { tasks = w.tasks ++ micro_task o label ∷ [] })
  quiet-micro w o label t q =
      record {
        world = world-alike (record w { tasks = w.tasks ++ micro_task o label ∷ [] })
            (λ x. record { trees = refl; count = refl; attached = refl }) (λ h. h) q.world.signalled (tasks o t q.world.tasks) q.world;
        logs = q.logs;
      }
    where
      tasks : (o : Owner) → InTurn w o → (is_page_turn w.turn ≡ false → filter is_page_task w.tasks ≡ []) → is_page_turn w.turn ≡ false →
          filter is_page_task (w.tasks ++ micro_task o label ∷ []) ≡ []
      tasks Page t before h = absurd (true≢false (sym (t refl) ∙ h))
      tasks (Component k) t before h = filter-append is_page_task w.tasks (micro_task (Component k) label ∷ []) ∙
          append-nil (filter is_page_task w.tasks) ∙ before h

  -- what lines consist of keeps it
  pub quiet-keeps : Keeps (OkFor only_log) Any (Invariant only_log)
  quiet-keeps =
      record {
        turns = record {
          dispatch = λ w x related e c q. quiet-dispatch w x related e q;
          at_end = λ w c q. quiet-at_end w q;
          told = λ w o t c q. quiet-told w o q;
        };
        turned = λ w o e t c q. subst (Invariant only_log) (cond-false (is_some w.turn) w (record w { turn = Some o }) e) (quiet-opening w q o);
        attach = λ w o x m c q. quiet-attaching w o (named (part_of w o) x) (attach-may w o x m.part)
            (owner-named (part_of w o) x ∙ owner-part_of w o) q;
        micro = λ w o label m c q. quiet-micro w o label m.turn q;
        effect = λ w o c m k q. let p = part_of w o in
            quiet-effect (effect p c) m.turn (base-effect p c) (λ y f. logs-effect p c (m.ok y f))
            (λ h. safe-effect (shadow_root_of o) p (own-part w q.world o h) c (part-accepted p c m.part).own) q;
      }

-- A `listen` that may not stop only logs.
only-log : (a : Action) → is_log a ≡ true → a ≡ Log
only-log Log h = refl
only-log a h = absurd (true≢false (sym h))

-- an accepted command of a component that may not stop
adds-logs : (w : World) (o : Owner) (c : Command) → may_stop w o c ≡ false → refusal w o c ≡ None → o ≢ Page → AddsLogs c
adds-logs w o (Command.listen a b) h e f =
    let lines = is_page o || is_log b.action in
    let accepted_one : (not lines && true) ≡ false = ap (λ r. not lines && is_none r) (sym e) ∙ h in
    let logs = not-false lines (sym (and-true (not lines)) ∙ accepted_one) in
    only-log b.action (ap (λ p. p || is_log b.action) (sym (ne-owner_eq o Page f)) ∙ logs)
adds-logs w o c h e f = tt

-- a line of which nothing is asked
pub any-line : (w : World) (l : Line) → OkLine (OkFor false) w l
any-line w no_owner = tt
any-line w (no_command o) = tt
any-line w (command o c) = λ e y. absurd (true≢false (sym y))

module _ {only_log : Bool} where
  -- a line that may not stop
  pub logs-line : (w : World) (l : Line) → (only_log ≡ true → line_may_stop w l ≡ false) → OkLine (OkFor only_log) w l
  logs-line w no_owner h = tt
  logs-line w (no_command o) h = tt
  logs-line w (command o c) h = λ e y. adds-logs (ending_other_turn w o).0 o c (h y) e

  -- a line keeps what holds
  pub quiet-step : (w : World) (l : Line) → Invariant only_log w → (only_log ≡ true → line_may_stop w l ≡ false) → Invariant only_log (step w l).0
  quiet-step w l q h = kept-step quiet-keeps quiet-ending_turn w l (logs-line w l h) q
