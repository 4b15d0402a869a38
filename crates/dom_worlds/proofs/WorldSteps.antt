-- Steps in the world: they keep what holds of it, and of each of its parts and tasks.
use Rattle.dom_base.proofs.Std.{Bool, true, false, List, [], ◌∷◌, ◌++◌, fold, Option, sym, subst, ◌≡◌, filter, refl, ap, ◌∙◌, true≢false, AllByRecursion}
use Rattle.dom_base.proofs.Std.{list_any, cond-true, cond-false, IsTrue, is_some}
use Rattle.dom_model.proofs.Model.{Owner, NodeName, owner_eq, max_depth, name_eq, is_in, parent_of, Part, signals, with_signal, Step, place, take_out}
use Rattle.dom_model.proofs.Model.{set_document, set_attribute, queue_record, part_step, is_taken, World, Task, notify_task, part_of, with_part, is_notify_of}
use Rattle.dom_model.proofs.Model.{with_notify, components_below, shadow_root_of, host_of, queued_notify, world_step, world_after, stepped}
use Rattle.dom_model.proofs.Model.{with_removal_signals, with_notify_if, with_shadow_document, with_signals, owner_eq-true, owner_eq-false, part_of-with_part}
use Rattle.dom_model.proofs.Model.{part_of-with_part-other, owner-part_of, Page, Component, is_page_turn, is_page_task, owner-part_step, Component-IsNoPage}
use Rattle.dom_worlds.proofs.Lists.{all-append, by_cases, either_way, kept-fold, by_some}
use Rattle.dom_worlds.specs.Definitions.{Invariant, IsPart, IsRoot, IsWorld, IsOf, IsForeignTo}
use Rattle.dom_worlds.proofs.Owners.{makers-same}
use Rattle.dom_worlds.proofs.Turns.{host_of-same, world-alike, there-with_part, logs-same, listeners-with_part}
use Rattle.dom_worlds.proofs.ShadowTrees.{signals-foreign, page_tasks-queued_other}
use Rattle.dom_worlds.proofs.PartSteps.{Allowed, Safe, IsOwn, part-step, own-step, rest-step}

-- What has to hold after a step of an owner's part, so that it holds after all that the step does in the world.
pub record KeepsStep (P : World → Type 0) (o : Owner) (w : World) (s : Step) : Type 0 where
  pub own : P (stepped o w s)
  pub signals : (x around : NodeName) (is_move : Bool) → P (with_signals w (stepped o w s) x around is_move)
  pub documents : (x d : NodeName) → P (fold (with_shadow_document d) (stepped o w s) (components_below max_depth w x))
  pub notify : P (with_notify (stepped o w s) o)

-- so it does
pub kept-world_step : (P : World → Type 0) (o : Owner) (w : World) (s : Step) → KeepsStep P o w s → P (world_step o w s)
kept-world_step P o w (place x parent before) k = k.signals x parent true
kept-world_step P o w (take_out x) k =
    by_some (λ (a : Option NodeName). P (with_removal_signals w (stepped o w (take_out x)) x a)) (parent_of (part_of w o).trees x) k.own
    (λ parent. k.signals x parent true)
kept-world_step P o w (set_attribute x a v) k = k.signals x x false
kept-world_step P o w (set_document x d) k = k.documents x d
kept-world_step P o w (queue_record c) k = from (is_taken (part_of w o) c)
  where
    from : (b : Bool) → P (with_notify_if b o (stepped o w (queue_record c)))
    from true = k.notify
    from false = k.own
kept-world_step P o w s k = k.own

-- of each part and each task of a world
pub record HoldsIn (Inv : Part → Type 0) (IsTask : Task → Type 0) (w : World) : Type 0 where
  pub parts : (o : Owner) → Inv (part_of w o)
  pub tasks : AllByRecursion IsTask w.tasks

-- What is asked: steps keep it in parts, a node document may be set, and a notification may be queued.
pub record IsKeptIn (Inv : Part → Type 0) (May : Step → Type 0) (IsTask : Task → Type 0) : Type 0 where
  pub step : (p : Part) (s : Step) → Inv p → May s → Inv (part_step p s)
  pub document : (x d : NodeName) → May (set_document x d)
  pub notify : (o : Owner) → IsTask (notify_task o)

module _ {Inv : Part → Type 0} {May : Step → Type 0} {IsTask : Task → Type 0} (rules : IsKeptIn Inv May IsTask) where
  -- another part
  pub holds-with_part : (w : World) (p : Part) → HoldsIn Inv IsTask w → Inv p → HoldsIn Inv IsTask (with_part w p)
  holds-with_part w p h g =
      record {
        parts = λ o. by_cases (owner_eq p.owner o) (λ e. subst Inv (sym (part_of-with_part w p o (owner_eq-true p.owner o e))) g)
            (λ e. subst Inv (sym (part_of-with_part-other w p o (owner_eq-false p.owner o e))) (h.parts o));
        tasks = h.tasks;
      }

  -- a step in its part
  holds-stepped : (o : Owner) (w : World) (s : Step) → HoldsIn Inv IsTask w → May s → HoldsIn Inv IsTask (stepped o w s)
  holds-stepped o w s h g = holds-with_part w (part_step (part_of w o) s) h (rules.step (part_of w o) s (h.parts o) g)

  -- a notification is queued
  holds-with_notify : (o : Owner) (w : World) → HoldsIn Inv IsTask w → HoldsIn Inv IsTask (with_notify w o)
  holds-with_notify o w h =
      record {
        parts = h.parts;
        tasks = either_way (AllByRecursion IsTask) (list_any (is_notify_of o) w.tasks) w.tasks (w.tasks ++ notify_task o ∷ []) h.tasks
            (all-append IsTask w.tasks (notify_task o ∷ []) h.tasks (rules.notify o, tt));
      }

  -- a signal
  holds-with_signal : (w : World) (s : NodeName) → HoldsIn Inv IsTask w → HoldsIn Inv IsTask (with_signal w s)
  holds-with_signal w s h = let g = holds-with_notify s.owner w h in record { parts = g.parts; tasks = g.tasks }

  -- a step in the world
  holds-world_step : (o : Owner) (w : World) (s : Step) → HoldsIn Inv IsTask w → May s → HoldsIn Inv IsTask (world_step o w s)
  holds-world_step o w s h g =
      let P = HoldsIn Inv IsTask in
      let v = stepped o w s in
      let k = holds-stepped o w s h g in
      kept-world_step P o w s (record {
        own = k;
        signals = λ x around is_move. kept-fold P with_signal holds-with_signal (signals w v x around is_move) v k;
        documents = λ x d. kept-fold P (with_shadow_document d)
            (λ u c m. holds-stepped c u (set_document (shadow_root_of c) d) m (rules.document (shadow_root_of c) d)) (components_below max_depth w x) v k;
        notify = holds-with_notify o v k;
      })

  -- many steps
  pub holds-world_after : (o : Owner) (steps : List Step) (w : World) → HoldsIn Inv IsTask w → AllByRecursion May steps →
      HoldsIn Inv IsTask (world_after o w steps)
  holds-world_after o [] w h g = h
  holds-world_after o (s ∷ steps) w h g = holds-world_after o steps (world_step o w s) (holds-world_step o w s h g.0) g.1

-- A part that is written for its owner.
module _ (w : World) (p : Part) (o : Owner) (e : p.owner ≡ o) where
  -- Another part for an owner, with its hosts and listeners.
  pub attached-with_part : p.attached ≡ (part_of w o).attached → (other : Owner) → (part_of (with_part w p) other).attached ≡ (part_of w other).attached
  attached-with_part a other =
      by_cases (owner_eq o other)
      (λ h. let same = owner_eq-true o other h in ap (λ (q : Part). q.attached) (part_of-with_part w p other (e ∙ same)) ∙ a ∙
      ap (λ x. (part_of w x).attached) same)
      (λ h. ap (λ (q : Part). q.attached) (part_of-with_part-other w p other (λ g. owner_eq-false o other h (sym e ∙ g))))

  -- such a part keeps what holds of the world
  pub world-with_part : IsPart p → p.attached ≡ (part_of w o).attached → (IsTrue (is_some (host_of w o)) → IsRoot p.trees (shadow_root_of o)) → IsWorld w →
      IsWorld (with_part w p)
  world-with_part part a root i =
      let v = with_part w p in
      let same = attached-with_part a in
      let hosts = host_of-same v w same in
      record {
        page = there-with_part w p Page i.page;
        parts = λ x. by_cases (owner_eq o x) (λ h. subst IsPart (sym (part_of-with_part w p x (e ∙ owner_eq-true o x h))) part)
            (λ h. subst IsPart (sym (part_of-with_part-other w p x (λ g. owner_eq-false o x h (sym e ∙ g)))) (i.parts x));
        hosts = λ x. subst (AllByRecursion (IsOf x)) (sym (same x)) (i.hosts x);
        makers = makers-same v w same i.makers;
        shadow_roots = λ x h. let g = subst (λ y. is_some y ≡ true) (hosts x) h in
            by_cases (owner_eq o x)
            (λ k. let is = owner_eq-true o x k in
            subst (λ (q : Part). IsRoot q.trees (shadow_root_of x)) (sym (part_of-with_part w p x (e ∙ is)))
            (subst (λ y. IsRoot p.trees (shadow_root_of y)) is (root (subst (λ y. is_some (host_of w y) ≡ true) (sym is) g))))
            (λ k. subst (λ (q : Part). IsRoot q.trees (shadow_root_of x))
            (sym (part_of-with_part-other w p x (λ z. owner_eq-false o x k (sym e ∙ z)))) (i.shadow_roots x g));
        signalled = i.signalled;
        tasks = i.tasks;
      }

-- A step in its part.
abbrev pub MayStep : World → Owner → Step → Type 0
MayStep w o s = IsTrue (is_some (host_of w o)) → Allowed (shadow_root_of o) s

-- the part of an attached component, with its shadow root
pub own-part : (w : World) → IsWorld w → (o : Owner) → IsTrue (is_some (host_of w o)) → IsOwn (shadow_root_of o) (part_of w o)
own-part w i o h = record { part = i.parts o; root = i.shadow_roots o h }

-- a step leaves a part its owner
pub stepped_owner : (w : World) (o : Owner) (s : Step) → (part_step (part_of w o) s).owner ≡ o
stepped_owner w o s = owner-part_step (part_of w o) s ∙ owner-part_of w o

module _ {only_log : Bool} where
  -- a step in its part
  pub quiet-stepped : (w : World) (o : Owner) (s : Step) → MayStep w o s → Invariant only_log w → Invariant only_log (stepped o w s)
  quiet-stepped w o s may q =
      let rest = rest-step (part_of w o) s in
      record {
        world = world-with_part w (part_step (part_of w o) s) o (stepped_owner w o s) (part-step (part_of w o) s (q.world.parts o)) rest.0
            (λ h. (own-step (shadow_root_of o) (part_of w o) s (own-part w q.world o h) (may h)).root) q.world;
        logs = λ y. logs-same (stepped o w s) w (listeners-with_part w (part_step (part_of w o) s) o (stepped_owner w o s) rest.1) (q.logs y);
      }

-- the hosts stay
pub host_of-stepped : (w : World) (o : Owner) (s : Step) → (x : Owner) → host_of (stepped o w s) x ≡ host_of w x
host_of-stepped w o s = host_of-same (stepped o w s) w (attached-with_part w (part_step (part_of w o) s) o (stepped_owner w o s) (rest-step (part_of w o) s).0)

module _ {only_log : Bool} where
  -- What comes after: signals, notifications and node documents.
  quiet-with_signal : (w : World) (s : NodeName) → IsForeignTo Page s → Invariant only_log w → Invariant only_log (with_signal w s)
  quiet-with_signal w s f q =
      record {
        world = world-alike (with_signal w s) (λ o. record { trees = refl; count = refl; attached = refl }) (λ h. h)
            (by_cases (is_in name_eq s w.signalled)
            (λ e. subst (AllByRecursion (IsForeignTo Page))
            (sym (cond-true (is_in name_eq s w.signalled) w.signalled (w.signalled ++ s ∷ []) e)) q.world.signalled)
            (λ e. subst (AllByRecursion (IsForeignTo Page)) (sym (cond-false (is_in name_eq s w.signalled) w.signalled (w.signalled ++ s ∷ []) e))
            (all-append (IsForeignTo Page) w.signalled (s ∷ []) q.world.signalled (f, tt))))
            (λ h. page_tasks-queued_other s.owner f w.tasks ∙ q.world.tasks h) q.world;
        logs = q.logs;
      }

  -- signals
  quiet-each_signal : (ss : List NodeName) (w : World) → AllByRecursion (IsForeignTo Page) ss → Invariant only_log w →
      Invariant only_log (fold with_signal w ss)
  quiet-each_signal [] w h q = q
  quiet-each_signal (s ∷ ss) w h q = quiet-each_signal ss (with_signal w s) h.1 (quiet-with_signal w s h.0 q)

  -- the signals of a step
  quiet-signals : (was now : World) (x around : NodeName) (is_move : Bool) → Invariant only_log now → Invariant only_log (with_signals was now x around is_move)
  quiet-signals was now x around is_move q = quiet-each_signal (signals was now x around is_move) now (signals-foreign was now x around is_move) q

-- the page's steps are made in its turn
abbrev pub InTurn : World → Owner → Type 0
InTurn w o = o ≡ Page → is_page_turn w.turn ≡ true

module _ {only_log : Bool} where
  -- a notification
  quiet-notify : (o : Owner) (w : World) → InTurn w o → Invariant only_log w → Invariant only_log (with_notify w o)
  quiet-notify o w t q =
      record {
        world = world-alike (with_notify w o) (λ x. record { trees = refl; count = refl; attached = refl }) (λ h. h) q.world.signalled
            (tasks o t) q.world;
        logs = q.logs;
      }
    where
      tasks : (o : Owner) → InTurn w o → is_page_turn w.turn ≡ false → filter is_page_task (queued_notify o w.tasks) ≡ []
      tasks Page t h = absurd (true≢false (sym (t refl) ∙ h))
      tasks (Component k) t h = page_tasks-queued_other (Component k) (Component-IsNoPage k) w.tasks ∙ q.world.tasks h

  -- a step in the world
  pub quiet-world_step : (o : Owner) (w : World) (s : Step) → InTurn w o → MayStep w o s → Invariant only_log w → Invariant only_log (world_step o w s)
  quiet-world_step o w s t m q =
      let v = stepped o w s in
      let k = quiet-stepped w o s m q in
      kept-world_step (Invariant only_log) o w s (record {
        own = k;
        signals = λ x around is_move. quiet-signals w v x around is_move k;
        documents = λ x d. kept-fold (Invariant only_log) (with_shadow_document d)
            (λ u c r. quiet-stepped u c (set_document (shadow_root_of c) d) (λ h. tt) r) (components_below max_depth w x) v k;
        notify = quiet-notify o v t k;
      })

-- the turn and the hosts stay
SameFrame : World → World → Type 0
SameFrame v w = (v.turn ≡ w.turn) × ((o : Owner) → host_of v o ≡ host_of w o)

-- a step in its part
frame-stepped : (u w : World) (o : Owner) (s : Step) → SameFrame w u → SameFrame (stepped o w s) u
unfolding SameFrame
frame-stepped u w o s a = (a.0, λ x. host_of-stepped w o s x ∙ a.1 x)

-- a step in the world
frame-world_step : (o : Owner) (w : World) (s : Step) → SameFrame (world_step o w s) w
unfolding SameFrame
frame-world_step o w s =
    let P : World → Type 0 = λ v. SameFrame v w in
    let k = frame-stepped w w o s (refl, λ x. refl) in
    kept-world_step P o w s (record {
      own = k;
      signals = λ x around is_move. kept-fold P with_signal (λ u y h. (h.0, h.1)) (signals w (stepped o w s) x around is_move) (stepped o w s) k;
      documents = λ x d. kept-fold P (with_shadow_document d) (λ u c h. frame-stepped w u c (set_document (shadow_root_of c) d) h)
          (components_below max_depth w x) (stepped o w s) k;
      notify = (k.0, k.1);
    })

-- so many steps leave the turn
pub turn-world_after : (o : Owner) (steps : List Step) (w : World) → (world_after o w steps).turn ≡ w.turn
unfolding SameFrame
turn-world_after o [] w = refl
turn-world_after o (s ∷ steps) w = turn-world_after o steps (world_step o w s) ∙ (frame-world_step o w s).0

module _ {only_log : Bool} where
  -- All steps of a change.
  pub quiet-world_after : (o : Owner) (steps : List Step) (w : World) → InTurn w o →
      (IsTrue (is_some (host_of w o)) → Safe (shadow_root_of o) steps) → Invariant only_log w → Invariant only_log (world_after o w steps)
  unfolding SameFrame
  quiet-world_after o [] w t m q = q
  quiet-world_after o (s ∷ steps) w t m q =
      let frame = frame-world_step o w s in
      quiet-world_after o steps (world_step o w s) (λ e. ap is_page_turn frame.0 ∙ t e) (λ h. (m (subst (λ x. is_some x ≡ true) (frame.1 o) h)).1)
      (quiet-world_step o w s t (λ h. (m h).0) q)
