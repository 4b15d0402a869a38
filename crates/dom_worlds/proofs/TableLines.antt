-- Every line keeps the tables and the records of all parts.
use Rattle.dom_base.proofs.Std.{◌≡◌, ℕ, true, false, ◌&&◌, List, [], ◌∷◌, Option, Some, None, refl, sym, subst, Bool, not, ◌++◌, map, filter, fold, length, ◌∙◌}
use Rattle.dom_base.proofs.Std.{option_map_or, arith, true≢false, nat_eq, AllByRecursion}
use Rattle.dom_model.proofs.Model.{NodeName, observed, reference_child, Command, Line, EventWords, part_refusal, effect, named, Effect, tables, changes}
use Rattle.dom_model.proofs.Model.{answers, sets_walker, extracting, Value, nothing, Part, first_node, deleting, inserting_into_range, Walker}
use Rattle.dom_model.proofs.Model.{length_of, node_in, Action, Log, Shadow, Owner, Page, Component, dispatch_in, world_visit, visits_of}
use Rattle.dom_model.proofs.Model.{first_world, part_with_root, effect_in, attaching, step, run_lines, finish, Listener, Visit, Dispatching, begun}
use Rattle.dom_model.proofs.Model.{after_action, may_cancel, line_of, is_listener, kept_after, after_inner_invoke, hears, after_invoke, name_eq, node_of, is_in}
use Rattle.dom_model.proofs.Model.{Registration, is_transient, views, is_owned_by, without_signals, notified, ending_turn, ending_other_turn, World, part_of}
use Rattle.dom_model.proofs.Model.{with_part, component_made, MayAttach, component_made-other, part_of-with_part-other, owner-part_of, Component-IsNoPage}
use Rattle.dom_worlds.specs.Definitions.{IsPart, IsThere, IsRecordIn, HasTables, HasRecords, IsNodeIn, IsRegistrationIn, IsListenerIn, IsNodeAt, IsWhole}
use Rattle.dom_worlds.specs.Definitions.{IsReached, FirstHas, StepLeaves, EndingLeaves, FinishLeaves, ScriptsLeave}
use Rattle.dom_worlds.proofs.Effects.{part-accepted, attach-may, KeepsBase, base-effect, some-effect, range-steps}
use Rattle.dom_worlds.proofs.Lists.{all-append, all-set, all-filter, either_way}
use Rattle.dom_worlds.proofs.PlanContents.{range-ends}
use Rattle.dom_worlds.proofs.Recorded.{TellsIn, reference-there, tells-removing, tells-adopting, tells-inserting, tells-replacing, tells-setting_attribute}
use Rattle.dom_worlds.proofs.Recorded.{tells-unsetting_attribute, tells-replacing_data, records-emptied}
use Rattle.dom_worlds.proofs.RecordedPlans.{tells-splitting, tells-normalizing, tells-setting_text, tells-extracting, tells-deleting}
use Rattle.dom_worlds.proofs.RecordedPlans.{tells-inserting_into_range}
use Rattle.dom_worlds.proofs.TableCommands.{append-may, exists-first, exists-third, Holds, insert-may, replace-may}
use Rattle.dom_worlds.proofs.TableRegisters.{insert_node-may, holds-effect, more-registered, tables-listeners}
use Rattle.dom_worlds.proofs.InsideAncestors.{times-has_node}
use Rattle.dom_worlds.proofs.KindLines.{attach-free}
use Rattle.dom_worlds.proofs.Owners.{absent-part, next-absent, there-hosted}
use Rattle.dom_worlds.proofs.Reached.{first-is_reached, IsSound, reached-of, sound-keeps, sound-of, shadow_roots-are_roots}
use Rattle.dom_worlds.proofs.TableSteps.{Grows, tables-telling}
use Rattle.dom_worlds.proofs.TableRecords.{queues-set}
use Rattle.dom_worlds.proofs.TableWorlds.{Ground, ground-of, Frame, frame-with_part, frame-world_after}
use Rattle.dom_worlds.proofs.Invariants.{Any, Keeps, both-keep, kept-ending_other, kept-ending_turn, kept-finish, kept-lines, kept-step}
use Rattle.dom_worlds.proofs.OwnerSteps.{IsPeopled}
use Rattle.dom_worlds.proofs.StepKeeps.{OkFor, any-line}

-- What an effect leaves, or its steps record.
abbrev pub Records : Part → Effect → Type 0
Records p (tables q lines v) = HasRecords q
Records p (changes steps v) = TellsIn p steps

-- a walker that is set
walker-records : (p : Part) (k : ℕ) (w : Walker) (o : Option NodeName) (v : Value) → HasRecords p → Records p (sets_walker p k w o v)
walker-records p k w None v h = h
walker-records p k w (Some x) v h = h

-- of a thing that may not be there
some-records : {X : Type 0} (p : Part) (o : Option X) (f : X → Effect) → ((x : X) → Records p (f x)) → HasRecords p → Records p
    (option_map_or f o (answers p nothing))
some-records p o f h g = some-effect (Records p) o f h g

-- Every accepted command.
pub records-effect : (p : Part) → IsPart p → HasTables p → HasRecords p → (c : Command) → part_refusal p c ≡ None → Records p (effect p c)
records-effect p i t h (Command.append a x) r =
    tells-inserting observed None i (append-may i a x (part-accepted p (Command.append a x) r)) tt
records-effect p i t h (Command.insert a x c) r =
    let k = part-accepted p (Command.insert a x c) r in
    let may = insert-may i a x c k in
    tells-inserting observed (reference_child p.trees (named p x) (Some (named p c))) i may
    (reference-there p (named p x) (Some (named p c)) may.there (exists-third p a x c k.exist))
records-effect p i t h (Command.replace a x c) r =
    let k = part-accepted p (Command.replace a x c) r in
    tells-replacing (named p c) i (replace-may i a x c k) (exists-third p a x c k.exist)
records-effect p i t h (Command.set_attribute x a v) r = let k =
    part-accepted p (Command.set_attribute x a v) r in tells-setting_attribute (named p x) a v p (exists-first p x true true k.exist)
records-effect p i t h (Command.unset_attribute x a) r = let k =
    part-accepted p (Command.unset_attribute x a) r in tells-unsetting_attribute (named p x) a p (exists-first p x true true k.exist)
records-effect p i t h (Command.set_data x s) r = let k =
    part-accepted p (Command.set_data x s) r in tells-replacing_data (named p x) 0 (length_of p.trees (named p x)) s p
    (exists-first p x true true k.exist)
records-effect p i t h (Command.replace_data x j n s) r = let k =
    part-accepted p (Command.replace_data x j n s) r in tells-replacing_data (named p x) j n s p (exists-first p x true true k.exist)
records-effect p i t h (Command.split x j) r = let k =
    part-accepted p (Command.split x j) r in (tells-splitting (named p x) j p i (exists-first p x true true k.exist)).0
records-effect p i t h (Command.set_text x s) r = let k =
    part-accepted p (Command.set_text x s) r in tells-setting_text (named p x) s p i (exists-first p x true true k.exist)
records-effect p i t h (Command.extract k) r =
    range-steps (TellsIn p) p k tt (λ range. extracting k range p) (λ range e. tells-extracting k range p i (range-ends p k t range e).0)
records-effect p i t h (Command.delete k) r =
    range-steps (TellsIn p) p k tt (λ range. deleting k range p) (λ range e. let ends = range-ends p k t range e in tells-deleting k range p i ends.0 ends.1)
records-effect p i t h (Command.insert_node k x) r =
    let a = part-accepted p (Command.insert_node k x) r in
    range-steps (TellsIn p) p k tt (λ range. inserting_into_range k range (named p x) p)
    (λ range e. tells-inserting_into_range k range i (range-ends p k t range e).0
    (insert_node-may i t a e))
records-effect p i t h c r = search (some-records, walker-records, all-append, all-set, tells-removing, tells-adopting, tells-normalizing)

-- A dispatch leaves some of the listeners.
module _ {N : Type 0} (same : N → N → Bool) (P : Listener N → Type 0) (e : EventWords) where
  after-action : (a : Action) (cancels : Bool) (d : Dispatching N) → AllByRecursion P d.listeners → AllByRecursion P (after_action a cancels d).listeners
  after-action Log cancels d h = h
  after-action a cancels d h = h

  after-called : (v : Visit N) (d : Dispatching N) (l : Listener N) → AllByRecursion P d.listeners → AllByRecursion P
      (after_inner_invoke same e v d l).listeners
  after-called v d l h =
      let left = kept_after same l d.listeners in
      let next : Dispatching N = record d { listeners = left; lines = d.lines ++ line_of v l.words ∷ [] } in
      let kept : AllByRecursion P left = either_way (AllByRecursion P) l.words.once _ d.listeners
      (all-filter P (λ k. not (is_listener same l.node l.words.event l.words.label l.words.capture k)) d.listeners h) h in
      either_way (λ (s : Dispatching N). AllByRecursion P s.listeners) d.stopped_now d (after_action l.words.action (may_cancel e l.words) next) h
      (after-action l.words.action (may_cancel e l.words) next kept)

  after-calls : (v : Visit N) (ls : List (Listener N)) (d : Dispatching N) → AllByRecursion P d.listeners →
      AllByRecursion P (fold (after_inner_invoke same e v) d ls).listeners
  after-calls v [] d h = h
  after-calls v (l ∷ ls) d h = after-calls v ls (after_inner_invoke same e v d l) (after-called v d l h)

  pub after-visit : (v : Visit N) (d : Dispatching N) → AllByRecursion P d.listeners → AllByRecursion P (after_invoke same e d v).listeners
  after-visit v d h =
      let hearing = filter (hears same e v) d.listeners in
      either_way (λ (s : Dispatching N). AllByRecursion P s.listeners) d.stopped d (fold (after_inner_invoke same e v) d hearing) h
      (after-calls v hearing d h)

-- visits in the world keep what each of them keeps
module _ (P : World → Type 0) (e : EventWords) (each : (v : Visit NodeName) (w : World) (d : Dispatching NodeName) → P w → P (world_visit e (w, d) v).0) where
  pub visits-keep : (vs : List (Visit NodeName)) (w : World) (d : Dispatching NodeName) → P w → P (fold (world_visit e) (w, d) vs).0
  visits-keep [] w d h = h
  visits-keep (v ∷ vs) w d h = visits-keep vs (world_visit e (w, d) v).0 (world_visit e (w, d) v).1 (each v w d h)

-- one visit
frame-visit : (e : EventWords) (v : Visit NodeName) (w : World) (d : Dispatching NodeName) → Frame w → Frame (world_visit e (w, d) v).0
frame-visit e v w d f =
    let o = v.current.owner in
    let p = part_of w o in
    let heard = after_invoke name_eq e (record d { listeners = p.listeners }) v in
    let t = tables-listeners p heard.listeners (f.tables o)
    (after-visit name_eq (IsListenerIn p.trees) e v (record d { listeners = p.listeners }) (f.tables o).listeners) in
    frame-with_part w (record p { listeners = heard.listeners }) o (owner-part_of w o) t (f.records o) (λ y h. h) f

-- a dispatch
pub frame-dispatch : (w : World) (x : NodeName) (related : Option NodeName) (e : EventWords) → Frame w → Frame (dispatch_in w x related e).run.0
frame-dispatch w x related e f = visits-keep Frame e (frame-visit e) (visits_of name_eq e.bubbles (views w x related e.composed)) w (begun []) f

-- Notifications, and the endings of turns.
tables-notified : (p : Part) → HasTables p → HasTables (notified p)
tables-notified p h =
    let same = queues-set (λ queues k. []) p.pending p.record_queues in
    let more = length (notified p).record_queues in
    let left = filter (λ (r : Registration NodeName). not (is_transient r.source && is_in nat_eq r.observer p.pending)) p.registrations in
    tables-telling h (more-registered p.trees (length p.record_queues) more (omega arith) left
    (all-filter (IsRegistrationIn p.trees (length p.record_queues))
    (λ (r : Registration NodeName). not (is_transient r.source && is_in nat_eq r.observer p.pending)) p.registrations h.registrations)) tt h.listeners

-- a notification, before its events
pub frame-told : (w : World) (o : Owner) → Frame w → Frame (with_part (without_signals w o) (notified (part_of w o)))
frame-told w o f =
    let calm = without_signals w o in
    let base : Frame calm = record {
      tables = f.tables;
      records = f.records;
      first = f.first;
      signalled = all-filter (IsNodeAt w) (λ s. not (is_owned_by o s)) w.signalled f.signalled;
    } in
    frame-with_part calm (notified (part_of w o)) o (owner-part_of w o) (tables-notified (part_of w o) (f.tables o))
    (records-emptied (IsRecordIn (part_of w o).trees) (part_of w o).pending (part_of w o).record_queues (f.records o)) (λ y h. h) base

-- Attaching: an owner that is not there has no nodes.
absent-grows : (w : World) (o : Owner) (p : Part) → (IsThere w o → ⊥) → Grows (part_of w o).trees p.trees
absent-grows w o p h = subst (λ (q : Part). Grows q.trees p.trees) (sym (absent-part w o h)) (λ y g. absurd (true≢false (sym g)))

-- an empty part but for its first node
tables-root : (o : Owner) (d : Option NodeName) → HasTables (part_with_root o Shadow d)
tables-root o d = record { hosts = tt; ranges = tt; iterators = tt; walkers = tt; registrations = tt; pending = tt; listeners = tt }

-- attaching keeps the tables
frame-attaching : {w : World} (o : Owner) (x : NodeName) → MayAttach o → IsPeopled w → IsNodeIn (part_of w o).trees x → Frame w → Frame (attaching w o x).0
frame-attaching {w} o x may k t f =
    let p = part_of w o in
    let h = f.tables o in
    let n = length p.attached in
    let c = component_made o n in
    let more = record p { attached = p.attached ++ x ∷ [] } in
    let hosted : HasTables more = record {
      hosts = all-append (IsNodeIn p.trees) p.attached (x ∷ []) h.hosts (t, tt);
      ranges = h.ranges;
      iterators = h.iterators;
      walkers = h.walkers;
      registrations = h.registrations;
      pending = h.pending;
      listeners = h.listeners;
    } in
    let marked = with_part w more in
    let mine : more.owner ≡ o = owner-part_of w o in
    let m = frame-with_part w more o mine hosted (f.records o) (λ y k. k) f in
    let d = (node_in p.trees x).document in
    let root = part_with_root c Shadow d in
    let other : part_of marked c ≡ part_of w c = part_of-with_part-other w more c (λ e. component_made-other o n (sym e ∙ mine)) in
    frame-with_part marked root c refl (tables-root c d) tt (subst (λ (q : Part). Grows q.trees root.trees) (sym other)
    (absent-grows w c root (next-absent w k.makers k.owners o may))) m

-- An accepted command.
module _ {w : World} (o : Owner) (k : Ground w) where
  -- its effect
  frame-effect : (e : Effect) → KeepsBase (part_of w o) e → Holds (part_of w o) e → Records (part_of w o) e → Frame w → Frame (effect_in w o e).0
  frame-effect (tables p lines v) base h r f =
      frame-with_part w p o (base.0 ∙ owner-part_of w o) h r (λ y n. subst (λ ts. IsNodeIn ts y) (sym base.1.trees) n) f
  frame-effect (changes steps v) base h r f = frame-world_after o steps k h r f

-- An owner that is there has its first node.
first-there : {only_log : Bool} (w : World) → IsReached only_log w → IsNodeIn (part_of w Page).trees (node_of Page 0) → (o : Owner) →
    IsThere w o → IsNodeIn (part_of w o).trees (first_node (part_of w o))
first-there w r f Page t = subst (λ a. IsNodeIn (part_of w Page).trees (node_of a 0)) (sym (owner-part_of w Page)) f
first-there {only_log = b} w r f (Component k) t =
    let o = Component k in
    let hosted = there-hosted w r.world.makers r.owners o (Component-IsNoPage k) t in
    subst (λ a. IsNodeIn (part_of w o).trees (node_of a 0)) (sym (owner-part_of w o)) (shadow_roots-are_roots b w r o hosted).0

-- What lines consist of keeps the tables.
frame-keeps : Keeps (OkFor false) IsSound Frame
frame-keeps =
    record {
      turns = record {
        dispatch = λ w x related e s f. frame-dispatch w x related e f;
        at_end = λ w s f. record { tables = f.tables; records = f.records; first = f.first; signalled = f.signalled };
        told = λ w o t s f. frame-told w o f;
      };
      turned = λ w o e t s f. record { tables = f.tables; records = f.records; first = f.first; signalled = f.signalled };
      attach = λ w o x m s f. let y = named (part_of w o) x in frame-attaching o y (attach-may w o x m.part) s.0.1
          (times-has_node (part_of w o).trees y (attach-free (part_of w o) x m.part).there) f;
      micro = λ w o label m s f. record { tables = f.tables; records = f.records; first = f.first; signalled = f.signalled };
      effect = λ w o c m s f. let p = part_of w o in
          let i = s.0.0.world in
          frame-effect o (ground-of w i) (effect p c) (base-effect p c)
          (holds-effect p (i.parts o) (f.tables o) (first-there w (reached-of w s.0.0 s) f.first o m.there) c m.part)
          (records-effect p (i.parts o) (f.tables o) (f.records o) c m.part) f;
    }

-- with what holds of reached worlds
abbrev pub IsFramed : World → Type 0
IsFramed w = IsSound w × Frame w

-- both are kept
pub framed-keeps : Keeps (OkFor false) Any IsFramed
framed-keeps = both-keep sound-keeps frame-keeps

-- also by the end of a turn
pub framed-ending_turn : (w : World) → IsFramed w → IsFramed (ending_turn w).0
framed-ending_turn = kept-ending_turn framed-keeps.turns (λ w s. s.0.0.1.owners.tasks)

-- The laws.
pub frame-of : {only_log : Bool} (w : World) → IsReached only_log w → IsWhole w → Frame w
frame-of w r h = record {
  tables = h.tables;
  records = h.records;
  first = subst (λ a. IsNodeIn (part_of w Page).trees (node_of a 0)) (owner-part_of w Page) (h.first Page r.world.page);
  signalled = h.signalled;
}

-- and back
pub whole-of : {only_log : Bool} (w : World) → IsReached only_log w → Frame w → IsWhole w
whole-of w r f = record { tables = f.tables; records = f.records; first = first-there w r f.first; signalled = f.signalled }

-- with what holds of reached worlds
pub framed-of : {only_log : Bool} (w : World) → IsReached only_log w → IsWhole w → IsFramed w
framed-of w r h = (sound-of w r, frame-of w r h)

-- and back
pub whole-framed : (w : World) → IsFramed w → IsWhole w
whole-framed w s = whole-of w (reached-of w s.0.0.0 s.0) s.1

-- the first world
frame-first : Frame first_world
frame-first = record { tables = tables; records = records; first = refl; signalled = tt }
  where
    records : (o : Owner) → HasRecords (part_of first_world o)
    records Page = tt
    records (Component k) = tt

    tables : (o : Owner) → HasTables (part_of first_world o)
    tables Page = record { hosts = tt; ranges = tt; iterators = tt; walkers = tt; registrations = tt; pending = tt; listeners = tt }
    tables (Component k) = record { hosts = tt; ranges = tt; iterators = tt; walkers = tt; registrations = tt; pending = tt; listeners = tt }

-- is such
pub first-is_whole : FirstHas IsWhole
first-is_whole = whole-of first_world (first-is_reached false) frame-first

-- each line keeps it
pub step-keeps_whole : StepLeaves IsWhole IsWhole
step-keeps_whole b w l r h = whole-framed (step w l).0 (kept-step framed-keeps framed-ending_turn w l (any-line w l) (framed-of w r h))

-- the ending of another component's turn
pub ending-keeps_whole : EndingLeaves IsWhole IsWhole
ending-keeps_whole b w o r h = whole-framed (ending_other_turn w o).0 (kept-ending_other framed-ending_turn w o (framed-of w r h))

-- the end of input
pub finish-keeps_whole : FinishLeaves IsWhole IsWhole
finish-keeps_whole b w r h = whole-framed (finish w).0 (kept-finish framed-ending_turn w (framed-of w r h))

-- scripts
pub scripts-stay_whole : {L : Type 0} (read : L → Line) → ScriptsLeave IsWhole read
scripts-stay_whole read ls =
    whole-framed (run_lines first_world (map read ls)).0
    (kept-lines framed-keeps framed-ending_turn any-line read ls first_world (framed-of first_world (first-is_reached false) first-is_whole))
