-- Both ends of a live range have one root, and every line keeps the ends within their nodes; worlds on the way through the end of a turn.
use Rattle.dom_base.proofs.Std.{Some, subst, false, [], Option, None, ◌≡◌, ◌≢◌, ℕ, Bool, List, ◌∷◌, ◌++◌, length, refl, sym, ◌∙◌, arith, map}
use Rattle.dom_model.proofs.Model.{Line, EventWords, Command, part_refusal, effect, first_world, step, run_lines, finish, part_with_root, effect_in, attaching}
use Rattle.dom_model.proofs.Model.{Part, range_at, ending_other_turn, without_signals, notified, ending_turn, World, part_of, with_part, component_made}
use Rattle.dom_model.proofs.Model.{components_below, shadow_root_of, Owner, NodeName, dispatch_in, world_visit, visits_of, Kind, Document, Shadow, Page}
use Rattle.dom_model.proofs.Model.{Component, named, Effect, tables, changes, Visit, Dispatching, begun, after_invoke, name_eq, max_depth, views, extracting}
use Rattle.dom_model.proofs.Model.{deleting, insertion_parent, start_reference, cannot_take_node, inserting_into_range, Range, signals, with_signal, Step}
use Rattle.dom_model.proofs.Model.{set_document, part_step, after, node_in, pre_insert_refusal, world_step, world_after, stepped, with_shadow_document}
use Rattle.dom_model.proofs.Model.{owner_eq-true, owner_eq-false, owner-part_of, owner-part_step, part_of-stepped-other}
use Rattle.dom_worlds.specs.Definitions.{EndsIn, HasTables, IsWhole, HasOneRoots, RangesHaveOneRoot, IsReached, IsThere, IsPart, IsBounded, StepKeepsBounds}
use Rattle.dom_worlds.specs.Definitions.{FirstHas, StepLeaves, EndingLeaves, FinishLeaves, ScriptsLeave}
use Rattle.dom_worlds.proofs.PlanRoots.{ends-at}
use Rattle.dom_worlds.proofs.TableLines.{first-is_whole, step-keeps_whole, ending-keeps_whole, finish-keeps_whole, scripts-stay_whole, IsFramed, framed-keeps}
use Rattle.dom_worlds.proofs.TableLines.{framed-of, visits-keep, whole-framed}
use Rattle.dom_worlds.proofs.Turns.{at_end, told_in}
use Rattle.dom_worlds.proofs.Reached.{reached-of, first-is_reached, IsSound, sound-keeps, sound-of}
use Rattle.dom_worlds.proofs.Effects.{part-accepted, KeepsBase, base-effect, range-steps}
use Rattle.dom_worlds.proofs.BoundLines.{Roomy, ForRanges, room-effect, room-same, under-at}
use Rattle.dom_worlds.proofs.Bounds.{RangeUnder, reach, nowhere, HasRoom, room-document}
use Rattle.dom_worlds.proofs.ChildCounts.{kids}
use Rattle.dom_worlds.proofs.KeptOffsets.{room-of, bounds-of, takes}
use Rattle.dom_worlds.proofs.PlanContents.{range-ends}
use Rattle.dom_worlds.proofs.RangeInsertions.{room-inserting_into_range}
use Rattle.dom_worlds.proofs.ShadowRoots.{not_taken}
use Rattle.dom_worlds.proofs.RangePlans.{IsProper, room-deleting}
use Rattle.dom_worlds.proofs.ExtractionPlans.{room-extracting}
use Rattle.dom_worlds.proofs.TableCommands.{Holds}
use Rattle.dom_worlds.proofs.TableRegisters.{holds-effect, insert_node-valid, insert_node-may}
use Rattle.dom_worlds.proofs.TableSteps.{MadeIn}
use Rattle.dom_worlds.proofs.TableWorlds.{Ground, ground-of, each-part, ground-stepped, ground-world_step, part-own_step}
use Rattle.dom_worlds.proofs.Lists.{by_cases, kept-fold}
use Rattle.dom_worlds.proofs.Invariants.{Any, Keeps, KeepsTurns, both-keep, both-turns, kept-ending_other, kept-ending_turn, kept-finish, kept-lines, kept-step}
use Rattle.dom_worlds.proofs.StepKeeps.{OkFor, any-line}
use Rattle.dom_worlds.proofs.WorldSteps.{kept-world_step}
use Rattle.dom_worlds.proofs.Placings.{insertion-tested}

-- of a part
pub one_roots-of : (p : Part) → HasTables p → HasOneRoots p
one_roots-of p h k r e = let ends : EndsIn p.trees (Some r) = subst (EndsIn p.trees) e (ends-at p k h) in ends.one_root

-- of all parts
all-one_roots : (w : World) → IsWhole w → RangesHaveOneRoot w
all-one_roots w h o = one_roots-of (part_of w o) (h.tables o)

-- the first world
pub first-has_one_roots : FirstHas RangesHaveOneRoot
first-has_one_roots = all-one_roots first_world first-is_whole

-- each line
pub step-keeps_one_roots : StepLeaves IsWhole RangesHaveOneRoot
step-keeps_one_roots b w l r h = all-one_roots (step w l).0 (step-keeps_whole b w l r h)

-- the ending of another component's turn
pub ending-keeps_one_roots : EndingLeaves IsWhole RangesHaveOneRoot
ending-keeps_one_roots b w o r h = all-one_roots (ending_other_turn w o).0 (ending-keeps_whole b w o r h)

-- the end of input
pub finish-keeps_one_roots : FinishLeaves IsWhole RangesHaveOneRoot
finish-keeps_one_roots b w r h = all-one_roots (finish w).0 (finish-keeps_whole b w r h)

-- scripts
pub scripts-keep_one_roots : {L : Type 0} (read : L → Line) → ScriptsLeave RangesHaveOneRoot read
scripts-keep_one_roots read ls = all-one_roots (run_lines first_world (map read ls)).0 (scripts-stay_whole read ls)

-- what holds of a world on the way
pub record Stands (w : World) : Type 0 where
  pub reached : IsReached false w
  pub whole : IsWhole w

-- both ways
framed-stands : (w : World) → Stands w → IsFramed w
framed-stands w s = framed-of w s.reached s.whole

-- and back
stands-framed : (w : World) → IsFramed w → Stands w
stands-framed w s = record { reached = reached-of w s.0.0.0 s.0; whole = whole-framed w s }

-- the tasks are taken out, and the turn is closed
pub at_end-stands : (w : World) → Stands w → Stands (record w { tasks = []; turn = None })
at_end-stands w s = stands-framed (at_end w) (framed-keeps.turns.at_end w tt (framed-stands w s))

-- an owner's signals are taken, and its observers notified
pub told-stands : (w : World) (o : Owner) → IsThere w o → Stands w → Stands (with_part (without_signals w o) (notified (part_of w o)))
told-stands w o there s = stands-framed (told_in w o) (framed-keeps.turns.told w o there tt (framed-stands w s))

-- an event is dispatched
pub dispatch-stands : (w : World) (x : NodeName) (related : Option NodeName) (e : EventWords) → Stands w → Stands (dispatch_in w x related e).run.0
dispatch-stands w x related e s =
    stands-framed (dispatch_in w x related e).run.0 (framed-keeps.turns.dispatch w x related e tt (framed-stands w s))

-- All parts.
abbrev AllRooms : World → Type 0
AllRooms w = (o : Owner) → HasRoom nowhere (part_of w o)

-- another part
rooms-with_part : (w : World) (p : Part) (o : Owner) → p.owner ≡ o → HasRoom nowhere p → AllRooms w → AllRooms (with_part w p)
rooms-with_part w p o e h r = each-part (λ x q. HasRoom nowhere q) w p o e h r

-- Steps. The parts of others change by node documents alone.
abbrev OtherRooms : Owner → World → Type 0
OtherRooms o w = (x : Owner) → x ≢ o → HasRoom nowhere (part_of w x)

-- a step in its part
others-stepped : (o : Owner) (w : World) (s : Step) → OtherRooms o w → OtherRooms o (stepped o w s)
others-stepped o w s h x f = subst (HasRoom nowhere) (sym (part_of-stepped-other w o x s (λ e. f (sym e)))) (h x f)

-- a node document of a shadow tree, in a world whose names are as they should be
others-document : (o : Owner) (d : NodeName) (w : World) (c : Owner) → Ground w × OtherRooms o w →
    Ground (with_shadow_document d w c) × OtherRooms o (with_shadow_document d w c)
others-document o d w c h =
    let s = set_document (shadow_root_of c) d in (
      ground-stepped c w s h.0,
      each-part (λ x q. x ≢ o → HasRoom nowhere q) w (part_step (part_of w c) s) c (owner-part_step (part_of w c) s ∙ owner-part_of w c)
          (λ f. room-document nowhere (part_of w c) (shadow_root_of c) d (h.0.parts c) (h.1 c f)) h.1,
    )

-- a step in the world
others-world_step : (o : Owner) (w : World) (s : Step) → Ground w → OtherRooms o w → OtherRooms o (world_step o w s)
others-world_step o w s g h =
    let v = stepped o w s in
    let k = others-stepped o w s h in
    kept-world_step (OtherRooms o) o w s (record {
      own = k;
      signals = λ x around is_move. kept-fold (OtherRooms o) with_signal (λ u y m. m) (signals w v x around is_move) v k;
      documents = λ x d. (kept-fold (λ u. Ground u × OtherRooms o u) (with_shadow_document d) (others-document o d) (components_below max_depth w x) v
          (ground-stepped o w s g, k)).1;
      notify = k;
    })

-- many steps: in their part they are what they are alone
rooms-world_after : (o : Owner) (steps : List Step) {w : World} → Ground w → MadeIn (part_of w o) steps → OtherRooms o w →
    HasRoom nowhere (after (part_of w o) steps) → AllRooms (world_after o w steps)
rooms-world_after o [] {w} g m h r = λ x. by_cases (Rattle.dom_model.specs.Names.owner_eq x o)
    (λ e. subst (λ y. HasRoom nowhere (part_of w y)) (sym (owner_eq-true x o e)) r) (λ e. h x (owner_eq-false x o e))
rooms-world_after o (s ∷ steps) {w} g m h r =
    let own = part-own_step o w s g m.0 in
    rooms-world_after o steps (ground-world_step o w s g) (subst (λ p. MadeIn p steps) (sym own) m.1)
    (others-world_step o w s g h) (subst (λ p. HasRoom nowhere (after p steps)) (sym own) r)

-- Dispatches, notifications and the endings of turns.
rooms-visit : (e : EventWords) (v : Visit NodeName) (w : World) (d : Dispatching NodeName) → AllRooms w → AllRooms (world_visit e (w, d) v).0
rooms-visit e v w d h =
    let o = v.current.owner in
    let p = part_of w o in
    let heard = after_invoke name_eq e (record d { listeners = p.listeners }) v in
    let q : Part = record p { listeners = heard.listeners } in
    rooms-with_part w q o (owner-part_of w o) (room-same p q refl refl (h o)) h

-- a dispatch
rooms-dispatch : (w : World) (x : NodeName) (related : Option NodeName) (e : EventWords) → AllRooms w → AllRooms (dispatch_in w x related e).run.0
rooms-dispatch w x related e h = visits-keep AllRooms e (rooms-visit e) (visits_of name_eq e.bubbles (views w x related e.composed)) w (begun []) h

-- A part with its first node alone.
room-root : (o : Owner) (k : Kind) (d : Option NodeName) → HasRoom nowhere (part_with_root o k d)
room-root o k d = record { bounds = tt; leaves = λ y g. alone y }
  where
    alone : (y : NodeName) → kids (part_with_root o k d).trees y ≡ 0
    alone y = by_cases (name_eq (Rattle.dom_model.specs.Names.node_of o 0) y) (λ t. rw t refl) (λ t. rw t refl)

-- attaching
rooms-attaching : (w : World) (o : Owner) (x : NodeName) → AllRooms w → AllRooms (attaching w o x).0
rooms-attaching w o x h =
    let p = part_of w o in
    let c = component_made o (length p.attached) in
    let more : Part = record p { attached = p.attached ++ x ∷ [] } in
    let d = (node_in p.trees x).document in
    rooms-with_part (with_part w more) (part_with_root c Shadow d) c refl (room-root c Shadow d)
    (rooms-with_part w more o (owner-part_of w o) (room-same p more refl refl (h o)) h)

-- An accepted command.
module _ {w : World} (o : Owner) (k : Ground w) where
  -- its effect
  rooms-effect : (e : Effect) → KeepsBase (part_of w o) e → Holds (part_of w o) e → Roomy (part_of w o) e → AllRooms w → AllRooms (effect_in w o e).0
  rooms-effect (tables p lines v) base m r h = rooms-with_part w p o (base.0 ∙ owner-part_of w o) r h
  rooms-effect (changes steps v) base m r h = rooms-world_after o steps k m (λ x f. h x) r

-- a range that is there
proper : (p : Part) (k : ℕ) → HasTables p → HasRoom nowhere p → (r : Range NodeName) → range_at p k ≡ Some r → IsProper p r
proper p k t h r e =
    let ends = range-ends p k t r e in
    let under : RangeUnder (reach nowhere p) (Some r) = subst (RangeUnder (reach nowhere p)) e (under-at p k h) in
    record { start = ends.0; end = ends.1; one_tree = one_roots-of p t k r e; within = let a = under.0 in omega arith }

-- what is left to show of commands for ranges' contents
for-ranges : (p : Part) → IsPart p → HasTables p → (c : Command) → part_refusal p c ≡ None → ForRanges p c
for-ranges p i t (Command.extract k) n = λ h. range-steps (λ steps. HasRoom nowhere (after p steps)) p k h (λ r. extracting k r p)
    (λ r e. room-extracting k r p i (proper p k t h r e) h)
for-ranges p i t (Command.delete k) n = λ h. range-steps (λ steps. HasRoom nowhere (after p steps)) p k h (λ r. deleting k r p)
    (λ r e. room-deleting k r p i (proper p k t h r e) h)
for-ranges p i t (Command.insert_node k x) n = λ h.
    let a = part-accepted p (Command.insert_node k x) n in
    range-steps (λ steps. HasRoom nowhere (after p steps)) p k h (λ r. inserting_into_range k r (named p x) p)
    (λ r e. let node = named p x in
    let parent = insertion_parent p.trees r in
    let refused = pre_insert_refusal p.trees parent node (start_reference p.trees r) in
    let valid = insert_node-valid p k x a.own r e in
    room-inserting_into_range k r (record { part = i; room = h }) (range-ends p k t r e).0
    (record {
      go = insert_node-may i t a e;
      open_parent = (insertion-tested p.trees parent node (start_reference p.trees r)
          (not_taken (cannot_take_node p.trees r node) refused valid)).opened;
    })
    (takes (cannot_take_node p.trees r node) refused valid))
for-ranges p i t c n = tt

-- Ends of turns keep the ends of ranges within their nodes.
rooms-turns : {C : World → Type 0} → KeepsTurns C AllRooms
rooms-turns =
    record {
      dispatch = λ w x related e k h. rooms-dispatch w x related e h;
      at_end = λ w k h. h;
      told = λ w o t k h. rooms-with_part (without_signals w o) (notified (part_of w o)) o (owner-part_of w o)
          (room-same (part_of w o) (notified (part_of w o)) refl refl (h o)) h;
    }

-- and so does what lines consist of
rooms-keeps : Keeps (OkFor false) IsFramed AllRooms
rooms-keeps =
    record {
      turns = rooms-turns;
      turned = λ w o e t k h. h;
      attach = λ w o x m k h. rooms-attaching w o (named (part_of w o) x) h;
      micro = λ w o label m k h. h;
      effect = λ w o c m k h. let p = part_of w o in
          let i = k.0.0.0.world.parts o in
          let t = k.1.tables o in
          rooms-effect o (ground-of w k.0.0.0.world) (effect p c) (base-effect p c) (holds-effect p i t ((whole-framed w k).first o m.there) c m.part)
          (room-effect p i (h o) c m.part (for-ranges p i t c m.part)) h;
    }

-- all that holds
abbrev IsHeld : World → Type 0
IsHeld w = IsFramed w × AllRooms w

-- is kept
held-keeps : Keeps (OkFor false) Any IsHeld
held-keeps = both-keep framed-keeps rooms-keeps

-- also by the end of a turn
held-ending_turn : (w : World) → IsHeld w → IsHeld (ending_turn w).0
held-ending_turn = kept-ending_turn held-keeps.turns (λ w s. s.0.0.0.1.owners.tasks)

-- for which the tables need not be whole
rooms-ending_turn : (w : World) → IsSound w × AllRooms w → IsSound (ending_turn w).0 × AllRooms (ending_turn w).0
rooms-ending_turn = kept-ending_turn (both-turns sound-keeps.turns rooms-turns) (λ w s. s.0.0.1.owners.tasks)

-- The laws.
all-of : {only_log : Bool} (w : World) → IsReached only_log w → IsBounded w → AllRooms w
all-of w r h o = room-of (part_of w o) (r.world.parts o) (h o)

-- as bounds, in worlds that are reached
bounded-sound : (w : World) → IsSound w → AllRooms w → IsBounded w
bounded-sound w s h o = bounds-of (part_of w o) (s.0.0.world.parts o) (h o)

-- each line
pub step-keeps_bounds : StepKeepsBounds
step-keeps_bounds b w l r i h =
    let s = kept-step held-keeps held-ending_turn w l (any-line w l) (framed-of w r i, all-of w r h) in bounded-sound (step w l).0 s.0.0 s.1

-- the ending of another component's turn
pub ending-keeps_bounds : EndingLeaves IsBounded IsBounded
ending-keeps_bounds b w o r h =
    let s = kept-ending_other rooms-ending_turn w o (sound-of w r, all-of w r h) in bounded-sound (ending_other_turn w o).0 s.0 s.1

-- the end of input
pub finish-keeps_bounds : FinishLeaves IsBounded IsBounded
finish-keeps_bounds b w r h = let s = kept-finish rooms-ending_turn w (sound-of w r, all-of w r h) in bounded-sound (finish w).0 s.0 s.1

-- the first world
rooms-first : AllRooms first_world
rooms-first Page = room-root Page Document None
rooms-first (Component k) = record { bounds = tt; leaves = λ y g. refl }

-- is bounded
pub first-is_bounded : FirstHas IsBounded
first-is_bounded = bounded-sound first_world (sound-of first_world (first-is_reached false)) rooms-first

-- scripts
pub scripts-stay_bounded : {L : Type 0} (read : L → Line) → ScriptsLeave IsBounded read
scripts-stay_bounded read ls =
    let s = kept-lines held-keeps held-ending_turn any-line read ls first_world
    (framed-of first_world (first-is_reached false) first-is_whole, rooms-first) in bounded-sound (run_lines first_world (map read ls)).0 s.0.0 s.1
