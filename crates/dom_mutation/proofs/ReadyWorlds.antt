-- What is ready stays so in the world: an owner's plan changes its own part as it does alone, and of other parts the node documents
-- alone; and where an owner's part is written, the others stay.
use Rattle.dom_mutation.proofs.Cited.{◌≡◌, ◌≢◌, Bool, true, false, List, [], ◌∷◌, fold, Option, Some, None, sym, ◌∙◌, subst, NodeName, Owner, Plan, owner_eq}
use Rattle.dom_mutation.proofs.Cited.{max_depth, Part, signals, with_signal, Step, place, take_out, set_document, set_attribute, queue_record, part_step, after}
use Rattle.dom_mutation.proofs.Cited.{is_taken, parent_of, World, part_of, with_part, components_below, shadow_root_of, world_step, world_after}
use Rattle.dom_mutation.proofs.Cited.{with_removal_signals, with_notify_if, with_shadow_document, owner_eq-true, owner_eq-false, owner-part_of, owner-part_step}
use Rattle.dom_mutation.proofs.Cited.{part_of-stepped-other, IsPart, part-step, MadeIn, each-part, by_cases, IsReadyPart, AreReady}
use Rattle.dom_model.proofs.Model.{stepped}
use Rattle.dom_mutation.proofs.ReadyPlans.{KeepReady, ready-after, ready-document}

-- a part, and that it is ready
record IsReadyOne (p : Part) : Type 0 where
  part : IsPart p
  ready : IsReadyPart p

-- a node document leaves it so
one-document : (p : Part) (x d : NodeName) → x.owner ≡ p.owner → IsReadyOne p → IsReadyOne (part_step p (set_document x d))
one-document p x d e h =
    record {
      part = part-step p (set_document x d) h.part;
      ready = ready-after p (set_document x d ∷ []) h.part h.ready (ready-document p h.part h.ready x d e);
    }

module _ (o : Owner) where
  -- the parts of the others
  abbrev OthersReady : World → Type 0
  OthersReady w = (x : Owner) → x ≢ o → IsReadyOne (part_of w x)

  -- a step in its part
  others-stepped : (w : World) (s : Step) → OthersReady w → OthersReady (stepped o w s)
  others-stepped w s h x f = subst IsReadyOne (sym (part_of-stepped-other w o x s (λ e. f (sym e)))) (h x f)

  -- node documents of shadow trees
  others-documents : (d : NodeName) (cs : List Owner) (w : World) → OthersReady w → OthersReady (fold (with_shadow_document d) w cs)
  others-documents d [] w h = h
  others-documents d (c ∷ cs) w h =
      let s = set_document (shadow_root_of c) d in
      others-documents d cs (with_shadow_document d w c)
      (each-part (λ x q. x ≢ o → IsReadyOne q) w (part_step (part_of w c) s) c (owner-part_step (part_of w c) s ∙ owner-part_of w c)
      (λ f. one-document (part_of w c) (shadow_root_of c) d (sym (owner-part_of w c)) (h c f)) h)

  -- signals
  others-signals : (ss : List NodeName) (w : World) → OthersReady w → OthersReady (fold with_signal w ss)
  others-signals [] w h = h
  others-signals (s ∷ ss) w h = others-signals ss (with_signal w s) h

  -- the signals of a removal
  others-removal : (was now : World) (x : NodeName) (parent : Option NodeName) → OthersReady now → OthersReady (with_removal_signals was now x parent)
  others-removal was now x None h = h
  others-removal was now x (Some parent) h = others-signals (signals was now x parent true) now h

  -- a notification, if so
  others-notify : (b : Bool) (w : World) → OthersReady w → OthersReady (with_notify_if b o w)
  others-notify true w h = h
  others-notify false w h = h

  -- a step in the world
  others-step : (w : World) (s : Step) → OthersReady w → OthersReady (world_step o w s)
  others-step w (place x parent before) h =
      let now = stepped o w (place x parent before) in others-signals (signals w now x parent true) now (others-stepped w (place x parent before) h)
  others-step w (take_out x) h = others-removal w (stepped o w (take_out x)) x (parent_of (part_of w o).trees x) (others-stepped w (take_out x) h)
  others-step w (set_attribute x a v) h =
      let now = stepped o w (set_attribute x a v) in others-signals (signals w now x x false) now (others-stepped w (set_attribute x a v) h)
  others-step w (set_document x d) h = others-documents d (components_below max_depth w x) (stepped o w (set_document x d))
      (others-stepped w (set_document x d) h)
  others-step w (queue_record c) h = others-notify (is_taken (part_of w o) c) (stepped o w (queue_record c)) (others-stepped w (queue_record c) h)
  others-step w s h = others-stepped w s h

  -- many steps
  others-after : (steps : List Step) (w : World) → OthersReady w → OthersReady (world_after o w steps)
  others-after [] w h = h
  others-after (s ∷ steps) w h = others-after steps (world_step o w s) (others-step w s h)

module _ (w : World) (o : Owner) where
  -- A plan of an owner, which does in its part what it does there alone.
  pub ready-made : (plan : Plan) → ((x : Owner) → IsPart (part_of w x)) → AreReady w →
      (MadeIn (part_of w o) (plan (part_of w o)) → part_of (world_after o w (plan (part_of w o))) o ≡ after (part_of w o) (plan (part_of w o))) →
      KeepReady (part_of w o) (plan (part_of w o)) → AreReady (world_after o w (plan (part_of w o)))
  ready-made plan i h own k x =
      let p = part_of w o in
      let steps = plan p in
      by_cases (owner_eq x o)
      (λ e. subst (λ y. IsReadyPart (part_of (world_after o w steps) y)) (sym (owner_eq-true x o e))
      (subst IsReadyPart (sym (own k.made)) (ready-after p steps (i o) (h o) k)))
      (λ e. (others-after o steps w (λ y f. record { part = i y; ready = h y }) x (owner_eq-false x o e)).ready)

  -- A part that is written.
  pub ready-written : (p : Part) → p.owner ≡ o → IsReadyPart p → AreReady w → AreReady (with_part w p)
  ready-written p e h r = each-part (λ x q. IsReadyPart q) w p o e h r
