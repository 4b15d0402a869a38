use Rattle.dom_base.proofs.Std.{◌≡◌, ◌∙◌, ap, ap₂, sym, not, Bool, false, ◌&&◌, list_any}
use Rattle.dom_model.specs.Names.{is_empty}
use Rattle.dom_model.specs.Part.{queue_of}
use Rattle.dom_model.specs.World.{World, part_of}
use Rattle.dom_live.specs.Documents.{Live}
use Rattle.dom_live.specs.SmallSteps.{is_observer}
use Rattle.dom_callbacks.specs.declared.frames.Frame.TheVariants as frames
use Rattle.dom_callbacks.specs.Views.{notification_view}
use Rattle.dom_callbacks.specs.States.{live_of}
use Rattle.dom_callbacks.proofs.NotificationRuns.{is_told, told-live, told-plain, with_documents}
use Rattle.dom_callbacks.proofs.Readiness.{all-stay, slots-stay}
use Rattle.dom_callbacks.proofs.Views.{bare-state}
use Rattle.dom_callbacks.proofs.state.LiveState.tell_next.Goals.{else-is_live-via-then-is_live+else-any, else-is_live-via-else-is_live}
use Rattle.dom_callbacks.proofs.state.LiveState.tell_next.Goals as goal

pub push-requires-clause-ready : goal.push-requires-clause-ready
push-requires-clause-ready g c =
    all-stay (g.D.Documents.world c.args.self.now.documents) (g.D.Documents.world c.tell_observer.new.self) c.in_ok-any.ensures.nodes
    c.args.self.now.frames.items c.requires.ready

pub push-requires-clause-slots : goal.push-requires-clause-slots
push-requires-clause-slots g c =
    slots-stay (g.D.Documents.world c.args.self.now.documents) (g.D.Documents.world c.tell_observer.new.self) c.in_ok-any.ensures.nodes
    (frames.Notification c.args.notification) c.requires.slots

pub push-requires-2-clause-ready : goal.push-requires-2-clause-ready
push-requires-2-clause-ready g c =
    all-stay (g.D.Documents.world c.args.self.now.documents) (g.D.Documents.world c.tell_observer.new.self) c.in_ok-any.ensures.nodes
    c.args.self.now.frames.items c.requires.ready

pub push-requires-2-clause-slots : goal.push-requires-2-clause-slots
push-requires-2-clause-slots g c =
    slots-stay (g.D.Documents.world c.args.self.now.documents) (g.D.Documents.world c.tell_observer.new.self) c.in_ok-any.ensures.nodes
    (frames.Notification c.args.notification) c.requires.slots

-- whether the owner is called, by the two tests of the code
tests : {live any x y d e : Bool} → live ≡ x → any ≡ y → live ≡ d → any ≡ e → (x && y) ≡ (d && e)
tests l a d e = ap₂ (λ s t. s && t) (sym l ∙ d) (sym a ∙ e)

-- of which the first fails
first : {live x : Bool} (y : Bool) → live ≡ x → live ≡ false → (x && y) ≡ false
first y l d = ap (λ s. s && y) (sym l ∙ d)

pub returns-then-any-clause-ran : goal.returns-then-any-clause-ran
returns-then-any-clause-ran g c =
    let s = live_of g.D.Documents.world c.args.self.now in
    let w = g.D.Documents.world c.tell_observer.new.self in
    let n = notification_view c.args.notification in
    told-live g.A.Answers.adds s (with_documents s w) (live_of g.D.Documents.world c.push.new.self) n c.args.observer c.args.answer.now
    c.tell_observer.new.answer (ap (λ (t : Live World). with_documents t w) (bare-state g.D.Documents.world c.args.self.now))
    (ap (with_documents s) c.in_ok-any.ensures.world) c.in_ok-push.ensures.state
    (tests (c.is_live_observer-is_live.ensures ∙ ap (list_any (is_observer n.owner c.args.observer)) c.as_slice.ensures.value)
    c.in_ok-any.ensures.any c.if-is_live.true c.if-any.true)
    c.in_ok-any.ensures.told

pub returns-clause-ran : goal.returns-clause-ran
returns-clause-ran g c =
    let s = live_of g.D.Documents.world c.args.self.now in
    let w = g.D.Documents.world c.tell_observer.new.self in
    let n = notification_view c.args.notification in
    let live = c.is_live_observer-is_live.ensures ∙ ap (list_any (is_observer n.owner c.args.observer)) c.as_slice.ensures.value in
    let plain : is_told s n c.args.observer ≡ false = elim c.else-is_live.branch [
      | else-is_live-via-then-is_live+else-any r ↦ tests live c.in_ok-any.ensures.any r.if-is_live.true r.if-any.false
      | else-is_live-via-else-is_live r ↦ first (not (is_empty (queue_of (part_of s.documents n.owner).record_queues c.args.observer))) live r.if-is_live.false
    ] in
    told-plain g.A.Answers.adds s (with_documents s w) (live_of g.D.Documents.world c.push-2.new.self) n c.args.observer c.args.answer.now
    c.tell_observer.new.answer (ap (λ (t : Live World). with_documents t w) (bare-state g.D.Documents.world c.args.self.now))
    (ap (with_documents s) c.in_ok-any.ensures.world) c.in_ok-push-2.ensures.state plain c.in_ok-any.ensures.told
