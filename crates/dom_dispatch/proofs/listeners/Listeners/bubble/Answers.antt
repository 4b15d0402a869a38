use Rattle.dom_dispatch.proofs.Cited.{◌≡◌, ℕ, ◌||◌, Bool, true, false, cond, nat_eq, filter, length, Some, ap, subst, sym, ◌∙◌, arith, rules, tests, slice_get}
use Rattle.dom_dispatch.proofs.Cited.{AllByRecursion, cond-true, cond-false, visit_of, is_at_target, after_invoke, View, view_in, event_words, dispatching_in}
use Rattle.dom_dispatch.proofs.Cited.{IsLineAlong, IsShownOf, paths_of, NoneHears}
use Rattle.dom_dispatch.proofs.Visiting.{bubbled-more, silent, view-is}
use Rattle.dom_dispatch.proofs.listeners.Listeners.bubble.Goals.{then-event+in_ok-visit, then-event-via-then-event, then-event-via-else-event+then-eq}
use Rattle.dom_dispatch.proofs.listeners.Listeners.bubble.Goals.{else-event+else-eq}
use Rattle.dom_dispatch.proofs.listeners.Listeners.bubble.Goals as goal

pub returns-then-not-may_bubble-clause-visits : goal.returns-then-not-may_bubble-clause-visits
returns-then-not-may_bubble-clause-visits c =
    sym (silent (event_words c.args.event.now) false nat_eq (dispatching_in c.args.self.now c.args.so_far.now)
    (subst (λ text. NoneHears text false c.args.self.now) c.as_str.ensures.value (c.may_bubble.ensures c.if-not-may_bubble.true))
    (filter (λ v. c.args.event.now.bubbles || is_at_target nat_eq v) c.args.path.now.views))

pub loop-at-preserved : goal.loop-at-preserved
loop-at-preserved c =
    let path = c.args.path.now in
    let i = c.loop-at.at in
    let item = c.index-items-at.result in
    let step = after_invoke nat_eq (event_words c.args.event.now) in
    let same : length c.items-at-end.result.now ≡ length path.items = ap length c.items-at-end.ensures.items in
    let v = view_in path.trees path.items item in
    let at : slice_get path.views i ≡ Some v = view-is path.trees path.items path.views c.items.ensures.views i (omega (arith, same)) c.items.ensures.items
    c.index-items-at.is in
    let test : View ℕ → Bool = λ v. c.args.event.now.bubbles || is_at_target nat_eq v in
    let before = dispatching_in c.loop-at.self c.loop-at.so_far in
    let after : dispatching_in c.if-event.self c.if-event.so_far ≡ cond (test v) (step before (visit_of nat_eq false v)) before =
    elim c.if-event.branch [
      | then-event+in_ok-visit w ↦
          let passes : test v ≡ true = elim w.then-event.branch [
            | then-event-via-then-event w' ↦ search (rules, tests)
            | then-event-via-else-event+then-eq w' ↦ search (rules, tests)
          ] in
          (λ j. dispatching_in (w.self-is j) (w.so_far-is j)) ∙ w.in_ok-visit.ensures.visit v at ∙
          sym (cond-true (test v) (step before (visit_of nat_eq false v)) before passes)
      | else-event+else-eq w ↦
          let fails : test v ≡ false = search (rules, tests) in
          (λ j. dispatching_in (w.self-is j) (w.so_far-is j)) ∙ sym (cond-false (test v) (step before (visit_of nat_eq false v)) before fails)
    ] in
    record {
      visits = bubbled-more step (visit_of nat_eq false) path.views test i at (dispatching_in c.args.self.now c.args.so_far.now)
          c.loop-at.invariant.visits after;
      shown = elim c.if-event.branch [
        | then-event+in_ok-visit w ↦ subst (λ h. IsShownOf path h.shown) (sym w.handed-is) w.in_ok-visit.ensures.shown
        | else-event+else-eq w ↦ subst (λ h. IsShownOf path h.shown) (sym w.handed-is) c.loop-at.invariant.shown
      ];
      lines = elim c.if-event.branch [
        | then-event+in_ok-visit w ↦ subst (λ p. AllByRecursion (IsLineAlong c.args.forest.now.names (paths_of path)) p.lines.items) (sym w.so_far-is)
            w.in_ok-visit.ensures.lines
        | else-event+else-eq w ↦ subst (λ p. AllByRecursion (IsLineAlong c.args.forest.now.names (paths_of path)) p.lines.items) (sym w.so_far-is)
            c.loop-at.invariant.lines
      ];
    }
