use Rattle.dom_dispatch.proofs.Cited.{◌≡◌, ◌<◌, ◌-◌, suc, true, nat_eq, length, reverse, subst, sym, arith, visit_of, after_invoke, event_words, dispatching_in}
use Rattle.dom_dispatch.proofs.Cited.{NoneHears}
use Rattle.dom_dispatch.proofs.Visiting.{captured-more, silent, view-there}
use Rattle.dom_dispatch.proofs.listeners.Listeners.capture.Goals as goal

pub returns-then-not-may_hear-clause-visits : goal.returns-then-not-may_hear-clause-visits
returns-then-not-may_hear-clause-visits c =
    sym (silent (event_words c.args.event.now) true nat_eq (dispatching_in c.args.self.now c.args.so_far.now)
    (subst (λ text. NoneHears text true c.args.self.now) c.as_str.ensures.value (c.may_hear.ensures c.if-not-may_hear.true)) (reverse c.args.path.now.views))

pub loop-at-preserved : goal.loop-at-preserved
loop-at-preserved c =
    let path = c.args.path.now in
    let within : c.loop-at.at - 1 < length path.items = omega (arith, c.loop-at.invariant.within) in
    let next : c.loop-at.at ≡ suc (c.loop-at.at - 1) = omega arith in
    let v = view-there path.trees path.items path.views c.items-at.ensures.views (c.loop-at.at - 1) within in
    record {
      within = omega (arith, c.loop-at.invariant.within);
      visits = captured-more (after_invoke nat_eq (event_words c.args.event.now)) (visit_of nat_eq true) path.views next v.1
          (dispatching_in c.args.self.now c.args.so_far.now)
          c.loop-at.invariant.visits (c.in_ok-visit.ensures.visit v.0 v.1);
      shown = c.in_ok-visit.ensures.shown;
      lines = c.in_ok-visit.ensures.lines;
    }
