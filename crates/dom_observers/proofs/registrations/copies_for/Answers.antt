use Rattle.dom_base.proofs.Std.{List, map, refl, sym, ap, subst, ◌∙◌, fold, filter}
use Rattle.dom_observers.specs.declared.registered.Registered.{Registered}
use Rattle.dom_observers.specs.Definitions.{registration_of, AreThere, copied_by, copied_at, is_marked, path_keys, picked}
use Rattle.dom_observers.proofs.Watching.{gathers-first, gathers-more, gathers-fewer, gathers-all}
use Rattle.dom_observers.proofs.registrations.copies_for.Goals as goal

pub loop-at-init : goal.loop-at-init
loop-at-init c =
    let marked = is_marked c.args.watched.now.above in
    let step = copied_at c.args.node c.args.registrations.now c.args.watched.now in
    record {
      there = subst AreThere (sym c.new-copies.ensures.items) refl;
      copies = gathers-first step c.nearest_above-at.ensures
          (ap (λ (copies : List Registered). fold step (map registration_of copies) (filter marked (path_keys c.args.forest.now c.args.parent)))
          c.new-copies.ensures.items);
    }

pub loop-at-smaller : goal.loop-at-smaller
loop-at-smaller c =
    let e = c.law_nodes_stand_once.ensures in
    gathers-fewer (copied_at c.args.node c.args.registrations.now c.args.watched.now) e.once e.only e.distinct c.loop-at.invariant.copies
    c.in-Some.is c.parent.ensures.value c.nearest_above-at-in-Some.ensures

pub loop-at-preserved : goal.loop-at-preserved
loop-at-preserved c =
    let e = c.law_nodes_stand_once.ensures in
    let rs = c.args.registrations.now in
    let before = map registration_of c.loop-at.copies.items in
    record {
      there = c.in_ok-copy_from.ensures.there;
      copies = gathers-more (copied_at c.args.node rs c.args.watched.now) e.once e.only e.distinct c.loop-at.invariant.copies c.in-Some.is
          c.parent.ensures.value c.nearest_above-at-in-Some.ensures
          (c.in_ok-copy_from.ensures.copies ∙ ap (λ ps. fold (copied_by c.args.node) before (picked rs ps)) c.places.ensures);
    }

pub returns-clause-copies : goal.returns-clause-copies
returns-clause-copies c =
    gathers-all (copied_at c.args.node c.args.registrations.now c.args.watched.now) c.loop-at.invariant.copies c.in_default.is
