use Rattle.dom_base.proofs.Std.{◌≡◌, eqb, ◌∷◌, false, drop, filter, sym, ap, subst, ◌∙◌, fold}
use Rattle.dom_model.proofs.Model.{is_in}
use Rattle.dom_observers.specs.Definitions.{change_of, none_found, found_by, found_at, picked, found_of, is_marked, IsKey, keys_from, looked_at, path_keys}
use Rattle.dom_observers.proofs.Ascending.{climbs, proper-lack}
use Rattle.dom_observers.proofs.Watching.{gathers-first, gathers-more, gathers-fewer, gathers-all}
use Rattle.dom_observers.proofs.interested.InterestedObservers.of.Goals as goal

pub loop-at-init : goal.loop-at-init
loop-at-init c =
    let f = c.args.forest.now in
    let e = c.law_nodes_stand_once.ensures in
    let rs = c.args.registrations.now in
    let m = c.args.watched.now.above in
    let ch = change_of c.args.change.now in
    let step = found_at rs c.args.watched.now ch in
    let t = c.target-target.result in
    let node = subst (IsKey f.names) (sym c.target-target.ensures) c.requires in
    gathers-first step c.nearest_above-at.ensures
    (ap (λ b. fold step b (filter (is_marked m) (keys_from f c.parent.result)))
    (c.in_ok-add_from.ensures
    ∙ (ap (λ b. fold (found_by ch) b (picked rs c.places.result.now)) c.new-interested.ensures
    ∙ ap (λ ps. fold (found_by ch) none_found (picked rs ps)) c.places.ensures))
    ∙ (ap (λ ks. fold step none_found (t ∷ filter (is_marked m) ks))
    (sym (ap (drop 1) (climbs f e.once e.only e.distinct t c.parent.result node c.parent.ensures.value)))
    ∙ ap (λ k. fold step none_found (looked_at f m k)) c.target-target.ensures))

pub loop-at-smaller : goal.loop-at-smaller
loop-at-smaller c =
    let e = c.law_nodes_stand_once.ensures in
    gathers-fewer (found_at c.args.registrations.now c.args.watched.now (change_of c.args.change.now)) e.once e.only e.distinct c.loop-at.invariant
    c.in-Some.is c.parent-in-Some.ensures.value c.nearest_above-at-in-Some.ensures

pub loop-at-preserved : goal.loop-at-preserved
loop-at-preserved c =
    let e = c.law_nodes_stand_once.ensures in
    let rs = c.args.registrations.now in
    let ch = change_of c.args.change.now in
    gathers-more (found_at rs c.args.watched.now ch) e.once e.only e.distinct c.loop-at.invariant c.in-Some.is c.parent-in-Some.ensures.value
    c.nearest_above-at-in-Some.ensures
    (c.in_ok-add_from-2.ensures ∙ ap (λ ps. fold (found_by ch) (found_of c.loop-at.interested) (picked rs ps)) c.places-in-Some.ensures)

pub returns : goal.returns
returns c =
    let f = c.args.forest.now in
    let e = c.law_nodes_stand_once.ensures in
    let t = c.target-target.result in
    let up = c.parent.result in
    let node = subst (IsKey f.names) (sym c.target-target.ensures) c.requires in
    let path = climbs f e.once e.only e.distinct t up node c.parent.ensures.value in
    record {
      found = gathers-all (found_at c.args.registrations.now c.args.watched.now (change_of c.args.change.now)) c.loop-at.invariant c.in_default.is;
      first = subst (λ k. path_keys f k ≡ k ∷ drop 1 (path_keys f k)) c.target-target.ensures (path ∙ ap (λ ks. t ∷ ks) (sym (ap (drop 1) path)));
      once = subst (λ k. is_in eqb k (drop 1 (path_keys f k)) ≡ false) c.target-target.ensures
          (ap (λ ks. is_in eqb t (drop 1 ks)) path ∙ proper-lack f e.once e.only t up c.parent.ensures.node c.parent.ensures.above);
    }
