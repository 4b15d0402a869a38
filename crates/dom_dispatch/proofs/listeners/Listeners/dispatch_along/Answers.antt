use Rattle.dom_dispatch.proofs.Cited.{◌≡◌, ℕ, ◌||◌, true, false, not, nat_eq, map, filter, fold, reverse, ap, subst, sym, ◌∙◌, AllByRecursion, fold-append}
use Rattle.dom_dispatch.proofs.Cited.{visit_of, is_at_target, Dispatching, after_invoke, begun, event_words, dispatching_in, HasPathOf, IsLineAlong, IsOwnLine}
use Rattle.dom_dispatch.proofs.Cited.{paths_of, dispatch_along, all-then}
use Rattle.dom_dispatch.proofs.Visiting.{dispatched-in}
use Rattle.dom_dispatch.proofs.listeners.Listeners.dispatch_along.Goals as goal

pub capture-requires-clause-lines : goal.capture-requires-clause-lines
capture-requires-clause-lines c =
    subst (AllByRecursion (IsLineAlong c.args.forest.now.names (paths_of c.in_ok-path.path))) (sym c.new-so_far.ensures.lines) tt

pub capture-requires-clause-shown : goal.capture-requires-clause-shown
capture-requires-clause-shown c = c.new-handed.ensures c.in_ok-path.path

pub returns-clause-keys : goal.returns-clause-keys
returns-clause-keys c =
    let e = event_words c.args.event in
    let before = c.args.self.now in
    let views = c.in_ok-path.path.views in
    let step = after_invoke nat_eq e in
    let down = map (visit_of nat_eq true) (reverse views) in
    let up = map (visit_of nat_eq false) (filter (λ v. e.bubbles || is_at_target nat_eq v) views) in
    let whole : dispatching_in c.bubble.new.self c.bubble.new.so_far ≡ dispatch_along before e views =
    c.in_ok-bubble.ensures.visits
    ∙ ap (λ d. fold step d up) (c.in_ok-capture.ensures.visits
    ∙ ap (λ d. fold step d down) ((λ j. dispatching_in (c.take_room-items.ensures j) c.new-so_far.result) ∙ c.new-so_far.ensures.begins before))
    ∙ sym (fold-append step (begun before) down up) in
    record {
      shown = views;
      nodes = c.in_ok-path.ensures.shown_nodes;
      path = c.in_ok-path.ensures.views;
      hosted = λ depth hosted. (c.in_ok-path.ensures.hosted depth hosted).shown;
      listeners = c.keep_room.ensures ∙ ap (λ (d : Dispatching ℕ). d.listeners) whole;
      lines = ap (λ (d : Dispatching ℕ). d.lines) whole;
      answer = ap (λ (d : Dispatching ℕ). not d.cancelled) whole;
    }

pub returns-clause-names : goal.returns-clause-names
returns-clause-names c =
    dispatched-in c.law_nodes_stand_once.ensures.distinct (returns-clause-keys c)

pub returns-clause-owners : goal.returns-clause-owners
returns-clause-owners c =
    let names = c.args.forest.now.names in
    all-then (IsLineAlong names (paths_of c.in_ok-path.path)) (IsOwnLine names) (λ l h. h.0) _ c.in_ok-bubble.ensures.lines

pub returns-clause-numbered : goal.returns-clause-numbered
returns-clause-numbered c = record {
  paths = paths_of c.in_ok-path.path;
  each = all-then (IsLineAlong c.args.forest.now.names (paths_of c.in_ok-path.path)) (HasPathOf (paths_of c.in_ok-path.path)) (λ l h. h.1) _
      c.in_ok-bubble.ensures.lines;
}
