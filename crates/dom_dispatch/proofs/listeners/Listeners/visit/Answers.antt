-- Those that were heard at an item's node are those that hear the visit there.
use Rattle.dom_dispatch.proofs.Cited.{◌≡◌, [], filter, ap, sym, ◌∙◌, arith, common_steps, on_ok_weaker, hears_at, listeners_in, event_words}
use Rattle.dom_dispatch.proofs.Cited.{dispatching_in}
use Rattle.dom_dispatch.proofs.Visiting.{view-is, visited-calls}
use Rattle.dom_dispatch.proofs.listeners.Listeners.visit.Goals as goal

pub returns-then-is_empty-clause-visit : goal.returns-then-is_empty-clause-visit
returns-then-is_empty-clause-visit c = λ view at.
    let path = c.args.path.now in
    let none : c.heard.new.heard.items ≡ [] = grind (arith, common_steps) in
    let heard = c.in_ok-heard.ensures
    ∙ (λ j. filter (hears_at (sym c.index-items-at.is j).node (c.as_str.ensures.value j) c.args.capturing) c.args.self.now) in
    visited-calls (event_words c.args.event.now) c.args.capturing (dispatching_in c.args.self.now c.args.so_far.now) [] c.if-so_far.false
    (sym (ap listeners_in none) ∙ heard)
    (sym (view-is path.trees path.items path.views c.items.ensures.views c.args.at c.requires.within c.items.ensures.items c.index-items-at.is) ∙ at)

pub returns-clause-visit : goal.returns-clause-visit
returns-clause-visit c =
    on_ok_weaker c.hear.result (λ calls view at.
    let path = c.args.path.now in
    let there = view-is path.trees path.items path.views c.items.ensures.views c.args.at c.requires.within c.items.ensures.items c.index-items-at.is in
    let heard = c.in_ok-heard.ensures
    ∙ (λ j. filter (hears_at (sym c.index-items-at.is j).node (c.as_str.ensures.value j) c.args.capturing) c.args.self.now) in
    calls _ there
    ∙ visited-calls (event_words c.args.event.now) c.args.capturing (dispatching_in c.args.self.now c.args.so_far.now)
    (listeners_in c.heard.new.heard.items) c.if-so_far.false heard (sym there ∙ at)) c.hear.ensures.calls
