-- The calls are those of the visit at the item.
use Rattle.dom_dispatch.proofs.Cited.{fold, nat_eq, ap, sym, ◌∙◌, on_ok_weaker, after_inner_invoke, listeners_in, event_words, dispatching_in, paths_of}
use Rattle.dom_dispatch.proofs.listeners.Listeners.hear.Goals as goal

pub returns-clause-calls : goal.returns-clause-calls
returns-clause-calls c =
    on_ok_weaker c.call_all.result (λ calls view at.
    calls ∙ ap (λ w. fold (after_inner_invoke nat_eq (event_words c.args.event.now) w) (dispatching_in c.args.self.now c.args.so_far.now)
    (listeners_in c.args.handed.now.heard.items)) (c.of-visit.ensures.visit view at)) c.call_all.ensures.calls

pub returns-clause-lines : goal.returns-clause-lines
returns-clause-lines c =
    on_ok_weaker c.call_all.result (λ keeps.
    keeps c.args.forest.now.names (paths_of c.args.path.now) c.of-visit.ensures.owner
    (c.of-visit.ensures.path ∙ c.in_ok-shown.ensures.same ∙ ap (paths_of c.args.path.now) (sym c.of-visit.ensures.path_at)) c.requires.lines)
    c.call_all.ensures.lines
