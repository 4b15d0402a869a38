use Rattle.dom_base.proofs.Std.{◌≡◌, ◌++◌, ◌∷◌, [], true, false, List, sym, ◌∙◌, subst, list_any, cond-true}
use Rattle.dom_model.proofs.Model.{Task, notify_task, is_notify_of}
use Rattle.dom_microtasks.proofs.Waiting.{queued, not_queued}
use Rattle.dom_microtasks.proofs.Queue.push_notify.Goals as goal

pub returns-then-get-ne0-clause-ok : goal.returns-then-get-ne0-clause-ok
returns-then-get-ne0-clause-ok c =
    let o = c.args.owner in
    let there = subst (λ (ts : List Task). list_any (is_notify_of o) ts ≡ true) c.self.view_is
    (queued c.self.inside c.self.invariant o (λ e. c.if-get-ne0.true (c.get.ensures ∙ e))) in
    sym (cond-true (list_any (is_notify_of o) c.args.self.now) c.args.self.now (c.args.self.now ++ notify_task o ∷ []) there)

pub push_first_notify-requires : goal.push_first_notify-requires
push_first_notify-requires c =
    subst (λ (ts : List Task). list_any (is_notify_of c.args.owner) ts ≡ false) c.self.view_is
    (not_queued c.self.inside c.self.invariant c.args.owner (sym c.get.ensures ∙ c.if-get-ne0.false))
