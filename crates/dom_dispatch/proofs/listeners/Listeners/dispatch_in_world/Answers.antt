use Rattle.dom_dispatch.proofs.Cited.{true, [], map, refl, sym, ap, subst, AllByRecursion, IfOk-weaker, event_words, line_in, HasPathOf, NoneHears}
use Rattle.dom_dispatch.proofs.Visiting.{unheard-in}
use Rattle.dom_dispatch.proofs.listeners.Listeners.dispatch_in_world.Goals as goal

pub returns-then-is_unheard-clause-keys : goal.returns-then-is_unheard-clause-keys
returns-then-is_unheard-clause-keys c =
    record { shown = []; nodes = tt; listeners = refl; lines = ap (map line_in) c.new-lines.ensures.items; answer = refl }

pub returns-then-is_unheard-clause-names : goal.returns-then-is_unheard-clause-names
returns-then-is_unheard-clause-names c = λ at.
    unheard-in c.args.forest.now c.args.slots.now.hosts c.args.target c.args.event.related c.args.self.now (event_words c.args.event)
    (record { lines = c.new-lines.result; answer = true })
    (λ capturing. subst (λ text. NoneHears text capturing c.args.self.now) c.as_str-name.ensures.value (c.is_unheard.ensures c.if-is_unheard.true capturing))
    c.new-lines.ensures.items refl

pub returns-then-is_unheard-clause-numbered : goal.returns-then-is_unheard-clause-numbered
returns-then-is_unheard-clause-numbered c =
    record { paths = λ at. []; each = subst (AllByRecursion (HasPathOf (λ at. []))) (sym c.new-lines.ensures.items) tt }

pub returns-clause-keys : goal.returns-clause-keys
returns-clause-keys c = IfOk-weaker c.dispatch_along.result _ _ (λ outcome d.
    record { shown = d.shown; nodes = d.nodes; listeners = d.listeners; lines = d.lines; answer = d.answer }) c.dispatch_along.ensures.keys
