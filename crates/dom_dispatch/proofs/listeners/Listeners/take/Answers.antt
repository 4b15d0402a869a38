use Rattle.dom_dispatch.proofs.Cited.{◌≡◌, ℕ, Bool, true, nat_eq, not, filter, subst, sym, ◌∙◌, Listener, is_listener}
use Rattle.dom_dispatch.proofs.Cited.{listeners_in, present, is_of_type, is_noted, HasTypes, all-filter}
use Rattle.dom_dispatch.proofs.Placing.{listens-of, none-pass, wider-passes}
use Rattle.dom_dispatch.proofs.listeners.Listeners.take.Goals as goal

pub take-requires-clause-there : goal.take-requires-clause-there
take-requires-clause-there c = wider-passes (is_listener nat_eq c.args.node c.args.event.now c.args.label.now c.args.capture)
    (is_of_type c.args.node c.args.event.now) (λ l h. listens-of c.args.node c.args.event.now c.args.label.now c.args.capture l h)
    c.loop-place.self-inside.table.entries.items c.in-Some.place c.in-Some.ensures.found

pub invariant_of-self : goal.invariant_of-self
invariant_of-self c =
    let p : Listener ℕ → Bool = is_listener nat_eq c.args.node c.args.event.now c.args.label.now c.args.capture in
    let types = c.loop-place.self-inside.types in
    let now = listeners_in (present c.loop-place.self-inside.table.entries.items) in
    let is : now ≡ filter (λ l. not (p l)) c.args.self.now =
    sym (none-pass p now (sym c.in_default.ensures.there)) ∙ c.loop-place.invariant.others in
    record {
      indexed = c.loop-place.invariant.indexed;
      typed = subst (HasTypes types) (sym is) (all-filter (λ (l : Listener ℕ). is_noted types l.words.capture l.words.event ≡ true) (λ l. not (p l))
          c.args.self.now c.loop-place.invariant.typed);
    }

pub returns : goal.returns
returns c =
    let p : Listener ℕ → Bool = is_listener nat_eq c.args.node c.args.event.now c.args.label.now c.args.capture in
    sym (none-pass p (listeners_in (present c.loop-place.self-inside.table.entries.items)) (sym c.in_default.ensures.there)) ∙ c.loop-place.invariant.others
