use Rattle.dom_base.proofs.Std.{◌≡◌, true, false, nat_eq, refl, sym, ap, ◌∙◌, subst, option_map_or}
use Rattle.dom_model.proofs.Model.{is_asked_for, with_registration}
use Rattle.dom_observers.specs.declared.options.Options.{Options}
use Rattle.dom_observers.specs.Definitions.{words_of, those_there, there_in, AreNoted, IsPlaceOf}
use Rattle.dom_observers.proofs.Leaving.{passing-read}
use Rattle.dom_observers.proofs.Renewing.{IsRenewal, renewed, kept-renewed}
use Rattle.dom_observers.proofs.Watching.{noted-now}
use Rattle.dom_observers.proofs.registrations.Registrations.observe.Goals.{After-drop-index_mut}
use Rattle.dom_observers.proofs.registrations.Registrations.observe.Goals as goal

-- the registration in the place is renewed
renews : (c : After-drop-index_mut) → IsRenewal c.args.observer c.args.node c.self.inside.list.items c.in-Some.place c.index_mut.result.now
    (record c.index_mut.result.now { options = c.args.options }) (words_of c.args.options.value)
renews c =
    let items = c.self.inside.list.items in
    let slice = c.as_slice.result.now in
    let p = is_asked_for nat_eq c.args.observer c.args.node in
    let here : option_map_or p (there_in items c.in-Some.place) false ≡ true =
    subst (λ rs. option_map_or p (there_in rs c.in-Some.place) false ≡ true) c.as_slice.ensures.value
    (subst (IsPlaceOf p slice (those_there slice)) c.in-Some.is
    (c.in_ok-place.ensures.place (subst (AreNoted c.self.inside.watched) (sym c.as_slice.ensures.value) c.self.invariant.noted))) in
    let one = passing-read p items c.in-Some.place c.index_mut.result.now here c.index_mut.ensures.value in
    record { one = one; still = one.there; new = refl }

pub invariant_of-self-in-Some : goal.invariant_of-self-in-Some
invariant_of-self-in-Some c =
    kept-renewed (renews c) c.self.invariant.once c.self.invariant
    (noted-now c.as_slice.ensures.value c.asked_for.ensures.noted c.self.invariant.noted)
    (λ e. c.in_ok-place.ensures.above (ap (λ (o : Options). o.subtree) c.deref.ensures ∙ e))

pub returns-in-Some-clause-ok : goal.returns-in-Some-clause-ok
returns-in-Some-clause-ok c =
    c.remove.ensures
    ∙ (renewed (renews c.before.before.before.before) c.self.invariant.once
    ∙ ap (with_registration nat_eq c.args.observer c.args.node (words_of c.args.options.value)) c.self.view_is)
