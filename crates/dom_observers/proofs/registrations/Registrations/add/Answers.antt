use Rattle.dom_base.proofs.Std.{◌++◌, ◌∷◌, [], false, nat_eq, refl, sym, ap, ◌∙◌, subst, list_any, filter_map-append}
use Rattle.dom_model.proofs.Model.{is_asked_for}
use Rattle.dom_observers.specs.declared.registered.Registered.{Registered}
use Rattle.dom_observers.specs.declared.registered.Source.TheVariants.{AskedFor}
use Rattle.dom_observers.specs.Definitions.{words_of, registration_of, unless_gone, those_there, AreKept}
use Rattle.dom_observers.proofs.Keeping.{kept-append}
use Rattle.dom_observers.proofs.Once.{once-new}
use Rattle.dom_observers.proofs.registrations.Registrations.add.Goals as goal

pub invariant_of-self-2 : goal.invariant_of-self-2
invariant_of-self-2 c =
    let r : Registered = record { node = c.args.node; observer = c.args.observer; options = c.args.options; source = AskedFor; has_gone = false } in
    subst (AreKept c.self.inside.watched c.self.inside.gone) (sym c.in_ok-push.ensures.items)
    (kept-append c.self.invariant (r ∷ []) refl
    (once-new c.args.observer c.args.node (words_of c.args.options.value) (those_there c.self.inside.list.items)
    (ap (list_any (is_asked_for nat_eq c.args.observer c.args.node)) c.self.view_is ∙ c.requires) c.self.invariant.once))

pub returns-clause-ok : goal.returns-clause-ok
returns-clause-ok c =
    let r : Registered = record { node = c.args.node; observer = c.args.observer; options = c.args.options; source = AskedFor; has_gone = false } in
    ap those_there c.in_ok-push.ensures.items
    ∙ (filter_map-append unless_gone c.self.inside.list.items (r ∷ []) ∙ ap (λ rs. rs ++ registration_of r ∷ []) c.self.view_is)
