use Rattle.dom_base.proofs.Std.{◌≡◌, ◌+◌, ◌&&◌, ◌++◌, ◌∷◌, [], true, eqb, cond, map, get_or, refl, sym, ap, ◌∙◌, subst, arith, get_or-map}
use Rattle.dom_model.proofs.Model.{is_in}
use Rattle.dom_observers.specs.declared.options.Options.{Options}
use Rattle.dom_observers.specs.declared.owned.Owned.{Owned}
use Rattle.dom_observers.specs.Definitions.{registration_of, places_at, is_marked, among}
use Rattle.dom_observers.proofs.Watching.{noted-next}
use Rattle.dom_observers.proofs.watched.Watched.note_each.Goals as goal

pub loop-place-preserved : goal.loop-place-preserved
loop-place-preserved c =
    let items = c.args.registrations.now in
    let i = c.loop-place.place in
    let item = c.index-registrations-place.result in
    let before = c.loop-place.self in
    let next = c.loop-place.invariant.next in
    let short = c.loop-place-test.true in
    record {
      next = refl;
      noted = λ was.
          noted-next (c.loop-place.invariant.noted was) (registration_of item) (omega (arith, next, short))
          (ap (λ n. get_or (map registration_of items) n (registration_of item)) next
          ∙ (get_or-map registration_of items i item (registration_of item) (omega (arith, short)) ∙ ap registration_of (sym c.index-registrations-place.is)))
          (record {
            places = λ x.
                c.in_ok-add-2.ensures.places x ∙ ap (λ n. cond (eqb item.node x) (places_at before x ++ n ∷ []) (places_at before x)) (sym next);
            above = λ x.
                c.in_ok-add-2.ensures.above x
                ∙ ap (λ (o : Options). cond (o.subtree && eqb item.node x) true (is_marked before.above x)) c.deref.ensures;
            noted = ap (λ n. n + 1) (sym next);
            stay = λ removal j e.
                subst (λ (o : Owned). is_in eqb j (among o removal) ≡ true) (sym c.add-in-loop-place.ensures.owned) (c.add.ensures.stay removal j e);
            found = λ removal is.
                subst (λ (o : Owned). is_in eqb before.noted (among o removal) ≡ true) (sym c.add-in-loop-place.ensures.owned)
                (subst (λ n. is_in eqb n (among c.add.new.self removal) ≡ true) (sym next) (c.in_ok-add.ensures.found removal is));
          });
    }
