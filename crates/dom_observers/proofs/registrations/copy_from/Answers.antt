use Rattle.dom_base.proofs.Std.{◌≡◌, ℕ, ◌++◌, ◌∷◌, [], Option, Some, None, map, get_or, sym, ap, ◌∙◌, subst, arith, fold, cons_option, cond-true, cond-false}
use Rattle.dom_base.proofs.Std.{map_push}
use Rattle.dom_model.proofs.Model.{Registration}
use Rattle.dom_observers.specs.declared.options.Options.{Options}
use Rattle.dom_observers.specs.Definitions.{registration_of, there_in, AreThere, transient_copy, copied_by}
use Rattle.dom_observers.proofs.Leaving.{AreThere-push}
use Rattle.dom_observers.proofs.Watching.{picked-next, read}
use Rattle.dom_observers.proofs.registrations.copy_from.Goals as goal
use Rattle.dom_observers.proofs.registrations.copy_from.Goals.{in-Some+then-deref+in_ok-copied_to+in_ok-push, in-Some+else-deref, in_default}

pub loop-place-preserved : goal.loop-place-preserved
loop-place-preserved c =
    let f = copied_by c.args.node in
    let rs = c.args.registrations.now in
    let places = c.args.places.now in
    let i = c.loop-place.place-index in
    let before = map registration_of c.loop-place.copies.items in
    let there = λ (o : Option (Registration ℕ)). fold f before (cons_option o []) in
    let here : map registration_of c.match-there_at.copies.items ≡ fold f before (cons_option (there_in rs (get_or places i 0)) []) =
    elim c.match-there_at.branch [
      | in-Some+then-deref+in_ok-copied_to+in_ok-push w ↦
          let item = registration_of w.in-Some.registered.now in
          ap (λ copies. map registration_of copies.items) w.copies-is
          ∙ (ap (map registration_of) w.in_ok-push.ensures.items
          ∙ (map_push registration_of c.loop-place.copies.items _
          ∙ (ap (λ r. before ++ r ∷ []) w.in_ok-copied_to.ensures.copy
          ∙ (sym (cond-true item.options.subtree (before ++ transient_copy c.args.node item ∷ []) before
          (ap (λ (o : Options). o.subtree) (sym w.deref.ensures) ∙ w.if-deref.true))
          ∙ sym (ap there (read rs (get_or places i 0) (Some w.in-Some.registered) w.in-Some.is c.there_at.ensures))))))
      | in-Some+else-deref w ↦
          let item = registration_of w.in-Some.registered.now in
          ap (λ copies. map registration_of copies.items) w.copies-is
          ∙ (sym (cond-false item.options.subtree (before ++ transient_copy c.args.node item ∷ []) before
          (ap (λ (o : Options). o.subtree) (sym w.deref.ensures) ∙ w.if-deref.false))
          ∙ sym (ap there (read rs (get_or places i 0) (Some w.in-Some.registered) w.in-Some.is c.there_at.ensures)))
      | in_default w ↦ ap (λ copies. map registration_of copies.items) w.copies-is
          ∙ sym (ap there (read rs (get_or places i 0) None w.in_default.is c.there_at.ensures))
    ] in
    record {
      there = elim c.match-there_at.branch [
        | in-Some+then-deref+in_ok-copied_to+in_ok-push w ↦
            subst AreThere (sym (ap (λ v. v.items) w.copies-is ∙ w.in_ok-push.ensures.items))
            (AreThere-push c.loop-place.copies.items _ w.in_ok-copied_to.ensures.there c.loop-place.invariant.there)
        | in-Some+else-deref w ↦ subst (λ copies. AreThere copies.items) (sym w.copies-is) c.loop-place.invariant.there
        | in_default w ↦ subst (λ copies. AreThere copies.items) (sym w.copies-is) c.loop-place.invariant.there
      ];
      copies =
          here
          ∙ (ap (λ b. fold f b (cons_option (there_in rs (get_or places i 0)) [])) c.loop-place.invariant.copies
          ∙ sym (picked-next rs places i (omega arith) f (map registration_of c.args.copies.now.items)));
    }
