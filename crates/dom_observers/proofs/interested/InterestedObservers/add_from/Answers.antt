use Rattle.dom_base.proofs.Std.{◌≡◌, ℕ, Option, Some, None, nat_eq, [], get_or, sym, ap, ◌∙◌, arith, fold, cons_option, cond-true, cond-false}
use Rattle.dom_model.proofs.Model.{Registration, fits, asks_for_old}
use Rattle.dom_observers.specs.Definitions.{words_of, change_of, registration_of, there_in, found_by, and_found, found_of}
use Rattle.dom_observers.proofs.Watching.{picked-next, read}
use Rattle.dom_observers.proofs.interested.InterestedObservers.add_from.Goals as goal
use Rattle.dom_observers.proofs.interested.InterestedObservers.add_from.Goals.{in-Some+then-fits+in_ok-add, in-Some+else-fits, in_default}

pub loop-place-preserved : goal.loop-place-preserved
loop-place-preserved c =
    let ch = change_of c.args.change.now in
    let f = found_by ch in
    let rs = c.args.registrations.now in
    let places = c.args.places.now in
    let i = c.loop-place.place-index in
    let before = found_of c.loop-place.self in
    let there = λ (o : Option (Registration ℕ)). fold f before (cons_option o []) in
    let here : found_of c.match-there_at.self ≡ fold f before (cons_option (there_in rs (get_or places i 0)) []) =
    elim c.match-there_at.branch [
      | in-Some+then-fits+in_ok-add w ↦
          let item = registration_of w.in-Some.registered.now in
          let more = and_found before item.observer (asks_for_old item.options ch) in
          ap found_of w.self-is
          ∙ (w.in_ok-add.ensures
          ∙ (ap (and_found before item.observer) (w.ask_for_old.ensures ∙ ap (λ o. asks_for_old (words_of o) ch) w.deref.ensures)
          ∙ (sym (cond-true (fits nat_eq ch item) more before (sym w.fits.ensures ∙ w.if-fits.true))
          ∙ sym (ap there (read rs (get_or places i 0) (Some w.in-Some.registered) w.in-Some.is c.there_at.ensures)))))
      | in-Some+else-fits w ↦
          let item = registration_of w.in-Some.registered.now in
          ap found_of w.self-is
          ∙ (sym (cond-false (fits nat_eq ch item) (and_found before item.observer (asks_for_old item.options ch)) before
          (sym w.fits.ensures ∙ w.if-fits.false))
          ∙ sym (ap there (read rs (get_or places i 0) (Some w.in-Some.registered) w.in-Some.is c.there_at.ensures)))
      | in_default w ↦ ap found_of w.self-is ∙ sym (ap there (read rs (get_or places i 0) None w.in_default.is c.there_at.ensures))
    ] in
    here
    ∙ (ap (λ b. fold f b (cons_option (there_in rs (get_or places i 0)) [])) c.loop-place.invariant
    ∙ sym (picked-next rs places i (omega arith) f (found_of c.args.self.now)))
