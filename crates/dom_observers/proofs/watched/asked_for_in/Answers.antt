use Rattle.dom_base.proofs.Std.{Some, None, false, nat_eq, get_or, refl, sym, ap, ◌∙◌, arith, list_any, option_map_or, or_from, take_all}
use Rattle.dom_model.proofs.Model.{is_asked_for}
use Rattle.dom_observers.specs.Definitions.{registration_of, picked}
use Rattle.dom_observers.proofs.Watching.{read, none-next}
use Rattle.dom_observers.proofs.watched.asked_for_in.Goals as goal
use Rattle.dom_observers.proofs.watched.asked_for_in.Goals.{in-Some+else-is_asked_for, in_default}

pub returns-then-is_asked_for : goal.returns-then-is_asked_for
returns-then-is_asked_for c =
    ap (λ o. option_map_or (is_asked_for nat_eq c.args.observer c.args.node) o false)
    (read c.args.registrations.now (get_or c.args.places.now c.loop-place.place-index 0)
    (Some c.in-Some.registered) c.in-Some.is c.there_at.ensures)
    ∙ (sym c.is_asked_for.ensures ∙ c.if-is_asked_for.true)

pub loop-place-preserved : goal.loop-place-preserved
loop-place-preserved c =
    let p = is_asked_for nat_eq c.args.observer c.args.node in
    let rs = c.args.registrations.now in
    let places = c.args.places.now in
    let i = c.loop-place.place-index in
    elim c.match-there_at.branch [
      | in-Some+else-is_asked_for w ↦
          none-next rs places i (omega arith) p
          (read rs (get_or places i 0) (Some w.in-Some.registered) w.in-Some.is c.there_at.ensures) c.loop-place.invariant
          (or_from (p (registration_of w.in-Some.registered.now)) false (sym w.is_asked_for.ensures ∙ w.if-is_asked_for.false) refl)
      | in_default w ↦
          none-next rs places i (omega arith) p (read rs (get_or places i 0) None w.in_default.is c.there_at.ensures) c.loop-place.invariant refl
    ]

pub returns : goal.returns
returns c =
    let all = take_all c.loop-place.place-index c.args.places.now (omega arith) in
    ap (λ ps. list_any (is_asked_for nat_eq c.args.observer c.args.node) (picked c.args.registrations.now ps)) (sym all) ∙ c.loop-place.invariant
