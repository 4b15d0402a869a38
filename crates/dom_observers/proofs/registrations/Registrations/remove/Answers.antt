use Rattle.dom_base.proofs.Std.{◌≡◌, ℕ, ◌+◌, not, false, filter, Result, Ok, Err, sym, ap, ◌∙◌, OnOk, is_err, true≢false}
use Rattle.dom_model.proofs.Model.{Registration}
use Rattle.dom_observers.specs.Definitions.{goes, those_there, AreKept}
use Rattle.dom_observers.proofs.Keeping.{removed-all, removed-noted, removed-kept}
use Rattle.dom_observers.proofs.Watching.{noted-now, all-now}
use Rattle.dom_observers.proofs.registrations.Registrations.remove.Goals.{After-drop_gone}
use Rattle.dom_observers.proofs.registrations.Registrations.remove.Goals as goal
use Rattle.dom_observers.proofs.registrations.Registrations.remove.Goals.{else-self-gt-MANY-via-then-self-gt-MANY+else-self-len}
use Rattle.dom_observers.proofs.registrations.Registrations.remove.Goals.{else-self-gt-MANY-via-else-self-gt-MANY}

-- a fact that holds if all went well, where it did
on-ok : {X E : Type 0} (r : Result X E) (P : Type 0) → is_err r ≡ false → OnOk r P → P
on-ok (Ok x) P e p = p
on-ok (Err x) P e p = absurd (true≢false e)

-- what is kept then, and that those that go are taken away
kept : (c : After-drop_gone) → AreKept c.drop_gone.new.self (c.self.inside.gone + c.take_in-went.result) c.take_in-went.new.registrations.items
    × (those_there c.take_in-went.new.registrations.items ≡ filter (λ t. not (goes c.args.removal.now t)) (those_there c.self.inside.list.items))
kept c =
    let noted = noted-now c.as_slice.ensures.value c.note.ensures.noted c.self.invariant.noted in
    let all = all-now c.as_slice.ensures.value (on-ok c.note.result _ (sym c.is_err.ensures.value ∙ c.if-is_err.false) c.note.ensures.all) in (
      removed-kept c.self.invariant noted all c.among-places.ensures c.take_in-went.ensures
          (noted-now c.as_slice-2.ensures.value c.drop_gone.ensures (removed-noted c.self.invariant noted all c.among-places.ensures c.take_in-went.ensures)),
      removed-all c.self.invariant noted all c.among-places.ensures c.take_in-went.ensures,
    )

pub invariant_of-self-then-self-len : goal.invariant_of-self-then-self-len
invariant_of-self-then-self-len c = (kept c.before.before.before.before).0

pub invariant_of-self-else-self-len : goal.invariant_of-self-else-self-len
invariant_of-self-else-self-len c = (kept c.before.before.before.before).0

pub invariant_of-self-else-self-gt-MANY : goal.invariant_of-self-else-self-gt-MANY
invariant_of-self-else-self-gt-MANY c = (kept c.before).0

pub returns-else-self-gt-MANY : goal.returns-else-self-gt-MANY
returns-else-self-gt-MANY c =
    let view = (kept c.before).1 ∙ ap (filter (λ (t : Registration ℕ). not (goes c.args.removal.now t))) c.self.view_is in
    elim c.else-self-gt-MANY.branch [
      | else-self-gt-MANY-via-then-self-gt-MANY+else-self-len w ↦ w.self-is ∙ view
      | else-self-gt-MANY-via-else-self-gt-MANY w ↦ w.self-is ∙ view
    ]
