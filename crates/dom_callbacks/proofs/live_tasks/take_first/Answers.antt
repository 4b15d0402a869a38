use Rattle.dom_base.proofs.Std.{◌≡◌, ◌∙◌, ap, sym, Option, ℕ, List, Bool, position}
use Rattle.dom_base.specs.declared.Owner.{Owner}
use Rattle.dom_live.specs.Documents.{is_entry_of}
use Rattle.dom_callbacks.proofs.Firsts.{removed-at, live-at, kept-whole, none-live}
use Rattle.dom_callbacks.proofs.live_tasks.take_first.Goals as goal

-- what is found in the list
found : (o : Owner) {es fs : List (Owner × Bool)} {r s : Option ℕ} → fs ≡ es → r ≡ position (is_entry_of o) fs → r ≡ s → position (is_entry_of o) es ≡ s
found o same told is = ap (position (is_entry_of o)) (sym same) ∙ (sym told ∙ is)

pub returns-in-None-clause-live : goal.returns-in-None-clause-live
returns-in-None-clause-live c =
    sym (none-live c.args.owner.now c.args.tasks.now.items (found c.args.owner.now c.as_slice.ensures.value c.place_of_first.ensures.place c.in-None.is))

pub returns-in-None-clause-rest : goal.returns-in-None-clause-rest
returns-in-None-clause-rest c =
    sym (kept-whole c.args.owner.now c.args.tasks.now.items (found c.args.owner.now c.as_slice.ensures.value c.place_of_first.ensures.place c.in-None.is))

pub returns-in-Some-clause-live : goal.returns-in-Some-clause-live
returns-in-Some-clause-live c =
    ap (λ (e : Owner × Bool). e.1) c.remove.ensures.value
    ∙ live-at c.args.owner.now c.args.tasks.now.items c.in-Some.place c.remove.result
    (found c.args.owner.now c.as_slice.ensures.value c.place_of_first.ensures.place c.in-Some.is)

pub returns-in-Some-clause-rest : goal.returns-in-Some-clause-rest
returns-in-Some-clause-rest c =
    c.remove.ensures.items
    ∙ removed-at c.args.owner.now c.args.tasks.now.items c.in-Some.place
    (found c.args.owner.now c.as_slice.ensures.value c.place_of_first.ensures.place c.in-Some.is)
