use Rattle.dom_base.proofs.Std.{◌≡◌, ℕ, List, ap, ◌∙◌, none-some, same_Some}
use Rattle.dom_model.proofs.Model.{NodeName}
use Rattle.dom_tree.specs.Ids.{id_code, bearers_of}
use Rattle.dom_tree.proofs.Noted.{noted-set_id}
use Rattle.dom_tree.proofs.ids.IdTable.note_id.Goals as goal

-- the number of the ID that is set
number : {x y : NodeName} {n : ℕ} {u v : List ℕ} → n ≡ id_code y.owner u → y ≡ x → u ≡ v → n ≡ id_code x.owner v
number {x = x} {u = u} is name value = is ∙ ap (λ (z : NodeName). id_code z.owner u) name ∙ ap (id_code x.owner) value

pub returns-in-Some-clause-noted : goal.returns-in-Some-clause-noted
returns-in-Some-clause-noted c =
    noted-set_id c.args.name.now c.args.value.now.items c.args.node.now c.requires {f = bearers_of c.note.new.self}
    (number c.id_code-number.ensures c.name.ensures c.as_slice.ensures.value) c.in_ok-note.ensures.noted
    (λ h told is. c.if-old-number.true (same_Some c.in-Some.old h told ∙ is))

pub returns-in_default-clause-noted : goal.returns-in_default-clause-noted
returns-in_default-clause-noted c =
    noted-set_id c.args.name.now c.args.value.now.items c.args.node.now c.requires {f = bearers_of c.note.new.self}
    (number c.id_code-number.ensures c.name.ensures c.as_slice.ensures.value) c.in_ok-note.ensures.noted
    (λ h told. absurd (none-some h told))

pub returns-in_default-2-clause-noted : goal.returns-in_default-2-clause-noted
returns-in_default-2-clause-noted c =
    noted-set_id c.args.name.now c.args.value.now.items c.args.node.now c.requires {f = bearers_of c.note.new.self}
    (number c.id_code-number.ensures c.name.ensures c.as_slice.ensures.value) c.in_ok-note.ensures.noted
    (λ h told. absurd (none-some h told))
