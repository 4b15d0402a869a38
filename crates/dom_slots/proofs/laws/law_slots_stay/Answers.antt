use Rattle.dom_base.proofs.Std.{Bool, refl}
use Rattle.dom_model.proofs.Model.{name_eq, is_in, Node, inclusive_descendants, under_document, with_document, with_text}
use Rattle.dom_slots.proofs.Added.{slots-more}
use Rattle.dom_slots.proofs.Recast.{keeps_if, slots-recast}
use Rattle.dom_slots.proofs.laws.law_slots_stay.Goals as goal

pub returns-clause-added : goal.returns-clause-added
returns-clause-added c f g n s one slots = slots-more f g n one s slots

pub returns-clause-document : goal.returns-clause-document
returns-clause-document c f g x d s names trees slots =
    let here : Node → Bool = λ n. name_eq n.name x in
    slots-recast f g (keeps_if here (under_document d)
    record { name = λ n. refl; kind = λ n. refl; element = λ n. refl; attributes = λ n. refl }) names trees slots

pub returns-clause-documents : goal.returns-clause-documents
returns-clause-documents c f g x d s names trees slots =
    let below : Node → Bool = λ n. is_in name_eq n.name (inclusive_descendants f.trees x) in
    slots-recast f g (keeps_if below (with_document d)
    record { name = λ n. refl; kind = λ n. refl; element = λ n. refl; attributes = λ n. refl }) names trees slots

pub returns-clause-text : goal.returns-clause-text
returns-clause-text c f g x text s names trees slots =
    let here : Node → Bool = λ n. name_eq n.name x in
    slots-recast f g (keeps_if here (with_text text)
    record { name = λ n. refl; kind = λ n. refl; element = λ n. refl; attributes = λ n. refl }) names trees slots
