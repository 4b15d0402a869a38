use Rattle.dom_mutation.proofs.Cited.{◌≡◌, ◌↔◌, ℕ, Some, Err, Result, sym, ap, subst, ◌∙◌, Fault, Refused, Refusal, part_of, attaching_refusal, AreReady}
use Rattle.dom_mutation.specs.Definitions.{DocState, name_in, owner_in}
use Rattle.dom_mutation.proofs.ReadyFirst.{ready-attaching}
use Rattle.dom_mutation.proofs.doc.Doc.attach.Goals as goal

-- what an attaching answers is refused as its part says
refused : {b d : DocState} → b ≡ d → (x : ℕ) {m n : Result ℕ Fault} → m ≡ n →
    ((r : Refusal) → (m ≡ Err (Refused r)) ↔ (attaching_refusal (part_of b.world (owner_in b x)) (name_in b x) ≡ Some r)) →
    (r : Refusal) → (n ≡ Err (Refused r)) ↔ (attaching_refusal (part_of d.world (owner_in d x)) (name_in d x) ≡ Some r)
refused {d} same x {m} is h r =
    subst (λ (a : Result ℕ Fault). (a ≡ Err (Refused r)) ↔ (attaching_refusal (part_of d.world (owner_in d x)) (name_in d x) ≡ Some r)) is
    (subst (λ (a : DocState). (m ≡ Err (Refused r)) ↔ (attaching_refusal (part_of a.world (owner_in a x)) (name_in a x) ≡ Some r)) same (h r))

pub invariant_of-self : goal.invariant_of-self
invariant_of-self c =
    let b = c.self.inside.parts in
    subst AreReady (sym c.in-Ok.ensures.world) (ready-attaching b.world (owner_in b c.args.host) (name_in b c.args.host) c.self.invariant)

pub returns-in-Ok-clause-refused : goal.returns-in-Ok-clause-refused
returns-in-Ok-clause-refused c = refused c.self.view_is c.args.host c.in-Ok.is c.attach.ensures.refused

pub returns-in-Err-Refused-clause-refused : goal.returns-in-Err-Refused-clause-refused
returns-in-Err-Refused-clause-refused c = refused c.self.view_is c.args.host (c.in-Err-Refused.is ∙ ap Err c.in-Err-Refused.field-0-is) c.attach.ensures.refused

pub returns-in-Err-Memory-clause-refused : goal.returns-in-Err-Memory-clause-refused
returns-in-Err-Memory-clause-refused c =
    refused c.self.view_is c.args.host (c.in-Err-Memory.is ∙ ap Err (c.in-Err-Memory.field-0-is ∙ sym c.from.ensures)) c.attach.ensures.refused
