use Rattle.dom_mutation.proofs.Cited.{◌≡◌, subst, OnOk, take_out, DocState, name_in, owner_in, stepped}
use Rattle.dom_mutation.proofs.parts.Parts.take_out.Goals as goal

pub returns : goal.returns
returns c =
    subst (λ (d : DocState). OnOk c.leave.result (c.leave.new.self ≡ stepped (owner_in d c.args.node) (take_out (name_in d c.args.node)) d))
    c.remember_siblings.ensures c.leave.ensures
