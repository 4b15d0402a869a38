use Rattle.dom_mutation.proofs.Cited.{◌≡◌, Some, OnOk, subst, placing_tail, DocState, name_in, owner_in, planned}
use Rattle.dom_mutation.proofs.splitting.placing_tail.Goals as goal

pub returns : goal.returns
returns c =
    subst (λ (d : DocState). OnOk c.placing_at.result (c.placing_at.new.parts ≡ planned (owner_in d c.args.node)
    (placing_tail (name_in d c.args.node) c.args.offset (name_in d c.args.new) (Some (name_in d c.args.parent))) d))
    c.index_remembered-index.ensures.state c.placing_at.ensures
