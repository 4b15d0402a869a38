use Rattle.dom_mutation.proofs.Cited.{◌≡◌, subst, OnOk, queue_record, target_of, change_of, DocState, owner_in, stepped}
use Rattle.dom_mutation.specs.Doc.{change_in}
use Rattle.dom_mutation.proofs.parts.Parts.record.Goals as goal

pub returns : goal.returns
returns c =
    subst (λ (d : DocState). OnOk c.tell.result (c.tell.new.self ≡ stepped (owner_in d (target_of (change_of c.args.change)))
    (queue_record (change_in d c.args.change)) d)) c.remember_top.ensures c.tell.ensures
