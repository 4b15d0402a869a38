use Rattle.dom_mutation.proofs.Cited.{sym, subst, IsReady}
use Rattle.dom_mutation.proofs.ReadyFirst.{ready-first}
use Rattle.dom_mutation.proofs.doc.Doc.new.Goals as goal

pub invariant_of-result : goal.invariant_of-result
invariant_of-result c = subst IsReady (sym c.in_ok-parts.ensures) ready-first
