use Rattle.dom_mutation.proofs.Cited.{drop}
use Rattle.dom_mutation.proofs.JoinedEach.{Joins}
use Rattle.dom_mutation.proofs.parts.Parts.join_each.Given as goal

abbrev pub invariant-loop-next : goal.invariant-loop-next
invariant-loop-next l = Joins l.first l.parent l.nexts l.fn.size l.initial.self (drop l.next-index l.nexts) l.length l.self
