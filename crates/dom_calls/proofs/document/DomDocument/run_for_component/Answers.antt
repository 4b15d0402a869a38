-- The status of a call that was not done.
use Rattle.dom_base.proofs.Std.{rules}
use Rattle.dom_calls.proofs.Giving.{fault-answers}
use Rattle.dom_calls.proofs.document.DomDocument.run_for_component.Goals as goal

pub returns-in-Err-clause-answers : goal.returns-in-Err-clause-answers
returns-in-Err-clause-answers c =
    fault-answers c.in-Err.fault c.status_of.result c.status_of.ensures.refusal c.status_of.ensures.memory c.status_of.ensures.least c.status_of.ensures.most
    c.in-Err.ensures (search rules) c.put.ensures.held
