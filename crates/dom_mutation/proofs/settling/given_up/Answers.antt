use Rattle.dom_mutation.proofs.Cited.{sym, subst, IsReady}
use Rattle.dom_mutation.proofs.ReadyFirst.{ready-nothing_left}
use Rattle.dom_mutation.proofs.settling.given_up.Goals as goal

pub returns : goal.returns
returns c = subst IsReady (sym c.give_up.ensures) ready-nothing_left
