use Rattle.dom_dispatch.proofs.Among.{dispatched-among, dispatched-along}
use Rattle.dom_dispatch.proofs.laws.law_one_list_serves_all.Goals as goal

pub returns-clause-names : goal.returns-clause-names
returns-clause-names c = dispatched-among

pub returns-clause-keys : goal.returns-clause-keys
returns-clause-keys c = dispatched-along
