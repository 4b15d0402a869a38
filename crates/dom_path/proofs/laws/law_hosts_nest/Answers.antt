use Rattle.dom_path.proofs.Attached.{attached-hosted}
use Rattle.dom_path.proofs.Sightings.{world-hosted}
use Rattle.dom_path.proofs.laws.law_hosts_nest.Goals as goal

pub returns-clause-attached : goal.returns-clause-attached
returns-clause-attached c = λ f hosts depth are. attached-hosted f hosts depth are

pub returns-clause-reached : goal.returns-clause-reached
returns-clause-reached c = λ f hosts w is. world-hosted f hosts w is
