use Rattle.dom_live.proofs.Scripts.{same-output}
use Rattle.dom_live.proofs.PageScripts.{page-machine}
use Rattle.dom_live.proofs.same_page.Goals as goal

pub returns : goal.returns
returns c = λ read. same-output (page-machine read)
