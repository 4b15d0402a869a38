use Rattle.dom_isolation.proofs.GroupStates.{member_output-goes_on}
use Rattle.dom_isolation.proofs.groups.group_agrees_in_full.Goals as goal

pub returns-clause-front : goal.returns-clause-front
returns-clause-front c = λ read. member_output-goes_on read
