use Rattle.dom_mutation.proofs.StillCalls.{still-plan, still-attaching, still-makes, still-notified, still-pending, still-telling}
use Rattle.dom_mutation.proofs.StillCalls.{still-parts, still-then}
use Rattle.dom_mutation.proofs.still.law_still.Goals as goal

pub returns-clause-plans : goal.returns-clause-plans
returns-clause-plans c = λ was now o plan more h g e w.
    still-plan was now o plan more record { before = h; after = g; names = e; world = w }

pub returns-clause-tables : goal.returns-clause-tables
returns-clause-tables c = λ was now o command lines v d e m. still-makes was now e o command lines v d m

pub returns-clause-attached : goal.returns-clause-attached
returns-clause-attached c = λ was now host more h g e w fresh. still-attaching was now more h g e host w fresh

pub returns-clause-notified : goal.returns-clause-notified
returns-clause-notified c = λ was now o e m. still-notified was now e o m

pub returns-clause-pending : goal.returns-clause-pending
returns-clause-pending c = λ was now o e m. still-pending was now e o m

pub returns-clause-telling : goal.returns-clause-telling
returns-clause-telling c = λ was now o k e m. still-telling was now e o k m

pub returns-clause-parts : goal.returns-clause-parts
returns-clause-parts c = still-parts

pub returns-clause-next : goal.returns-clause-next
returns-clause-next c = still-then
