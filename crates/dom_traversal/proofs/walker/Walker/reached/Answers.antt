use Rattle.dom_traversal.proofs.Cited.{subst, ForSome, Begins, Direction}
use Rattle.dom_traversal.proofs.walker.Walker.reached.Goals as goal

pub first_reached-requires-clause-begins : goal.first_reached-requires-clause-begins
first_reached-requires-clause-begins c =
    subst (λ (d : Direction). ForSome c.args.from (Begins d c.args.forest.now c.args.self.now c.args.top)) c.in-Next.is c.requires.begins

pub last_reached-requires-clause-begins : goal.last_reached-requires-clause-begins
last_reached-requires-clause-begins c =
    subst (λ (d : Direction). ForSome c.args.from (Begins d c.args.forest.now c.args.self.now c.args.top)) c.in-Previous.is c.requires.begins
