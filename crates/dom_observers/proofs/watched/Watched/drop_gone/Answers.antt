use Rattle.dom_base.proofs.Std.{refl}
use Rattle.dom_observers.proofs.Watching.{noted-thinned}
use Rattle.dom_observers.proofs.watched.Watched.drop_gone.Goals as goal

pub returns : goal.returns
returns c noted = noted-thinned noted c.count_gone_in.ensures c.drop_gone.ensures refl refl
