use Rattle.dom_worlds.proofs.FollowPaths.{path-follows_parents}
use Rattle.dom_worlds.proofs.path_follows_parents.Goals as goal

pub returns : goal.returns
returns c = path-follows_parents
