use Rattle.dom_isolation.proofs.GroupRuns.{views-agree, outward_views-agree, dispatch-agrees, other_dispatch-agrees}
use Rattle.dom_isolation.proofs.groups.one_group_dispatch.Goals as goal

pub returns : goal.returns
returns c = record { own_views = views-agree; outward_views = outward_views-agree; own = dispatch-agrees; other = other_dispatch-agrees }
