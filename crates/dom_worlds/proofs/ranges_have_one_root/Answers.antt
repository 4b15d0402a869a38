use Rattle.dom_worlds.proofs.BoundWorlds.{first-has_one_roots, step-keeps_one_roots, ending-keeps_one_roots, finish-keeps_one_roots, scripts-keep_one_roots}
use Rattle.dom_worlds.proofs.ranges_have_one_root.Goals as goal

pub returns : goal.returns
returns c = record {
  first = first-has_one_roots;
  kept = step-keeps_one_roots;
  ending = ending-keeps_one_roots;
  finish = finish-keeps_one_roots;
  script = scripts-keep_one_roots;
}
