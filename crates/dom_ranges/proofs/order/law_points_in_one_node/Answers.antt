use Rattle.dom_ranges.proofs.Cited.{refl, root_of, name_eq-same}
use Rattle.dom_ranges.proofs.Before.{before-same}
use Rattle.dom_ranges.proofs.order.law_points_in_one_node.Goals as goal

pub returns : goal.returns
returns c = record {
  one_tree = λ trees x. name_eq-same (root_of trees x);
  before = λ trees x i j. before-same trees x x i j refl;
}
