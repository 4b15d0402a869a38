use Rattle.dom_isolation.proofs.Families.{page-is_group, family-is_group, makers-are_group, others-are_group}
use Rattle.dom_isolation.proofs.groups.groups_keep_makers.Goals as goal

pub returns : goal.returns
returns c = record { page = page-is_group; family = family-is_group; makers = makers-are_group; others = others-are_group }
