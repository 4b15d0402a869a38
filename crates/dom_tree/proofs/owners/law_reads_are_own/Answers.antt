use Rattle.dom_tree.proofs.Owned.{own_trees, read_own, stays_own, insertion_own, replacement_own}
use Rattle.dom_tree.proofs.owners.law_reads_are_own.Goals as goal

pub returns : goal.returns
returns c = record { trees = own_trees; read = read_own; near = stays_own; insertion = insertion_own; replacement = replacement_own }
