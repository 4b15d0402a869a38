use Rattle.dom_traversal.proofs.Cited.{above-itself, name_at}
use Rattle.dom_traversal.proofs.iter.Iter.new.Goals as goal

pub returns-clause-begins : goal.returns-clause-begins
returns-clause-begins c = λ f node once.
    record { root = node; reference = record { node = node; within = above-itself f.trees (name_at f.names c.args.root) once } }
