-- One complex selector alone matches at no child of a node at whose children what is left fails.
use Rattle.dom_selectors.proofs.Remembered.{one_no_child}
use Rattle.dom_selectors.proofs.query.failing_below.Goals as goal

pub returns-in-len1 : goal.returns-in-len1
returns-in-len1 g c = λ f said x m. one_no_child f c.args.known.now x c.args.complexes.now (c.in-len1.len_at_least, c.in-len1.len_below) said m
