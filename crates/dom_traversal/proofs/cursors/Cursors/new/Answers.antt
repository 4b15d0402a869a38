use Rattle.dom_traversal.proofs.Cited.{refl, sym, ap, ◌∙◌}
use Rattle.dom_traversal.proofs.Owners.{seen}
use Rattle.dom_traversal.proofs.cursors.Cursors.new.Goals as goal

pub returns : goal.returns
returns c o = ap (λ each. each o) (sym (seen c.new.result refl)) ∙ c.new.ensures o
