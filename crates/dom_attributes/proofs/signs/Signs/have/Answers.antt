use Rattle.dom_base.proofs.Std.{◌∙◌, sym, eqb-true, eq-eqb, true≢false}
use Rattle.std.specs.Prelude.{bit_and}
use Rattle.dom_attributes.proofs.SignLaws.{has_from, has_same}
use Rattle.dom_attributes.proofs.signs.Signs.have.Goals as goal

pub returns-clause-yes : goal.returns-clause-yes
returns-clause-yes c = λ yes. has_from c.args.self.bits c.args.signs.bits (eqb-true (bit_and c.args.self.bits c.args.signs.bits) c.args.signs.bits yes)

pub returns-clause-no : goal.returns-clause-no
returns-clause-no c = λ no has. true≢false
    (sym (eq-eqb (bit_and c.args.self.bits c.args.signs.bits) c.args.signs.bits (has_same c.args.self.bits c.args.signs.bits has)) ∙ no)
