-- What a line does that names another owner's node.
use Rattle.dom_base.proofs.Std.{List, ℕ, ◌++◌, ap, ◌∙◌}
use Rattle.dom_model.proofs.Model.{step}
use Rattle.dom_text.specs.Definitions.{decode, output_text}
use Rattle.dom_engine.proofs.ForeignLines.{foreign-step}
use Rattle.dom_engine.proofs.session.Session.line.Goals as goal

pub returns-clause-foreign : goal.returns-clause-foreign
returns-clause-foreign c o command is named =
    let refused = foreign-step c.args.self.now.world c.args.line.now o command is named in
    let said = output_text (step c.args.self.now.world (decode c.args.line.now)).1 in (
      ap (λ s. s.world) c.in_ok-put_line.ensures.world ∙ ap (λ r. r.0) refused,
      c.in_ok-put_line.ensures.text ∙ ap (λ (xs : List ℕ). xs ++ said) c.new-out.ensures.items ∙ ap (λ r. output_text r.1) refused,
    )
