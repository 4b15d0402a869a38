use Rattle.std.proofs.Common.{String, Global, Vec, string_bytes}
use Rattle.dom_commands.proofs.Cited.{ℕ, ap, ◌∙◌, subst, word_view, IsHandled}
use Rattle.dom_model.proofs.Model.{Command}
use Rattle.dom_commands.proofs.commands.set_attribute.Goals as goal

pub returns-clause-handled : goal.returns-clause-handled
returns-clause-handled g c =
    let x = word_view c.args.element in
    let same = ap (λ (s : String Global). Command.set_attribute x (string_bytes s) c.replace-value.result.items) c.replace-name.ensures.value
    ∙ ap (λ (v : Vec ℕ Global). Command.set_attribute x (string_bytes c.args.name.now) v.items) c.replace-value.ensures.value in
    subst (λ (said : Command). IsHandled g.A.Answers.adds c.args.owner.now said c.args.state.now.world c.set_attribute.new.state.world c.args.out.now
    c.set_attribute.new.out c.set_attribute.result) same c.set_attribute.ensures.handled
