use Rattle.dom_base.proofs.Std.{rules, ap, ap₂, codes, ◌≡◌, ◌∙◌, IfOk-weaker}
use Rattle.clap.specs.Words.{app_of, new_app, new_rule, rule_of, with_rule}
use Rattle.clap.specs.Simple.{app_of_fields}
use Rattle.dom_program.specs.Words.{helpless, view_rule}
use Rattle.dom_program.proofs.words.command_line.Goals as goal

pub returns : goal.returns
returns c =
    let view_is : rule_of c.long-view.result ≡ view_rule = search rules in
    let file_is : rule_of c.new-file.result ≡ new_rule (codes "file") = search rules in
    let helpless_is : app_of c.disable_help_flag.result ≡ helpless (new_app (codes "domrun")) =
    ap app_of_fields c.disable_help_flag.ensures ∙ ap helpless c.new-2.ensures.app in
    let viewed : app_of c.in_ok-arg.field-0 ≡ with_rule (helpless (new_app (codes "domrun"))) view_rule =
    c.in_ok-arg.ensures.shape (search rules) ∙ ap₂ with_rule helpless_is view_is in
    IfOk-weaker c.arg-2.result _ _ (λ r added. added.shape (search rules) ∙ ap₂ with_rule viewed file_is) c.arg-2.ensures
