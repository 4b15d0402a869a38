use Rattle.dom_base.proofs.Std.{◌∙◌, ap}
use Rattle.dom_model.specs.Names.{text_eq}
use Rattle.dom_callbacks.proofs.Texts.{text_test}
use Rattle.dom_callbacks.proofs.words.is_word.Goals as goal

pub returns : goal.returns
returns c = c.is_same.ensures ∙ text_test _ c.args.text.now ∙ ap (λ t. text_eq t c.args.text.now) c.as_bytes.ensures.value
