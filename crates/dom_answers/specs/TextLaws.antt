-- Lines of output that come one after another: what the laws of text as an answer say.
use Rattle.std.specs.Prelude.{◌≡◌, ℕ, List, [], ◌++◌}
use Rattle.dom_base.proofs.Std.{sym, ap, ◌∙◌, append_assoc, append-nil}
use Rattle.dom_model.specs.Output.{Output}
use Rattle.dom_text.specs.Text.{output_text}
use Rattle.dom_text.proofs.OutputLaws.{output_text-append}

-- bytes with the text of nothing after them
pub nothing_after : (bytes : List ℕ) → bytes ≡ bytes ++ output_text []
nothing_after bytes = sym (append-nil bytes)

-- bytes with the text of some lines after them, and then of some more
pub more_after : (a b c : List ℕ) (xs ys : List Output) → b ≡ a ++ output_text xs → c ≡ b ++ output_text ys → c ≡ a ++ output_text (xs ++ ys)
more_after a b c xs ys first second =
    second ∙ ap (λ (t : List ℕ). t ++ output_text ys) first ∙ append_assoc a (output_text xs) (output_text ys)
    ∙ ap (λ (t : List ℕ). a ++ t) (sym (output_text-append xs ys))
