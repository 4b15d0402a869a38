-- Items that come one after another: what the laws of values as an answer say.
use Rattle.std.specs.Prelude.{◌≡◌, List, [], ◌++◌, map}
use Rattle.dom_base.proofs.Std.{sym, ap, ◌∙◌, append_assoc, append-nil, map-append}
use Rattle.dom_model.specs.Output.{Output}
use Rattle.dom_answers.specs.Told.{shown_output}

-- what is told, and nothing after it
pub nothing_told : (told : List Output) → told ≡ told ++ map shown_output []
nothing_told told = sym (append-nil told)

-- what is told, and some items after it, and then some more
pub more_told : (a b c xs ys : List Output) → b ≡ a ++ map shown_output xs → c ≡ b ++ map shown_output ys → c ≡ a ++ map shown_output (xs ++ ys)
more_told a b c xs ys first second =
    second ∙ ap (λ (t : List Output). t ++ map shown_output ys) first ∙ append_assoc a (map shown_output xs) (map shown_output ys)
    ∙ ap (λ (t : List Output). a ++ t) (sym (map-append shown_output xs ys))
