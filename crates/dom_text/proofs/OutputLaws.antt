-- The text of lines that come one after another.
use Rattle.dom_base.proofs.Std.{◌≡◌, ℕ, List, [], ◌∷◌, ◌++◌, map, refl, sym, ap, ◌∙◌, append_assoc, map-append}
use Rattle.dom_model.proofs.Model.{Output}
use Rattle.dom_text.specs.Definitions.{line_feed, text_of_lines, output_line, output_text}

-- text of lines, one after another
pub text_of_lines-append : (xs ys : List (List ℕ)) → text_of_lines (xs ++ ys) ≡ text_of_lines xs ++ text_of_lines ys
text_of_lines-append [] ys = refl
text_of_lines-append (x ∷ xs) ys =
    ap (λ (t : List ℕ). (x ++ line_feed ∷ []) ++ t) (text_of_lines-append xs ys) ∙
    sym (append_assoc (x ++ line_feed ∷ []) (text_of_lines xs) (text_of_lines ys))

-- text of outputs, one after another
pub output_text-append : (xs ys : List Output) → output_text (xs ++ ys) ≡ output_text xs ++ output_text ys
output_text-append xs ys = ap text_of_lines (map-append output_line xs ys) ∙ text_of_lines-append (map output_line xs) (map output_line ys)
