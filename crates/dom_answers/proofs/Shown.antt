-- Trees with what is shown of them have the text of the trees.
use Rattle.dom_base.proofs.Std.{◌≡◌, ℕ, List, [], ◌∷◌, ◌++◌, codes, map, refl, ap, ◌∙◌}
use Rattle.dom_base.specs.declared.Kind.{Kind}
use Rattle.dom_base.specs.declared.Kind.TheVariants as kinds
use Rattle.dom_base.specs.declared.Owner.{Owner}
use Rattle.dom_model.specs.Output as model
use Rattle.dom_model.specs.Tree.{Node, Trees, none, tree}
use Rattle.dom_text.specs.Text.{opening_text, output_line, output_text, trees_text}
use Rattle.dom_text.specs.Lines.{line_feed}
use Rattle.dom_text.specs.Words.{owner_word}
use Rattle.dom_printer.specs.Steps.{shown_as}
use Rattle.dom_answers.specs.Told.{ShowsText, shown_output, shown_trees}

-- what stands before the children of a node, with what is shown of it as one of this kind
opening-shown : (viewer : Owner) (kind : Kind) (node : Node) →
    opening_text viewer (shown_as kind node) ≡ opening_text viewer (record node { kind = kind })
opening-shown viewer kinds.Element node = refl
opening-shown viewer kinds.Text node = refl
opening-shown viewer kinds.Comment node = refl
opening-shown viewer kinds.Document node = refl
opening-shown viewer kinds.Fragment node = refl
opening-shown viewer kinds.Shadow node = refl

-- trees
trees-shown : (viewer : Owner) (ts : Trees) → trees_text viewer (shown_trees ts) ≡ trees_text viewer ts
trees-shown viewer none = refl
trees-shown viewer (tree n c r) =
    ap (λ (t : List ℕ). codes " " ++ t ++ trees_text viewer (shown_trees c) ++ codes ")" ++ trees_text viewer (shown_trees r)) (opening-shown viewer n.kind n)
    ∙ ap (λ (t : List ℕ). codes " " ++ opening_text viewer n ++ t ++ codes ")" ++ trees_text viewer (shown_trees r)) (trees-shown viewer c)
    ∙ ap (λ (t : List ℕ). codes " " ++ opening_text viewer n ++ trees_text viewer c ++ codes ")" ++ t) (trees-shown viewer r)

-- a value
line-of-value : (owner : Owner) (value : model.Value) →
    output_line (shown_output (model.says owner (model.replied value))) ≡ output_line (model.says owner (model.replied value))
line-of-value owner (model.a_tree ts) = ap (λ (t : List ℕ). owner_word owner ++ codes " " ++ (codes "ok" ++ t)) (trees-shown owner ts)
line-of-value owner value = refl

-- a line
line-shown : (output : model.Output) → output_line (shown_output output) ≡ output_line output
line-shown model.bad_owner = refl
line-shown (model.says owner (model.replied value)) = line-of-value owner value
line-shown (model.says owner said) = refl

-- lines
pub text-shown : ShowsText
text-shown [] = refl
text-shown (output ∷ others) =
    ap (λ (line : List ℕ). (line ++ line_feed ∷ []) ++ output_text (map shown_output others)) (line-shown output)
    ∙ ap (λ (t : List ℕ). (output_line output ++ line_feed ∷ []) ++ t) (text-shown others)
