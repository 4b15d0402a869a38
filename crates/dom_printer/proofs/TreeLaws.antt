-- The text of trees tells of a node no more than what is shown of it.
use Rattle.dom_base.proofs.Std.{◌≡◌, ℕ, List, ◌∷◌, ◌++◌, refl, ap, ◌∙◌, append_assoc, codes, flat_map-append}
use Rattle.dom_model.proofs.Model.{Owner, Kind, Node, Trees, none, tree}
use Rattle.dom_base.specs.declared.Kind.TheVariants as kinds
use Rattle.dom_text.specs.Definitions.{kind_word, node_text, own_parts, opening_text, trees_text, steps_text, step_text, closes}
use Rattle.dom_printer.specs.Steps.{shown, shown_as, shown_steps}

-- what stands before the children of a node shown as one of this kind
opening_text-shown_as : (viewer : Owner) (kind : Kind) (node : Node) →
    opening_text viewer (shown_as kind node) ≡ codes "(" ++ node_text viewer node.name ++ codes " " ++ kind_word kind ++ own_parts kind node
opening_text-shown_as viewer kinds.Document node = refl
opening_text-shown_as viewer kind node = refl

-- four lists in a row, grouped to the left
regrouped : (a b c d : List ℕ) → a ++ (b ++ (c ++ d)) ≡ a ++ b ++ c ++ d
regrouped a b c d = simp append_assoc

-- the steps of trees, with what is shown of the nodes, have the text of the trees
pub steps_text-shown_steps : (viewer : Owner) (trees : Trees) → steps_text viewer (shown_steps trees) ≡ trees_text viewer trees
steps_text-shown_steps viewer none = refl
steps_text-shown_steps viewer (tree node children others) =
    let first : opening_text viewer (shown node) ≡ opening_text viewer node = opening_text-shown_as viewer node.kind node in
    let inner = steps_text-shown_steps viewer children in
    let outer = steps_text-shown_steps viewer others in
    let opening = codes " " ++ opening_text viewer node in
    ap (λ (t : List ℕ). (codes " " ++ t) ++ steps_text viewer (shown_steps children ++ closes ∷ shown_steps others)) first
    ∙ ap (λ (t : List ℕ). opening ++ t) (flat_map-append (step_text viewer) (shown_steps children) (closes ∷ shown_steps others))
    ∙ ap (λ (t : List ℕ). opening ++ (t ++ (codes ")" ++ steps_text viewer (shown_steps others)))) inner
    ∙ ap (λ (t : List ℕ). opening ++ (trees_text viewer children ++ (codes ")" ++ t))) outer
    ∙ regrouped opening (trees_text viewer children) (codes ")") (trees_text viewer others)
