-- What the commands that make nodes and change them do.
use Rattle.dom_base.proofs.Std.{◌≡◌, ℕ, false, List, [], ◌∷◌, ◌++◌, length, refl, sym, ap, ◌∙◌, get_or-append_seam}
use Rattle.dom_model.proofs.Model.{Kind, Document, Fragment, Shadow, Element, Text, Comment, NodeName, Owner, Page, Hierarchy, NotSupported, own_refusal}
use Rattle.dom_model.proofs.Model.{effect, accepted, makes, new_node, DomString, node_of, Word, Part, is_shadow, is_document, is_element, has_data}
use Rattle.dom_model.proofs.Model.{first_refusal, World}
use Rattle.dom_mutation.specs.Definitions.{adding_refusal, adoption_refusal}
use Rattle.dom_node_commands.specs.Making.{making, document_for}
use Rattle.dom_tree.specs.Definitions.{name_at}
use Rattle.dom_admission.proofs.Handling.{effecting}
use Rattle.dom_admission.proofs.Refusing.{IsNaming, namings}

-- the refusal of an adoption is that of the command
pub adoption-is : (k : Kind) → adoption_refusal k ≡ first_refusal ((is_shadow k, Hierarchy) ∷ (is_document k, NotSupported) ∷ [])
adoption-is Document = refl
adoption-is k = refl

-- the name of the node that was made last
pub name-last : {more : List NodeName} {made : NodeName} {key : ℕ} (names : List NodeName) (x : NodeName) → more ≡ names ++ x ∷ [] → key ≡ length names →
    name_at more key ≡ made → made ≡ x
name-last {key = key} names x all last is =
    sym is ∙ ap (λ (ns : List NodeName). name_at ns key) all ∙ ap (name_at (names ++ x ∷ [])) last ∙ get_or-append_seam names x [] (node_of Page 0)

-- what the command does that makes a node of a kind
pub record IsMaking (k : Kind) (a : Word) (s : DomString) : Type 0 where
  pub names_nothing : (o : Owner) → IsNaming o (making k a s) []
  pub refused : (p : Part) → adding_refusal p k a ≡ own_refusal p (making k a s)
  pub runs : (w : World) (o : Owner) → accepted w o (making k a s) ≡ effecting w o (making k a s)
  pub does : (p : Part) → makes p (new_node p k a s (document_for k p)) ≡ effect p (making k a s)

pub making_is : (k : Kind) (a : Word) (s : DomString) → is_shadow k ≡ false → (is_element k ≡ false → a ≡ []) → (has_data k ≡ false → s ≡ []) → IsMaking k a s
making_is Shadow a s known nameless textless = absurd cc
making_is Element a s known nameless textless =
    record { names_nothing = λ o. search namings; refused = λ p. refl; runs = λ w o. refl; does = λ p. rw (textless refl) refl }
making_is Text a s known nameless textless =
    record { names_nothing = λ o. search namings; refused = λ p. refl; runs = λ w o. refl; does = λ p. rw (nameless refl) refl }
making_is Comment a s known nameless textless =
    record { names_nothing = λ o. search namings; refused = λ p. refl; runs = λ w o. refl; does = λ p. rw (nameless refl) refl }
making_is Document a s known nameless textless =
    record { names_nothing = λ o. search namings; refused = λ p. refl; runs = λ w o. refl; does = λ p. rw (nameless refl, textless refl) refl }
making_is Fragment a s known nameless textless =
    record { names_nothing = λ o. search namings; refused = λ p. refl; runs = λ w o. refl; does = λ p. rw (nameless refl, textless refl) refl }
