-- The trees that steps show are those that have these steps.
use Rattle.dom_base.proofs.Std.{◌≡◌, List, [], ◌∷◌, ◌++◌, refl, ap, sym, ◌∙◌, append-nil, append_assoc}
use Rattle.dom_model.proofs.Model.{Node, Trees, none, tree, followed_by}
use Rattle.dom_model.specs.Codes.{first_trees, joined_trees}
use Rattle.dom_text.specs.Text.{TreeStep, closes}
use Rattle.dom_printer.specs.Steps.{shown, shown_steps}
use Rattle.dom_answers.specs.Arrays.{read_steps, trees_of}
use Rattle.dom_answers.specs.Told.{shown_trees}

-- trees before the first of some lists of trees
abbrev before : Trees → List Trees → List Trees
before ts [] = []
before ts (others ∷ lists) = followed_by ts others ∷ lists

before-none : (lists : List Trees) → lists ≡ before none lists
before-none [] = refl
before-none (ts ∷ lists) = refl

-- nothing after some trees
followed-none : (ts : Trees) → followed_by ts none ≡ ts
followed-none none = refl
followed-none (tree n c r) = ap (tree n c) (followed-none r)

-- a tree, before the first of some lists of trees
joined-before : (n : Node) (c r : Trees) (lists : List Trees) → joined_trees n (followed_by c none ∷ before r lists) ≡ before (tree n c r) lists
joined-before n c r [] = refl
joined-before n c r (ts ∷ lists) = ap (λ (d : Trees). tree n d (followed_by r ts) ∷ lists) (followed-none c)

-- the steps of trees, and others after them
read-shown : (ts : Trees) (steps : List TreeStep) → read_steps (shown_steps ts ++ steps) ≡ before (shown_trees ts) (read_steps steps)
read-shown none steps = before-none (read_steps steps)
read-shown (tree n c r) steps =
    ap (λ (s : List TreeStep). joined_trees (shown n) (read_steps s)) (append_assoc (shown_steps c) (closes ∷ shown_steps r) steps)
    ∙ ap (joined_trees (shown n)) (read-shown c (closes ∷ (shown_steps r ++ steps)))
    ∙ ap (λ (lists : List Trees). joined_trees (shown n) (followed_by (shown_trees c) none ∷ lists)) (read-shown r steps)
    ∙ joined-before (shown n) (shown_trees c) (shown_trees r) (read_steps steps)

-- the steps of trees are read as these, with what is shown of them
pub trees_of-shown : (ts : Trees) → trees_of (shown_steps ts) ≡ shown_trees ts
trees_of-shown ts =
    ap (λ (s : List TreeStep). first_trees (read_steps s)) (sym (append-nil (shown_steps ts))) ∙ ap first_trees (read-shown ts [])
    ∙ followed-none (shown_trees ts)
