-- A change made of one node after another is that change of all of them.
use Rattle.dom_base.proofs.Std.{◌≡◌, Bool, true, false, cond, ◌||◌, List, [], ◌∷◌, ◌++◌, refl, sym, ap, ◌∙◌, list_any-append}
use Rattle.dom_model.proofs.Model.{NodeName, name_eq, is_in, Trees, none, tree, Node, change_node}
use Rattle.dom_tree.specs.Definitions.{change_each}

-- one name more is one change of a node more
pub each_node : (f : Node → Node) → ((n : Node) → (f n).name ≡ n.name) → ((n : Node) → f (f n) ≡ f n) → (xs : List NodeName) (x : NodeName) (ts : Trees)
    → change_node f x (change_each f xs ts) ≡ change_each f (xs ++ x ∷ []) ts
each_node f keeps twice xs x none = refl
each_node f keeps twice xs x (tree n c r) =
    let here : twice_at (is_in name_eq n.name xs) ≡ cond (is_in name_eq n.name (xs ++ x ∷ [])) (f n) n =
    by (is_in name_eq n.name xs) (name_eq n.name x) refl ∙ ap (λ b. cond b (f n) n) (sym (list_any-append (name_eq n.name) xs (x ∷ []))) in
    let below = each_node f keeps twice xs x c in
    let rest = each_node f keeps twice xs x r in
    cc
  where
    twice_at : Bool → Node
    twice_at b = cond (name_eq (cond b (f n) n).name x) (f (cond b (f n) n)) (cond b (f n) n)

    same : {e : Bool} → name_eq n.name x ≡ e → twice_at true ≡ cond e (f (f n)) (f n)
    same is = ap (λ z. cond (name_eq z x) (f (f n)) (f n)) (keeps n) ∙ ap (λ b. cond b (f (f n)) (f n)) is

    by : (b e : Bool) → name_eq n.name x ≡ e → twice_at b ≡ cond (b || (e || false)) (f n) n
    by true true is = same is ∙ twice n
    by true false is = same is
    by false true is = rw is refl
    by false false is = rw is refl
