-- A search for headings by a walker.
use Rattle.std.proofs.Common.{◌≡◌, ℕ, ◌<◌, Bool, true, false, List, [], ◌∷◌, ◌++◌, length, refl, sym, ap, subst, ◌∙◌, append_assoc, map, filter, All}
use Rattle.std.proofs.lemmas.List.{map-append}
use Rattle.std.proofs.lemmas.List.Elements.{All-push, All-nil}
use Rattle.dom_base.specs.declared.NodeName.{NodeName}
use Rattle.dom_model.specs.Tree.{is_inclusive_ancestor}
use Rattle.dom_tree.specs.Definitions.{NamedTrees, name_at}
use Rattle.dom_traversal.specs.Definitions.{KeyedWalker, IsWalkerOf, walker_rest}
use Rattle.dom_callers.specs.Headings.{element_filter, from_top, is_heading}

-- a test that holds of the first of some nodes, and one that does not
filter-yes : (test : NodeName → Bool) (x : NodeName) (rest : List NodeName) → test x ≡ true → filter test (x ∷ rest) ≡ x ∷ filter test rest
filter-yes test x rest h = rw h refl

filter-no : (test : NodeName → Bool) (x : NodeName) (rest : List NodeName) → test x ≡ false → filter test (x ∷ rest) ≡ filter test rest
filter-no test x rest h = rw h refl

-- The walker is one of the forest and stands in its root's tree, and the headings that were found, with those that are left, are all.
pub record IsSearch (f : NamedTrees) (top : ℕ) (w : KeyedWalker) (found : List ℕ) : Type 0 where
  pub placed : IsWalkerOf f w
  pub filter_is : w.filter ≡ element_filter
  pub inside : is_inclusive_ancestor f.trees (name_at f.names w.root) (name_at f.names w.current) ≡ true
  pub nodes : All (λ k. k < length f.names) found
  pub all : map (name_at f.names) found ++ filter (is_heading f.trees) (walker_rest f w) ≡ filter (is_heading f.trees) (walker_rest f (from_top top))

module _ (f : NamedTrees) (top : ℕ) where
  -- the beginning
  pub begins : (w : KeyedWalker) (found : List ℕ) → w ≡ from_top top → found ≡ [] → top < length f.names →
      is_inclusive_ancestor f.trees (name_at f.names top) (name_at f.names top) ≡ true → IsSearch f top w found
  begins w found is none node itself =
      subst (λ v. IsSearch f top v found) (sym is) (subst (IsSearch f top (from_top top)) (sym none)
      record {
        placed = record { root = node; current = node };
        filter_is = refl;
        inside = itself;
        nodes = All-nil (λ k. k < length f.names);
        all = refl;
      })

  -- a step to a node: the walker there, with the rest that is left
  module _ (w : KeyedWalker) (found : List ℕ) (before : IsSearch f top w found) (k : ℕ) (there : k < length f.names)
      (rest : walker_rest f w ≡ name_at f.names k ∷ walker_rest f record w { current = k })
      (stays : is_inclusive_ancestor f.trees (name_at f.names w.root) (name_at f.names k) ≡ true) where
    begin : map (name_at f.names) found ++ filter (is_heading f.trees) (name_at f.names k ∷ walker_rest f record w { current = k }) ≡ filter
        (is_heading f.trees) (walker_rest f (from_top top))
    begin = ap (λ xs. map (name_at f.names) found ++ filter (is_heading f.trees) xs) (sym rest) ∙ before.all

    -- where it is a heading
    pub taken : is_heading f.trees (name_at f.names k) ≡ true → IsSearch f top record w { current = k } (found ++ k ∷ [])
    taken h =
        let left = filter (is_heading f.trees) (walker_rest f record w { current = k }) in
        record {
          placed = record { root = before.placed.root; current = there };
          filter_is = before.filter_is;
          inside = stays;
          nodes = All-push (λ j. j < length f.names) found k before.nodes there;
          all = ap (λ xs. xs ++ left) (map-append (name_at f.names) found (k ∷ []))
              ∙ append_assoc (map (name_at f.names) found) (name_at f.names k ∷ []) left
              ∙ ap (λ xs. map (name_at f.names) found ++ xs) (sym (filter-yes (is_heading f.trees) (name_at f.names k) _ h)) ∙ begin;
        }

    -- and where it is none
    pub left_out : is_heading f.trees (name_at f.names k) ≡ false → IsSearch f top record w { current = k } found
    left_out h =
        record {
          placed = record { root = before.placed.root; current = there };
          filter_is = before.filter_is;
          inside = stays;
          nodes = before.nodes;
          all = ap (λ xs. map (name_at f.names) found ++ xs) (sym (filter-no (is_heading f.trees) (name_at f.names k) _ h)) ∙ begin;
        }
