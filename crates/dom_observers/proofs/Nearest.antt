-- A node that is marked alone and stands above another one.
use Rattle.dom_base.proofs.Std.{◌≡◌, ℕ, ◌<◌, Bool, true, false, cond, eqb, List, [], ◌∷◌, ◌++◌, length, map, Some, refl, sym, ap, ◌∙◌, subst, drop, filter}
use Rattle.dom_base.proofs.Std.{eq-eqb, ne_eqb, cond-false, true≢false, same_Some, map-append, filter-append}
use Rattle.dom_model.proofs.Model.{NodeName, name_eq, first_of, items_before, inclusive_ancestors, is_inclusive_ancestor}
use Rattle.dom_laws.proofs.Laws.{above-split, In-from, name_eq-from}
use Rattle.dom_tree.specs.Definitions.{NamedTrees, name_at}
use Rattle.dom_tree.proofs.Standing.{StandOnce, StandAlone, Once-forest, Has-forest}
use Rattle.dom_observers.specs.declared.marks.Marks.TheVariants.{One}
use Rattle.dom_observers.specs.Definitions.{key_of, path_keys, IsNearest}
use Rattle.dom_observers.proofs.Ascending.{path_keys-named}

-- the key of a name is not among those of the names before it
lacks-before : (names : List NodeName) (k : ℕ) (xs : List NodeName) → map (name_at names) (map (key_of names) xs) ≡ xs
    → filter (eqb k) (map (key_of names) (items_before name_eq (name_at names k) xs)) ≡ []
lacks-before names k [] named = refl
lacks-before names k (x ∷ xs) named = by (name_eq (name_at names k) x) refl (lacks-before names k xs (ap (drop 1) named))
  where
    others : List ℕ
    others = map (key_of names) (items_before name_eq (name_at names k) xs)

    by : (b : Bool) → name_eq (name_at names k) x ≡ b → filter (eqb k) others ≡ []
        → filter (eqb k) (map (key_of names) (cond b [] (x ∷ items_before name_eq (name_at names k) xs))) ≡ []
    by true e rest = refl
    by false e rest =
        cond-false (eqb k (key_of names x)) (key_of names x ∷ filter (eqb k) others) (filter (eqb k) others)
        (ne_eqb k (key_of names x) (λ same. true≢false
        (sym (name_eq-from (name_at names k) x (ap (name_at names) same ∙ same_Some _ x (ap first_of named))) ∙ e)))
        ∙ rest

module _ {f : NamedTrees} (once : StandOnce f) (only : StandAlone f) where
  -- it is the nearest from there
  pub near-alone : (k x : ℕ) → x < length f.names → k < length f.names →
      is_inclusive_ancestor f.trees (name_at f.names k) (name_at f.names x) ≡ true → IsNearest f (One k) (Some x) (Some k)
  near-alone k x node marked_is_node above =
      let path = inclusive_ancestors f.trees (name_at f.names x) in
      let front = items_before name_eq (name_at f.names k) path in
      record {
        node = λ j e. subst (λ (i : ℕ). i < length f.names) (same_Some k j e) marked_is_node;
        marked = λ j e. eq-eqb k j (same_Some k j e);
        others =
            ap (λ (ys : List NodeName). filter (eqb k) (map (key_of f.names) ys))
            (above-split f.trees (name_at f.names k) (name_at f.names x) (Once-forest f once only) (Has-forest f once x node)
            (In-from (name_at f.names k) path above))
            ∙ (ap (filter (eqb k)) (map-append (key_of f.names) front (inclusive_ancestors f.trees (name_at f.names k)))
            ∙ (filter-append (eqb k) (map (key_of f.names) front) (path_keys f k)
            ∙ ap (λ (ys : List ℕ). ys ++ filter (eqb k) (path_keys f k)) (lacks-before f.names k path (path_keys-named f once only x node).0)));
      }
