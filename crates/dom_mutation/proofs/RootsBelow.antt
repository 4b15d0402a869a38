-- The shadow roots of the hosts in the tree of a node, listed in tree order, behind each those in its own shadow tree.
use Rattle.dom_base.proofs.Std.{◌≡◌, ℕ, ◌<◌, ◌≤◌, ◌||◌, List, [], ◌∷◌, ◌++◌, All, map, filter_map, flat_map, length, Option, Some, None, option_map, sym, ap}
use Rattle.dom_base.proofs.Std.{subst, ◌∙◌, cons_option, ForSome, cond-true, map-append, append-nil, append_assoc, flat_map_more, All-push, filter_map-append}
use Rattle.dom_model.proofs.Model.{NodeName, name_eq, first_of, is_in, items_before, items_after, inclusive_descendants, subtree, times_in, name_eq-same}
use Rattle.dom_slots.specs.Definitions.{ShadowHost, HostsAreNodes, root_of_host, root_named}
use Rattle.dom_slots.proofs.Hosted.{root-named, root-node}
use Rattle.dom_tree.specs.Definitions.{NamedTrees, name_at, TellApart}
use Rattle.dom_laws.proofs.Laws.{walked, left, StandsIn, Walks, walks, first_inside, once_subtree, Once, names_once}

-- `deeper` has the names behind each shadow root, `earlier` those that were listed before
module _ (f : NamedTrees) (hosts : List ShadowHost) (deeper : NodeName → List NodeName) (earlier : List NodeName) (top : ℕ) where
  abbrev pub below : List NodeName
  below = inclusive_descendants f.trees (name_at f.names top)

  -- how far the loop has come that lists them
  pub record Lists (keys : List ℕ) (at : Option ℕ) : Type 0 where
    pub listed : map (name_at f.names) keys ≡ earlier ++ flat_map (λ r. r ∷ deeper r) (filter_map (root_named f.names hosts)
        (walked (inclusive_descendants f.trees (name_at f.names top)) (option_map (name_at f.names) at)))
    pub stands : StandsIn (inclusive_descendants f.trees (name_at f.names top)) (option_map (name_at f.names) at)
    pub nodes : All (λ k. k < length f.names) keys
    pub here : ForSome at (λ k. k < length f.names)

  pub lists_first : (keys : List ℕ) → map (name_at f.names) keys ≡ earlier → All (λ k. k < length f.names) keys → top < length f.names →
      1 ≤ times_in f.trees (name_at f.names top) → Lists keys (Some top)
  lists_first keys are all within there =
      let x = name_at f.names top in
      let first = first_inside f.trees x there in
      record {
        listed = are ∙ (sym (append-nil earlier) ∙ ap (λ ys. earlier ++ flat_map (λ r. r ∷ deeper r) (filter_map (root_named f.names hosts) ys))
            (sym (ap (items_before name_eq x) first.1 ∙ cond-true (name_eq x x) [] (x ∷ items_before name_eq x first.0) (name_eq-same x))));
        stands = ap (is_in name_eq x) first.1 ∙ ap (λ b. b || is_in name_eq x first.0) (name_eq-same x);
        nodes = all;
        here = λ j e. let same : top ≡ j = cc in subst (λ i. i < length f.names) same within;
      }

  -- with a root that is found they are nodes still
  pub nodes_within : {keys : List ℕ} {at : Option ℕ} (k : ℕ) → Lists keys at → HostsAreNodes f.names hosts → {r : ℕ} → root_of_host hosts k ≡ Some r →
      All (λ j. j < length f.names) (keys ++ r ∷ [])
  nodes_within {keys} k lists nodes {r} root = All-push (λ j. j < length f.names) keys r lists.nodes (root-node f.names hosts nodes k r root)

  module _ (once : Once f.trees) (keys : List ℕ) (at : Option ℕ) (k : ℕ) (is : at ≡ Some k) (lists : Lists keys at) where
    abbrev y : NodeName
    y = name_at f.names k

    stands_at : StandsIn below (option_map (name_at f.names) (Some k))
    stands_at = subst (λ (o : Option ℕ). StandsIn below (option_map (name_at f.names) o)) is lists.stands

    module _ (next : Option ℕ) (found : option_map (name_at f.names) next ≡ first_of
        (items_after name_eq (name_at f.names k) (inclusive_descendants f.trees (name_at f.names top)))) where
      walk : Walks below y (option_map (name_at f.names) next)
      walk = subst (λ o. Walks below y o) (sym found)
          (walks below (names_once (subtree f.trees (name_at f.names top)) (once_subtree f.trees (name_at f.names top) once)) y stands_at)

      pub lists_fewer : left below (option_map (name_at f.names) next) < left below (option_map (name_at f.names) at)
      lists_fewer = subst (λ (o : Option ℕ). left below (option_map (name_at f.names) next) < left below (option_map (name_at f.names) o)) (sym is) walk.fewer

      module _ (distinct : TellApart f.names) (nodes : HostsAreNodes f.names hosts) (near : ForSome next (λ j. j < length f.names)) where
        -- the roots of the hosts among those that were looked at
        abbrev met : List NodeName
        met = filter_map (root_named f.names hosts) (items_before name_eq y below)

        before : map (name_at f.names) keys ≡ earlier ++ flat_map (λ r. r ∷ deeper r) met
        before = subst (λ (o : Option ℕ). map (name_at f.names) keys ≡ earlier ++ flat_map (λ r. r ∷ deeper r) (filter_map (root_named f.names hosts)
            (walked below (option_map (name_at f.names) o)))) is lists.listed

        more : filter_map (root_named f.names hosts) (walked below (option_map (name_at f.names) next)) ≡ met ++
            cons_option (option_map (name_at f.names) (root_of_host hosts k)) []
        more =
            ap (filter_map (root_named f.names hosts)) walk.more
            ∙ (filter_map-append (root_named f.names hosts) (items_before name_eq y below) (y ∷ [])
            ∙ ap (λ m. met ++ cons_option m []) (sym (root-named f.names distinct hosts nodes k (lists.here k is))))

        -- a root was put behind them, and then those in its shadow tree
        pub lists_root : (r : ℕ) → root_of_host hosts k ≡ Some r → (now : List ℕ) → map (name_at f.names) now ≡
            map (name_at f.names) (keys ++ r ∷ []) ++ deeper (name_at f.names r) → All (λ j. j < length f.names) now → Lists now next
        lists_root r root now are all = record {
          listed = are
              ∙ (ap (λ xs. xs ++ deeper (name_at f.names r)) (map-append (name_at f.names) keys (r ∷ []))
              ∙ (append_assoc (map (name_at f.names) keys) (name_at f.names r ∷ []) (deeper (name_at f.names r))
              ∙ (ap (λ xs. xs ++ name_at f.names r ∷ deeper (name_at f.names r)) before
              ∙ (flat_map_more (λ r. r ∷ deeper r) earlier met (name_at f.names r)
              ∙ ap (λ ys. earlier ++ flat_map (λ r. r ∷ deeper r) ys)
              (sym (more ∙ ap (λ (m : Option ℕ). met ++ cons_option (option_map (name_at f.names) m) []) root))))));
          stands = walk.stands;
          nodes = all;
          here = near;
        }

        -- a node on the way that is no host
        pub lists_none : root_of_host hosts k ≡ None → Lists keys next
        lists_none root = record {
          listed = before
              ∙ ap (λ ys. earlier ++ flat_map (λ r. r ∷ deeper r) ys) (sym (more ∙
              (ap (λ (m : Option ℕ). met ++ cons_option (option_map (name_at f.names) m) []) root ∙ append-nil met)));
          stands = walk.stands;
          nodes = lists.nodes;
          here = near;
        }
