-- What a change of one node's contents does to a `Forest`.
use Rattle.dom_base.proofs.Std.{◌≡◌, ◌≢◌, inl, inr, ℕ, zero, suc, ◌<◌, true, false, cond, List, [], ◌∷◌, length, set, Some, refl, sym, ap, subst, ◌∙◌}
use Rattle.dom_base.proofs.Std.{arith, slice_get, option_map, cases_Bool, eqb_tells, length-map, length-set, same_Some, none-some, slice_get-map}
use Rattle.dom_base.proofs.Std.{get_or_from_slice_get}
use Rattle.std.proofs.lemmas.List.{set-get_or}
use Rattle.dom_model.proofs.Model.{Owner, name_eq, Node, change_node, name_eq-same}
use Rattle.node_arena.proofs.Numbers.{slice_get-set}
use Rattle.dom_tree.specs.Definitions.{Stored, trees_of, NamedTrees, IsKept, stored_names, nodes_with, nodes_of, name_at, node_with, count_of}
use Rattle.dom_tree.proofs.Rows.{same_name}
use Rattle.dom_tree.proofs.Changes.{IsWhole, trees_of-map}
use Rattle.dom_tree.proofs.Kept.{seen, IsWhole-kept, name_at-same}

-- a list that is set at an index, read there
pub slice_get-set_same : {X : Type 0} (xs : List X) (k : ℕ) (x y : X) → slice_get xs k ≡ Some x → slice_get (set xs k y) k ≡ Some y
slice_get-set_same [] k x y e = absurd (none-some x e)
slice_get-set_same (z ∷ xs) zero x y e = refl
slice_get-set_same (z ∷ xs) (suc k) x y e = slice_get-set_same xs k x y e

-- and read elsewhere
pub slice_get-set_other : {X : Type 0} (xs : List X) (i k : ℕ) (y : X) → k ≢ i → slice_get (set xs i y) k ≡ slice_get xs k
slice_get-set_other [] i k y other = refl
slice_get-set_other (z ∷ xs) zero zero y other = absurd (other refl)
slice_get-set_other (z ∷ xs) zero (suc k) y other = refl
slice_get-set_other (z ∷ xs) (suc i) zero y other = refl
slice_get-set_other (z ∷ xs) (suc i) (suc k) y other = slice_get-set_other xs i k y (λ e. other (ap suc e))

-- a list that is set at an index to what stands there
pub set_back : {X : Type 0} (xs : List X) (k : ℕ) (x y : X) → slice_get xs k ≡ Some x → y ≡ x → set xs k y ≡ xs
set_back xs k x y at same = ap (set xs k) (same ∙ sym (get_or_from_slice_get xs k x x at)) ∙ set-get_or xs k x

-- a node that is stored anew under its name
pub stored_names-set : (ps : List Stored) (x : ℕ) (s t : Stored) → slice_get ps x ≡ Some s → t.name ≡ s.name → stored_names (set ps x t) ≡ stored_names ps
stored_names-set [] x s t at same = refl
stored_names-set (u ∷ ps) zero s t at same = ap (λ n. n ∷ stored_names ps) (same ∙ ap (λ (v : Stored). v.name) (sym (same_Some u s at)))
stored_names-set (u ∷ ps) (suc x) s t at same = ap (λ ns. u.name ∷ ns) (stored_names-set ps x s t at same)

-- what holds of all nodes still holds
pub IsKept-set : {ps : List Stored} {lists : List (List ℕ)} {keys : Owner → List ℕ} → IsKept ps lists keys → (x : ℕ) {s : Stored} (t : Stored) →
    slice_get ps x ≡ Some s → t.name ≡ s.name
    → ((d : ℕ) → t.node.document ≡ Some d → d < length ps) → IsKept (set ps x t) lists keys
IsKept-set {ps = ps} kept x {s} t at same document = record {
  paired = length-set ps x t ∙ kept.paired;
  forest = kept.forest;
  few = let fits = kept.few in let same_length = length-set ps x t in omega arith;
  found = λ y k e. ap (λ ns. slice_get ns k) names ∙ kept.found y k e;
  kept = λ y k e. kept.kept y k (ap (λ ns. slice_get ns k) (sym names) ∙ e);
  counted = λ o. kept.counted o ∙ ap (count_of o) (sym names);
  limited = λ o. let few = kept.limited o in let same_count = ap (count_of o) names in omega arith;
  documents = λ u k d at_k e. elim (slice_get-set ps x k t u at_k) [
    | inl h ↦ omega (arith, document d (ap (λ (v : Stored). v.node.document) (sym h.1) ∙ e), length-set ps x t)
    | inr h ↦ omega (arith, kept.documents u k d h e, length-set ps x t)
  ];
}
  where
    names : stored_names (set ps x t) ≡ stored_names ps
    names = stored_names-set ps x s t at same

-- the invariant stays where a node is set under the node document that it had
pub IsKept-set_same : {ps : List Stored} {lists : List (List ℕ)} {keys : Owner → List ℕ} → IsKept ps lists keys → (x : ℕ) {s : Stored} (t : Stored) →
    slice_get ps x ≡ Some s → t.name ≡ s.name
    → t.node.document ≡ s.node.document → IsKept (set ps x t) lists keys
IsKept-set_same kept x {s} t at same document = IsKept-set kept x t at same (λ d e. kept.documents s x d at (sym document ∙ e))

-- what is seen of it
pub set_names : {f : NamedTrees} {ps : List Stored} {lists : List (List ℕ)} {keys : Owner → List ℕ} → seen ps lists ≡ f → IsKept ps lists keys
    → (x : ℕ) {s : Stored} (t : Stored) → slice_get ps x ≡ Some s → t.name ≡ s.name → stored_names (set ps x t) ≡ f.names
set_names {ps = ps} is kept x {s} t at same = stored_names-set ps x s t at same ∙ ap (λ (g : NamedTrees). g.names) is

-- what is stored of a key's node, and what is stored anew under its name
pub record IsStoredAnew (ps : List Stored) (x : ℕ) (s t : Stored) : Type 0 where
  pub at : slice_get ps x ≡ Some s
  pub name_kept : t.name ≡ s.name

-- a change of what is stored is that change of the node
pub set_done : {f : NamedTrees} {ps : List Stored} {lists : List (List ℕ)} {keys : Owner → List ℕ} → seen ps lists ≡ f → IsKept ps lists keys
    → {x : ℕ} {s t : Stored} → IsStoredAnew ps x s t → (h : Node → Node) → ((y : Node) → (h y).name ≡ y.name) →
    node_with f.names t.name t.node ≡ h (node_with f.names s.name s.node)
    → seen (set ps x t) lists ≡ record f { trees = change_node h (name_at f.names x) f.trees }
set_done {f = f} {ps = ps} {lists = lists} {keys = keys} is kept {x = x} {s = s} {t = t} anew h keeps changed =
    subst (λ (g : NamedTrees). seen (set ps x t) lists ≡ record g { trees = change_node h (name_at g.names x) g.trees }) is
    (ap (λ ns. record { names = ns; trees = trees_of (nodes_with ns (set ps x t)) lists }) names
    ∙ ap (λ ts. record { names = stored_names ps; trees = ts })
    (trees_of-map others whole as_long keeps_all each))
  where
    names : stored_names (set ps x t) ≡ stored_names ps
    names = stored_names-set ps x s t anew.at anew.name_kept

    others : List Node
    others = nodes_with (stored_names ps) (set ps x t)

    whole : IsWhole (nodes_of ps) lists
    whole = IsWhole-kept kept

    as_long : length others ≡ length (nodes_of ps)
    as_long = length-map (set ps x t) _ ∙ (length-set ps x t ∙ sym (length-map ps _))

    keeps_all : (y : Node) → (cond (name_eq y.name (name_at (stored_names ps) x)) (h y) y).name ≡ y.name
    keeps_all y = elim (cases_Bool (name_eq y.name (name_at (stored_names ps) x))) [
      | inl e ↦ rw e (keeps y)
      | inr e ↦ rw e refl
    ]

    here : slice_get (nodes_of ps) x ≡ Some (node_with (stored_names ps) s.name s.node)
    here = slice_get-map (λ u. node_with (stored_names ps) u.name u.node) ps x ∙ ap (option_map (λ u. node_with (stored_names ps) u.name u.node)) anew.at

    new_here : slice_get others x ≡ Some (h (node_with (stored_names ps) s.name s.node))
    new_here = slice_get-map (λ u. node_with (stored_names ps) u.name u.node) (set ps x t) x
        ∙ (ap (option_map (λ u. node_with (stored_names ps) u.name u.node)) (slice_get-set_same ps x s t anew.at)
        ∙ ap Some (subst (λ (g : NamedTrees). node_with g.names t.name t.node ≡ h (node_with g.names s.name s.node)) (sym is) changed))

    own_name : s.name ≡ name_at (stored_names ps) x
    own_name = ap (λ (y : Node). y.name) (sym (get_or_from_slice_get (nodes_of ps) x (node_with (stored_names ps) s.name s.node) _ here)) ∙
        sym (name_at-same (stored_names ps) ps x)

    each : (k : ℕ) (y : Node) → slice_get (nodes_of ps) k ≡ Some y → slice_get others k ≡ Some (cond (name_eq y.name (name_at (stored_names ps) x)) (h y) y)
    each k y at_k = elim (eqb_tells k x) [
      | inl e ↦
          let is_y : y ≡ node_with (stored_names ps) s.name s.node = same_Some y _ (sym at_k ∙ (ap (slice_get (nodes_of ps)) e.1 ∙ here)) in
          let named : name_eq y.name (name_at (stored_names ps) x) ≡ true =
          ap (λ (z : Node). name_eq z.name (name_at (stored_names ps) x)) is_y ∙ (ap (name_eq s.name) (sym own_name) ∙ name_eq-same s.name) in
          ap (slice_get others) e.1 ∙ (new_here ∙ (ap (λ z. Some (h z)) (sym is_y) ∙ ap (λ b. Some (cond b (h y) y)) (sym named)))
      | inr e ↦
          let apart : name_eq y.name (name_at (stored_names ps) x) ≡ false =
          ap (name_eq y.name) (sym own_name) ∙ (same_name whole.named k x at_k here ∙ e.0) in
          slice_get-map (λ u. node_with (stored_names ps) u.name u.node) (set ps x t) k
          ∙ (ap (option_map (λ u. node_with (stored_names ps) u.name u.node)) (slice_get-set_other ps x k t e.1)
          ∙ (sym (slice_get-map (λ u. node_with (stored_names ps) u.name u.node) ps k) ∙ (at_k ∙ ap (λ b. Some (cond b (h y) y)) (sym apart))))
    ]
