-- In the trees of a forest each name stands once, and the nodes of its keys stand there.
use Rattle.dom_base.proofs.Std.{◌≡◌, ◌⊎◌, inl, inr, ℕ, ◌<◌, ◌≤◌, true, false, not, eqb, List, length, Some, ap, subst, arith, slice_get, count_by, cases_Bool}
use Rattle.dom_base.proofs.Std.{not-true, eq-eqb, both_ways, slice_get_within, get_or_from_slice_get}
use Rattle.dom_model.proofs.Model.{Owner, Page, NodeName, owner_eq, name_eq, node_of, Trees, none, tree, Node, nodes, names_of, has_node, is_inclusive_ancestor}
use Rattle.dom_model.proofs.Model.{inclusive_ancestors, times_in}
use Rattle.dom_laws.proofs.Laws.{is_in-from, In-from, Once, times_in-tree, times_count, Has, has_or_not, times-absent, Has-above, below-from_above, In-names}
use Rattle.dom_laws.proofs.Laws.{IsWithin}
use Rattle.dom_tree.specs.Definitions.{TellApart, NamedTrees, name_at, trees_of_owner}

-- a key's name
pub name_found : (names : List NodeName) (k : ℕ) (x : NodeName) → slice_get names k ≡ Some x → (k < length names) × (name_at names k ≡ x)
name_found names k x e = (slice_get_within names k x e, get_or_from_slice_get names k x (node_of Page 0) e)

-- what a forest says of its nodes
abbrev pub StandOnce : NamedTrees → Type 0
StandOnce f = (k : ℕ) → k < length f.names → count_by (λ n. name_eq n.name (name_at f.names k)) (nodes f.trees) ≡ 1

-- and of those that stand in its trees
abbrev pub StandAlone : NamedTrees → Type 0
StandAlone f = (x : NodeName) → has_node f.trees x ≡ true → (k : ℕ) × (slice_get f.names k ≡ Some x)

-- so each name stands once
pub Once-forest : (f : NamedTrees) → StandOnce f → StandAlone f → Once f.trees
Once-forest f once only x = by (has_or_not f.trees x)
  where
    by : Has f.trees x ⊎ (Has f.trees x → ⊥) → times_in f.trees x ≤ 1
    by (inl h) =
        let key = only x (is_in-from x (names_of (nodes f.trees)) (In-names f.trees x h)) in
        let at = name_found f.names key.0 x key.1 in
        let counted : count_by (λ (n : Node). name_eq n.name x) (nodes f.trees) ≡ 1 =
        subst (λ y. count_by (λ (n : Node). name_eq n.name y) (nodes f.trees) ≡ 1) at.1 (once key.0 at.0) in
        omega (arith, counted, times_count f.trees x)
    by (inr off) = omega (arith, times-absent x f.trees off)

-- and each key's node stands in the trees
pub Has-forest : (f : NamedTrees) → StandOnce f → (k : ℕ) → k < length f.names → Has f.trees (name_at f.names k)
Has-forest f once k node = elim (has_or_not f.trees (name_at f.names k)) [
  | inl h ↦ h
  | inr off ↦ absurd (omega (arith, once k node, times_count f.trees (name_at f.names k), times-absent (name_at f.names k) f.trees off))
]

-- a node with an inclusive ancestor stands in that one's tree
pub IsWithin-forest : (f : NamedTrees) → StandOnce f → StandAlone f → {top x : NodeName} → Has f.trees x → is_inclusive_ancestor f.trees top x ≡ true →
    IsWithin f.trees top x
IsWithin-forest f once only {top} {x} h above =
    let single = Once-forest f once only in
    let i = In-from top (inclusive_ancestors f.trees x) above in
    record { once = single; top_stands = Has-above f.trees top x single h i; stands = below-from_above f.trees top x single h i }

-- ---- the trees of one owner

-- an owner's own trees are some of all
pub times_own : (o : Owner) (ts : Trees) (x : NodeName) → times_in (trees_of_owner o ts) x ≤ times_in ts x
times_own o none x = omega arith
times_own o (tree n c r) x =
    let a = times_in-tree n c r x in let b = times_own o r x in
    elim (cases_Bool (owner_eq n.name.owner o)) [
      | inl h ↦ rw h (let d = times_in-tree n c (trees_of_owner o r) x in omega arith)
      | inr h ↦ rw h (omega arith)
    ]

-- in which each name stands once too
pub once_own : (o : Owner) (ts : Trees) → Once ts → Once (trees_of_owner o ts)
once_own o ts once x = let a = once x in let b = times_own o ts x in omega arith

-- ---- keys and names

-- Two keys of a forest whose names differ.
module _ (f : NamedTrees) (apart : TellApart f.names) (j k : ℕ) (at_j : j < length f.names) (at_k : k < length f.names) where
  -- two keys that differ have names that differ
  pub other_name : not (eqb j k) ≡ true → name_at f.names j ≡ name_at f.names k → ⊥
  other_name e same = both_ways _ (not-true _ e) (eq-eqb j k (apart j k at_j at_k same))

  -- two keys of which the test says that they differ have names that differ
  pub other_key : eqb j k ≡ false → name_at f.names j ≡ name_at f.names k → ⊥
  other_key e = other_name (ap not e)
