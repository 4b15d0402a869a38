-- A walk through the tree of a node, from its top on.
use Rattle.dom_base.proofs.Std.{◌≡◌, ℕ, ◌<◌, Bool, true, false, ◌&&◌, List, [], ◌∷◌, ◌++◌, All, map, length, Option, None, Some, filter, find, refl, sym}
use Rattle.dom_base.proofs.Std.{ap, subst, ◌∙◌, append_assoc, if◌then◌else◌, map-append, All-push, option_map, ForSome}
use Rattle.dom_model.proofs.Model.{NodeName, DomString, first_of, has_slot_name, Node, nodes, node_in, subtree, inclusive_descendants}
use Rattle.dom_tree.specs.Definitions.{NamedTrees, name_at, StandsIn}
use Rattle.dom_laws.specs.Within.{behind, from_node}
use Rattle.dom_laws.proofs.Laws.{filter-yes, filter-no, first-hit, above-within, ordered, top_places, Once}
use Rattle.dom_tree.proofs.Standing.{StandOnce, StandAlone}
use Rattle.dom_tree.proofs.Searching.{IsWithin-itself, following_step, length-behind}
use Rattle.dom_slots.proofs.NamesOfNodes.{named-first}

module _ (f : NamedTrees) (once : StandOnce f) (only : StandAlone f) (top : ℕ) (node : top < length f.names) where
  -- from the top on are all
  pub from-top : from_node f.trees (name_at f.names top) (Some (name_at f.names top)) ≡ inclusive_descendants f.trees (name_at f.names top)
  from-top =
      let w = IsWithin-itself f once only top node in
      let x = name_at f.names top in
      sym (ordered f.trees x x w ∙ ap (λ xs. xs ++ x ∷ behind f.trees x x) (top_places f.trees x w).0)

  -- and the top stands in its tree
  pub stands-top : (o : Option ℕ) → o ≡ Some top → ForSome o (StandsIn f top)
  stands-top o e =
      λ k is.
      let same : k ≡ top = cc in
      rw same record { node = node; within = above-within f.trees (name_at f.names top) (name_at f.names top) (IsWithin-itself f once only top node) }

-- a walk through the tree of a node goes on from a node to the one behind it: what is left is less, and begins there
pub record WalksOn (f : NamedTrees) (top k : ℕ) (at next : Option ℕ) : Type 0 where
  pub left : behind f.trees (name_at f.names top) (name_at f.names k) ≡ from_node f.trees (name_at f.names top) (option_map (name_at f.names) next)
  pub stands : ForSome next (StandsIn f top)
  pub less : length (from_node f.trees (name_at f.names top) (option_map (name_at f.names) next)) < length
      (from_node f.trees (name_at f.names top) (option_map (name_at f.names) at))

module _ (f : NamedTrees) (once : StandOnce f) (only : StandAlone f) where
  pub walks-on : {top k : ℕ} {at next : Option ℕ} → at ≡ Some k → ForSome at (StandsIn f top)
      → option_map (name_at f.names) next ≡ first_of (behind f.trees (name_at f.names top) (name_at f.names k)) → ForSome next (λ j. j < length f.names)
      → WalksOn f top k at next
  walks-on {top} {k} {at} {next} is stands found node =
      let step = following_step f once only top k next (stands k is) found node in
      record { left = step.0; stands = step.1; less = length-behind f top k at next is step.0 }

-- a walk looks for the first slot of a name, and what is left of it finds the one that the whole tree has
module _ (f : NamedTrees) (once : Once f.trees) (top : ℕ) (name : DomString) where
  abbrev left_first : Option ℕ → Option NodeName
  left_first o = first_of (filter (λ y. has_slot_name name (node_in f.trees y)) (from_node f.trees (name_at f.names top) (option_map (name_at f.names) o)))

  abbrev pub Finds : Option ℕ → Type 0
  Finds o = left_first o ≡ first_of (filter (λ y. has_slot_name name (node_in f.trees y)) (inclusive_descendants f.trees (name_at f.names top)))

  abbrev first : Option NodeName
  first = option_map (λ (n : Node). n.name) (find (has_slot_name name) (nodes (subtree f.trees (name_at f.names top))))

  -- it is the node to which the walk came, if that has the name
  pub finds-here : {at : Option ℕ} {k : ℕ} → Finds at → at ≡ Some k → has_slot_name name (node_in f.trees (name_at f.names k)) ≡ true →
      Some (name_at f.names k) ≡ first
  finds-here {at} {k} left is hit = sym (first-hit (λ y. has_slot_name name (node_in f.trees y)) (name_at f.names k) _ hit) ∙
      (ap left_first (sym is) ∙ (left ∙ sym (named-first f.trees once (has_slot_name name) (name_at f.names top))))

  -- and there is none, if the walk ends
  pub finds-none : {at : Option ℕ} → Finds at → at ≡ None → None ≡ first
  finds-none left is = ap left_first (sym is) ∙ (left ∙ sym (named-first f.trees once (has_slot_name name) (name_at f.names top)))

-- two tests, one after the other
pub filter-twice : (p q : NodeName → Bool) (xs : List NodeName) → filter (λ y. p y && q y) xs ≡ filter q (filter p xs)
filter-twice p q [] = refl
filter-twice p q (x ∷ xs) = by (p x) (q x) (filter-twice p q xs)
  where
    by : (a b : Bool) → filter (λ y. p y && q y) xs ≡ filter q (filter p xs)
        → (if a && q x then x ∷ filter (λ y. p y && q y) xs else filter (λ y. p y && q y) xs) ≡ filter q (if a then x ∷ filter p xs else filter p xs)
    by true b rest = ap (λ ys. if q x then x ∷ ys else ys) rest
    by false b rest = rest

-- Keys of nodes are collected along a list of names: those found so far and those that are left make the whole.
module _ (names : List NodeName) (p : NodeName → Bool) (found : List ℕ) (k : ℕ) (node : k < length names) (xs all : List NodeName)
    (nodes : All (λ j. j < length names) found) (left : map (name_at names) found ++ filter p (name_at names k ∷ xs) ≡ all) where
  -- a node that passes the test is collected
  pub collect-yes : (new : List ℕ) → new ≡ found ++ k ∷ [] → p (name_at names k) ≡ true → All (λ j. j < length names) new ×
      (map (name_at names) new ++ filter p xs ≡ all)
  collect-yes new e hit = (
    subst (All (λ j. j < length names)) (sym e) (All-push (λ j. j < length names) found k nodes node),
    ap (λ ks. map (name_at names) ks ++ filter p xs) e
        ∙ (ap (λ ys. ys ++ filter p xs) (map-append (name_at names) found (k ∷ []))
        ∙ (append_assoc (map (name_at names) found) (name_at names k ∷ []) (filter p xs)
        ∙ (ap (λ ys. map (name_at names) found ++ ys) (sym (filter-yes p (name_at names k) xs hit)) ∙ left))),
  )

  -- any other is passed
  pub collect-no : (new : List ℕ) → new ≡ found → p (name_at names k) ≡ false → All (λ j. j < length names) new × (map (name_at names) new ++ filter p xs ≡ all)
  collect-no new e miss = (
    subst (All (λ j. j < length names)) (sym e) nodes,
    ap (λ ks. map (name_at names) ks ++ filter p xs) e ∙ (ap (λ ys. map (name_at names) found ++ ys) (sym (filter-no p (name_at names k) xs miss)) ∙ left),
  )
