-- Tree order among the keys for which trees stand.
use Rattle.dom_base.proofs.Std.{◌≡◌, inl, inr, ℕ, ◌≤◌, true, false, cond, eqb, List, [], ◌∷◌, ◌++◌, map, Option, Some, None, refl, sym, ap, ◌∙◌}
use Rattle.dom_base.proofs.Std.{arith, true≢false, slice_get, eq-eqb, ne_eqb, eqb-true, both_ways, or_cases, or_left, or_right, cases_Bool, false_from_ne_true}
use Rattle.dom_base.proofs.Std.{map-append, get_or_from_slice_get}
use Rattle.dom_model.proofs.Model.{Trees, none, tree, Node, nodes as nodes_in, names_of, times_in}
use Rattle.node_arena.specs.Nodes.{children_of, contains, IsOnce}
use Rattle.node_arena.proofs.Lists.{contains-append, contains-head, IsOnce-append_left, IsOnce-append_right, IsOnce-apart, head_or, head_or-append}
use Rattle.node_arena.proofs.Lists.{next_from, next_from-append}
use Rattle.dom_tree.proofs.Rows.{Stands, same_name, name_of_key, IsNamed}
use Rattle.dom_laws.proofs.Laws.{one, one-true, times_in-none, times_in-tree}
use Rattle.dom_tree.proofs.Once.{times, times-nil, times-cons, times-append, times-present}

-- the keys for which trees stand, in tree order
abbrev pub in_trees : List (List ℕ) → Trees → List ℕ → List ℕ
in_trees lists none ks = []
in_trees lists (tree n c r) [] = []
in_trees lists (tree n c r) (k ∷ ks) = k ∷ (in_trees lists c (children_of lists k) ++ in_trees lists r ks)

pub name_here : (nodes : List Node) (k : ℕ) (n : Node) → slice_get nodes k ≡ Some n → n.name ≡ name_of_key nodes k
name_here nodes k n e = ap (λ (y : Node). y.name) (sym (get_or_from_slice_get nodes k n _ e))

-- trees that stand for keys, with this key among them or below
pub record StandsWith (nodes : List Node) (lists : List (List ℕ)) (ts : Trees) (ks : List ℕ) (p : ℕ) : Type 0 where
  pub stands : Stands nodes lists ts ks
  pub found : contains (in_trees lists ts ks) p ≡ true

module _ (nodes : List Node) (lists : List (List ℕ)) where
  pub names-in_trees : (ts : Trees) (ks : List ℕ) → Stands nodes lists ts ks →
      names_of (nodes_in ts) ≡ map (name_of_key nodes) (in_trees lists ts ks)
  names-in_trees none ks s = refl
  names-in_trees (tree n c r) [] s = absurd s
  names-in_trees (tree n c r) (k ∷ ks) s =
      let below = in_trees lists c (children_of lists k) in
      let rest = in_trees lists r ks in
      let here = name_here nodes k n s.0 in
      let both = map-append (λ (m : Node). m.name) (nodes_in c) (nodes_in r) in
      let all = map-append (name_of_key nodes) below rest in
      let in_below = names-in_trees c (children_of lists k) s.1 in
      let in_rest = names-in_trees r ks s.2 in
      cc

  -- roots are among them, and with a node its children
  pub root-in_trees : (x : ℕ) (ts : Trees) (ks : List ℕ) → Stands nodes lists ts ks →
      contains ks x ≡ true → contains (in_trees lists ts ks) x ≡ true
  root-in_trees x none [] s found = found
  root-in_trees x none (k ∷ ks) s found = absurd s
  root-in_trees x (tree n c r) [] s found = absurd s
  root-in_trees x (tree n c r) (k ∷ ks) s found = elim (or_cases (eqb k x) _ found) [
    | inl h ↦ or_left (eqb k x) _ h
    | inr h ↦ or_right (eqb k x) _ (contains-append (in_trees lists c (children_of lists k)) (in_trees lists r ks) x ∙
        or_right (contains (in_trees lists c (children_of lists k)) x) _ (root-in_trees x r ks s.2 h))
  ]

  pub child-in_trees : (p x : ℕ) → contains (children_of lists p) x ≡ true →
      (ts : Trees) (ks : List ℕ) → StandsWith nodes lists ts ks p → contains (in_trees lists ts ks) x ≡ true
  child-in_trees p x child none ks standing = absurd (true≢false (sym standing.found))
  child-in_trees p x child (tree n c r) [] standing = absurd standing.stands
  child-in_trees p x child (tree n c r) (k ∷ ks) standing =
      let below = in_trees lists c (children_of lists k) in
      let rest = in_trees lists r ks in
      elim (or_cases (eqb k p) _ standing.found) [
        | inl h ↦
            or_right (eqb k x) _ (contains-append below rest x ∙
            or_left (contains below x) _
            (root-in_trees x c (children_of lists k) standing.stands.1 (ap (λ j. contains (children_of lists j) x) (eqb-true k p h) ∙ child)))
        | inr h ↦ elim (or_cases (contains below p) _ (sym (contains-append below rest p) ∙ h)) [
          | inl i ↦ or_right (eqb k x) _ (contains-append below rest x ∙
              or_left (contains below x) _ (child-in_trees p x child c (children_of lists k) (record { stands = standing.stands.1; found = i })))
          | inr i ↦ or_right (eqb k x) _ (contains-append below rest x ∙ or_right (contains below x) _
              (child-in_trees p x child r ks (record { stands = standing.stands.2; found = i })))
        ]
      ]

  head_or-in_trees : (ts : Trees) (ks : List ℕ) (after : Option ℕ) → Stands nodes lists ts ks →
      head_or (in_trees lists ts ks) after ≡ head_or ks after
  head_or-in_trees none [] after s = refl
  head_or-in_trees none (k ∷ ks) after s = absurd s
  head_or-in_trees (tree n c r) [] after s = absurd s
  head_or-in_trees (tree n c r) (k ∷ ks) after s = refl

  -- each is that of a node
  pub key-in_trees : (x : ℕ) (ts : Trees) (ks : List ℕ) → Stands nodes lists ts ks →
      contains (in_trees lists ts ks) x ≡ true → (n : Node) × (slice_get nodes x ≡ Some n)
  key-in_trees x none ks s found = absurd (true≢false (sym found))
  key-in_trees x (tree n c r) [] s found = absurd s
  key-in_trees x (tree n c r) (k ∷ ks) s found = elim (or_cases (eqb k x) _ found) [
    | inl h ↦ (n, ap (slice_get nodes) (sym (eqb-true k x h)) ∙ s.0)
    | inr h ↦ elim (or_cases (contains (in_trees lists c (children_of lists k)) x) _
        (sym (contains-append (in_trees lists c (children_of lists k)) (in_trees lists r ks) x) ∙ h)) [
          | inl i ↦ key-in_trees x c (children_of lists k) s.1 i
          | inr i ↦ key-in_trees x r ks s.2 i
        ]
  ]

  -- and stands there once
  pub times-in_trees : IsNamed nodes → (x : ℕ) {m : Node} → slice_get nodes x ≡ Some m → (ts : Trees) (ks : List ℕ) → Stands nodes lists ts ks →
      times x (in_trees lists ts ks) ≡ times_in ts m.name
  times-in_trees named x {m = m} at none ks s = times-nil x ∙ sym (times_in-none m.name)
  times-in_trees named x at (tree n c r) [] s = absurd s
  times-in_trees named x {m = m} at (tree n c r) (k ∷ ks) s =
      let below = in_trees lists c (children_of lists k) in
      let rest = in_trees lists r ks in
      let tells = ap one (same_name named k x s.0 at) in
      let in_below = times-in_trees named x at c (children_of lists k) s.1 in
      let in_rest = times-in_trees named x at r ks s.2 in
      omega (arith, tells, in_below, in_rest, times-cons x k (below ++ rest), times-append x below rest, times_in-tree n c r m.name)

pub IsOnce-times : (ks : List ℕ) → ((k : ℕ) → contains ks k ≡ true → times k ks ≤ 1) → IsOnce ks
IsOnce-times [] few = tt
IsOnce-times (k ∷ ks) few = (
  false_from_ne_true _ (λ found. omega (arith, few k (contains-head k ks), times-cons k k ks, one-true (eqb k k) (eq-eqb k k refl), times-present k ks found)),
  IsOnce-times ks (λ j found. omega (arith, few j (or_right (eqb k j) _ found), times-cons j k ks)),
)

-- ---- what stands behind a node and all below it

abbrev pub behind : List (List ℕ) → Trees → List ℕ → Option ℕ → ℕ → Option ℕ
behind lists none ks after x = None
behind lists (tree n c r) [] after x = None
behind lists (tree n c r) (k ∷ ks) after x =
    cond (eqb k x) (head_or ks after) (cond (contains (in_trees lists c (children_of lists k)) x)
    (behind lists c (children_of lists k) (head_or ks after) x) (behind lists r ks after x))

-- trees that stand for keys, each of which stands there once
pub record StandsOnce (nodes : List Node) (lists : List (List ℕ)) (ts : Trees) (ks : List ℕ) : Type 0 where
  pub stands : Stands nodes lists ts ks
  pub once : IsOnce (in_trees lists ts ks)

-- so do those below the first one, and those after it
pub StandsOnce-below : {nodes : List Node} {lists : List (List ℕ)} {n : Node} {c r : Trees} {k : ℕ} {ks : List ℕ} →
    StandsOnce nodes lists (tree n c r) (k ∷ ks) → StandsOnce nodes lists c (children_of lists k)
StandsOnce-below {lists = lists} {c = c} {k = k} standing = record {
  stands = standing.stands.1;
  once = IsOnce-append_left (in_trees lists c (children_of lists k)) _ standing.once.1;
}

pub StandsOnce-rest : {nodes : List Node} {lists : List (List ℕ)} {n : Node} {c r : Trees} {k : ℕ} {ks : List ℕ} →
    StandsOnce nodes lists (tree n c r) (k ∷ ks) → StandsOnce nodes lists r ks
StandsOnce-rest {lists = lists} {c = c} {k = k} standing = record {
  stands = standing.stands.2;
  once = IsOnce-append_right (in_trees lists c (children_of lists k)) _ standing.once.1;
}

module _ (nodes : List Node) (lists : List (List ℕ)) where
  behind-root : (x : ℕ) (ts : Trees) (ks : List ℕ) (after : Option ℕ) → StandsOnce nodes lists ts ks →
      contains ks x ≡ true → behind lists ts ks after x ≡ next_from ks after x
  behind-root x none [] after standing found = refl
  behind-root x none (k ∷ ks) after standing found = absurd standing.stands
  behind-root x (tree n c r) [] after standing found = absurd standing.stands
  behind-root x (tree n c r) (k ∷ ks) after standing found =
      let below = in_trees lists c (children_of lists k) in
      let rest = in_trees lists r ks in
      elim (cases_Bool (eqb k x)) [
        | inl e ↦ rw e refl
        | inr e ↦
            let in_rest : contains ks x ≡ true = rw e at found in
            let off : contains below x ≡ false =
            false_from_ne_true _ (λ h. both_ways _ (IsOnce-apart below rest x standing.once.1 h)
            (root-in_trees nodes lists x r ks standing.stands.2 in_rest)) in
            rw (e, off) (behind-root x r ks after (StandsOnce-rest standing) in_rest)
      ]

  pub behind-child : (p x : ℕ) → contains (children_of lists p) x ≡ true → {ts : Trees} {ks : List ℕ} (after : Option ℕ) → StandsOnce nodes lists ts ks →
      contains (in_trees lists ts ks) p ≡ true → behind lists ts ks after x ≡ next_from (children_of lists p) (behind lists ts ks after p) x
  behind-child p x child {ts = none} after standing found = absurd (true≢false (sym found))
  behind-child p x child {ts = tree n c r} {ks = []} after standing found = absurd standing.stands
  behind-child p x child {ts = tree n c r} {ks = k ∷ ks} after standing found =
      let below = in_trees lists c (children_of lists k) in
      let rest = in_trees lists r ks in
      let off : (y : ℕ) → contains (below ++ rest) y ≡ true → eqb k y ≡ false =
      λ y there. ne_eqb k y (λ e. both_ways _ standing.once.0 (ap (contains (below ++ rest)) e ∙ there)) in
      let left : (y : ℕ) → contains below y ≡ true → contains (below ++ rest) y ≡ true = λ y h. contains-append below rest y ∙ or_left (contains below y) _ h in
      let right : (y : ℕ) → contains rest y ≡ true →
      contains (below ++ rest) y ≡ true = λ y h. contains-append below rest y ∙ or_right (contains below y) _ h in
      let apart : (y : ℕ) → contains rest y ≡ true → contains below y ≡ false =
      λ y h. false_from_ne_true _ (λ i. both_ways _ (IsOnce-apart below rest y standing.once.1 i) h) in
      elim (or_cases (eqb k p) _ found) [
        | inl h ↦
            let same : children_of lists k ≡ children_of lists p = ap (children_of lists) (eqb-true k p h) in
            let among : contains (children_of lists k) x ≡ true = ap (λ js. contains js x) same ∙ child in
            let there : contains below x ≡ true = root-in_trees nodes lists x c (children_of lists k) standing.stands.1 among in
            rw (off x (left x there), there, h)
            (behind-root x c (children_of lists k) (head_or ks after) (StandsOnce-below standing) among ∙
            ap (λ js. next_from js (head_or ks after) x) same)
        | inr h ↦ elim (or_cases (contains below p) _ (sym (contains-append below rest p) ∙ h)) [
          | inl i ↦
              let there : contains below x ≡ true = child-in_trees nodes lists p x child c (children_of lists k)
              (record { stands = standing.stands.1; found = i }) in
              rw (off x (left x there), there, off p (left p i), i)
              (behind-child p x child {ts = c} (head_or ks after) (StandsOnce-below standing) i)
          | inr i ↦
              let there : contains rest x ≡ true = child-in_trees nodes lists p x child r ks (record { stands = standing.stands.2; found = i }) in
              rw (off x (right x there), apart x there, off p (right p i), apart p i)
              (behind-child p x child {ts = r} after (StandsOnce-rest standing) i)
        ]
      ]

  -- behind a node stand first its children
  pub next-in_trees : (x : ℕ) (ts : Trees) (ks : List ℕ) (after : Option ℕ) → Stands nodes lists ts ks →
      contains (in_trees lists ts ks) x ≡ true
      → next_from (in_trees lists ts ks) after x ≡ head_or (children_of lists x) (behind lists ts ks after x)
  next-in_trees x none ks after s found = absurd (true≢false (sym found))
  next-in_trees x (tree n c r) [] after s found = absurd s
  next-in_trees x (tree n c r) (k ∷ ks) after s found =
      let below = in_trees lists c (children_of lists k) in
      let rest = in_trees lists r ks in
      elim (cases_Bool (eqb k x)) [
        | inl e ↦
            rw e (head_or-append below rest after ∙ (ap (head_or below) (head_or-in_trees nodes lists r ks after s.2)
            ∙ (head_or-in_trees nodes lists c (children_of lists k) (head_or ks after) s.1 ∙
            ap (λ j. head_or (children_of lists j) (head_or ks after)) (eqb-true k x e))))
        | inr e ↦
            let there : contains (below ++ rest) x ≡ true = rw e at found in
            elim (cases_Bool (contains below x)) [
              | inl i ↦
                  rw (e, next_from-append below rest after x, i)
                  (ap (λ o. next_from below o x) (head_or-in_trees nodes lists r ks after s.2) ∙ next-in_trees x c (children_of lists k)
                  (head_or ks after) s.1 i)
              | inr i ↦
                  let in_rest : contains rest x ≡ true = rw (contains-append below rest x, i) at there in
                  rw (e, next_from-append below rest after x, i) (next-in_trees x r ks after s.2 in_rest)
            ]
      ]
