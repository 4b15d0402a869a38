-- What stands above each node, and what a node added, put into a list or taken out of one leaves there.
use Rattle.std.proofs.Common.{◌≡◌, ◌⊎◌, inl, inr, ℕ, ◌<◌, ◌↔◌, true, false, cond, eqb, List, [], ◌∷◌, length, Option, Some, None, refl, sym, ap, subst, ◌∙◌}
use Rattle.std.proofs.Common.{true≢false}
use Rattle.std.specs.Option.{is_some, option_map_or}
use Rattle.std.proofs.lemmas.Bool.{eq-eqb, eqb-true, or_cases, or_right}
use Rattle.std.proofs.lemmas.Bool.Decides.{eqb_tells}
use Rattle.std.proofs.lemmas.Option.{none-some, same_Some}
use Rattle.node_arena.specs.Nodes.{children_of, contains, parent_of, ancestors_of, head_of, IsForest, IsInclusiveAncestor}
use Rattle.node_arena.proofs.Lists.{contains-head}
use Rattle.node_arena.proofs.Forests.{cases_Option, contains-parent, parent_within, ancestors_of-child, ancestors_of-root}
use Rattle.node_arena.proofs.Recursion.{from_parent}

-- ---- the way up from a node

-- a node alone is a line
pub above-alone : (lists : List (List ℕ)) (a : ℕ) {k : ℕ} → k ≡ a → IsInclusiveAncestor lists a k
above-alone lists a here = ap (λ x. contains (x ∷ ancestors_of lists x) a) here ∙ contains-head a (ancestors_of lists a)

-- a node and those above it, or none
abbrev pub line_from : List (List ℕ) → Option ℕ → List ℕ
line_from lists from = option_map_or (λ k. k ∷ ancestors_of lists k) from []

-- a list without a first one is empty
pub no_first : (xs : List ℕ) {first : Option ℕ} → first ≡ head_of xs → is_some first ≡ false → xs ≡ []
no_first [] read none = refl
no_first (x ∷ xs) read none = absurd (true≢false (ap is_some (sym read) ∙ none))

module _ {lists : List (List ℕ)} (forest : IsForest lists) where
  -- what stands above a parent stands above the child
  pub above_up : (a k : ℕ) {p : ℕ} → parent_of lists k ≡ Some p → IsInclusiveAncestor lists a p → IsInclusiveAncestor lists a k
  above_up a k {p} up found =
      or_right (eqb k a) (contains (ancestors_of lists k) a) (ap (λ xs. contains xs a) (ancestors_of-child lists forest k p up) ∙ found)

  -- what stands above a node is the node or stands above its parent
  above_down : (a k : ℕ) → IsInclusiveAncestor lists a k → (k ≡ a) ⊎ ((p : ℕ) × (parent_of lists k ≡ Some p) × IsInclusiveAncestor lists a p)
  above_down a k found = elim (or_cases (eqb k a) (contains (ancestors_of lists k) a) found) [
    | inl here ↦ inl (eqb-true k a here)
    | inr above ↦ elim (cases_Option (parent_of lists k)) [
      | inl root ↦ absurd (true≢false (sym above ∙ ap (λ xs. contains xs a) (ancestors_of-root lists k root)))
      | inr up ↦ inr (up.0, up.1, ap (λ xs. contains xs a) (sym (ancestors_of-child lists forest k up.0 up.1)) ∙ above)
    ]
  ]

  -- what stands above a node and is another one stands above the parent, which there is
  pub above_next : (a k : ℕ) → (k ≡ a → ⊥) → IsInclusiveAncestor lists a k → (p : ℕ) × (parent_of lists k ≡ Some p) × IsInclusiveAncestor lists a p
  above_next a k other found = elim (above_down a k found) [ inl here ↦ absurd (other here) | inr up ↦ up ]

  -- and what stands above a node is a node
  pub above-within : (a k : ℕ) → k < length lists → IsInclusiveAncestor lists a k → a < length lists
  above-within a =
      from_parent lists forest (λ n. n < length lists → IsInclusiveAncestor lists a n → a < length lists)
      (λ n before node found. elim (above_down a n found) [
        | inl here ↦ subst (λ (x : ℕ). x < length lists) here node
        | inr up ↦ before up.0 up.1 (parent_within lists up.0 n (contains-parent lists n up.0 up.1)) up.2
      ])

  -- what stands above what stands above a node stands above the node
  above_both : (a b k : ℕ) → IsInclusiveAncestor lists a b → IsInclusiveAncestor lists b k → IsInclusiveAncestor lists a k
  above_both a b k upper =
      from_parent lists forest (λ n. IsInclusiveAncestor lists b n → IsInclusiveAncestor lists a n) (λ n before found.
      elim (above_down b n found) [
        | inl here ↦ ap (λ x. contains (x ∷ ancestors_of lists x) a) here ∙ upper
        | inr up ↦ above_up a n up.1 (before up.0 up.1 up.2)
      ]) k

  -- what stands above a node with a root above it has that root above it
  root_above : (a c k : ℕ) → parent_of lists c ≡ None → IsInclusiveAncestor lists c k → IsInclusiveAncestor lists a k → IsInclusiveAncestor lists c a
  root_above a c k root =
      from_parent lists forest (λ n. IsInclusiveAncestor lists c n → IsInclusiveAncestor lists a n → IsInclusiveAncestor lists c a)
      (λ n before top found. elim (above_down a n found) [
        | inl here ↦ ap (λ x. contains (x ∷ ancestors_of lists x) c) (sym here) ∙ top
        | inr up ↦ elim (above_down c n top) [
          | inl is ↦ absurd (none-some up.0 (sym (ap (parent_of lists) is ∙ root) ∙ up.1))
          | inr also ↦ before up.0 up.1 (ap (λ x. contains (x ∷ ancestors_of lists x) c) (same_Some up.0 also.0 (sym up.1 ∙ also.1)) ∙ also.2) up.2
        ]
      ]) k

  -- above a root stands the root alone
  pub above-root : (a k : ℕ) → parent_of lists k ≡ None → IsInclusiveAncestor lists a k → k ≡ a
  above-root a k root found = elim (above_down a k found) [ inl here ↦ here | inr up ↦ absurd (none-some up.0 (sym root ∙ up.1)) ]

  -- a node without children stands above itself alone
  pub above-childless : (a k : ℕ) → children_of lists a ≡ [] → IsInclusiveAncestor lists a k → k ≡ a
  above-childless a k leaf =
      from_parent lists forest (λ n. IsInclusiveAncestor lists a n → n ≡ a) (λ n before found. elim (above_down a n found) [
        | inl here ↦ here
        | inr up ↦
            let below : contains (children_of lists a) n ≡ true =
            ap (λ x. contains (children_of lists x) n) (sym (before up.0 up.1 up.2)) ∙ contains-parent lists n up.0 up.1 in
            absurd (true≢false (sym below ∙ ap (λ xs. contains xs n) leaf))
      ]) k

-- ---- a node linked, or taken out

-- the lists in which c has the parent p, beside those in which it has none
pub record Joined (apart joined : List (List ℕ)) (p c : ℕ) : Type 0 where
  pub forest_apart : IsForest apart
  pub forest_joined : IsForest joined
  pub root : parent_of apart c ≡ None
  pub parents : (k : ℕ) → parent_of joined k ≡ cond (eqb c k) (Some p) (parent_of apart k)
  pub not_above : ¬ IsInclusiveAncestor apart c p

module _ {apart joined : List (List ℕ)} {p c : ℕ} (both : Joined apart joined p c) where
  pub child_parent : parent_of joined c ≡ Some p
  child_parent = both.parents c ∙ ap (λ b. cond b (Some p) (parent_of apart c)) (eq-eqb c c refl)

  kept_parent : (k q : ℕ) → parent_of apart k ≡ Some q → parent_of joined k ≡ Some q
  kept_parent k q up = elim (eqb_tells c k) [
    | inl is ↦ absurd (none-some q (sym (ap (parent_of apart) (sym is.1) ∙ both.root) ∙ up))
    | inr other ↦ both.parents k ∙ (ap (λ b. cond b (Some p) (parent_of apart k)) other.0 ∙ up)
  ]

  pub above_kept : (a k : ℕ) → IsInclusiveAncestor apart a k → IsInclusiveAncestor joined a k
  above_kept a k =
      from_parent apart both.forest_apart (λ n. IsInclusiveAncestor apart a n → IsInclusiveAncestor joined a n) (λ n before found.
      elim (above_down both.forest_apart a n found) [
        | inl here ↦ above-alone joined a here
        | inr up ↦ above_up both.forest_joined a n (kept_parent n up.0 up.1) (before up.0 up.1 up.2)
      ]) k

  -- what stands above a node did so before, or through the child
  above_old : (a k : ℕ) → IsInclusiveAncestor joined a k → IsInclusiveAncestor apart a k ⊎ (IsInclusiveAncestor apart c k × IsInclusiveAncestor apart a p)
  above_old a k =
      from_parent joined both.forest_joined
      (λ n. IsInclusiveAncestor joined a n → IsInclusiveAncestor apart a n ⊎ (IsInclusiveAncestor apart c n × IsInclusiveAncestor apart a p))
      (λ n before found. elim (above_down both.forest_joined a n found) [
        | inl here ↦ inl (above-alone apart a here)
        | inr up ↦ at n up.0 up.1 (before up.0 up.1 up.2)
      ]) k
    where
      at : (n q : ℕ) → parent_of joined n ≡ Some q →
          IsInclusiveAncestor apart a q ⊎ (IsInclusiveAncestor apart c q × IsInclusiveAncestor apart a p) →
          IsInclusiveAncestor apart a n ⊎ (IsInclusiveAncestor apart c n × IsInclusiveAncestor apart a p)
      at n q up before = elim (eqb_tells c n) [
        | inl is ↦
            let same : q ≡ p = same_Some q p (sym up ∙ (ap (parent_of joined) (sym is.1) ∙ child_parent)) in
            let here : IsInclusiveAncestor apart c n = ap (λ x. contains (n ∷ ancestors_of apart n) x) is.1 ∙ contains-head n (ancestors_of apart n) in
            inr (
              here,
              elim before [
                | inl above ↦ ap (λ x. contains (x ∷ ancestors_of apart x) a) (sym same) ∙ above
                | inr through ↦ through.1
              ],
            )
        | inr other ↦
            let above_n : parent_of apart n ≡ Some q = ap (λ b. cond b (Some p) (parent_of apart n)) (sym other.0) ∙ (sym (both.parents n) ∙ up) in
            elim before [
              | inl above ↦ inl (above_up both.forest_apart a n above_n above)
              | inr through ↦ inr (above_up both.forest_apart c n above_n through.0, through.1)
            ]
      ]

  -- what stands above a node once the child is linked
  pub above-joined : (a k : ℕ) →
      IsInclusiveAncestor joined a k ↔ (IsInclusiveAncestor apart a k ⊎ (IsInclusiveAncestor apart c k × IsInclusiveAncestor apart a p))
  above-joined a k = (
    above_old a k,
    λ found. elim found [
      | inl above ↦ above_kept a k above
      | inr through ↦ above_both both.forest_joined a c k (above_up both.forest_joined a c child_parent (above_kept a p through.1)) (above_kept c k through.0)
    ],
  )

  -- and once it is taken out
  pub above-parted : (a k : ℕ) →
      IsInclusiveAncestor apart a k ↔ (IsInclusiveAncestor joined a k × (IsInclusiveAncestor joined c k → IsInclusiveAncestor joined c a))
  above-parted a k = (
    λ above. (above_kept a k above, λ top. above_kept c a (root_above both.forest_apart a c k both.root (below k top) above)),
    λ found. elim (above_old a k found.0) [
      | inl above ↦ above
      | inr through ↦ absurd (both.not_above (below p (above_both both.forest_joined c a p (found.1 (above_kept c k through.0)) (above_kept a p through.1))))
    ],
  )
    where
      below : (n : ℕ) → IsInclusiveAncestor joined c n → IsInclusiveAncestor apart c n
      below n top = elim (above_old c n top) [ inl above ↦ above | inr through ↦ through.0 ]

-- where no parent changes, nothing does
pub above-same : {lists others : List (List ℕ)} → IsForest lists → IsForest others → ((k : ℕ) → parent_of lists k ≡ parent_of others k) →
    (a k : ℕ) → IsInclusiveAncestor lists a k → IsInclusiveAncestor others a k
above-same {lists} {others} forest after same a k =
    from_parent lists forest (λ n. IsInclusiveAncestor lists a n → IsInclusiveAncestor others a n) (λ n before found.
    elim (above_down forest a n found) [
      | inl here ↦ above-alone others a here
      | inr up ↦ above_up after a n (sym (same n) ∙ up.1) (before up.0 up.1 up.2)
    ]) k

-- and nothing changes where the child has no parent before it is taken out
pub above-unparted : {lists : List (List ℕ)} → IsForest lists → (c : ℕ) → parent_of lists c ≡ None → (a k : ℕ) →
    IsInclusiveAncestor lists a k ↔ (IsInclusiveAncestor lists a k × (IsInclusiveAncestor lists c k → IsInclusiveAncestor lists c a))
above-unparted forest c root a k = (λ above. (above, λ top. root_above forest a c k root top above), λ found. found.0)
