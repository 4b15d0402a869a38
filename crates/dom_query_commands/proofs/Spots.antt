-- Where nodes stand in trees, and that a name that stands there once has one spot.
use Rattle.dom_query_commands.proofs.Cited.{◌≡◌, ◌⊎◌, inl, inr, ◌+◌, ◌≤◌, List, ◌∷◌, ◌++◌, Option, Some, None, refl, sym, ap, subst, arith, if◌then◌else◌}
use Rattle.dom_query_commands.proofs.Cited.{option_or, cases_Bool, cond-true, NodeName, name_eq, Trees, none, tree, Node, times_in, name_eq-same, name_eq-true}
use Rattle.dom_query_commands.proofs.Cited.{by_times, times_in-none, times-here, times-elsewhere, times-more, TreeStep, closes, shown_steps}

-- a node where it stands: the trees of its children, the trees right of it, the names of its ancestors from its parent on, and
-- the steps behind the trees right of it
pub record Spot : Type 0 where
  pub node : Node
  pub below : Trees
  pub right : Trees
  pub above : List NodeName
  pub after : List TreeStep

-- the spot of the first root
abbrev pub spot_at : Node → Trees → Trees → List NodeName → List TreeStep → Spot
spot_at n c r above after = record { node = n; below = c; right = r; above = above; after = after }

-- the steps behind the children of a node with these trees right of it
abbrev pub closed : Trees → List TreeStep → List TreeStep
closed r after = closes ∷ (shown_steps r ++ after)

-- the first spot of a name in trees that stand below these nodes and before these steps
abbrev pub spot_of : Trees → List NodeName → List TreeStep → NodeName → Option Spot
spot_of none above after x = None
spot_of (tree n c r) above after x =
    if name_eq n.name x then Some (spot_at n c r above after) else option_or (spot_of c (n.name ∷ above) (closed r after) x) (spot_of r above after x)

-- a spot in such trees
abbrev pub IsSpot : Trees → List NodeName → List TreeStep → Spot → Type 0
IsSpot none above after s = ⊥
IsSpot (tree n c r) above after s = (s ≡ spot_at n c r above after) ⊎ (IsSpot c (n.name ∷ above) (closed r after) s ⊎ IsSpot r above after s)

-- the first root's name stands there
pub times-first : (n : Node) (c r : Trees) → times_in (tree n c r) n.name ≡ 1 + times_in c n.name + times_in r n.name
times-first n c r = times-here n c r n.name (name_eq-same n.name)

-- a name that doesn't stand in trees has no spot there
spot_of-absent : (ts : Trees) (above : List NodeName) (after : List TreeStep) (x : NodeName) → times_in ts x ≡ 0 → spot_of ts above after x ≡ None
spot_of-absent none above after x h = refl
spot_of-absent (tree n c r) above after x h = elim (cases_Bool (name_eq n.name x)) [
  | inl e ↦ absurd (omega (arith, times-here n c r x e))
  | inr e ↦
      let parts = times-elsewhere n c r x e in
      rw (e, spot_of-absent c (n.name ∷ above) (closed r after) x (omega arith), spot_of-absent r above after x (omega arith)) refl
]

-- the name of a spot stands there
pub times-spot : (ts : Trees) (above : List NodeName) (after : List TreeStep) (s : Spot) → IsSpot ts above after s → 1 ≤ times_in ts s.node.name
times-spot none above after s at = absurd at
times-spot (tree n c r) above after s (inl e) = subst (λ (t : Spot). 1 ≤ times_in (tree n c r) t.node.name) (sym e) (omega (arith, times-first n c r))
times-spot (tree n c r) above after s (inr (inl i)) = omega (arith, times-more n c r s.node.name, times-spot c (n.name ∷ above) (closed r after) s i)
times-spot (tree n c r) above after s (inr (inr i)) = omega (arith, times-more n c r s.node.name, times-spot r above after s i)

-- the spot of a name that stands there once is the first one of that name
pub spot_of-spot : (ts : Trees) (above : List NodeName) (after : List TreeStep) (s : Spot) → IsSpot ts above after s → times_in ts s.node.name ≤ 1 →
    spot_of ts above after s.node.name ≡ Some s
spot_of-spot none above after s at once = absurd at
spot_of-spot (tree n c r) above after s (inl e) once =
    subst (λ (t : Spot). spot_of (tree n c r) above after t.node.name ≡ Some t) (sym e)
    (cond-true (name_eq n.name n.name) (Some (spot_at n c r above after)) _ (name_eq-same n.name))
spot_of-spot (tree n c r) above after s (inr (inl i)) once =
    let there = times-spot c (n.name ∷ above) (closed r after) s i in
    elim (cases_Bool (name_eq n.name s.node.name)) [
      | inl e ↦ absurd (omega (arith, times-here n c r s.node.name e))
      | inr e ↦ rw (e, spot_of-spot c (n.name ∷ above) (closed r after) s i (omega (arith, times-more n c r s.node.name))) refl
    ]
spot_of-spot (tree n c r) above after s (inr (inr i)) once =
    let there = times-spot r above after s i in
    elim (cases_Bool (name_eq n.name s.node.name)) [
      | inl e ↦ absurd (omega (arith, times-here n c r s.node.name e))
      | inr e ↦
          let parts = times-elsewhere n c r s.node.name e in
          rw (e, spot_of-absent c (n.name ∷ above) (closed r after) s.node.name (omega arith), spot_of-spot r above after s i (omega arith)) refl
    ]

-- a name that stands there has a spot
pub spot_there : (ts : Trees) (above : List NodeName) (after : List TreeStep) (x : NodeName) → 1 ≤ times_in ts x → (s : Spot) ×
    IsSpot ts above after s × (s.node.name ≡ x)
spot_there none above after x h = absurd (omega (arith, times_in-none x))
spot_there (tree n c r) above after x h = elim (cases_Bool (name_eq n.name x)) [
  | inl e ↦ (spot_at n c r above after, inl refl, name_eq-true n.name x e)
  | inr e ↦
      let parts = times-elsewhere n c r x e in
      by_times (times_in c x)
      (λ z. let s = spot_there r above after x (omega arith) in (s.0, inr (inr s.1), s.2))
      (λ z. let s = spot_there c (n.name ∷ above) (closed r after) x z in (s.0, inr (inl s.1), s.2))
]

-- ---- from spot to spot

-- From a spot to another one, where these trees are its trees of a kind, to which it leads at the first node too.
module _ (to : Trees) (trees_at : Spot → Trees) (next : Spot → Spot)
    (first : (m : Node) (d q : Trees) (above : List NodeName) (after : List TreeStep) → trees_at (spot_at m d q above after) ≡ to →
    IsSpot (tree m d q) above after (next (spot_at m d q above after))) where
  IsSpot-next_to : (ts : Trees) (above : List NodeName) (after : List TreeStep) (s : Spot) → IsSpot ts above after s → trees_at s ≡ to →
      IsSpot ts above after (next s)
  IsSpot-next_to none above after s at e = absurd at
  IsSpot-next_to (tree m d q) above after s (inl h) e =
      subst (λ (t : Spot). trees_at t ≡ to → IsSpot (tree m d q) above after (next t)) (sym h) (first m d q above after) e
  IsSpot-next_to (tree m d q) above after s (inr (inl i)) e = inr (inl (IsSpot-next_to d (m.name ∷ above) (closed q after) s i e))
  IsSpot-next_to (tree m d q) above after s (inr (inr i)) e = inr (inr (IsSpot-next_to q above after s i e))

-- the first child of a node
abbrev pub child_spot : Spot → Node → Trees → Trees → Spot
child_spot s n c r = spot_at n c r (s.node.name ∷ s.above) (closed s.right s.after)

-- it is a spot there too
pub IsSpot-child : {n : Node} {c r : Trees} (ts : Trees) (above : List NodeName) (after : List TreeStep) (s : Spot) → IsSpot ts above after s →
    s.below ≡ tree n c r → IsSpot ts above after (child_spot s n c r)
IsSpot-child {n = n} {c = c} {r = r} =
    IsSpot-next_to (tree n c r) (λ s. s.below) (λ s. child_spot s n c r) (λ m d q above after e. inr (inl (subst
    (λ (ts : Trees). IsSpot ts (m.name ∷ above) (closed q after) (spot_at n c r (m.name ∷ above) (closed q after))) (sym e) (inl refl))))

-- the sibling just after a node
abbrev pub next_spot : Spot → Node → Trees → Trees → Spot
next_spot s n c r = spot_at n c r s.above s.after

-- it is a spot there too
pub IsSpot-next : {n : Node} {c r : Trees} (ts : Trees) (above : List NodeName) (after : List TreeStep) (s : Spot) → IsSpot ts above after s →
    s.right ≡ tree n c r → IsSpot ts above after (next_spot s n c r)
IsSpot-next {n = n} {c = c} {r = r} =
    IsSpot-next_to (tree n c r) (λ s. s.right) (λ s. next_spot s n c r)
    (λ m d q above after e. inr (inr (subst (λ (ts : Trees). IsSpot ts above after (spot_at n c r above after)) (sym e) (inl refl))))

-- a spot of a root, with what stands above and behind all trees
abbrev pub IsRoot : Trees → List NodeName → List TreeStep → Spot → Type 0
IsRoot none above after s = ⊥
IsRoot (tree n c r) above after s = (s ≡ spot_at n c r above after) ⊎ IsRoot r above after s

-- a spot of a child of the node of another spot
abbrev pub IsChild : Spot → Spot → Type 0
IsChild p s = IsRoot p.below (p.node.name ∷ p.above) (closed p.right p.after) s

-- each spot is that of a root, or of a child
pub cases_root : (ts : Trees) (above : List NodeName) (after : List TreeStep) (s : Spot) → IsSpot ts above after s → IsRoot ts above after s ⊎
    ((p : Spot) × IsSpot ts above after p × IsChild p s)
cases_root none above after s at = absurd at
cases_root (tree n c r) above after s (inl e) = inl (inl e)
cases_root (tree n c r) above after s (inr (inl i)) = elim (cases_root c (n.name ∷ above) (closed r after) s i) [
  | inl h ↦ inr (spot_at n c r above after, inl refl, h)
  | inr h ↦ inr (h.0, inr (inl h.1), h.2)
]
cases_root (tree n c r) above after s (inr (inr i)) = elim (cases_root r above after s i) [
  | inl h ↦ inl (inr h)
  | inr h ↦ inr (h.0, inr (inr h.1), h.2)
]

-- above a root stands what stands above all trees
pub above-root : (ts : Trees) (above : List NodeName) (after : List TreeStep) (s : Spot) → IsRoot ts above after s → s.above ≡ above
above-root none above after s h = absurd h
above-root (tree n c r) above after s (inl e) = ap (λ (t : Spot). t.above) e
above-root (tree n c r) above after s (inr h) = above-root r above after s h

-- behind the trees right of a root stands what stands behind all trees
pub after-root : (ts : Trees) (above : List NodeName) (after : List TreeStep) (s : Spot) → IsRoot ts above after s → s.after ≡ after
after-root none above after s h = absurd h
after-root (tree n c r) above after s (inl e) = ap (λ (t : Spot). t.after) e
after-root (tree n c r) above after s (inr h) = after-root r above after s h

-- a root has a spot, and what stands below a spot stands in the trees
IsSpot-root : (ts : Trees) (above : List NodeName) (after : List TreeStep) (s : Spot) → IsRoot ts above after s → IsSpot ts above after s
IsSpot-root none above after s h = absurd h
IsSpot-root (tree n c r) above after s (inl e) = inl e
IsSpot-root (tree n c r) above after s (inr h) = inr (inr (IsSpot-root r above after s h))

-- a root's name stands in the trees
pub times-root : (ts : Trees) (above : List NodeName) (after : List TreeStep) (s : Spot) → IsRoot ts above after s → 1 ≤ times_in ts s.node.name
times-root ts above after s h = times-spot ts above after s (IsSpot-root ts above after s h)

-- a name stands in the trees at least as often as below a spot
pub times-below : (ts : Trees) (above : List NodeName) (after : List TreeStep) (s : Spot) → IsSpot ts above after s → (x : NodeName) →
    times_in s.below x ≤ times_in ts x
times-below none above after s at x = absurd at
times-below (tree n c r) above after s (inl e) x =
    subst (λ (t : Spot). times_in t.below x ≤ times_in (tree n c r) x) (sym e) (omega (arith, times-more n c r x))
times-below (tree n c r) above after s (inr (inl i)) x = omega (arith, times-more n c r x, times-below c (n.name ∷ above) (closed r after) s i x)
times-below (tree n c r) above after s (inr (inr i)) x = omega (arith, times-more n c r x, times-below r above after s i x)
