-- Who sees itself as the target of an event: the nodes of the target's chain of hosts. On the way up from one of these all that do are of its owner, since what
-- is between them, through slots, is below a parent of the way.
use Rattle.dom_base.proofs.Std.{◌≡◌, ℕ, zero, suc, ◌≤◌, ◌<◌, Bool, true, false, not, List, [], ◌∷◌, ◌++◌, flat_map, length}
use Rattle.dom_base.proofs.Std.{Option, Some, None, option_to_list, option_and_then, refl, sym, ap, ◌∙◌, subst, arith, append_assoc}
use Rattle.dom_base.proofs.Std.{AllByRecursion, cond-true, find, unwrap_or, drop, ◌⊎◌, inl, inr}
use Rattle.dom_model.proofs.Model.{Owner, NodeName, name_eq, owner_depth, max_depth, first_of, Trees, inclusive_ancestors, parent_of, World}
use Rattle.dom_model.proofs.Model.{part_of, trees_with, parent_at, ancestors_at, root_at, host_of, host_above, host_chain, shadow_root_of, some_if, slot_of}
use Rattle.dom_model.proofs.Model.{retarget, is_hidden_from, with_slots, way_up}
use Rattle.dom_model.proofs.Model.{times_in, name_eq-true, name_eq-same}
use Rattle.dom_worlds.specs.Definitions.{IsWorld, IsOf}
use Rattle.dom_worlds.proofs.ListLemmas.{all-append, all-dropped, all-flat_map, all-then, get-all}
use Rattle.dom_worlds.proofs.TreeLemmas.{all-both, ancestors-present}
use Rattle.dom_worlds.proofs.OwnerLemmas.{component-host, hosted-is}
use Rattle.dom_worlds.proofs.ShadowTreeLemmas.{IsInTree, ancestors-in_tree, slot-in_tree, below-host, chain-below, chain-first, hosts-alone, hidden-deeper}
use Rattle.dom_worlds.proofs.ShadowTreeLemmas.{hidden-itself}
use Rattle.dom_laws.proofs.Laws.{Once, by_times, parent_path, path_none as ancestors-absent}
use Rattle.dom_isolation.proofs.GroupSlots.{ground-of, slot-is, parent-of, ancestors-of}
use Rattle.dom_isolation.proofs.GroupPaths.{found-all}
use Rattle.dom_isolation.proofs.OutsideViews.{find-past}

-- No node is below itself: the ancestors of an ancestor are no more,
ancestors-fewer : (ts : Trees) → Once ts → (x : NodeName) (path : List NodeName) → inclusive_ancestors ts x ≡ x ∷ path →
    AllByRecursion (λ a. length (inclusive_ancestors ts a) ≤ length (x ∷ path)) (x ∷ path)
ancestors-fewer ts u x [] h = ((let e = ap length h in omega (arith, e)), tt)
ancestors-fewer ts u x (y ∷ path) h =
    let up : parent_of ts x ≡ Some y = ap (λ p. first_of (drop 1 p)) h in
    let both : x ∷ inclusive_ancestors ts y ≡ x ∷ y ∷ path = sym (parent_path ts u x y up) ∙ h in (
      (let e = ap length h in omega (arith, e)),
      all-then (λ a. length (inclusive_ancestors ts a) ≤ length (y ∷ path)) (λ a. length (inclusive_ancestors ts a) ≤ length (x ∷ y ∷ path))
          (λ a s. omega (arith, s)) (y ∷ path) (ancestors-fewer ts u y path (ap (drop 1) both)),
    )

-- so none of them is a child of the node
no-child_above : (ts : Trees) → Once ts → (y : NodeName) → AllByRecursion (λ a. parent_of ts a ≡ Some y → ⊥) (inclusive_ancestors ts y)
no-child_above ts u y =
    let P : NodeName → Type 0 = λ a. parent_of ts a ≡ Some y → ⊥ in
    by_times (times_in ts y)
    (λ z. subst (AllByRecursion P) (sym (ancestors-absent ts y z)) tt)
    (λ t. let at = ancestors-present ts y t in
    subst (AllByRecursion P) (sym at.1)
    (all-then (λ a. length (inclusive_ancestors ts a) ≤ length (y ∷ at.0)) P
    (λ a few up. let more = ap length (parent_path ts u a y up) in let all = ap length at.1 in absurd (omega (arith, few, more, all))) (y ∷ at.0)
    (ancestors-fewer ts u y at.0 at.1)))

module _ (p y : NodeName) (same : p.owner ≡ y.owner) (later rest : List NodeName) where
  -- two nodes in a list, with deeper ones before each: if they are as deep, they are one node
  same-place : (before others : List NodeName) → before ++ p ∷ later ≡ others ++ y ∷ rest →
      AllByRecursion (λ (z : NodeName). owner_depth p.owner < owner_depth z.owner) before →
      AllByRecursion (λ (z : NodeName). owner_depth y.owner < owner_depth z.owner) others → p ≡ y
  same-place [] [] e a b = cc
  same-place [] (c ∷ others) e a b =
      let is : p ≡ c = cc in
      let deep = b.0 in
      let one = ap (λ (z : NodeName). owner_depth z.owner) is in
      let two = ap owner_depth same in
      absurd (omega (arith, deep, one, two))
  same-place (c ∷ before) [] e a b =
      let is : c ≡ y = cc in
      let deep = a.0 in
      let one = ap (λ (z : NodeName). owner_depth z.owner) is in
      let two = ap owner_depth same in
      absurd (omega (arith, deep, one, two))
  same-place (c ∷ before) (d ∷ others) e a b = same-place before others (ap (drop 1) e) a.1 b.1

module _ (w : World) (i : IsWorld w) where
  -- a node in a shadow tree that is deeper than another one
  abbrev IsDeeper : NodeName → NodeName → Type 0
  IsDeeper y z = IsInTree w z.owner z × (owner_depth y.owner < owner_depth z.owner)

  -- A node in the chain of hosts of another one, behind deeper ones.
  pub record IsAlong (x y : NodeName) : Type 0 where
    before : List NodeName
    chain : host_chain w x ≡ before ++ host_chain w y
    deeper : AllByRecursion (IsDeeper y) before
    shallow : owner_depth y.owner ≤ owner_depth x.owner

  -- itself,
  pub along-here : (x : NodeName) → IsAlong x x
  along-here x = record { before = []; chain = refl; deeper = tt; shallow = omega arith }

  -- the host above,
  along-above : (x y host : NodeName) → IsAlong x y → host_above w y ≡ Some host → IsAlong x host
  along-above x y host k e =
      let b = below-host w i y host e in
      let deep = b.deeper in
      let shallow = k.shallow in
      record {
        before = k.before ++ y ∷ [];
        chain = k.chain ∙ ap (λ ys. k.before ++ ys) (chain-below w y host b) ∙ sym (append_assoc k.before (y ∷ []) (host_chain w host));
        deeper = all-append (IsDeeper host) k.before (y ∷ [])
            (all-then (IsDeeper y) (IsDeeper host) (λ z d. (d.0, (let more = d.1 in omega (arith, more, deep)))) k.before k.deeper)
            ((b.tree, omega (arith, deep)), tt);
        shallow = omega (arith, deep, shallow);
      }

  -- and one further out
  along-then : (x y z : NodeName) → IsAlong x y → IsAlong y z → IsAlong x z
  along-then x y z a b =
      let near = a.shallow in
      let far = b.shallow in
      record {
        before = a.before ++ b.before;
        chain = a.chain ∙ ap (λ ys. a.before ++ ys) b.chain ∙ sym (append_assoc a.before b.before (host_chain w z));
        deeper = all-append (IsDeeper z) a.before b.before
            (all-then (IsDeeper y) (IsDeeper z) (λ u d. (d.0, (let more = d.1 in omega (arith, more, far)))) a.before a.deeper) b.deeper;
        shallow = omega (arith, near, far);
      }

  -- all of a chain
  chain-along : (depth : ℕ) (x y : NodeName) → owner_depth y.owner ≤ depth → IsAlong x y → {o : Option NodeName} → host_above w y ≡ o →
      AllByRecursion (IsAlong x) (host_chain w y)
  chain-along depth x y d k {o = None} e = subst (AllByRecursion (IsAlong x)) (sym (hosts-alone (owner_depth y.owner) w y e)) (k, tt)
  chain-along zero x y d k {o = Some host} e = let b = (below-host w i y host e).deeper in absurd (omega (arith, d, b))
  chain-along (suc depth) x y d k {o = Some host} e =
      let b = below-host w i y host e in
      let deep = b.deeper in
      subst (AllByRecursion (IsAlong x)) (sym (chain-below w y host b))
      (k, chain-along depth x host (omega (arith, d, deep)) (along-above x y host k e) refl)

  -- the whole one
  pub all-along : (x : NodeName) → AllByRecursion (IsAlong x) (host_chain w x)
  all-along x = chain-along (owner_depth x.owner) x x (omega arith) (along-here x) refl

  -- Of one owner there is one node in a chain.
  along-same : (x p y : NodeName) → IsAlong x p → IsAlong x y → p.owner ≡ y.owner → p ≡ y
  along-same x p y a b same =
      let one = chain-first (owner_depth p.owner) w p in
      let two = chain-first (owner_depth y.owner) w y in
      same-place p y same one.0 two.0 a.before b.before
      (sym (a.chain ∙ ap (λ ys. a.before ++ ys) one.1) ∙ b.chain ∙ ap (λ ys. b.before ++ ys) two.1)
      (all-then (IsDeeper p) (λ z. owner_depth p.owner < owner_depth z.owner) (λ z d. d.1) a.before a.deeper)
      (all-then (IsDeeper y) (λ z. owner_depth y.owner < owner_depth z.owner) (λ z d. d.1) b.before b.deeper)

  -- A node of the chain sees itself as the target,
  pub retarget-along : (x y : NodeName) → IsAlong x y → retarget w x y ≡ y
  retarget-along x y k =
      let seen : NodeName → Bool = λ z. not (is_hidden_from w y z) in
      let at = chain-first (owner_depth y.owner) w y in
      let hidden : AllByRecursion (λ z. seen z ≡ false) k.before =
      all-then (IsDeeper y) (λ z. seen z ≡ false) (λ z d. ap not (hidden-deeper w i y z d.0 d.1)) k.before k.deeper in
      ap (λ xs. unwrap_or (find seen xs) x) (k.chain ∙ ap (λ ys. k.before ++ ys) at.1)
      ∙ ap (λ o. unwrap_or o x) (find-past seen k.before (y ∷ at.0) hidden ∙ cond-true (seen y) (Some y) (find seen at.0) (ap not (hidden-itself w i y)))

  -- whether a node does
  abbrev pub sees_itself : NodeName → NodeName → Bool
  sees_itself x u = name_eq u (retarget w x u)

  -- and no other does
  itself-along : (x u : NodeName) → sees_itself x u ≡ true → IsAlong x u
  itself-along x u e =
      subst (IsAlong x) (sym (name_eq-true u (retarget w x u) e))
      (found-all (IsAlong x) (λ z. not (is_hidden_from w u z)) (host_chain w x) x (all-along x) (along-here x))

  -- The way through slots: the chain of each of its nodes has the parent of the first one, whose component the slots are.
  abbrev Climbs : NodeName → NodeName → Type 0
  Climbs z u = (u ≡ z) ⊎ ((p : NodeName) × (parent_at w z ≡ Some p) × IsAlong u p)

  -- a node in the tree of a slot is below that parent
  slot-above : (t parent : NodeName) (c : Owner) → host_of w c ≡ Some parent → IsInTree w c t → host_above w t ≡ Some parent
  slot-above t parent c hosted tree =
      let root : name_eq (root_at w t) (shadow_root_of t.owner) ≡ true =
      ap (λ r. name_eq r (shadow_root_of t.owner)) (tree.root ∙ ap shadow_root_of (sym tree.owner)) ∙ name_eq-same (shadow_root_of t.owner) in
      ap (option_and_then (some_if (name_eq (root_at w t) (shadow_root_of t.owner)))) (ap (host_of w) tree.owner ∙ hosted)
      ∙ ap (λ b. some_if b parent) root

  -- from slot to slot
  slots-climb : (depth : ℕ) (z : NodeName) → AllByRecursion (Climbs z) (with_slots depth w z)
  slots-climb zero z = (inl refl, tt)
  slots-climb (suc depth) z = (inl refl, from (slot_of w z) refl (slots-climb depth))
    where
      from : (o : Option NodeName) → slot_of w z ≡ o → ((y : NodeName) → AllByRecursion (Climbs y) (with_slots depth w y)) →
          AllByRecursion (Climbs z) (flat_map (with_slots depth w) (flat_map (ancestors_at w) (option_to_list o)))
      from None e deeper = tt
      from (Some s) e deeper =
          all-flat_map (Climbs z) (with_slots depth w) (ancestors_at w s ++ [])
          (all-then (IsInTree w c) (λ t. AllByRecursion (Climbs z) (with_slots depth w t))
          (λ t tree. all-then (Climbs t) (Climbs z) (climb t tree) (with_slots depth w t) (deeper t)) (ancestors_at w s ++ [])
          (all-append (IsInTree w c) (ancestors_at w s) [] (ancestors-in_tree w i c s tree) tt))
        where
          c : Owner
          c = (slot-in_tree w i z s e).0

          tree : IsInTree w c s
          tree = (slot-in_tree w i z s e).1

          parent : NodeName
          parent = (slot-is w (ground-of w i) z s e).parent

          hosted : host_of w c ≡ Some parent
          hosted =
              let k = slot-is w (ground-of w i) z s e in
              ap (host_of w) (sym tree.owner ∙ k.owner) ∙ hosted-is w k.component k.parent (component-host w i.makers k.parent k.component k.hosted)

          above : (t : NodeName) → IsInTree w c t → IsAlong t parent
          above t tree = along-above t t parent (along-here t) (slot-above t parent c hosted tree)

          climb : (t : NodeName) → IsInTree w c t → (u : NodeName) → Climbs t u → Climbs z u
          climb t tree u (inl same) =
              inr (parent, (slot-is w (ground-of w i) z s e).below, subst (λ v. IsAlong v parent) (sym same) (above t tree))
          climb t tree u (inr k) =
              let up = get-all (IsInTree w c) (drop 1 (ancestors_at w t)) 0 k.0
              (all-dropped (IsInTree w c) (ancestors_at w t) (ancestors-in_tree w i c t tree)) k.1 in
              inr (parent, (slot-is w (ground-of w i) z s e).below, along-then u k.0 parent k.2 (above k.0 up))

  -- So on the way up from a node of the chain whoever sees itself as the target is of the node's owner.
  pub way-own : (x y : NodeName) → IsAlong x y → AllByRecursion (λ u. sees_itself x u ≡ true → u.owner ≡ y.owner) (way_up w y)
  way-own x y k =
      all-flat_map IsOwn (with_slots max_depth w) (ancestors_at w y)
      (all-then (λ a. (a.owner ≡ y.owner) × (parent_of (trees_with w y) a ≡ Some y → ⊥)) (λ a. AllByRecursion IsOwn (with_slots max_depth w a))
      (λ a h. all-then (Climbs a) IsOwn (one a h.0 h.1) (with_slots max_depth w a) (slots-climb max_depth a)) (ancestors_at w y)
      (all-both (IsOf y.owner) (λ a. parent_of (trees_with w y) a ≡ Some y → ⊥) (ancestors_at w y) (ancestors-of w (ground-of w i) y.owner y)
      (no-child_above (trees_with w y) (i.parts y.owner).unique y)))
    where
      IsOwn : NodeName → Type 0
      IsOwn u = sees_itself x u ≡ true → u.owner ≡ y.owner

      one : (a : NodeName) → a.owner ≡ y.owner → (parent_of (trees_with w y) a ≡ Some y → ⊥) → (u : NodeName) → Climbs a u → IsOwn u
      one a same apart u (inl is) e = ap (λ (z : NodeName). z.owner) is ∙ same
      one a same apart u (inr c) e =
          let own : c.0.owner ≡ y.owner = parent-of w (ground-of w i) a c.0 c.1 ∙ same in
          let is : c.0 ≡ y = along-same x c.0 y (along-then x u c.0 (itself-along x u e) c.2) k own in
          absurd (apart (ap (λ o. parent_of (part_of w o).trees a) (sym same) ∙ c.1 ∙ ap Some is))
