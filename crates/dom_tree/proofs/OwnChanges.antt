-- A change of one owner's nodes is that change of its own trees, and leaves each other owner's trees as they are.
use Rattle.dom_base.proofs.Std.{◌≡◌, ◌⊎◌, inl, inr, true, false, cond, refl, sym, ap, subst, ◌∙◌, true≢false, cases_Bool, false_from_ne_true}
use Rattle.dom_model.proofs.Model.{Owner, NodeName, owner_eq, name_eq, name_before, Trees, none, tree, Node, subtree, or_else, followed_by, without, put_root}
use Rattle.dom_model.proofs.Model.{owner_eq-same, name_eq-same, name_eq-true}
use Rattle.dom_tree.specs.Definitions.{trees_of_owner, AreOf, HaveOwners, NoneBefore, AreInOrder, AreOwned}
use Rattle.dom_tree.proofs.Names.{name_before-trans, name_before-not_both, name_before-total}
use Rattle.dom_tree.proofs.Owned.{AreOf-own, name_apart}

-- an owner is itself
owner_eq-is : (p o : Owner) → p ≡ o → owner_eq p o ≡ true
owner_eq-is p o e = ap (λ q. owner_eq q o) e ∙ owner_eq-same o

-- an owner's own trees of its trees are all, and of another's none
own-all : (o : Owner) (ts : Trees) → AreOf o ts → trees_of_owner o ts ≡ ts
own-all o none of = refl
own-all o (tree n c r) of = rw (owner_eq-is n.name.owner o of.0) (ap (tree n c) (own-all o r of.2))

own-none : (o p : Owner) → owner_eq o p ≡ false → (ts : Trees) → AreOf o ts → trees_of_owner p ts ≡ none
own-none o p apart none of = refl
own-none o p apart (tree n c r) of =
    let other : owner_eq n.name.owner p ≡ false = ap (λ q. owner_eq q p) of.0 ∙ apart in
    rw other (own-none o p apart r of.2)

-- ---- trees after others

-- an owner's trees, one list after the other
pub AreOf-followed_by : (o : Owner) (ts us : Trees) → AreOf o ts → AreOf o us → AreOf o (followed_by ts us)
AreOf-followed_by o none us of_ts of_us = of_us
AreOf-followed_by o (tree n c r) us of_ts of_us = (of_ts.0, of_ts.1, AreOf-followed_by o r us of_ts.2 of_us)

-- ---- a tree put among the roots

-- one tree with this root, or none
abbrev pub IsAlone : NodeName → Trees → Type 0
IsAlone x none = Unit {0}
IsAlone x (tree n c none) = n.name ≡ x
IsAlone x (tree n c (tree m d r)) = ⊥

-- the tree of a node is one, or none
pub IsAlone-subtree : (x : NodeName) (ts : Trees) → IsAlone x (subtree ts x)
IsAlone-subtree x none = tt
IsAlone-subtree x (tree n c r) = elim (cases_Bool (name_eq n.name x)) [
  | inl e ↦ rw e (name_eq-true n.name x e)
  | inr e ↦ rw e (either (subtree c x) (subtree r x) (IsAlone-subtree x c) (IsAlone-subtree x r))
]
  where
    either : (us vs : Trees) → IsAlone x us → IsAlone x vs → IsAlone x (or_else us vs)
    either none vs a b = b
    either (tree m d q) vs a b = a

-- nothing before a name is before an earlier one
NoneBefore-earlier : (x y : NodeName) → name_before x y ≡ true → (ts : Trees) → NoneBefore y ts → NoneBefore x ts
NoneBefore-earlier x y e none off = tt
NoneBefore-earlier x y e (tree n c r) off =
    (false_from_ne_true _ (λ h. true≢false (sym (name_before-trans n.name x y h e) ∙ off.0)), NoneBefore-earlier x y e r off.1)

-- a tree alone under the name x, which is not before y
record IsBehind (y x : NodeName) (new : Trees) : Type 0 where
  pub alone : IsAlone x new
  pub not_before : name_before x y ≡ false

-- such a tree put among roots, of which none comes before y
NoneBefore-put_root : (y x : NodeName) (new ts : Trees) → IsBehind y x new → NoneBefore y ts → NoneBefore y (put_root x new ts)
NoneBefore-put_root y x none none behind off = tt
NoneBefore-put_root y x (tree m d none) none behind off = (rw behind.alone behind.not_before, tt)
NoneBefore-put_root y x (tree m d (tree k q s)) ts behind off = absurd behind.alone
NoneBefore-put_root y x none (tree n c r) behind off = elim (cases_Bool (name_before x n.name)) [
  | inl h ↦ rw h off
  | inr h ↦ rw h (off.0, NoneBefore-put_root y x none r behind off.1)
]
NoneBefore-put_root y x (tree m d none) (tree n c r) behind off = elim (cases_Bool (name_before x n.name)) [
  | inl h ↦ rw h (rw behind.alone behind.not_before, off)
  | inr h ↦ rw h (off.0, NoneBefore-put_root y x (tree m d none) r behind off.1)
]

-- a tree put among roots in order
pub AreInOrder-put_root : (x : NodeName) (new ts : Trees) → IsAlone x new → AreInOrder ts → AreInOrder (put_root x new ts)
AreInOrder-put_root x none none alone order = tt
AreInOrder-put_root x (tree m d none) none alone order = (tt, tt)
AreInOrder-put_root x (tree m d (tree k q s)) ts alone order = absurd alone
AreInOrder-put_root x none (tree n c r) alone order = elim (cases_Bool (name_before x n.name)) [
  | inl h ↦ rw h order
  | inr h ↦ rw h (NoneBefore-put_root n.name x none r (record { alone = alone; not_before = h }) order.0, AreInOrder-put_root x none r alone order.1)
]
AreInOrder-put_root x (tree m d none) (tree n c r) alone order = elim (cases_Bool (name_before x n.name)) [
  | inl h ↦ rw h (
    subst (λ z. NoneBefore z (tree n c r)) (sym alone)
        (false_from_ne_true _ (name_before-not_both x n.name h), NoneBefore-earlier x n.name h r order.0),
    order,
  )
  | inr h ↦ rw h (
    NoneBefore-put_root n.name x (tree m d none) r (record { alone = alone; not_before = h }) order.0,
    AreInOrder-put_root x (tree m d none) r alone order.1,
  )
]

-- each node still has the owner of its root
pub HaveOwners-put_root : (x : NodeName) (new ts : Trees) → IsAlone x new → HaveOwners new → HaveOwners ts → HaveOwners (put_root x new ts)
HaveOwners-put_root x new none alone a b = a
HaveOwners-put_root x none (tree n c r) alone a b = elim (cases_Bool (name_before x n.name)) [
  | inl h ↦ rw h b
  | inr h ↦ rw h (b.0, HaveOwners-put_root x none r alone a b.1)
]
HaveOwners-put_root x (tree m d none) (tree n c r) alone a b = elim (cases_Bool (name_before x n.name)) [
  | inl h ↦ rw h (a.0, b)
  | inr h ↦ rw h (b.0, HaveOwners-put_root x (tree m d none) r alone a b.1)
]
HaveOwners-put_root x (tree m d (tree k q s)) (tree n c r) alone a b = absurd alone

-- a name before all roots
abbrev AllBehind : NodeName → Trees → Type 0
AllBehind x none = Unit {0}
AllBehind x (tree n c r) = (name_before x n.name ≡ true) × AllBehind x r

-- what is not before a later name is behind
AllBehind-later : (x y : NodeName) → name_before x y ≡ true → (ts : Trees) → NoneBefore y ts → AllBehind x ts
AllBehind-later x y e none off = tt
AllBehind-later x y e (tree n c r) off = (behind n.name off.0 (cases_Bool (name_eq n.name y)), AllBehind-later x y e r off.1)
  where
    behind : (z : NodeName) → name_before z y ≡ false → (name_eq z y ≡ true) ⊎ (name_eq z y ≡ false) → name_before x z ≡ true
    behind z h (inl same) = ap (name_before x) (name_eq-true z y same) ∙ e
    behind z h (inr other) = elim (name_before-total z y (λ same. true≢false (sym (name_eq-same y) ∙ (ap (λ w. name_eq w y) (sym same) ∙ other)))) [
      | inl i ↦ absurd (true≢false (sym i ∙ h))
      | inr i ↦ name_before-trans x y z e i
    ]

-- a tree whose name is before all goes first, also among an owner's own
front-own : (o : Owner) (x : NodeName) (new ts : Trees) → IsAlone x new → AllBehind x ts →
    put_root x new (trees_of_owner o ts) ≡ followed_by new (trees_of_owner o ts)
front-own o x none none alone behind = refl
front-own o x (tree m d none) none alone behind = refl
front-own o x (tree m d (tree k q s)) none alone behind = absurd alone
front-own o x new (tree n c r) alone behind = elim (cases_Bool (owner_eq n.name.owner o)) [
  | inl e ↦ rw (e, behind.0) refl
  | inr e ↦ rw e (front-own o x new r alone behind.1)
]

-- a tree of an owner's, alone under a name
pub record IsOwnTree (o : Owner) (x : NodeName) (new : Trees) : Type 0 where
  pub alone : IsAlone x new
  pub of : AreOf o new

-- an owner's tree put among all is put among the owner's own
pub own-put_root : (o : Owner) (x : NodeName) (new ts : Trees) → IsOwnTree o x new → AreInOrder ts
    → trees_of_owner o (put_root x new ts) ≡ put_root x new (trees_of_owner o ts)
own-put_root o x new none own order = own-all o new own.of
own-put_root o x new (tree n c r) own order = elim (cases_Bool (name_before x n.name)) [
  | inl h ↦ rw h (followed new own.alone own.of) ∙ sym (front-own o x new (tree n c r) own.alone (AllBehind-from n c r h order.0))
  | inr h ↦ rw h (elim (cases_Bool (owner_eq n.name.owner o)) [
    | inl e ↦ rw (e, h) (ap (tree n c) (own-put_root o x new r own order.1))
    | inr e ↦ rw e (own-put_root o x new r own order.1)
  ])
]
  where
    AllBehind-from : (m : Node) (d q : Trees) → name_before x m.name ≡ true → NoneBefore m.name q → AllBehind x (tree m d q)
    AllBehind-from m d q h off = (h, AllBehind-later x m.name h q off)

    followed : (us : Trees) → IsAlone x us → AreOf o us → trees_of_owner o (followed_by us (tree n c r)) ≡ followed_by us (trees_of_owner o (tree n c r))
    followed none a of = refl
    followed (tree m d none) a of = rw (owner_eq-is m.name.owner o of.0) refl
    followed (tree m d (tree k q s)) a of = absurd a

-- and leaves another owner's as they are
pub others-put_root : {o : Owner} (p : Owner) → owner_eq o p ≡ false → (x : NodeName) (new ts : Trees) → IsOwnTree o x new →
    trees_of_owner p (put_root x new ts) ≡ trees_of_owner p ts
others-put_root {o = o} p apart x new none own = own-none o p apart new own.of
others-put_root p apart x none (tree n c r) own = elim (cases_Bool (name_before x n.name)) [
  | inl h ↦ rw h refl
  | inr h ↦ rw h (ap (λ t. cond (owner_eq n.name.owner p) (tree n c t) t) (others-put_root p apart x none r own))
]
others-put_root p apart x (tree m d none) (tree n c r) own = elim (cases_Bool (name_before x n.name)) [
  | inl h ↦ rw h (ap (λ b. cond b (tree m d (trees_of_owner p (tree n c r))) (trees_of_owner p (tree n c r))) (ap (λ q. owner_eq q p) own.of.0 ∙ apart))
  | inr h ↦ rw h (ap (λ t. cond (owner_eq n.name.owner p) (tree n c t) t) (others-put_root p apart x (tree m d none) r own))
]
others-put_root p apart x (tree m d (tree k q s)) (tree n c r) own = absurd own.alone

-- ---- a tree taken out

-- an owner's trees without a node
AreOf-without : (o : Owner) (x : NodeName) (ts : Trees) → AreOf o ts → AreOf o (without x ts)
AreOf-without o x none of = tt
AreOf-without o x (tree n c r) of = elim (cases_Bool (name_eq n.name x)) [
  | inl e ↦ rw e (AreOf-without o x r of.2)
  | inr e ↦ rw e (of.0, AreOf-without o x c of.1, AreOf-without o x r of.2)
]

NoneBefore-without : (y x : NodeName) (ts : Trees) → NoneBefore y ts → NoneBefore y (without x ts)
NoneBefore-without y x none off = tt
NoneBefore-without y x (tree n c r) off = elim (cases_Bool (name_eq n.name x)) [
  | inl e ↦ rw e (NoneBefore-without y x r off.1)
  | inr e ↦ rw e (off.0, NoneBefore-without y x r off.1)
]

-- trees of all owners without a node
pub owned-without : (x : NodeName) (ts : Trees) → AreOwned ts → AreOwned (without x ts)
owned-without x none owned = record { owners = tt; order = tt }
owned-without x (tree n c r) owned =
    let rest = owned-without x r (record { owners = owned.owners.1; order = owned.order.1 }) in
    elim (cases_Bool (name_eq n.name x)) [
      | inl e ↦ rw e rest
      | inr e ↦ rw e (record {
        owners = (AreOf-without n.name.owner x c owned.owners.0, rest.owners);
        order = (NoneBefore-without n.name x r owned.order.0, rest.order);
      })
    ]

-- a node taken from all trees is taken from an owner's own
pub own-without : (o : Owner) (x : NodeName) (ts : Trees) → trees_of_owner o (without x ts) ≡ without x (trees_of_owner o ts)
own-without o x none = refl
own-without o x (tree n c r) = elim (cases_Bool (name_eq n.name x)) [
  | inl e ↦ rw e (elim (cases_Bool (owner_eq n.name.owner o)) [
    | inl h ↦ rw (h, e) (own-without o x r)
    | inr h ↦ rw h (own-without o x r)
  ])
  | inr e ↦ rw e (elim (cases_Bool (owner_eq n.name.owner o)) [
    | inl h ↦ rw (h, e) (ap (tree n (without x c)) (own-without o x r))
    | inr h ↦ rw h (own-without o x r)
  ])
]

-- another owner's trees never had it
without-apart : {o : Owner} (p : Owner) → owner_eq p o ≡ false → (x : NodeName) → x.owner ≡ o → (ts : Trees) → AreOf p ts → without x ts ≡ ts
without-apart p apart x is none of = refl
without-apart {o} p apart x is (tree n c r) of =
    rw (name_apart o p apart x n.name is of.0, without-apart p apart x is c of.1) (ap (tree n c) (without-apart p apart x is r of.2))

-- so they stay as they are
pub others-without : {o : Owner} (p : Owner) → owner_eq p o ≡ false → (x : NodeName) → x.owner ≡ o → (ts : Trees) → HaveOwners ts →
    trees_of_owner p (without x ts) ≡ trees_of_owner p ts
others-without p apart x is ts have = own-without p x ts ∙ without-apart p apart x is (trees_of_owner p ts) (AreOf-own p ts have)
