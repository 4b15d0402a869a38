-- A tree put below a node, and nodes with other contents, are those changes of their owner's trees.
use Rattle.dom_base.proofs.Std.{◌≡◌, inl, inr, true, false, cond, Bool, Option, refl, sym, ap, subst, ◌∙◌, true≢false, cases_Bool, cond_both}
use Rattle.dom_model.proofs.Model.{Owner, NodeName, owner_eq, name_eq, name_before, is_in, Trees, none, tree, Node, subtree, without, is_given, put_before}
use Rattle.dom_model.proofs.Model.{put_below, put_root, taken_out, placed, with_node, map_nodes, change_node, change_subtree, owner_eq-true, owner_eq-same}
use Rattle.dom_model.proofs.Model.{ne-owner_eq, name_eq-true}
use Rattle.dom_tree.specs.Definitions.{trees_of_owner, AreOf, HaveOwners, NoneBefore, AreInOrder, AreOwned, IsOwnChange}
use Rattle.dom_tree.proofs.Owned.{HaveOwners-one, AreOf-own, AreOf-alone, name_apart, read_own, stays_own}
use Rattle.dom_tree.proofs.OwnChanges.{AreOf-followed_by, IsAlone-subtree, AreInOrder-put_root, HaveOwners-put_root, own-put_root, others-put_root}
use Rattle.dom_tree.proofs.OwnChanges.{owned-without, own-without, others-without}

-- ---- a tree put among the children of a node

-- an owner's tree put among the owner's
AreOf-put_before : (o : Owner) (before : Option NodeName) (new ts : Trees) → AreOf o new → AreOf o ts → AreOf o (put_before before new ts)
AreOf-put_before o before new none a b = a
AreOf-put_before o before new (tree n c r) a b = elim (cases_Bool (is_given before n.name)) [
  | inl e ↦ rw e (AreOf-followed_by o new (tree n c r) a b)
  | inr e ↦ rw e (b.0, b.1, AreOf-put_before o before new r a b.2)
]

module _ (parent : NodeName) (before : Option NodeName) (new : Trees) where
  -- an owner's tree put below one of the owner's nodes
  AreOf-put_below : (o : Owner) (ts : Trees) → AreOf o new → AreOf o ts → AreOf o (put_below parent before new ts)
  AreOf-put_below o none a b = tt
  AreOf-put_below o (tree n c r) a b =
      let below = AreOf-put_below o c a b.1 in (
        b.0,
        cond_both (name_eq n.name parent) _ _ (AreOf o) (λ e. AreOf-put_before o before new _ a below) (λ e. below),
        AreOf-put_below o r a b.2,
      )

  -- trees of another owner do not get it
  put_below-apart : (o p : Owner) → owner_eq p o ≡ false → parent.owner ≡ o → (ts : Trees) → AreOf p ts → put_below parent before new ts ≡ ts
  put_below-apart o p apart is none of = refl
  put_below-apart o p apart is (tree n c r) of =
      rw (name_apart o p apart parent n.name is of.0, put_below-apart o p apart is c of.1)
      (ap (tree n c) (put_below-apart o p apart is r of.2))

  -- each node still has the owner of its root
  HaveOwners-put_below : (o : Owner) (ts : Trees) → parent.owner ≡ o → AreOf o new → HaveOwners ts → HaveOwners (put_below parent before new ts)
  HaveOwners-put_below o none is of have = tt
  HaveOwners-put_below o (tree n c r) is of have = (here, HaveOwners-put_below o r is of have.1)
    where
      below : Trees
      below = put_below parent before new c

      same : n.name.owner ≡ o → AreOf n.name.owner new
      same e = subst (λ (p : Owner). AreOf p new) (sym e) of

      here : AreOf n.name.owner (cond (name_eq n.name parent) (put_before before new below) below)
      here = elim (cases_Bool (owner_eq n.name.owner o)) [
        | inl e ↦
            let whole = AreOf-put_below n.name.owner c (same (owner_eq-true n.name.owner o e)) have.0 in
            cond_both (name_eq n.name parent) _ _ (AreOf n.name.owner)
            (λ h. AreOf-put_before n.name.owner before new below (same (owner_eq-true n.name.owner o e)) whole) (λ h. whole)
        | inr e ↦ rw (name_apart o n.name.owner e parent n.name is refl, put_below-apart o n.name.owner e is c have.0) have.0
      ]

  NoneBefore-put_below : (y : NodeName) (ts : Trees) → NoneBefore y ts → NoneBefore y (put_below parent before new ts)
  NoneBefore-put_below y none off = tt
  NoneBefore-put_below y (tree n c r) off = (off.0, NoneBefore-put_below y r off.1)

  AreInOrder-put_below : (ts : Trees) → AreInOrder ts → AreInOrder (put_below parent before new ts)
  AreInOrder-put_below none order = tt
  AreInOrder-put_below (tree n c r) order =
      (NoneBefore-put_below n.name r order.0, AreInOrder-put_below r order.1)

  -- what is put below a node among all trees is put below it among an owner's own
  own-put_below : (o : Owner) (ts : Trees) → trees_of_owner o (put_below parent before new ts) ≡ put_below parent before new (trees_of_owner o ts)
  own-put_below o none = refl
  own-put_below o (tree n c r) = elim (cases_Bool (owner_eq n.name.owner o)) [
    | inl e ↦ rw (e, own-put_below o r) refl
    | inr e ↦ rw e (own-put_below o r)
  ]

-- ---- nodes with other contents

-- an owner's trees with other contents
AreOf-map : (o : Owner) (f : Node → Node) → ((n : Node) → (f n).name ≡ n.name) → (ts : Trees) → AreOf o ts → AreOf o (map_nodes f ts)
AreOf-map o f keeps none of = tt
AreOf-map o f keeps (tree n c r) of = (ap (λ (x : NodeName). x.owner) (keeps n) ∙ of.0, AreOf-map o f keeps c of.1, AreOf-map o f keeps r of.2)

NoneBefore-map : (y : NodeName) (f : Node → Node) → ((n : Node) → (f n).name ≡ n.name) → (ts : Trees) → NoneBefore y ts → NoneBefore y (map_nodes f ts)
NoneBefore-map y f keeps none off = tt
NoneBefore-map y f keeps (tree n c r) off = (ap (λ z. name_before z y) (keeps n) ∙ off.0, NoneBefore-map y f keeps r off.1)

-- trees of all owners with other contents
owned-map : (f : Node → Node) → ((n : Node) → (f n).name ≡ n.name) → (ts : Trees) → AreOwned ts → AreOwned (map_nodes f ts)
owned-map f keeps none owned = record { owners = tt; order = tt }
owned-map f keeps (tree n c r) owned =
    let rest = owned-map f keeps r (record { owners = owned.owners.1; order = owned.order.1 }) in
    record {
      owners = (subst (λ (x : NodeName). AreOf x.owner (map_nodes f c)) (sym (keeps n)) (AreOf-map n.name.owner f keeps c owned.owners.0), rest.owners);
      order = (subst (λ z. NoneBefore z (map_nodes f r)) (sym (keeps n)) (NoneBefore-map n.name f keeps r owned.order.0), rest.order);
    }

-- other contents of all trees are other contents of an owner's own
own-map : (o : Owner) (f : Node → Node) → ((n : Node) → (f n).name ≡ n.name) → (ts : Trees) →
    trees_of_owner o (map_nodes f ts) ≡ map_nodes f (trees_of_owner o ts)
own-map o f keeps none = refl
own-map o f keeps (tree n c r) =
    let same = ap (λ (x : NodeName). owner_eq x.owner o) (keeps n) in
    elim (cases_Bool (owner_eq n.name.owner o)) [
      | inl e ↦ rw (same, e) (ap (tree (f n) (map_nodes f c)) (own-map o f keeps r))
      | inr e ↦ rw (same, e) (own-map o f keeps r)
    ]

-- where the contents stay, so do the trees
map-apart : (p : Owner) (f : Node → Node) → ((n : Node) → n.name.owner ≡ p → f n ≡ n) → (ts : Trees) → AreOf p ts → map_nodes f ts ≡ ts
map-apart p f off none of = refl
map-apart p f off (tree n c r) of = rw (off n of.0, map-apart p f off c of.1) (ap (tree n c) (map-apart p f off r of.2))

-- a change of the contents of nodes of one owner alone
mapped : (o : Owner) (f : Node → Node) (ts : Trees) → AreOwned ts → ((n : Node) → (f n).name ≡ n.name)
    → ((p : Owner) → owner_eq p o ≡ false → (n : Node) → n.name.owner ≡ p → f n ≡ n) → IsOwnChange o (map_nodes f) ts
mapped o f ts owned keeps off = record {
  owned = owned-map f keeps ts owned;
  own = own-map o f keeps ts;
  others = λ p apart. own-map p f keeps ts ∙ map-apart p f (off p (ne-owner_eq p o apart)) (trees_of_owner p ts) (AreOf-own p ts owned.owners);
}

-- ---- the laws

module _ (ts : Trees) (owned : AreOwned ts) (o : Owner) where
  -- a new node of an owner
  pub added : (n : Node) → n.name.owner ≡ o → IsOwnChange o (with_node n) ts
  added n is = record {
    owned = record {
      owners = HaveOwners-put_root n.name (tree n none none) ts refl (tt, tt) owned.owners;
      order = AreInOrder-put_root n.name (tree n none none) ts refl owned.order;
    };
    own = own-put_root o n.name (tree n none none) ts (record { alone = refl; of = (is, tt, tt) }) owned.order;
    others = λ p apart. others-put_root p (ne-owner_eq o p (λ e. apart (sym e))) n.name (tree n none none) ts (record { alone = refl; of = (is, tt, tt) });
  }

  -- an owner's node taken out of its tree
  pub taken : (x : NodeName) → x.owner ≡ o → IsOwnChange o (taken_out x) ts
  taken x is =
      let rest = owned-without x ts owned in
      let new = subtree ts x in
      let of : AreOf o (subtree ts x) = AreOf-alone o x is ts owned.owners in
      let alone = IsAlone-subtree x ts in
      record {
        owned = record {
          owners = HaveOwners-put_root x new (without x ts) alone (HaveOwners-one o new of) rest.owners;
          order = AreInOrder-put_root x new (without x ts) alone rest.order;
        };
        own = own-put_root o x new (without x ts) (record { alone = alone; of = of }) rest.order
            ∙ (ap (put_root x new) (own-without o x ts) ∙ ap (λ us. put_root x us (without x (trees_of_owner o ts))) (read_own ts owned o x is).alone);
        others = λ p apart. others-put_root p (ne-owner_eq o p (λ e. apart (sym e))) x new (without x ts) (record { alone = alone; of = of })
            ∙ others-without p (ne-owner_eq p o apart) x is ts owned.owners;
      }

  -- an owner's tree placed below an owner's node
  pub put : (x parent : NodeName) (before : Option NodeName) → x.owner ≡ o → parent.owner ≡ o
      → IsOwnChange o (placed x parent before) ts
  put x parent before is is_parent =
      let rest = owned-without x ts owned in
      let new = subtree ts x in
      let of : AreOf o (subtree ts x) = AreOf-alone o x is ts owned.owners in
      record {
        owned = record {
          owners = HaveOwners-put_below parent before new o (without x ts) is_parent of rest.owners;
          order = AreInOrder-put_below parent before new (without x ts) rest.order;
        };
        own = own-put_below parent before new o (without x ts)
            ∙ (ap (put_below parent before new) (own-without o x ts) ∙ ap (λ us. put_below parent before us (without x (trees_of_owner o ts)))
            (read_own ts owned o x is).alone);
        others = λ p apart. own-put_below parent before new p (without x ts)
            ∙ (ap (put_below parent before new) (others-without p (ne-owner_eq p o apart) x is ts owned.owners)
            ∙ put_below-apart parent before new o p (ne-owner_eq p o apart) is_parent (trees_of_owner p ts) (AreOf-own p ts owned.owners));
      }

-- a node changed where a test holds, which it does for nodes of one owner alone
changed_where : {o : Owner} (f : Node → Node) {test : NodeName → Bool} {ts : Trees} → AreOwned ts → ((n : Node) → (f n).name ≡ n.name)
    → ((x : NodeName) → test x ≡ true → x.owner ≡ o) → IsOwnChange o (map_nodes (λ n. cond (test n.name) (f n) n)) ts
changed_where {o} f {test} {ts} owned keeps of = mapped o (λ n. cond (test n.name) (f n) n) ts owned
    (λ n. cond_both (test n.name) (f n) n (λ m. m.name ≡ n.name) (λ e. keeps n) (λ e. refl))
    (λ p apart n is. cond_both (test n.name) (f n) n (λ m. m ≡ n)
    (λ e. absurd (true≢false (sym (owner_eq-same o) ∙ (ap (λ q. owner_eq q o) (sym (of n.name e) ∙ is) ∙ apart)))) (λ e. refl))

module _ (ts : Trees) (owned : AreOwned ts) (o : Owner) (f : Node → Node) (x : NodeName) (keeps : ((n : Node) → (f n).name ≡ n.name)) (is : x.owner ≡ o) where
  -- other contents of an owner's node
  pub changed_node : IsOwnChange o (change_node f x) ts
  changed_node =
      let whole = changed_where f owned keeps (λ y e. ap (λ (z : NodeName). z.owner) (name_eq-true y x e) ∙ is) in
      record { owned = whole.owned; own = whole.own; others = whole.others }

  -- other contents of an owner's node and all below it
  pub changed_subtree : IsOwnChange o (change_subtree f x) ts
  changed_subtree =
      let whole = changed_where f owned keeps (stays_own ts owned o x is).inside in
      record {
        owned = whole.owned;
        own = whole.own ∙ ap (λ ys. map_nodes (λ n. cond (is_in name_eq n.name ys) (f n) n) (trees_of_owner o ts)) (read_own ts owned o x is).inside;
        others = whole.others;
      }
