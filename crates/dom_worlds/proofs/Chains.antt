-- The chain of hosts around a node: it ends, and what is hidden from a node goes by it.
use Rattle.dom_base.proofs.Std.{◌≡◌, ◌≢◌, ℕ, zero, suc, ◌≤◌, ◌<◌, Bool, true, false, not, ◌&&◌, ◌||◌, List, [], ◌∷◌, ◌++◌, map, flat_map, Option, Some, None}
use Rattle.dom_base.proofs.Std.{unwrap_or, refl, sym, ap, ◌∙◌, arith, true≢false, subst, append-nil, find, IsTrue, is_some, option_to_list, if◌then◌else◌}
use Rattle.dom_base.proofs.Std.{AllByRecursion, last_or, option_and_then, option_map_or, cond-true, cond-false}
use Rattle.dom_model.proofs.Model.{Owner, NodeName, name_eq, owner_eq, owner_depth, is_in, names_of, roots, root_of, times_in, World, part_of, trees_with}
use Rattle.dom_model.proofs.Model.{root_at, ancestors_at, host_of, host_above, host_chain, hosts_from, some_if, shadow_root_of, shadow_including_ancestors}
use Rattle.dom_model.proofs.Model.{is_in_shadow_tree, is_hidden_from, retarget, owner_eq-true, owner_eq-same, ne-owner_eq, name_eq-same, made_by-is, depth-made}
use Rattle.dom_model.proofs.Model.{name_eq-true}
use Rattle.dom_worlds.specs.Definitions.{IsWorld, IsOf, is_within, HiddenByRoots, RetargetedByRoots}
use Rattle.dom_worlds.proofs.ShadowTrees.{IsInTree, in_tree, ancestors-owned, not_in}
use Rattle.dom_worlds.proofs.Lists.{all-then, by_cases, by_some_is}
use Rattle.dom_worlds.proofs.Owners.{hosted, hosted-owned, hosted-no_page}
use Rattle.dom_worlds.proofs.Reached.{root-alone}
use Rattle.dom_worlds.proofs.Trees.{ancestors-root, root-there, ancestors-present, all-in, last_from, last-is, last-in}
use Rattle.dom_laws.proofs.Laws.{by_times, path_none}

-- the last of an owner's nodes is the owner's
last-owned : (x : NodeName) (d : Option NodeName) (xs : List NodeName) → (unwrap_or d x).owner ≡ x.owner → AllByRecursion (IsOf x.owner) xs →
    (unwrap_or (last_or d xs) x).owner ≡ x.owner
last-owned x d [] e h = e
last-owned x d (y ∷ ys) e h = last-owned x (Some y) ys h.0 h.1

-- so the root of a node is of its owner
pub root-owned : (w : World) → IsWorld w → (x : NodeName) → (root_at w x).owner ≡ x.owner
root-owned w i x = last-owned x None (ancestors_at w x) refl (ancestors-owned w i x)

-- the host above a node is that of its owner, and the node's root is a shadow root
pub above-host : (w : World) (x host : NodeName) → host_above w x ≡ Some host → (host_of w x.owner ≡ Some host) × (root_at w x ≡ shadow_root_of x.owner)
above-host w x host h = from (host_of w x.owner) refl
  where
    by_test : (b : Bool) (y : NodeName) → some_if b y ≡ Some host → (Some y ≡ Some host) × (b ≡ true)
    by_test true y e = (e, refl)
    by_test false y e = cc

    from : (o : Option NodeName) → host_of w x.owner ≡ o → (host_of w x.owner ≡ Some host) × (root_at w x ≡ shadow_root_of x.owner)
    from None e =
        let none_at : host_above w x ≡ None = ap (option_and_then (some_if (name_eq (root_at w x) (shadow_root_of x.owner)))) e in
        let both : None ≡ Some host = sym none_at ∙ h in
        cc
    from (Some y) e =
        let read = ap (option_and_then (some_if (name_eq (root_at w x) (shadow_root_of x.owner)))) e in
        let at = by_test (name_eq (root_at w x) (shadow_root_of x.owner)) y (sym read ∙ h) in
        (e ∙ at.0, name_eq-true (root_at w x) (shadow_root_of x.owner) at.1)

-- A node in a shadow tree, and the host of its root, which is one less deep.
pub record IsBelow (w : World) (x host : NodeName) : Type 0 where
  pub tree : IsInTree w x.owner x
  pub above : host_above w x ≡ Some host
  pub deeper : owner_depth x.owner ≡ suc (owner_depth host.owner)

-- a node with a host above is below it
pub below-host : (w : World) → IsWorld w → (x host : NodeName) → host_above w x ≡ Some host → IsBelow w x host
below-host w i x host h =
    let at = above-host w x host h in
    let k = hosted w x.owner host at.0 in
    let deep = ap owner_depth (sym (made_by-is x.owner k.maker k.number k.named)) ∙ depth-made k.maker k.number in
    record {
      tree = record { foreign = hosted-no_page w x.owner host k; owner = refl; host = ap is_some at.0; root = at.1 };
      above = h;
      deeper = deep ∙ ap (λ o. suc (owner_depth o)) (sym (hosted-owned w i x.owner host k));
    }

-- a node without a host above is alone in its chain
pub hosts-alone : (depth : ℕ) (w : World) (x : NodeName) → host_above w x ≡ None → hosts_from depth w x ≡ x ∷ []
hosts-alone zero w x h = refl
hosts-alone (suc depth) w x h = ap (λ o. x ∷ flat_map (hosts_from depth w) (option_to_list o)) h

-- and one below a host comes before the host's chain
pub chain-below : (w : World) (x host : NodeName) → IsBelow w x host → host_chain w x ≡ x ∷ host_chain w host
chain-below w x host b =
    ap (λ d. hosts_from d w x) b.deeper ∙ ap (λ o. x ∷ flat_map (hosts_from (owner_depth host.owner) w) (option_to_list o)) b.above
    ∙ ap (λ xs. x ∷ xs) (append-nil (host_chain w host))

-- each chain begins with its node
pub chain-first : (depth : ℕ) (w : World) (x : NodeName) → (rest : List NodeName) × (hosts_from depth w x ≡ x ∷ rest)
chain-first zero w x = ([], refl)
chain-first (suc depth) w x = (flat_map (hosts_from depth w) (option_to_list (host_above w x)), refl)

-- A chain: nodes of shadow trees, and the last one, which is in none.
pub record HasChain (w : World) (x : NodeName) : Type 0 where
  pub inner : List NodeName
  pub last : NodeName
  pub chain : host_chain w x ≡ inner ++ last ∷ []
  pub trees : AllByRecursion (λ y. IsInTree w y.owner y) inner
  pub out : host_above w last ≡ None
  pub shallow : AllByRecursion (λ y. owner_depth y.owner ≤ owner_depth x.owner) (inner ++ last ∷ [])

-- each node has one
climb : {w : World} (depth : ℕ) → IsWorld w → (x : NodeName) → owner_depth x.owner ≤ depth → {o : Option NodeName} → host_above w x ≡ o → HasChain w x
climb {w} depth i x h {o = None} e =
    record { inner = []; last = x; chain = hosts-alone (owner_depth x.owner) w x e; trees = tt; out = e; shallow = (omega arith, tt) }
climb {w} zero i x h {o = Some host} e = let b = (below-host w i x host e).deeper in absurd (omega (arith, h, b))
climb {w} (suc depth) i x h {o = Some host} e =
    let b = below-host w i x host e in
    let deep = b.deeper in
    let k = climb depth i host (omega (arith, h, deep)) refl in
    record {
      inner = x ∷ k.inner;
      last = k.last;
      chain = chain-below w x host b ∙ ap (λ xs. x ∷ xs) k.chain;
      trees = (b.tree, k.trees);
      out = k.out;
      shallow = (
        omega arith,
        all-then (λ y. owner_depth y.owner ≤ owner_depth host.owner) (λ y. owner_depth y.owner ≤ owner_depth x.owner) (λ y s. omega (arith, s, deep))
            (k.inner ++ k.last ∷ []) k.shallow,
      );
    }

-- the chain of any node
pub has-chain : (w : World) → IsWorld w → (x : NodeName) → HasChain w x
has-chain w i x = climb (owner_depth x.owner) i x (omega arith) refl

-- its nodes are no deeper than the first
pub chain-shallow : (w : World) → IsWorld w → (x : NodeName) → AllByRecursion (λ y. owner_depth y.owner ≤ owner_depth x.owner) (host_chain w x)
chain-shallow w i x = let k = has-chain w i x in subst (AllByRecursion (λ y. owner_depth y.owner ≤ owner_depth x.owner)) (sym k.chain) k.shallow

-- a name without a node has no host above it
pub absent-host : (w : World) → IsWorld w → (x : NodeName) → times_in (trees_with w x) x ≡ 0 → host_above w x ≡ None
absent-host w i x z =
    by_some_is (λ (o : Option NodeName). host_above w x ≡ None) (host_above w x) (λ e. e)
    (λ host e. let at = above-host w x host e in
    let root : root_at w x ≡ x = ap (λ p. unwrap_or (last_or None p) x) (path_none (trees_with w x) x z) in
    let there = root-there (trees_with w x) (shadow_root_of x.owner) (i.shadow_roots x.owner (ap is_some at.0)).alone in
    let same : times_in (trees_with w x) (shadow_root_of x.owner) ≡ 0 = ap (times_in (trees_with w x)) (sym at.1 ∙ root) ∙ z in
    absurd (omega (arith, there, same)))

-- What is hidden. First, names of two owners differ,
pub other-owner : (x y : NodeName) → x.owner ≢ y.owner → name_eq x y ≡ false
other-owner x y f = ap (λ t. t && Rattle.std.proofs.Common.eqb x.number y.number) (ne-owner_eq x.owner y.owner f)

-- and a component's shadow root is among a node's ancestors where it is the root of the node's tree:
root-among : (w : World) → IsWorld w → (c : Owner) → IsTrue (is_some (host_of w c)) → (x : NodeName) → x.owner ≡ c →
    is_in name_eq (shadow_root_of c) (ancestors_at w x) ≡ name_eq (shadow_root_of c) (root_at w x)
root-among w i c h x own =
    let r = shadow_root_of c in
    let ts = trees_with w x in
    let unique = (i.parts x.owner).unique in
    let alone = subst (λ o. IsTrue (is_in name_eq r (names_of (roots (part_of w o).trees)))) (sym own) (i.shadow_roots c h).alone in
    let its : root_of ts r ≡ r = ap (λ p. unwrap_or (last_or None p) r) (root-alone ts unique r alone) in
    by_cases (is_in name_eq r (ancestors_at w x))
    (λ e. e ∙ sym (ap (name_eq r) (sym (all-in (λ y. root_of ts y ≡ root_of ts x) r (ancestors_at w x) (ancestors-root ts unique x) e) ∙ its) ∙ name_eq-same r))
    (λ e. e ∙ sym (by_cases (name_eq r (root_at w x))
    (λ t. absurd (true≢false (sym (there r (root-there ts r alone) (name_eq-true r (root_at w x) t)) ∙ e)))
    (λ t. t)))
  where
    there : (r : NodeName) → 1 ≤ times_in (trees_with w x) r → r ≡ root_at w x → is_in name_eq r (ancestors_at w x) ≡ true
    there r at same =
        by_times (times_in (trees_with w x) x)
        (λ z. let root : root_at w x ≡ x = ap (λ p. unwrap_or (last_or None p) x) (path_none (trees_with w x) x z) in
        absurd (let k = ap (times_in (trees_with w x)) (same ∙ root) in omega arith))
        (λ z. let up = ancestors-present (trees_with w x) x z in
        let root : root_at w x ≡ last_from x up.0 = ap (λ p. unwrap_or (last_or None p) x) up.1 ∙ ap (λ o. unwrap_or o x) (last-is x up.0) in
        ap (λ p. is_in name_eq r p) up.1 ∙ ap (λ y. is_in name_eq y (x ∷ up.0)) (same ∙ root) ∙ last-in x up.0)

-- of any node
root-above : (w : World) → IsWorld w → (c : Owner) → IsTrue (is_some (host_of w c)) → (x : NodeName) →
    is_in name_eq (shadow_root_of c) (ancestors_at w x) ≡ name_eq (shadow_root_of c) (root_at w x)
root-above w i c h x =
    by_cases (owner_eq x.owner c) (λ t. root-among w i c h x (owner_eq-true x.owner c t))
    (λ t. let g : c ≢ x.owner = λ same. true≢false (sym (ap (owner_eq x.owner) same ∙ owner_eq-same x.owner) ∙ t) in
    not_in (shadow_root_of c) (ancestors_at w x) x.owner g (ancestors-owned w i x)
    ∙ sym (other-owner (shadow_root_of c) (root_at w x) (λ same. g (same ∙ root-owned w i x))))

-- one of two lists
in-append : (x : NodeName) (ys zs : List NodeName) → is_in name_eq x (ys ++ zs) ≡ (is_in name_eq x ys || is_in name_eq x zs)
in-append x [] zs = refl
in-append x (y ∷ ys) zs = by_cases (name_eq x y) (λ e. rw e refl) (λ e. rw e (in-append x ys zs))

-- so of the nodes of a chain
root-along : (w : World) → IsWorld w → (c : Owner) → IsTrue (is_some (host_of w c)) → (xs : List NodeName) →
    is_in name_eq (shadow_root_of c) (flat_map (ancestors_at w) xs) ≡ is_in name_eq (shadow_root_of c) (map (root_at w) xs)
root-along w i c h [] = refl
root-along w i c h (x ∷ xs) =
    in-append (shadow_root_of c) (ancestors_at w x) (flat_map (ancestors_at w) xs)
    ∙ ap (λ b. b || is_in name_eq (shadow_root_of c) (flat_map (ancestors_at w) xs)) (root-above w i c h x)
    ∙ ap (λ b. name_eq (shadow_root_of c) (root_at w x) || b) (root-along w i c h xs)

-- A node is hidden from another one where it is in a shadow tree, and no root of that one's chain is its root.
pub hidden-by_chain : (w : World) → IsWorld w → (x y : NodeName) →
    is_hidden_from w x y ≡ (is_in_shadow_tree w y && not (is_in name_eq (root_at w y) (map (root_at w) (host_chain w x))))
hidden-by_chain w i x y = from (host_above w y) refl
  where
    from : (o : Option NodeName) → host_above w y ≡ o →
        is_hidden_from w x y ≡ (is_in_shadow_tree w y && not (is_in name_eq (root_at w y) (map (root_at w) (host_chain w x))))
    from None e =
        let out : is_in_shadow_tree w y ≡ false = ap is_some e in
        ap (λ b. b && not (is_in name_eq (root_at w y) (shadow_including_ancestors w x))) out
        ∙ sym (ap (λ b. b && not (is_in name_eq (root_at w y) (map (root_at w) (host_chain w x)))) out)
    from (Some host) e =
        let t = (below-host w i y host e).tree in
        ap (λ b. is_in_shadow_tree w y && not b)
        (ap (λ r. is_in name_eq r (shadow_including_ancestors w x)) t.root ∙ root-along w i y.owner t.host (host_chain w x)
        ∙ ap (λ r. is_in name_eq r (map (root_at w) (host_chain w x))) (sym t.root))

-- a node is not hidden from itself
pub hidden-itself : (w : World) → IsWorld w → (x : NodeName) → is_hidden_from w x x ≡ false
hidden-itself w i x =
    let at = chain-first (owner_depth x.owner) w x in
    let own : is_in name_eq (root_at w x) (map (root_at w) (host_chain w x)) ≡ true =
    ap (λ xs. is_in name_eq (root_at w x) (map (root_at w) xs)) at.1 ∙ ap (λ b. b || is_in name_eq (root_at w x) (map (root_at w) at.0))
    (name_eq-same (root_at w x)) in
    hidden-by_chain w i x x ∙ ap (λ b. is_in_shadow_tree w x && not b) own ∙ and-false (is_in_shadow_tree w x)
  where
    and-false : (b : Bool) → (b && false) ≡ false
    and-false true = refl
    and-false false = refl

-- but from whoever is less deep, if it is in a shadow tree
pub hidden-deeper : (w : World) → IsWorld w → (x y : NodeName) → IsInTree w y.owner y → owner_depth x.owner < owner_depth y.owner → is_hidden_from w x y ≡ true
hidden-deeper w i x y t h =
    hidden-by_chain w i x y ∙ ap (λ b. b && not (is_in name_eq (root_at w y) (map (root_at w) (host_chain w x)))) (in_tree w y.owner y t)
    ∙ ap not (absent (host_chain w x) (chain-shallow w i x))
  where
    absent : (xs : List NodeName) → AllByRecursion (λ (z : NodeName). owner_depth z.owner ≤ owner_depth x.owner) xs →
        is_in name_eq (root_at w y) (map (root_at w) xs) ≡ false
    absent [] g = refl
    absent (z ∷ xs) g =
        let other : name_eq (root_at w y) (root_at w z) ≡ false =
        other-owner (root_at w y) (root_at w z)
        (λ e. let same = ap owner_depth (sym (root-owned w i y) ∙ e ∙ root-owned w i z) in let shallow = g.0 in absurd (omega (arith, h, same, shallow))) in
        ap (λ b. b || is_in name_eq (root_at w y) (map (root_at w) xs)) other ∙ absent xs g.1

-- a node is hidden from another one where it is in a shadow tree, in which neither that one is nor any host further out
pub hidden-by_roots : HiddenByRoots
hidden-by_roots b w r x y = hidden-by_chain w r.world x y

-- whether a node can be seen from another one
abbrev is_seen : World → NodeName → NodeName → Bool
is_seen w x z = not (is_hidden_from w x z)

-- the last one of a chain can be seen from everywhere, so some one can
some-seen : (w : World) → IsWorld w → (x a : NodeName) → is_some (find (is_seen w x) (host_chain w a)) ≡ true
some-seen w i x a =
    let k = has-chain w i a in
    let last : is_seen w x k.last ≡ true =
    ap not (hidden-by_chain w i x k.last ∙ ap (λ (o : Option NodeName). is_some o && not (is_within w x k.last)) k.out) in
    ap (λ ys. is_some (find (is_seen w x) ys)) k.chain ∙ found k.inner k.last last
  where
    found : (ys : List NodeName) (z : NodeName) → is_seen w x z ≡ true → is_some (find (is_seen w x) (ys ++ z ∷ [])) ≡ true
    found [] z h = ap is_some (cond-true (is_seen w x z) (Some z) None h)
    found (y ∷ ys) z h =
        by_cases (is_seen w x y) (λ t. ap is_some (cond-true (is_seen w x y) (Some y) (find (is_seen w x) (ys ++ z ∷ [])) t))
        (λ t. ap is_some (cond-false (is_seen w x y) (Some y) (find (is_seen w x) (ys ++ z ∷ [])) t) ∙ found ys z h)

-- which is the same, whatever there would be in place of it
same-default : (o : Option NodeName) (a z : NodeName) → is_some o ≡ true → unwrap_or o a ≡ unwrap_or o z
same-default None a z h = cc
same-default (Some y) a z h = refl

-- retargeting, by the roots
pub retarget-by_roots : RetargetedByRoots
retarget-by_roots b w r a x = by_host (host_above w a) refl
  where
    first : (rest : List NodeName) → is_hidden_from w x a ≡ false → host_chain w a ≡ a ∷ rest → retarget w a x ≡ a
    first rest e chain =
        ap (λ ys. unwrap_or (find (is_seen w x) ys) a) chain ∙
        ap (λ o. unwrap_or o a) (cond-true (is_seen w x a) (Some a) (find (is_seen w x) rest) (ap not e))

    by_host : (o : Option NodeName) → host_above w a ≡ o →
        retarget w a x ≡ option_map_or (λ host. if is_within w x a then a else retarget w host x) o a
    by_host None e = first [] (hidden-by_roots b w r x a ∙ ap (λ (o : Option NodeName). is_some o && not (is_within w x a)) e)
        (hosts-alone (owner_depth a.owner) w a e)
    by_host (Some host) e =
        let chain = chain-below w a host (below-host w r.world a host e) in
        let hidden : is_hidden_from w x a ≡ not (is_within w x a) =
        hidden-by_roots b w r x a ∙ ap (λ (o : Option NodeName). is_some o && not (is_within w x a)) e in
        by_cases (is_within w x a)
        (λ t. first (host_chain w host) (hidden ∙ ap not t) chain ∙ sym (cond-true (is_within w x a) a (retarget w host x) t))
        (λ t. ap (λ ys. unwrap_or (find (is_seen w x) ys) a) chain
        ∙ ap (λ o. unwrap_or o a) (cond-false (is_seen w x a) (Some a) (find (is_seen w x) (host_chain w host)) (ap not (hidden ∙ ap not t)))
        ∙ same-default (find (is_seen w x) (host_chain w host)) a host (some-seen w r.world x host)
        ∙ sym (cond-false (is_within w x a) a (retarget w host x) t))
