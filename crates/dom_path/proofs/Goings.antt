-- The trees from that of a node outward: found from the inside, and kept from the outside.
use Rattle.dom_path.proofs.Cited.{◌≡◌, inl, inr, ℕ, suc, ◌<◌, ◌≤◌, true, List, [], ◌∷◌, ◌++◌, length, Option, Some, None, refl, sym, ap, subst, ◌∙◌}
use Rattle.dom_path.proofs.Cited.{arith, length-append, slice_get, is_some, option_map, ForSome, NodeName, is_shadow, node_in, root_of, NamedTrees, name_at}
use Rattle.dom_path.proofs.Cited.{slice_get-pushed, slice_get-push, ShadowHost, PathNode, Tree, IsHosted, IsNested, Grows, IsAround, GoesOut, IsTreeOf}
use Rattle.dom_path.proofs.Cited.{HasTreeNodes, IsTree, AreTrees, IsPathNode}
use Rattle.dom_path.proofs.Nesting.{nested-more, kept-more, grows-longer, grows-twice}

module _ (f : NamedTrees) (hosts : List ShadowHost) where
  -- one tree more, further out
  pub goes-on : (from : Option NodeName) (trees : List Tree) (x : NodeName) (t : Tree) → GoesOut f hosts from trees (Some x) → IsAround f hosts x t
      → GoesOut f hosts from (trees ++ t ∷ []) (option_map (name_at f.names) t.host)
  goes-on from [] x t h a = (x, h, a, refl)
  goes-on from (s ∷ trees) x t h a = (h.0, h.1, h.2, goes-on (option_map (name_at f.names) s.host) trees x t h.3 a)

  -- the outermost one is that of a node
  pub goes-back : (from to : Option NodeName) (trees : List Tree) (t : Tree) → GoesOut f hosts from (trees ++ t ∷ []) to
      → (x : NodeName) × GoesOut f hosts from trees (Some x) × IsAround f hosts x t × (option_map (name_at f.names) t.host ≡ to)
  goes-back from to [] t h = (h.0, h.1, h.2, h.3)
  goes-back from to (s ∷ trees) t h =
      let k = goes-back (option_map (name_at f.names) s.host) to trees t h.3 in
      (k.0, (h.0, h.1, h.2, k.1), k.2, k.3)

  -- a tree's place is that of its nodes' tree among more trees
  pub tree-kept : (trees new : List Tree) (place : ℕ) (x : NodeName) → Grows trees new → IsTreeOf f trees place x → IsTreeOf f new place x
  tree-kept trees new place x g h = subst (λ ts. IsTreeOf f ts place x) (sym g.1) (from (slice_get trees place) refl h)
    where
      from : (o : Option Tree) → slice_get trees place ≡ o → option_map (λ (t : Tree). name_at f.names t.root) o ≡ Some (root_of f.trees x) →
          IsTreeOf f (trees ++ g.0) place x
      from None e k = cc
      from (Some t) e k = ap (option_map (λ (t : Tree). name_at f.names t.root)) (kept-more trees g.0 place t e) ∙ k

  -- so is a node's place
  pub stand-kept : (trees new : List Tree) (x : PathNode) → Grows trees new → IsPathNode f hosts trees x → IsPathNode f hosts new x
  stand-kept trees new x g h = record {
    node = h.node;
    within = let longer = grows-longer trees new g in let w = h.within in omega (arith, longer, w);
    tree = λ depth is. tree-kept trees new x.tree (name_at f.names x.node) g (h.tree depth is);
    shadow = h.shadow;
  }

  -- a node's place, from its parts
  pub stand-made : {trees : List Tree} {x : PathNode} {node place : ℕ} → x.node ≡ node → x.tree ≡ place →
      x.is_shadow_root ≡ is_shadow (node_in f.trees (name_at f.names node)).kind
      → node < length f.names → place < length trees → ((depth : ℕ) → IsHosted f hosts depth → IsTreeOf f trees place (name_at f.names node)) →
      IsPathNode f hosts trees x
  stand-made {trees} {x} {node} {place} e g shadow there within is = record {
    node = subst (λ k. k < length f.names) (sym e) there;
    within = subst (λ k. k < length trees) (sym g) within;
    tree = λ depth hosted. subst (λ k. IsTreeOf f trees k (name_at f.names x.node)) (sym g)
        (subst (λ k. IsTreeOf f trees place (name_at f.names k)) (sym e) (is depth hosted));
    shadow = shadow ∙ ap (λ k. is_shadow (node_in f.trees (name_at f.names k)).kind) (sym e);
  }

  -- one tree more, with its host and the place of the tree around it
  pub trees-more : (trees : List Tree) (t : Tree) → AreTrees f hosts trees → IsNested (length trees) t → HasTreeNodes f t →
      ((depth : ℕ) → IsHosted f hosts depth → IsTree f hosts trees t) → AreTrees f hosts (trees ++ t ∷ [])
  trees-more trees t are inside nodes here = record {
    nested = nested-more trees t are.nested inside;
    nodes = λ place x at. elim (slice_get-push trees place t x at) [
      | inl h ↦ subst (HasTreeNodes f) (sym h.1) nodes
      | inr h ↦ are.nodes place x h
    ];
    each = λ depth is place x at. grown x (elim (slice_get-push trees place t x at) [
      | inl h ↦ subst (IsTree f hosts trees) (sym h.1) (here depth is)
      | inr h ↦ are.each depth is place x h
    ]);
  }
    where
      grown : (x : Tree) → IsTree f hosts trees x → IsTree f hosts (trees ++ t ∷ []) x
      grown x h = record { host = h.host; outer = λ k e. tree-kept trees (trees ++ t ∷ []) x.outer (name_at f.names k) (t ∷ [], refl) (h.outer k e) }

  -- the last of them has this place
  pub tree-pushed : (trees : List Tree) (t : Tree) (x : NodeName) → name_at f.names t.root ≡ root_of f.trees x → IsTreeOf f (trees ++ t ∷ []) (length trees) x
  tree-pushed trees t x e = ap (option_map (λ (t : Tree). name_at f.names t.root)) (slice_get-pushed trees t) ∙ ap Some e

  -- Trees to which those around a node are added, the outermost first: these are still to come, and then the node has the last place.
  pub record IsOutside (x : NodeName) (old : List Tree) (around trees : List Tree) (outer : ℕ) : Type 0 where
    pub to : Option NodeName
    pub way : GoesOut f hosts (Some x) around to
    pub grown : Grows old trees
    pub are : AreTrees f hosts trees
    pub within : outer ≤ length trees
    pub there : ForSome to (λ y. (outer < length trees) × IsTreeOf f trees outer y)

  -- a node's own is still to come behind those around its host
  pub outside-own : {x : NodeName} {old trees : List Tree} (t : Tree) {outer : ℕ} → IsAround f hosts x t → Grows old trees → AreTrees f hosts trees
      → outer ≤ length trees → ForSome t.host (λ h. (outer < length trees) × IsTreeOf f trees outer (name_at f.names h)) →
      IsOutside x old (t ∷ []) trees outer
  outside-own {x} {old} {trees} t {outer} around grown are within seen = record {
    to = option_map (name_at f.names) t.host;
    way = (x, refl, around, refl);
    grown = grown;
    are = are;
    within = within;
    there = by t.host seen;
  }
    where
      by : (o : Option ℕ) → ForSome o (λ h. (outer < length trees) × IsTreeOf f trees outer (name_at f.names h)) →
          ForSome (option_map (name_at f.names) o) (λ y. (outer < length trees) × IsTreeOf f trees outer y)
      by None h = λ y e. cc
      by (Some k) h = λ y e. ((h k refl).0, subst (IsTreeOf f trees outer) (let s : name_at f.names k ≡ y = cc in s) (h k refl).1)

  -- a tree less to come may be added
  pub outside-nested : {x : NodeName} {old around : List Tree} (left : List Tree) {trees : List Tree} (t : Tree) {outer : ℕ} →
      IsOutside x old around trees outer → around ≡ left ++ t ∷ []
      → IsNested (length trees) (record { root = t.root; host = t.host; outer = outer })
  outside-nested {x} left {trees} t {outer} h e =
      let b = goes-back (Some x) h.to left t (subst (λ ts. GoesOut f hosts (Some x) ts h.to) e h.way) in
      record { within = h.within; behind = λ is. by t.host is b.3 }
    where
      by : (o : Option ℕ) → is_some o ≡ true → option_map (name_at f.names) o ≡ h.to → outer < length trees
      by None is e = cc
      by (Some k) is e = (h.there (name_at f.names k) (sym e)).0

  -- once it was added
  pub outside-more : {x : NodeName} {old around : List Tree} (left : List Tree) {trees new : List Tree} (t : Tree) {outer place : ℕ} →
      IsOutside x old around trees outer →
      around ≡ left ++ t ∷ []
      → new ≡ trees ++ record { root = t.root; host = t.host; outer = outer } ∷ [] → place ≡ length trees → IsOutside x old left new place
  outside-more {x} {old} left {trees} {new} t {outer} {place} h e is p =
      let b = goes-back (Some x) h.to left t (subst (λ ts. GoesOut f hosts (Some x) ts h.to) e h.way) in
      let put : Tree = record { root = t.root; host = t.host; outer = outer } in
      let one : length new ≡ suc (length trees) = ap length is ∙ length-append trees (put ∷ []) ∙ (omega arith) in
      record {
        to = Some b.0;
        way = b.1;
        grown = grows-twice old trees new h.grown (put ∷ [], is);
        are = subst (AreTrees f hosts) (sym is)
            (trees-more trees put h.are (outside-nested left t h e) (record { root = b.2.nodes.root; host = b.2.nodes.host })
            (λ depth hosted. record { host = b.2.host; outer = λ k at. (h.there (name_at f.names k) (sym b.3 ∙ ap (option_map (name_at f.names)) at)).1 }));
        within = omega (arith, one, p);
        there = λ y same. (
          omega (arith, one, p),
          subst (λ ts. IsTreeOf f ts place y) (sym is) (subst (λ k. IsTreeOf f (trees ++ put ∷ []) k y) (sym p)
              (tree-pushed trees put y (b.2.root ∙ ap (root_of f.trees) (let s : b.0 ≡ y = cc in s)))),
        );
      }

  -- with none to come the node's tree is there
  pub outside-last : {x : NodeName} {old : List Tree} (around : List Tree) {trees : List Tree} {outer : ℕ} → IsOutside x old around trees outer →
      (0 < length around → ⊥) →
      (outer < length trees) × IsTreeOf f trees outer x
  outside-last {x} [] h e = h.there x (sym h.way)
  outside-last (t ∷ around) h e = absurd (e (omega arith))
