-- Steps that place no shadow root, and make none, leave each shadow root without a parent: which nodes are shadow roots is said by the
-- part before them.
use Rattle.dom_mutation.proofs.Cited.{◌≡◌, ◌≤◌, true, false, List, drop, Option, None, refl, sym, ap, ◌∙◌, arith, true≢false, subst, ⊤, AllByRecursion}
use Rattle.dom_mutation.proofs.Cited.{and_parts, Shadow, NodeName, common_ancestor, name_eq, first_of, Part, next_name, Step, make, place, part_step}
use Rattle.dom_mutation.proofs.Cited.{after, Trees, none, tree, Node, no_node, node_in, kind_of, is_shadow, has_data, parent_of, children_of, subtree}
use Rattle.dom_mutation.proofs.Cited.{times_in, trees_below, Asked, name_eq-same, name_eq-true, IsPart, AllNodes, IsShadowAt, common_below}
use Rattle.dom_mutation.proofs.Cited.{whole-pieces, part-step, Allowed, IsOwn, own-step, next-other, IsKept, kept-after, shadow-kind, kind-root}
use Rattle.dom_mutation.proofs.Cited.{found-absent, roots-there, no_parent-root, read-all, nodes-then, nodes-named, root-below_none, all-then, by_cases}
use Rattle.dom_mutation.proofs.Cited.{node-read, name-node_in, fragment-no_shadow, root-alone, by_times, NewHas, rules-kept, nodes-step}

-- no shadow root has a parent
abbrev pub LoneRoots : Trees → Type 0
LoneRoots ts = (x : NodeName) → is_shadow (kind_of ts x) ≡ true → parent_of ts x ≡ None

module _ (p0 : Part) where
  -- a shadow root, and another node, of the part before
  abbrev IsShadowHere : NodeName → Type 0
  IsShadowHere x = is_shadow (kind_of p0.trees x) ≡ true

  abbrev pub IsNoShadow : NodeName → Type 0
  IsNoShadow x = is_shadow (kind_of p0.trees x) ≡ false

  -- a node is a shadow root only if it was one
  abbrev WasShadow : Node → Type 0
  WasShadow n = n.kind ≡ Shadow → IsShadowHere n.name

  -- each shadow root of the part before is one still, and has no parent; and there are no others
  pub record StayLone (p : Part) : Type 0 where
    pub part : IsPart p
    pub roots : (r : NodeName) → IsShadowHere r → IsOwn r p
    pub shadows : AllNodes WasShadow p.trees

  -- the steps that may be made
  abbrev pub MakesNone : Step → Type 0
  MakesNone = Asked (λ n. is_shadow n.kind ≡ false) IsNoShadow (λ a. ⊤) (λ c. ⊤)

  -- they place none of them
  none-placed : (s : Step) → MakesNone s → (r : NodeName) → IsShadowHere r → Allowed r s
  none-placed (place x parent before) m r is =
      by_cases (name_eq x r) (λ e. absurd (true≢false (sym is ∙ ap (λ y. is_shadow (kind_of p0.trees y)) (sym (name_eq-true x r e)) ∙ m))) (λ e. e)
  none-placed s m r is = tt

  -- there are no others then
  shadows-step : (p : Part) (s : Step) → MakesNone s → AllNodes WasShadow p.trees → AllNodes WasShadow (part_step p s).trees
  shadows-step p s m i = nodes-step WasShadow (λ n k named kinded g e. subst IsShadowHere (sym named) (g (sym kinded ∙ e))) p s i (new s m)
    where
      new : (s : Step) → MakesNone s → NewHas WasShadow p s
      new (make n) m = λ e. absurd (true≢false (sym (ap is_shadow e) ∙ m))
      new s m = tt

  -- a shadow root was one
  was-shadow : (p : Part) → StayLone p → (x : NodeName) → is_shadow (kind_of p.trees x) ≡ true → IsShadowHere x
  was-shadow p h x is =
      subst IsShadowHere (name-node_in p.trees x)
      (node-read WasShadow x (λ e. absurd (fragment-no_shadow e)) p.trees h.shadows (shadow-kind (kind_of p.trees x) is))

  -- a node that was none is none
  no-shadow : (p : Part) → StayLone p → (x : NodeName) → IsNoShadow x → is_shadow (kind_of p.trees x) ≡ false
  no-shadow p h x m = by_cases (is_shadow (kind_of p.trees x)) (λ e. absurd (true≢false (sym (was-shadow p h x e) ∙ m))) (λ e. e)

  -- what stands below a node is none
  below-no_shadow : (p : Part) → StayLone p → (x y : NodeName) → 1 ≤ times_in (trees_below (subtree p.trees x)) y → IsNoShadow y
  below-no_shadow p h x y t =
      by_cases (is_shadow (kind_of p0.trees y))
      (λ e. absurd (let z = root-below_none p.trees h.part.unique y (h.roots y e).root.alone x in omega arith)) (λ e. e)

  -- The rules of plans.
  pub lone-rules : IsKept StayLone MakesNone IsNoShadow (λ x. ⊤)
  lone-rules =
      rules-kept (record {
        step = λ p s h m. record {
          part = part-step p s h.part;
          roots = λ r is. own-step r p s (h.roots r is) (none-placed s m r is);
          shadows = shadows-step p s m h.shadows;
        };
        children_told = λ x added removed previous next. tt;
        data_told = λ x old. tt;
        new_text = λ x d text. refl;
        new_fragment = λ x d. refl;
        clone = λ p x y h m. no-shadow p h x m;
        clone_part = λ p x y from to h m. no-shadow p h x m;
        new_node = λ p h. by_cases (is_shadow (kind_of p0.trees (next_name p)))
            (λ e. absurd (true≢false (sym (name_eq-same (next_name p)) ∙ next-other (next_name p) p (h.roots (next_name p) e)))) (λ e. e);
        children = λ p h x. all-then (λ y. 1 ≤ times_in (trees_below (subtree p.trees x)) y) IsNoShadow (below-no_shadow p h x)
            (children_of p.trees x) (roots-there (trees_below (subtree p.trees x)));
        wholes = λ p h range. whole-pieces IsNoShadow p.trees range
            (λ e. by_cases (is_shadow (kind_of p0.trees range.start.node))
            (λ is. absurd (true≢false (sym
            (and_parts (name_eq range.start.node range.end.node) (has_data (kind_of p.trees range.start.node)) e).1 ∙
            ap has_data (kind-root range.start.node p (h.roots range.start.node is))))) (λ is. is))
            (nodes-named IsNoShadow (common_below p.trees range) (below-no_shadow p h (common_ancestor p.trees range)));
      })

  -- a shadow root is there
  shadow-there : (x : NodeName) → IsShadowHere x → 1 ≤ times_in p0.trees x
  shadow-there x is =
      by_times (times_in p0.trees x) (λ z. absurd
      (true≢false (sym is ∙ ap (λ (o : Option Node). is_shadow (Rattle.std.specs.Prelude.unwrap_or o (no_node x)).kind)
      (found-absent p0.trees x z)))) (λ z. z)

  -- each node is the one that is read under its name
  shadows-here : IsPart p0 → AllNodes WasShadow p0.trees
  shadows-here i = by p0.trees (nodes-named (λ y. 1 ≤ times_in p0.trees y) p0.trees (λ y m. m)) (λ y t. read-all p0.trees y i.unique t)
    where
      by : (us : Trees) → AllNodes (λ n. 1 ≤ times_in p0.trees n.name) us →
          ((y : NodeName) → 1 ≤ times_in p0.trees y → AllNodes (λ n. name_eq n.name y ≡ true → n ≡ node_in p0.trees y) us) → AllNodes WasShadow us
      by none h f = tt
      by (tree n c r) h f = (
        (λ e. ap (λ (m : Node). is_shadow m.kind) (sym ((f n.name h.0).0 (name_eq-same n.name))) ∙ ap is_shadow e),
        by c h.1
            (λ y t. (f y t).1),
        by r h.2 (λ y t. (f y t).2),
      )

  -- before the steps it is so
  pub lone-before : IsPart p0 → LoneRoots p0.trees → StayLone p0
  lone-before i h =
      record {
        part = i;
        roots = λ r is. record {
          part = i;
          root = record {
            alone = no_parent-root p0.trees r (shadow-there r is) (h r is);
            shadow = nodes-then (λ n. name_eq n.name r ≡ true → n ≡ node_in p0.trees r) (IsShadowAt r)
                (λ n f e. ap (λ (m : Node). m.kind) (f e) ∙ shadow-kind (kind_of p0.trees r) is) p0.trees
                (read-all p0.trees r i.unique (shadow-there r is));
          };
        };
        shadows = shadows-here i;
      }

  -- after them too
  lone-then : (p : Part) → StayLone p → LoneRoots p.trees
  lone-then p h x is =
      let own = h.roots x (was-shadow p h x is) in
      ap (λ (path : List NodeName). first_of (drop 1 path)) (root-alone p.trees own.part.unique x own.root.alone)

  -- such steps leave shadow roots without parents
  pub lone-after : (steps : List Step) → IsPart p0 → LoneRoots p0.trees → AllByRecursion MakesNone steps → LoneRoots (after p0 steps).trees
  lone-after steps i h all = lone-then (after p0 steps) (kept-after lone-rules.moves p0 steps (lone-before i h) all)
