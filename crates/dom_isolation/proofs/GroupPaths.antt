-- The path of an event of a node of the group: its nodes of the group are the path where no others are, all others on it are hidden from them, and so what
-- it shows at the group's nodes is what it shows where no others are.
use Rattle.dom_base.proofs.Std.{◌≡◌, ℕ, zero, suc, Bool, true, false, not, ◌&&◌, ◌||◌, List, [], ◌∷◌, ◌++◌, filter, find, flat_map, take_while, Option, Some}
use Rattle.dom_base.proofs.Std.{None, unwrap_or, refl, sym, ap, ◌∙◌, subst, true≢false, map, if◌then◌else◌, is_some, option_to_list, AllByRecursion, cond-true}
use Rattle.dom_base.proofs.Std.{cond-false, filter-append, and-false}
use Rattle.dom_model.proofs.Model.{Owner, NodeName, name_eq, owner_depth, max_depth, is_in, inclusive_ancestors, root_of, Part, World, root_at, ancestors_at}
use Rattle.dom_model.proofs.Model.{host_above, host_chain, hosts_from, shadow_including_ancestors, is_in_shadow_tree, slot_of, is_hidden_from, retarget}
use Rattle.dom_model.proofs.Model.{retarget_related, with_slots, way_up, whole_path, is_node, ends_at, event_path, view_at, views, View, KeepsMakers}
use Rattle.dom_model.proofs.Model.{group_world, name_eq-true}
use Rattle.dom_worlds.specs.Definitions.{IsOf, IsWorld}
use Rattle.dom_worlds.proofs.ShadowTreeLemmas.{above-host, IsInTree, in_tree, slot_way, slots-behind}
use Rattle.dom_worlds.proofs.ListLemmas.{all-append, all-then, all-flat_map, filter_none, take_while-yes, take_while-no, all-passed, all-take_while, filter-map}
use Rattle.dom_worlds.proofs.ListLemmas.{map_same, by_cases, either_way}
use Rattle.dom_isolation.proofs.GroupSlots.{in_node, part-in, filter-here, filter-away}
use Rattle.dom_isolation.proofs.GroupSlots.{IsGround, ancestors-of, slot-outside, slot-group, host-inside, host_above-in, ground-of}
use Rattle.dom_isolation.proofs.PagePaths.{IsInSome, slot_way-in_some}
use Rattle.dom_isolation.proofs.OwnVisits.{in_view}

module _ {X : Type 0} where
  -- two functions that agree on the items
  flat_map_same : {Y : Type 0} (f h : X → List Y) (xs : List X) → AllByRecursion (λ x. f x ≡ h x) xs → flat_map f xs ≡ flat_map h xs
  flat_map_same f h [] a = refl
  flat_map_same f h (x ∷ xs) a = ap (λ ys. ys ++ flat_map f xs) a.0 ∙ ap (λ ys. h x ++ ys) (flat_map_same f h xs a.1)

  -- a test on what is made of the items
  filter-flat_map : {Y : Type 0} (t : Y → Bool) (f h : X → List Y) (xs : List X) → AllByRecursion (λ x. filter t (f x) ≡ h x) xs →
      filter t (flat_map f xs) ≡ flat_map h xs
  filter-flat_map t f h [] a = refl
  filter-flat_map t f h (x ∷ xs) a =
      filter-append t (f x) (flat_map f xs) ∙ ap (λ ys. ys ++ filter t (flat_map f xs)) a.0 ∙ ap (λ ys. h x ++ ys) (filter-flat_map t f h xs a.1)

  -- the first item that passes one of two tests that agree
  find_same : (p q : X → Bool) (xs : List X) → AllByRecursion (λ x. p x ≡ q x) xs → find p xs ≡ find q xs
  find_same p q [] a = refl
  find_same p q (x ∷ xs) a = ap (λ b. if b then Some x else find p xs) a.0 ∙ ap (λ r. if q x then Some x else r) (find_same p q xs a.1)

  -- what is found, or another thing
  pub found-all : (P : X → Type 0) (p : X → Bool) (xs : List X) (d : X) → AllByRecursion P xs → P d → P (unwrap_or (find p xs) d)
  found-all P p [] d a h = h
  found-all P p (x ∷ xs) d a h =
      by_cases (p x) (λ e. subst (λ o. P (unwrap_or o d)) (sym (cond-true (p x) (Some x) (find p xs) e)) a.0)
      (λ e. subst (λ o. P (unwrap_or o d)) (sym (cond-false (p x) (Some x) (find p xs) e)) (found-all P p xs d a.1 h))

  -- a front, of the items that pass a test, where all others are taken
  pub take_while-filter : (t p q : X → Bool) → ((x : X) → t x ≡ true → q x ≡ p x) → ((x : X) → t x ≡ false → p x ≡ true) → (xs : List X) →
      filter t (take_while p xs) ≡ take_while q (filter t xs)
  take_while-filter t p q same others [] = refl
  take_while-filter t p q same others (x ∷ xs) =
      by_cases (t x)
      (λ h. by_cases (p x)
      (λ e. ap (filter t) (take_while-yes p x xs e) ∙ filter-here t x (take_while p xs) h ∙ ap (λ ys. x ∷ ys) (take_while-filter t p q same others xs)
      ∙ sym (ap (take_while q) (filter-here t x xs h) ∙ take_while-yes q x (filter t xs) (same x h ∙ e)))
      (λ e. ap (filter t) (take_while-no p x xs e) ∙ sym (ap (take_while q) (filter-here t x xs h) ∙ take_while-no q x (filter t xs) (same x h ∙ e))))
      (λ h. ap (filter t) (take_while-yes p x xs (others x h)) ∙ filter-away t x (take_while p xs) h ∙ take_while-filter t p q same others xs
      ∙ sym (ap (take_while q) (filter-away t x xs h)))

  -- one test, where it holds of no item that fails another
  pub filter-within : (t p q : X → Bool) → ((x : X) → t x ≡ true → p x ≡ q x) → (xs : List X) → AllByRecursion (λ x. t x ≡ false → p x ≡ false) xs →
      filter p xs ≡ filter q (filter t xs)
  filter-within t p q same [] a = refl
  filter-within t p q same (x ∷ xs) a =
      by_cases (t x)
      (λ h. by_cases (p x)
      (λ e. filter-here p x xs e ∙ ap (λ ys. x ∷ ys) (filter-within t p q same xs a.1)
      ∙ sym (ap (filter q) (filter-here t x xs h) ∙ filter-here q x (filter t xs) (sym (same x h) ∙ e)))
      (λ e. filter-away p x xs e ∙ filter-within t p q same xs a.1
      ∙ sym (ap (filter q) (filter-here t x xs h) ∙ filter-away q x (filter t xs) (sym (same x h) ∙ e))))
      (λ h. filter-away p x xs (a.0 h) ∙ filter-within t p q same xs a.1 ∙ sym (ap (filter q) (filter-away t x xs h)))

module _ (g : Owner → Bool) (closed : KeepsMakers g) (w : World) (ground : IsGround w) where
  -- what is of the group, and what is not
  abbrev pub In : NodeName → Type 0
  In x = in_node g x ≡ true

  -- what is not
  abbrev pub Out : NodeName → Type 0
  Out x = in_node g x ≡ false

  -- the ancestors of a node are of the group where it is,
  pub ancestors-inside : (x : NodeName) → In x → AllByRecursion In (ancestors_at w x)
  ancestors-inside x h = all-then (IsOf x.owner) In (λ y e. ap g e ∙ h) (ancestors_at w x) (ancestors-of w ground x.owner x)

  -- and outside where it is not
  pub ancestors-outside : (x : NodeName) → Out x → AllByRecursion Out (ancestors_at w x)
  ancestors-outside x h = all-then (IsOf x.owner) Out (λ y e. ap g e ∙ h) (ancestors_at w x) (ancestors-of w ground x.owner x)

  -- the ancestors of a node of the group are the same in its own world
  ancestors-in : (x : NodeName) → In x → ancestors_at (group_world g w) x ≡ ancestors_at w x
  ancestors-in x h = ap (λ (p : Part). inclusive_ancestors p.trees x) (part-in g w x.owner h)

  -- The chain of hosts of a node of the group is of the group,
  hosts-inside : (depth : ℕ) (x : NodeName) → In x → AllByRecursion In (hosts_from depth w x)
  hosts-inside zero x h = (h, tt)
  hosts-inside (suc depth) x h = (h, from (host_above w x) refl (hosts-inside depth))
    where
      from : (o : Option NodeName) → host_above w x ≡ o → ((y : NodeName) → In y → AllByRecursion In (hosts_from depth w y)) →
          AllByRecursion In (flat_map (hosts_from depth w) (option_to_list o))
      from None e deeper = tt
      from (Some host) e deeper =
          all-append In (hosts_from depth w host) [] (deeper host (host-inside g closed w ground x.owner host (above-host w x host e).0 h)) tt

  -- the chain
  pub chain-inside : (x : NodeName) → In x → AllByRecursion In (host_chain w x)
  chain-inside x h = hosts-inside (owner_depth x.owner) x h

  -- the chain of hosts is the same in the group's own world
  hosts-in : (depth : ℕ) (x : NodeName) → In x → hosts_from depth (group_world g w) x ≡ hosts_from depth w x
  hosts-in zero x h = refl
  hosts-in (suc depth) x h =
      ap (λ o. x ∷ flat_map (hosts_from depth (group_world g w)) (option_to_list o)) (host_above-in g closed w ground x h)
      ∙ from (host_above w x) refl (hosts-in depth)
    where
      from : (o : Option NodeName) → host_above w x ≡ o → ((y : NodeName) → In y → hosts_from depth (group_world g w) y ≡ hosts_from depth w y) →
          (x ∷ flat_map (hosts_from depth (group_world g w)) (option_to_list o)) ≡ x ∷ flat_map (hosts_from depth w) (option_to_list o)
      from None e deeper = refl
      from (Some host) e deeper = ap (λ ys. x ∷ (ys ++ [])) (deeper host (host-inside g closed w ground x.owner host (above-host w x host e).0 h))

  -- the chain
  chain-in : (x : NodeName) → In x → host_chain (group_world g w) x ≡ host_chain w x
  chain-in x h = hosts-in (owner_depth x.owner) x h

  -- so it is with shadow-including ancestors
  pub including-inside : (x : NodeName) → In x → AllByRecursion In (shadow_including_ancestors w x)
  including-inside x h =
      all-flat_map In (ancestors_at w) (host_chain w x)
      (all-then In (λ y. AllByRecursion In (ancestors_at w y)) ancestors-inside (host_chain w x) (chain-inside x h))

  -- the shadow-including ancestors are the same in the group's own world
  pub including-in : (x : NodeName) → In x → shadow_including_ancestors (group_world g w) x ≡ shadow_including_ancestors w x
  including-in x h =
      ap (flat_map (ancestors_at (group_world g w))) (chain-in x h)
      ∙ flat_map_same (ancestors_at (group_world g w)) (ancestors_at w) (host_chain w x)
      (all-then In (λ y. ancestors_at (group_world g w) y ≡ ancestors_at w y) ancestors-in (host_chain w x) (chain-inside x h))

  -- What is hidden from a node of the group, of nodes of the group, is the same;
  pub hidden-in : (x y : NodeName) → In x → In y → is_hidden_from (group_world g w) x y ≡ is_hidden_from w x y
  hidden-in x y h k =
      ap (λ o. is_some o && not (is_in name_eq (root_at (group_world g w) y) (shadow_including_ancestors (group_world g w) x)))
      (host_above-in g closed w ground y k)
      ∙ ap (λ (p : Part). is_in_shadow_tree w y && not (is_in name_eq (root_of p.trees y) (shadow_including_ancestors (group_world g w) x)))
      (part-in g w y.owner k)
      ∙ ap (λ xs. is_in_shadow_tree w y && not (is_in name_eq (root_at w y) xs)) (including-in x h)

  -- a node outside is not among nodes of the group
  pub not_among : (r : NodeName) (xs : List NodeName) → Out r → AllByRecursion In xs → is_in name_eq r xs ≡ false
  not_among r [] h a = refl
  not_among r (x ∷ xs) h a =
      ap (λ b. b || is_in name_eq r xs)
      (by_cases (name_eq r x) (λ e. absurd (true≢false (sym a.0 ∙ ap (in_node g) (sym (name_eq-true r x e)) ∙ h))) (λ e. e))
      ∙ not_among r xs h a.1

  -- and all other nodes of shadow trees are hidden
  pub hidden-outside : (c : Owner) (x y : NodeName) → In x → Out y → IsInTree w c y → is_hidden_from w x y ≡ true
  hidden-outside c x y h k t =
      ap (λ b. b && not (is_in name_eq (root_at w y) (shadow_including_ancestors w x))) (in_tree w c y t)
      ∙ ap not (not_among (root_at w y) (shadow_including_ancestors w x) (ap (λ (r : NodeName). g r.owner) t.root ∙ ap g (sym t.owner)
      ∙ k) (including-inside x h))

  -- What is seen in place of a node of the group is of the group,
  pub retarget-inside : (a b : NodeName) → In a → In (retarget w a b)
  retarget-inside a b h = found-all In (λ x. not (is_hidden_from w b x)) (host_chain w a) a (chain-inside a h) h

  -- and it is the same in the group's own world
  pub retarget-in : (a b : NodeName) → In a → In b → retarget (group_world g w) a b ≡ retarget w a b
  retarget-in a b h k =
      ap (λ xs. unwrap_or (find (λ x. not (is_hidden_from (group_world g w) b x)) xs) a) (chain-in a h)
      ∙ ap (λ o. unwrap_or o a)
      (find_same (λ x. not (is_hidden_from (group_world g w) b x)) (λ x. not (is_hidden_from w b x)) (host_chain w a)
      (all-then In (λ x. not (is_hidden_from (group_world g w) b x) ≡ not (is_hidden_from w b x)) (λ x e. ap not (hidden-in b x k e)) (host_chain w a)
      (chain-inside a h)))

  -- of a related node
  abbrev pub AreIn : Option NodeName → Type 0
  AreIn r = AllByRecursion In (option_to_list r)

  -- a related node is retargeted alike in the group's own world
  pub related-in : (r : Option NodeName) (b : NodeName) → AreIn r → In b → retarget_related (group_world g w) r b ≡ retarget_related w r b
  related-in None b h k = refl
  related-in (Some a) b h k = ap Some (retarget-in a b h.0 k)

  -- Ways through slots: of a node outside they are outside,
  slots-outside : (depth : ℕ) (x : NodeName) → Out x → AllByRecursion Out (with_slots depth w x)
  slots-outside zero x h = (h, tt)
  slots-outside (suc depth) x h = (h, from (slot_of w x) refl (slots-outside depth))
    where
      from : (o : Option NodeName) → slot_of w x ≡ o → ((y : NodeName) → Out y → AllByRecursion Out (with_slots depth w y)) →
          AllByRecursion Out (flat_map (with_slots depth w) (flat_map (ancestors_at w) (option_to_list o)))
      from None e deeper = tt
      from (Some s) e deeper =
          let up = all-append Out (ancestors_at w s) [] (ancestors-outside s (slot-outside g closed w ground x s e h)) tt in
          all-flat_map Out (with_slots depth w) (ancestors_at w s ++ [])
          (all-then Out (λ y. AllByRecursion Out (with_slots depth w y)) deeper (ancestors_at w s ++ []) up)

  -- and of a node of the group they are, in the group, the same
  slots-in : (depth : ℕ) (x : NodeName) → In x → filter (in_node g) (with_slots depth w x) ≡ with_slots depth (group_world g w) x
  slots-in zero x h = filter-here (in_node g) x [] h
  slots-in (suc depth) x h =
      filter-here (in_node g) x (flat_map (with_slots depth w) (flat_map (ancestors_at w) (option_to_list (slot_of w x)))) h
      ∙ ap (λ ys. x ∷ ys) (from (slot_of w x) refl (slots-in depth)
      ∙ sym (ap (λ ss. flat_map (with_slots depth (group_world g w)) (flat_map (ancestors_at (group_world g w)) ss)) (slot-group g closed w ground x)))
    where
      v : World
      v = group_world g w

      from : (o : Option NodeName) → slot_of w x ≡ o →
          ((y : NodeName) → In y → filter (in_node g) (with_slots depth w y) ≡ with_slots depth v y) →
          filter (in_node g) (flat_map (with_slots depth w) (flat_map (ancestors_at w) (option_to_list o)))
          ≡ flat_map (with_slots depth v) (flat_map (ancestors_at v) (filter (in_node g) (option_to_list o)))
      from None e deeper = refl
      from (Some s) e deeper =
          by_cases (in_node g s)
          (λ t. filter-flat_map (in_node g) (with_slots depth w) (with_slots depth v) (ancestors_at w s ++ [])
          (all-then In (λ y. filter (in_node g) (with_slots depth w y) ≡ with_slots depth v y) deeper (ancestors_at w s ++ [])
          (all-append In (ancestors_at w s) [] (ancestors-inside s t) tt))
          ∙ ap (λ ys. flat_map (with_slots depth v) (ys ++ [])) (sym (ancestors-in s t))
          ∙ sym (ap (λ ss. flat_map (with_slots depth v) (flat_map (ancestors_at v) ss)) (filter-here (in_node g) s [] t)))
          (λ t. filter_none (in_node g) (flat_map (with_slots depth w) (ancestors_at w s ++ []))
          (all-flat_map Out (with_slots depth w) (ancestors_at w s ++ [])
          (all-then Out (λ y. AllByRecursion Out (with_slots depth w y)) (slots-outside depth) (ancestors_at w s ++ [])
          (all-append Out (ancestors_at w s) [] (ancestors-outside s t) tt)))
          ∙ sym (ap (λ ss. flat_map (with_slots depth v) (flat_map (ancestors_at v) ss)) (filter-away (in_node g) s [] t)))

  -- the way up from a node outside
  pub way-outside : (x : NodeName) → Out x → AllByRecursion Out (way_up w x)
  way-outside x h =
      all-flat_map Out (with_slots max_depth w) (ancestors_at w x)
      (all-then Out (λ y. AllByRecursion Out (with_slots max_depth w y)) (slots-outside max_depth) (ancestors_at w x) (ancestors-outside x h))

  -- and from one of the group
  pub way-in : (x : NodeName) → In x → filter (in_node g) (way_up w x) ≡ way_up (group_world g w) x
  way-in x h =
      filter-flat_map (in_node g) (with_slots max_depth w) (with_slots max_depth (group_world g w)) (ancestors_at w x)
      (all-then In (λ y. filter (in_node g) (with_slots max_depth w y) ≡ with_slots max_depth (group_world g w) y) (slots-in max_depth) (ancestors_at w x)
      (ancestors-inside x h))
      ∙ ap (flat_map (with_slots max_depth (group_world g w))) (sym (ancestors-in x h))

  -- where an event of a node of the group begins its ways up
  abbrev pub begins : World → NodeName → Bool → List NodeName
  begins u x composed = if composed then host_chain u x else x ∷ []

  -- are nodes of the group
  pub begins-inside : (x : NodeName) (composed : Bool) → In x → AllByRecursion In (begins w x composed)
  begins-inside x composed h = either_way (AllByRecursion In) composed (host_chain w x) (x ∷ []) (chain-inside x h) (h, tt)

  -- The whole path
  pub whole-in : (x : NodeName) (composed : Bool) → In x → filter (in_node g) (whole_path w x composed) ≡ whole_path (group_world g w) x composed
  whole-in x composed h =
      filter-flat_map (in_node g) (way_up w) (way_up (group_world g w)) (begins w x composed)
      (all-then In (λ y. filter (in_node g) (way_up w y) ≡ way_up (group_world g w) y) way-in (begins w x composed) (begins-inside x composed h))
      ∙ ap (λ xs. flat_map (way_up (group_world g w)) (if composed then xs else x ∷ [])) (sym (chain-in x h))

module _ (g : Owner → Bool) (closed : KeepsMakers g) (w : World) (i : IsWorld w) where
  -- what the laws on ways ask of a world
  abbrev pub ground : IsGround w
  ground = ground-of w i

  -- of the group, and outside of it
  abbrev pub Inside : NodeName → Type 0
  Inside x = in_node g x ≡ true

  -- outside
  abbrev pub Outside : NodeName → Type 0
  Outside x = in_node g x ≡ false

  -- a related node of the group, or none
  abbrev pub IsNear : Option NodeName → Type 0
  IsNear r = AreIn g closed w ground r

  -- A path ends at no node outside,
  ends-outside : (x : NodeName) (r : Option NodeName) → Inside x → (y : NodeName) → Outside y → ends_at w x r y ≡ false
  ends-outside x r h y k =
      let other : name_eq y (retarget w x y) ≡ false = by_cases (name_eq y (retarget w x y))
      (λ e. absurd (true≢false (sym (retarget-inside g closed w ground x y h) ∙ ap (in_node g) (sym (name_eq-true y (retarget w x y) e)) ∙ k))) (λ e. e) in
      ap (λ b. not (name_eq y x) && (b && is_node y (retarget_related w r y))) other ∙ and-false (not (name_eq y x))

  -- and at the same nodes of the group
  ends-in : (x : NodeName) (r : Option NodeName) → Inside x → IsNear r → (y : NodeName) → Inside y → ends_at (group_world g w) x r y ≡ ends_at w x r y
  ends-in x r h k y j =
      ap (λ t. not (name_eq y x) && (name_eq y t && is_node y (retarget_related (group_world g w) r y))) (retarget-in g closed w ground x y h j)
      ∙ ap (λ q. not (name_eq y x) && (name_eq y (retarget w x y) && is_node y q)) (related-in g closed w ground r y k j)

  -- The path, in the group.
  pub event_path-in : (x : NodeName) (r : Option NodeName) (composed : Bool) → Inside x → IsNear r →
      filter (in_node g) (event_path w x r composed) ≡ event_path (group_world g w) x r composed
  event_path-in x r composed h k =
      let v = group_world g w in
      let cut : World → List NodeName → List NodeName = λ u xs. take_while (λ y. not (ends_at u x r y)) xs in
      let test : Option NodeName → Bool = λ q. is_node x q && not (is_node x r) in
      unless (test (retarget_related w r x)) (cut w (whole_path w x composed)) (cut v (whole_path v x composed))
      (take_while-filter (in_node g) (λ y. not (ends_at w x r y)) (λ y. not (ends_at v x r y)) (λ y j. ap not (ends-in x r h k y j))
      (λ y j. ap not (ends-outside x r h y j)) (whole_path w x composed)
      ∙ ap (cut v) (whole-in g closed w ground x composed h))
      ∙ ap (λ q. if test q then [] else cut v (whole_path v x composed)) (sym (related-in g closed w ground r x k h))
    where
      unless : (b : Bool) (xs ys : List NodeName) → filter (in_node g) xs ≡ ys → filter (in_node g) (if b then [] else xs) ≡ (if b then [] else ys)
      unless true xs ys e = refl
      unless false xs ys e = e

  -- All nodes outside that are on it are in shadow trees.
  abbrev pub IsVeiled : NodeName → Type 0
  IsVeiled y = Outside y → IsInSome w y

  -- on the way up from a node of the group
  pub way-veiled : (x : NodeName) → Inside x → AllByRecursion IsVeiled (way_up w x)
  way-veiled x h =
      all-flat_map IsVeiled (with_slots max_depth w) (ancestors_at w x)
      (all-then Inside (λ y. AllByRecursion IsVeiled (with_slots max_depth w y))
      (λ y k. subst (AllByRecursion IsVeiled) (sym (slots-behind max_depth w y))
      ((λ o. absurd (true≢false (sym k ∙ o))), all-then (IsInSome w) IsVeiled (λ z s o. s) (slot_way max_depth w y) (slot_way-in_some max_depth w i y)))
      (ancestors_at w x) (ancestors-inside g closed w ground x h))

  -- on the path
  path-veiled : (x : NodeName) (r : Option NodeName) (composed : Bool) → Inside x → AllByRecursion IsVeiled (event_path w x r composed)
  path-veiled x r composed h =
      let whole = all-flat_map IsVeiled (way_up w) (begins g closed w ground w x composed)
      (all-then Inside (λ y. AllByRecursion IsVeiled (way_up w y)) way-veiled (begins g closed w ground w x composed)
      (begins-inside g closed w ground x composed h)) in
      either_way (AllByRecursion IsVeiled) (is_node x (retarget_related w r x) && not (is_node x r)) []
      (take_while (λ y. not (ends_at w x r y)) (whole_path w x composed)) tt
      (all-take_while IsVeiled (λ y. not (ends_at w x r y)) (whole_path w x composed) whole)

  -- so they are hidden from the group's nodes
  pub veiled-hidden : (x : NodeName) → Inside x → (y : NodeName) → IsVeiled y → Outside y → not (is_hidden_from w x y) ≡ false
  veiled-hidden x h y s o = let t = s o in ap not (hidden-outside g closed w ground t.0 x y h o t.1)

  -- What is shown of an event of a target of the group.
  module _ (x : NodeName) (r : Option NodeName) (h : Inside x) (k : IsNear r) where
    -- at a node of the group
    view-in : (y : NodeName) (path : List NodeName) → Inside y → AllByRecursion IsVeiled path →
        view_at w x r path y ≡ view_at (group_world g w) x r (filter (in_node g) path) y
    view-in y path j s =
        let v = group_world g w in
        let shown : NodeName → Option NodeName → List NodeName → View NodeName =
        λ t q p. record { node = y; target = t; related = q; path = p } in
        let near = filter (λ z. not (is_hidden_from w y z)) path in
        ap (λ t. shown t (retarget_related w r y) near) (sym (retarget-in g closed w ground x y h j))
        ∙ ap (λ q. shown (retarget v x y) q near) (sym (related-in g closed w ground r y k j))
        ∙ ap (shown (retarget v x y) (retarget_related v r y))
        (filter-within (in_node g) (λ z. not (is_hidden_from w y z)) (λ z. not (is_hidden_from v y z)) (λ z e. ap not (sym
        (hidden-in g closed w ground y z j e))) path
        (all-then IsVeiled (λ z. Outside z → not (is_hidden_from w y z) ≡ false) (λ z t. veiled-hidden y j z t) path s))

    -- at all of them
    pub views-in : (composed : Bool) →
        filter (in_view g) (views w x r composed) ≡ views (group_world g w) x r composed
    views-in composed =
        let v = group_world g w in
        let path = event_path w x r composed in
        let mine = filter (in_node g) path in
        filter-map (in_view g) (view_at w x r path) path
        ∙ map_same (view_at w x r path) (view_at v x r mine) mine
        (all-then Inside (λ y. view_at w x r path y ≡ view_at v x r mine y) (λ y j. view-in y path j (path-veiled x r composed h)) mine
        (all-passed Inside (in_node g) (λ y j. j) path))
        ∙ ap (λ p. map (view_at v x r p) p) (event_path-in x r composed h k)
