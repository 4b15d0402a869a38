-- The path of an event of a page node: its inclusive ancestors, and between them nodes of shadow trees, which are hidden: of the nodes of a world as
-- the machine reaches it just those of shadow trees are hidden from a page node.
use Rattle.dom_base.proofs.Std.{◌≡◌, ℕ, zero, suc, Bool, true, false, not, ◌&&◌, List, [], ◌∷◌, ◌++◌, filter, flat_map, take_while, Option, Some, None, map}
use Rattle.dom_base.proofs.Std.{refl, sym, ap, ◌∙◌, subst, append-nil, find, unwrap_or, if◌then◌else◌, option_to_list, AllByRecursion, filter-append, cond-true}
use Rattle.dom_base.proofs.Std.{cond-false, and-not_self}
use Rattle.dom_model.proofs.Model.{Owner, Page, NodeName, name_eq, max_depth, owner_depth, is_in, World, part_of, ancestors_at, host_chain, root_at, hosts_from}
use Rattle.dom_model.proofs.Model.{shadow_including_ancestors, slot_of, is_hidden_from, retarget, retarget_related, is_node, with_slots, way_up, whole_path}
use Rattle.dom_model.proofs.Model.{ends_at, event_path, view_at, views, plain_view, plain_views, is_page, ne-owner_eq}
use Rattle.dom_worlds.specs.Definitions.{IsWorld, IsOf, IsForeignTo}
use Rattle.dom_worlds.proofs.ListLemmas.{all-append, all-from, all-then, all-flat_map, filter-map, filter_none, filter_same, map_same, take_while_all}
use Rattle.dom_worlds.proofs.ShadowTreeLemmas.{IsInTree, slot-in_tree, ancestors-in_tree, ancestors-owned, slot_way, slots-behind, slots-first, in_tree, not_in}
use Rattle.dom_worlds.proofs.TurnLemmas.{page_in_no_tree}
use Rattle.dom_isolation.proofs.OwnVisits.{in_view}

-- Page nodes.
pub host_chain-page : (w : World) (x : NodeName) → x.owner ≡ Page → host_chain w x ≡ x ∷ []
host_chain-page w x h = ap (λ o. hosts_from (owner_depth o) w x) h

-- its shadow-including ancestors are its ancestors
pub shadow_including-page : (w : World) (x : NodeName) → x.owner ≡ Page → shadow_including_ancestors w x ≡ ancestors_at w x
shadow_including-page w x h = ap (flat_map (ancestors_at w)) (host_chain-page w x h) ∙ append-nil (ancestors_at w x)

-- from a page node no page node is hidden, and a node of a shadow tree is
pub page-not_hidden : (w : World) (x y : NodeName) → y.owner ≡ Page → is_hidden_from w x y ≡ false
page-not_hidden w x y h = ap (λ b. b && not (is_in name_eq (root_at w y) (shadow_including_ancestors w x))) (page_in_no_tree w y h)

-- a node of a shadow tree is hidden from a page node
pub in_tree-hidden : {w : World} → IsWorld w → {c : Owner} (x : NodeName) {y : NodeName} → x.owner ≡ Page → IsInTree w c y → is_hidden_from w x y ≡ true
in_tree-hidden {w} i {c} x {y} h t =
    ap (λ b. b && not (is_in name_eq (root_at w y) (shadow_including_ancestors w x))) (in_tree w c y t)
    ∙ ap (λ xs. not (is_in name_eq (root_at w y) xs)) (shadow_including-page w x h)
    ∙ ap not (not_in (root_at w y) (ancestors_at w x) Page (λ e. t.foreign (sym (ap (λ (r : NodeName). r.owner) t.root) ∙ e))
    (subst (λ o. AllByRecursion (IsOf o) (ancestors_at w x)) h (ancestors-owned w i x)))

-- Retargeting a page node gives the node.
pub retarget-page : (w : World) (a b : NodeName) → a.owner ≡ Page → retarget w a b ≡ a
retarget-page w a b h =
    ap (λ xs. unwrap_or (find (λ x. not (is_hidden_from w b x)) xs) a) (host_chain-page w a h)
    ∙ ap (λ t. unwrap_or (if not t then Some a else None) a) (page-not_hidden w b a h)

-- and so a related node
pub retarget_related-page : (w : World) (related : Option NodeName) (b : NodeName) → AllByRecursion (IsOf Page) (option_to_list related) →
    retarget_related w related b ≡ related
retarget_related-page w None b h = refl
retarget_related-page w (Some a) b h = ap Some (retarget-page w a b h.0)

-- whether a node is the page's
abbrev pub is_page_node : NodeName → Bool
is_page_node x = is_page x.owner

-- a node of which page nodes see just whether it is the page's
abbrev pub IsSeen : World → NodeName → Type 0
IsSeen w y = (x : NodeName) → x.owner ≡ Page → not (is_hidden_from w x y) ≡ is_page_node y

-- a page node is seen
pub seen-page : (w : World) (y : NodeName) → y.owner ≡ Page → IsSeen w y
seen-page w y h x e = ap not (page-not_hidden w x y h) ∙ sym (ap is_page h)

-- the node is in some component's shadow tree
abbrev pub IsInSome : World → NodeName → Type 0
IsInSome w y = (c : Owner) × IsInTree w c y

-- such a node is no page node
pub in_some-foreign : (w : World) (y : NodeName) → IsInSome w y → IsForeignTo Page y
in_some-foreign w y t e = t.1.foreign (sym t.1.owner ∙ e)

-- and it is not seen
pub seen-in_some : (w : World) → IsWorld w → (y : NodeName) → IsInSome w y → IsSeen w y
seen-in_some w i y t x e = ap not (in_tree-hidden i x e t.1) ∙ sym (ne-owner_eq y.owner Page (in_some-foreign w y t))

-- the way through slots is in shadow trees
pub slot_way-in_some : (depth : ℕ) (w : World) → IsWorld w → (x : NodeName) → AllByRecursion (IsInSome w) (slot_way depth w x)
slot_way-in_some zero w i x = tt
slot_way-in_some (suc depth) w i x = by_slot (slot_of w x) refl (slot_way-in_some depth w i)
  where
    by_slot : (o : Option NodeName) → slot_of w x ≡ o → ((y : NodeName) → AllByRecursion (IsInSome w) (slot_way depth w y)) →
        AllByRecursion (IsInSome w) (slot_way (suc depth) w x)
    by_slot None e deeper = subst (λ o. AllByRecursion (IsInSome w) (flat_map (with_slots depth w) (flat_map (ancestors_at w) (option_to_list o)))) (sym e) tt
    by_slot (Some s) e deeper =
        let at = slot-in_tree w i x s e in
        let up = all-then (IsInTree w at.0) (IsInSome w) (λ y t. (at.0, t)) (ancestors_at w s) (ancestors-in_tree w i at.0 s at.1) in
        let all = all-append (IsInSome w) (ancestors_at w s) [] up tt in
        subst (λ o. AllByRecursion (IsInSome w) (flat_map (with_slots depth w) (flat_map (ancestors_at w) (option_to_list o)))) (sym e)
        (all-flat_map (IsInSome w) (with_slots depth w) (ancestors_at w s ++ [])
        (all-then (IsInSome w) (λ y. AllByRecursion (IsInSome w) (with_slots depth w y))
        (λ y t. subst (AllByRecursion (IsInSome w)) (sym (slots-behind depth w y)) (t, deeper y)) (ancestors_at w s ++ []) all))

-- The nodes of a way up from a page node, of which those of the page are the ancestors.
pub way-seen : (w : World) → IsWorld w → (depth : ℕ) (xs : List NodeName) → AllByRecursion (IsOf Page) xs →
    AllByRecursion (IsSeen w) (flat_map (with_slots depth w) xs)
way-seen w i depth [] h = tt
way-seen w i depth (x ∷ xs) h =
    subst (AllByRecursion (IsSeen w)) (sym (slots-first depth w x xs)) (
      seen-page w x h.0,
      all-append (IsSeen w) (slot_way depth w x) (flat_map (with_slots depth w) xs)
          (all-then (IsInSome w) (IsSeen w) (seen-in_some w i) (slot_way depth w x) (slot_way-in_some depth w i x)) (way-seen w i depth xs h.1),
    )

-- so it has no page node
slot_way-no_page : (w : World) → IsWorld w → (depth : ℕ) (x : NodeName) → filter is_page_node (slot_way depth w x) ≡ []
slot_way-no_page w i depth x =
    filter_none is_page_node (slot_way depth w x)
    (all-then (IsInSome w) (λ y. is_page_node y ≡ false) (λ y t. ne-owner_eq y.owner Page (in_some-foreign w y t)) (slot_way depth w x)
    (slot_way-in_some depth w i x))

-- the page nodes of a way up are the ancestors
pub way-pages : (w : World) → IsWorld w → (depth : ℕ) (xs : List NodeName) → AllByRecursion (IsOf Page) xs →
    filter is_page_node (flat_map (with_slots depth w) xs) ≡ xs
way-pages w i depth [] h = refl
way-pages w i depth (x ∷ xs) h =
    let others = slot_way depth w x ++ flat_map (with_slots depth w) xs in
    ap (filter is_page_node) (slots-first depth w x xs)
    ∙ cond-true (is_page_node x) (x ∷ filter is_page_node others) (filter is_page_node others) (ap is_page h.0)
    ∙ ap (λ ys. x ∷ ys)
    (filter-append is_page_node (slot_way depth w x) (flat_map (with_slots depth w) xs)
    ∙ ap (λ ys. ys ++ filter is_page_node (flat_map (with_slots depth w) xs)) (slot_way-no_page w i depth x)
    ∙ way-pages w i depth xs h.1)

-- a path that is not cut
pub uncut : (w : World) (target : NodeName) (related : Option NodeName) (xs : List NodeName) →
    AllByRecursion (λ y. ends_at w target related y ≡ false) xs → take_while (λ y. not (ends_at w target related y)) xs ≡ xs
uncut w target related xs h = take_while_all (λ y. not (ends_at w target related y)) xs
    (all-then (λ y. ends_at w target related y ≡ false) (λ y. not (ends_at w target related y) ≡ true) (λ y e. ap not e) xs h)

-- a node other than the target is not the target
no_other : (b c : Bool) → (not b && (b && c)) ≡ false
no_other true c = refl
no_other false c = refl

-- no path of a page target ends early
ends-page : (w : World) (target : NodeName) (related : Option NodeName) → target.owner ≡ Page → (y : NodeName) → ends_at w target related y ≡ false
ends-page w target related h y =
    ap (λ t. not (name_eq y target) && (name_eq y t && is_node y (retarget_related w related y))) (retarget-page w target y h) ∙
    no_other (name_eq y target) (is_node y (retarget_related w related y))

-- the path of an event of a page target
pub event_path-page : (w : World) (target : NodeName) (related : Option NodeName) (composed : Bool) → target.owner ≡ Page →
    AllByRecursion (IsOf Page) (option_to_list related) → event_path w target related composed ≡ way_up w target
event_path-page w target related composed h g =
    let whole : whole_path w target composed ≡ way_up w target = ap (flat_map (way_up w)) (chain composed) ∙ append-nil (way_up w target) in
    let cut = λ (xs : List NodeName). take_while (λ y. not (ends_at w target related y)) xs in
    ap (λ r. if is_node target r && not (is_node target related) then [] else cut (whole_path w target composed)) (retarget_related-page w related target g)
    ∙ cond-false (is_node target related && not (is_node target related)) [] (cut (whole_path w target composed)) (and-not_self (is_node target related))
    ∙ ap cut whole ∙ uncut w target related (way_up w target)
    (all-from (λ y. ends_at w target related y ≡ false) (ends-page w target related h) (way_up w target))
  where
    chain : (c : Bool) → (if c then host_chain w target else target ∷ []) ≡ target ∷ []
    chain true = host_chain-page w target h
    chain false = refl

-- How a node sees an event: the target as another node, the related node as it is, and some nodes of the path.
pub record IsSeenAs (w : World) (target : NodeName) (related : Option NodeName) (path : List NodeName) (x near : NodeName) (pages : List NodeName)
    : Type 0 where
  pub target_seen : retarget w target x ≡ near
  pub related_seen : retarget_related w related x ≡ related
  pub path_seen : filter (λ y. not (is_hidden_from w x y)) path ≡ pages

-- The views at page nodes are those of the page alone.
pub view_at-page : {near : NodeName} {related : Option NodeName} {pages : List NodeName} (w : World) (target : NodeName) (path : List NodeName) (x : NodeName) →
    IsSeenAs w target related path x near pages →
    view_at w target related path x ≡ plain_view near related pages x
view_at-page {near} {related} w target path x seen =
    ap (λ t. record { node = x; target = t; related = retarget_related w related x; path = filter (λ y. not (is_hidden_from w x y)) path }) seen.target_seen
    ∙ ap (λ r. record { node = x; target = near; related = r; path = filter (λ y. not (is_hidden_from w x y)) path }) seen.related_seen
    ∙ ap (λ p. record { node = x; target = near; related = related; path = p }) seen.path_seen

-- the views at its page nodes are the page machine's
pub views-page : {w : World} → IsWorld w → (target : NodeName) (related : Option NodeName) (composed : Bool) → target.owner ≡ Page →
    AllByRecursion (IsOf Page) (option_to_list related) →
    filter (in_view is_page) (views w target related composed) ≡ plain_views (part_of w Page).trees target related
views-page {w} i target related composed h g =
    let way = way_up w target in
    let up = ancestors_at w target in
    let owned = subst (λ o. AllByRecursion (IsOf o) up) h (ancestors-owned w i target) in
    let pages = way-pages w i max_depth up owned in
    let path_is = event_path-page w target related composed h g in
    let at : (x : NodeName) → x.owner ≡ Page → view_at w target related way x ≡ plain_view target related up x =
    λ x e. view_at-page w target way x (record {
      target_seen = retarget-page w target x h;
      related_seen = retarget_related-page w related x g;
      path_seen = filter_same (λ y. not (is_hidden_from w x y)) is_page_node way
          (all-then (IsSeen w) (λ y. not (is_hidden_from w x y) ≡ is_page_node y) (λ y s. s x e) way (way-seen w i max_depth up owned)) ∙ pages;
    }) in
    ap (λ path. filter (in_view is_page) (map (view_at w target related path) path)) path_is
    ∙ filter-map (in_view is_page) (view_at w target related way) way ∙ ap (map (view_at w target related way)) pages
    ∙ map_same (view_at w target related way) (plain_view target related up) up
    (all-then (IsOf Page) (λ x. view_at w target related way x ≡ plain_view target related up x) at up owned)
    ∙ ap (λ o. plain_views (part_of w o).trees target related) h
