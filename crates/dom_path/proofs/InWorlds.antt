-- The path of an event in trees with hosts is its path in each world that has just these.
use Rattle.dom_path.proofs.Cited.{◌≡◌, Bool, true, false, not, ◌&&◌, List, [], ◌∷◌, map, filter, take_while, Option, Some, None, refl, sym, ap, subst, ◌∙◌}
use Rattle.dom_path.proofs.Cited.{if◌then◌else◌, option_and_then, option_map_or, cond-true, cond-false, take_while-cons, NodeName, name_eq, first_of, max_depth}
use Rattle.dom_path.proofs.Cited.{View, is_node, retarget, retarget_related, event_parent, event_path, whole_path, views, view_at, FollowsParents}
use Rattle.dom_path.proofs.Cited.{is_assigned_to, has_node, World, name_eq-same, path-follows_parents, by_cases, NamedTrees, ShadowHost, ShadowTrees, shadows}
use Rattle.dom_path.proofs.Cited.{is_assigned_at, IsWorldOf, PathItem, path_item, items_along, path_items, item_at, items_at, view_of, GoesUp, IsPath}
use Rattle.dom_path.proofs.Cited.{IsPathShown, unless_ended, ends_at, next_at}
use Rattle.dom_path.proofs.Sightings.{kind-is, there-is, hidden-is, seen-is, related-is, ends_at-is, empty-is, entered-is, up-is}

module _ (f : NamedTrees) (hosts : List ShadowHost) (w : World) (is : IsWorldOf f hosts w) (t : NodeName) (r : Option NodeName) (composed : Bool) where
  abbrev s : ShadowTrees
  s = shadows f hosts

  -- the path ends before a node
  abbrev ends : NodeName → Bool
  ends y = Rattle.dom_model.specs.Paths.ends_at w t r y

  -- the node behind x, where it has this event parent
  next-is : (x : NodeName) (up : Option NodeName) → event_parent w composed t x ≡ up →
      next_at s max_depth t r composed x ≡ option_and_then (unless_ended s max_depth t r) up
  next-is x up e = ap (option_and_then (unless_ended s max_depth t r)) (sym (up-is f hosts w is composed t x) ∙ e)

  -- the nodes behind x are those of the path behind x
  track : (x : NodeName) (tail : List NodeName) (rest : List NodeName) → FollowsParents w composed t (x ∷ tail) → GoesUp s max_depth t r composed x rest
      → take_while (λ y. not (ends y)) tail ≡ rest
  track x [] [] h g = refl
  track x [] (z ∷ rest) h g = let none : next_at s max_depth t r composed x ≡ None = next-is x None h in let some = g.0 in cc
  track x (y ∷ tail) rest h g = by_cases (ends_at s max_depth t r y)
      (λ e. stops rest g (next-is x (Some y) h.0 ∙ ap (λ (b : Bool). if b then None else Some y) e) (ends_at-is f hosts w is t r y ∙ e))
      (λ e. goes (λ others k. track y tail others h.1 k) rest g (next-is x (Some y) h.0 ∙ ap (λ (b : Bool). if b then None else Some y) e)
      (ends_at-is f hosts w is t r y ∙ e))
    where
      stops : (rest : List NodeName) → GoesUp s max_depth t r composed x rest → next_at s max_depth t r composed x ≡ None → ends y ≡ true
          → take_while (λ z. not (ends z)) (y ∷ tail) ≡ rest
      stops [] g none e = take_while-cons (λ z. not (ends z)) y tail ∙ cond-false (not (ends y)) (y ∷ take_while (λ z. not (ends z)) tail) [] (ap not e)
      stops (z ∷ rest) g none e = let some = g.0 in cc

      goes : ((others : List NodeName) → GoesUp s max_depth t r composed y others → take_while (λ z. not (ends z)) tail ≡ others)
          → (rest : List NodeName) → GoesUp s max_depth t r composed x rest → next_at s max_depth t r composed x ≡ Some y → ends y ≡ false
          → take_while (λ z. not (ends z)) (y ∷ tail) ≡ rest
      goes again [] g some e = let none : next_at s max_depth t r composed x ≡ None = g in cc
      goes again (z ∷ rest) g some e =
          let both : Some y ≡ Some z = sym some ∙ g.0 in
          let same : y ≡ z = cc in
          take_while-cons (λ z. not (ends z)) y tail ∙ cond-true (not (ends y)) (y ∷ take_while (λ z. not (ends z)) tail) [] (ap not e)
          ∙ (λ j. same j ∷ again rest (subst (λ a. GoesUp s max_depth t r composed a rest) (sym same) g.1) j)

  -- so the nodes are those of the path
  nodes-are : has_node f.trees t ≡ true → (nodes : List NodeName) → IsPath s max_depth t r composed nodes → event_path w t r composed ≡ nodes
  nodes-are there [] g =
      cond-true (is_node t (retarget_related w r t) && not (is_node t r)) [] (take_while (λ y. not (ends y)) (whole_path w t composed))
      (empty-is f hosts w is t r ∙ g)
  nodes-are there (i ∷ rest) g =
      let law = path-follows_parents false w is.reached is.whole t composed (there-is f hosts w is t there) in
      cond-false (is_node t (retarget_related w r t) && not (is_node t r)) [] (take_while (λ y. not (ends y)) (whole_path w t composed))
      (empty-is f hosts w is t r ∙ g.0)
      ∙ from (whole_path w t composed) law.0 law.1
    where
      from : (whole : List NodeName) → first_of whole ≡ Some t → FollowsParents w composed t whole → take_while (λ y. not (ends y)) whole ≡ i ∷ rest
      from [] first h = cc
      from (x ∷ tail) first h =
          let same : x ≡ t = cc in
          let start : x ≡ i = same ∙ sym g.1 in
          let goes_on : ends x ≡ false =
          ap (λ b. not b && (name_eq x (retarget w t x) && is_node x (retarget_related w r x)))
          (ap (name_eq x) (sym same) ∙ name_eq-same x) in
          take_while-cons (λ y. not (ends y)) x tail ∙ cond-true (not (ends x)) (x ∷ take_while (λ y. not (ends y)) tail) [] (ap not goes_on)
          ∙ (λ j. start j ∷ track x tail rest h (subst (λ z. GoesUp s max_depth t r composed z rest) (sym start) g.2) j)

  -- an item
  flag-is : (before : Option NodeName) (x : NodeName) → option_map_or (is_assigned_to w x) before false ≡ option_map_or (is_assigned_at s x) before false
  flag-is None x = refl
  flag-is (Some y) x = entered-is f hosts w is x y

  item-is : (before : Option NodeName) (x : NodeName) → path_item w t r before x ≡ item_at s max_depth t r before x
  item-is before x = λ j. record {
    node = x;
    target = if name_eq x (seen-is f hosts w is t x j) then Some x else None;
    related = related-is f hosts w is r x j;
    root_of_closed = kind-is f hosts w is x j;
    slot_in_closed = flag-is before x j;
  }

  items-are : (before : Option NodeName) (xs : List NodeName) → items_along w t r before xs ≡ items_at s max_depth t r before xs
  items-are before [] = refl
  items-are before (x ∷ xs) = λ j. item-is before x j ∷ items-are (Some x) xs j

  -- what the event shows at a node
  view-is : (path : List NodeName) (x : NodeName) → view_at w t r path x ≡ view_of s max_depth t r path x
  view-is path x = λ j. record {
    node = x;
    target = seen-is f hosts w is t x j;
    related = related-is f hosts w is r x j;
    path = filter (λ y. not (hidden-is f hosts w is x y j)) path;
  }

  -- both along the path
  pub in-world : has_node f.trees t ≡ true → (items : List PathItem) (shown : List (View NodeName)) → IsPathShown s max_depth t r composed items shown
      → (items ≡ path_items w t r composed) × (shown ≡ views w t r composed)
  in-world there items shown p =
      let path = nodes-are there p.shown.nodes p.shown.path in (
        p.items_are ∙ sym (items-are None p.shown.nodes) ∙ ap (items_along w t r None) (sym path),
        p.shown.views_are ∙ sym (λ j. map (λ x. view-is p.shown.nodes x j) p.shown.nodes) ∙ ap (λ xs. map (view_at w t r xs) xs) (sym path),
      )
