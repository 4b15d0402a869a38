-- An owner's nodes, as cursors read them in the trees of all owners and in the owner's own.
use Rattle.dom_mutation.proofs.Cited.{◌≡◌, Bool, true, false, not, ◌&&◌, ◌||◌, List, [], ◌∷◌, ◌++◌, Option, Some, None, refl, sym, ap, ◌∙◌, filter, find, drop}
use Rattle.dom_mutation.proofs.Cited.{is_none, if◌then◌else◌, unwrap_or, option_map_or, list_any, list_all, none-some, NodeName, Owner, Verdict, Skip, Move}
use Rattle.dom_mutation.proofs.Cited.{Parent, First, Last, Next, Previous, NextSibling, PreviousSibling, name_eq, is_in, items_before, items_after, first_of}
use Rattle.dom_mutation.proofs.Cited.{last_of, Trees, parent_of, children_of, siblings, next_sibling, previous_sibling, inclusive_ancestors}
use Rattle.dom_mutation.proofs.Cited.{inclusive_descendants, ancestors, is_inclusive_ancestor, Iterator, moved_to, adjusted_iterator, answer_at, verdict_at}
use Rattle.dom_mutation.proofs.Cited.{is_shown, is_skip, is_reject, accepts, skips, rejects, between, Walker, walker_parent, walker_children, walker_nodes}
use Rattle.dom_mutation.proofs.Cited.{walker_siblings, sibling_top, walker_step, walker_move, nodes_ahead, nodes_passed, iterator_next_node}
use Rattle.dom_mutation.proofs.Cited.{iterator_previous_node, Filter, AreOwned, trees_of_owner, read_own, stays_own, In, is_in-from, after-in, Each, each_all}
use Rattle.dom_mutation.proofs.Cited.{behind_all}
use Rattle.dom_mutation.proofs.Own.{filter_same, each_in, each_before, each_append, each_drop, all_same, any_same, find_same, each_filter, each_first}
use Rattle.dom_mutation.proofs.Own.{each_last, each_find}

-- ---- an owner's nodes

module _ (ts : Trees) (owned : AreOwned ts) (o : Owner) where
  path_own : (x : NodeName) → x.owner ≡ o → inclusive_ancestors ts x ≡ inclusive_ancestors (trees_of_owner o ts) x
  path_own x own = (read_own ts owned o x own).path

  above_own : (a x : NodeName) → x.owner ≡ o → is_inclusive_ancestor ts a x ≡ is_inclusive_ancestor (trees_of_owner o ts) a x
  above_own a x own = ap (is_in name_eq a) (path_own x own)

  inside_own : (x : NodeName) → x.owner ≡ o → inclusive_descendants ts x ≡ inclusive_descendants (trees_of_owner o ts) x
  inside_own x own = (read_own ts owned o x own).inside

  accepts_own : (f : Filter) (x : NodeName) → x.owner ≡ o → accepts ts f x ≡ accepts (trees_of_owner o ts) f x
  accepts_own f x own = ap (λ n. is_none (if is_shown f.shown n.kind then verdict_at f.named n else Some Skip)) (read_own ts owned o x own).node

  -- who stands below an owner's node is the owner's
  owner_inside : (x y : NodeName) → x.owner ≡ o → In y (inclusive_descendants ts x) → y.owner ≡ o
  owner_inside x y own i = (stays_own ts owned o x own).inside y (is_in-from y (inclusive_descendants ts x) i)

  -- and who stands in the tree of one
  owner_below : (a x : NodeName) → a.owner ≡ o → is_inclusive_ancestor ts a x ≡ true → x.owner ≡ o
  owner_below a x own h = sym ((stays_own ts owned x.owner x refl).path a h) ∙ own

  -- ---- iterators

  pub adjusted_own : (x : NodeName) (i : Iterator) → x.owner ≡ o → i.root.owner ≡ o → is_inclusive_ancestor ts i.root i.reference ≡ true →
      adjusted_iterator ts x i ≡ adjusted_iterator (trees_of_owner o ts) x i
  adjusted_own x i own_x own_root within =
      let own_reference = owner_below i.root i.reference own_root within in
      let all = inclusive_descendants ts i.root in
      let behind : filter (λ y. not (is_inclusive_ancestor ts x y)) (items_after name_eq x all) ≡ filter
      (λ y. not (is_inclusive_ancestor (trees_of_owner o ts) x y)) (items_after name_eq x all) =
      filter_same _ _ (items_after name_eq x all)
      (each_in _ (items_after name_eq x all) (λ y j. ap not (above_own x y (owner_inside i.root y own_root (after-in x y all j))))) in
      ap (λ b. with_tests b (is_inclusive_ancestor ts x i.reference)
      (first_of (filter (λ y. not (is_inclusive_ancestor ts x y)) (items_after name_eq x all))) (last_of (items_before name_eq x all)))
      (above_own x i.root own_root)
      ∙ ap (λ b. with_tests (is_inclusive_ancestor (trees_of_owner o ts) x i.root) b
      (first_of (filter (λ y. not (is_inclusive_ancestor ts x y)) (items_after name_eq x all))) (last_of (items_before name_eq x all)))
      (above_own x i.reference own_reference)
      ∙ ap (λ ys. with_tests (is_inclusive_ancestor (trees_of_owner o ts) x i.root) (is_inclusive_ancestor (trees_of_owner o ts) x i.reference)
      (first_of ys) (last_of (items_before name_eq x all))) behind
      ∙ ap (λ ys. with_tests (is_inclusive_ancestor (trees_of_owner o ts) x i.root) (is_inclusive_ancestor (trees_of_owner o ts) x i.reference)
      (first_of (filter (λ y. not (is_inclusive_ancestor (trees_of_owner o ts) x y)) (items_after name_eq x ys)))
      (last_of (items_before name_eq x ys))) (inside_own i.root own_root)
    where
      with_tests : Bool → Bool → Option NodeName → Option NodeName → Iterator
      with_tests root reference behind front =
          if root || not reference then i else (if i.before then moved_to (moved_to i false front) true behind else moved_to i false front)

  next_filter : (f : Filter) (xs : List NodeName) → Each (λ y. y.owner ≡ o) xs → filter (accepts ts f) xs ≡ filter (accepts (trees_of_owner o ts) f) xs
  next_filter f xs h = filter_same (accepts ts f) (accepts (trees_of_owner o ts) f) xs
      (each_all (λ y. y.owner ≡ o) (λ y. accepts ts f y ≡ accepts (trees_of_owner o ts) f y) (λ y own. accepts_own f y own) xs h)

  -- what is ahead of an iterator of the owner's nodes, and what it has passed
  module _ (i : Iterator) (own_root : i.root.owner ≡ o) (own_reference : i.reference.owner ≡ o) where
    all_own : Each (λ y. y.owner ≡ o) (inclusive_descendants ts i.root)
    all_own = each_in (λ y. y.owner ≡ o) (inclusive_descendants ts i.root) (λ y j. owner_inside i.root y own_root j)

    ahead_own : Each (λ y. y.owner ≡ o) (nodes_ahead ts i)
    ahead_own = by i.before (behind_all (λ y. y.owner ≡ o) i.reference (inclusive_descendants ts i.root) all_own)
      where
        by : (b : Bool) → Each (λ y. y.owner ≡ o) (items_after name_eq i.reference (inclusive_descendants ts i.root))
            → Each (λ y. y.owner ≡ o) (if b then i.reference ∷ items_after name_eq i.reference (inclusive_descendants ts i.root) else items_after
            name_eq i.reference (inclusive_descendants ts i.root))
        by true h = (own_reference, h)
        by false h = h

    passed_own : Each (λ y. y.owner ≡ o) (nodes_passed ts i)
    passed_own = by i.before (each_before (λ y. y.owner ≡ o) i.reference (inclusive_descendants ts i.root) all_own)
      where
        by : (b : Bool) → Each (λ y. y.owner ≡ o) (items_before name_eq i.reference (inclusive_descendants ts i.root))
            → Each (λ y. y.owner ≡ o) (if b then items_before name_eq i.reference (inclusive_descendants ts i.root) else items_before name_eq
            i.reference (inclusive_descendants ts i.root) ++ i.reference ∷ [])
        by true h = h
        by false h = each_append (λ y. y.owner ≡ o) (items_before name_eq i.reference (inclusive_descendants ts i.root)) (i.reference ∷ []) h
            (own_reference, tt)

    pub next_own : iterator_next_node ts i ≡ iterator_next_node (trees_of_owner o ts) i
    next_own = ap first_of (next_filter i.filter (nodes_ahead ts i) ahead_own ∙
        ap (λ xs. filter (accepts (trees_of_owner o ts) i.filter) (ahead_in xs)) (inside_own i.root own_root))
      where
        ahead_in : List NodeName → List NodeName
        ahead_in all = if i.before then i.reference ∷ items_after name_eq i.reference all else items_after name_eq i.reference all

    pub previous_own : iterator_previous_node ts i ≡ iterator_previous_node (trees_of_owner o ts) i
    previous_own = ap last_of (next_filter i.filter (nodes_passed ts i) passed_own ∙
        ap (λ xs. filter (accepts (trees_of_owner o ts) i.filter) (passed_in xs)) (inside_own i.root own_root))
      where
        passed_in : List NodeName → List NodeName
        passed_in all = if i.before then items_before name_eq i.reference all else items_before name_eq i.reference all ++ i.reference ∷ []

  -- ---- walkers

  rule_own : {R : Type 0} (read : Option Verdict → R) (f : Filter) (x : NodeName) → x.owner ≡ o →
      read (answer_at ts f x) ≡ read (answer_at (trees_of_owner o ts) f x)
  rule_own read f x own = ap (λ n. read (if is_shown f.shown n.kind then verdict_at f.named n else Some Skip)) (read_own ts owned o x own).node

  ancestors_own : (x : NodeName) → x.owner ≡ o → ancestors ts x ≡ ancestors (trees_of_owner o ts) x
  ancestors_own x own = ap (drop 1) (path_own x own)

  owners_above : (x : NodeName) → x.owner ≡ o → Each (λ y. y.owner ≡ o) (ancestors ts x)
  owners_above x own =
      each_drop (λ y. y.owner ≡ o) (inclusive_ancestors ts x)
      (each_in (λ y. y.owner ≡ o) (inclusive_ancestors ts x) (λ y i. (stays_own ts owned o x own).path y (is_in-from y (inclusive_ancestors ts x) i)))

  owners_below : (x : NodeName) → x.owner ≡ o → Each (λ y. y.owner ≡ o) (inclusive_descendants ts x)
  owners_below x own = each_in (λ y. y.owner ≡ o) (inclusive_descendants ts x) (λ y i. owner_inside x y own i)

  between_own : (a x : NodeName) → x.owner ≡ o → between ts a x ≡ between (trees_of_owner o ts) a x
  between_own a x own = ap (items_before name_eq a) (ancestors_own x own)

  module _ (w : Walker) (own_root : w.root.owner ≡ o) (own_current : w.current.owner ≡ o) where
    below_root : (y : NodeName) → y.owner ≡ o → is_inclusive_ancestor ts w.root y ≡ is_inclusive_ancestor (trees_of_owner o ts) w.root y
    below_root y own = above_own w.root y own

    parent_own : walker_parent ts w ≡ walker_parent (trees_of_owner o ts) w
    parent_own =
        ap (λ m. if name_eq w.current w.root then None else m)
        (find_same (λ y. accepts ts w.filter y && is_inclusive_ancestor ts w.root y)
        (λ y. accepts (trees_of_owner o ts) w.filter y && is_inclusive_ancestor (trees_of_owner o ts) w.root y) (ancestors ts w.current)
        (each_all (λ y. y.owner ≡ o) _ (λ y own. ap (λ b. b && is_inclusive_ancestor ts w.root y) (accepts_own w.filter y own) ∙
        ap (λ b. accepts (trees_of_owner o ts) w.filter y && b) (below_root y own)) (ancestors ts w.current) (owners_above w.current own_current))
        ∙ ap (find (λ y. accepts (trees_of_owner o ts) w.filter y && is_inclusive_ancestor (trees_of_owner o ts) w.root y))
        (ancestors_own w.current own_current))

    skipped_own : (a y : NodeName) → y.owner ≡ o →
        list_all (skips ts w.filter) (between ts a y) ≡ list_all (skips (trees_of_owner o ts) w.filter) (between (trees_of_owner o ts) a y)
    skipped_own a y own =
        all_same (skips ts w.filter) (skips (trees_of_owner o ts) w.filter) (between ts a y)
        (each_all (λ z. z.owner ≡ o) _ (λ z own_z. rule_own is_skip w.filter z own_z) (between ts a y)
        (each_before (λ z. z.owner ≡ o) a (ancestors ts y) (owners_above y own)))
        ∙ ap (list_all (skips (trees_of_owner o ts) w.filter)) (between_own a y own)

    children_own : walker_children ts w ≡ walker_children (trees_of_owner o ts) w
    children_own =
        filter_same (λ y. accepts ts w.filter y && list_all (skips ts w.filter) (between ts w.current y))
        (λ y. accepts (trees_of_owner o ts) w.filter y && list_all (skips (trees_of_owner o ts) w.filter)
        (between (trees_of_owner o ts) w.current y)) (drop 1 (inclusive_descendants ts w.current))
        (each_all (λ y. y.owner ≡ o) _ (λ y own. ap (λ b. b && list_all (skips ts w.filter) (between ts w.current y))
        (accepts_own w.filter y own) ∙ ap (λ b. accepts (trees_of_owner o ts) w.filter y && b) (skipped_own w.current y own))
        (drop 1 (inclusive_descendants ts w.current))
        (each_drop (λ y. y.owner ≡ o) (inclusive_descendants ts w.current) (owners_below w.current own_current)))
        ∙ ap (λ xs. filter (λ y. accepts (trees_of_owner o ts) w.filter y && list_all (skips (trees_of_owner o ts) w.filter)
        (between (trees_of_owner o ts) w.current y)) (drop 1 xs)) (inside_own w.current own_current)

    nodes_own : (ys : List NodeName) → Each (λ y. y.owner ≡ o) ys → walker_nodes ts w ys ≡ walker_nodes (trees_of_owner o ts) w ys
    nodes_own ys h =
        filter_same (λ y. accepts ts w.filter y && not (list_any (λ a. rejects ts w.filter a && not (is_inclusive_ancestor ts a w.current)) (ancestors ts y)))
        (λ y. accepts (trees_of_owner o ts) w.filter y &&
        not (list_any (λ a. rejects (trees_of_owner o ts) w.filter a && not (is_inclusive_ancestor (trees_of_owner o ts) a w.current))
        (ancestors (trees_of_owner o ts) y))) ys
        (each_all (λ y. y.owner ≡ o) _ (λ y own.
        ap (λ b. b && not (list_any (λ a. rejects ts w.filter a && not (is_inclusive_ancestor ts a w.current)) (ancestors ts y))) (accepts_own w.filter y own)
        ∙ ap (λ b. accepts (trees_of_owner o ts) w.filter y && not b)
        (any_same (λ a. rejects ts w.filter a && not (is_inclusive_ancestor ts a w.current))
        (λ a. rejects (trees_of_owner o ts) w.filter a && not (is_inclusive_ancestor (trees_of_owner o ts) a w.current)) (ancestors ts y)
        (each_all (λ z. z.owner ≡ o) _ (λ z own_z. ap (λ b. b && not (is_inclusive_ancestor ts z w.current))
        (rule_own is_reject w.filter z own_z) ∙ ap (λ b. rejects (trees_of_owner o ts) w.filter z && not b)
        (above_own z w.current own_current)) (ancestors ts y) (owners_above y own))
        ∙ ap (list_any (λ a. rejects (trees_of_owner o ts) w.filter a && not (is_inclusive_ancestor (trees_of_owner o ts) a w.current)))
        (ancestors_own y own))) ys h)

    top_own : sibling_top ts w ≡ sibling_top (trees_of_owner o ts) w
    top_own =
        ap (λ m. unwrap_or m w.root)
        (find_same (λ y. accepts ts w.filter y || name_eq y w.root) (λ y. accepts (trees_of_owner o ts) w.filter y || name_eq y w.root) (ancestors ts w.current)
        (each_all (λ y. y.owner ≡ o) _ (λ y own. ap (λ b. b || name_eq y w.root) (accepts_own w.filter y own)) (ancestors ts w.current)
        (owners_above w.current own_current))
        ∙ ap (find (λ y. accepts (trees_of_owner o ts) w.filter y || name_eq y w.root)) (ancestors_own w.current own_current))

    -- the candidates below a node
    siblings_below : Trees → NodeName → NodeName → Bool
    siblings_below us top y =
        accepts us w.filter y && (not (is_inclusive_ancestor us y w.current || is_inclusive_ancestor us w.current y)
        && (is_in name_eq top (ancestors us y) && list_all (λ a. skips us w.filter a || is_inclusive_ancestor us a w.current) (between us top y)))

    sibling_own : (top y : NodeName) → y.owner ≡ o → siblings_below ts top y ≡ siblings_below (trees_of_owner o ts) top y
    unfolding siblings_below
    sibling_own top y own =
        ap (λ b. b && (not (is_inclusive_ancestor ts y w.current || is_inclusive_ancestor ts w.current y) &&
        (is_in name_eq top (ancestors ts y) && list_all (λ a. skips ts w.filter a || is_inclusive_ancestor ts a w.current)
        (between ts top y)))) (accepts_own w.filter y own)
        ∙ ap (λ b. accepts (trees_of_owner o ts) w.filter y &&
        (not (b || is_inclusive_ancestor ts w.current y) &&
        (is_in name_eq top (ancestors ts y) && list_all (λ a. skips ts w.filter a || is_inclusive_ancestor ts a w.current)
        (between ts top y)))) (above_own y w.current own_current)
        ∙ ap (λ b. accepts (trees_of_owner o ts) w.filter y &&
        (not (is_inclusive_ancestor (trees_of_owner o ts) y w.current || b) &&
        (is_in name_eq top (ancestors ts y) && list_all (λ a. skips ts w.filter a || is_inclusive_ancestor ts a w.current)
        (between ts top y)))) (above_own w.current y own)
        ∙ ap (λ b. accepts (trees_of_owner o ts) w.filter y &&
        (not (is_inclusive_ancestor (trees_of_owner o ts) y w.current || is_inclusive_ancestor (trees_of_owner o ts) w.current y) &&
        (b && list_all (λ a. skips ts w.filter a || is_inclusive_ancestor ts a w.current) (between ts top y))))
        (ap (is_in name_eq top) (ancestors_own y own))
        ∙ ap (λ b. accepts (trees_of_owner o ts) w.filter y &&
        (not (is_inclusive_ancestor (trees_of_owner o ts) y w.current || is_inclusive_ancestor (trees_of_owner o ts) w.current y) &&
        (is_in name_eq top (ancestors (trees_of_owner o ts) y) && b)))
        (all_same (λ a. skips ts w.filter a || is_inclusive_ancestor ts a w.current)
        (λ a. skips (trees_of_owner o ts) w.filter a || is_inclusive_ancestor (trees_of_owner o ts) a w.current) (between ts top y)
        (each_all (λ z. z.owner ≡ o) _ (λ z own_z. ap (λ b. b || is_inclusive_ancestor ts z w.current) (rule_own is_skip w.filter z own_z) ∙
        ap (λ b. skips (trees_of_owner o ts) w.filter z || b) (above_own z w.current own_current)) (between ts top y)
        (each_before (λ z. z.owner ≡ o) top (ancestors ts y) (owners_above y own)))
        ∙ ap (list_all (λ a. skips (trees_of_owner o ts) w.filter a || is_inclusive_ancestor (trees_of_owner o ts) a w.current)) (between_own top y own))

    siblings_own : (ys : List NodeName) → Each (λ y. y.owner ≡ o) ys → walker_siblings ts w ys ≡ walker_siblings (trees_of_owner o ts) w ys
    unfolding siblings_below
    siblings_own ys h =
        filter_same (siblings_below ts (sibling_top ts w)) (siblings_below (trees_of_owner o ts) (sibling_top ts w)) ys
        (each_all (λ y. y.owner ≡ o) _ (λ y own. sibling_own (sibling_top ts w) y own) ys h)
        ∙ ap (λ top. filter (siblings_below (trees_of_owner o ts) top) ys) top_own

    front_own : Each (λ y. y.owner ≡ o) (items_before name_eq w.current (inclusive_descendants ts w.root))
    front_own = each_before (λ y. y.owner ≡ o) w.current (inclusive_descendants ts w.root) (owners_below w.root own_root)

    back_own : Each (λ y. y.owner ≡ o) (items_after name_eq w.current (inclusive_descendants ts w.root))
    back_own = behind_all (λ y. y.owner ≡ o) w.current (inclusive_descendants ts w.root) (owners_below w.root own_root)

    step_own : (m : Move) → walker_step ts w m ≡ walker_step (trees_of_owner o ts) w m
    step_own Parent = parent_own
    step_own First = ap first_of children_own
    step_own Last = ap last_of children_own
    step_own Next = ap first_of (nodes_own (items_after name_eq w.current (inclusive_descendants ts w.root)) back_own ∙
        ap (λ xs. walker_nodes (trees_of_owner o ts) w (items_after name_eq w.current xs)) (inside_own w.root own_root))
    step_own Previous = ap last_of (nodes_own (items_before name_eq w.current (inclusive_descendants ts w.root)) front_own ∙
        ap (λ xs. walker_nodes (trees_of_owner o ts) w (items_before name_eq w.current xs)) (inside_own w.root own_root))
    step_own NextSibling =
        ap (λ ys. if name_eq w.current w.root then None else first_of ys)
        (siblings_own (items_after name_eq w.current (inclusive_descendants ts w.root)) back_own ∙
        ap (λ xs. walker_siblings (trees_of_owner o ts) w (items_after name_eq w.current xs)) (inside_own w.root own_root))
    step_own PreviousSibling =
        ap (λ ys. if name_eq w.current w.root then None else last_of ys)
        (siblings_own (items_before name_eq w.current (inclusive_descendants ts w.root)) front_own ∙
        ap (λ xs. walker_siblings (trees_of_owner o ts) w (items_before name_eq w.current xs)) (inside_own w.root own_root))

    pub move_own : (m : Move) → walker_move ts w m ≡ walker_move (trees_of_owner o ts) w m
    move_own m = ap (λ b. if b then walker_step ts w m else None) (below_root w.current own_current) ∙
        ap (λ found. if is_inclusive_ancestor (trees_of_owner o ts) w.root w.current then found else None) (step_own m)

    -- where a walker goes is the owner's
    stepped_own : (m : Move) (y : NodeName) → walker_step ts w m ≡ Some y → y.owner ≡ o
    stepped_own Parent y e = by (name_eq w.current w.root) e
      where
        by : (b : Bool) → (if b then None else find (λ y. accepts ts w.filter y && is_inclusive_ancestor ts w.root y) (ancestors ts w.current)) ≡
            Some y → y.owner ≡ o
        by true g = absurd (none-some y g)
        by false g = each_find (λ z. z.owner ≡ o) _ (ancestors ts w.current) y (owners_above w.current own_current) g
    stepped_own First y e = each_first (λ z. z.owner ≡ o) (walker_children ts w) y
        (each_filter (λ z. z.owner ≡ o) _ (drop 1 (inclusive_descendants ts w.current))
        (each_drop (λ z. z.owner ≡ o) (inclusive_descendants ts w.current) (owners_below w.current own_current))) e
    stepped_own Last y e = each_last (λ z. z.owner ≡ o) (walker_children ts w) y
        (each_filter (λ z. z.owner ≡ o) _ (drop 1 (inclusive_descendants ts w.current))
        (each_drop (λ z. z.owner ≡ o) (inclusive_descendants ts w.current) (owners_below w.current own_current))) e
    stepped_own Next y e = each_first (λ z. z.owner ≡ o) (walker_nodes ts w (items_after name_eq w.current (inclusive_descendants ts w.root))) y
        (each_filter (λ z. z.owner ≡ o) _ (items_after name_eq w.current (inclusive_descendants ts w.root)) back_own) e
    stepped_own Previous y e = each_last (λ z. z.owner ≡ o) (walker_nodes ts w (items_before name_eq w.current (inclusive_descendants ts w.root)))
        y (each_filter (λ z. z.owner ≡ o) _ (items_before name_eq w.current (inclusive_descendants ts w.root)) front_own) e
    stepped_own NextSibling y e = by (name_eq w.current w.root) e
      where
        by : (b : Bool) → (if b then None else first_of (walker_siblings ts w (items_after name_eq w.current (inclusive_descendants ts w.root))))
            ≡ Some y → y.owner ≡ o
        by true g = absurd (none-some y g)
        by false g = each_first (λ z. z.owner ≡ o) (walker_siblings ts w (items_after name_eq w.current (inclusive_descendants ts w.root))) y
            (each_filter (λ z. z.owner ≡ o) _ (items_after name_eq w.current (inclusive_descendants ts w.root)) back_own) g
    stepped_own PreviousSibling y e = by (name_eq w.current w.root) e
      where
        by : (b : Bool) → (if b then None else last_of (walker_siblings ts w (items_before name_eq w.current (inclusive_descendants ts w.root))))
            ≡ Some y → y.owner ≡ o
        by true g = absurd (none-some y g)
        by false g = each_last (λ z. z.owner ≡ o) (walker_siblings ts w (items_before name_eq w.current (inclusive_descendants ts w.root))) y
            (each_filter (λ z. z.owner ≡ o) _ (items_before name_eq w.current (inclusive_descendants ts w.root)) front_own) g

    pub moved_own : (m : Move) (y : NodeName) → walker_move ts w m ≡ Some y → y.owner ≡ o
    moved_own m y e = by (is_inclusive_ancestor ts w.root w.current) e
      where
        by : (b : Bool) → (if b then walker_step ts w m else None) ≡ Some y → y.owner ≡ o
        by true g = stepped_own m y g
        by false g = absurd (none-some y g)

  -- ---- the nodes around one of the owner's

  pub parent_near : (x y : NodeName) → x.owner ≡ o → parent_of ts x ≡ Some y → y.owner ≡ o
  parent_near x y own e = (stays_own ts owned o x own).parent y e

  children_near : (x : NodeName) → x.owner ≡ o → Each (λ y. y.owner ≡ o) (children_of ts x)
  children_near x own = each_in (λ y. y.owner ≡ o) (children_of ts x) (λ y i. (stays_own ts owned o x own).children y (is_in-from y (children_of ts x) i))

  siblings_near : (x : NodeName) → x.owner ≡ o → Each (λ y. y.owner ≡ o) (siblings ts x)
  siblings_near x own = by (parent_of ts x) refl
    where
      by : (m : Option NodeName) → parent_of ts x ≡ m → Each (λ y. y.owner ≡ o) (option_map_or (children_of ts) m (x ∷ []))
      by None e = (own, tt)
      by (Some p) e = children_near p (parent_near x p own e)

  pub first_near : (x y : NodeName) → x.owner ≡ o → first_of (children_of ts x) ≡ Some y → y.owner ≡ o
  first_near x y own e = each_first (λ z. z.owner ≡ o) (children_of ts x) y (children_near x own) e

  pub last_near : (x y : NodeName) → x.owner ≡ o → last_of (children_of ts x) ≡ Some y → y.owner ≡ o
  last_near x y own e = each_last (λ z. z.owner ≡ o) (children_of ts x) y (children_near x own) e

  pub next_near : (x y : NodeName) → x.owner ≡ o → next_sibling ts x ≡ Some y → y.owner ≡ o
  next_near x y own e = each_first (λ z. z.owner ≡ o) (items_after name_eq x (siblings ts x)) y
      (behind_all (λ z. z.owner ≡ o) x (siblings ts x) (siblings_near x own)) e

  pub previous_near : (x y : NodeName) → x.owner ≡ o → previous_sibling ts x ≡ Some y → y.owner ≡ o
  previous_near x y own e = each_last (λ z. z.owner ≡ o) (items_before name_eq x (siblings ts x)) y
      (each_before (λ z. z.owner ≡ o) x (siblings ts x) (siblings_near x own)) e
