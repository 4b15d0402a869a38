-- What a group has of a world: the parts of its owners are there, and those of all others are empty. What is assigned to its slots is the same.
use Rattle.dom_base.proofs.Std.{◌++◌, ◌||◌, true≢false, append-nil, ◌≡◌, ◌≢◌, ℕ, ◌≤◌, Bool, true, false, List, [], ◌∷◌, filter, find, position, option_map}
use Rattle.dom_base.proofs.Std.{Option, Some, None, refl, sym, ap, ◌∙◌, arith, unwrap_or, if◌then◌else◌, is_some, slice_get, option_to_list, list_any}
use Rattle.dom_base.proofs.Std.{AllByRecursion, filter-append, option_and_then, option_map_or, cond-true, cond-false}
use Rattle.dom_model.proofs.Model.{Owner, Page, NodeName, DomString, name_eq, is_in, owner_eq, none, Node, nodes, node_in, parent_of, root_of}
use Rattle.dom_model.proofs.Model.{inclusive_ancestors, subtree, children_of, times_in, Part, empty_part, World, part_of, trees_with, node_at, root_at}
use Rattle.dom_model.proofs.Model.{parent_at, component_at, component_made, made_by, host_of, MayAttach, host_above, some_if, shadow_root_of, shadow_tree, Task}
use Rattle.dom_model.proofs.Model.{find_part, put_part, with_part, is_there, slot_of, slot_in, slottable_name, has_slot_name, assigned_nodes, slottables_of}
use Rattle.dom_model.proofs.Model.{is_assigned_to, KeepsMakers, group_world, group_turn, group_outputs, is_task_of, made_by-is, name_eq-true, owner_eq-true}
use Rattle.dom_model.proofs.Model.{owner-part_of, Output, is_of, owner_of_output, outputs_for}
use Rattle.dom_worlds.specs.Definitions.{IsPart, IsWorld, IsOf, HasMakers}
use Rattle.dom_worlds.proofs.ShadowTreeLemmas.{slot_in-there, above-host}
use Rattle.dom_worlds.proofs.ListLemmas.{all-then, all-from, all-dropped, filter_same, get-all, get-below, all-passed, filter_all, filter-filter, by_cases}
use Rattle.dom_worlds.proofs.OwnerLemmas.{component-made, component-maker, hosted, hosted-maker}
use Rattle.dom_worlds.proofs.TreeLemmas.{ancestors-there, nodes-there}
use Rattle.dom_laws.proofs.Laws.{times_subtree as times-subtree}

-- a world by its fields
abbrev world_with : List Part → List NodeName → List Task → Option Owner → World
world_with parts signalled tasks turn = record { parts = parts; signalled = signalled; tasks = tasks; turn = turn }

-- worlds with the same fields are the same
pub same_world : (u v : World) → u.parts ≡ v.parts → u.signalled ≡ v.signalled → u.tasks ≡ v.tasks → u.turn ≡ v.turn → u ≡ v
same_world u v a b c d =
    ap (λ x. world_with x u.signalled u.tasks u.turn) a ∙ ap (λ x. world_with v.parts x u.tasks u.turn) b
    ∙ ap (λ x. world_with v.parts v.signalled x u.turn) c ∙ ap (world_with v.parts v.signalled v.tasks) d

-- a test on the items of which another holds anyway
pub filter-sub : {X : Type 0} (p t : X → Bool) → ((x : X) → p x ≡ true → t x ≡ true) → (xs : List X) → filter p (filter t xs) ≡ filter p xs
filter-sub p t f xs =
    filter-filter p t xs ∙ filter_all t (filter p xs) (all-then (λ x. p x ≡ true) (λ x. t x ≡ true) f (filter p xs) (all-passed (λ x. p x ≡ true) p
    (λ x h. h) xs))

-- a member's lines are among those of its group
pub member-outputs : (g : Owner → Bool) (o : Owner) → g o ≡ true → (ls : List Output) → outputs_for o (group_outputs g ls) ≡ outputs_for o ls
member-outputs g o h ls =
    filter-sub (λ l. is_of (owner_eq o) (owner_of_output l)) (λ l. is_of g (owner_of_output l)) (λ l e. from (owner_of_output l) e) ls
  where
    from : (m : Option Owner) → is_of (owner_eq o) m ≡ true → is_of g m ≡ true
    from None e = e
    from (Some a) e = ap g (sym (owner_eq-true o a e)) ∙ h

module _ {X : Type 0} where
  -- an item that passes, and one that does not
  pub filter-here : (test : X → Bool) (x : X) (xs : List X) → test x ≡ true → filter test (x ∷ xs) ≡ x ∷ filter test xs
  filter-here test x xs h = cond-true (test x) (x ∷ filter test xs) (filter test xs) h

  -- one that does not
  pub filter-away : (test : X → Bool) (x : X) (xs : List X) → test x ≡ false → filter test (x ∷ xs) ≡ filter test xs
  filter-away test x xs h = cond-false (test x) (x ∷ filter test xs) (filter test xs) h

  -- a test twice is the test
  pub filter-twice : (test : X → Bool) (xs : List X) → filter test (filter test xs) ≡ filter test xs
  filter-twice test xs = filter_all test (filter test xs) (all-passed (λ x. test x ≡ true) test (λ x h. h) xs)

  -- whether an item passes a test, which holds of none that fails another
  pub any-kept : (p t : X → Bool) → ((x : X) → p x ≡ true → t x ≡ true) → (xs : List X) → list_any p (filter t xs) ≡ list_any p xs
  any-kept p t f [] = refl
  any-kept p t f (x ∷ xs) =
      by_cases (t x) (λ h. ap (list_any p) (filter-here t x xs h) ∙ ap (λ b. p x || b) (any-kept p t f xs))
      (λ h. ap (list_any p) (filter-away t x xs h) ∙ any-kept p t f xs
      ∙ ap (λ b. b || list_any p xs) (sym (by_cases (p x) (λ e. absurd (true≢false (sym (f x e) ∙ h))) (λ e. e))))

  -- an item that is put behind others, if it is not among them
  module _ (t : X → Bool) (xs : List X) (x : X) where
    -- where it passes
    pub added-in : (b c : Bool) → c ≡ b → t x ≡ true → filter t (if b then xs else xs ++ x ∷ []) ≡ (if c then filter t xs else filter t xs ++ x ∷ [])
    added-in true true e h = refl
    added-in false false e h = filter-append t xs (x ∷ []) ∙ ap (λ ys. filter t xs ++ ys) (filter-here t x [] h)
    added-in true false e h = absurd (true≢false (sym e))
    added-in false true e h = absurd (true≢false e)

    -- and where it does not
    pub added-out : (b : Bool) → t x ≡ false → filter t (if b then xs else xs ++ x ∷ []) ≡ filter t xs
    added-out true h = refl
    added-out false h = filter-append t xs (x ∷ []) ∙ ap (λ ys. filter t xs ++ ys) (filter-away t x [] h) ∙ append-nil (filter t xs)

module _ (g : Owner → Bool) where
  -- whether a part is of the group
  abbrev pub in_part : Part → Bool
  in_part p = g p.owner

  -- whether a node is of the group
  abbrev pub in_node : NodeName → Bool
  in_node x = g x.owner

  -- a part of the group is found
  find-in : (ps : List Part) (o : Owner) → g o ≡ true → find_part (filter in_part ps) o ≡ find_part ps o
  find-in [] o h = refl
  find-in (q ∷ qs) o h =
      by_cases (owner_eq q.owner o)
      (λ e. ap (λ ps. find_part ps o) (filter-here in_part q qs (ap g (owner_eq-true q.owner o e) ∙ h))
      ∙ cond-true (owner_eq q.owner o) (Some q) (find_part (filter in_part qs) o) e ∙ sym (cond-true (owner_eq q.owner o) (Some q) (find_part qs o) e))
      (λ e. by_cases (in_part q)
      (λ t. ap (λ ps. find_part ps o) (filter-here in_part q qs t) ∙ cond-false (owner_eq q.owner o) (Some q) (find_part (filter in_part qs) o) e
      ∙ find-in qs o h ∙ sym (cond-false (owner_eq q.owner o) (Some q) (find_part qs o) e))
      (λ t. ap (λ ps. find_part ps o) (filter-away in_part q qs t) ∙ find-in qs o h ∙ sym (cond-false (owner_eq q.owner o) (Some q) (find_part qs o) e)))

  -- another is not
  find-out : (ps : List Part) (o : Owner) → g o ≡ false → find_part (filter in_part ps) o ≡ None
  find-out [] o h = refl
  find-out (q ∷ qs) o h =
      by_cases (in_part q)
      (λ t. let other : owner_eq q.owner o ≡ false = by_cases (owner_eq q.owner o)
      (λ e. let both : true ≡ false = sym t ∙ ap g (owner_eq-true q.owner o e) ∙ h in e ∙ both) (λ e. e) in
      ap (λ ps. find_part ps o) (filter-here in_part q qs t) ∙ cond-false (owner_eq q.owner o) (Some q) (find_part (filter in_part qs) o) other
      ∙ find-out qs o h)
      (λ t. ap (λ ps. find_part ps o) (filter-away in_part q qs t) ∙ find-out qs o h)

  -- so the part of an owner of the group is the same,
  pub part-in : (w : World) (o : Owner) → g o ≡ true → part_of (group_world g w) o ≡ part_of w o
  part-in w o h = ap (λ p. unwrap_or p (empty_part o)) (find-in w.parts o h)

  -- another owner has nothing,
  pub part-out : (w : World) (o : Owner) → g o ≡ false → part_of (group_world g w) o ≡ empty_part o
  part-out w o h = ap (λ p. unwrap_or p (empty_part o)) (find-out w.parts o h)

  -- and who is there is the same
  pub there-in : (w : World) (o : Owner) → g o ≡ true → is_there (group_world g w) o ≡ is_there w o
  there-in w o h = ap is_some (find-in w.parts o h)

  -- A part that is written.
  put-in : (ps : List Part) (p : Part) → g p.owner ≡ true → filter in_part (put_part ps p) ≡ put_part (filter in_part ps) p
  put-in [] p h = filter-here in_part p [] h
  put-in (q ∷ qs) p h =
      by_cases (owner_eq q.owner p.owner)
      (λ e. ap (filter in_part) (cond-true (owner_eq q.owner p.owner) (p ∷ qs) (q ∷ put_part qs p) e) ∙ filter-here in_part p qs h
      ∙ sym (ap (λ ps. put_part ps p) (filter-here in_part q qs (ap g (owner_eq-true q.owner p.owner e) ∙ h))
      ∙ cond-true (owner_eq q.owner p.owner) (p ∷ filter in_part qs) (q ∷ put_part (filter in_part qs) p) e))
      (λ e. ap (filter in_part) (cond-false (owner_eq q.owner p.owner) (p ∷ qs) (q ∷ put_part qs p) e)
      ∙ by_cases (in_part q)
      (λ t. filter-here in_part q (put_part qs p) t ∙ ap (λ ps. q ∷ ps) (put-in qs p h)
      ∙ sym (ap (λ ps. put_part ps p) (filter-here in_part q qs t)
      ∙ cond-false (owner_eq q.owner p.owner) (p ∷ filter in_part qs) (q ∷ put_part (filter in_part qs) p) e))
      (λ t. filter-away in_part q (put_part qs p) t ∙ put-in qs p h ∙ sym (ap (λ ps. put_part ps p) (filter-away in_part q qs t))))

  -- one of another owner
  put-out : (ps : List Part) (p : Part) → g p.owner ≡ false → filter in_part (put_part ps p) ≡ filter in_part ps
  put-out [] p h = filter-away in_part p [] h
  put-out (q ∷ qs) p h =
      by_cases (owner_eq q.owner p.owner)
      (λ e. ap (filter in_part) (cond-true (owner_eq q.owner p.owner) (p ∷ qs) (q ∷ put_part qs p) e) ∙ filter-away in_part p qs h
      ∙ sym (filter-away in_part q qs (ap g (owner_eq-true q.owner p.owner e) ∙ h)))
      (λ e. ap (filter in_part) (cond-false (owner_eq q.owner p.owner) (p ∷ qs) (q ∷ put_part qs p) e)
      ∙ by_cases (in_part q)
      (λ t. filter-here in_part q (put_part qs p) t ∙ ap (λ ps. q ∷ ps) (put-out qs p h) ∙ sym (filter-here in_part q qs t))
      (λ t. filter-away in_part q (put_part qs p) t ∙ put-out qs p h ∙ sym (filter-away in_part q qs t)))

  -- the world with one of the group
  pub with_part-in : (w : World) (p : Part) → g p.owner ≡ true → group_world g (with_part w p) ≡ with_part (group_world g w) p
  with_part-in w p h = ap (λ ps. record (group_world g w) { parts = ps }) (put-in w.parts p h)

  -- and with another
  pub with_part-out : (w : World) (p : Part) → g p.owner ≡ false → group_world g (with_part w p) ≡ group_world g w
  with_part-out w p h = ap (λ ps. record (group_world g w) { parts = ps }) (put-out w.parts p h)

  -- a turn twice
  turn-twice : (t : Option Owner) → group_turn g (group_turn g t) ≡ group_turn g t
  turn-twice None = refl
  turn-twice (Some o) =
      by_cases (g o) (λ e. ap (group_turn g) (cond-true (g o) (Some o) None e)) (λ e. ap (group_turn g) (cond-false (g o) (Some o) None e)
      ∙ sym (cond-false (g o) (Some o) None e))

  -- What a group has of what it has is the same.
  pub group-twice : (w : World) → group_world g (group_world g w) ≡ group_world g w
  group-twice w =
      same_world (group_world g (group_world g w)) (group_world g w) (filter-twice in_part w.parts) (filter-twice (λ s. g s.owner) w.signalled)
      (filter-twice (is_task_of g) w.tasks) (turn-twice w.turn)

-- What is asked of a world: nodes and hosts are their owners', and whoever has hosts may attach.
pub record IsGround (w : World) : Type 0 where
  pub parts : (o : Owner) → IsPart (part_of w o)
  pub hosts : (o : Owner) → AllByRecursion (IsOf o) (part_of w o).attached
  pub makers : HasMakers w

-- so it is of a world as it should be
pub ground-of : (w : World) → IsWorld w → IsGround w
ground-of w i = record { parts = i.parts; hosts = i.hosts; makers = i.makers }

-- a node is its owner's
pub owned-by : (w : World) → IsGround w → (o : Owner) (y : NodeName) → 1 ≤ times_in (part_of w o).trees y → y.owner ≡ o
owned-by w i o y h = (i.parts o).owned y h ∙ owner-part_of w o

-- all nodes of an owner's trees are
pub ancestors-of : (w : World) → IsGround w → (o : Owner) (x : NodeName) → AllByRecursion (IsOf o) (inclusive_ancestors (part_of w o).trees x)
ancestors-of w i o x =
    let ts = (part_of w o).trees in
    all-then (λ y. 1 ≤ times_in ts y) (IsOf o) (λ y h. owned-by w i o y h) (inclusive_ancestors ts x) (ancestors-there ts x)

-- a parent too
pub parent-in : (w : World) → IsGround w → (o : Owner) (x p : NodeName) → parent_of (part_of w o).trees x ≡ Some p → p.owner ≡ o
parent-in w i o x p e = get-all (IsOf o) _ 0 p (all-dropped (IsOf o) (inclusive_ancestors (part_of w o).trees x) (ancestors-of w i o x)) e

-- the parent of a node
pub parent-of : (w : World) → IsGround w → (x p : NodeName) → parent_at w x ≡ Some p → p.owner ≡ x.owner
parent-of w i x p e = parent-in w i x.owner x p e

-- the nodes of a tree
pub nodes-of : (w : World) → IsGround w → (o : Owner) (x : NodeName) → AllByRecursion (λ (m : Node). m.name.owner ≡ o) (nodes (subtree (part_of w o).trees x))
nodes-of w i o x =
    let ts = (part_of w o).trees in
    all-then (λ (m : Node). 1 ≤ times_in (subtree ts x) m.name) (λ m. m.name.owner ≡ o)
    (λ m h. owned-by w i o m.name (let within = times-subtree ts x m.name in omega (arith, h, within))) (nodes (subtree ts x)) (nodes-there (subtree ts x))

-- A slot: where it was found.
pub record IsSlot (w : World) (x s : NodeName) : Type 0 where
  pub component : Owner
  pub parent : NodeName
  pub below : parent_at w x ≡ Some parent
  pub hosted : component_at w parent ≡ Some component
  pub found : slot_in (shadow_tree w component) (node_at w x) ≡ Some s
  pub owner : s.owner ≡ component

-- a slot in the words of the parent and the component
abbrev slot_from : World → Node → Option Owner → Option NodeName
slot_from w n c = option_and_then (λ c. slot_in (shadow_tree w c) n) c

-- the slot of a node was found so
pub slot-is : (w : World) → IsGround w → (x s : NodeName) → slot_of w x ≡ Some s → IsSlot w x s
slot-is w i x s h = by_parent (parent_at w x) refl
  where
    by_component : (p : NodeName) → parent_at w x ≡ Some p → (o : Option Owner) → component_at w p ≡ o → IsSlot w x s
    by_component p e None k =
        let none_at : slot_of w x ≡ None = ap (λ q. slot_from w (node_at w x) (option_and_then (component_at w) q)) e ∙ ap (slot_from w (node_at w x)) k in
        let both : None ≡ Some s = sym none_at ∙ h in
        cc
    by_component p e (Some c) k =
        let here : slot_of w x ≡ slot_in (shadow_tree w c) (node_at w x) =
        ap (λ q. slot_from w (node_at w x) (option_and_then (component_at w) q)) e ∙ ap (slot_from w (node_at w x)) k in
        let found = sym here ∙ h in
        let there = slot_in-there (shadow_tree w c) (node_at w x) s found in
        let within = times-subtree (part_of w c).trees (shadow_root_of c) s in
        record { component = c; parent = p; below = e; hosted = k; found = found; owner = owned-by w i c s (omega (arith, there, within)) }

    by_parent : (o : Option NodeName) → parent_at w x ≡ o → IsSlot w x s
    by_parent None e =
        let none_at : slot_of w x ≡ None = ap (λ q. slot_from w (node_at w x) (option_and_then (component_at w) q)) e in
        let both : None ≡ Some s = sym none_at ∙ h in
        cc
    by_parent (Some p) e = by_component p e (component_at w p) refl

-- nothing is found in no tree
slot_in-none : (n : Node) → slot_in none n ≡ None
slot_in-none n = from (slottable_name n)
  where
    from : (o : Option DomString) → option_and_then (λ name. option_map (λ (s : Node). s.name) (find (has_slot_name name) (nodes none))) o ≡ None
    from None = refl
    from (Some name) = refl

module _ (g : Owner → Bool) (closed : KeepsMakers g) where
  -- no one outside is the page
  pub outside-no_page : (o : Owner) → g o ≡ false → o ≢ Page
  outside-no_page o h e = true≢false (sym closed.page ∙ ap g (sym e) ∙ h)

  -- what an owner outside makes is outside
  pub made-outside : (o : Owner) (k : ℕ) → MayAttach o → g o ≡ false → g (component_made o k) ≡ false
  made-outside o k may h = by_cases (g (component_made o k)) (λ t. absurd (true≢false (sym (closed.made o k may t) ∙ h))) (λ t. t)

  -- so the component at a node outside is
  pub component-outside : (w : World) → IsGround w → (x : NodeName) (c : Owner) → component_at w x ≡ Some c → g x.owner ≡ false → g c ≡ false
  component-outside w i x c h out =
      let k = component-made w x c h in
      ap g (sym k.made) ∙ made-outside x.owner k.number (component-maker w i.makers x c h) out

  -- the slot of a node outside is outside
  pub slot-outside : (w : World) → IsGround w → (x s : NodeName) → slot_of w x ≡ Some s → g x.owner ≡ false → g s.owner ≡ false
  slot-outside w i x s h out =
      let k = slot-is w i x s h in
      ap g k.owner ∙ component-outside w i k.parent k.component k.hosted (ap g (parent-of w i x k.parent k.below) ∙ out)

  -- one item or none
  none_kept : (o : Option NodeName) → ((s : NodeName) → o ≡ Some s → in_node g s ≡ false) → filter (in_node g) (option_to_list o) ≡ []
  none_kept None h = refl
  none_kept (Some s) h = filter-away (in_node g) s [] (h s refl)

  -- all of them
  all_kept : (o : Option NodeName) → ((s : NodeName) → o ≡ Some s → in_node g s ≡ true) → filter (in_node g) (option_to_list o) ≡ option_to_list o
  all_kept None h = refl
  all_kept (Some s) h = filter-here (in_node g) s [] (h s refl)

  -- The slot of a node, where it is of the group.
  pub slot-group : (w : World) → IsGround w → (x : NodeName) →
      option_to_list (slot_of (group_world g w) x) ≡ filter (in_node g) (option_to_list (slot_of w x))
  slot-group w i x = by_cases (in_node g x) inside outside
    where
      v : World
      v = group_world g w

      outside : in_node g x ≡ false → option_to_list (slot_of v x) ≡ filter (in_node g) (option_to_list (slot_of w x))
      outside out =
          ap (λ (p : Part). option_to_list (slot_from v (node_in p.trees x) (option_and_then (component_at v) (parent_of p.trees x))))
          (part-out g w x.owner out)
          ∙ sym (none_kept (slot_of w x) (λ s e. slot-outside w i x s e out))

      by_component : (p : NodeName) → parent_at w x ≡ Some p → in_node g x ≡ true → (o : Option Owner) → component_at w p ≡ o →
          option_to_list (slot_from v (node_at w x) o) ≡ filter (in_node g) (option_to_list (slot_from w (node_at w x) o))
      by_component p e h None k = refl
      by_component p e h (Some c) k =
          let n = node_at w x in
          let r = shadow_root_of c in
          let owner_is : (s : NodeName) → slot_in (shadow_tree w c) n ≡ Some s → in_node g s ≡ g c =
          λ s found. ap g (owned-by w i c s (let there = slot_in-there (shadow_tree w c) n s found in
          let within = times-subtree (part_of w c).trees r s in omega (arith, there, within))) in
          by_cases (g c)
          (λ t. ap (λ (q : Part). option_to_list (slot_in (subtree q.trees r) n)) (part-in g w c t)
          ∙ sym (all_kept (slot_in (shadow_tree w c) n) (λ s found. owner_is s found ∙ t)))
          (λ t. ap (λ (q : Part). option_to_list (slot_in (subtree q.trees r) n)) (part-out g w c t) ∙ ap option_to_list (slot_in-none n)
          ∙ sym (none_kept (slot_in (shadow_tree w c) n) (λ s found. owner_is s found ∙ t)))

      by_parent : in_node g x ≡ true → (o : Option NodeName) → parent_at w x ≡ o →
          option_to_list (slot_from v (node_at w x) (option_and_then (component_at v) o))
          ≡ filter (in_node g) (option_to_list (slot_from w (node_at w x) (option_and_then (component_at w) o)))
      by_parent h None e = refl
      by_parent h (Some p) e =
          ap (λ (q : Part). option_to_list (slot_from v (node_at w x) (option_map (component_made p.owner) (position (name_eq p) q.attached))))
          (part-in g w p.owner (ap g (parent-of w i x p e) ∙ h))
          ∙ by_component p e h (component_at w p) refl

      inside : in_node g x ≡ true → option_to_list (slot_of v x) ≡ filter (in_node g) (option_to_list (slot_of w x))
      inside h =
          ap (λ (p : Part). option_to_list (slot_from v (node_in p.trees x) (option_and_then (component_at v) (parent_of p.trees x)))) (part-in g w x.owner h)
          ∙ by_parent h (parent_at w x) refl

  -- Whoever made one of the group is of it.
  pub maker-inside : (o m : Owner) (k : ℕ) → made_by o ≡ Some (m, k) → MayAttach m → g o ≡ true → g m ≡ true
  maker-inside o m k e may h = closed.made m k may (ap g (made_by-is o m k e) ∙ h)

  -- so its host is
  pub host-inside : (w : World) → IsGround w → (o : Owner) (host : NodeName) → host_of w o ≡ Some host → g o ≡ true → in_node g host ≡ true
  host-inside w i o host e h =
      let k = hosted w o host e in
      ap g (get-all (IsOf k.maker) (part_of w k.maker).attached k.number host (i.hosts k.maker) k.found)
      ∙ maker-inside o k.maker k.number k.named (hosted-maker w i.makers o host k) h

  -- The host of one of the group is the same.
  pub host_of-in : (w : World) → IsGround w → (o : Owner) → g o ≡ true → host_of (group_world g w) o ≡ host_of w o
  host_of-in w i o h = from (made_by o) refl
    where
      v : World
      v = group_world g w

      read : World → Option (Owner × ℕ) → Option NodeName
      read u m = option_and_then (λ (m : Owner × ℕ). slice_get (part_of u m.0).attached m.1) m

      from : (m : Option (Owner × ℕ)) → made_by o ≡ m → read v m ≡ read w m
      from None e = refl
      from (Some m) e =
          by_cases (g m.0) (λ t. ap (λ (p : Part). slice_get p.attached m.1) (part-in g w m.0 t))
          (λ t. ap (λ (p : Part). slice_get p.attached m.1) (part-out g w m.0 t) ∙ sym (none_at t (slice_get (part_of w m.0).attached m.1) refl))
        where
          none_at : g m.0 ≡ false → (x : Option NodeName) → slice_get (part_of w m.0).attached m.1 ≡ x → slice_get (part_of w m.0).attached m.1 ≡ None
          none_at t None q = q
          none_at t (Some x) q =
              let below = get-below (part_of w m.0).attached m.1 (ap is_some q) in
              let may = i.makers m.0 (omega (arith, below)) in
              absurd (true≢false (sym (maker-inside o m.0 m.1 e may h) ∙ t))

  -- and so is what is above one of its nodes
  pub host_above-in : (w : World) → IsGround w → (x : NodeName) → in_node g x ≡ true → host_above (group_world g w) x ≡ host_above w x
  host_above-in w i x h =
      ap (λ (p : Part). option_and_then (some_if (name_eq (root_of p.trees x) (shadow_root_of x.owner))) (host_of (group_world g w) x.owner))
      (part-in g w x.owner h)
      ∙ ap (option_and_then (some_if (name_eq (root_at w x) (shadow_root_of x.owner)))) (host_of-in w i x.owner h)

  -- whether a node of the group is among others is told by those of the group
  pub is_in-kept : (s : NodeName) (xs : List NodeName) → in_node g s ≡ true → is_in name_eq s (filter (in_node g) xs) ≡ is_in name_eq s xs
  is_in-kept s xs h = any-kept (name_eq s) (in_node g) (λ x e. ap (in_node g) (sym (name_eq-true s x e)) ∙ h) xs

  -- What is assigned to a slot of the group is the same.
  pub assigned-in : (w : World) → IsGround w → (s : NodeName) → in_node g s ≡ true → assigned_nodes (group_world g w) s ≡ assigned_nodes w s
  assigned-in w i s h =
      ap (λ o. option_map_or (slottables_of v s) o []) (host_above-in w i s h) ∙ from (host_above w s) refl
    where
      v : World
      v = group_world g w

      each : (x : NodeName) → is_assigned_to v s x ≡ is_assigned_to w s x
      each x = ap (is_in name_eq s) (slot-group w i x) ∙ is_in-kept s (option_to_list (slot_of w x)) h

      from : (o : Option NodeName) → host_above w s ≡ o → option_map_or (slottables_of v s) o [] ≡ option_map_or (slottables_of w s) o []
      from None e = refl
      from (Some host) e =
          ap (λ (p : Part). filter (is_assigned_to v s) (children_of p.trees host))
          (part-in g w host.owner (host-inside w i s.owner host (above-host w s host e).0 h))
          ∙ filter_same (is_assigned_to v s) (is_assigned_to w s) (children_of (trees_with w host) host)
          (all-from (λ x. is_assigned_to v s x ≡ is_assigned_to w s x) each (children_of (trees_with w host) host))
