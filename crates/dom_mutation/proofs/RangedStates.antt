-- Steps of a `Doc` that move boundary points: what they ask for, what holds after them, and the state then.
use Rattle.dom_mutation.proofs.Cited.{◌≡◌, ℕ, ◌+◌, ◌-◌, ◌<◌, ◌≤◌, ◌^◌, ◌⊎◌, inl, inr, true, false, List, [], ◌∷◌, map, length, Some, None, refl, sym, ap, subst}
use Rattle.dom_mutation.proofs.Cited.{◌∙◌, arith, nat_eq, AllByRecursion, cases_Bool, cond-true, eq-or-lt_of_le, NodeName, Owner, DomString, name_eq, Part}
use Rattle.dom_mutation.proofs.Cited.{after_insert, after_replace_data, after_join, Boundary, Step, replace_data, join_at, part_step, Trees, node_in, kind_of}
use Rattle.dom_mutation.proofs.Cited.{has_data, children_of, parent_of, index_of, length_of, change_node, with_data_replaced, replaced, part_of, is_there}
use Rattle.dom_mutation.proofs.Cited.{world_step, world_after, steps_of, joins, HasBounds, IsPart, length-replaced, index-below, length-children, RangeLists}
use Rattle.dom_mutation.proofs.Cited.{ends_by, ranges_of, range_in, IsNamedRule, KeepsNodes, named_ends_by, replace_data-named, join-named, ends-none}
use Rattle.dom_mutation.proofs.Cited.{StandOnce, StandAlone, NamedTrees, name_at, count_of, IsOwnChange, TellApart, changed_node, AreSlotsOf, Contents, part_in}
use Rattle.dom_mutation.proofs.Cited.{part_with, world_of, DocState, named_trees, contents, state_from, world_from, IsDoc, name_in, owner_in, trees_in, stepped}
use Rattle.dom_mutation.proofs.Cited.{planned, IsChild, IsOwnNode, MayCome, AllTables, with_live, AreRangesOf, IsRuleOf, ranged, keeps_changed}
use Rattle.dom_mutation.proofs.BoundedPlans.{length_few}
use Rattle.dom_mutation.proofs.DocInvariant.{are_hosts, held_changed, held_live}
use Rattle.dom_mutation.proofs.OwnParts.{own_part}
use Rattle.dom_mutation.proofs.RangedFits.{EachFits, room_fits, data_fits, data_fits_shorter, join_fits, behind_stay}
use Rattle.dom_mutation.proofs.HostedSteps.{IsPlain, plain_step}
use Rattle.dom_mutation.proofs.RangeRules.{replace_data_rule, join_rule}
use Rattle.dom_mutation.proofs.RangedSteps.{Holds, ruled, same_part}
use Rattle.dom_mutation.proofs.Shown.{state_with, known, owner_there}
use Rattle.dom_mutation.proofs.Worlds.{IsChangeOf, part_at, part_off}

-- what a step of a node's owner leaves that moves ends of live ranges alone
pub record MovesEnds (f : NamedTrees) (tables : AllTables) (d : DocState) (live : RangeLists) (k : ℕ) (s : List NodeName → Step) : Type 0 where
  pub held : IsDoc f.names f.trees (with_live tables live)
  pub state : state_from f.names f.trees (with_live tables live) ≡ stepped (owner_in d k) (s d.names) d

module _ (f : NamedTrees) {tables : AllTables} (held : IsDoc f.names f.trees tables) {d : DocState} (is_d : state_from f.names f.trees tables ≡ d) where
  -- a step of a node's owner by which ends of live ranges move as a rule says
  module _ (apart : TellApart f.names) (k : ℕ) (k< : k < length d.names) (by : Boundary ℕ → Boundary ℕ)
      (rule : Boundary NodeName → Boundary NodeName) (s : List NodeName → Step) where
    abbrev c : Contents
    c = contents f.names f.trees tables

    abbrev mover : Owner
    mover = (name_at f.names k).owner

    -- the world then
    moved_world : {b : Contents} → IsPlain (s f.names) → IsChangeOf c b mover (part_step (part_in c mover) (s f.names)) →
        world_of b ≡ world_step mover (world_of c) (s f.names)
    moved_world {b} = plain_step c tables.slots.hosts (are_hosts f.names f.trees tables held) mover (owner_there f held is_d k k<) b (s f.names)

    pub ends_moved : {live : RangeLists} → IsPlain (s f.names) → part_step (part_in c mover) (s f.names) ≡ record (part_in c mover)
        { ranges = named_ends_by rule (part_in c mover).ranges }
        → IsNamedRule f.names by rule × KeepsNodes f.names by → IsRuleOf mover rule → ((q : Owner) → ranges_of live q ≡ ends_by by (ranges_of tables.ranges q))
        → EachFits tables.ranges by → MovesEnds f tables d live k s
    ends_moved {live} plain does law of moved fits =
        let both = ruled c tables.ranges live held.ranges mover by rule law of moved {b = c} refl (same_part c mover) in
        record {
          held = held_live f.names f.trees tables held live (both.1 fits);
          state = subst (λ (e : DocState). state_from f.names f.trees (with_live tables live) ≡ stepped (owner_in e k) (s e.names) e) is_d
              (ap (λ w. state_with f.names w) (moved_world plain (subst (IsChangeOf c (ranged live c) mover) (sym does) both.0)));
        }

  -- what is known of a node's owner's part
  pub part_known : (P : Part → List NodeName → Type 0) (k : ℕ) → k < length d.names → P (part_of d.world (owner_in d k)) d.names →
      P (part_in (contents f.names f.trees tables) (name_at f.names k).owner) f.names
  part_known P k k< h =
      subst (λ p. P p f.names) (part_at (contents f.names f.trees tables) (name_at f.names k).owner (owner_there f held is_d k k<))
      (known f held is_d (λ e. P (part_of e.world (owner_in e k)) e.names) h)

  -- ---- Texts that are joined

  module _ (first size next : ℕ) (first< : first < length d.names) (next_owner : owner_in d next ≡ owner_in d first)
      (bounds : HasBounds (part_of d.world (owner_in d first)))
      (fits : size + length_of (trees_in d first) (name_in d next) ≤ length_of (trees_in d first) (name_in d first))
      (few : length_of (trees_in d first) (name_in d first) < 2 ^ 64) where
    pub join_asks : (parent index : ℕ) → EachFits tables.ranges (after_join nat_eq first size next parent index)
    join_asks parent index =
        let o = (name_at f.names first).owner in
        let small : size + length_of (trees_in d first) (name_in d next) < 2 ^ 64 = omega (arith, fits, few) in
        let here : size + length_of (part_in (contents f.names f.trees tables) o).trees (name_at f.names next) < 2 ^ 64 =
        part_known (λ p ns. size + length_of p.trees (name_at ns next) < 2 ^ 64) first first< small in
        join_fits (contents f.names f.trees tables) tables.ranges held.ranges o (part_known (λ p ns. HasBounds p) first first< bounds) next
        (known f held is_d (λ e. owner_in e next ≡ owner_in e first) next_owner) first size parent index (omega (arith, here))

  -- without live ranges nothing is carried
  module _ (apart : TellApart f.names) (none : (o : Owner) (k : ℕ) → range_in (ranges_of tables.ranges o) k ≡ None) (first parent : ℕ)
      (first< : first < length d.names) (parent< : parent < length d.names)
      (own_parent : owner_in d parent ≡ owner_in d first) where
    joined : (ts : Trees) (size : ℕ) (ks : List ℕ) → AllByRecursion (λ k. (k < length f.names) × ((name_at f.names k).owner ≡ (name_at f.names first).owner)) ks
        → world_from f.names f.trees tables ≡ world_after (name_at f.names first).owner (world_from f.names f.trees tables)
        (joins ts (name_at f.names first) (name_at f.names parent) size (map (name_at f.names) ks))
    joined ts size [] nodes = refl
    joined ts size (k ∷ ks) nodes =
        let y = name_at f.names k in
        let x = name_at f.names first in
        let p = name_at f.names parent in
        let o = x.owner in
        let c = contents f.names f.trees tables in
        let at_first = known f held is_d (λ e. first < length e.names) first< in
        let at_parent = known f held is_d (λ e. parent < length e.names) parent< in
        joined ts (size + length_of ts y) ks nodes.1
        ∙ ap (λ w. world_after o w (joins ts (name_at f.names first) (name_at f.names parent) (size + length_of ts y) (map (name_at f.names) ks)))
        (plain_step c tables.slots.hosts (are_hosts f.names f.trees tables held) o (owner_there f held is_d first first<) c
        (join_at x size y p (index_of ts y)) tt (ruled c tables.ranges tables.ranges held.ranges o
        (after_join nat_eq first size k parent (index_of ts y)) (after_join name_eq x size y p (index_of ts y))
        (join-named f.names apart first size k parent (index_of ts y) at_first nodes.0.0 at_parent)
        (join_rule o p (known f held is_d (λ e. owner_in e parent ≡ owner_in e first) own_parent) (index_of ts y) x size y refl nodes.0.1)
        (λ q. sym (ends-none (after_join nat_eq first size k parent (index_of ts y)) (ranges_of tables.ranges q) (none q)))
        {b = c} refl (same_part c o)).0)

    pub joins_vacant : (size : ℕ) (ks : List ℕ) → AllByRecursion (IsOwnNode d first) ks
        → d ≡ planned (owner_in d first) (steps_of (joins (trees_in d first) (name_in d first) (name_in d parent) size (map (name_in d) ks))) d
    joins_vacant size ks nodes =
        subst (λ (e : DocState). e ≡ planned (owner_in e first)
        (steps_of (joins (trees_in d first) (name_in e first) (name_in e parent) size (map (name_in e) ks))) e) is_d
        (ap (λ w. state_with f.names w) (joined (trees_in d first) size ks (known f held is_d (λ e. AllByRecursion (IsOwnNode e first) ks) nodes)))

  module _ (once : StandOnce f) (only : StandAlone f) where
    -- each owner's part
    pub part_held : (o : Owner) → IsPart (part_in (contents f.names f.trees tables) o)
    part_held o = own_part (contents f.names f.trees tables) held.owned once only held.numbered o

    -- ---- room for children of a node

    module _ (parent child count : ℕ) (parent< : parent < length d.names) (is_child : IsChild d parent child)
        (bounds : HasBounds (part_of d.world (owner_in d parent))) (few : count ≤ 1000000) where
      abbrev o : Owner
      o = (name_at f.names parent).owner

      abbrev here : Part
      here = part_in (contents f.names f.trees tables) o

      bounded : HasBounds here
      bounded = part_known (λ p ns. HasBounds p) parent parent< bounds

      up : parent_of here.trees (name_at f.names child) ≡ Some (name_at f.names parent)
      up = part_known (λ p ns. parent_of p.trees (name_at ns child) ≡ Some (name_at ns parent)) parent parent< is_child.child

      -- it has a child, so it has no data
      plain : has_data (kind_of here.trees (name_at f.names parent)) ≡ false
      plain = elim (cases_Bool (has_data (kind_of here.trees (name_at f.names parent)))) [
        | inl e ↦
            let none = ap (length {A = NodeName}) (bounded.leaves (name_at f.names parent) e) in
            let below = index-below here.trees (name_at f.names child) (name_at f.names parent) (part_held o).unique up in
            let all = length-children here.trees (name_at f.names parent) (part_held o).unique in
            absurd (omega arith)
        | inr e ↦ e
      ]

      pub room_asks : (index : ℕ) → EachFits tables.ranges (after_insert nat_eq parent index count)
      room_asks index =
          let all = length_few here (part_held o) (name_at f.names parent) plain in
          let limited = held.limited o in
          room_fits (contents f.names f.trees tables) tables.ranges held.ranges o bounded parent refl index count (omega (arith, all, limited, few))

    -- ---- data that come behind all others

    module _ (node : ℕ) (node< : node < length d.names) (bounds : HasBounds (part_of d.world (owner_in d node)))
        (holds_data : has_data (kind_of (trees_in d node) (name_in d node)) ≡ true)
        (same : (node_in f.trees (name_at f.names node)).text ≡ (node_in (trees_in d node) (name_in d node)).text) where
      -- they move no point of anyone
      pub data_behind : (size : ℕ) (q : Owner) → ranges_of tables.ranges q ≡ ends_by
          (after_replace_data nat_eq node (length (node_in f.trees (name_at f.names node)).text) 0 size) (ranges_of tables.ranges q)
      data_behind size q =
          let x : NodeName = name_at f.names node in
          let here : Part = part_in (contents f.names f.trees tables) x.owner in
          let is_data : has_data (kind_of here.trees x) ≡ true =
          part_known (λ p ns. has_data (kind_of p.trees (name_at ns node)) ≡ true) node node< holds_data in
          let text : (node_in here.trees x).text ≡ (node_in f.trees x).text =
          part_known (λ p ns. (node_in p.trees (name_at ns node)).text ≡ (node_in f.trees x).text) node node< (sym same) in
          let size_is : length_of here.trees x ≡ length (node_in f.trees x).text =
          cond-true (has_data (kind_of here.trees x)) (length (node_in here.trees x).text) (length (children_of here.trees x)) is_data
          ∙ ap (length {A = ℕ}) text in
          sym (subst (λ n. ends_by (after_replace_data nat_eq node n 0 size) (ranges_of tables.ranges q) ≡ ranges_of tables.ranges q) size_is
          (behind_stay (contents f.names f.trees tables) tables.ranges held.ranges x.owner (part_known (λ p ns. HasBounds p) node node< bounds)
          node refl size q))

    -- ---- data that come

    module _ (node offset count : ℕ) (new : DomString) (node< : node < length d.names) (may : MayCome (part_of d.world (owner_in d node)) (name_in d node) new)
        (there : count ≤ length (node_in (trees_in d node) (name_in d node)).text - offset) (before : offset < 2 ^ 64)
        (after : length (replaced offset count new (node_in f.trees (name_at f.names node)).text) < 2 ^ 64)
        (same : (node_in f.trees (name_at f.names node)).text ≡ (node_in (trees_in d node) (name_in d node)).text) where
      abbrev own : Owner
      own = (name_at f.names node).owner

      abbrev part : Part
      part = part_in (contents f.names f.trees tables) own

      -- no more code units than there may be
      sized : length (node_in (trees_in d node) (name_in d node)).text + length new - count < 2 ^ 64
      sized =
          let longer = length-replaced offset count new (node_in f.trees (name_at f.names node)).text in
          let old = ap (length {A = ℕ}) same in
          omega (arith, longer, old, there, after)

      text_here : length (node_in part.trees (name_at f.names node)).text + length new - count < 2 ^ 64
      text_here = part_known (λ p ns. length (node_in p.trees (name_at ns node)).text + length new - count < 2 ^ 64) node node< sized

      module _ (size : ℕ) (is_size : size ≡ length new) where
        pub data_asks : EachFits tables.ranges (after_replace_data nat_eq node offset count size)
        data_asks =
            subst (λ n. EachFits tables.ranges (after_replace_data nat_eq node offset count n)) (sym is_size)
            (by (let least : 0 ≤ length new = omega arith in eq-or-lt_of_le least))
          where
            by : (0 ≡ length new) ⊎ (0 < length new) → EachFits tables.ranges (after_replace_data nat_eq node offset count (length new))
            by (inl none) = data_fits_shorter (contents f.names f.trees tables) tables.ranges held.ranges own node offset count (length new)
                before (omega (arith, none))
            by (inr some) =
                let asked = part_known (λ p ns. MayCome p (name_at ns node) new) node node< may some in
                let size : length_of part.trees (name_at f.names node) ≡ length (node_in part.trees (name_at f.names node)).text =
                cond-true (has_data (kind_of part.trees (name_at f.names node))) (length (node_in part.trees (name_at f.names node)).text)
                (length (children_of part.trees (name_at f.names node))) asked.1 in
                data_fits (contents f.names f.trees tables) tables.ranges held.ranges own asked.0 node refl offset count (length new) before
                (let here = text_here in omega (arith, size, here))

        -- the step
        module _ (apart : TellApart f.names) (live : RangeLists)
            (moved : (q : Owner) → ranges_of live q ≡ ends_by (after_replace_data nat_eq node offset count size) (ranges_of tables.ranges q))
            (g : NamedTrees) (names : g.names ≡ f.names)
            (trees : g.trees ≡ change_node (with_data_replaced offset count new) (name_at f.names node) f.trees) where
          abbrev was : Contents
          was = contents f.names f.trees tables

          abbrev h : Trees → Trees
          h = change_node (with_data_replaced offset count new) (name_at f.names node)

          change : IsOwnChange own h f.trees
          change = changed_node f.trees held.owned own (with_data_replaced offset count new) (name_at f.names node) (λ n. refl) refl

          node_is : node < length f.names
          node_is = known f held is_d (λ e. node < length e.names) node<

          moved_new : (q : Owner) → ranges_of live q ≡ ends_by (after_replace_data nat_eq node offset count (length new)) (ranges_of tables.ranges q)
          moved_new q = moved q ∙ ap (λ n. ends_by (after_replace_data nat_eq node offset count n) (ranges_of tables.ranges q)) is_size

          told : IsChangeOf was (ranged live (contents f.names (h f.trees) tables)) own
              (part_step (part_in was own) (replace_data (name_at f.names node) offset count new))
              × Holds was tables.ranges live held.ranges own (after_replace_data nat_eq node offset count (length new)) (contents f.names (h f.trees) tables)
          told =
              ruled was tables.ranges live held.ranges own (after_replace_data nat_eq node offset count (length new))
              (after_replace_data name_eq (name_at f.names node) offset count (length new))
              (replace_data-named f.names apart node offset count (length new) node_is)
              (replace_data_rule own (name_at f.names node) offset count (length new) refl) moved_new {b = contents f.names (h f.trees) tables} refl record {
                owners = refl;
                signalled = refl;
                tasks = refl;
                own = ap (λ us. part_with own us (count_of own f.names) (was.tables own)) change.own;
                others = λ q other. ap (λ us. part_with q us (count_of q f.names) (was.tables q)) (change.others q other);
              }

          stand : AreRangesOf (contents f.names (h f.trees) (with_live tables live)) live
          stand = told.1 (subst (λ n. EachFits tables.ranges (after_replace_data nat_eq node offset count n)) is_size data_asks)

          -- what is held then, and the state
          pub data_done : AreSlotsOf (named_trees f.names (change_node (with_data_replaced offset count new) (name_at f.names node) f.trees)) tables.slots
              → IsDoc g.names g.trees (with_live tables live)
              × (state_from g.names g.trees (with_live tables live) ≡ stepped (owner_in d node) (replace_data (name_in d node) offset count new) d)
          data_done slots = (
            subst (λ (ns : List NodeName). IsDoc ns g.trees (with_live tables live)) (sym names)
                (subst (λ (us : Trees). IsDoc f.names us (with_live tables live)) (sym trees)
                (held_live f.names (h f.trees) tables
                (held_changed f.names f.trees tables held own (owner_there f held is_d node node<) h change
                (keeps_changed (with_data_replaced offset count new) (λ n. refl) (name_at f.names node) f.trees) slots) live stand)),
            subst (λ (e : DocState). state_from g.names g.trees (with_live tables live) ≡ stepped (owner_in e node)
                (replace_data (name_in e node) offset count new) e) is_d
                (ap (λ ns. state_from ns g.trees (with_live tables live)) names
                ∙ (ap (λ us. state_from f.names us (with_live tables live)) trees
                ∙ ap (λ w. state_with f.names w)
                (plain_step was tables.slots.hosts (are_hosts f.names f.trees tables held) own (owner_there f held is_d node node<)
                (ranged live (contents f.names (h f.trees) tables)) (replace_data (name_at f.names node) offset count new) tt told.0))),
          )

-- each owner's part in the world, whoever is there
pub part_everywhere : (f : NamedTrees) {tables : AllTables} → IsDoc f.names f.trees tables → StandOnce f → StandAlone f → (o : Owner) →
    IsPart (part_of (world_from f.names f.trees tables) o)
part_everywhere f {tables} held once only o =
    let c = contents f.names f.trees tables in
    elim (cases_Bool (is_there (world_from f.names f.trees tables) o)) [
      | inl there ↦ subst IsPart (sym (part_at c o there)) (own_part c held.owned once only held.numbered o)
      | inr off ↦ subst IsPart (sym (part_off c o off))
          record { unique = λ x. omega arith; owned = λ x there. absurd (omega arith); numbered = λ x there. absurd (omega arith) }
    ]
