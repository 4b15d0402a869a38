-- What holds of a `Doc` holds with one node more, and at first.
use Rattle.dom_mutation.proofs.Cited.{◌≡◌, ℕ, ◌+◌, ◌<◌, ◌≤◌, ◌⊎◌, inl, inr, true, cond, List, [], ◌∷◌, ◌++◌, length, Option, Result, Ok, Err, refl, sym, ap}
use Rattle.dom_mutation.proofs.Cited.{subst, ◌∙◌, ◌≢◌, arith, add-one, suc, OnOk, OnErr, ◌↔◌, cases_Bool, length_push, eq-or-lt_of_le, add-zero, get_or-append}
use Rattle.dom_mutation.proofs.Cited.{get_or-append_seam, All-nil, Fault, Refused, Limit, NodeName, Owner, Page, name_eq, is_in, owner_eq, node_of, Trees, none}
use Rattle.dom_mutation.proofs.Cited.{Node, with_node, with_name, make, part_of, is_there, world_step, empty_part, Range, owner_eq-same, owner_eq-true}
use Rattle.dom_mutation.proofs.Cited.{ne-owner_eq, NamedTrees, name_at, count_of, trees_of_owner, IsOwnChange, TellApart, added, named_ranges, RangeList}
use Rattle.dom_mutation.proofs.Cited.{RangeLists, ranges_of, IsKey, speaks_none, Tables, part_with, tables_view, AllTables, no_slots, first_tables, AreFirst}
use Rattle.dom_mutation.proofs.Cited.{with_live, DocState, named_trees, shown_tables, contents, world_from, state_from, nothing_left, IsDoc, attached_of}
use Rattle.dom_mutation.proofs.Cited.{AreSlotsOf, StandsOnce, HasOneMore, slots-more, none-some, true≢false}
use Rattle.dom_slots.specs.declared.index.Bearer.TheVariants.{Only}
use Rattle.dom_model.proofs.Model.{next_name as part_next}
use Rattle.dom_mutation.proofs.HostedSteps.{names_pushed, made_renamed, attached_renamed, plain_step}
use Rattle.dom_mutation.proofs.Worlds.{part_at}
use Rattle.dom_mutation.proofs.Keeping.{tables_more, view_same, speaks_grown}
use Rattle.dom_mutation.proofs.Numbers.{count_more, numbered_more}
use Rattle.dom_mutation.proofs.RangedKeeping.{ranges_grown, named_grown}
use Rattle.dom_mutation.proofs.RangedOwners.{ranges_none}
use Rattle.dom_mutation.proofs.DocInvariant.{no_cursors, are_hosts, held_with}
use Rattle.dom_tree.specs.Definitions.{next_name}
use Rattle.dom_mutation.proofs.NamesByKey.{names_grown}

-- ---- one node more

module _ (names : List NodeName) (ts : Trees) (tables : AllTables) (held : IsDoc names ts tables) (o : Owner)
    (there : is_there (world_from names ts tables) o ≡ true)
    (n : Node) (is : n.name ≡ next_name o names) (new : (k : ℕ) → k < length names → name_at names k ≢ next_name o names) where
  abbrev grown : List NodeName
  grown = names ++ next_name o names ∷ []

  own_change : IsOwnChange o (with_node n) ts
  own_change = added ts held.owned o n (ap (λ (x : NodeName). x.owner) is)

  -- nobody has too many nodes
  limited_more : count_of o names ≢ 1000000 → (p : Owner) → count_of p grown ≤ 1000000
  limited_more room p = elim (cases_Bool (owner_eq o p)) [
    | inl e ↦
        let same = ap (λ (q : Owner). count_of q names) (owner_eq-true o p e) in
        let more : count_of p grown ≡ count_of p names + 1 = rw e at (count_more p names (next_name o names)) in
        let few = held.limited o in
        omega arith
    | inr e ↦
        let more : count_of p grown ≡ count_of p names + 0 = rw e at (count_more p names (next_name o names)) in
        let few = held.limited p in
        omega arith
  ]

  -- the owner of each node is there
  present_more : (k : ℕ) → k < length grown → is_there (world_from names ts tables) (name_at grown k).owner ≡ true
  present_more k k< = at (let within : k ≤ length names = omega (arith, length_push names (next_name o names)) in eq-or-lt_of_le within)
    where
      at : (k ≡ length names) ⊎ (k < length names) → is_there (world_from names ts tables) (name_at grown k).owner ≡ true
      at (inl same) = ap (λ (y : NodeName). is_there (world_from names ts tables) y.owner)
          (ap (λ j. name_at grown j) same ∙ get_or-append_seam names (next_name o names) [] (node_of Page 0)) ∙ there
      at (inr h) = ap (λ (y : NodeName). is_there (world_from names ts tables) y.owner)
          (get_or-append names (next_name o names ∷ []) (node_of Page 0) k h) ∙ held.present k h

  pub held_more : count_of o names ≢ 1000000 → AreSlotsOf (named_trees (names ++ next_name o names ∷ []) (with_node n ts)) tables.slots →
      IsDoc (names ++ next_name o names ∷ []) (with_node n ts) tables
  held_more room slots =
      held_with names ts tables held o there grown (with_node n ts) tables refl record {
        owned = own_change.owned;
        apart = own_change.others;
        named = record {
          present = present_more;
          limited = limited_more room;
          made = made_renamed names grown (names_pushed names (next_name o names)) [] tables.slots.hosts tt held.signals.slots.hosts held.made;
          numbered = numbered_more names o held.numbered;
        };
        own = λ p. tables_more names (next_name o names) ts n is new (held.own p);
        idle = held.idle;
        signals = record {
          slots = slots;
          nodes = names_grown names (next_name o names) tables.signalled held.signals.nodes;
        };
        speaks = λ p. speaks_grown names (next_name o names) (tables.observers p) (held.speaks p);
        unobserved = held.unobserved;
        due = held.due;
        ranges = ranges_grown (contents grown (with_node n ts) tables) (next_name o names) held.ranges refl refl
            (named_grown names (next_name o names) tables.ranges held.ranges.own);
      }

  -- each owner's tables are the same in names
  view_grown : (q : Owner)
      → shown_tables grown tables.slots.hosts q (tables.each q) (tables.observers q) (ranges_of tables.ranges q) ≡ shown_tables names
      tables.slots.hosts q (tables.each q) (tables.observers q) (ranges_of tables.ranges q)
  view_grown q =
      let rs = ranges_of tables.ranges q in
      let view = tables_view names (tables.each q) (tables.observers q) in
      ap (λ (t : Tables). with_those t (attached_of grown tables.slots.hosts q) (named_ranges grown rs))
      (view_same names (next_name o names) ts q (tables.each q) (tables.observers q) (held.own q) (held.speaks q))
      ∙ (ap (λ xs. with_those view xs (named_ranges grown rs)) (hosts_grown q) ∙ ap (with_those view (attached_of names tables.slots.hosts q))
      (named_grown names (next_name o names) tables.ranges held.ranges.own q))
    where
      with_those : Tables → List NodeName → List (Option (Range NodeName)) → Tables
      with_those t xs rs = record t { attached = xs; ranges = rs }

      hosts_grown : (p : Owner) → attached_of grown tables.slots.hosts p ≡ attached_of names tables.slots.hosts p
      hosts_grown p = sym (attached_renamed names grown (names_pushed names (next_name o names)) tables.slots.hosts p held.signals.slots.hosts)

  -- the world with one node more
  world_more : world_from (names ++ next_name o names ∷ []) (with_node n ts) tables ≡ world_step o (world_from names ts tables) (make n)
  world_more =
      plain_step (contents names ts tables) tables.slots.hosts (are_hosts names ts tables held) o there (contents grown (with_node n ts) tables)
      (make n) tt record {
        owners = refl;
        signalled = refl;
        tasks = refl;
        own = ap (λ us. part_with o us (count_of o grown)
            (shown_tables grown tables.slots.hosts o (tables.each o) (tables.observers o) (ranges_of tables.ranges o))) own_change.own
            ∙ ap (λ k. part_with o (with_node n (trees_of_owner o ts)) k
            (shown_tables grown tables.slots.hosts o (tables.each o) (tables.observers o) (ranges_of tables.ranges o))) more_own
            ∙ ap (λ t. part_with o (with_node n (trees_of_owner o ts)) (suc (count_of o names)) t) (view_grown o)
            ∙ ap (λ (x : NodeName). part_with o (with_node (with_name x n) (trees_of_owner o ts)) (suc (count_of o names))
            (shown_tables names tables.slots.hosts o (tables.each o) (tables.observers o) (ranges_of tables.ranges o))) is;
        others = λ q other.
            ap (λ us. part_with q us (count_of q grown)
            (shown_tables grown tables.slots.hosts q (tables.each q) (tables.observers q) (ranges_of tables.ranges q)))
            (own_change.others q other)
            ∙ ap (λ k. part_with q (trees_of_owner q ts) k
            (shown_tables grown tables.slots.hosts q (tables.each q) (tables.observers q) (ranges_of tables.ranges q))) (more_other q other)
            ∙ ap (λ t. part_with q (trees_of_owner q ts) (count_of q names) t) (view_grown q);
      }
    where
      more_own : count_of o (names ++ next_name o names ∷ []) ≡ suc (count_of o names)
      more_own = count_more o names (next_name o names) ∙ ap (λ b. count_of o names + cond b 1 0) (owner_eq-same o) ∙ add-one (count_of o names)

      more_other : (q : Owner) → q ≢ o → count_of q (names ++ next_name o names ∷ []) ≡ count_of q names
      more_other q other = count_more q names (next_name o names) ∙
          ap (λ b. count_of q names + cond b 1 0) (ne-owner_eq o q (λ e. other (sym e))) ∙ add-zero (count_of q names)

abbrev trees_named : List NodeName → Trees → NamedTrees
trees_named ns ts = record { names = ns; trees = ts }

-- an owner's next name, as its part says it and as the names of all nodes do
next_same : (names : List NodeName) (ts : Trees) (tables : AllTables) (o : Owner) → is_there (world_from names ts tables) o ≡ true →
    part_next (part_of (world_from names ts tables) o) ≡ next_name o names
next_same names ts tables o there = ap part_next (part_at (contents names ts tables) o there)

-- what a call that makes a node ensures
abbrev pub Added : NamedTrees → AllTables → Owner → (List NodeName → NodeName → Node) → {T : Type 0} → Result T Fault → DocState → Type 0
Added g tables o n r d =
    OnOk r (g.names ≡ d.names ++ part_next (part_of d.world o) ∷ [])
    × OnOk r (world_from g.names g.trees tables ≡ world_step o d.world (make (n d.names (part_next (part_of d.world o)))))

module _ (f g : NamedTrees) {tables : AllTables} (held : IsDoc f.names f.trees tables) (o : Owner)
    (there : is_there (world_from f.names f.trees tables) o ≡ true)
    (n : List NodeName → NodeName → Node) (own_name : (ns : List NodeName) (x : NodeName) → (n ns x).name ≡ x) (apart : TellApart g.names)
    (stands : StandsOnce g) where
  -- the new name is none of the others
  new_name : g.names ≡ f.names ++ next_name o f.names ∷ [] → (k : ℕ) → k < length f.names → name_at f.names k ≢ next_name o f.names
  new_name names k less same =
      let longer = length_push f.names (next_name o f.names) in
      let all : TellApart (f.names ++ next_name o f.names ∷ []) = subst TellApart names apart in
      let one = all k (length f.names) (omega arith) (omega arith)
      (get_or-append f.names (next_name o f.names ∷ []) (node_of Page 0) k less ∙ same ∙
      sym (get_or-append_seam f.names (next_name o f.names) [] (node_of Page 0))) in
      omega arith

  one_more : g.names ≡ f.names ++ next_name o f.names ∷ [] → g.trees ≡ with_node (n f.names (next_name o f.names)) f.trees →
      HasOneMore f g (n f.names (next_name o f.names))
  one_more names trees = record {
    names = names ∙ ap (λ (y : NodeName). f.names ++ y ∷ []) (sym (own_name f.names (next_name o f.names)));
    trees = trees;
    distinct = apart;
    stands = stands;
  }

  added_at : {T : Type 0} (r : Result T Fault) → OnOk r (g.names ≡ f.names ++ next_name o f.names ∷ []) →
      OnOk r (g.trees ≡ with_node (n f.names (next_name o f.names)) f.trees)
      → ((r ≡ Err (Refused Limit)) ↔ (count_of o f.names ≡ 1000000)) → OnErr r (g ≡ f)
      → IsDoc g.names g.trees tables × Added g tables o n r (state_from f.names f.trees tables)
  added_at (Ok x) names trees limit same =
      let next = next_same f.names f.trees tables o there in
      let room : count_of o f.names ≢ 1000000 = λ full. let h = limit.1 full in cc in
      let new = new_name names in
      let both : g ≡ trees_named (f.names ++ next_name o f.names ∷ []) (with_node (n f.names (next_name o f.names)) f.trees) =
      ap (λ ns. trees_named ns g.trees) names ∙ ap (trees_named (f.names ++ next_name o f.names ∷ [])) trees in (
        subst (λ (p : NamedTrees). IsDoc p.names p.trees tables) (sym both)
            (held_more f.names f.trees tables held o there (n f.names (next_name o f.names)) (own_name f.names (next_name o f.names)) new room
            (subst (λ (p : NamedTrees). AreSlotsOf p tables.slots) both
            (slots-more f g (n f.names (next_name o f.names)) (one_more names trees) tables.slots held.signals.slots))),
        (
          names ∙ ap (λ (y : NodeName). f.names ++ y ∷ []) (sym next),
          ap (λ (p : NamedTrees). world_from p.names p.trees tables) both
              ∙ world_more f.names f.trees tables held o there (n f.names (next_name o f.names)) (own_name f.names (next_name o f.names)) new
              ∙ ap (λ (y : NodeName). world_step o (world_from f.names f.trees tables) (make (n f.names y))) (sym next),
        ),
      )
  added_at (Err e) names trees limit same = (subst (λ (p : NamedTrees). IsDoc p.names p.trees tables) (sym same) held, (tt, tt))

-- a forest before and after a call for one more node of the owner's, and what the call answers
pub record AsksNode {T : Type 0} (f g : NamedTrees) (o : Owner) (n : List NodeName → NodeName → Node) (r : Result T Fault) : Type 0 where
  pub own_name : (ns : List NodeName) (x : NodeName) → (n ns x).name ≡ x
  pub apart : TellApart g.names
  pub stands : StandsOnce g
  pub names : OnOk r (g.names ≡ f.names ++ next_name o f.names ∷ [])
  pub trees : OnOk r (g.trees ≡ with_node (n f.names (next_name o f.names)) f.trees)
  pub limit : (r ≡ Err (Refused Limit)) ↔ (count_of o f.names ≡ 1000000)
  pub same : OnErr r (g ≡ f)

module _ {T : Type 0} {f g : NamedTrees} {o : Owner} {n : List NodeName → NodeName → Node} {r : Result T Fault} (asks : AsksNode f g o n r) where
  -- a document has the node then, where one is made
  pub added_held : {tables : AllTables} {d : DocState} → state_from f.names f.trees tables ≡ d → IsDoc f.names f.trees tables → is_there d.world o ≡ true →
      IsDoc g.names g.trees tables × Added g tables o n r d
  added_held {tables} is_d held there =
      subst (λ (e : DocState). is_there e.world o ≡ true → IsDoc g.names g.trees tables × Added g tables o n r e) is_d
      (λ h. added_at f g held o h n asks.own_name asks.apart asks.stands r asks.names asks.trees asks.limit asks.same) there

-- where none is made nothing changes
pub not_added : (f g : NamedTrees) (tables : AllTables) {d : DocState} → state_from f.names f.trees tables ≡ d → {T E : Type 0} (r : Result T E) →
    OnErr r (g ≡ f) → OnErr r (state_from g.names g.trees tables ≡ d)
not_added f g tables is_d (Ok x) same = tt
not_added f g tables is_d (Err e) same = ap (λ (p : NamedTrees). state_from p.names p.trees tables) same ∙ is_d

-- ---- the first node

-- without hosts there is nothing in a table of slots
no_slots_of : (f : NamedTrees) → AreSlotsOf f no_slots
no_slots_of f = record {
  hosts = tt;
  table = record { nodes = λ k. All-nil (λ j. j < length f.names); lists = λ k within. refl; beyond = λ k far. refl };
  bare = λ r e. absurd (true≢false (sym e));
  index = record { covered = λ r k h root within hosted. absurd (none-some h hosted); inside = λ h k only. absurd (none-some (Only k) only) };
  parked = λ p is. absurd (none-some p is);
}

-- without nodes, where the page alone is there
pub empty_held : (rs : RangeLists) → ((o : Owner) → ranges_of rs o ≡ []) → IsDoc [] none (with_live first_tables rs)
empty_held rs empty = record {
  owned = record { owners = tt; order = tt };
  present = λ k k<. absurd (omega arith);
  absent = λ o off. refl;
  limited = λ o. omega arith;
  made = tt;
  signals = record { slots = no_slots_of (named_trees [] none); nodes = All-nil (λ x. is_in name_eq x [] ≡ true) };
  own = no_cursors (named_trees [] none);
  idle = λ o off. refl;
  speaks = λ o. speaks_none (IsKey []);
  unobserved = λ o off. refl;
  due = tt;
  ranges = ranges_none (contents [] none (with_live first_tables rs)) rs empty (λ o. ap (named_ranges []) (empty o));
  numbered = λ k k<. absurd (omega arith);
}

-- so is what was given up
pub given_up : (g : NamedTrees) (tables : AllTables) → g ≡ record { names = []; trees = none } → AreFirst tables → IsDoc g.names g.trees tables
given_up g tables empty first =
    subst (λ (p : NamedTrees). IsDoc p.names p.trees tables) (sym empty) (subst (IsDoc [] none) (sym first.all) (empty_held tables.ranges first.no_ranges))

-- and it shows nothing
pub nothing_shown : (g : NamedTrees) (tables : AllTables) → g ≡ record { names = []; trees = none } → AreFirst tables →
    state_from g.names g.trees tables ≡ nothing_left
nothing_shown g tables empty first =
    ap (λ (p : NamedTrees). state_from p.names p.trees tables) empty ∙ (ap (state_from [] none) first.all ∙ ap with_ranges (first.no_ranges Page))
  where
    with_ranges : RangeList → DocState
    with_ranges rs = record nothing_left { world = record nothing_left.world { parts = record (empty_part Page) { ranges = named_ranges [] rs } ∷ [] } }

-- with the first one
pub first_held : (g : NamedTrees) {tables : AllTables} (n : Node) → n.name ≡ node_of Page 0 → AreFirst tables → g.names ≡ node_of Page 0 ∷ [] →
    g.trees ≡ with_node n none → IsDoc g.names g.trees tables
first_held g {tables} n is one names trees =
    let first = with_live first_tables tables.ranges in
    subst (IsDoc g.names g.trees) (sym one.all)
    (subst (λ ns. IsDoc ns g.trees first) (sym names)
    (subst (λ ts. IsDoc (node_of Page 0 ∷ []) ts first) (sym trees)
    (held_more [] none first (empty_held tables.ranges one.no_ranges) Page refl n is (λ k less. absurd (omega arith)) (λ e. omega arith)
    (no_slots_of (named_trees (node_of Page 0 ∷ []) (with_node n none))))))
