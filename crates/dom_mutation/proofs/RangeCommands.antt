-- The commands on live ranges: what their calls ask, what holds after them, and that they do what the model says of the command.
use Rattle.dom_mutation.proofs.Cited.{◌≡◌, ℕ, ◌<◌, ◌≤◌, ◌^◌, ◌⊎◌, inl, inr, Bool, true, false, true≢false, cond, List, [], ◌∷◌, ◌++◌, length, Some, None}
use Rattle.dom_mutation.proofs.Cited.{Result, Ok, Err, is_some, refl, sym, ap, subst, ◌∙◌, ⊤, not, ◌&&◌, if◌then◌else◌, IsSome, IfOk, IfErr, OnOk, OnErr}
use Rattle.dom_mutation.proofs.Cited.{◌↔◌, option_map, slice_set, cases_Bool, false_from_ne_true, on_ok_weaker, Fault, Refused, Refusal, Limit, Unknown}
use Rattle.dom_mutation.proofs.Cited.{IndexSize, NodeName, Owner, Command, NodeWord, effect, past_limit, past_end, Effect, node_of, owner_eq}
use Rattle.dom_mutation.proofs.Cited.{owner_eq-true, Value, nothing, a_range, boundaries, Part, range_at, Range, at, from_to, length_of, part_of, is_there}
use Rattle.dom_mutation.proofs.Cited.{named_boundary, named_range, named_ranges, start_set, end_set, have_one_root, is_key_before, RangeList, RangeLists}
use Rattle.dom_mutation.proofs.Cited.{EachRange, BothEnds, ranges_of, range_in, range_from, with_ranges, collapsed_range, Points, stand-at, StandOnce}
use Rattle.dom_mutation.proofs.Cited.{StandAlone, NamedTrees, name_at, Contents, part_in, world_of, DocState, contents, world_from}
use Rattle.dom_mutation.proofs.Cited.{state_from, IsDoc, Makes, name_in, owner_in, AllTables, with_live, IsOwnPoint, AreRangesOf, ranged}
use Rattle.dom_mutation.proofs.DocInvariant.{single_owners, held_live}
use Rattle.dom_mutation.proofs.RangedCalls.{set_makes, set_ranges, make_effect, drop_effect, collapse_effect, points_effect, start_effect, end_effect}
use Rattle.dom_mutation.proofs.RangedCalls.{range_read, made_own, made_few, dropped_own, rewritten_own, written_few}
use Rattle.dom_mutation.proofs.RangedRefusals.{limit_read, end_read}
use Rattle.dom_mutation.proofs.ReadyCalls.{SetsEnd}
use Rattle.dom_mutation.proofs.Worlds.{part_at, part_off, there_same}
use Rattle.dom_laws.proofs.Laws.{is_some-map}

-- the same ranges in another list of lists
ranges_equal : (c : Contents) (t u : RangeLists) → ((q : Owner) → ranges_of u q ≡ ranges_of t q) → AreRangesOf c t → AreRangesOf (ranged u c) u
ranges_equal c t u same h = record {
  shown = λ q. refl;
  own = λ q. subst (EachRange (BothEnds (IsOwnPoint c.names q))) (sym (same q)) (h.own q);
  few = λ q. subst (λ (rs : RangeList). length rs ≤ 1000000) (sym (same q)) (h.few q);
  absent = λ q off. same q ∙ h.absent q (sym (there_same (ranged u c) c refl q) ∙ off);
}

-- the ends of an owner's live range, each a node of the owner and an offset
pub record AreEndsOf (d : DocState) (o : Owner) (k : ℕ) (start end : ℕ × ℕ) : Type 0 where
  pub start_is_node : start.0 < length d.names
  pub end_is_node : end.0 < length d.names
  pub own_start : owner_in d start.0 ≡ o
  pub own_end : owner_in d end.0 ≡ o
  pub value : Makes o (Command.range_get k) (boundaries (at (name_in d start.0) start.1) (at (name_in d end.0) end.1)) d.world d.world

-- what a call leaves that sets one end of a range by a command, or is refused
pub record EndIsSet (f : NamedTrees) (tables : AllTables) (d : DocState) (o : Owner) (node offset : ℕ) (u : RangeLists) (command : Command)
    (r : Result ⊤ Refusal) : Type 0 where
  pub held : IsDoc f.names f.trees (with_live tables u)
  pub says : SetsEnd o command node offset r d (state_from f.names f.trees (with_live tables u))

module _ (f : NamedTrees) {tables : AllTables} (held : IsDoc f.names f.trees tables) {d : DocState}
    (is_d : state_from f.names f.trees tables ≡ d) (o : Owner) where
  abbrev c : Contents
  c = contents f.names f.trees tables

  abbrev own : RangeList
  own = ranges_of tables.ranges o

  -- the range of a number, whoever is there
  pub range_is : (k : ℕ) → is_some (range_in own k) ≡ is_some (range_at (part_of d.world o) k)
  range_is k =
      subst (λ (e : DocState). is_some (range_in own k) ≡ is_some (range_at (part_of e.world o) k)) is_d
      (elim (cases_Bool (is_there (world_from f.names f.trees tables) o)) [
        | inl there ↦ sym (ap (λ p. is_some (range_at p k)) (part_at c o there) ∙
            (ap is_some (range_read c tables.ranges held.ranges o k) ∙ is_some-map (named_range f.names) (range_in own k)))
        | inr off ↦ ap (λ rs. is_some (range_in rs k)) (held.ranges.absent o off) ∙ ap (λ p. is_some (range_at p k)) (sym (part_off c o off))
      ])

  -- and then its owner is there
  pub there_range : (k : ℕ) → is_some (range_at (part_of d.world o) k) ≡ true → is_there (world_from f.names f.trees tables) o ≡ true
  there_range k h = elim (cases_Bool (is_there (world_from f.names f.trees tables) o)) [
    | inl there ↦ there
    | inr off ↦ absurd (true≢false (sym (range_is k ∙ h) ∙ ap (λ rs. is_some (range_in rs k)) (held.ranges.absent o off)))
  ]

  -- nothing changes where no range does
  pub same_live : (u : RangeLists) → ((q : Owner) → ranges_of u q ≡ ranges_of tables.ranges q) → state_from f.names f.trees (with_live tables u) ≡ d
  same_live u same = (λ j. build (λ q. same q j)) ∙ is_d
    where
      build : (Owner → RangeList) → DocState
      build rs = record { names = f.names; world = world_of (record c { tables = λ q. record (c.tables q) { ranges = named_ranges f.names (rs q) } }) }

  pub same_held : (u : RangeLists) → ((q : Owner) → ranges_of u q ≡ ranges_of tables.ranges q) → IsDoc f.names f.trees (with_live tables u)
  same_held u same = held_live f.names f.trees tables held u (ranges_equal c tables.ranges u same held.ranges)

  module _ (there : is_there (world_from f.names f.trees tables) o ≡ true) (u : RangeLists) where
    -- the owner's ranges are others
    module _ (rs : RangeList) (set : (q : Owner) → ranges_of u q ≡ with_ranges tables.ranges o rs q) where
      pub live_makes : (command : List NodeName → Command) (v : Value) →
          effect (part_in c o) (command f.names) ≡ Effect.tables (record (part_in c o) { ranges = named_ranges f.names rs }) [] v
          → Makes o (command d.names) v d.world (world_from f.names f.trees (with_live tables u))
      live_makes command v is =
          subst (λ (e : DocState). Makes o (command e.names) v e.world (world_from f.names f.trees (with_live tables u))) is_d
          (set_makes c tables.ranges u held.ranges o there rs set (single_owners f.names f.trees tables held) (command f.names) v is)

      pub live_held : EachRange (BothEnds (IsOwnPoint f.names o)) rs → length rs ≤ 1000000 → IsDoc f.names f.trees (with_live tables u)
      live_held stand few = held_live f.names f.trees tables held u (set_ranges c tables.ranges u held.ranges o there rs set stand few)

  -- where a call fails
  pub same_if : (u : RangeLists) {T E : Type 0} (r : Result T E) → OnErr r ((q : Owner) → ranges_of u q ≡ ranges_of tables.ranges q) →
      OnErr r (state_from f.names f.trees (with_live tables u) ≡ d)
  same_if u (Ok x) same = tt
  same_if u (Err e) same = same_live u same

  -- ---- a range is made

  module _ (node : ℕ) (is_node : node < length d.names) (is_first : name_in d node ≡ node_of o 0) where
    at_node : node < length f.names
    at_node = subst (λ (e : DocState). node < length e.names) (sym is_d) is_node

    first : name_at f.names node ≡ node_of o 0
    first = subst (λ (e : DocState). name_in e node ≡ node_of o 0) (sym is_d) is_first

    there_first : is_there (world_from f.names f.trees tables) o ≡ true
    there_first = subst (λ p. is_there (world_from f.names f.trees tables) p ≡ true) (ap (λ (x : NodeName). x.owner) first) (held.present node at_node)

    -- where an owner has as many as it may
    pub range_limit : {P : Type 0} → (P ↔ (past_limit (length own) 1 ≡ true)) →
        P ↔ (past_limit (length (part_of d.world o).ranges) 1 ≡ true)
    range_limit {P} limit =
        subst (λ (e : DocState). P ↔ (past_limit (length (part_of e.world o).ranges) 1 ≡ true)) is_d
        (subst (λ (p : Part). P ↔ (past_limit (length p.ranges) 1 ≡ true)) (sym (part_at c o there_first))
        (subst (λ b. P ↔ (b ≡ true)) (limit_read c tables.ranges held.ranges o) limit))

    module _ (u : RangeLists) where
      abbrev one_more : RangeList
      one_more = own ++ Some (from_to (at node 0) (at node 0)) ∷ []

      pub make_held : (r : Result ℕ Fault) → OnOk r ((q : Owner) → ranges_of u q ≡ with_ranges tables.ranges o one_more q) →
          ((r ≡ Err (Refused Limit)) ↔ (past_limit (length own) 1 ≡ true))
          → OnErr r ((q : Owner) → ranges_of u q ≡ ranges_of tables.ranges q) → IsDoc f.names f.trees (with_live tables u)
      make_held (Ok n) set limit same =
          live_held there_first u one_more set (made_own c tables.ranges held.ranges o node at_node (ap (λ (x : NodeName). x.owner) first))
          (made_few c tables.ranges held.ranges o node (false_from_ne_true (past_limit (length own) 1) (λ h. let full = limit.1 h in cc)))
      make_held (Err e) set limit same = same_held u same

      pub make_makes : (r : Result ℕ Fault) → OnOk r ((q : Owner) → ranges_of u q ≡ with_ranges tables.ranges o one_more q) → IfOk r (λ n. n ≡ length own)
          → IfOk r (λ n. Makes o Command.range_new (a_range n) d.world (world_from f.names f.trees (with_live tables u)))
      make_makes (Ok n) set number =
          subst (λ k. Makes o Command.range_new (a_range k) d.world (world_from f.names f.trees (with_live tables u))) (sym number)
          (live_makes there_first u one_more set (λ ns. Command.range_new) (a_range (length own)) (make_effect c tables.ranges held.ranges o node first))
      make_makes (Err e) set number = tt

  -- ---- a range that is there is rewritten, or dropped, or read

  module _ (k : ℕ) (known : is_some (range_at (part_of d.world o) k) ≡ true) where
    there_now : is_there (world_from f.names f.trees tables) o ≡ true
    there_now = there_range k known

    module _ (u : RangeLists) where
      pub drop_held : ((q : Owner) → ranges_of u q ≡ with_ranges tables.ranges o (slice_set own k None) q) → IsDoc f.names f.trees (with_live tables u)
      drop_held set = live_held there_now u (slice_set own k None) set (dropped_own c tables.ranges held.ranges o k)
          (written_few c tables.ranges held.ranges o k None)

      pub drop_makes : ((q : Owner) → ranges_of u q ≡ with_ranges tables.ranges o (slice_set own k None) q) →
          Makes o (Command.range_drop k) nothing d.world (world_from f.names f.trees (with_live tables u))
      drop_makes set = live_makes there_now u (slice_set own k None) set (λ ns. Command.range_drop k) nothing (drop_effect c tables.ranges held.ranges o k)

      -- both ends at one
      abbrev collapsed : Bool → RangeList
      collapsed to_start = slice_set own k (option_map (collapsed_range to_start) (range_in own k))

      pub collapse_held : (to_start : Bool) → ((q : Owner) → ranges_of u q ≡ with_ranges tables.ranges o (collapsed to_start) q) →
          IsDoc f.names f.trees (with_live tables u)
      collapse_held to_start set =
          live_held there_now u (collapsed to_start) set (rewritten_own c tables.ranges held.ranges o k (collapsed_range to_start) (λ r h. by to_start r h))
          (written_few c tables.ranges held.ranges o k (option_map (collapsed_range to_start) (range_in own k)))
        where
          by : (b : Bool) (r : Range ℕ) → BothEnds (IsOwnPoint f.names o) r → BothEnds (IsOwnPoint f.names o) (collapsed_range b r)
          by true r h = (h.0, h.0)
          by false r h = (h.1, h.1)

      pub collapse_makes : (to_start : Bool) → ((q : Owner) → ranges_of u q ≡ with_ranges tables.ranges o (collapsed to_start) q) →
          Makes o (Command.range_collapse k to_start) nothing d.world (world_from f.names f.trees (with_live tables u))
      collapse_makes to_start set = live_makes there_now u (collapsed to_start) set (λ ns. Command.range_collapse k to_start) nothing
          (collapse_effect c tables.ranges held.ranges o k to_start)

    -- what is read
    points_makes : (r : Range ℕ) → range_in own k ≡ Some r →
        Makes o (Command.range_get k) (boundaries (named_boundary d.names r.start) (named_boundary d.names r.end)) d.world d.world
    points_makes r is =
        subst (λ (e : DocState). Makes o (Command.range_get k) (boundaries (named_boundary e.names r.start) (named_boundary e.names r.end))
        e.world e.world) is_d
        (set_makes c tables.ranges tables.ranges held.ranges o there_now own (λ q. sym (with_own q)) (single_owners f.names f.trees tables held)
        (Command.range_get k) (boundaries (named_boundary f.names r.start) (named_boundary f.names r.end))
        (points_effect c tables.ranges held.ranges o k r is))
      where
        with_own : (q : Owner) → with_ranges tables.ranges o own q ≡ ranges_of tables.ranges q
        with_own q = elim (cases_Bool (owner_eq o q)) [
          | inl e ↦ ap (λ b. cond b own (ranges_of tables.ranges q)) e ∙ ap (ranges_of tables.ranges) (owner_eq-true o q e)
          | inr e ↦ ap (λ b. cond b own (ranges_of tables.ranges q)) e
        ]

    -- its ends are the owner's
    pub points_are : (p : Points) → range_in own k ≡ Some (range_from p) → AreEndsOf d o k p.start p.end
    points_are p is =
        let h = stand-at (IsOwnPoint f.names o) own k (range_from p) (held.ranges.own o) is in
        record {
          start_is_node = subst (λ (e : DocState). p.start.0 < length e.names) is_d h.0.node;
          end_is_node = subst (λ (e : DocState). p.end.0 < length e.names) is_d h.1.node;
          own_start = subst (λ (e : DocState). owner_in e p.start.0 ≡ o) is_d h.0.owner;
          own_end = subst (λ (e : DocState). owner_in e p.end.0 ≡ o) is_d h.1.owner;
          value = points_makes (range_from p) is;
        }

    -- ---- an end is set

    module _ (once : StandOnce f) (only : StandAlone f) (node offset : ℕ) (at_node : node < length d.names) (own_node : owner_in d node ≡ o)
        (small : offset < 2 ^ 64) (u : RangeLists) where
      node_is : node < length f.names
      node_is = subst (λ (e : DocState). node < length e.names) (sym is_d) at_node

      node_own : (name_at f.names node).owner ≡ o
      node_own = subst (λ (e : DocState). owner_in e node ≡ o) (sym is_d) own_node

      point : IsOwnPoint f.names o (at node offset)
      point = record { node = node_is; owner = node_own; fits = small }

      -- one of two ranges at the owner's points
      either : (b : Bool) (r s : Range ℕ) → BothEnds (IsOwnPoint f.names o) r → BothEnds (IsOwnPoint f.names o) s →
          BothEnds (IsOwnPoint f.names o) (if b then r else s)
      either true r s h g = h
      either false r s h g = g

      -- what a call says that sets one of the ends, or is refused: g is what it does to the range
      pub record Says (g : Range ℕ → Range ℕ) (r : Result ⊤ Refusal) : Type 0 where
        pub set : OnOk r ((q : Owner) → ranges_of u q ≡ with_ranges tables.ranges o (slice_set own k (option_map g (range_in own k))) q)
        pub same : OnErr r ((q : Owner) → ranges_of u q ≡ ranges_of tables.ranges q)
        pub refused : (r ≡ Err IndexSize) ↔ (IsSome (range_in own k) × (length_of f.trees (name_at f.names node) < offset))
        pub unknown : (r ≡ Err Unknown) ↔ (range_in own k ≡ None)
        pub other : IfErr r (λ e. (e ≡ Unknown) ⊎ (e ≡ IndexSize))

      module _ (g : Range ℕ → Range ℕ) (r : Result ⊤ Refusal) (says : Says g r) where
        end_held : ((q : Range ℕ) → BothEnds (IsOwnPoint f.names o) q → BothEnds (IsOwnPoint f.names o) (g q)) → IsDoc f.names f.trees (with_live tables u)
        end_held keeps = by r says.set says.same
          where
            by : (r : Result ⊤ Refusal)
                → OnOk r ((q : Owner) → ranges_of u q ≡ with_ranges tables.ranges o (slice_set own k (option_map g (range_in own k))) q)
                → OnErr r ((q : Owner) → ranges_of u q ≡ ranges_of tables.ranges q) → IsDoc f.names f.trees (with_live tables u)
            by (Ok x) set same =
                live_held there_now u (slice_set own k (option_map g (range_in own k))) set (rewritten_own c tables.ranges held.ranges o k g keeps)
                (written_few c tables.ranges held.ranges o k (option_map g (range_in own k)))
            by (Err e) set same = same_held u same

        faults : (r : Result ⊤ Refusal) → ((r ≡ Err Unknown) ↔ (range_in own k ≡ None)) → IfErr r (λ e. (e ≡ Unknown) ⊎ (e ≡ IndexSize)) →
            IfErr r (λ e. e ≡ IndexSize)
        faults (Ok x) unknown other = tt
        faults (Err e) unknown (inl is) = absurd (true≢false (sym (range_is k ∙ known) ∙ ap is_some (unknown.0 (ap Err is))))
        faults (Err e) unknown (inr is) = is

        end_sets : (command : List NodeName → Command) → ((q : Range ℕ) → BothEnds (IsOwnPoint f.names o) q → BothEnds (IsOwnPoint f.names o) (g q))
            → effect (part_in c o) (command f.names)
            ≡ Effect.tables (record (part_in c o) { ranges = named_ranges f.names (slice_set own k (option_map g (range_in own k))) }) [] nothing
            → EndIsSet f tables d o node offset u (command d.names) r
        end_sets command keeps does = record {
          held = end_held keeps;
          says = record {
            names = ap (λ (e : DocState). e.names) is_d;
            world = on_ok_weaker r (λ is. live_makes there_now u (slice_set own k (option_map g (range_in own k))) is command nothing does) says.set;
            refused = subst (λ (e : DocState). (r ≡ Err IndexSize) ↔ (past_end (part_of e.world o) (name_in e node) offset ≡ true)) is_d
                (subst (λ p. (r ≡ Err IndexSize) ↔ (past_end p (name_at f.names node) offset ≡ true)) (sym (part_at c o there_now))
                (let both = end_read c tables.ranges held.ranges o held.owned node offset node_own in
                (λ p. both.0 (says.refused.0 p).1, λ e. says.refused.1 (range_is k ∙ known, both.1 e))));
            other = faults r says.unknown says.other;
            err = same_if u r says.same;
          };
        }

      pub start_sets : (r : Result ⊤ Refusal) → Says (start_set f (at node offset)) r
          → EndIsSet f tables d o node offset u (Command.range_start k (NodeWord.own (name_in d node).number) offset) r
      start_sets r says =
          end_sets (start_set f (at node offset)) r says (λ ns. Command.range_start k (NodeWord.own (name_at ns node).number) offset)
          (λ q h. either (have_one_root f (at node offset) q.end && not (is_key_before f q.end (at node offset)))
          (from_to (at node offset) q.end) (from_to (at node offset) (at node offset)) (point, h.1) (point, point))
          (start_effect c tables.ranges held.ranges held.owned once only o node node_is node_own k offset)

      pub end_is_set : (r : Result ⊤ Refusal) → Says (end_set f (at node offset)) r
          → EndIsSet f tables d o node offset u (Command.range_end k (NodeWord.own (name_in d node).number) offset) r
      end_is_set r says =
          end_sets (end_set f (at node offset)) r says (λ ns. Command.range_end k (NodeWord.own (name_at ns node).number) offset)
          (λ q h. either (have_one_root f (at node offset) q.start && not (is_key_before f (at node offset) q.start))
          (from_to q.start (at node offset)) (from_to (at node offset) (at node offset)) (h.0, point) (point, point))
          (end_effect c tables.ranges held.ranges held.owned once only o node node_is node_own k offset)
