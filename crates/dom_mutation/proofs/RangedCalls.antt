-- What the commands on ranges do to what is held: a range more, one that is dropped, and one with other ends.
use Rattle.dom_mutation.proofs.Cited.{◌≡◌, ◌≢◌, ℕ, ◌+◌, ◌≤◌, ◌<◌, Bool, true, false, cond, List, [], ◌∷◌, ◌++◌, length, Option, Some, None, refl, sym, ap}
use Rattle.dom_mutation.proofs.Cited.{subst, ◌∙◌, inl, inr, arith, true≢false, slice_get, slice_set, option_map, option_flatten, option_map_or, cases_Bool}
use Rattle.dom_mutation.proofs.Cited.{ltb-false, length-map, length-set, length_push, slice_get-map, NodeName, Owner, Command, NodeWord, effect, past_limit}
use Rattle.dom_mutation.proofs.Cited.{Effect, changes_range, collapsed_to, both_at, owner_eq, node_of, Value, nothing, a_range, boundaries, range_at, Boundary}
use Rattle.dom_mutation.proofs.Cited.{Trees, Range, at, from_to, with_start, with_end, part_of, with_part, is_there, owner_eq-same, owner_eq-true}
use Rattle.dom_mutation.proofs.Cited.{owner_eq-false, ne-owner_eq, named_boundary, named_range, named_ranges, start_set, end_set, RangeList, RangeLists}
use Rattle.dom_mutation.proofs.Cited.{EachRange, BothEnds, ranges_of, range_in, with_ranges, collapsed_range, made-named, removed-named, rewritten-named}
use Rattle.dom_mutation.proofs.Cited.{start-named, end-named, stand-made, stand-cleared, stand-at, stand-rewritten, StandOnce, StandAlone, Once-forest}
use Rattle.dom_mutation.proofs.Cited.{Has-forest, Once, NamedTrees, name_at, AreOwned, trees_of_owner, Contents, part_in, world_of, Makes, named_trees}
use Rattle.dom_mutation.proofs.Cited.{IsOwnPoint, AreRangesOf, ranged, IsOwnIn, with_start-own, with_end-own}
use Rattle.dom_mutation.proofs.Worlds.{Single, IsChangeOf, part_at, there_same, changed}

-- ---- an owner's list is another one

module _ (c : Contents) (t u : RangeLists) (ranges : AreRangesOf c t) (o : Owner) (there : is_there (world_of c) o ≡ true) (rs : RangeList)
    (set : (q : Owner) → ranges_of u q ≡ with_ranges t o rs q) where
  own_set : ranges_of u o ≡ rs
  own_set = set o ∙ ap (λ b. cond b rs (ranges_of t o)) (owner_eq-same o)

  other_set : (q : Owner) → q ≢ o → ranges_of u q ≡ ranges_of t q
  other_set q other = set q ∙ ap (λ b. cond b rs (ranges_of t q)) (ne-owner_eq o q (λ e. other (sym e)))

  pub set_change : IsChangeOf c (ranged u c) o (record (part_in c o) { ranges = named_ranges c.names rs })
  set_change = record {
    owners = refl;
    signalled = refl;
    tasks = refl;
    own = ap (λ ss. record (part_in c o) { ranges = named_ranges c.names ss }) own_set;
    others = λ q other. ap (λ ss. record (part_in c q) { ranges = ss }) (ap (named_ranges c.names) (other_set q other) ∙ sym (ranges.shown q));
  }

  part_now : part_of (world_of (ranged u c)) o ≡ record (part_in c o) { ranges = named_ranges c.names rs }
  part_now = part_at (ranged u c) o (there_same (ranged u c) c refl o ∙ there) ∙ set_change.own

  -- the command that does this to the owner's part was made
  pub set_makes : Single c.owners → (command : Command) (v : Value) →
      effect (part_in c o) command ≡ Effect.tables (record (part_in c o) { ranges = named_ranges c.names rs }) [] v
      → Makes o command v (world_of c) (world_of (ranged u c))
  set_makes single command v is = (
    ap (λ p. effect p command) (part_at c o there) ∙ (is ∙ ap (λ p. Effect.tables p [] v) (sym part_now)),
    changed c (ranged u c) o single there set_change ∙ ap (with_part (world_of c)) (sym part_now),
  )

  -- the table is that of what is held then
  pub set_ranges : EachRange (BothEnds (IsOwnPoint c.names o)) rs → length rs ≤ 1000000 → AreRangesOf (ranged u c) u
  set_ranges own few = record {
    shown = λ q. refl;
    own = λ q. elim (cases_Bool (owner_eq q o)) [
      | inl e ↦ let same = owner_eq-true q o e in subst (λ p. EachRange (BothEnds (IsOwnPoint c.names p)) (ranges_of u p)) (sym same)
          (subst (EachRange (BothEnds (IsOwnPoint c.names o))) (sym own_set) own)
      | inr e ↦ subst (EachRange (BothEnds (IsOwnPoint c.names q))) (sym (other_set q (owner_eq-false q o e))) (ranges.own q)
    ];
    few = λ q. elim (cases_Bool (owner_eq q o)) [
      | inl e ↦ subst (λ (ss : RangeList). length ss ≤ 1000000) (sym own_set ∙ ap (ranges_of u) (sym (owner_eq-true q o e))) few
      | inr e ↦ subst (λ (ss : RangeList). length ss ≤ 1000000) (sym (other_set q (owner_eq-false q o e))) (ranges.few q)
    ];
    absent = λ q off. let gone = sym (there_same (ranged u c) c refl q) ∙ off in
        other_set q (λ same. true≢false (sym there ∙ (ap (is_there (world_of c)) (sym same) ∙ gone))) ∙ ranges.absent q gone;
  }

-- ---- the commands

module _ (c : Contents) (t : RangeLists) (ranges : AreRangesOf c t) (o : Owner) where
  -- the owner's part with other ranges, and an answer
  with_those : List (Option (Range NodeName)) → Value → Effect
  with_those rs v = Effect.tables (record (part_in c o) { ranges = rs }) [] v

  -- a range is made at the owner's first node
  pub make_effect : (node : ℕ) → name_at c.names node ≡ node_of o 0
      → effect (part_in c o) Command.range_new ≡ Effect.tables
      (record (part_in c o) { ranges = named_ranges c.names (ranges_of t o ++ Some (from_to (at node 0) (at node 0)) ∷ []) }) []
      (a_range (length (ranges_of t o)))
  unfolding with_those
  make_effect node first =
      let was = named_ranges c.names (ranges_of t o) in
      ap (λ rs. with_those (rs ++ Some (both_at (at (node_of o 0) 0)) ∷ []) (a_range (length rs))) (ranges.shown o)
      ∙ (ap (λ x. with_those (was ++ Some (both_at (at x 0)) ∷ []) (a_range (length was))) (sym first)
      ∙ (ap (λ rs. with_those rs (a_range (length was))) (sym (made-named c.names (ranges_of t o) node))
      ∙ ap (λ n. with_those (named_ranges c.names (ranges_of t o ++ Some (from_to (at node 0) (at node 0)) ∷ [])) (a_range n))
      (length-map (ranges_of t o) (option_map (named_range c.names)))))

  -- one is dropped
  pub drop_effect : (k : ℕ) → effect (part_in c o) (Command.range_drop k) ≡ Effect.tables
      (record (part_in c o) { ranges = named_ranges c.names (slice_set (ranges_of t o) k None) }) [] nothing
  unfolding with_those
  drop_effect k = ap (λ rs. with_those (slice_set rs k None) nothing) (ranges.shown o) ∙
      ap (λ rs. with_those rs nothing) (sym (removed-named c.names (ranges_of t o) k))

  -- one gets other ends
  abbrev pub ranges_set : ℕ → (Range ℕ → Range ℕ) → Effect
  ranges_set k f =
      let rs = slice_set (ranges_of t o) k (option_map f (range_in (ranges_of t o) k)) in
      Effect.tables (record (part_in c o) { ranges = named_ranges c.names rs }) [] nothing

  pub rewritten_effect : (k : ℕ) (f : Range ℕ → Range ℕ) (g : Range NodeName → Range NodeName) →
      ((r : Range ℕ) → named_range c.names (f r) ≡ g (named_range c.names r))
      → changes_range (part_in c o) k g ≡ ranges_set k f
  unfolding with_those
  rewritten_effect k f g law =
      ap (λ rs. with_those (slice_set rs k (option_map g (option_flatten (slice_get rs k)))) nothing) (ranges.shown o)
      ∙ ap (λ rs. with_those rs nothing) (sym (rewritten-named c.names f g law (ranges_of t o) k))

  -- one collapses
  pub collapse_effect : (k : ℕ) (to_start : Bool)
      → effect (part_in c o) (Command.range_collapse k to_start) ≡ ranges_set k (collapsed_range to_start)
  collapse_effect k to_start = rewritten_effect k (collapsed_range to_start) (collapsed_to to_start) (λ r. law to_start r)
    where
      law : (b : Bool) (r : Range ℕ) → named_range c.names (collapsed_range b r) ≡ collapsed_to b (named_range c.names r)
      law true r = refl
      law false r = refl

  -- the range of a number
  pub range_read : (k : ℕ) → range_at (part_in c o) k ≡ option_map (named_range c.names) (range_in (ranges_of t o) k)
  range_read k = ap (λ rs. option_flatten (slice_get rs k)) (ranges.shown o) ∙
      (ap option_flatten (slice_get-map (option_map (named_range c.names)) (ranges_of t o) k) ∙ flat (slice_get (ranges_of t o) k))
    where
      flat : (m : Option (Option (Range ℕ))) →
          option_flatten (option_map (option_map (named_range c.names)) m) ≡ option_map (named_range c.names) (option_flatten m)
      flat (Some None) = refl
      flat m = refl

  -- and its ends
  pub points_effect : (k : ℕ) (r : Range ℕ) → range_in (ranges_of t o) k ≡ Some r
      → effect (part_in c o) (Command.range_get k) ≡ Effect.tables (part_in c o) [] (boundaries (named_boundary c.names r.start) (named_boundary c.names r.end))
  points_effect k r there =
      ap (λ m. option_map_or (λ (range : Range NodeName). Effect.tables (part_in c o) [] (boundaries range.start range.end)) m
      (Effect.tables (part_in c o) [] nothing)) (range_read k ∙ ap (option_map (named_range c.names)) there)

-- ---- an end is set

module _ (c : Contents) (t : RangeLists) (ranges : AreRangesOf c t) (owned : AreOwned c.trees) (once : StandOnce (named_trees c.names c.trees))
    (only : StandAlone (named_trees c.names c.trees)) (o : Owner) (node : ℕ) (at_node : node < length c.names)
    (own_node : (name_at c.names node).owner ≡ o) where
  abbrev f : NamedTrees
  f = named_trees c.names c.trees

  single : Once c.trees
  single = Once-forest f once only

  own_in : (k : ℕ) → k < length c.names → (name_at c.names k).owner ≡ o → IsOwnIn c.trees owned single o (name_at c.names k)
  own_in k here own = record { owner = own; there = Has-forest f once k here }

  -- rules that agree at the owner's range of a number
  agreed_effect : (k : ℕ) (g h : Range NodeName → Range NodeName) →
      ((r : Range ℕ) → BothEnds (IsOwnPoint c.names o) r → g (named_range c.names r) ≡ h (named_range c.names r))
      → changes_range (part_in c o) k g ≡ changes_range (part_in c o) k h
  agreed_effect k g h same =
      ap (λ r. Effect.tables (record (part_in c o) { ranges = slice_set (part_in c o).ranges k r }) [] nothing)
      (ap (option_map g) (range_read c t ranges o k) ∙ (by (range_in (ranges_of t o) k) refl ∙ ap (option_map h) (sym (range_read c t ranges o k))))
    where
      by : (m : Option (Range ℕ)) → range_in (ranges_of t o) k ≡ m →
          option_map g (option_map (named_range c.names) m) ≡ option_map h (option_map (named_range c.names) m)
      by None e = refl
      by (Some r) e = ap Some (same r (stand-at (IsOwnPoint c.names o) (ranges_of t o) k r (ranges.own o) e))

  -- a range gets another end, by a rule on keys that in names is one in the owner's trees
  set_effect : (offset : ℕ) (set : Range ℕ → Range ℕ) (write : Trees → Boundary NodeName → Range NodeName → Range NodeName) →
      ((r : Range ℕ) → BothEnds (IsOwnPoint c.names o) r → write (trees_of_owner o c.trees) (at (name_at c.names node) offset) (named_range c.names r) ≡
      write c.trees (at (name_at c.names node) offset) (named_range c.names r)) →
      ((r : Range ℕ) → named_range c.names (set r) ≡ write c.trees (at (name_at c.names node) offset) (named_range c.names r)) → (k : ℕ)
      → changes_range (part_in c o) k (write (trees_of_owner o c.trees) (at (node_of o (name_at c.names node).number) offset)) ≡ ranges_set c t ranges o k set
  set_effect offset set write same law k =
      let us = trees_of_owner o c.trees in
      let b = at (name_at c.names node) offset in
      ap (λ p. changes_range (part_in c o) k (write us (at (node_of p (name_at c.names node).number) offset))) (sym own_node)
      ∙ (agreed_effect k (write us b) (write c.trees b) same ∙ rewritten_effect c t ranges o k set (write c.trees b) law)

  -- another start, or another end
  pub start_effect : (k offset : ℕ) → effect (part_in c o) (Command.range_start k (NodeWord.own (name_at c.names node).number) offset) ≡
      ranges_set c t ranges o k (start_set (named_trees c.names c.trees) (at node offset))
  start_effect k offset = set_effect offset (start_set f (at node offset)) with_start (λ r h. sym (with_start-own c.trees owned single o
      (at (name_at c.names node) offset) (named_range c.names r) (own_in node at_node own_node) (own_in r.end.node h.1.node h.1.owner)))
      (start-named f (at node offset)) k

  pub end_effect : (k offset : ℕ) → effect (part_in c o) (Command.range_end k (NodeWord.own (name_at c.names node).number) offset) ≡
      ranges_set c t ranges o k (end_set (named_trees c.names c.trees) (at node offset))
  end_effect k offset = set_effect offset (end_set f (at node offset)) with_end (λ r h. sym (with_end-own c.trees owned single o
      (at (name_at c.names node) offset) (named_range c.names r) (own_in node at_node own_node) (own_in r.start.node h.0.node h.0.owner)))
      (end-named f (at node offset)) k

-- ---- what holds of the lists that the calls leave

module _ (c : Contents) (t : RangeLists) (ranges : AreRangesOf c t) (o : Owner) where
  -- a range more, where there is room
  pub made_own : (node : ℕ) → node < length c.names → (name_at c.names node).owner ≡ o →
      EachRange (BothEnds (IsOwnPoint c.names o)) (ranges_of t o ++ Some (from_to (at node 0) (at node 0)) ∷ [])
  made_own node less own =
      let here : IsOwnPoint c.names o (at node 0) = record { node = less; owner = own; fits = omega arith } in
      stand-made (IsOwnPoint c.names o) (ranges_of t o) (from_to (at node 0) (at node 0)) (here, here) (ranges.own o)

  pub made_few : (node : ℕ) → past_limit (length (ranges_of t o)) 1 ≡ false → length (ranges_of t o ++ Some (from_to (at node 0) (at node 0)) ∷ []) ≤ 1000000
  made_few node room = let more = length_push (ranges_of t o) (Some (from_to (at node 0) (at node 0))) in let few =
      ltb-false 1000000 (length (ranges_of t o) + 1) room in omega arith

  -- one less
  pub dropped_own : (k : ℕ) → EachRange (BothEnds (IsOwnPoint c.names o)) (slice_set (ranges_of t o) k None)
  dropped_own k = stand-cleared (IsOwnPoint c.names o) (ranges_of t o) k (ranges.own o)

  -- one with other ends of its owner's
  pub rewritten_own : (k : ℕ) (f : Range ℕ → Range ℕ) → ((r : Range ℕ) → BothEnds (IsOwnPoint c.names o) r → BothEnds (IsOwnPoint c.names o) (f r))
      → EachRange (BothEnds (IsOwnPoint c.names o)) (slice_set (ranges_of t o) k (option_map f (range_in (ranges_of t o) k)))
  rewritten_own k f keeps = stand-rewritten (IsOwnPoint c.names o) f keeps (ranges_of t o) k (ranges.own o)

  -- as many
  pub written_few : (k : ℕ) (r : Option (Range ℕ)) → length (slice_set (ranges_of t o) k r) ≤ 1000000
  written_few k r = let same = length-set (ranges_of t o) k r in let few = ranges.few o in omega arith
