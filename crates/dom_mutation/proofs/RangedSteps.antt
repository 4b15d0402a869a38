-- Steps that move boundary points, over what is held: where the table of ranges is told of a step, the owner's part has the
-- ends that the step says, no other part changes, and the table is that of what is held.
use Rattle.dom_mutation.proofs.Cited.{◌≡◌, ◌≢◌, ℕ, ◌<◌, cond, ◌++◌, length, Some, map, refl, sym, ap, subst, ◌∙◌, arith, nat_eq, nat_lt, ◌&&◌, ◌-◌}
use Rattle.dom_mutation.proofs.Cited.{option_map_or, NodeName, Owner, name_eq, is_in, transients_for, Part, Boundary, at, after_removal, take_out, part_step}
use Rattle.dom_mutation.proofs.Cited.{leave, adjusted_iterator, parent_of, index_of, inclusive_ancestors, is_inclusive_ancestor, taken_out, IsNamedRule}
use Rattle.dom_mutation.proofs.Cited.{KeepsNodes, named_ends_by, is_inside, named_ranges, RangeLists, EachRange, BothEnds, ends_by, ranges_of, removal-named}
use Rattle.dom_mutation.proofs.Cited.{name_at, AreOwned, TellApart, read_own, stays_own, Contents, part_in, named_trees, AreOwnRanges, AreRangesOf, ranged}
use Rattle.dom_mutation.proofs.Cited.{IsRuleOf}
use Rattle.dom_mutation.proofs.RangeRules.{removal_rule}
use Rattle.dom_mutation.proofs.RangedLists.{agreed, named_own, named_others, own_moved, as_many}
use Rattle.dom_mutation.proofs.Worlds.{IsChangeOf, there_same}
use Rattle.dom_ranges.specs.Definitions.{Fits}

-- ---- what a rule does to a change of an owner's part

module _ (c : Contents) (t u : RangeLists) (ranges : AreRangesOf c t) (o : Owner) (f : Boundary ℕ → Boundary ℕ)
    (g : Boundary NodeName → Boundary NodeName) (rule : IsNamedRule c.names f g) (keeps : KeepsNodes c.names f)
    (of : IsRuleOf o g) (moved : (q : Owner) → ranges_of u q ≡ ends_by f (ranges_of t q)) where
  -- the owner's ranges, and the others'
  pub own_ends : named_ranges c.names (ranges_of u o) ≡ named_ends_by g (c.tables o).ranges
  own_ends = named_own c.names o f g rule keeps of t u ranges.own moved ∙ ap (named_ends_by g) (sym (ranges.shown o))

  pub other_ends : (q : Owner) → q ≢ o → named_ranges c.names (ranges_of u q) ≡ (c.tables q).ranges
  other_ends q other = named_others c.names o f g rule keeps of t u ranges.own moved q other ∙ sym (ranges.shown q)

  module _ (b : Contents) (names : b.names ≡ c.names) where
    -- a change of the owner's part, and of its ranges
    pub lifted : (p : Part) → IsChangeOf c b o p → IsChangeOf c (ranged u b) o (record p { ranges = named_ends_by g (c.tables o).ranges })
    lifted p change = record {
      owners = change.owners;
      signalled = change.signalled;
      tasks = change.tasks;
      own = ap (λ ns. record (part_in b o) { ranges = named_ranges ns (ranges_of u o) }) names
          ∙ (ap (λ (q : Part). record q { ranges = named_ranges c.names (ranges_of u o) }) change.own ∙ ap (λ rs. record p { ranges = rs }) own_ends);
      others = λ q other.
          ap (λ ns. record (part_in b q) { ranges = named_ranges ns (ranges_of u q) }) names
          ∙ (ap (λ (r : Part). record r { ranges = named_ranges c.names (ranges_of u q) }) (change.others q other) ∙
          ap (λ rs. record (part_in c q) { ranges = rs }) (other_ends q other));
    }

    -- the table is that of what is held then
    pub lifted_ranges : b.owners ≡ c.owners → ((q : Owner) → EachRange (BothEnds (λ b. Fits (f b))) (ranges_of t q)) → AreRangesOf (ranged u b) u
    lifted_ranges owners fits = record {
      shown = λ q. refl;
      own = subst (λ ns. AreOwnRanges ns u) (sym names) (own_moved c.names o f g rule keeps of t u ranges.own moved fits);
      few = λ q. let few = ranges.few q in let same = as_many c.names o f g rule keeps of t u ranges.own moved q in omega arith;
      absent = λ q off. moved q ∙ ap (ends_by f) (ranges.absent q (sym (there_same (ranged u b) c owners q) ∙ off));
    }

-- nothing but the ranges
pub same_part : (c : Contents) (o : Owner) → IsChangeOf c c o (part_in c o)
same_part c o = record { owners = refl; signalled = refl; tasks = refl; own = refl; others = λ q other. refl }

-- ---- the steps

module _ (c : Contents) (t u : RangeLists) (ranges : AreRangesOf c t) (o : Owner) where
  -- what holds after a step whose rule over keys is f
  abbrev pub Holds : (Boundary ℕ → Boundary ℕ) → Contents → Type 0
  Holds f b = ((q : Owner) → EachRange (BothEnds (λ p. Fits (f p))) (ranges_of t q)) → AreRangesOf (ranged u b) u

  -- a step by whose rule ends move, with a change of the owner's part
  module _ (f : Boundary ℕ → Boundary ℕ) (g : Boundary NodeName → Boundary NodeName) where
    pub ruled : IsNamedRule c.names f g × KeepsNodes c.names f → IsRuleOf o g → ((q : Owner) → ranges_of u q ≡ ends_by f (ranges_of t q)) →
        {b : Contents} → b.names ≡ c.names → {p : Part} → IsChangeOf c b o p →
        IsChangeOf c (ranged u b) o (record p { ranges = named_ends_by g (c.tables o).ranges }) × Holds f b
    ruled law of moved {b} names {p} change = (
      lifted c t u ranges o f g law.0 law.1 of moved b names p change,
      λ fits. lifted_ranges c t u ranges o f g law.0 law.1 of moved b names change.owners fits,
    )

  -- ---- a node leaves its parent

  -- the owner's part then, but for its ranges
  abbrev pub left_part : NodeName → NodeName → Part
  left_part x parent = record (part_in c o) {
    iterators = map (adjusted_iterator (part_in c o).trees x) (part_in c o).iterators;
    trees = taken_out x (part_in c o).trees;
    registrations = (part_in c o).registrations ++ transients_for name_eq x (inclusive_ancestors (part_in c o).trees parent) (part_in c o).registrations;
  }

  module _ (apart : TellApart c.names) (owned : AreOwned c.trees) (b : Contents) (names : b.names ≡ c.names) (x parent : ℕ) (node : x < length c.names)
      (above : parent < length c.names) (own : (name_at c.names x).owner ≡ o)
      (up : parent_of c.trees (name_at c.names x) ≡ Some (name_at c.names parent)) where
    -- the rule over keys
    abbrev pub removal_by_keys : Boundary ℕ → Boundary ℕ
    removal_by_keys = after_removal nat_eq (is_inside (named_trees c.names c.trees) x) parent (index_of c.trees (name_at c.names x))

    own_parent : (name_at c.names parent).owner ≡ o
    own_parent = (stays_own c.trees owned o (name_at c.names x) own).parent (name_at c.names parent) up

    -- the rule by all trees is at an owner's points that by its own trees
    same_rule : (p : Boundary NodeName) → p.node.owner ≡ o
        → after_removal name_eq (is_inclusive_ancestor c.trees (name_at c.names x)) (name_at c.names parent) (index_of c.trees (name_at c.names x)) p
        ≡ after_removal name_eq (is_inclusive_ancestor (part_in c o).trees (name_at c.names x)) (name_at c.names parent)
        (index_of (part_in c o).trees (name_at c.names x)) p
    same_rule p is =
        let parent_name = name_at c.names parent in
        let by_index : ℕ → Boundary NodeName = λ i. cond (name_eq p.node parent_name && nat_lt i p.offset) (at parent_name (p.offset - 1)) p in
        let index = index_of c.trees (name_at c.names x) in
        ap (λ path. cond (is_in name_eq (name_at c.names x) path) (at parent_name index) (by_index index)) (read_own c.trees owned o p.node is).path
        ∙ ap (λ i. cond (is_inclusive_ancestor (part_in c o).trees (name_at c.names x) p.node) (at parent_name i) (by_index i))
        (read_own c.trees owned o (name_at c.names x) own).index

    pub removal_ranged : ((q : Owner) → ranges_of u q ≡ ends_by removal_by_keys (ranges_of t q)) →
        IsChangeOf c b o (left_part (name_at c.names x) (name_at c.names parent))
        → IsChangeOf c (ranged u b) o (part_step (part_in c o) (take_out (name_at c.names x))) × Holds removal_by_keys b
    removal_ranged moved change =
        let law = removal-named (named_trees c.names c.trees) apart x parent (index_of c.trees (name_at c.names x)) above in
        let of = removal_rule o owned (name_at c.names x) (name_at c.names parent) (index_of c.trees (name_at c.names x)) own own_parent in
        let f = removal_by_keys in let g =
        after_removal name_eq (is_inclusive_ancestor c.trees (name_at c.names x)) (name_at c.names parent)
        (index_of c.trees (name_at c.names x)) in
        let h = after_removal name_eq (is_inclusive_ancestor (part_in c o).trees (name_at c.names x)) (name_at c.names parent)
        (index_of (part_in c o).trees (name_at c.names x)) in
        let both = ruled f g law of moved names change in
        let left = both.0 in
        let ends : named_ends_by g (c.tables o).ranges ≡ named_ends_by h (c.tables o).ranges =
        ap (named_ends_by g) (ranges.shown o) ∙
        (agreed c.names same_rule (ranges_of t o) (ranges.own o) ∙ ap (named_ends_by h) (sym (ranges.shown o))) in (
          record {
            owners = left.owners;
            signalled = left.signalled;
            tasks = left.tasks;
            own = left.own
                ∙ (ap (λ rs. record (left_part (name_at c.names x) (name_at c.names parent)) { ranges = rs }) ends
                ∙ ap (λ p. option_map_or (leave (part_in c o) (name_at c.names x)) p (part_in c o))
                (sym (sym (read_own c.trees owned o (name_at c.names x) own).parent ∙ up)));
            others = left.others;
          },
          both.1,
        )
