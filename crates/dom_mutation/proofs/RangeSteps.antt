-- The step that gives a live range its ends.
use Rattle.dom_mutation.proofs.Cited.{◌≡◌, ℕ, ◌<◌, ◌^◌, true, length, List, Option, Some, None, is_some, refl, sym, ap, subst, ◌∙◌, slice_get, slice_set}
use Rattle.dom_mutation.proofs.Cited.{option_map, option_flatten, NodeName, Owner, Part, range_at, Boundary, Range, set_range, World, part_of, with_part}
use Rattle.dom_mutation.proofs.Cited.{is_there, named_range, named_ranges, RangeList, RangeLists, EachRange, BothEnds, ranges_of, range_in, with_ranges}
use Rattle.dom_mutation.proofs.Cited.{rewritten-named, NamedTrees, Contents, part_in, DocState, contents, world_from, state_from, IsDoc, owner_in, stepped}
use Rattle.dom_mutation.proofs.Cited.{AllTables, with_live, IsOwnPoint, ranged}
use Rattle.dom_mutation.proofs.DocInvariant.{single_owners}
use Rattle.dom_mutation.proofs.RangedCalls.{set_change, rewritten_own, written_few}
use Rattle.dom_mutation.proofs.RangeCommands.{range_is, there_range, live_held}
use Rattle.dom_mutation.proofs.Worlds.{part_at, changed}

-- a boundary point at a node of an owner, by the state
pub record IsPointOf (d : DocState) (o : Owner) (b : Boundary ℕ) : Type 0 where
  pub node : b.node < length d.names
  pub owner : owner_in d b.node ≡ o
  pub fits : b.offset < 2 ^ 64

-- something in place of what is there
put_some : {X Y : Type 0} (y : Y) (m : Option X) → is_some m ≡ true → option_map (λ x. y) m ≡ Some y
put_some y None h = cc
put_some y (Some x) h = refl

module _ (f : NamedTrees) {tables : AllTables} (held : IsDoc f.names f.trees tables) {d : DocState}
    (is_d : state_from f.names f.trees tables ≡ d) (o : Owner) (k : ℕ) (known : is_some (range_at (part_of d.world o) k) ≡ true)
    (r : Range ℕ) (ends : BothEnds (IsPointOf d o) r) (u : RangeLists)
    (set : (q : Owner) → ranges_of u q ≡ with_ranges tables.ranges o (slice_set (ranges_of tables.ranges o) k (Some r)) q) where
  abbrev c : Contents
  c = contents f.names f.trees tables

  abbrev own : RangeList
  own = ranges_of tables.ranges o

  there_now : is_there (world_from f.names f.trees tables) o ≡ true
  there_now = there_range f held is_d o k known

  point : (b : Boundary ℕ) → IsPointOf d o b → IsOwnPoint f.names o b
  point b h = record {
    node = subst (λ (e : DocState). b.node < length e.names) (sym is_d) h.node;
    owner = subst (λ (e : DocState). owner_in e b.node ≡ o) (sym is_d) h.owner;
    fits = h.fits;
  }

  same : option_map (λ (s : Range ℕ). r) (range_in own k) ≡ Some r
  same = put_some r (range_in own k) (range_is f held is_d o k ∙ known)

  -- what is held is held
  pub put_held : IsDoc f.names f.trees (with_live tables u)
  put_held =
      live_held f held is_d o there_now u (slice_set own k (Some r)) set
      (subst (λ m. EachRange (BothEnds (IsOwnPoint f.names o)) (slice_set own k m)) same
      (rewritten_own c tables.ranges held.ranges o k (λ s. r) (λ s h. (point r.start ends.0, point r.end ends.1))))
      (written_few c tables.ranges held.ranges o k (Some r))

  -- and the step was made
  pub put_made : state_from f.names f.trees (with_live tables u) ≡ stepped o (set_range k (named_range d.names r)) d
  put_made =
      subst (λ (e : DocState). is_some (range_at (part_of e.world o) k) ≡ true →
      state_from f.names f.trees (with_live tables u) ≡ stepped o (set_range k (named_range e.names r)) e) is_d made known
    where
      made : is_some (range_at (part_of (world_from f.names f.trees tables) o) k) ≡ true →
          state_from f.names f.trees (with_live tables u) ≡ stepped o (set_range k (named_range f.names r)) (state_from f.names f.trees tables)
      made h =
          let w = world_from f.names f.trees tables in
          let p = part_in c o in
          let g : Range NodeName = named_range f.names r in
          let here = part_at c o there_now in
          let lists : named_ranges f.names (slice_set own k (Some r)) ≡ slice_set p.ranges k
          (option_map (λ (s : Range NodeName). g) (option_flatten (slice_get p.ranges k))) =
          ap (λ m. named_ranges f.names (slice_set own k m)) (sym same)
          ∙ (rewritten-named f.names (λ s. r) (λ s. g) (λ s. refl) own k ∙
          ap (λ (rs : List (Option (Range NodeName))). slice_set rs k
          (option_map (λ (s : Range NodeName). g) (option_flatten (slice_get rs k)))) (sym (held.ranges.shown o))) in
          let one : named_ranges f.names (slice_set own k (Some r)) ≡ slice_set p.ranges k (Some g) =
          lists ∙ ap (slice_set p.ranges k) (put_some g (range_at p k) (ap (λ (q : Part). is_some (range_at q k)) (sym here) ∙ h)) in
          let part : record p { ranges = named_ranges f.names (slice_set own k (Some r)) } ≡ record (part_of w o)
          { ranges = slice_set (part_of w o).ranges k (Some g) } =
          ap (λ rs. record p { ranges = rs }) one ∙ ap (λ (q : Part). record q { ranges = slice_set q.ranges k (Some g) }) (sym here) in
          ap (λ (v : World). state f.names v)
          (changed c (ranged u c) o (single_owners f.names f.trees tables held)
          there_now (set_change c tables.ranges u held.ranges o there_now (slice_set own k (Some r)) set)
          ∙ ap (with_part w) part)
        where
          state : List NodeName → World → DocState
          state names v = record { names = names; world = v }
