-- Live ranges keep their ends at nodes, and their offsets below a bound, while nodes leave and come.
use Rattle.std.proofs.Common.{◌≡◌, ℕ, suc, ◌+◌, ◌<◌, ◌≤◌, List, length, Option, Some, None, refl, sym, ap, subst, ◌∙◌, arith, nat_eq, option_map}
use Rattle.std.specs.Option.{ForSome}
use Rattle.dom_base.specs.declared.NodeName.{NodeName}
use Rattle.dom_base.specs.declared.Owner.{Owner}
use Rattle.dom_model.specs.Names.{name_eq}
use Rattle.dom_model.specs.Ranges.{after_insert, after_removal}
use Rattle.dom_model.specs.Tree.{parent_of, index_of}
use Rattle.dom_tree.specs.Definitions.{NamedTrees, name_at, TellApart}
use Rattle.dom_ranges.specs.Definitions.{is_inside, InsertNamed, named_ends_by, named_ranges, AreWithin, SameWithin, RemovalWithin, InsertWithin, WithinAtNodes}
use Rattle.dom_ranges.specs.Definitions.{HasMoved, FitBy, RangeLists, ranges_of}
use Rattle.dom_callers.specs.Moving.{HasRoom, shown_ranges, with_coming}

-- ---- a node leaves its parent, or has none

-- the live ranges before and after it
pub record NodeLeaves (f : NamedTrees) (node : ℕ) (was now : RangeLists) : Type 0 where
  -- the key of its parent
  pub parent : Option ℕ
  pub parent_is : option_map (name_at f.names) parent ≡ parent_of f.trees (name_at f.names node)
  pub there : ForSome parent (λ k. k < length f.names)
  -- without a parent they stay, and else they move
  pub root : parent_of f.trees (name_at f.names node) ≡ None → (o : Owner) → ranges_of now o ≡ ranges_of was o
  pub child : (p : ℕ) → p < length f.names → parent_of f.trees (name_at f.names node) ≡ Some (name_at f.names p) →
      HasMoved (after_removal nat_eq (is_inside f node) p (index_of f.trees (name_at f.names node))) was now

module _ (same : SameWithin) (removal : RemovalWithin) {f : NamedTrees} {node : ℕ} {was now : RangeLists} (leaves : NodeLeaves f node was now) where
  -- their offsets stay below a bound
  out-within : (most : ℕ) → index_of f.trees (name_at f.names node) ≤ most → AreWithin f.names most was → AreWithin f.names most now
  out-within most few within = by leaves.parent leaves.parent_is leaves.there
    where
      by : (parent : Option ℕ) → option_map (name_at f.names) parent ≡ parent_of f.trees (name_at f.names node) →
          ForSome parent (λ k. k < length f.names) → AreWithin f.names most now
      by None is there = same f.names most was now (leaves.root (sym is)) within
      by (Some p) is there =
          (removal f most node p (index_of f.trees (name_at f.names node)) (there p refl) few was within).1 now (leaves.child p (there p refl) (sym is))

  -- so there is as much room as before
  pub out-room : (g : NamedTrees) → g.names ≡ f.names → index_of f.trees (name_at f.names node) < length f.names → (n : ℕ) → HasRoom n f was → HasRoom n g now
  out-room g all few n h =
      let nodes = h.nodes in
      record {
        most = h.most;
        nodes = subst (λ (ns : List NodeName). length ns ≤ h.most) (sym all) h.nodes;
        fits = h.fits;
        within = subst (λ (ns : List NodeName). AreWithin ns h.most now) (sym all) (out-within h.most (omega (arith, few, nodes)) h.within);
      }

-- ---- a node comes before the child at an index

-- there is room for it
pub in-fits : {f : NamedTrees} {was : RangeLists} → InsertWithin → (parent index : ℕ) → parent < length f.names → HasRoom 1 f was →
    FitBy (after_insert nat_eq parent index 1) was
in-fits {f = f} {was = was} insert parent index node h = (insert f.names h.most parent index 1 node was h.within).0 h.fits

-- the live ranges before and after it
pub record NodeComes (f g : NamedTrees) (parent index : ℕ) (was now : RangeLists) : Type 0 where
  pub names : g.names ≡ f.names
  pub there : parent < length f.names
  pub moved : HasMoved (after_insert nat_eq parent index 1) was now

-- the child before which it comes, among nodes with names of their own, and room for it
pub record ComesBefore (f : NamedTrees) (index child : ℕ) (was : RangeLists) : Type 0 where
  pub apart : TellApart f.names
  pub index_is : index ≡ index_of f.trees (name_at f.names child)
  pub room : HasRoom 1 f was

module _ {f g : NamedTrees} {parent index : ℕ} {was now : RangeLists} (comes : NodeComes f g parent index was now) where
  -- it takes room
  pub in-room : InsertWithin → (n : ℕ) → HasRoom (suc n) f was → HasRoom n g now
  in-room insert n h =
      let nodes = h.nodes in
      let fits = h.fits in
      record {
        most = h.most + 1;
        nodes = subst (λ (ns : List NodeName). length ns ≤ h.most + 1) (sym comes.names) (omega (arith, nodes));
        fits = omega (arith, fits);
        within = subst (λ (ns : List NodeName). AreWithin ns (h.most + 1) now) (sym comes.names)
            ((insert f.names h.most parent index 1 comes.there was h.within).1 now comes.moved);
      }

  -- where an owner's live ranges stand then, by names
  pub in-shown : InsertNamed → WithinAtNodes → (child : ℕ) → ComesBefore f index child was →
      (o : Owner) → shown_ranges g now o ≡ with_coming f.trees (name_at f.names parent) (name_at f.names child) (shown_ranges f was o)
  in-shown named at_nodes child b o =
      ap (λ (ns : List NodeName). named_ranges ns (ranges_of now o)) comes.names ∙ ap (named_ranges f.names) (comes.moved o)
      ∙ (named f.names b.apart parent index 1 comes.there).0 (ranges_of was o) (at_nodes f.names b.room.most was b.room.within o)
      ∙ ap (λ i. named_ends_by (after_insert name_eq (name_at f.names parent) i 1) (shown_ranges f was o)) b.index_is
