-- What is held keeps its table of ranges where names are added, and where nothing of the ranges changes.
use Rattle.dom_mutation.proofs.Cited.{◌≡◌, ℕ, List, [], ◌∷◌, ◌++◌, sym, ap, subst, ◌∙◌, arith, NodeName, Owner, Boundary, named_ranges, RangeLists, ranges_of}
use Rattle.dom_mutation.proofs.Cited.{grown-named, EachRange-weaker, Contents, IsOwnPoint, AreOwnRanges, AreRangesOf}
use Rattle.dom_mutation.proofs.HostedSteps.{KeepsNames, names_pushed}
use Rattle.dom_mutation.proofs.RangedLists.{own_at_nodes}
use Rattle.dom_mutation.proofs.Worlds.{there_same}

-- the same names, owners and ranges
pub ranges_stay : {a : Contents} (b : Contents) {t : RangeLists} → AreRangesOf a t → b.names ≡ a.names → b.owners ≡ a.owners →
    ((o : Owner) → (b.tables o).ranges ≡ (a.tables o).ranges) → AreRangesOf b t
ranges_stay {a} b {t} held names owners same = record {
  shown = λ o. same o ∙ (held.shown o ∙ ap (λ ns. named_ranges ns (ranges_of t o)) (sym names));
  own = subst (λ ns. AreOwnRanges ns t) (sym names) held.own;
  few = held.few;
  absent = λ o off. held.absent o (sym (there_same b a owners o) ∙ off);
}

-- ---- a name more

module _ (names : List NodeName) (x : NodeName) (t : RangeLists) (own : AreOwnRanges names t) where
  -- the ranges by names stay
  pub named_grown : (o : Owner) → named_ranges (names ++ x ∷ []) (ranges_of t o) ≡ named_ranges names (ranges_of t o)
  named_grown o = (grown-named names (x ∷ []) (ranges_of t o) (own_at_nodes names t own o)).0

  -- and are at nodes of their owners
  pub own_grown : AreOwnRanges (names ++ x ∷ []) t
  own_grown o = EachRange-weaker (IsOwnPoint names o) (IsOwnPoint (names ++ x ∷ []) o) grown (ranges_of t o) (own o)
    where
      keeps : KeepsNames names (names ++ x ∷ [])
      keeps = names_pushed names x

      grown : (b : Boundary ℕ) → IsOwnPoint names o b → IsOwnPoint (names ++ x ∷ []) o b
      grown b h = record {
        node = let less = h.node in let longer = keeps.longer in omega arith;
        owner = ap (λ (y : NodeName). y.owner) (keeps.same b.node h.node) ∙ h.owner;
        fits = h.fits;
      }

-- a node more of an owner that is there
pub ranges_grown : {a : Contents} (b : Contents) {t : RangeLists} (x : NodeName) → AreRangesOf a t → b.names ≡ a.names ++ x ∷ [] → b.owners ≡ a.owners →
    ((o : Owner) → (b.tables o).ranges ≡ (a.tables o).ranges) → AreRangesOf b t
ranges_grown {a} b {t} x held names owners same = record {
  shown = λ o. same o ∙ (held.shown o ∙ (sym (named_grown a.names x t held.own o) ∙ ap (λ ns. named_ranges ns (ranges_of t o)) (sym names)));
  own = subst (λ ns. AreOwnRanges ns t) (sym names) (own_grown a.names x t held.own);
  few = held.few;
  absent = λ o off. held.absent o (sym (there_same b a owners o) ∙ off);
}
