-- The table of ranges where owners come: of the first one there are no ranges, and a new component has none.
use Rattle.dom_mutation.proofs.Cited.{◌≡◌, ℕ, true, false, List, [], ◌∷◌, ◌++◌, length, Option, sym, ap, subst, ◌∙◌, ◌⊎◌, inl, inr, true≢false, arith}
use Rattle.dom_mutation.proofs.Cited.{cases_Bool, false_from_ne_true, NodeName, Owner, owner_eq, Range, is_there, shadow_root_of, owner_eq-true, owner_eq-false}
use Rattle.dom_mutation.proofs.Cited.{named_ranges, RangeLists, EachRange, BothEnds, ranges_of, Contents, Tables, world_of, IsAttached, IsOwnPoint}
use Rattle.dom_mutation.proofs.Cited.{AreOwnRanges, AreRangesOf}
use Rattle.dom_mutation.proofs.RangedKeeping.{named_grown, own_grown}
use Rattle.dom_mutation.proofs.Worlds.{In, there_in, in_there}

-- a table without ranges
pub ranges_none : (c : Contents) (t : RangeLists) → ((o : Owner) → ranges_of t o ≡ []) → ((o : Owner) → (c.tables o).ranges ≡ []) → AreRangesOf c t
ranges_none c t empty shown = record {
  shown = λ o. shown o ∙ ap (named_ranges c.names) (sym (empty o));
  own = λ o. subst (EachRange (BothEnds (IsOwnPoint c.names o))) (sym (empty o)) (λ k r e. cc);
  few = λ o. let none = ap (length {A = Option (Range ℕ)}) (empty o) in omega arith;
  absent = λ o off. empty o;
}

-- an owner that is one of some is one of more
in_more : (o c : Owner) (os : List Owner) → In o os → In o (os ++ c ∷ [])
in_more o c [] h = absurd h
in_more o c (q ∷ os) (inl e) = inl e
in_more o c (q ∷ os) (inr h) = inr (in_more o c os h)

-- a component is attached
pub ranges_attached : {a b : Contents} {t : RangeLists} {c : Owner} {x : NodeName} {d : Option NodeName} → is_there (world_of a) c ≡ false →
    IsAttached a b c x d → AreRangesOf a t → AreRangesOf b t
ranges_attached {a} {b} {t} {c} {x} off one held = record {
  shown = λ o. lists o ∙ (sym (named_grown a.names (shadow_root_of c) t held.own o) ∙ ap (λ ns. named_ranges ns (ranges_of t o)) (sym one.names));
  own = subst (λ ns. AreOwnRanges ns t) (sym one.names) (own_grown a.names (shadow_root_of c) t held.own);
  few = held.few;
  absent = λ o gone. held.absent o (false_from_ne_true (is_there (world_of a) o)
      (λ there. true≢false (sym (in_there b o (subst (In o) (sym one.owners) (in_more o c a.owners (there_in a o there)))) ∙ gone)));
}
  where
    lists : (o : Owner) → (b.tables o).ranges ≡ named_ranges a.names (ranges_of t o)
    lists o = elim (cases_Bool (owner_eq o x.owner)) [
      | inl e ↦ let same = owner_eq-true o x.owner e in ap (λ p. (b.tables p).ranges) same ∙
          (ap (λ (u : Tables). u.ranges) one.maker ∙ (held.shown x.owner ∙ ap (λ p. named_ranges a.names (ranges_of t p)) (sym same)))
      | inr e ↦ other e (cases_Bool (owner_eq o c))
    ]
      where
        other : owner_eq o x.owner ≡ false → (owner_eq o c ≡ true) ⊎ (owner_eq o c ≡ false) → (b.tables o).ranges ≡ named_ranges a.names (ranges_of t o)
        other e (inl f) =
            let same = owner_eq-true o c f in
            ap (λ p. (b.tables p).ranges) same ∙
            (ap (λ (u : Tables). u.ranges) one.new ∙ ap (named_ranges a.names) (sym (held.absent c off) ∙ ap (ranges_of t) (sym same)))
        other e (inr f) = ap (λ (u : Tables). u.ranges) (one.rest o (owner_eq-false o x.owner e) (owner_eq-false o c f)) ∙ held.shown o
