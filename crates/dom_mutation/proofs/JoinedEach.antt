-- Loops that join Texts to a first one, one after another.
use Rattle.dom_mutation.proofs.Cited.{◌≡◌, ℕ, suc, ◌+◌, ◌<◌, ◌≤◌, get_or, drop-cons, add-one, List, [], ◌∷◌, drop, length, map, refl, sym, ap, subst, ◌∙◌}
use Rattle.dom_mutation.proofs.Cited.{AllByRecursion, NodeName, Owner, steps_of, join_at, part_step, joins, index_of, length_of, Part, part_of, HasBounds}
use Rattle.dom_mutation.proofs.Cited.{IsPart, name_at, DocState, JoinsFit, IsOwnNode, name_in, owner_in, trees_in, stepped, planned, IsAlone, join_at-keeps}
use Rattle.dom_mutation.proofs.Cited.{all_drop}
use Rattle.dom_mutation.proofs.Made.{alone_after}

-- ---- joins

-- how far the loop has come, with these Texts left and the first one's data up to a length joined
pub record Joins (first parent : ℕ) (all : List ℕ) (size : ℕ) (d : DocState) (rest : List ℕ) (length : ℕ) (e : DocState) : Type 0 where
  pub names : e.names ≡ d.names
  pub trees : trees_in e first ≡ trees_in d first
  pub alone : IsAlone e.world (owner_in d first)
  pub part : IsPart (part_of e.world (owner_in d first))
  pub bounds : HasBounds (part_of e.world (owner_in d first))
  pub fit : JoinsFit (trees_in d first) (name_in d first) length (map (name_in d) rest)
  pub state : planned (owner_in d first) (steps_of (joins (trees_in d first) (name_in d first) (name_in d parent) length (map (name_in d) rest))) e
      ≡ planned (owner_in d first) (steps_of (joins (trees_in d first) (name_in d first) (name_in d parent) size (map (name_in d) all))) d

module _ (first parent : ℕ) (all : List ℕ) (size : ℕ) (d : DocState) where
  pub joins_first : IsAlone d.world (owner_in d first) → IsPart (part_of d.world (owner_in d first)) →
      HasBounds (part_of d.world (owner_in d first)) → JoinsFit (trees_in d first) (name_in d first) size (map (name_in d) all)
      → Joins first parent all size d all size d
  joins_first alone part bounds fit = record { names = refl; trees = refl; alone = alone; part = part; bounds = bounds; fit = fit; state = refl }

  -- a step of it
  module _ (i k length : ℕ) (e f : DocState) (i< : i < Rattle.std.proofs.Common.length all) (is : k ≡ get_or all i k)
      (joining : Joins first parent all size d (drop i all) length e)
      (nodes : AllByRecursion (IsOwnNode d first) all) where
    o : Owner
    o = owner_in d first

    now : drop i all ≡ k ∷ drop (suc i) all
    now = drop-cons all i k i< ∙ ap (λ j. j ∷ drop (suc i) all) (sym is)

    own : IsOwnNode d first k
    own = (subst (AllByRecursion (IsOwnNode d first)) now (all_drop (IsOwnNode d first) i all nodes)).0

    fits : (length + length_of (trees_in d first) (name_in d k) ≤ length_of (trees_in d first) (name_in d first))
        × JoinsFit (trees_in d first) (name_in d first) (length + length_of (trees_in d first) (name_in d k)) (map (name_in d) (drop (suc i) all))
    fits = subst (λ ks. JoinsFit (trees_in d first) (name_in d first) length (map (name_in d) ks)) now joining.fit

    same_owner : owner_in e first ≡ owner_in d first
    same_owner = ap (λ (ns : List NodeName). (name_at ns first).owner) joining.names

    pub joins_on : (n : ℕ) → n ≡ length + length_of (trees_in e first) (name_in e k)
        → f ≡ stepped (owner_in e first) (join_at (name_in e first) length (name_in e k) (name_in e parent) (index_of (trees_in e first) (name_in e k))) e
        → Joins first parent all size d (drop (i + 1) all) n f
    joins_on n is_n made =
        let ts = trees_in d first in
        let y = name_in d k in
        let step = join_at (name_in d first) length y (name_in d parent) (index_of ts y) in
        let at : f ≡ stepped (owner_in d first) step e =
        made
        ∙ ap (λ ts. stepped (owner_in e first) (join_at (name_in e first) length (name_in e k) (name_in e parent) (index_of ts (name_in e k))) e) joining.trees
        ∙ ap (λ (ns : List NodeName). stepped (name_at ns first).owner
        (join_at (name_at ns first) length (name_at ns k) (name_at ns parent) (index_of (trees_in d first) (name_at ns k))) e) joining.names in
        let after : part_of f.world (owner_in d first) ≡ part_step (part_of e.world (owner_in d first)) step =
        ap (λ (s : DocState). part_of s.world (owner_in d first)) at ∙ joining.alone.steps (step ∷ []) (tt, tt) in
        let more : n ≡ length + length_of ts y =
        is_n ∙ ap (λ ts. length + length_of ts (name_in e k)) joining.trees ∙
        ap (λ (ns : List NodeName). length + length_of (trees_in d first) (name_at ns k)) joining.names in
        let trees_then : (part_of f.world (owner_in d first)).trees ≡ (part_of e.world (owner_in d first)).trees = ap (λ (p : Part). p.trees) after in
        let here : (part_of e.world (owner_in d first)).trees ≡ ts = ap (λ p. (part_of e.world p).trees) (sym same_owner) ∙ joining.trees in
        let names : f.names ≡ d.names = ap (λ (s : DocState). s.names) at ∙ joining.names in
        let state = subst (λ ks. planned (owner_in d first) (steps_of (joins ts (name_in d first) (name_in d parent) length (map (name_in d) ks)))
        e ≡ planned (owner_in d first) (steps_of (joins ts (name_in d first) (name_in d parent) size (map (name_in d) all))) d) now
        joining.state in
        subst (λ j. Joins first parent all size d (drop j all) n f) (sym (add-one i))
        (subst (λ m. Joins first parent all size d (drop (suc i) all) m f) (sym more) record {
          names = names;
          trees = ap (λ (ns : List NodeName). (part_of f.world (name_at ns first).owner).trees) names ∙ (trees_then ∙ here);
          alone = subst (λ (s : DocState). IsAlone s.world (owner_in d first)) (sym at)
              (alone_after (owner_in d first) (step ∷ []) e.world joining.alone (tt, tt));
          part = subst IsPart (sym after) record { unique = joining.part.unique; owned = joining.part.owned; numbered = joining.part.numbered };
          bounds = subst HasBounds (sym after)
              (join_at-keeps (part_of e.world (owner_in d first)) (name_in d first) length y (name_in d parent) (index_of ts y) (record {
                part = joining.part;
                fits = subst (λ us. length + length_of us y ≤ length_of us (name_in d first)) (sym here) fits.0;
                bounds = joining.bounds;
              }));
          fit = fits.1;
          state = ap (planned (owner_in d first)
              (steps_of (joins ts (name_in d first) (name_in d parent) (length + length_of ts y) (map (name_in d) (drop (suc i) all))))) at ∙ state;
        })
