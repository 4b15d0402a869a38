-- A search forward among the nodes in the place of siblings or of children.
use Rattle.dom_traversal.proofs.Cited.{◌≡◌, ℕ, ◌<◌, true, false, ◌||◌, length, Option, Some, None, refl, sym, ap, subst, ◌∙◌, filter, option_map, ForSome}
use Rattle.dom_traversal.proofs.Cited.{list_all, or_left, or_right, false_from_ne_true, same_Some, accepts, ancestors, answer_at, behind, beyond, first_of}
use Rattle.dom_traversal.proofs.Cited.{from_node, Has-forest, In, In-not, inclusive_ancestors, is_in-from, is_inclusive_ancestor, is_skip, IsWithin}
use Rattle.dom_traversal.proofs.Cited.{IsWithin-forest, name_at, NamedTrees, NodeName, Reject, Skip, skips, StandAlone, StandOnce, StandsBelow, Trees, Walker}
use Rattle.dom_traversal.proofs.Cited.{BeginsForward, is_opened, is_reached, KeyedWalker, stop_above, stop_of, walker_view}
use Rattle.dom_traversal.proofs.Forward.{Comes, shorter-skip, shorter-reject, Comes-skip, Comes-reject, Comes-apart}
use Rattle.dom_traversal.proofs.Passing.{accepts-some}
use Rattle.dom_traversal.proofs.Stops.{within-below, below-stop}
use Rattle.dom_traversal.proofs.Aside.{IsBelow-key, SameStop}

-- a skipped node is opened
pub opened-skip : (ts : Trees) (w : Walker) (x : NodeName) → Some Skip ≡ answer_at ts w.filter x → is_opened ts w x ≡ true
opened-skip ts w x e = or_left (skips ts w.filter x) _ (ap is_skip (sym e))

-- a rejected one is not, but for those above the current node
pub opened-reject : (ts : Trees) (w : Walker) (x : NodeName) → Some Reject ≡ answer_at ts w.filter x →
    is_inclusive_ancestor ts x w.current ≡ false → is_opened ts w x ≡ false
opened-reject ts w x e off = ap (λ o. is_skip o || is_inclusive_ancestor ts x w.current) (sym e) ∙ off

-- a node above the current one is
pub opened-above : (ts : Trees) (w : Walker) (a : NodeName) → In a (inclusive_ancestors ts w.current) → is_opened ts w a ≡ true
opened-above ts w a i = or_right (skips ts w.filter a) _ (is_in-from a (inclusive_ancestors ts w.current) i)

-- the stop of a search that begins at a key
abbrev pub stop_from : NamedTrees → KeyedWalker → ℕ → Option ℕ → NodeName
stop_from f w top from = stop_of f.trees w.filter (name_at f.names top) (option_map (name_at f.names) from)

-- the search has come to a node, or to the end
abbrev pub ComesAside : NamedTrees → KeyedWalker → ℕ → Option ℕ → Option NodeName → Type 0
ComesAside f w top from o =
    Comes f.trees (accepts f.trees w.filter) (is_opened f.trees (walker_view f.names w)) (stop_from f w top from) (name_at f.names w.current)
    (first_of (filter (is_reached f.trees (walker_view f.names w)) (from_node f.trees (stop_from f w top from) (option_map (name_at f.names) from)))) o

-- the search has come to a node, or to the end, by the node's key
pub record Reaches (f : NamedTrees) (w : KeyedWalker) (top : ℕ) (from at : Option ℕ) : Type 0 where
  pub below : ForSome at (StandsBelow f top)
  pub stop : ForSome at (λ k. SameStop f w.filter top k (stop_from f w top from))
  pub around : ForSome at (λ _. IsWithin f.trees (stop_from f w top from) (name_at f.names w.current))
  pub comes : ComesAside f w top from (option_map (name_at f.names) at)

-- where it begins
pub Reaches-begin : {f : NamedTrees} → StandOnce f → StandAlone f → {w : KeyedWalker} {top : ℕ} → w.current < length f.names → {from : Option ℕ} →
    ForSome from (BeginsForward f w top) → Reaches f w top from from
Reaches-begin once only at_current {from = None} begins = record {
  below = λ k e. absurd cc;
  stop = λ k e. absurd cc;
  around = λ k e. absurd cc;
  comes = record { within = λ x e. absurd cc; path = λ x e. absurd cc; apart = λ i. i; left = refl };
}
Reaches-begin {f} once only {w} {top} at_current {from = Some j} begins =
    let b = begins j refl in
    let stop = stop_above f.trees w.filter (name_at f.names top) (name_at f.names j) in
    let inside = within-below f.trees stop (name_at f.names j)
    (below-stop f.trees w.filter (name_at f.names top) (name_at f.names j) (IsBelow-key f once only top j b.below)) in
    record {
      below = λ k e. subst (StandsBelow f top) (same_Some j k e) b.below;
      stop = λ k e. ap (λ i. stop_above f.trees w.filter (name_at f.names top) (name_at f.names i)) (sym (same_Some j k e));
      around = λ k e. IsWithin-forest f once only (Has-forest f once w.current at_current) b.around;
      comes = record {
        within = λ x e. subst (IsWithin f.trees stop) (same_Some _ x e) inside;
        path = λ x e. subst (λ y. list_all (is_opened f.trees (walker_view f.names w)) (ancestors f.trees y) ≡ true) (same_Some _ x e) b.path;
        apart = In-not (name_at f.names w.current) (from_node f.trees stop (Some (name_at f.names j))) b.apart;
        left = refl;
      };
    }

module _ (f : NamedTrees) (w : KeyedWalker) (top : ℕ) (from at : Option ℕ) (k : ℕ) (is : at ≡ Some k) (r : Reaches f w top from at) where
  -- where it is, by a key
  pub here_at : ComesAside f w top from (Some (name_at f.names k))
  here_at = subst (ComesAside f w top from) (ap (option_map (name_at f.names)) is) r.comes

  -- a skipped node is entered
  pub Reaches-skip : (next : Option ℕ) → ForSome next (StandsBelow f top) →
      ForSome next (λ j. SameStop f w.filter top j (stop_above f.trees w.filter (name_at f.names top) (name_at f.names k)))
      → Some Skip ≡ answer_at f.trees w.filter (name_at f.names k)
      → option_map (name_at f.names) next ≡ first_of
      (behind f.trees (stop_above f.trees w.filter (name_at f.names top) (name_at f.names k)) (name_at f.names k)) → Reaches f w top from next
  Reaches-skip next below stop answer value = record {
    below = below;
    stop = λ j e. stop j e ∙ r.stop k is;
    around = λ j e. r.around k is;
    comes =
        let v = walker_view f.names w in
        Comes-skip f.trees (accepts f.trees w.filter) (is_opened f.trees v) (stop_from f w top from) (name_at f.names w.current) _
        (name_at f.names k) (option_map (name_at f.names) next) here_at (accepts-some f.trees v (name_at f.names k) Skip answer)
        (opened-skip f.trees v (name_at f.names k) answer) (value ∙ ap (λ a. first_of (behind f.trees a (name_at f.names k))) (r.stop k is));
  }

  -- a rejected one is passed with its tree
  pub Reaches-reject : (next : Option ℕ) → ForSome next (StandsBelow f top) →
      ForSome next (λ j. SameStop f w.filter top j (stop_above f.trees w.filter (name_at f.names top) (name_at f.names k)))
      → Some Reject ≡ answer_at f.trees w.filter (name_at f.names k)
      → option_map (name_at f.names) next ≡ first_of
      (beyond f.trees (stop_above f.trees w.filter (name_at f.names top) (name_at f.names k)) (name_at f.names k)) → Reaches f w top from next
  Reaches-reject next below stop answer value = record {
    below = below;
    stop = λ j e. stop j e ∙ r.stop k is;
    around = λ j e. r.around k is;
    comes =
        let v = walker_view f.names w in
        let off = false_from_ne_true _ (Comes-apart f.trees (accepts f.trees w.filter) (is_opened f.trees v) (stop_from f w top from)
        (name_at f.names w.current) _ (name_at f.names k) here_at (r.around k is)) in
        Comes-reject f.trees (accepts f.trees w.filter) (is_opened f.trees v) (stop_from f w top from) (name_at f.names w.current) _
        (name_at f.names k) (option_map (name_at f.names) next) here_at (accepts-some f.trees v (name_at f.names k) Reject answer)
        (opened-reject f.trees v (name_at f.names k) answer off) (value ∙ ap (λ a. first_of (beyond f.trees a (name_at f.names k))) (r.stop k is));
  }

  -- what is left to search is less
  pub Reaches-shorter-skip : (next : Option ℕ) →
      option_map (name_at f.names) next ≡ first_of
      (behind f.trees (stop_above f.trees w.filter (name_at f.names top) (name_at f.names k)) (name_at f.names k))
      → length (from_node f.trees (stop_from f w top from) (option_map (name_at f.names) next)) < length
      (from_node f.trees (stop_from f w top from) (option_map (name_at f.names) at))
  Reaches-shorter-skip next value =
      subst (λ (o : Option NodeName). length (from_node f.trees (stop_from f w top from) (option_map (name_at f.names) next)) < length
      (from_node f.trees (stop_from f w top from) o)) (sym (ap (option_map (name_at f.names)) is))
      (shorter-skip f.trees (stop_from f w top from) (name_at f.names k) (option_map (name_at f.names) next)
      (here_at.within (name_at f.names k) refl) (value ∙ ap (λ a. first_of (behind f.trees a (name_at f.names k))) (r.stop k is)))

  -- less is left to search where a tree is passed
  pub Reaches-shorter-reject : (next : Option ℕ) →
      option_map (name_at f.names) next ≡ first_of
      (beyond f.trees (stop_above f.trees w.filter (name_at f.names top) (name_at f.names k)) (name_at f.names k))
      → length (from_node f.trees (stop_from f w top from) (option_map (name_at f.names) next)) < length
      (from_node f.trees (stop_from f w top from) (option_map (name_at f.names) at))
  Reaches-shorter-reject next value =
      subst (λ (o : Option NodeName). length (from_node f.trees (stop_from f w top from) (option_map (name_at f.names) next)) < length
      (from_node f.trees (stop_from f w top from) o)) (sym (ap (option_map (name_at f.names)) is))
      (shorter-reject f.trees (stop_from f w top from) (name_at f.names k) (option_map (name_at f.names) next)
      (here_at.within (name_at f.names k) refl) (value ∙ ap (λ a. first_of (beyond f.trees a (name_at f.names k))) (r.stop k is)))
