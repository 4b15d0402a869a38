-- A Text got the data of those directly after it: the live ranges' offsets are within lengths then, each join fits, and the joins
-- are those that were planned before.
use Rattle.dom_mutation.proofs.Cited.{◌≡◌, ℕ, true, List, map, Some, sym, ap, subst, ◌∙◌, flat_map, NodeName, DomString, Part, after, replacing_data, joins}
use Rattle.dom_mutation.proofs.Cited.{contiguous_texts_after, node_in, has_node, is_text, kind_of, parent_of, length_of, part_of, HasBounds, IsPart, name_at}
use Rattle.dom_mutation.proofs.Cited.{DocState, JoinsFit, name_in, owner_in, trees_in, planned, IsAlone, keeps-replacing_data}
use Rattle.dom_worlds.proofs.RangeLemmas.{text-data}
use Rattle.dom_mutation.proofs.BoundedDocs.{bounds_grown}
use Rattle.dom_mutation.proofs.ExactJoins.{joins_after}
use Rattle.dom_mutation.proofs.BoundedPlans.{joining-joins_fit}
use Rattle.dom_mutation.proofs.Made.{plan_alone}
use Rattle.dom_mutation.proofs.OwnPlans.{own_rules}

-- the joins are those that were planned, each fits, and the live ranges' offsets are within lengths
pub record IsGrown (d e : DocState) (node parent size : ℕ) (ks : List ℕ) : Type 0 where
  pub exact : joins (trees_in e node) (name_in e node) (name_in e parent) size (map (name_in e) ks) ≡
      joins (trees_in d node) (name_in e node) (name_in e parent) size (map (name_in e) ks)
  pub fit : JoinsFit (trees_in e node) (name_in e node) size (map (name_in e) ks)
  pub bounds : HasBounds (part_of e.world (owner_in e node))

module _ (d e : DocState) (node parent size : ℕ) (units : DomString) (ks : List ℕ) (alone : IsAlone d.world (owner_in d node))
    (part : IsPart (part_of d.world (owner_in d node))) (bounds : HasBounds (part_of d.world (owner_in d node)))
    (there : has_node (trees_in d node) (name_in d node) ≡ true) (text : is_text (kind_of (trees_in d node) (name_in d node)) ≡ true)
    (up : parent_of (trees_in d node) (name_in d node) ≡ Some (name_in d parent))
    (listed : map (name_in d) ks ≡ contiguous_texts_after (trees_in d node) (name_in d node)) (sized : size ≡ length_of (trees_in d node) (name_in d node))
    (collected : units ≡ flat_map (λ y. (node_in (trees_in d node) y).text) (map (name_in d) ks))
    (made : e ≡ planned (owner_in d node) (replacing_data (name_in d node) size 0 units) d) where
  abbrev p : Part
  p = part_of d.world (owner_in d node)

  abbrev x : NodeName
  x = name_in d node

  abbrev all : DomString
  all = flat_map (λ y. (node_in p.trees y).text) (contiguous_texts_after p.trees x)

  -- the owner's trees then
  grown : (part_of e.world (owner_in d node)).trees ≡ (after p (replacing_data x (length_of p.trees x) 0 all p)).trees
  grown =
      ap (λ (q : Part). q.trees)
      (ap (λ (s : DocState). part_of s.world (owner_in d node)) made ∙ plan_alone (owner_in d node) (replacing_data x size 0 units) d.world alone
      (keeps-replacing_data (own_rules (owner_in d node)) x size 0 units)
      ∙ ap (λ n. after p (replacing_data x n 0 units p)) sized ∙ ap (λ u. after p (replacing_data x (length_of p.trees x) 0 u p))
      (collected ∙ ap (flat_map (λ y. (node_in p.trees y).text)) listed))

  names : e.names ≡ d.names
  names = ap (λ (s : DocState). s.names) made

  trees_e : trees_in e node ≡ (after p (replacing_data x (length_of p.trees x) 0 all p)).trees
  trees_e = ap (λ (ns : List NodeName). (part_of e.world (name_at ns node).owner).trees) names ∙ grown

  pub grown_for : IsGrown d e node parent size ks
  grown_for = record {
    exact = ap (λ ts. joins ts (name_in e node) (name_in e parent) size (map (name_in e) ks)) trees_e
        ∙ subst (λ (ns : List NodeName). joins (after p (replacing_data x (length_of p.trees x) 0 all p)).trees (name_at ns node)
        (name_at ns parent) size (map (name_at ns) ks) ≡ joins p.trees (name_at ns node) (name_at ns parent) size (map (name_at ns) ks)) (sym names)
        (ap (joins (after p (replacing_data x (length_of p.trees x) 0 all p)).trees x (name_in d parent) size) listed
        ∙ (joins_after x (name_in d parent) size part record { there = there; text = text } up ∙ ap (joins p.trees x (name_in d parent) size) (sym listed)));
    fit = subst (λ ts. JoinsFit ts (name_in e node) size (map (name_in e) ks)) (sym trees_e)
        (subst (λ (ns : List NodeName). JoinsFit (after p (replacing_data x (length_of p.trees x) 0 all p)).trees (name_at ns node) size
        (map (name_at ns) ks)) (sym names)
        (subst (λ n. JoinsFit (after p (replacing_data x (length_of p.trees x) 0 all p)).trees x n (map (name_in d) ks)) (sym sized)
        (subst (JoinsFit (after p (replacing_data x (length_of p.trees x) 0 all p)).trees x (length_of p.trees x)) (sym listed)
        (joining-joins_fit x (name_in d parent) part there text up))));
    bounds = subst (λ (ns : List NodeName). HasBounds (part_of e.world (name_at ns node).owner)) (sym names)
        (bounds_grown (owner_in d node) d alone part bounds x size 0 units (text-data (kind_of p.trees x) text) made);
  }
