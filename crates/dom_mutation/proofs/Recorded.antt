-- Observers were told of the data of a node: the owner's trees are as they were, and the same data may come.
use Rattle.dom_mutation.proofs.Cited.{◌≡◌, [], ◌∷◌, ℕ, List, subst, sym, ap, ◌∙◌, NodeName, DomString, Change, Part, queue_record, node_in, kind_of, has_data}
use Rattle.dom_mutation.proofs.Cited.{part_of, HasBounds, IsPart, name_at, DocState, MayCome, name_in, owner_in, trees_in, stepped, IsAlone}
use Rattle.dom_mutation.proofs.BoundedDocs.{bounds_told}

module _ (d e : DocState) (node : ℕ) (c : Change NodeName) (alone : IsAlone d.world (owner_in d node))
    (is : e ≡ stepped (owner_in d node) (queue_record c) d) where
  names : e.names ≡ d.names
  names = ap (λ (s : DocState). s.names) is

  same : trees_in e node ≡ trees_in d node
  same =
      ap (λ (ns : List NodeName). (part_of e.world (name_at ns node).owner).trees) names
      ∙ (ap (λ (s : DocState). (part_of s.world (owner_in d node)).trees) is ∙ ap (λ (p : Part). p.trees) (alone.steps (queue_record c ∷ []) (tt, tt)))

  -- what the owner's nodes hold
  pub held_then : (k : ℕ) → node_in (trees_in e node) (name_in e k) ≡ node_in (trees_in d node) (name_in d k)
  held_then k = ap (λ ts. node_in ts (name_in e k)) same ∙ ap (λ (ns : List NodeName). node_in (trees_in d node) (name_at ns k)) names

  pub bounds_then : IsPart (part_of d.world (owner_in d node)) → HasBounds (part_of d.world (owner_in d node)) → HasBounds (part_of e.world (owner_in e node))
  bounds_then part bounds = subst (λ (ns : List NodeName). HasBounds (part_of e.world (name_at ns node).owner)) (sym names)
      (bounds_told (owner_in d node) d alone part bounds c e is)

  pub data_then : has_data (kind_of (trees_in e node) (name_in e node)) ≡ has_data (kind_of (trees_in d node) (name_in d node))
  data_then = ap (λ ts. has_data (kind_of ts (name_in e node))) same
      ∙ ap (λ (ns : List NodeName). has_data (kind_of (trees_in d node) (name_at ns node))) names

  pub may_then : IsPart (part_of d.world (owner_in d node)) → (new : DomString) → MayCome (part_of d.world (owner_in d node)) (name_in d node) new →
      MayCome (part_of e.world (owner_in e node)) (name_in e node) new
  may_then part new may some = let asked = may some in (bounds_then part asked.0, data_then ∙ asked.1)
