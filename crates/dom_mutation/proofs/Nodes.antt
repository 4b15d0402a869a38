-- Keys of nodes stay keys of nodes where the names stay, and nodes that may be moved are nodes.
use Rattle.dom_mutation.proofs.Cited.{◌≡◌, ℕ, ◌<◌, List, [], ◌∷◌, length, sym, subst, AllByRecursion, NodeName, DocState, AreNodes, owner_in}

pub nodes_kept : (d e : DocState) → e.names ≡ d.names → (ks : List ℕ) → AreNodes d ks → AreNodes e ks
nodes_kept d e same ks all = subst (λ (ns : List NodeName). AllByRecursion (λ k. k < length ns) ks) (sym same) all

-- nodes of an owner
pub own_nodes : (d : DocState) (top : ℕ) (ks : List ℕ) → AllByRecursion (λ k. (k < length d.names) × (owner_in d k ≡ owner_in d top)) ks → AreNodes d ks
own_nodes d top [] all = tt
own_nodes d top (k ∷ ks) all = (all.0.0, own_nodes d top ks all.1)
