-- What other crates cite of shadow trees, chains of hosts, and paths of events.
pub use Rattle.dom_worlds.proofs.ShadowTrees.{IsInTree, ancestors-in_tree, ancestors-owned, in_tree, not_in, slot-in_tree, slot_in-there, slot_way}
pub use Rattle.dom_worlds.proofs.ShadowTrees.{slots-behind, slots-first}
pub use Rattle.dom_worlds.proofs.Chains.{IsBelow, above-host, absent-host, below-host, chain-below, chain-first, has-chain, hidden-by_chain}
pub use Rattle.dom_worlds.proofs.Chains.{hidden-deeper, hidden-itself, hosts-alone, other-owner}
pub use Rattle.dom_worlds.proofs.ShadowRoots.{found-absent, found-there, kind-root, not_taken}
pub use Rattle.dom_worlds.proofs.FollowPaths.{shadow-kind, shadow-name, path-follows_parents}
