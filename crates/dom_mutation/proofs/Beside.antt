-- Tables beside the trees and the live ranges: whoever writes these leaves a `Doc` ready.
use Rattle.dom_mutation.proofs.Cited.{◌≡◌, ◌∷◌, refl, sym, ap, subst, NamedTrees, Page, Part, named_ranges, ranges_of}
use Rattle.dom_mutation.proofs.Cited.{AllTables, DocState, contents, state_from, world_from, part_of, host_owners, IsReady}
use Rattle.dom_mutation.proofs.ReadyTables.{ready-same}
use Rattle.dom_mutation.proofs.Worlds.{read_same}

module _ (f : NamedTrees) (tables : AllTables) {d : DocState} (is_d : state_from f.names f.trees tables ≡ d) (h : IsReady d) where
  -- with other tables, but the same hosts and live ranges
  pub ready-beside : (others : AllTables) → others.slots.hosts ≡ tables.slots.hosts → others.ranges ≡ tables.ranges → IsReady
      (state_from f.names f.trees others)
  ready-beside others hosts ranges o =
      let a = contents f.names f.trees others in
      let b = contents f.names f.trees tables in
      let owners = ap (λ hs. Page ∷ host_owners hs) hosts in
      ready-same (part_of (world_from f.names f.trees tables) o) (part_of (world_from f.names f.trees others) o)
      (read_same a b owners (λ (p : Part). p.trees) (λ q. refl) o)
      (read_same a b owners (λ (p : Part). p.ranges) (λ q. ap (λ t. named_ranges f.names (ranges_of t q)) ranges) o)
      (subst IsReady (sym is_d) h o)
