-- Whoever has nodes is there, and the page.
use Rattle.dom_mutation.proofs.Cited.{◌≡◌, ◌≢◌, ◌<◌, Bool, true, false, inl, inr, [], ◌∷◌, sym, ap, subst, refl, ◌∙◌, arith, nat_lt, lt-ltb, le-ltb, Owner}
use Rattle.dom_mutation.proofs.Cited.{Page, is_there, NamedTrees, count_of, AllTables, DocState, contents, world_from, state_from, IsDoc, host_owners}
use Rattle.dom_mutation.proofs.Attachable.{owner_node}
use Rattle.dom_mutation.proofs.AttachedWorlds.{count_none}
use Rattle.dom_mutation.proofs.DocInvariant.{are_hosts}
use Rattle.dom_mutation.proofs.HostedWorlds.{page_hosted}
use Rattle.dom_mutation.proofs.Worlds.{In, there_in}

module _ (f : NamedTrees) {tables : AllTables} (held : IsDoc f.names f.trees tables) {d : DocState} (is_d : state_from f.names f.trees tables ≡ d) where
  pub page_there : true ≡ is_there d.world Page
  page_there = subst (λ (e : DocState). true ≡ is_there e.world Page) is_d
      (sym (page_hosted (contents f.names f.trees tables) tables.slots.hosts (are_hosts f.names f.trees tables held)))

  -- a component that is there has nodes
  counted : (o : Owner) → o ≢ Page → is_there (world_from f.names f.trees tables) o ≡ true → 0 < count_of o f.names
  counted o other there = by (there_in (contents f.names f.trees tables) o there)
    where
      by : In o (Page ∷ host_owners tables.slots.hosts) → 0 < count_of o f.names
      by (inl e) = absurd (other (sym e))
      by (inr i) =
          let node = owner_node f.names [] tables.slots.hosts o held.made held.signals.slots.hosts i in
          let number = held.numbered node.0 node.1 in
          let count = ap (λ (p : Owner). count_of p f.names) node.2 in
          omega (arith, number, count)

  -- and no other one has
  pub nodes_there : (o : Owner) → o ≢ Page → nat_lt 0 (count_of o f.names) ≡ is_there d.world o
  nodes_there o other =
      subst (λ (e : DocState). nat_lt 0 (count_of o f.names) ≡ is_there e.world o) is_d (by (is_there (world_from f.names f.trees tables) o) refl)
    where
      by : (b : Bool) → is_there (world_from f.names f.trees tables) o ≡ b → nat_lt 0 (count_of o f.names) ≡ is_there (world_from f.names f.trees tables) o
      by true there = lt-ltb 0 (count_of o f.names) (counted o other there) ∙ sym there
      by false off =
          let none = count_none o f.names (λ k k< e. let on = sym (ap (is_there (world_from f.names f.trees tables)) e) ∙ held.present k k< in cc) in
          le-ltb 0 (count_of o f.names) (omega (arith, none)) ∙ sym off
