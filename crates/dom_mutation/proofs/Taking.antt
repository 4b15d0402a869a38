-- The signalled slots of an owner, taken out of those of all.
use Rattle.dom_mutation.proofs.Cited.{◌≡◌, ℕ, ◌<◌, true, not, List, All, filter, map, length, refl, sym, ap, subst, All-filter, NodeName, Owner, name_eq, is_in}
use Rattle.dom_mutation.proofs.Cited.{is_owned_by, without_signals, NamedTrees, name_at, AllTables, DocState, IsDoc, contents, state_from, name_in, AreNames}
use Rattle.dom_mutation.proofs.DocInvariant.{held_beside}
use Rattle.dom_mutation.proofs.RangedKeeping.{ranges_stay}

module _ (f : NamedTrees) {tables : AllTables} (held : IsDoc f.names f.trees tables) {d : DocState}
    (is_d : state_from f.names f.trees tables ≡ d) (o : Owner) where
  pub taken_names : (keys : List ℕ) → map (name_at f.names) keys ≡ filter (is_owned_by o) tables.signalled →
      map (name_in d) keys ≡ filter (is_owned_by o) d.world.signalled
  taken_names keys is = subst (λ (e : DocState). map (name_in e) keys ≡ filter (is_owned_by o) e.world.signalled) is_d is

  pub taken_nodes : (keys : List ℕ) → All (λ k. k < length f.names) keys → All (λ k. k < length d.names) keys
  taken_nodes keys all = subst (λ (e : DocState). All (λ k. k < length e.names) keys) is_d all

  module _ (rest : List NodeName) (is : rest ≡ filter (λ s. not (is_owned_by o s)) tables.signalled) where
    pub rest_held : IsDoc f.names f.trees (record tables { signalled = rest })
    rest_held = held_beside f.names f.trees tables held tables.observers tables.tasks rest tables.ranges held.speaks held.unobserved held.due
        (subst (AreNames f.names) (sym is) (All-filter (λ s. not (is_owned_by o s)) (λ x. is_in name_eq x f.names ≡ true) tables.signalled held.signals.nodes))
        (ranges_stay (contents f.names f.trees (record tables { signalled = rest })) held.ranges refl refl (λ p. refl))

    pub rest_state : state_from f.names f.trees (record tables { signalled = rest }) ≡ record d { world = without_signals d.world o }
    rest_state =
        subst (λ (e : DocState). state_from f.names f.trees (record tables { signalled = rest }) ≡ record e { world = without_signals e.world o }) is_d
        (ap (λ (xs : List NodeName). state_from f.names f.trees (record tables { signalled = xs })) is)
