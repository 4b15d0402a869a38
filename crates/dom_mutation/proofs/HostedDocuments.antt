-- Node documents in the world of what is held with hosts: a tree's, and those of the shadow trees of the hosts in it, at any depth.
use Rattle.dom_mutation.proofs.Cited.{◌≡◌, ℕ, zero, suc, true, List, [], ◌∷◌, ◌++◌, Option, Some, None, fold, map, filter_map, flat_map, refl, sym, ap, ◌∙◌}
use Rattle.dom_mutation.proofs.Cited.{option_map, AllByRecursion, cons_option, map-append, NodeName, Owner, max_depth, inclusive_descendants, change_subtree}
use Rattle.dom_mutation.proofs.Cited.{with_document, set_document, part_step, World, is_there, components_below, shadow_root_of, world_step}
use Rattle.dom_mutation.proofs.Cited.{with_shadow_document, roots_within, ShadowHost, root_named, count_of, IsOwnChange, changed_subtree, Contents, part_in}
use Rattle.dom_mutation.proofs.Cited.{part_with, world_of, component_named, AreHostsOf, document_in, documents_in, forest_in}
use Rattle.dom_model.proofs.Model.{stepped}
use Rattle.dom_mutation.proofs.Worlds.{IsChangeOf, there_same}
use Rattle.dom_mutation.proofs.HostedWorlds.{root-component, near_looked, below_there}
use Rattle.dom_mutation.proofs.HostedSteps.{names_same, hosts_stepped, stepped_hosted}

-- owners that are there still are, where the owners are the same
all_there : (a b : Contents) → b.owners ≡ a.owners → (os : List Owner) → AllByRecursion (λ o. is_there (world_of a) o ≡ true) os →
    AllByRecursion (λ o. is_there (world_of b) o ≡ true) os
all_there a b same [] all = tt
all_there a b same (o ∷ os) all = (there_same b a same o ∙ all.0, all_there a b same os all.1)

-- a tree of one owner
module _ (a : Contents) (hosts : List ShadowHost) (held : AreHostsOf a hosts) (o : Owner) (there : is_there (world_of a) o ≡ true)
    (x d : NodeName) (own : x.owner ≡ o) where
  change : IsOwnChange o (change_subtree (with_document d) x) a.trees
  change = changed_subtree a.trees held.owned o (with_document d) x (λ n. refl) own

  part_changed : IsChangeOf a (document_in d a x) o (part_step (part_in a o) (set_document x d))
  part_changed = record {
    owners = refl;
    signalled = refl;
    tasks = refl;
    own = ap (λ us. part_with o us (count_of o a.names) (a.tables o)) change.own;
    others = λ q other. ap (λ us. part_with q us (count_of q a.names) (a.tables q)) (change.others q other);
  }

  pub document_stepped : world_of (document_in d a x) ≡ stepped o (world_of a) (set_document x d)
  document_stepped = stepped_hosted a hosts held o there (document_in d a x) (set_document x d) part_changed

  pub document_hosted : AreHostsOf (document_in d a x) hosts
  document_hosted = hosts_stepped (set_document x d) held there (names_same a.names) change.owned part_changed

-- the shadow trees of components, one after another
shadows_stepped : (a : Contents) (hosts : List ShadowHost) (d : NodeName) (os : List Owner) → AreHostsOf a hosts →
    AllByRecursion (λ o. is_there (world_of a) o ≡ true) os
    → world_of (fold (document_in d) a (map shadow_root_of os)) ≡ fold (with_shadow_document d) (world_of a) os
shadows_stepped a hosts d [] held there = refl
shadows_stepped a hosts d (o ∷ os) held there =
    let next = document_in d a (shadow_root_of o) in
    shadows_stepped next hosts d os (document_hosted a hosts held o there.0 (shadow_root_of o) d refl) (all_there a next refl os there.1)
    ∙ ap (λ (w : World). fold (with_shadow_document d) w os) (document_stepped a hosts held o there.0 (shadow_root_of o) d refl)

-- the shadow roots of hosts are those of their components
roots_components : (a : Contents) (hosts : List ShadowHost) → AreHostsOf a hosts → (ys : List NodeName) →
    filter_map (root_named a.names hosts) ys ≡ map shadow_root_of (filter_map (component_named a.names hosts) ys)
roots_components a hosts held [] = refl
roots_components a hosts held (y ∷ ys) =
    (λ j. cons_option (root-component a.names [] hosts y held.made j) (roots_components a hosts held ys j)) ∙ by (component_named a.names hosts y)
  where
    by : (m : Option Owner) → cons_option (option_map shadow_root_of m) (map shadow_root_of (filter_map (component_named a.names hosts) ys)) ≡ map
        shadow_root_of (cons_option m (filter_map (component_named a.names hosts) ys))
    by None = refl
    by (Some o) = refl

-- so are those below a node, at any depth
module _ (a : Contents) (hosts : List ShadowHost) (held : AreHostsOf a hosts) where
  roots_each : (f : NodeName → List NodeName) (g : Owner → List Owner) → ((o : Owner) → f (shadow_root_of o) ≡ map shadow_root_of (g o)) →
      (os : List Owner) → flat_map (λ r. r ∷ f r) (map shadow_root_of os) ≡ map shadow_root_of (flat_map (λ o. o ∷ g o) os)
  roots_each f g deeper [] = refl
  roots_each f g deeper (o ∷ os) =
      (λ j. shadow_root_of o ∷ (deeper o j ++ roots_each f g deeper os j))
      ∙ ap (λ rs. shadow_root_of o ∷ rs) (sym (map-append shadow_root_of (g o) (flat_map (λ p. p ∷ g p) os)))

  roots_below : (depth : ℕ) (x : NodeName) → roots_within depth (forest_in a) hosts x ≡ map shadow_root_of (components_below depth (world_of a) x)
  roots_below zero x = refl
  roots_below (suc depth) x =
      ap (flat_map (λ r. r ∷ roots_within depth (forest_in a) hosts r)) (roots_components a hosts held (inclusive_descendants a.trees x))
      ∙ (roots_each (roots_within depth (forest_in a) hosts) (λ o. components_below depth (world_of a) (shadow_root_of o))
      (λ o. roots_below depth (shadow_root_of o)) (filter_map (component_named a.names hosts) (inclusive_descendants a.trees x))
      ∙ ap (λ os. map shadow_root_of (flat_map (λ c. c ∷ components_below depth (world_of a) (shadow_root_of c)) os)) (sym (near_looked a hosts held x)))

-- A node document: of the tree, and of the shadow trees of the hosts in it, at any depth.
module _ (a : Contents) (hosts : List ShadowHost) (held : AreHostsOf a hosts) (o : Owner) (there : is_there (world_of a) o ≡ true)
    (x d : NodeName) (own : x.owner ≡ o) where
  below_are_there : AllByRecursion (λ q. is_there (world_of (document_in d a x)) q ≡ true) (components_below max_depth (world_of a) x)
  below_are_there =
      all_there a (document_in d a x) refl (components_below max_depth (world_of a) x) (below_there a hosts held max_depth x)

  -- the world after the step
  pub documents_world : world_of (documents_in d a hosts x) ≡ world_step o (world_of a) (set_document x d)
  documents_world =
      ap (λ rs. world_of (fold (document_in d) (document_in d a x) rs)) (roots_below a hosts held max_depth x)
      ∙ (shadows_stepped (document_in d a x) hosts d (components_below max_depth (world_of a) x) (document_hosted a hosts held o there x d own)
      below_are_there
      ∙ ap (λ (w : World). fold (with_shadow_document d) w (components_below max_depth (world_of a) x)) (document_stepped a hosts held o there x d own))
