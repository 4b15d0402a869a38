-- Node documents set one tree after another.
use Rattle.dom_mutation.proofs.Cited.{◌≡◌, ℕ, ◌<◌, List, [], ◌∷◌, All, map, fold, length, refl, sym, ap, subst, ◌∙◌, All-head, All-tail, NodeName, is_in}
use Rattle.dom_mutation.proofs.Cited.{name_eq, Trees, inclusive_descendants, change_subtree, with_document, set_document, NamedTrees, name_at, changed_subtree}
use Rattle.dom_mutation.proofs.Cited.{keeps_if, slots-recast, Contents, world_of, DocState, named_trees, contents, world_from, state_from, IsDoc, name_in}
use Rattle.dom_mutation.proofs.Cited.{owner_in, stepped, document_in, forest_in, AllTables, under_each, roots_within, keeps_changed_below}
use Rattle.dom_model.proofs.Model.{max_depth}
use Rattle.dom_mutation.proofs.DocInvariant.{are_hosts, held_changed}
use Rattle.dom_mutation.proofs.HostedDocuments.{documents_world}
use Rattle.dom_mutation.proofs.Shown.{known, owner_there, step_done}

-- how many closed trees can lie in one another, as the code has it
pub depth_is : max_depth ≡ 8
unfolding max_depth
depth_is = refl

-- one tree after another, in what is held
pub documents_trees : (d : NodeName) (c : Contents) (xs : List NodeName) → fold (document_in d) c xs ≡ record c { trees = fold (under_each d) c.trees xs }
documents_trees d c [] = refl
documents_trees d c (x ∷ xs) = documents_trees d (document_in d c x) xs

module _ (names : List NodeName) (d : NodeName) (tables : AllTables) where
  one_held : (ts : Trees) → IsDoc names ts tables → (k : ℕ) → k < length names → IsDoc names (under_each d ts (name_at names k)) tables
  one_held ts held k within =
      let x = name_at names k in
      held_changed names ts tables held x.owner (held.present k within) (change_subtree (with_document d) x)
      (changed_subtree ts held.owned x.owner (with_document d) x (λ n. refl) refl) (keeps_changed_below (with_document d) (λ n. refl) x ts)
      (slots-recast (named_trees names ts) (named_trees names (change_subtree (with_document d) x ts))
      (keeps_if (λ n. is_in name_eq n.name (inclusive_descendants ts x)) (with_document d)
      record { name = λ n. refl; kind = λ n. refl; element = λ n. refl; attributes = λ n. refl }) refl refl held.signals.slots)

  each_held : (ks : List ℕ) (ts : Trees) → IsDoc names ts tables → All (λ k. k < length names) ks →
      IsDoc names (fold (under_each d) ts (map (name_at names) ks)) tables
  each_held [] ts held all = held
  each_held (k ∷ ks) ts held all = each_held ks (under_each d ts (name_at names k))
      (one_held ts held k (All-head (λ j. j < length names) k ks all)) (All-tail (λ j. j < length names) k ks all)

-- the documents of a tree, and of the shadow trees of the hosts in it, at any depth
module _ (f : NamedTrees) {tables : AllTables} (held : IsDoc f.names f.trees tables) {s : DocState}
    (is_s : state_from f.names f.trees tables ≡ s) (k doc : ℕ) (k< : k < length s.names) (roots : List ℕ)
    (listed : map (name_at f.names) roots ≡ roots_within max_depth f tables.slots.hosts (name_at f.names k)) (nodes : All (λ j. j < length f.names) roots)
    (g : NamedTrees) (names : g.names ≡ f.names)
    (trees : g.trees ≡ fold (under_each (name_at f.names doc)) (under_each (name_at f.names doc) f.trees (name_at f.names k))
    (map (name_at f.names) roots)) where
  pub documents_are_held : IsDoc g.names g.trees tables
  documents_are_held =
      subst (λ (ns : List NodeName). IsDoc ns g.trees tables) (sym names)
      (subst (λ (us : Trees). IsDoc f.names us tables) (sym trees)
      (each_held f.names (name_at f.names doc) tables roots (under_each (name_at f.names doc) f.trees (name_at f.names k))
      (one_held f.names (name_at f.names doc) tables f.trees held k (known f held is_s (λ e. k < length e.names) k<)) nodes))

  pub documents_are_set : state_from g.names g.trees tables ≡ stepped (owner_in s k) (set_document (name_in s k) (name_in s doc)) s
  documents_are_set =
      let x = name_at f.names k in
      let d = name_at f.names doc in
      let a = contents f.names f.trees tables in
      step_done f held is_s k (λ ts. fold (under_each d) (under_each d ts x) (map (name_at f.names) roots)) g names trees
      (λ ns. set_document (name_at ns k) (name_at ns doc))
      (ap (λ xs. world_from f.names (fold (under_each d) (under_each d f.trees x) xs) tables) listed
      ∙ (ap world_of (sym (documents_trees d (document_in d a x) (roots_within max_depth (forest_in a) tables.slots.hosts x)))
      ∙ documents_world a tables.slots.hosts (are_hosts f.names f.trees tables held) x.owner (owner_there f held is_s k k<) x d refl))
