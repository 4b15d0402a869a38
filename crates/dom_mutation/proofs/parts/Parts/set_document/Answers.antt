use Rattle.dom_mutation.proofs.Cited.{◌≡◌, ◌<◌, ℕ, List, All, map, fold, length, sym, ap, subst, ◌∙◌, NodeName, Trees, max_depth, NamedTrees, name_at}
use Rattle.dom_mutation.proofs.Cited.{ShadowHost, under_each, roots_within}
use Rattle.dom_mutation.proofs.Roots.{depth_is, documents_are_held, documents_are_set}
use Rattle.dom_mutation.proofs.parts.Parts.set_document.Goals as goal

-- the trees after all, where the names, the trees and the roots that were used are these
all_set : (doc : ℕ) {ns ms : List NodeName} {ts us vs : Trees} {tops roots : List ℕ} → ns ≡ ms → ts ≡ us → tops ≡ roots →
    vs ≡ fold (under_each (name_at ns doc)) ts (map (name_at ns) tops) → vs ≡ fold (under_each (name_at ms doc)) us (map (name_at ms) roots)
all_set doc {ns} {ms} {ts} {us} {vs} {tops} names trees same set =
    set
    ∙ (ap (λ (xs : List NodeName). fold (under_each (name_at xs doc)) ts (map (name_at xs) tops)) names
    ∙ (ap (λ (xs : Trees). fold (under_each (name_at ms doc)) xs (map (name_at ms) tops)) trees
    ∙ ap (λ (ks : List ℕ). fold (under_each (name_at ms doc)) us (map (name_at ms) ks)) same))

-- as deep as the definition goes
as_deep : (f : NamedTrees) (hosts : List ShadowHost) (node : ℕ) →
    roots_within max_depth f hosts (name_at f.names node) ≡ roots_within 8 f hosts (name_at f.names node)
as_deep f hosts node = ap (λ n. roots_within n f hosts (name_at f.names node)) depth_is

pub set_each-requires-clause-tops_are_nodes : goal.set_each-requires-clause-tops_are_nodes
set_each-requires-clause-tops_are_nodes c =
    subst (λ (ks : List ℕ). All (λ k. k < length c.set_documents.new.forest.names) ks) (sym c.as_slice.ensures.value)
    (subst (λ (ns : List NodeName). All (λ k. k < length ns) c.in_ok-roots.roots.items) (sym c.set_documents.ensures.names) c.in_ok-roots.ensures.nodes)

pub invariant_of-self : goal.invariant_of-self
invariant_of-self c =
    documents_are_held c.self.inside.trees.forest c.self.invariant c.self.view_is c.args.node c.args.document c.requires.node_is_node
    c.in_ok-roots.roots.items (c.in_ok-roots.ensures.names ∙ sym (as_deep c.self.inside.trees.forest c.self.inside.trees.slots.hosts c.args.node))
    c.in_ok-roots.ensures.nodes
    c.set_each.new.forest (c.set_each.ensures.names ∙ c.set_documents.ensures.names)
    (all_set c.args.document c.set_documents.ensures.names c.set_documents.ensures.trees c.as_slice.ensures.value c.set_each.ensures.trees)

pub returns : goal.returns
returns c =
    documents_are_set c.self.inside.trees.forest c.self.invariant c.self.view_is c.args.node c.args.document c.requires.node_is_node
    c.in_ok-roots.roots.items (c.in_ok-roots.ensures.names ∙ sym (as_deep c.self.inside.trees.forest c.self.inside.trees.slots.hosts c.args.node))
    c.in_ok-roots.ensures.nodes
    c.set_each.new.forest (c.set_each.ensures.names ∙ c.set_documents.ensures.names)
    (all_set c.args.document c.set_documents.ensures.names c.set_documents.ensures.trees c.as_slice.ensures.value c.set_each.ensures.trees)
