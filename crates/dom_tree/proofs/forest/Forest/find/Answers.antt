use Rattle.dom_base.proofs.Std.{◌≡◌, ℕ, Some, rules, ap, ◌∙◌, slice_get, slice_get_within}
use Rattle.dom_tree.specs.Definitions.{NamedTrees}
use Rattle.dom_tree.proofs.Once.{shows_present}
use Rattle.dom_tree.proofs.forest.Forest.find.Goals as goal

kept : (c : goal.After-find) → (k : ℕ) → slice_get c.args.self.now.names k ≡ Some c.args.name → c.find.result ≡ Some k
kept c k e = c.find.ensures ∙ c.self.invariant.kept.kept c.args.name k (ap (λ (f : NamedTrees). slice_get f.names k) c.self.view_is ∙ e)

pub returns-clause-kept : goal.returns-clause-kept
returns-clause-kept c = kept c

pub returns-clause-found : goal.returns-clause-found
returns-clause-found c = search rules

pub returns-clause-present : goal.returns-clause-present
returns-clause-present c = shows_present c.self.view_is c.self.invariant.kept c.args.name c.find.result (kept c) (returns-clause-found c)

pub returns-clause-node : goal.returns-clause-node
returns-clause-node c = λ k e. slice_get_within c.args.self.now.names k c.args.name (returns-clause-found c k e)
