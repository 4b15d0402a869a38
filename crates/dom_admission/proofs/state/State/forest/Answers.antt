use Rattle.dom_admission.proofs.Cited.{◌≡◌, ℕ, subst, DocState, name_in, trees_in, name_at}
use Rattle.dom_model.proofs.Model.{node_in}
use Rattle.dom_admission.proofs.Finding.{read_of}
use Rattle.dom_admission.proofs.state.State.forest.Goals as goal

pub returns-clause-nodes : goal.returns-clause-nodes
returns-clause-nodes c =
    let f = c.forest.result.now in
    let e = c.forest.ensures in
    subst (λ (s : DocState). (k : ℕ) → node_in f.trees (name_at f.names k) ≡ node_in (trees_in s k) (name_in s k)) c.self.view_is
    (λ k. read_of c.self.inside.doc k node_in e.names e.owned e.trees (λ o x own. own.node))
