use Rattle.dom_commands.proofs.Cited.{◌∷◌, [], ℕ, Bool, true, false, if◌then◌else◌, Any, Range, word_view, NodeWord, key_of, refused, IsNaming, namings}
use Rattle.dom_model.proofs.Model.{Owner, Command}
use Rattle.dom_commands.proofs.ranging.set_boundary.Goals as goal

-- it names the node and the range, whichever end is set
naming : (o : Owner) (is_start : Bool) (k : ℕ) (x : NodeWord) (offset : ℕ) →
    IsNaming o (if is_start then Command.range_start k (word_view x) offset else Command.range_end k (word_view x) offset) (Any x ∷ Range k ∷ [])
naming o true k x offset = search namings
naming o false k x offset = search namings

pub returns-in_err-admit-clause-handled : goal.returns-in_err-admit-clause-handled
returns-in_err-admit-clause-handled g c =
    refused g.A.Answers.adds _ _ _ _ _ _ (naming c.args.owner c.args.is_start c.args.number c.args.point.0 c.args.point.1) c.admit.ensures c.in_err-admit.was
    c.from_residual.ensures.1

pub range_set_start-requires-clause-own : goal.range_set_start-requires-clause-own
range_set_start-requires-clause-own g c = (key_of _ c.state.inside.doc _ c.state.view_is _ _ _ c.key-node.ensures.name).mine

pub range_set_end-requires-clause-own : goal.range_set_end-requires-clause-own
range_set_end-requires-clause-own g c = (key_of _ c.state.inside.doc _ c.state.view_is _ _ _ c.key-node.ensures.name).mine
