use Rattle.dom_query_commands.proofs.Cited.{◌∙◌, refl, sym, filter_view, own, part_of, with_turn, name_in, key_of, faults, keeps, may_act, refused, lone_passes}
use Rattle.dom_query_commands.proofs.Cited.{lone_refuses}
use Rattle.dom_query_commands.proofs.Requesting.{makes_cursor}
use Rattle.dom_query_commands.proofs.cursors.new_cursor.Goals as goal

pub returns-in_err-root-clause-handled : goal.returns-in_err-root-clause-handled
returns-in_err-root-clause-handled g c =
    refused g.A.Answers.adds _ _ _ _ _ _ (makes_cursor c.args.owner c.args.cursor c.args.words.0
    (filter_view c.args.words.1)).naming c.in_err-root.ensures.passed refl
    c.from_residual.ensures.1

pub make-requires-clause-own : goal.make-requires-clause-own
make-requires-clause-own g c = (key_of _ c.state.inside.doc _ c.state.view_is _ _ _ c.in_ok-root.ensures.key.name).mine

pub returns-in_err-value-clause-handled : goal.returns-in_err-value-clause-handled
returns-in_err-value-clause-handled g c =
    let e = c.in_err-value.ensures in
    let is = makes_cursor c.args.owner c.args.cursor c.args.words.0 (filter_view c.args.words.1) in
    faults g.A.Answers.adds _ c.state.inside.doc _ c.state.view_is (may_act _ _ _ _ is.naming c.in_ok-root.ensures.passed refl) _ _ _
    c.from_residual-in_err-value.ensures.1
    (λ r h. is.limit (part_of c.state.inside.doc.world c.args.owner) ∙ lone_refuses refl e.limit e.other r h) (λ r h. e.err)

pub returns-clause-handled : goal.returns-clause-handled
returns-clause-handled g c =
    let root = key_of _ c.state.inside.doc _ c.state.view_is _ _ _ c.in_ok-root.ensures.key.name in
    let e = c.in_ok-value.ensures in
    let is = makes_cursor c.args.owner c.args.cursor c.args.words.0 (filter_view c.args.words.1) in
    let d = c.state.inside.doc in
    let p = part_of d.world c.args.owner in
    let does = is.does p (own (name_in d c.in_ok-root.root).number) _ root.number c.node_filter.ensures in
    keeps g.A.Answers.adds _ c.state.inside.doc _ c.state.view_is (may_act _ _ _ _ is.naming c.in_ok-root.ensures.passed refl) _ _ _ _
    (is.limit p ∙ lone_passes _ refl e.limit) (is.runs (with_turn c.state.inside.turn d.world)) (sym does ∙ e.world.0, e.world.1) refl c.accept.ensures.done
