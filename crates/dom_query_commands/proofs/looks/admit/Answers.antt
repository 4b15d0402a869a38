-- The tests are those of the definitions.
use Rattle.dom_query_commands.proofs.Cited.{◌∙◌, refl, sym}
use Rattle.dom_query_commands.proofs.Looking.{absent_refused, foreign_refused, passed}
use Rattle.dom_query_commands.proofs.looks.admit.Goals as goal

pub returns-in-Some-clause-passed : goal.returns-in-Some-clause-passed
returns-in-Some-clause-passed c =
    let found = c.in-Some.ensures.found c.in-Some.key refl in
    passed c.args.state.now.world c.args.owner c.args.node (sym c.is_foreign.ensures ∙ c.if-is_foreign.false) c.in-Some.ensures.presence found.1
    (c.law_names_tell_nodes.ensures.there _ found.0)

pub returns-in-Some-clause-node : goal.returns-in-Some-clause-node
returns-in-Some-clause-node c = (c.in-Some.ensures.found c.in-Some.key refl).0

pub returns-in-Some-clause-name : goal.returns-in-Some-clause-name
returns-in-Some-clause-name c = (c.in-Some.ensures.found c.in-Some.key refl).1

pub returns-in-None-clause-passed : goal.returns-in-None-clause-passed
returns-in-None-clause-passed c =
    absent_refused c.args.state.now.world c.args.owner c.args.node (sym c.is_foreign.ensures ∙ c.if-is_foreign.false) (sym c.in-None.ensures.presence)

pub returns-then-is_foreign-clause-passed : goal.returns-then-is_foreign-clause-passed
returns-then-is_foreign-clause-passed c = foreign_refused c.args.state.now.world c.args.owner c.args.node (sym c.is_foreign.ensures ∙ c.if-is_foreign.true)
