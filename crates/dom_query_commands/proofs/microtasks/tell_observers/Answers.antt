use Rattle.dom_query_commands.proofs.Cited.{List, subst, sym, ◌∙◌, OnOk, AllByRecursion, NodeName, Output, notified_lines, part_of, DocState}
use Rattle.dom_query_commands.proofs.Cited.{notice_lines, IsNotice}
use Rattle.dom_query_commands.proofs.Notices.{notice_lines_are}
use Rattle.dom_query_commands.proofs.microtasks.tell_observers.Goals as goal

pub put_notices-requires : goal.put_notices-requires
put_notices-requires g c =
    let list = c.in_ok-notices.notices.items in
    subst (λ xs. AllByRecursion (IsNotice c.forest-forest.result.now.names) xs) (sym c.as_slice.ensures.value)
    (subst (λ (ns : List NodeName). AllByRecursion (IsNotice ns) list) (sym (c.forest-forest.ensures.names ∙ c.in_ok-notices.ensures.names))
    c.in_ok-notices.ensures.nodes)

pub returns-clause-told : goal.returns-clause-told
returns-clause-told g c =
    let d = c.state.inside.doc in
    let o = c.args.owner in
    let r = c.put_notices.result in
    let before = c.args.out.now in
    let after = c.put_notices.new.out in
    let list = c.in_ok-notices.notices.items in
    subst (λ (s : DocState). OnOk r (g.A.Answers.adds before (notified_lines (part_of s.world o)) after)) c.state.view_is
    (subst (λ (os : List Output). OnOk r (g.A.Answers.adds before os after)) (notice_lines_are d d.world o list c.in_ok-notices.ensures.notices)
    (subst (λ (ns : List NodeName). OnOk r (g.A.Answers.adds before (notice_lines ns o list) after))
    (c.forest-forest.ensures.names ∙ c.in_ok-notices.ensures.names)
    (subst (λ xs. OnOk r (g.A.Answers.adds before (notice_lines c.forest-forest.result.now.names o xs) after)) c.as_slice.ensures.value c.put_notices.ensures)))
