use Rattle.dom_base.proofs.Std.{◌==◌, rules, vec_len}
use Rattle.dom_query_commands.proofs.Cited.{◌≡◌, ap, not, length, List, subst, sym, ◌∙◌, AllByRecursion, NodeName, Output, records_of, part_of, DocState}
use Rattle.dom_query_commands.proofs.Cited.{record_lines, IsRecord, is_empty, queue_of}
use Rattle.dom_query_commands.proofs.Notices.{record_lines_are, any_told}
use Rattle.dom_query_commands.proofs.telling.tell_observer.Goals as goal

pub put_records-requires : goal.put_records-requires
put_records-requires g c =
    let list = c.tell-records.result.items in
    subst (λ xs. AllByRecursion (IsRecord c.forest-forest.result.now.names) xs) (sym c.as_slice.ensures.value)
    (subst (λ (ns : List NodeName). AllByRecursion (IsRecord ns) list) (sym (c.forest-forest.ensures.names ∙ c.tell-records.ensures.names))
    c.tell-records.ensures.nodes)

pub returns-clause-told : goal.returns-clause-told
returns-clause-told g c =
    let d = c.state.inside.doc in
    let o = c.args.owner in
    let k = c.args.observer in
    let r = c.put_records.result in
    let before = c.args.out.now in
    let after = c.put_records.new.out in
    let list = c.tell-records.result.items in
    subst (λ (s : DocState). g.A.Answers.adds before (records_of (part_of s.world o) k) after) c.state.view_is
    (subst (λ (os : List Output). g.A.Answers.adds before os after) (record_lines_are d d.world o k list c.tell-records.ensures.records)
    (subst (λ (ns : List NodeName). g.A.Answers.adds before (record_lines ns o k list) after)
    (c.forest-forest.ensures.names ∙ c.tell-records.ensures.names)
    (subst (λ xs. g.A.Answers.adds before (record_lines c.forest-forest.result.now.names o k xs) after) c.as_slice.ensures.value
    c.in_ok-put_records.ensures)))

pub returns-clause-any : goal.returns-clause-any
returns-clause-any g c =
    let o = c.args.owner in
    let k = c.args.observer in
    let size : vec_len c.tell-records.result ≡ length c.tell-records.result.items = search rules in
    ap not (c.is_empty.ensures ∙ ap (λ n. n == 0) size)
    ∙ subst (λ (s : DocState). not (length c.tell-records.result.items == 0) ≡ not (is_empty (queue_of (part_of s.world o).record_queues k))) c.state.view_is
    (any_told c.state.inside.doc c.tell-records.result.items c.tell-records.ensures.records)
