use Rattle.dom_mutation.proofs.Cited.{◌≡◌, ℕ, ◌-◌, min, length, Some, sym, ap, arith, ◌∙◌, on_ok_weaker, NodeName, DomString, Change, replace_data}
use Rattle.dom_mutation.proofs.Cited.{character_data, queue_record, node_in, DocState, name_in, owner_in, trees_in, name_at, stepped}
use Rattle.dom_mutation.proofs.Recorded.{held_then, bounds_then, data_then}
use Rattle.dom_mutation.proofs.character_data.appending_data.Goals.{In_ok-queue_data_record}
use Rattle.dom_mutation.proofs.character_data.appending_data.Goals as goal

-- what observers were told
abbrev told : DocState → ℕ → Change NodeName
told d node = character_data (name_in d node) (Some (node_in (trees_in d node) (name_in d node)).text)

-- what the owner's nodes hold then
held : (c : In_ok-queue_data_record) (k : ℕ) → node_in (trees_in c.queue_data_record.new.self c.args.first) (name_in c.queue_data_record.new.self k)
    ≡ node_in (trees_in c.args.parts.now c.args.first) (name_in c.args.parts.now k)
held c = held_then c.args.parts.now c.queue_data_record.new.self c.args.first (told c.args.parts.now c.args.first)
    (c.laws.ensures.alone c.args.first c.requires.first_is_node) c.in_ok-queue_data_record.ensures

pub append_data-requires-clause-has_data : goal.append_data-requires-clause-has_data
append_data-requires-clause-has_data c =
    data_then c.args.parts.now c.queue_data_record.new.self c.args.first (told c.args.parts.now c.args.first)
    (c.laws.ensures.alone c.args.first c.requires.first_is_node) c.in_ok-queue_data_record.ensures ∙ c.requires.has_data

pub append_data-requires-clause-bounds : goal.append_data-requires-clause-bounds
append_data-requires-clause-bounds c =
    let d = c.args.parts.now in
    bounds_then d c.queue_data_record.new.self c.args.first (told d c.args.first)
    (c.laws.ensures.alone c.args.first c.requires.first_is_node) c.in_ok-queue_data_record.ensures
    (c.laws.ensures.parts (owner_in d c.args.first)) c.requires.bounds

pub returns : goal.returns
returns c =
    let d = c.args.parts.now in
    let e = c.queue_data_record.new.self in
    let o = owner_in d c.args.first in
    let x = name_in d c.args.first in
    let names = ap (λ (s : DocState). s.names) c.in_ok-queue_data_record.ensures in
    let then = (goal.at.returns c).In_ok-queue_data_record in
    let own : DomString = (node_in (trees_in d c.args.first) x).text in
    let more : DomString = (node_in (trees_in d c.args.first) (name_in d c.args.other)).text in
    let none : min 0 (length own - length own) ≡ 0 = omega arith in
    on_ok_weaker c.append_data.result
    (λ done. done
    ∙ (λ i. stepped (name_at (names i) c.args.first).owner (replace_data (name_at (names i) c.args.first) (length (held then c.args.first i).text) 0
    (held then c.args.other i).text) e)
    ∙ ap (stepped o (replace_data x (length own) 0 more)) c.in_ok-queue_data_record.ensures
    ∙ ap (λ n. stepped o (replace_data x (length own) n more) (stepped o (queue_record (told d c.args.first)) d)) (sym none))
    c.append_data.ensures.ok
