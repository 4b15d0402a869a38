use Rattle.dom_mutation.proofs.Cited.{◌≡◌, ◌<◌, ◌≤◌, ℕ, List, [], ◌∷◌, length, map, flat_map, get_or, AllByRecursion, subst, sym, ap, ◌∙◌, arith}
use Rattle.dom_mutation.proofs.Cited.{append-nil, cond-true, on_ok_weaker, NodeName, DomString, replacing_data, has_data, kind_of, node_in, children_of}
use Rattle.dom_mutation.proofs.Cited.{length_of, DocState, IsOwnNode, name_in, owner_in, planned, trees_in}
use Rattle.dom_worlds.proofs.RangeLemmas.{text-data}
use Rattle.dom_mutation.proofs.normalizing.gather.Goals as goal

-- a list of one key
alone : (k : ℕ) (ks : List ℕ) → 1 ≤ length ks → length ks < 2 → k ≡ get_or ks 0 k → ks ≡ k ∷ []
alone k [] some few is = absurd (omega (arith, some))
alone k (j ∷ []) some few is = ap (λ i. i ∷ []) (sym is)
alone k (j ∷ i ∷ ks) some few is = absurd (omega (arith, few))

first_item : (P : ℕ → Type 0) (k : ℕ) (ks : List ℕ) → 1 ≤ length ks → k ≡ get_or ks 0 k → AllByRecursion P ks → P k
first_item P k [] some is all = absurd (omega (arith, some))
first_item P k (j ∷ ks) some is all = subst P (sym is) all.0

pub appending_data-requires-clause-other_is_node : goal.appending_data-requires-clause-other_is_node
appending_data-requires-clause-other_is_node c =
    first_item (IsOwnNode c.args.parts.now c.args.node) c.only-item.result c.args.nexts.now c.in-len1.len_at_least c.only-item.is
    c.requires.nexts_are_nodes

pub appending_data-requires-clause-has_data : goal.appending_data-requires-clause-has_data
appending_data-requires-clause-has_data c =
    text-data (kind_of (trees_in c.args.parts.now c.args.node) (name_in c.args.parts.now c.args.node)) c.requires.is_text

-- those of one other are behind the data
pub returns-in-len1 : goal.returns-in-len1
returns-in-len1 c =
    let d = c.args.parts.now in
    let node = c.args.node in
    let ks = c.args.nexts.now in
    let x = name_in d node in
    let ts = trees_in d node in
    let text : NodeName → DomString = λ y. (node_in ts y).text in
    let put : ℕ → DomString → DocState = λ n u. planned (owner_in d node) (replacing_data x n 0 u) d in
    let one = text (name_in d c.only-item.result) in
    on_ok_weaker c.appending_data.result
    (λ done. done
    ∙ ap (λ n. put n one)
    (sym (cond-true (has_data (kind_of ts x)) (length (text x)) (length (children_of ts x)) (text-data (kind_of ts x) c.requires.is_text)))
    ∙ ap (put (length_of ts x))
    (sym (ap (λ (js : List ℕ). flat_map text (map (name_in d) js)) (alone c.only-item.result ks c.in-len1.len_at_least c.in-len1.len_below c.only-item.is)
    ∙ append-nil one)))
    c.appending_data.ensures

pub replacing_data-requires-clause-may_come : goal.replacing_data-requires-clause-may_come
replacing_data-requires-clause-may_come c some =
    (c.requires.bounds, text-data (kind_of (trees_in c.args.parts.now c.args.node) (name_in c.args.parts.now c.args.node)) c.requires.is_text)

-- those of more are put together first
pub returns : goal.returns
returns c =
    let d = c.args.parts.now in
    let node = c.args.node in
    let x = name_in d node in
    let put : ℕ → DomString → DocState = λ n u. planned (owner_in d node) (replacing_data x n 0 u) d in
    on_ok_weaker c.replacing_data.result
    (λ done. done ∙ ap (λ n. put n c.in_ok-data_of.field-0.items) c.length.ensures ∙ ap (put (length_of (trees_in d node) x)) c.in_ok-data_of.ensures)
    c.replacing_data.ensures
