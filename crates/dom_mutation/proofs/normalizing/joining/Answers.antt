use Rattle.dom_mutation.proofs.Cited.{◌≡◌, ◌<◌, ℕ, List, length, map, flat_map, refl, subst, sym, ap, ◌∙◌, on_ok_weaker, NodeName, Plan, ◌and_then◌, in_turn}
use Rattle.dom_mutation.proofs.Cited.{steps_of, observed, remove_plan, DomString, replacing_data, joins, node_in, DocState, name_in, owner_in, planned}
use Rattle.dom_mutation.proofs.Cited.{trees_in, keeps-and_then, keeps-replacing_data, made-joins}
use Rattle.dom_mutation.proofs.Joined.{own_nodes}
use Rattle.dom_mutation.proofs.Joining.{IsGrown, grown_for}
use Rattle.dom_mutation.proofs.normalizing.joining.Goals.{In_ok-gather}
use Rattle.dom_mutation.proofs.normalizing.joining.Goals as goal
use Rattle.dom_mutation.proofs.Made.{planned_then}
use Rattle.dom_mutation.proofs.OwnPlans.{own_moves, own_rules}

pub join_each-requires-clause-nexts_are_nodes : goal.join_each-requires-clause-nexts_are_nodes
join_each-requires-clause-nexts_are_nodes c =
    own_nodes c.args.parts.now c.gather.new.parts c.args.node c.args.nexts.now
    (ap (λ (s : DocState). s.names) c.in_ok-gather.ensures) c.requires.nexts_are_nodes

-- the data of the others
abbrev data_then : DocState → ℕ → List ℕ → DomString
data_then d node ks = flat_map (λ y. (node_in (trees_in d node) y).text) (map (name_in d) ks)

-- the data came
came : (c : In_ok-gather) → c.gather.new.parts ≡ planned (owner_in c.args.parts.now c.args.node) (replacing_data (name_in c.args.parts.now c.args.node)
    c.length-size.result 0 (data_then c.args.parts.now c.args.node c.args.nexts.now)) c.args.parts.now
came c =
    let d = c.args.parts.now in
    c.in_ok-gather.ensures
    ∙ ap (λ n. planned (owner_in d c.args.node) (replacing_data (name_in d c.args.node) n 0 (data_then d c.args.node c.args.nexts.now)) d)
    (sym c.length-size.ensures)

-- what the joins ask, and which they are, once the data came
joined : (c : In_ok-gather) → IsGrown c.args.parts.now c.gather.new.parts c.args.node c.args.parent c.length-size.result c.args.nexts.now
joined c =
    let d = c.args.parts.now in
    grown_for d c.gather.new.parts c.args.node c.args.parent c.length-size.result (data_then d c.args.node c.args.nexts.now)
    c.args.nexts.now
    (c.laws.ensures.alone c.args.node c.requires.node_is_node) (c.laws.ensures.parts _) c.requires.bounds
    (c.laws.ensures.stand c.args.node c.requires.node_is_node) c.requires.is_text c.requires.is_parent c.requires.are_nexts c.length-size.ensures
    refl (came c)

pub join_each-requires-clause-bounds : goal.join_each-requires-clause-bounds
join_each-requires-clause-bounds c = (joined (goal.at.join_each-requires-clause-bounds c).In_ok-gather).bounds

pub join_each-requires-clause-fit : goal.join_each-requires-clause-fit
join_each-requires-clause-fit c = (joined (goal.at.join_each-requires-clause-fit c).In_ok-gather).fit

pub take_each-requires-clause-top_is_node : goal.take_each-requires-clause-top_is_node
take_each-requires-clause-top_is_node c =
    subst (λ (ns : List NodeName). c.args.node < length ns)
    (sym (ap (λ (s : DocState). s.names) c.join_each.ensures ∙ ap (λ (s : DocState). s.names) c.in_ok-gather.ensures))
    c.requires.node_is_node

pub take_each-requires-clause-children_are_nodes : goal.take_each-requires-clause-children_are_nodes
take_each-requires-clause-children_are_nodes c =
    own_nodes c.args.parts.now c.join_each.new.self c.args.node c.args.nexts.now
    (ap (λ (s : DocState). s.names) c.join_each.ensures ∙ ap (λ (s : DocState). s.names) c.in_ok-gather.ensures)
    c.requires.nexts_are_nodes

-- the steps are the plan's
pub returns : goal.returns
returns c =
    let d = c.args.parts.now in
    let node = c.args.node in
    let ks = c.args.nexts.now in
    let size = c.length-size.result in
    let units = data_then d node ks in
    let o = owner_in d node in
    let x = name_in d node in
    let q = name_in d c.args.parent in
    let ts = trees_in d node in
    let ys = map (name_in d) ks in
    let alone = c.laws.ensures.alone node c.requires.node_is_node in
    let carry : DocState → DocState = λ s. planned (owner_in s node)
    (steps_of (joins ts (name_in s node) (name_in s c.args.parent) size (map (name_in s) ks))) s in
    let leave : DocState → DocState = λ s. planned (owner_in s node) (in_turn (remove_plan observed) (map (name_in s) ks)) s in
    let put : ℕ → DomString → Plan = λ n u. replacing_data x n 0 u and_then steps_of (joins ts x q n ys) in
    let all : ℕ → DomString → DocState = λ n u. planned o (put n u and_then in_turn (remove_plan observed) ys) d in
    let e = c.gather.new.parts in
    on_ok_weaker c.take_each.result
    (λ taken. taken
    ∙ ap leave (c.join_each.ensures ∙ ap (λ steps. planned (owner_in e node) (steps_of steps) e) (joined (goal.at.returns c).In_ok-gather).exact)
    ∙ ap (λ s. leave (carry s)) (came (goal.at.returns c).In_ok-gather)
    ∙ ap (planned o (in_turn (remove_plan observed) ys))
    (planned_then o (replacing_data x size 0 units) (steps_of (joins ts x q size ys)) d alone (keeps-replacing_data (own_rules o) x size 0 units))
    ∙ planned_then o (put size units) (in_turn (remove_plan observed) ys) d alone
    (keeps-and_then (own_moves o) (replacing_data x size 0 units) (steps_of (joins ts x q size ys)) (keeps-replacing_data (own_rules o) x size 0 units)
    (λ p own. made-joins (own_rules o) ts x q size ys))
    ∙ ap (λ n. all n units) c.length-size.ensures) c.take_each.ensures.state
