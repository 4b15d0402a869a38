use Rattle.dom_base.proofs.Std.{◌≡◌, ℕ, ◌<◌, ◌++◌, [], Some, length, map, filter, sym, ap, subst, ◌∙◌, option_to_list, option_map}
use Rattle.dom_model.proofs.Model.{NodeName}
use Rattle.dom_tree.specs.Definitions.{name_at}
use Rattle.node_arena.specs.Nodes.{without}
use Rattle.dom_slots.specs.Definitions.{own_slots, AreRenewed, names_but, shadows, slot_at, assigned_at, step_node, list_of}
use Rattle.dom_slots.proofs.Joining.{same-option}
use Rattle.dom_slots.proofs.Parting.{leaves-right, joins-right, both-slots, both-stay}
use Rattle.dom_slots.proofs.slots.Slots.moved_signals.Goals as goal

pub returns-then-eq-clause-renewed : goal.returns-then-eq-clause-renewed
returns-then-eq-clause-renewed c =
    λ p step is moves but start.
    let f = c.args.forest.now in
    let s = c.args.self.now in
    let slot = c.args.was in
    let own = c.requires.own ∙ ap (λ k. slot_at (shadows f s.hosts) (name_at f.names k)) (sym is) in
    let same : c.args.slot ≡ slot = same-option c.args.slot slot (sym c.eq.ensures ∙ c.if-eq.true) in
    let still = moves ∙ c.if-moves.false in
    subst (λ keys. AreRenewed f s.hosts p s.table (own_slots f s.hosts slot step) (filter p (own_slots f s.hosts slot step)) s.table keys)
    (sym c.new-signals.ensures.items)
    (both-stay f c.law_nodes_stand_once.ensures.distinct s.hosts step (subst (λ k. k < length f.names) (sym is) c.requires.node) slot c.args.slot
    c.requires.own_node own c.requires.slot p s.table
    (but.stays still (ap (option_map (name_at f.names)) (sym same) ∙ own)) start)

pub returns-clause-renewed : goal.returns-clause-renewed
returns-clause-renewed c =
    λ p step is moves but start.
    let f = c.args.forest.now in
    let distinct = c.law_nodes_stand_once.ensures.distinct in
    let s = c.args.self.now in
    let slot = c.args.was in
    let new = c.args.slot in
    let name : ℕ → NodeName = name_at f.names in
    let node = subst (λ k. k < length f.names) (sym is) c.requires.node in
    let node_is : c.args.node ≡ step_node step = (sym is) in
    let own = c.requires.own ∙ ap (λ k. slot_at (shadows f s.hosts) (name k)) node_is in
    let apart = sym c.eq.ensures ∙ c.if-eq.false in
    let mine = option_to_list (option_map name slot) in
    let its = option_to_list (option_map name new) in
    let hs = c.leave.new.self.hosts in
    let same : hs ≡ s.hosts = c.in_ok-leave.ensures.hosts in
    let left = c.leave.new.self.table in
    let first : AreRenewed f s.hosts p s.table mine (filter p mine) left c.leave.new.signals.items =
    c.in_ok-leave.ensures.renewed
    (λ k was. ap (λ n. map name (without n (list_of s.table k))) node_is ∙ leaves-right f distinct s.hosts step node slot new
    c.requires.own_node own s.table but start.nodes apart c.requires.slot k was) p s.table [] []
    (subst (AreRenewed f s.hosts p s.table [] [] s.table) (sym c.new-signals.ensures.items) start) in
    let right : (k : ℕ) → new ≡ Some k → map name (list_of left k) ≡ names_but (name c.args.node) (assigned_at (shadows f hs) (name k)) =
    λ k now.
    joins-right f distinct s.hosts step node slot new c.requires.own_node own s.table but start.nodes apart c.requires.slot first k now
    ∙ (ap (λ n. names_but (name n) (assigned_at (shadows f s.hosts) (name k))) (sym node_is) ∙
    ap (λ hosts. names_but (name c.args.node) (assigned_at (shadows f hosts) (name k))) (sym same)) in
    let second = c.in_ok-join.ensures.renewed right p s.table mine (filter p mine)
    (subst (λ hosts. AreRenewed f hosts p s.table mine (filter p mine) left c.leave.new.signals.items) (sym same) first) in
    both-slots f distinct s.hosts step node slot new c.requires.own_node own p s.table c.join.new.self.table c.join.new.signals.items
    (subst (λ hosts. AreRenewed f hosts p s.table (mine ++ its) (filter p mine ++ filter p its) c.join.new.self.table c.join.new.signals.items) same second)
