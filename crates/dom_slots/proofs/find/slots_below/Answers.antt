use Rattle.dom_base.proofs.Std.{◌≡◌, ◌<◌, ◌∷◌, ◌++◌, Bool, Some, All, length, map, refl, sym, ap, subst, ◌∙◌, arith, filter, option_map, append-nil}
use Rattle.dom_model.proofs.Model.{NodeName, is_slot_element, node_in, inclusive_descendants}
use Rattle.dom_tree.specs.Definitions.{name_at}
use Rattle.dom_laws.specs.Within.{from_node, behind}
use Rattle.dom_tree.proofs.Standing.{Once-forest}
use Rattle.dom_slots.specs.Definitions.{is_called, is_slot_called}
use Rattle.dom_slots.proofs.NamesOfNodes.{named-filter}
use Rattle.dom_slots.proofs.Walks.{from-top, stands-top, walks-on, filter-twice, collect-yes, collect-no}
use Rattle.dom_slots.proofs.find.slots_below.Goals as goal
use Rattle.dom_slots.proofs.find.slots_below.Goals.{then-is_slot_called+in_ok-push, else-is_slot_called}

pub loop-at-init : goal.loop-at-init
loop-at-init c =
    let f = c.args.forest.now in
    let e = c.law_nodes_stand_once.ensures in
    record {
      stands = stands-top f e.once e.only c.args.top c.requires (Some c.args.top) refl;
      nodes = subst (All (λ j. j < length f.names)) (sym c.new-keys.ensures.items) (λ k d h. absurd (omega arith));
      left = ap (λ ks. map (name_at f.names) ks ++ filter (is_slot_called f.trees (option_map (λ a. a.now) c.args.name))
          (from_node f.trees (name_at f.names c.args.top) (Some (name_at f.names c.args.top)))) c.new-keys.ensures.items
          ∙ ap (filter (is_slot_called f.trees (option_map (λ a. a.now) c.args.name))) (from-top f e.once e.only c.args.top c.requires);
    }

pub loop-at-smaller : goal.loop-at-smaller
loop-at-smaller c =
    let e = c.law_nodes_stand_once.ensures in
    (walks-on c.args.forest.now e.once e.only c.in-Some.is c.loop-at.invariant.stands c.following-at.ensures.value c.following-at.ensures.node).less

pub loop-at-preserved : goal.loop-at-preserved
loop-at-preserved c =
    let f = c.args.forest.now in
    let e = c.law_nodes_stand_once.ensures in
    let step = walks-on f e.once e.only c.in-Some.is c.loop-at.invariant.stands c.following-at.ensures.value c.following-at.ensures.node in
    let test : NodeName → Bool = is_slot_called f.trees (option_map (λ a. a.now) c.args.name) in
    let all = filter test (inclusive_descendants f.trees (name_at f.names c.args.top)) in
    let xs = behind f.trees (name_at f.names c.args.top) (name_at f.names c.in-Some.key) in
    let node = (c.loop-at.invariant.stands c.in-Some.key c.in-Some.is).node in
    let left : map (name_at f.names) c.loop-at.keys.items ++ filter test (name_at f.names c.in-Some.key ∷ xs) ≡ all =
    ap (λ o. map (name_at f.names) c.loop-at.keys.items ++
    filter test (from_node f.trees (name_at f.names c.args.top) (option_map (name_at f.names) o))) (sym c.in-Some.is) ∙
    c.loop-at.invariant.left in
    let new = c.if-is_slot_called.keys.items in
    let is : All (λ j. j < length f.names) new × (map (name_at f.names) new ++ filter test xs ≡ all) = elim c.if-is_slot_called.branch [
      | then-is_slot_called+in_ok-push w ↦
          collect-yes f.names test c.loop-at.keys.items c.in-Some.key node xs all c.loop-at.invariant.nodes left new
          (ap (λ v. v.items) w.keys-is ∙ w.in_ok-push.ensures.items) (sym w.if-is_slot_called.ensures)
      | else-is_slot_called w ↦ collect-no f.names test c.loop-at.keys.items c.in-Some.key node xs all c.loop-at.invariant.nodes left new
          (ap (λ v. v.items) w.keys-is) (sym w.if-is_slot_called.ensures)
    ] in
    record { stands = step.stands; nodes = is.0; left = ap (λ ys. map (name_at f.names) new ++ filter test ys) (sym step.left) ∙ is.1 }

pub returns-clause-value : goal.returns-clause-value
returns-clause-value c =
    let f = c.args.forest.now in
    let e = c.law_nodes_stand_once.ensures in
    let test : NodeName → Bool = is_slot_called f.trees (option_map (λ a. a.now) c.args.name) in
    sym (append-nil (map (name_at f.names) c.loop-at.keys.items))
    ∙ (ap (λ o. map (name_at f.names) c.loop-at.keys.items ++
    filter test (from_node f.trees (name_at f.names c.args.top) (option_map (name_at f.names) o))) (sym c.in_default.is)
    ∙ (c.loop-at.invariant.left
    ∙ (filter-twice (λ y. is_slot_element (node_in f.trees y)) (is_called f.trees (option_map (λ a. a.now) c.args.name))
    (inclusive_descendants f.trees (name_at f.names c.args.top))
    ∙ ap (filter (is_called f.trees (option_map (λ a. a.now) c.args.name)))
    (sym (named-filter f.trees (Once-forest f e.once e.only) is_slot_element (name_at f.names c.args.top))))))
