-- A node that has it not is passed.
use Rattle.dom_selectors.proofs.Cited.{ap, sym, ◌∙◌, arith, true≢false, false_from_ne_true, filter, filter-no, length, option_map, name_at, NodeName}
use Rattle.dom_selectors.proofs.Cited.{from_node, following_step, length-behind, key_in, nodes_behind}
use Rattle.dom_selectors.proofs.asking.next_with.Goals.{else-may_have-via-then-may_have+else-has_asked, else-may_have-via-else-may_have}
use Rattle.dom_selectors.proofs.asking.next_with.Goals.{else-may_have-via-then-may_have+then-has_asked+else-not-is_child}
use Rattle.dom_selectors.proofs.asking.next_with.Goals as goal

pub loop-at-init : goal.loop-at-init
loop-at-init c =
    let f = c.args.forest.now in
    let law = c.law_nodes_stand_once.ensures in
    let e = rw c.requires.same at c.following-at.ensures in
    let step = following_step f law.once law.only c.args.top c.args.from.key (key_in c.following-at.result) c.requires.stands e.value e.node in
    record {
      same = e.same;
      stands = step.1;
      passed = λ test shows asks below. ap (filter test) (sym step.0);
      shorter = omega (arith, ap (length {A = NodeName}) step.0);
    }

pub loop-at-smaller : goal.loop-at-smaller
loop-at-smaller c =
    let f = c.args.forest.now in
    let law = c.law_nodes_stand_once.ensures in
    let is = ap key_in c.in-Some.is in
    let e = rw (c.loop-at.invariant.same c.in-Some.node c.in-Some.is) at c.following-at-in-Some.ensures in
    let next = key_in c.following-at-in-Some.result in
    let step = following_step f law.once law.only c.args.top c.in-Some.node.key next (c.loop-at.invariant.stands c.in-Some.node.key is) e.value e.node in
    length-behind f c.args.top c.in-Some.node.key (key_in c.loop-at.at) next is step.0

pub loop-at-preserved : goal.loop-at-preserved
loop-at-preserved c =
    let f = c.args.forest.now in
    let law = c.law_nodes_stand_once.ensures in
    let k = c.in-Some.node.key in
    let is = ap key_in c.in-Some.is in
    let same = c.loop-at.invariant.same c.in-Some.node c.in-Some.is in
    let e = rw same at c.following-at-in-Some.ensures in
    let unseen = rw same at c.may_have.ensures in
    let next = key_in c.following-at-in-Some.result in
    let step = following_step f law.once law.only c.args.top k next (c.loop-at.invariant.stands k is) e.value e.node in
    record {
      same = e.same;
      stands = step.1;
      passed = λ test shows asks below.
          let fails = false_from_ne_true (test (name_at f.names k)) (λ h. elim (c.else-may_have.branch) [
            | else-may_have-via-then-may_have+else-has_asked w ↦
                true≢false (sym (asks (name_at f.names k) h) ∙ (sym (rw same at w.has_asked.ensures) ∙ w.if-has_asked.false))
            | else-may_have-via-then-may_have+then-has_asked+else-not-is_child w ↦
                (rw same at w.is_child.ensures) w.if-not-is_child.false (below (name_at f.names k) h)
            | else-may_have-via-else-may_have w ↦ unseen w.if-may_have.false (shows (name_at f.names k) h)
          ]) in
          ap (filter test) (sym step.0)
          ∙ sym (filter-no test (name_at f.names k) (nodes_behind f c.args.top k) fails)
          ∙ ap (λ o. filter test (from_node f.trees (name_at f.names c.args.top) (option_map (name_at f.names) o))) (sym is)
          ∙ c.loop-at.invariant.passed test shows asks below;
      shorter = omega (arith, length-behind f c.args.top k (key_in c.loop-at.at) next is step.0, c.loop-at.invariant.shorter);
    }
