use Rattle.dom_ranges.proofs.Cited.{inl, inr, ◌<◌, false, length, get_or, sym, subst, ◌∙◌, arith, true≢false, false_from_ne_true, name_at, Once-forest}
use Rattle.dom_ranges.proofs.Cited.{outside-test, following_step, at, end_in}
use Rattle.dom_tree.proofs.Inside.{from_key, all-from_top, top-stands, next-from}
use Rattle.dom_ranges.proofs.removing.part_inside.Goals as goal

pub loop-at-init : goal.loop-at-init
loop-at-init c =
    let f = c.args.forest.now in
    let e = c.law_nodes_stand_once.ensures in
    record {
      stands = λ some. top-stands f c.args.top e.once e.only (c.requires.nodes 0 (end_in 0 false (at 0 0)) some).0;
      few = omega arith;
      within = omega arith;
      near = omega arith;
      ahead = λ k d l out. all-from_top f c.args.top e.once e.only (c.requires.nodes k d l).0 (name_at f.names (get_or c.args.ends.now k d).node);
    }

pub following-at-requires-clause-key_is_node : goal.following-at-requires-clause-key_is_node
following-at-requires-clause-key_is_node c = (c.loop-at.invariant.stands (omega arith) c.in-Some.key c.in-Some.is).node

pub following-at-requires-clause-top_is_node : goal.following-at-requires-clause-top_is_node
following-at-requires-clause-top_is_node c = (c.requires.nodes 0 (end_in 0 false (at 0 0)) (omega arith)).0

pub following-at-requires-clause-within : goal.following-at-requires-clause-within
following-at-requires-clause-within c = (c.loop-at.invariant.stands (omega arith) c.in-Some.key c.in-Some.is).within

pub loop-at-smaller : goal.loop-at-smaller
loop-at-smaller c = omega arith

pub loop-at-preserved : goal.loop-at-preserved
loop-at-preserved c =
    let f = c.args.forest.now in
    let e = c.law_nodes_stand_once.ensures in
    let some : 0 < length c.args.ends.now = omega arith in
    let step = following_step f e.once e.only c.args.top c.in-Some.key c.following-at.result
    (c.loop-at.invariant.stands some c.in-Some.key c.in-Some.is) c.following-at.ensures.value c.following-at.ensures.node in
    let key_is_node = (c.loop-at.invariant.stands some c.in-Some.key c.in-Some.is).node in
    record {
      stands = λ _. step.1;
      few = omega arith;
      within = c.around-part.ensures.within (length c.args.ends.now) c.loop-at.invariant.within c.part_near-here.ensures.within;
      near = omega (arith, c.part_near-here.ensures.order, c.part_near-here.ensures.within);
      ahead = λ k d l out i. elim (next-from f c.args.top c.following-at.result c.in-Some.is step.0 (name_at f.names (get_or c.args.ends.now k d).node)
          (c.loop-at.invariant.ahead k d l (false_from_ne_true _ (λ was. true≢false (sym (c.around-part.ensures.first k was) ∙ out))) i)) [
            | inl same ↦
                let there = c.part_near-here.ensures.all k d l (e.distinct _ _ (c.requires.nodes k d l).1 key_is_node same) in
                absurd (true≢false (sym (c.around-part.ensures.second k there) ∙ out))
            | inr behind ↦ behind
          ];
    }

pub returns-clause-all : goal.returns-clause-all
returns-clause-all c =
    λ k d l out.
    let f = c.args.forest.now in
    let e = c.law_nodes_stand_once.ensures in
    outside-test f.trees (name_at f.names c.args.top) (name_at f.names (get_or c.args.ends.now k d).node) (Once-forest f e.once e.only)
    (λ i. subst (λ o. from_key f c.args.top o (name_at f.names (get_or c.args.ends.now k d).node)) c.in_default.is (c.loop-at.invariant.ahead k d l out i))
