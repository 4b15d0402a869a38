use Rattle.dom_traversal.proofs.Cited.{Some, sym, ap, subst, ◌∙◌, ForSome, BeginsForward, filter_of, IsWalkerOf, KeyedWalker}
use Rattle.dom_traversal.proofs.Reaching.{Reaches-begin, Reaches-skip, Reaches-reject, Reaches-shorter-skip, Reaches-shorter-reject}
use Rattle.dom_traversal.proofs.walker.Walker.first_reached.Goals as goal

pub loop-at-init : goal.loop-at-init
loop-at-init c =
    let f = c.args.forest.now in
    let placed = subst (IsWalkerOf f) (sym c.self.view_is) c.requires.walker in
    let begins = subst (λ (v : KeyedWalker). ForSome c.args.from (BeginsForward f v c.args.top)) (sym c.self.view_is) c.requires.begins in
    Reaches-begin c.law_nodes_stand_once.ensures.once c.law_nodes_stand_once.ensures.only placed.current begins

pub loop-at-smaller-in-Some-Skip : goal.loop-at-smaller-in-Some-Skip
loop-at-smaller-in-Some-Skip c =
    let w : KeyedWalker = record { root = c.self.inside.root; current = c.self.inside.current; filter = filter_of c.self.inside.filter } in
    Reaches-shorter-skip c.args.forest.now w c.args.top c.args.from c.loop-at.at c.in-Some.key c.in-Some.is c.loop-at.invariant c.onward-at.result
    c.onward-at.ensures.value

pub loop-at-preserved-in-Some-Skip : goal.loop-at-preserved-in-Some-Skip
loop-at-preserved-in-Some-Skip c =
    let w : KeyedWalker = record { root = c.self.inside.root; current = c.self.inside.current; filter = filter_of c.self.inside.filter } in
    Reaches-skip c.args.forest.now w c.args.top c.args.from c.loop-at.at c.in-Some.key c.in-Some.is c.loop-at.invariant c.onward-at.result
    c.onward-at.ensures.below c.onward-at.ensures.stop
    (ap Some (sym c.in-Some-Skip.field-0-is) ∙ c.in-Some-Skip.ensures) c.onward-at.ensures.value

pub loop-at-smaller : goal.loop-at-smaller
loop-at-smaller c =
    let w : KeyedWalker = record { root = c.self.inside.root; current = c.self.inside.current; filter = filter_of c.self.inside.filter } in
    Reaches-shorter-reject c.args.forest.now w c.args.top c.args.from c.loop-at.at c.in-Some.key c.in-Some.is c.loop-at.invariant
    c.beside-at.result c.beside-at.ensures.value

pub loop-at-preserved : goal.loop-at-preserved
loop-at-preserved c =
    let w : KeyedWalker = record { root = c.self.inside.root; current = c.self.inside.current; filter = filter_of c.self.inside.filter } in
    Reaches-reject c.args.forest.now w c.args.top c.args.from c.loop-at.at c.in-Some.key c.in-Some.is c.loop-at.invariant c.beside-at.result
    c.beside-at.ensures.below c.beside-at.ensures.stop
    (ap Some (sym c.in-Some-Reject.field-0-is) ∙ c.in-Some-Reject.ensures) c.beside-at.ensures.value
