use Rattle.std.proofs.Common.{Some, sym, ap, ◌∙◌, arith}
use Rattle.std.proofs.lemmas.Option.{none-some, same_Some}
use Rattle.node_arena.specs.Spots.{key_in}
use Rattle.node_arena.proofs.Changes.{seen, linked_node, linked_is}
use Rattle.node_arena.proofs.walk.Walk.to.Goals as goal

pub invariant_of-result : goal.invariant_of-result
invariant_of-result g c =
    let s = c.self.inside.at in
    let same = c.to.ensures.same c.in-Some.at c.in-Some.is in
    let linked = c.self.invariant.linked in
    let node = linked_node s.whole s.key (key_in c.to.result) c.args.link linked c.to.ensures.value c.in-Some.at.key (ap key_in c.in-Some.is) in
    rw same (record { linked = c.self.invariant.linked; cell = omega (arith, c.self.invariant.linked.paired) })

pub returns-in-Some : goal.returns-in-Some
returns-in-Some g c =
    let s = c.self.inside.at in
    let here = ap key_in (sym c.in-Some.is) ∙ c.to.ensures.value in
    let same = c.to.ensures.same c.in-Some.at c.in-Some.is in
    record {
      value = rw (← c.self.view_is) (here ∙ linked_is s.whole s.key c.args.link c.self.invariant.linked);
      same = rw (← c.self.view_is) (λ w e.
          ap (λ x. x.whole) (sym (same_Some (record { whole = seen c.in-Some.at.whole; key = c.in-Some.at.key }) w e)) ∙ ap seen same);
      node = rw (← c.self.view_is) (linked_node s.whole s.key (Some c.in-Some.at.key) c.args.link c.self.invariant.linked here);
    }

pub returns-in-None : goal.returns-in-None
returns-in-None g c =
    let s = c.self.inside.at in
    let here = ap key_in (sym c.in-None.is) ∙ c.to.ensures.value in
    record {
      value = rw (← c.self.view_is) (here ∙ linked_is s.whole s.key c.args.link c.self.invariant.linked);
      same = λ w e. absurd (none-some w e);
      node = λ k e. absurd (none-some k e);
    }
