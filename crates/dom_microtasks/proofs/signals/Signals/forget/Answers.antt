use Rattle.dom_base.proofs.Std.{◌-◌, ◌∙◌, not, filter, length, refl, sym, ap, arith}
use Rattle.dom_model.proofs.Model.{is_owned_by}
use Rattle.dom_microtasks.proofs.Keeping.{own_few, others_left, none_taken, taken, taken_kept, none_left, none_seen}
use Rattle.dom_microtasks.proofs.signals.Signals.forget.Goals as goal

-- an owner without signalled slots
pub returns-then-count-eq0 : goal.returns-then-count-eq0
returns-then-count-eq0 c =
    sym c.self.view_is
    ∙ (none_taken c.self.inside c.self.invariant c.args.owner (sym (ap length c.numbers-count.ensures) ∙ c.if-count-eq0.true)
    ∙ ap (filter (λ s. not (is_owned_by c.args.owner s))) c.self.view_is)

pub overflow_sub-self : goal.overflow_sub-self
overflow_sub-self c =
    let few = own_few c.self.inside c.self.invariant c.args.owner in let is = ap length c.numbers-count.ensures in omega (arith, few, is)

pub invariant_of-self-else-is_over : goal.invariant_of-self-else-is_over
invariant_of-self-else-is_over c =
    let len = c.len.ensures in
    taken_kept c.self.inside c.self.invariant _ c.args.owner c.len.result (omega (arith, len, c.self.inside.log.ok.0)) c.empty.ensures.numbers
    c.empty.ensures.since refl (others_left c.self.inside c.self.invariant c.args.owner c.numbers-count.result.now c.numbers-count.ensures)

pub returns-then-is_over : goal.returns-then-is_over
returns-then-is_over c =
    let len = c.len.ensures in
    let count = c.self.inside.count - length c.numbers-count.result.now in
    none_seen record { log = c.clear.new.self; own = c.new.result; count = count; alloc = c.self.inside.alloc } c.clear.ensures.items
    ∙ (none_left c.self.inside c.self.invariant
    record { log = c.self.inside.log; own = c.empty.new.self; count = count; alloc = c.self.inside.alloc } c.args.owner c.len.result
    (omega (arith, len, c.self.inside.log.ok.0)) c.empty.ensures.numbers c.empty.ensures.since refl
    (others_left c.self.inside c.self.invariant c.args.owner c.numbers-count.result.now c.numbers-count.ensures) (c.if-is_over.ensures refl)
    ∙ ap (filter (λ s. not (is_owned_by c.args.owner s))) c.self.view_is)

pub returns-else-is_over : goal.returns-else-is_over
returns-else-is_over c =
    let len = c.len.ensures in
    let count = c.self.inside.count - length c.numbers-count.result.now in
    taken c.self.inside c.self.invariant
    record { log = c.self.inside.log; own = c.empty.new.self; count = count; alloc = c.self.inside.alloc } c.args.owner c.len.result
    (omega (arith, len, c.self.inside.log.ok.0)) c.empty.ensures.numbers c.empty.ensures.since refl
    (others_left c.self.inside c.self.invariant c.args.owner c.numbers-count.result.now c.numbers-count.ensures)
    ∙ ap (filter (λ s. not (is_owned_by c.args.owner s))) c.self.view_is
