use Rattle.dom_base.proofs.Std.{◌+◌, sym, subst, arith, take_all, take_more}
use Rattle.dom_observers.specs.Definitions.{HaveLeft}
use Rattle.dom_observers.proofs.Leaving.{left-first, left-more, there-fewer}
use Rattle.dom_observers.proofs.removal.Removal.take_in.Goals as goal

pub loop-place-init : goal.loop-place-init
loop-place-init c = left-first c.args.self.now c.args.registrations.now.items

pub loop-place-preserved : goal.loop-place-preserved
loop-place-preserved c =
    let places = c.args.places.now in
    let i = c.loop-place.place-index in
    subst (λ ps. HaveLeft c.args.self.now ps (c.loop-place.went + c.take_at-went.result) c.args.registrations.now.items c.take_at-went.new.registrations.items)
    (sym (take_more places i 0 (omega arith))) (left-more c.loop-place.invariant c.take_at-went.ensures)

pub overflow_add-went : goal.overflow_add-went
overflow_add-went c =
    let most = there-fewer c.args.registrations.now.items in
    omega (arith, most, c.loop-place.invariant.counted, c.take_at-went.ensures.counted, c.args.registrations.now.ok)

pub returns : goal.returns
returns c =
    subst (λ ps. HaveLeft c.args.self.now ps c.loop-place.went c.args.registrations.now.items c.loop-place.registrations.items)
    (take_all c.loop-place.place-index c.args.places.now (omega arith)) c.loop-place.invariant
