use Rattle.dom_base.proofs.Std.{◌≡◌, true, false, sym, ◌∙◌, subst, arith, option_map_or, slice_get_within}
use Rattle.dom_observers.specs.Definitions.{goes, there_in}
use Rattle.dom_observers.proofs.Leaving.{left-one, left-none, passing, passing-read}
use Rattle.dom_observers.proofs.removal.Removal.take_at.Goals as goal

pub returns-then-not-takes_at : goal.returns-then-not-takes_at
returns-then-not-takes_at c =
    left-none c.args.self.now c.args.registrations.now.items c.args.place
    (subst (λ rs. option_map_or (goes c.args.self.now) (there_in rs c.args.place) false ≡ false) c.as_slice.ensures.value
    (sym c.takes_at.ensures ∙ c.if-not-takes_at.true))

pub index_mut-requires : goal.index_mut-requires
index_mut-requires c =
    let items = c.args.registrations.now.items in
    let one = passing (goes c.args.self.now) items c.args.place
    (subst (λ rs. option_map_or (goes c.args.self.now) (there_in rs c.args.place) false ≡ true) c.as_slice.ensures.value
    (sym c.takes_at.ensures ∙ c.if-not-takes_at.false)) in
    let short = slice_get_within items c.args.place one.0 one.1.at in
    omega (arith, short, c.args.registrations.now.ok)

pub returns : goal.returns
returns c =
    let items = c.args.registrations.now.items in
    left-one c.args.self.now (passing-read (goes c.args.self.now) items c.args.place c.index_mut.result.now
    (subst (λ rs. option_map_or (goes c.args.self.now) (there_in rs c.args.place) false ≡ true) c.as_slice.ensures.value
    (sym c.takes_at.ensures ∙ c.if-not-takes_at.false)) c.index_mut.ensures.value)
