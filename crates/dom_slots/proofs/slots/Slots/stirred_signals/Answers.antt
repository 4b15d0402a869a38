use Rattle.dom_base.proofs.Std.{◌≡◌, ◌++◌, filter, sym, ap, subst, ◌∙◌, same_Some, none-some}
use Rattle.dom_tree.specs.Definitions.{name_at}
use Rattle.dom_slots.specs.Definitions.{own_slots, bare_around, MayMove, IsInside, SlotsNow, AreRenewed, shadows, slot_at}
use Rattle.dom_slots.proofs.Parked.{parked-same}
use Rattle.dom_slots.proofs.slots.Slots.stirred_signals.Goals as goal
use Rattle.dom_slots.proofs.slots.Slots.stirred_signals.Goals.{in-Some+in_ok-add_bare+in_ok-renew_moved, in_default}

pub own_signals-requires-clause-own : goal.own_signals-requires-clause-own
own_signals-requires-clause-own c = c.requires.own ∙
    ap (λ k. slot_at (shadows c.args.forest.now c.args.self.now.hosts) (name_at c.args.forest.now.names k)) (sym c.node.ensures)

pub returns-clause-renewed : goal.returns-clause-renewed
returns-clause-renewed c =
    λ p old r.
    let f = c.args.forest.now in
    let hosts = c.args.self.now.hosts in
    let step = c.args.change.step in
    let left = c.args.change.left in
    let slot = c.args.change.slot in
    let table = c.own_signals.new.self.table in
    let keys = c.in_ok-signals.signals.items in
    let same : c.own_signals.new.self.hosts ≡ hosts = c.in_ok-signals.ensures.hosts in
    let own : AreRenewed f hosts p old (own_slots f hosts slot step) (filter p (own_slots f hosts slot step)) table keys =
    c.in_ok-signals.ensures.renewed p old step (sym c.node.ensures) r in
    elim c.match-around.branch [
      | in-Some+in_ok-add_bare+in_ok-renew_moved w ↦
          let a = w.in-Some.around in
          let hs = c.own_signals.new.self.hosts in
          let mine = own_slots f hs slot step in
          let first : AreRenewed f hs p old mine (filter p mine) table keys =
          subst (λ hosts. AreRenewed f hosts p old (own_slots f hosts slot step) (filter p (own_slots f hosts slot step)) table keys) (sym same) own in
          let bare = w.in_ok-add_bare.ensures p old mine (filter p mine) table first in
          let moved : MayMove f hs p old mine (filter p mine ++ bare_around f hs step (name_at f.names a)) step left (name_at f.names a)
          w.renew_moved.new.self.table w.renew_moved.new.signals.items =
          w.in_ok-renew_moved.ensures.renewed p old mine (filter p mine ++ bare_around f hs step (name_at f.names a)) bare in
          let all : IsInside f hs p old step left slot w.renew_moved.new.self.table w.renew_moved.new.signals.items = record {
            alone = λ e. absurd (none-some a (sym (w.in-Some.ensures ∙ e)));
            around = λ k e.
                subst (λ j. MayMove f hs p old mine (filter p mine ++ bare_around f hs step (name_at f.names j)) step left (name_at f.names j)
                w.renew_moved.new.self.table w.renew_moved.new.signals.items) (same_Some a k (w.in-Some.ensures ∙ e)) moved;
          } in
          subst (λ xs. IsInside f hosts p old step left slot c.match-around.self.table xs) (sym (ap (λ v. v.items) w.signals-is))
          (subst (λ (s : SlotsNow). IsInside f hosts p old step left slot s.table w.renew_moved.new.signals.items) (sym w.self-is)
          (subst (λ hs. IsInside f hs p old step left slot w.renew_moved.new.self.table w.renew_moved.new.signals.items) same all))
      | in_default w ↦
          let all : IsInside f hosts p old step left slot table keys =
          record { alone = λ e. own; around = λ k e. absurd (none-some k (sym w.in_default.is ∙ (c.around.ensures ∙ e))) } in
          subst (λ xs. IsInside f hosts p old step left slot c.match-around.self.table xs) (sym (ap (λ v. v.items) w.signals-is))
          (subst (λ (s : SlotsNow). IsInside f hosts p old step left slot s.table keys) (sym w.self-is) all)
    ]

pub renew_moved-requires-clause-parked : goal.renew_moved-requires-clause-parked
renew_moved-requires-clause-parked c =
    parked-same c.args.self.now c.own_signals.new.self c.in_ok-signals.ensures.hosts c.in_ok-signals.ensures.hints c.requires.parked
