use Rattle.dom_base.proofs.Std.{inl, ◌++◌, filter, sym, ap, subst, ◌∙◌, same_Some, none-some}
use Rattle.dom_tree.specs.Definitions.{name_at}
use Rattle.dom_slots.specs.Definitions.{own_slots, bare_around, MovesNone, MayMove, IsInside, AreRenewed, shadows, slot_at}
use Rattle.dom_slots.proofs.slots.Slots.still_signals.Goals.{in-Some+in_ok-add_bare, in_default}
use Rattle.dom_slots.proofs.slots.Slots.still_signals.Goals as goal

pub moved_signals-requires-clause-own : goal.moved_signals-requires-clause-own
moved_signals-requires-clause-own c = c.requires.own ∙
    ap (λ k. slot_at (shadows c.args.forest.now c.args.self.now.hosts) (name_at c.args.forest.now.names k)) (sym c.node-node.ensures)

pub returns-clause-renewed : goal.returns-clause-renewed
returns-clause-renewed c =
    λ p but start.
    let f = c.args.forest.now in
    let s = c.args.self.now in
    let hosts = s.hosts in
    let step = c.args.change.step in
    let left = c.args.change.left in
    let slot = c.args.change.slot in
    let table = c.moved_signals.new.self.table in
    let keys = c.in_ok-signals.signals.items in
    let same = c.in_ok-signals.ensures.hosts in
    let own : AreRenewed f hosts p s.table (own_slots f hosts slot step) (filter p (own_slots f hosts slot step)) table keys =
    c.in_ok-signals.ensures.renewed p step (sym c.node-node.ensures) (sym c.is_move-moves.ensures) but start in
    elim c.match-around.branch [
      | in-Some+in_ok-add_bare w ↦
          let a = w.in-Some.around in
          let hs = c.moved_signals.new.self.hosts in
          let mine = own_slots f hs slot step in
          let first : AreRenewed f hs p s.table mine (filter p mine) table keys =
          subst (λ hosts. AreRenewed f hosts p s.table (own_slots f hosts slot step) (filter p (own_slots f hosts slot step)) table keys) (sym same) own in
          let bare = w.in_ok-add_bare.ensures p s.table mine (filter p mine) table first in
          let next = w.add_bare.new.signals.items in
          let all : IsInside f hs p s.table step left slot table next = record {
            alone = λ e. absurd (none-some a (sym (w.in-Some.ensures ∙ e)));
            around = λ k e.
                subst (λ j. MayMove f hs p s.table mine (filter p mine ++ bare_around f hs step (name_at f.names j)) step left (name_at f.names j)
                table next) (same_Some a k (w.in-Some.ensures ∙ e))
                (inl (subst (λ hosts. MovesNone f hosts step) (sym same) c.requires.still, bare));
          } in
          subst (IsInside f hosts p s.table step left slot table) (sym (ap (λ v. v.items) w.signals-is))
          (subst (λ hs. IsInside f hs p s.table step left slot table next) same all)
      | in_default w ↦
          let all : IsInside f hosts p s.table step left slot table keys =
          record { alone = λ e. own; around = λ k e. absurd (none-some k (sym w.in_default.is ∙ (c.around.ensures ∙ e))) } in
          subst (IsInside f hosts p s.table step left slot table) (sym (ap (λ v. v.items) w.signals-is)) all
    ]
