use Rattle.dom_base.proofs.Std.{◌≡◌, map, sym, ap, subst, ◌∙◌}
use Rattle.dom_tree.specs.Definitions.{name_at}
use Rattle.dom_slots.specs.Definitions.{AreBare, AreIndexed, Hints, hints_of, HostsAreNodes, IsEndOf, IsParked, IsTableOf, with_parked, shadow_trees}
use Rattle.dom_slots.specs.Definitions.{SlotsNow, step_signals, with_hints}
use Rattle.dom_slots.proofs.Hostless.{hostless-signals, hostless-slots}
use Rattle.dom_slots.proofs.Parked.{parked-same}
use Rattle.dom_slots.proofs.slots.Slots.end.Goals as goal

pub returns-then-is_hostless-clause-value : goal.returns-then-is_hostless-clause-value
returns-then-is_hostless-clause-value c =
    λ was h.
    let f = c.args.forest.now in
    ap (map (name_at f.names)) c.new.ensures.items
    ∙ (hostless-signals f.names was f.trees c.args.change.step c.args.change.left ∙
    ap (λ hs. step_signals f.names (shadow_trees f.names was hs) (shadow_trees f.names f.trees hs) c.args.change.step c.args.change.left)
    (sym (c.is_hostless.ensures.none c.if-is_hostless.true)))

pub returns-then-is_hostless-clause-slots : goal.returns-then-is_hostless-clause-slots
returns-then-is_hostless-clause-slots c = hostless-slots (c.is_hostless.ensures.none c.if-is_hostless.true) c.requires.1.slots

-- with what saved walks before it is as before
as-before : (old new : SlotsNow) → new.hosts ≡ old.hosts → new.table ≡ old.table → old ≡ with_hints (hints_of old) new
as-before old new hosts table = λ j. record { hosts = sym hosts j; table = sym table j; bare = old.bare; index = old.index; parked = old.parked }

but-parked : (old new : SlotsNow) → new.hosts ≡ old.hosts → new.table ≡ old.table → new.bare ≡ old.bare → new.index ≡ old.index →
    old ≡ with_parked old.parked new
but-parked old new hosts table bare index = λ j.
    record { hosts = sym hosts j; table = sym table j; bare = sym bare j; index = sym index j; parked = old.parked }

pub follow-requires-clause-ended : goal.follow-requires-clause-ended
follow-requires-clause-ended c = (
  c.requires.0,
  c.args.self.now.parked,
  subst (λ s. IsEndOf c.requires.0 c.args.forest.now s c.args.change)
      (but-parked c.args.self.now c.park.new.self c.in_ok-park.ensures.hosts c.in_ok-park.ensures.table c.in_ok-park.ensures.bare c.in_ok-park.ensures.index)
      c.requires.1,
)

pub step_signals-requires-clause-ended : goal.step_signals-requires-clause-ended
step_signals-requires-clause-ended c = (
  c.requires.0,
  hints_of c.args.self.now,
  subst (λ s. IsEndOf c.requires.0 c.args.forest.now s c.args.change)
      (as-before c.args.self.now c.follow.new.self (c.in_ok-moved.ensures.hosts ∙ c.in_ok-park.ensures.hosts)
      (c.in_ok-moved.ensures.table ∙ c.in_ok-park.ensures.table)) c.requires.1,
)

pub step_signals-requires-clause-parked : goal.step_signals-requires-clause-parked
step_signals-requires-clause-parked c = λ p is.
    subst (λ hs. IsParked c.args.forest.now hs p) (sym (c.in_ok-moved.ensures.hosts ∙ c.in_ok-park.ensures.hosts))
    (c.in_ok-park.ensures.parked p (sym c.in_ok-moved.ensures.parked ∙ is))

pub returns-clause-value : goal.returns-clause-value
returns-clause-value c =
    let f = c.args.forest.now in
    let hosts = c.in_ok-moved.ensures.hosts ∙ c.in_ok-park.ensures.hosts in
    λ was h.
    subst (λ hs. map (name_at f.names) c.in_ok-signals.signals.items ≡ step_signals f.names (shadow_trees f.names was hs)
    (shadow_trees f.names f.trees hs) c.args.change.step c.args.change.left) hosts
    (c.in_ok-signals.ensures.value was (hints_of c.args.self.now) (subst (λ s. IsEndOf was f s c.args.change)
    (as-before c.args.self.now c.follow.new.self hosts (c.in_ok-moved.ensures.table ∙ c.in_ok-park.ensures.table)) h))

pub returns-clause-slots : goal.returns-clause-slots
returns-clause-slots c =
    let f = c.args.forest.now in
    let old = c.args.self.now in
    let new = c.step_signals.new.self in
    let mid = c.in_ok-moved.ensures.hosts ∙ c.in_ok-park.ensures.hosts in
    let hosts : new.hosts ≡ old.hosts = c.in_ok-signals.ensures.hosts ∙ mid in
    let hints = c.in_ok-signals.ensures.hints in
    let to_mid = c.in_ok-signals.ensures.hosts ∙ c.in_ok-moved.ensures.hosts in
    record {
      hosts = subst (HostsAreNodes f.names) (sym hosts) c.requires.1.slots.hosts;
      table = subst (λ hs. IsTableOf f hs new.table) (sym c.in_ok-signals.ensures.hosts) c.in_ok-signals.ensures.table;
      bare = subst (λ (h : Hints). AreBare f new.hosts h.0) (sym hints)
          (subst (λ hs. AreBare f hs c.follow.new.self.bare) (sym to_mid) c.in_ok-moved.ensures.bare);
      index = subst (λ (h : Hints). AreIndexed f new.hosts h.1) (sym hints)
          (subst (λ hs. AreIndexed f hs c.follow.new.self.index) (sym to_mid) c.in_ok-moved.ensures.indexed);
      parked = parked-same c.follow.new.self new c.in_ok-signals.ensures.hosts hints
          (λ p is. subst (λ hs. IsParked f hs p) (sym mid) (c.in_ok-park.ensures.parked p (sym c.in_ok-moved.ensures.parked ∙ is)));
    }
