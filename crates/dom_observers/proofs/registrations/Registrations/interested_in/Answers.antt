use Rattle.dom_base.proofs.Std.{◌≡◌, ℕ, nat_eq, cond, ap, ◌∙◌, drop, fold, filter, list_any, sym, IfOk-weaker}
use Rattle.dom_model.proofs.Model.{Registration, interested, record_for, target_of, without_old}
use Rattle.dom_observers.specs.declared.interested.InterestedObservers.{InterestedObservers}
use Rattle.dom_observers.specs.Definitions.{found_of, HasFound, record_of, path_keys, Found, none_found, found_by, picked, change_of, places_at, numbers_in}
use Rattle.dom_observers.proofs.Gathering.{walk-observers, walk-with_old}
use Rattle.dom_observers.proofs.Watching.{noted-now, all-now, picked-on, found-on}
use Rattle.dom_observers.proofs.registrations.Registrations.interested_in.Goals.{After-of}
use Rattle.dom_observers.proofs.registrations.Registrations.interested_in.Goals as goal

-- what is found is what the walk over the registrations on the path finds
walked : (c : After-of) (t : InterestedObservers)
    → HasFound c.args.forest.now c.as_slice-2.result.now c.note.new.self (change_of c.args.change.now) t
    → found_of t ≡ fold (λ f x. fold (found_by (change_of c.args.change.now)) f (picked c.self.inside.list.items (places_at c.note.new.self x))) none_found
    (path_keys c.args.forest.now (target_of (change_of c.args.change.now)))
walked c t has =
    let ch = change_of c.args.change.now in
    has.found
    ∙ (found-on (noted-now c.as_slice.ensures.value c.note.ensures.noted c.self.invariant.noted) (all-now c.as_slice.ensures.value c.in_ok-note.ensures.all)
    c.as_slice-2.ensures.value ch (drop 1 (path_keys c.args.forest.now (target_of ch))) has.once
    ∙ ap (fold (λ f x. fold (found_by ch) f (picked c.self.inside.list.items (places_at c.note.new.self x))) none_found) (sym has.first))

-- in a node's places are its registrations
own : (c : After-of) (x : ℕ) → picked c.self.inside.list.items (places_at c.note.new.self x) ≡ filter (λ r. nat_eq r.node x) c.args.self.now
own c x =
    picked-on (noted-now c.as_slice.ensures.value c.note.ensures.noted c.self.invariant.noted) (all-now c.as_slice.ensures.value c.in_ok-note.ensures.all) x
    ∙ ap (filter (λ (r : Registration ℕ). nat_eq r.node x)) c.self.view_is

pub returns-clause-observers : goal.returns-clause-observers
returns-clause-observers c =
    let ch = change_of c.args.change.now in
    let path = path_keys c.args.forest.now (target_of ch) in
    IfOk-weaker c.of.result _ (λ t. numbers_in t.observers ≡ interested nat_eq path c.args.self.now ch)
    (λ t found. ap (λ (f : Found). f.observers) (walked c t found)
    ∙ walk-observers c.args.self.now (λ x. picked c.self.inside.list.items (places_at c.note.new.self x)) (own c) ch path) c.of.ensures

pub returns-clause-with_old : goal.returns-clause-with_old
returns-clause-with_old c =
    let ch = change_of c.args.change.now in
    let path = path_keys c.args.forest.now (target_of ch) in
    IfOk-weaker c.of.result _ (λ t. (k : ℕ) → record_of t ch k ≡ record_for nat_eq path c.args.self.now ch k)
    (λ t found k. ap (λ b. cond b ch (without_old ch))
    (ap (λ (f : Found). list_any (nat_eq k) f.with_old) (walked c t found)
    ∙ walk-with_old c.args.self.now (λ x. picked c.self.inside.list.items (places_at c.note.new.self x)) (own c) ch path k)) c.of.ensures
