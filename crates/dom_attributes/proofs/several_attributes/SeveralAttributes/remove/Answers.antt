use Rattle.dom_base.proofs.Std.{◌≡◌, ℕ, List, None, refl, ap, sym, subst, ◌∙◌, rc_str_bytes, option_map, bytes_eq, if◌then◌else◌}
use Rattle.std.specs.BTreeMap.{get_by_text}
use Rattle.dom_model.proofs.Model.{attributes_without}
use Rattle.dom_attributes.specs.Attributes.{HaveOwnNames, value_among, attributes_under, AreIndexed, IsIndexOf, MayIndex}
use Rattle.dom_attributes.proofs.FewAttributes.{IsAt, place-at, place-off, named, found-value, found-without, off-value, off-without, own-without}
use Rattle.dom_attributes.proofs.NameIndexes.{index-less, moved_up}
use Rattle.dom_attributes.proofs.several_attributes.SeveralAttributes.remove.Goals.{in-Some, in_default}
use Rattle.dom_attributes.proofs.several_attributes.SeveralAttributes.remove.Goals as goal

pub returns-in_err-place-clause-value : goal.returns-in_err-place-clause-value
returns-in_err-place-clause-value c =
    let list = c.self.inside.list.items in
    let a = c.args.name.now in
    ap (option_map (λ v. v.items)) c.from_residual.ensures
    ∙ off-value rc_str_bytes (λ v. v.items) a list (place-off (named rc_str_bytes (λ v. v.items) a) list c.deref.result.now _ c.in_err-place.ensures
    c.deref.ensures.value refl) ∙ ap (value_among a) c.self.view_is

pub returns-in_err-place-clause-without : goal.returns-in_err-place-clause-without
returns-in_err-place-clause-without c =
    let list = c.self.inside.list.items in
    let a = c.args.name.now in
    sym c.self.view_is ∙ off-without rc_str_bytes (λ v. v.items) a list (place-off (named rc_str_bytes (λ v. v.items) a) list c.deref.result.now _
    c.in_err-place.ensures c.deref.ensures.value refl) ∙ ap (attributes_without a) c.self.view_is

-- where it stands
at : (c : goal.After-drop-name) → IsAt (named rc_str_bytes (λ v. v.items) c.args.name.now) c.self.inside.list.items c.in_ok-place.place
at c = place-at (named rc_str_bytes (λ v. v.items) c.args.name.now) c.in_ok-place.ensures c.deref.ensures.value refl

removed : (c : goal.After-drop-name) → attributes_under c.remove-name.new.self.items ≡ attributes_without c.args.name.now
    (attributes_under c.self.inside.list.items)
removed c = ap attributes_under c.remove-name.ensures.items ∙ found-without rc_str_bytes (λ v. v.items) c.args.name.now c.self.inside.list.items
    c.in_ok-place.place (at c)

pub invariant_of-self : goal.invariant_of-self
invariant_of-self c =
    let list = c.self.inside.list.items in
    let place = c.in_ok-place.place in
    let new = c.remove-name.new.self.items in
    let own : HaveOwnNames (attributes_under new) = subst HaveOwnNames (sym (removed c)) (own-without c.args.name.now (attributes_under list)
    c.self.invariant.own) in
    elim c.match-self.branch [
      | in-Some w ↦
          let index : IsIndexOf w.in-Some.index.value list = subst (λ o. MayIndex o list) w.in-Some.is c.self.invariant.found in
          let forgot : (t : List ℕ) → get_by_text w.forget.new.index t ≡ (if bytes_eq c.args.name.now t then None else
          option_map (moved_up place) (get_by_text w.in-Some.index.value t)) =
          λ t. w.forget.ensures t ∙ ap (λ m. if bytes_eq c.args.name.now t then None else option_map (moved_up place) (get_by_text m t))
          w.deref_mut.ensures.value in
          let found : IsIndexOf w.forget.new.index new = subst (IsIndexOf w.forget.new.index) (sym c.remove-name.ensures.items)
          (index-less w.in-Some.index.value w.forget.new.index list c.args.name.now index place forgot (at c) c.self.invariant.own) in
          subst (λ s. AreIndexed s.list.items s.index) (sym w.self-inside-is) record { own = own; found = found }
      | in_default w ↦ subst (λ s. AreIndexed s.list.items s.index) (sym w.self-inside-is)
          (record { own = own; found = subst (λ o. MayIndex o new) (sym w.in_default.is) tt })
    ]

pub returns-clause-value : goal.returns-clause-value
returns-clause-value c =
    found-value rc_str_bytes (λ v. v.items) c.args.name.now c.self.inside.list.items c.in_ok-place.place c.remove-name.result (at c)
    c.remove-name.ensures.value ∙ ap (value_among c.args.name.now) c.self.view_is

pub returns-clause-without : goal.returns-clause-without
returns-clause-without c =
    (elim c.match-self.branch [
      | in-Some w ↦ ap (λ s. attributes_under s.list.items) w.self-inside-is
      | in_default w ↦ ap (λ s. attributes_under s.list.items) w.self-inside-is
    ]) ∙ removed c ∙ ap (attributes_without c.args.name.now) c.self.view_is
