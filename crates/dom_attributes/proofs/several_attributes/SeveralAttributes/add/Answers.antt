use Rattle.dom_base.proofs.Std.{◌≡◌, ◌++◌, ◌∷◌, [], ℕ, List, Some, false, ap, sym, subst, ◌∙◌, arith, length, rc_str_bytes, bytes_eq, if◌then◌else◌}
use Rattle.dom_base.proofs.Std.{AllByRecursion}
use Rattle.std.specs.BTreeMap.{get_by_text}
use Rattle.dom_model.proofs.Model.{Attribute, text_eq, attributes_with}
use Rattle.dom_attributes.specs.Attributes.{HaveOwnNames, attributes_under, AreIndexed, IsIndexOf, MayIndex}
use Rattle.dom_attributes.proofs.FewAttributes.{named, off-added, off-entries, own-with}
use Rattle.dom_attributes.proofs.NameIndexes.{index-added}
use Rattle.dom_attributes.proofs.several_attributes.SeveralAttributes.add.Goals.{in-Some+in_ok-note, in_default, After-push_reserved}
use Rattle.dom_attributes.proofs.several_attributes.SeveralAttributes.add.Goals as goal

-- none has the name
off : (c : After-push_reserved) → AllByRecursion (λ e. named rc_str_bytes (λ v. v.items) c.args.name.now e ≡ false) c.self.inside.list.items
off c =
    let a = c.args.name.now in
    off-entries rc_str_bytes (λ v. v.items) a c.self.inside.list.items (subst (AllByRecursion (λ (b : Attribute). text_eq a b.name ≡ false))
    (sym (c.self.view_is ∙ c.index_many.ensures.same)) c.requires)

-- one more goes last
kept : (c : After-push_reserved) → c.match-self.self-inside.list.items ≡ c.self.inside.list.items
kept c = (elim c.match-self.branch [
  | in-Some+in_ok-note w ↦ ap (λ s. s.list.items) w.self-inside-is
  | in_default w ↦ ap (λ s. s.list.items) w.self-inside-is
]) ∙ c.make_room.ensures.items

last : (c : After-push_reserved) → c.push_reserved.new.self.items ≡ c.self.inside.list.items ++ (c.in_ok-shared.shared, c.args.value) ∷ []
last c = c.push_reserved.ensures.items ∙ ap (λ es. es ++ (c.in_ok-shared.shared, c.args.value) ∷ []) (kept c)

added : (c : After-push_reserved) → attributes_under c.push_reserved.new.self.items ≡
    attributes_with c.args.name.now c.args.value.items (attributes_under c.self.inside.list.items)
added c =
    ap attributes_under (last c) ∙ off-added rc_str_bytes (λ v. v.items) c.args.name.now c.self.inside.list.items c.in_ok-shared.shared c.args.value
    c.in_ok-shared.ensures (off c)

pub invariant_of-self-in_err-note : goal.invariant_of-self-in_err-note
invariant_of-self-in_err-note c =
    let list = c.self.inside.list.items in
    let index : IsIndexOf c.in-Some.index.value list = subst (λ o. MayIndex o list) c.in-Some.is c.self.invariant.found in
    record {
      own = subst (λ es. HaveOwnNames (attributes_under es)) (sym c.make_room.ensures.items) c.self.invariant.own;
      found = subst (IsIndexOf c.note.new.index) (sym c.make_room.ensures.items)
          (λ t. c.in_err-note.ensures.err t ∙ ap (λ m. get_by_text m t) c.deref_mut.ensures.value ∙ index t);
    }

pub invariant_of-self-2 : goal.invariant_of-self-2
invariant_of-self-2 c =
    let list = c.self.inside.list.items in
    let new = c.push_reserved.new.self.items in
    let own : HaveOwnNames (attributes_under new) = subst HaveOwnNames (sym (added c)) (own-with c.args.name.now c.args.value.items
    (attributes_under list) c.self.invariant.own) in
    elim c.match-self.branch [
      | in-Some+in_ok-note w ↦
          let index : IsIndexOf w.in-Some.index.value list = subst (λ o. MayIndex o list) w.in-Some.is c.self.invariant.found in
          let place : w.len.result ≡ length list = omega (arith, w.len.ensures, c.make_room.new.list.ok, ap length c.make_room.ensures.items) in
          let noted : (t : List ℕ) → get_by_text w.note.new.index t ≡ (if bytes_eq c.args.name.now t then Some (length list) else
          get_by_text w.in-Some.index.value t) =
          λ t. w.in_ok-note.ensures.ok t ∙
          (λ j. if bytes_eq c.args.name.now t then Some (place j) else get_by_text (w.deref_mut.ensures.value j) t) in
          let found : IsIndexOf w.note.new.index new = subst (IsIndexOf w.note.new.index) (sym (last c)) (index-added w.in-Some.index.value w.note.new.index
          list c.args.name.now index (c.in_ok-shared.shared, c.args.value) c.in_ok-shared.ensures noted (off c)) in
          subst (λ s. AreIndexed new s.index) (sym w.self-inside-is) record { own = own; found = found }
      | in_default w ↦ subst (λ s. AreIndexed new s.index) (sym w.self-inside-is)
          (record { own = own; found = subst (λ o. MayIndex o new) (sym w.in_default.is) tt })
    ]

pub returns-clause-ok : goal.returns-clause-ok
returns-clause-ok c =
    added c ∙ ap (attributes_with c.args.name.now c.args.value.items) (c.self.view_is ∙ c.index_many.ensures.same)
