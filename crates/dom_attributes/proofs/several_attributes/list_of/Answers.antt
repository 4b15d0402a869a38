use Rattle.dom_base.proofs.Std.{◌≡◌, ◌≤◌, ◌<◌, ◌++◌, ◌∷◌, [], Some, IsSome, ap, subst, sym, ◌∙◌, refl, arith, length, length-map, take, take_all, take_more}
use Rattle.dom_base.proofs.Std.{map-append}
use Rattle.dom_base.proofs.Std.{option_map, slice_get-map, slice_get_within, get_or_from_slice_get, string_bytes, rc_str_bytes, string_eq, false≢true}
use Rattle.std.specs.Prelude.{slice_get}
use Rattle.dom_model.proofs.Model.{Attribute}
use Rattle.dom_attributes.specs.Attributes.{HaveOwnNames, attribute_from, attributes_from, attributes_under}
use Rattle.dom_attributes.proofs.OwnNames.{own_names}
use Rattle.dom_attributes.proofs.several_attributes.list_of.Goals.{in-Some+in_ok-name+in_ok-from_slice+in_ok-push, in_default}
use Rattle.dom_attributes.proofs.several_attributes.list_of.Goals as goal

pub loop-index-preserved : goal.loop-index-preserved
loop-index-preserved c =
    let entries = c.args.attributes.now.entries in
    let index = c.loop-index.index in
    let all = attributes_from entries in
    elim c.match-get_index.branch [
      | in-Some+in_ok-name+in_ok-from_slice+in_ok-push w ↦
          let new : Attribute = attribute_from (rc_str_bytes w.in_ok-name.name) w.in_ok-from_slice.field-0.items in
          let here : slice_get all index ≡ Some new =
          slice_get-map (λ e. attribute_from (string_bytes e.0) e.1.items) entries index
          ∙ ap (option_map (λ e. attribute_from (string_bytes e.0) e.1.items)) (sym w.in-Some.ensures.entry)
          ∙ (λ i. Some (attribute_from ((sym w.as_str.ensures.value ∙ sym w.in_ok-name.ensures.ok) i)
          ((sym w.as_slice.ensures.value ∙ sym w.in_ok-from_slice.ensures.items) i))) in
          ap (λ v. attributes_under v.items) w.list-is ∙ ap attributes_under w.in_ok-push.ensures.items
          ∙ map-append (λ e. record { name = rc_str_bytes e.0; value = e.1.items }) c.loop-index.list.items
          ((w.in_ok-name.name, w.in_ok-from_slice.field-0) ∷ [])
          ∙ ap (λ bs. bs ++ new ∷ []) c.loop-index.invariant
          ∙ sym (take_more all index new (slice_get_within all index new here) ∙
          ap (λ b. take index all ++ b ∷ []) (get_or_from_slice_get all index new new here))
      | in_default w ↦ absurd
          (false≢true (subst IsSome w.in_default.is (c.get_index.ensures.found.1 (subst (λ n. index < n) c.len-index-end.ensures.len c.loop-index-test.true))))
    ]

pub returns-clause-list : goal.returns-clause-list
returns-clause-list c =
    let entries = c.args.attributes.now.entries in
    let past : length (attributes_from entries) ≤ c.loop-index.index =
    omega (arith, length-map entries (λ e. attribute_from (string_bytes e.0) e.1.items), c.len-index-end.ensures.len, c.loop-index-test.false) in
    c.loop-index.invariant ∙ take_all c.loop-index.index (attributes_from entries) past

pub returns-clause-own : goal.returns-clause-own
returns-clause-own c =
    subst HaveOwnNames (sym (returns-clause-list c))
    (own_names string_bytes (λ v. v.items) string_eq (λ x y. refl) c.args.attributes.now.entries c.len-index-end.ensures.unique)
