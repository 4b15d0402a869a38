use Rattle.dom_base.proofs.Std.{◌≡◌, ◌<◌, ◌≤◌, arith, length, length-map, take_all}
use Rattle.dom_base.proofs.Std.{◌∙◌, Some, IsSome, string_bytes, option_map, sym, ap, subst, slice_get-map, false≢true}
use Rattle.std.specs.Prelude.{slice_get}
use Rattle.dom_attributes.specs.Attributes.{attributes_from, attribute_from}
use Rattle.dom_attributes.specs.Signs.{Cover}
use Rattle.dom_attributes.proofs.SignLaws.{cover-more}
use Rattle.dom_attributes.proofs.signs.Signs.with_attributes.Goals as goal
use Rattle.dom_attributes.proofs.signs.Signs.with_attributes.Goals.{in-Some, in_default}

pub loop-index-preserved : goal.loop-index-preserved
loop-index-preserved c =
    let entries = c.args.attributes.now.entries in
    let index = c.loop-index.index in
    elim c.match-get_index.branch [
      | in-Some w ↦
          let here : slice_get (attributes_from entries) index ≡ Some (attribute_from w.as_str.result.now w.as_slice.result.now) =
          slice_get-map (λ e. attribute_from (string_bytes e.0) e.1.items) entries index
          ∙ (ap (option_map (λ e. attribute_from (string_bytes e.0) e.1.items)) (sym w.in-Some.ensures.entry)
          ∙ (λ i. Some (attribute_from (sym w.as_str.ensures.value i) (sym w.as_slice.ensures.value i)))) in
          λ element bare. rw w.signs-is (cover-more (attributes_from entries) index here w.gain.ensures (c.loop-index.invariant element bare))
      | in_default w ↦ absurd
          (false≢true (subst IsSome w.in_default.is (c.get_index.ensures.found.1 (subst (λ n. index < n) c.len-index-end.ensures.len c.loop-index-test.true))))
    ]

pub returns : goal.returns
returns c element bare =
    let entries = c.args.attributes.now.entries in
    let past : length (attributes_from entries) ≤ c.loop-index.index =
    omega (arith, length-map entries (λ e. attribute_from (string_bytes e.0) e.1.items), c.len-index-end.ensures.len, c.loop-index-test.false) in
    subst (Cover c.loop-index.signs element) (take_all c.loop-index.index (attributes_from entries) past) (c.loop-index.invariant element bare)
