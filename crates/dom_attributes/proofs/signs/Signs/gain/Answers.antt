use Rattle.dom_base.proofs.Std.{◌≡◌, ◌∙◌, ℕ, List, [], true, sym, codes, true≢false}
use Rattle.std.specs.Prelude.{bit_or}
use Rattle.std.specs.List.{list_any}
use Rattle.dom_model.proofs.Model.{text_eq, words_from}
use Rattle.dom_attributes.specs.Signs.{HasBits, class_bits, id_bits}
use Rattle.dom_attributes.proofs.SignLaws.{has_left, has_right}
use Rattle.dom_attributes.proofs.signs.Signs.gain.Goals as goal
use Rattle.dom_attributes.proofs.signs.Signs.gain.Goals.{then-is_same_text, else-is_same_text, then-is_same_text-2, else-is_same_text-2}

pub returns : goal.returns
returns c =
    let old = c.args.self.now.bits in
    let name = c.args.name.now in
    let value = c.args.value.now in
    let own : ℕ = c.of_attribute.result.bits in
    let first : ℕ = c.if-is_same_text.bits in
    let last : ℕ = c.if-is_same_text-2.bits in
    let kept : HasBits first (bit_or old own) = elim c.if-is_same_text.branch [
      | then-is_same_text w ↦ rw w.bits-is (has_left (bit_or old own) w.classes_bits-bits.result)
      | else-is_same_text w ↦ rw w.bits-is (λ i on. on)
    ] in
    let kept-2 : HasBits last first = elim c.if-is_same_text-2.branch [
      | then-is_same_text-2 w ↦ rw w.bits-is (has_left first w.of_id-bits.result.bits)
      | else-is_same_text-2 w ↦ rw w.bits-is (λ i on. on)
    ] in
    let classed : text_eq name (codes "class") ≡ true → (v : List ℕ) → list_any (text_eq v) (words_from [] value) ≡ true →
    HasBits first (class_bits v) = elim c.if-is_same_text.branch [
      | then-is_same_text w ↦ λ is v among. rw w.bits-is
          (λ i on. has_right (bit_or old own) w.classes_bits-bits.result i (w.classes_bits-bits.ensures v among i on))
      | else-is_same_text w ↦ λ is. absurd (true≢false (sym is ∙ (sym c.is_same_text.ensures.text ∙ w.if-is_same_text.false)))
    ] in
    let identified : text_eq name (codes "id") ≡ true → HasBits last (id_bits value) = elim c.if-is_same_text-2.branch [
      | then-is_same_text-2 w ↦ λ is. rw (w.bits-is, w.of_id-bits.ensures) (has_right first (id_bits value))
      | else-is_same_text-2 w ↦ λ is. absurd (true≢false (sym is ∙ (sym c.is_same_text-2.ensures.text ∙ w.if-is_same_text-2.false)))
    ] in
    record {
      kept = λ i on. kept-2 i (kept i (has_left old own i on));
      attributed = λ i on. kept-2 i (kept i (has_right old own i (rw c.of_attribute.ensures on)));
      classed = λ is v among i on. kept-2 i (classed is v among i on);
      identified = identified;
    }
