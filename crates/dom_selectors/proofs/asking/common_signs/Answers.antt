-- One more shows the common signs too.
use Rattle.dom_selectors.proofs.Cited.{◌≡◌, ℕ, subst, complex_view, last_compound}
use Rattle.dom_model.specs.Selectors.{CompoundPart}
use Rattle.std.specs.Prelude.{List}
use Rattle.std.specs.Int.{bit_at}
use Rattle.dom_attributes.specs.Signs.{HasBits}
use Rattle.dom_selectors.specs.Signs.{CompoundShows}
use Rattle.dom_selectors.specs.declared.selector.Complex.{Complex}
use Rattle.dom_selectors.proofs.SignLaws.{common_left, common_right, fewer_shown, rest_shows}
use Rattle.dom_selectors.proofs.asking.common_signs.Goals as goal

pub loop-rest-preserved : goal.loop-rest-preserved
loop-rest-preserved c =
    let a = c.loop-rest.signs.bits in
    let b = c.signs.result.bits in
    record {
      some = λ bits has rest.
          let both = subst (λ (n : ℕ). HasBits n bits) c.common-signs.ensures has in
          let last = subst (λ (ps : List CompoundPart). CompoundShows ps b) c.last_of_complex.ensures c.signs.ensures in
          let here = subst (λ (d : Complex). CompoundShows (last_compound (complex_view d)) b) c.complex-item.is last in
          c.loop-rest.invariant.some bits (λ i on. common_left a b i (both i on)) (rest_shows bits c.loop-rest.rest.now c.complex-item.result
          c.in-len1-up.len_at_least (λ ts x e. fewer_shown ts x b bits (λ i on. common_right a b i (both i on)) (here ts x e)) rest);
      given = λ i on. c.loop-rest.invariant.given i (common_left a b i (subst (λ (n : ℕ). bit_at n i ≡ 1) c.common-signs.ensures on));
    }
