use Rattle.dom_base.proofs.Std.{◌≡◌, ◌*◌, ◌/◌, ◌%◌, ◌^◌, ℕ, ap, ◌∙◌, arith}
use Rattle.std.specs.Prelude.{bit_and, bit_or}
use Rattle.std.proofs.lemmas.Nat.{and_mask, one_shl}
use Rattle.dom_attributes.specs.Signs.{bits_of}
use Rattle.dom_attributes.proofs.signs.bits_of.Goals as goal

pub returns : goal.returns
unfolding bits_of
returns c =
    let mixed : ℕ = c.args.number * 11400714819323198485 % 2 ^ 64 in
    let first : 1 * 2 ^ (mixed / 2 ^ 59) % 2 ^ 32 ≡ 2 ^ (mixed / 2 ^ 59) = one_shl (mixed / 2 ^ 59) 32 (omega arith) in
    let second : 1 * 2 ^ bit_and (mixed / 2 ^ 54) 31 % 2 ^ 32 ≡ 2 ^ (mixed / 2 ^ 54 % 32) =
    ap (λ k. 1 * 2 ^ k % 2 ^ 32) (and_mask (mixed / 2 ^ 54) 5) ∙ one_shl (mixed / 2 ^ 54 % 32) 32 (omega arith) in
    λ i. bit_or (first i) (second i)
