use Rattle.dom_base.proofs.Std.{◌≡◌, ℕ, List, false, length, slice_index_or, ap, sym, arith, false_from_ne_true, ext_get_or, bytes_eq-Decides, bytes_eq}
use Rattle.dom_base.proofs.is_same.Goals as goal

-- texts that are not equal are not the same
differ : (xs ys : List ℕ) → (xs ≡ ys → ⊥) → false ≡ bytes_eq xs ys
differ xs ys apart = sym (false_from_ne_true (bytes_eq xs ys) (λ e. apart ((bytes_eq-Decides xs ys).0 e)))

pub returns-then-text-other : goal.returns-then-text-other
returns-then-text-other c = differ c.args.text.now c.args.other.now (λ e. c.if-text-other.true (ap length e))

pub returns-then-text-index : goal.returns-then-text-index
returns-then-text-index c = differ c.args.text.now c.args.other.now (λ e. c.if-text-index.true (ap (λ xs. slice_index_or xs c.loop-index.index 0) e))

pub returns : goal.returns
returns c =
    sym ((bytes_eq-Decides c.args.text.now c.args.other.now).1
    (ext_get_or 0 c.args.text.now c.args.other.now c.if-text-other.false
    (λ i l. c.loop-index.invariant i (omega (arith, l, c.loop-index-test.false)))))
