-- The numbers so far, and one more.
use Rattle.dom_base.proofs.Std.{◌≡◌, ◌++◌, take, codes, flat_map}
use Rattle.dom_text.specs.Definitions.{next_number_text}
use Rattle.dom_printer.proofs.PutLaws.{failed_put, both, same}
use Rattle.dom_printer.proofs.names.put_inner_numbers.Goals as goal

pub returns-in_err-extend_from_slice : goal.returns-in_err-extend_from_slice
returns-in_err-extend_from_slice c =
    let r = c.from_residual in
    let before = c.loop-number.out.items in
    let after = c.extend_from_slice.new.self.items in
    failed_put _ _ c.loop-number.invariant r.result _ _ r.ensures.0 (same before after c.in_err-extend_from_slice.ensures.items)

pub returns-in_err-put_number : goal.returns-in_err-put_number
returns-in_err-put_number c =
    let r = c.from_residual-in_err-put_number in
    let before = c.loop-number.out.items in
    let dot : c.extend_from_slice.new.self.items ≡ before ++ codes "." = c.in_ok-extend_from_slice.ensures.items in
    let numbers = flat_map next_number_text (take c.loop-number.number-index c.args.numbers.now) in
    failed_put _ (numbers ++ codes ".") (both _ numbers c.loop-number.invariant (codes ".") dot) r.result _ _ r.ensures.0 c.in_err-put_number.ensures.err
