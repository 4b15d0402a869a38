-- A number of 32 bits has ten digits at most.
use Rattle.dom_base.proofs.Std.{rules, arith, ◌≡◌, ◌≤◌, ◌+◌, ◌-◌, ◌∷◌, [], ◌++◌, ◌∙◌, ap, append_assoc, length, length-append, length-drop, length-take-le, sym}
use Rattle.dom_base.proofs.Std.{ℕ, List, take, drop, vec_len}
use Rattle.std.specs.Fmt.{decimal}
use Rattle.std.proofs.lemmas.Fmt.{length-decimal-le}
use Rattle.dom_printer.proofs.Cutting.{reaches, cut, headed, parted, spaces}
use Rattle.dom_printer.proofs.names.put_lettered.Goals as goal

pub write_digits-start-requires : goal.write_digits-start-requires
write_digits-start-requires c = search (rules, length-decimal-le 10)

pub write_letter-first-requires-clause-start : goal.write_letter-first-requires-clause-start
write_letter-first-requires-clause-start c =
    let few = length-decimal-le 10 c.args.number (omega arith) (omega arith) (omega arith) in
    search (rules, few)

pub slice_bounds-extend_from_slice-end : goal.slice_bounds-extend_from_slice-end
slice_bounds-extend_from_slice-end c =
    let head : List ℕ = take c.args.before (44 ∷ []) in
    let within : c.write_letter-first.result + 16 ≤ length c.write_letter-first.new.text =
    reaches c.write_letter-first.new.text (head ++ c.args.letter ∷ decimal c.args.number) (10 ∷ spaces) c.write_letter-first.result 16
    (omega arith) (headed head c.args.letter _ _ c.write_letter-first.ensures.written c.write_digits-start.ensures.written) (omega arith) in
    search (rules, within)

pub returns-clause-ok : goal.returns-clause-ok
returns-clause-ok c =
    let first = c.write_letter-first.result in
    let surplus = first + 4 - c.args.behind in
    let old = c.args.out.now.items in
    let digits = decimal c.args.number in
    let head : List ℕ = take c.args.before (44 ∷ []) in
    let text : List ℕ = head ++ c.args.letter ∷ digits in
    let end : List ℕ = take c.args.behind (10 ∷ []) in
    let rest : List ℕ = drop c.args.behind (10 ∷ spaces) in
    let all : drop first c.write_letter-first.new.text ≡ text ++ (10 ∷ spaces) =
    headed head c.args.letter _ _ c.write_letter-first.ensures.written c.write_digits-start.ensures.written in
    let within : first + 16 ≤ length c.write_letter-first.new.text =
    reaches c.write_letter-first.new.text text (10 ∷ spaces) first 16 (omega arith) all (omega arith) in
    let few = length-decimal-le 10 c.args.number (omega arith) (omega arith) (omega arith) in
    let lettered : drop first c.write_letter-first.new.text ≡ (text ++ end) ++ rest = all ∙ parted text c.args.behind (omega arith) in
    let new : List ℕ = c.extend_from_slice.new.self.items in
    let put : new ≡ old ++ take 16 ((text ++ end) ++ rest) = search (rules, lettered) in
    let whole = length-append text end in
    let front = length-append head (c.args.letter ∷ digits) in
    let started : length head ≡ c.args.before = length-take-le c.args.before (44 ∷ []) (omega arith) in
    let ended : length end ≡ c.args.behind = length-take-le c.args.behind (10 ∷ []) (omega arith) in
    let left = length-drop c.args.behind (10 ∷ spaces) in
    let size : vec_len c.extend_from_slice.new.self ≡ length new = search rules in
    let counted : take (c.len.result - surplus) new ≡ take (length new - surplus) new =
    ap (λ (n : ℕ). take (n - surplus) new) (c.len.ensures ∙ size) in
    c.truncate.ensures.items ∙ counted ∙ ap (λ (xs : List ℕ). take (length xs - surplus) xs) put
    ∙ cut old (text ++ end) rest surplus 16 (omega arith) (omega arith) ∙ sym (append_assoc old text end)
