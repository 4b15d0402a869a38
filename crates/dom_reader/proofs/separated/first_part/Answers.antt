-- The text is cut at the first of these bytes, if it has one.
use Rattle.dom_base.proofs.Std.{ℕ, ◌+◌, ◌-◌, eqb, List, ◌∷◌, length, take, drop, sym, ap, ◌∙◌, arith, slice_split, take_all, length-drop}
use Rattle.dom_reader.proofs.Firsts.{cut_at_first, none_found}
use Rattle.dom_reader.proofs.Commas.{part_at, part_without}
use Rattle.dom_reader.proofs.separated.first_part.Goals as goal

pub returns-in-Some-clause-parts : goal.returns-in-Some-clause-parts
returns-in-Some-clause-parts c =
    let byte = c.args.byte in
    let text = c.args.text.now in
    let rest = drop (c.in-Some.place + 1) text in
    part_at byte text (take c.in-Some.place text) rest (cut_at_first byte text c.in-Some.place c.in-Some.ensures)
    ∙ ap (λ (x : List ℕ). take c.in-Some.place text ∷ slice_split (λ b. eqb b byte) x)
    (sym (take_all (length text - (c.in-Some.place + 1)) rest (omega (arith, length-drop (c.in-Some.place + 1) text))))

pub returns-in-None-clause-parts : goal.returns-in-None-clause-parts
returns-in-None-clause-parts c = part_without c.args.byte c.args.text.now (none_found c.args.byte c.args.text.now c.in-None.ensures)
