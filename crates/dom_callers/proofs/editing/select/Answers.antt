use Rattle.std.proofs.Common.{[]}
use Rattle.dom_callers.proofs.InHand.{range-still}
use Rattle.dom_model.specs.Command.{Command, own}
use Rattle.dom_model.specs.Output.{nothing, a_range}
use Rattle.dom_mutation.specs.Definitions.{name_in, HasStillAll}
use Rattle.dom_callers.proofs.editing.select.Goals as goal

pub returns : goal.returns
returns c =
    let law = c.law_still.ensures in
    let d = c.args.doc.now in
    let e = c.range_make.new.self in
    let f = c.range_set_start.new.self in
    let g = c.range_set_end.new.self in
    let o = c.args.owner in
    let number = c.in_ok-range.range in
    let make : HasStillAll d e = law.tables d e o Command.range_new [] (a_range number) tt c.in_ok-range.ensures.names c.in_ok-range.ensures.world in
    let start : HasStillAll e f = law.tables e f o (Command.range_start number (own (name_in e c.args.text).number) 0) [] nothing tt
    c.in_ok-range_set_start.ensures.names c.in_ok-range_set_start.ensures.world in
    let end : HasStillAll f g = law.tables f g o (Command.range_end number (own (name_in f c.args.tail).number) 1) [] nothing tt
    c.in_ok-range_set_end.ensures.names c.in_ok-range_set_end.ensures.world in
    record {
      still = law.next d f g (law.next d e f make start) end;
      range = range-still o number end (range-still o number start (c.law_newly_there.ensures.range d.world e.world o number c.in_ok-range.ensures.world));
    }
