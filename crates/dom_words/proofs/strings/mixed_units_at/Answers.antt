-- Each byte is read at the place where the one before it left off.
use Rattle.dom_base.proofs.Std.{◌≡◌, ◌+◌, drop, ap, sym, ◌∙◌}
use Rattle.dom_text.specs.Definitions.{Place, between, units_at, read_on}
use Rattle.dom_words.specs.Strings.{place_view, read_view}
use Rattle.dom_words.proofs.Loop.{with_front, one_more, at_byte, at_no_byte}
use Rattle.dom_words.proofs.strings.mixed_units_at.Goals.{in-Item+in_ok-push-in-Item, in-On}
use Rattle.dom_words.proofs.strings.mixed_units_at.Goals as goal

pub loop-i-preserved : goal.loop-i-preserved
loop-i-preserved c =
    let bytes = c.args.bytes.now in
    let units = c.loop-i.units.items in
    let rest = drop (c.loop-i.i + 1) bytes in
    let step = at_byte (place_view c.loop-i.place) bytes c.loop-i.i (read_view c.read_byte.result) c.loop-i-test.true c.read_byte.ensures.read in
    let so_far : with_front units (read_on (read_view c.read_byte.result) (λ (next : Place). units_at next rest) rest) ≡ units_at between bytes =
    ap (with_front units) (sym step) ∙ c.loop-i.invariant.0 in
    elim c.match-read_byte.branch [
      | in-Item+in_ok-push-in-Item w ↦ (
        rw (w.units-is, w.place-is, w.in_ok-push-in-Item.ensures.items, one_more units w.in-Item.unit (units_at between rest)) (rw w.in-Item.is at so_far),
        rw w.place-is tt,
      )
      | in-On w ↦ (rw (w.units-is, w.place-is) (rw w.in-On.is at so_far), rw w.place-is w.in-On.ensures.fits)
    ]

pub returns : goal.returns
returns c = at_no_byte c.loop-i.units.items c.args.bytes.now (place_view c.loop-i.place) c.loop-i.i c.loop-i-test.false c.loop-i.invariant.0
