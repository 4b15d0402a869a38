-- Reading strings byte by byte: the values of the code, seen as those of the specification.
use Rattle.std.specs.Prelude.{ℕ, zero, suc, ◌<◌, ◌≤◌, Bool, not, ◌==◌, ◌&&◌}
use Rattle.dom_words.specs.declared.strings.Place.{Place}
use Rattle.dom_words.specs.declared.strings.Place.TheVariants.{Between, Escaped, InDigits}
use Rattle.dom_words.specs.declared.strings.Read.{Read}
use Rattle.dom_words.specs.declared.strings.Read.TheVariants.{Wrong, Closed, Item, On}
use Rattle.std.specs.Int.{is_in_range}
use Rattle.dom_text.specs.Readers as text

-- an item of its own within a string
abbrev pub is_item : ℕ → Bool
is_item b = not (b == 34) && (not (b == 92) && is_in_range 0x20 0x7E b)

-- a place, without the widths of its numbers
abbrev pub place_view : Place → text.Place
place_view Between = text.between
place_view Escaped = text.escaped
place_view (InDigits left value) = text.in_digits left value

-- what a byte does, without the widths of its numbers
abbrev pub read_view : Read → text.Read
read_view Wrong = text.wrong
read_view Closed = text.closed
read_view (Item unit) = text.item unit
read_view (On place) = text.on (place_view place)

-- the digits to come fit a code unit
abbrev pub DigitsFit : ℕ → ℕ → Type 0
DigitsFit zero value = value < 4096
DigitsFit (suc zero) value = value < 256
DigitsFit (suc (suc zero)) value = value < 16
DigitsFit (suc (suc (suc left))) value = value < 1

-- the value so far fits the digits to come
abbrev pub PlaceFits : Place → Type 0
PlaceFits (InDigits left value) = (left ≤ 3) × DigitsFit left value
PlaceFits _ = Unit {0}

-- the place that a byte leads to fits the digits to come
abbrev pub ReadFits : Read → Type 0
ReadFits (On place) = PlaceFits place
ReadFits _ = Unit {0}
