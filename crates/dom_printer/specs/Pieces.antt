-- The text of the pieces of a line.
use Rattle.std.specs.Prelude.{ℕ, List, [], ◌++◌}
use Rattle.std.specs.List.{flat_map}
use Rattle.std.specs.Fmt.{decimal}
use Rattle.dom_base.specs.declared.Owner.{Owner}
use Rattle.dom_text.specs.Words.{owner_word}
use Rattle.dom_text.specs.Text.{string_text, node_text}
use Rattle.dom_printer.specs.declared.pieces.Piece.{Piece}
use Rattle.dom_printer.specs.declared.pieces.Piece.TheVariants as pieces

-- the text with which a piece begins
abbrev pub text_in : Piece → List ℕ
text_in (pieces.Text text) = text.now
text_in (pieces.Bytes text bytes) = text.now
text_in (pieces.Number text number) = text.now
text_in (pieces.Owner text owner) = text.now
text_in (pieces.Node text node) = text.now
text_in (pieces.Units text units) = text.now

-- what stands behind that text, as the viewer sees it
abbrev pub rest_text : Owner → Piece → List ℕ
rest_text viewer (pieces.Text text) = []
rest_text viewer (pieces.Bytes text bytes) = bytes.now
rest_text viewer (pieces.Number text number) = decimal number
rest_text viewer (pieces.Owner text owner) = owner_word owner.now
rest_text viewer (pieces.Node text node) = node_text viewer node.now
rest_text viewer (pieces.Units text units) = string_text units.now

-- a piece as the viewer sees it
abbrev pub piece_text : Owner → Piece → List ℕ
piece_text viewer piece = text_in piece ++ rest_text viewer piece

-- pieces, one after the other
abbrev pub pieces_text : Owner → List Piece → List ℕ
pieces_text viewer pieces = flat_map (piece_text viewer) pieces
