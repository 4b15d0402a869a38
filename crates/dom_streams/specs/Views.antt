-- Which lines of a text a view keeps.
use Rattle.std.specs.Prelude.{ℕ, List, [], Option, Some, None}
use Rattle.dom_base.specs.declared.Owner.{Owner}
use Rattle.dom_text.specs.Lines.{cut_of, owner_prefix, written}

-- what a view keeps of a text: without a view all of it, with one the lines that begin with the owner's word and a space
abbrev pub viewed : Option Owner → List ℕ → List ℕ
viewed None text = text
viewed (Some owner) text = written (Some owner) (cut_of text).finished

-- the bytes with which a view's lines begin, and none without a view
abbrev pub view_prefix : Option Owner → List ℕ
view_prefix None = []
view_prefix (Some owner) = owner_prefix owner
