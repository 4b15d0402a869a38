-- The text of a line of output.
use Rattle.std.specs.Prelude.{ℕ, List, [], ◌∷◌, ◌++◌, codes}
use Rattle.dom_base.specs.declared.Owner.{Owner}
use Rattle.dom_text.specs.Words.{owner_word}
use Rattle.dom_text.specs.Lines.{line_feed}

-- a line of the owner's that says this, with its end
abbrev pub line_text : Owner → List ℕ → List ℕ
line_text owner said = owner_word owner ++ codes " " ++ said ++ line_feed ∷ []
