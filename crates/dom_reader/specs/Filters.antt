-- The words that filter by name, as they are read part by part.
use Rattle.std.specs.Prelude.{ℕ, ◌==◌, List, [], Option, Some, None}
use Rattle.std.specs.List.{slice_split}
use Rattle.std.specs.Borrow.{Bor}
use Rattle.dom_model.specs.Names.{Word, is_name}
use Rattle.dom_base.specs.declared.Owner.{Owner}
use Rattle.dom_model.specs.Command.{NodeWord, Filter}
use Rattle.dom_text.specs.Readers.{◌>>=◌, only_if, behind, next_as, last_as, show_of, name_filter_of}
use Rattle.dom_text.specs.Forms.{node_at}

-- the parts between these bytes of the text that is left, if any is
abbrev pub parts_view : ℕ → Option (Bor (List ℕ)) → List (List ℕ)
parts_view byte None = []
parts_view byte (Some text) = slice_split (λ b. b == byte) text.now

-- the name behind a front
abbrev pub name_behind : List ℕ → Word → Option Word
name_behind front word = behind front word >>= λ name. only_if (is_name name) name

-- the words of an iterator or a walker: a root, what is shown, and perhaps a name
abbrev pub filtered : Owner → List ℕ → Option (NodeWord × Filter)
filtered owner bytes =
    node_at owner bytes >>= λ root. next_as show_of root.1 >>= λ shown. last_as name_filter_of shown.1 >>= λ named.
    Some (root.0, record { shown = shown.0; named = named })
