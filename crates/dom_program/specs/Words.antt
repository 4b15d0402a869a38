-- What the program's words ask for: whose lines are written, and which file is read (own rule).
use Rattle.std.specs.Prelude.{◌≡◌, true, List, [], Option, Some, String, is_some, codes, map}
use Rattle.std.specs.Option.{option_and_then}
use Rattle.clap.specs.Words.{App, Row, Rule, Text, first_of, fault_of, matches_of, new_app, new_rule, with_rule}
use Rattle.dom_base.specs.declared.Owner.{Owner}
use Rattle.dom_text.specs.Readers.{owner_of}

-- `--view` with a word behind it, or after `=`
abbrev pub view_rule : Rule
view_rule = record (new_rule (codes "view")) { long = Some (codes "view") }

-- a command line on which nothing calls for help
abbrev pub helpless : App → App
helpless line = record line { top = record line.top { disable_help_flag = true } }

-- `--view` and one word beside it, behind `--` too, each at most once and in any order
abbrev pub command_line : App
command_line = with_rule (with_rule (helpless (new_app (codes "domrun"))) view_rule) (new_rule (codes "file"))

-- the texts of the words
abbrev pub texts_of : {A : Type 0} → List (String A) → List Text
texts_of words = map (λ word. word.bytes.items) words

-- the words, of which the first is the program's own name, have the form of the command line
abbrev pub HaveForm : List Text → Type 0
HaveForm words = fault_of command_line words ≡ []

-- the owner whose word stands in the row of `--view`, if there is one
abbrev pub owner_among : List Row → Option Owner
owner_among rows = option_and_then owner_of (first_of (codes "view") rows)

-- the word in the row of the file, if there is one
abbrev pub file_among : List Row → Option Text
file_among rows = first_of (codes "file") rows

-- in the row of `--view` stands an owner's word, or none
abbrev pub NamesAnOwner : List Row → Type 0
NamesAnOwner rows = is_some (owner_among rows) ≡ is_some (first_of (codes "view") rows)

-- the owner whose lines are written, where the words name one
abbrev pub view_in : List Text → Option Owner
view_in words = owner_among (matches_of command_line words)

-- the file that is read, where the words name one
abbrev pub file_in : List Text → Option Text
file_in words = file_among (matches_of command_line words)

-- the program takes the words: they have its form, and the word of `--view` is an owner's
pub record AreTaken (words : List Text) : Type 0 where
  pub form : HaveForm words
  pub view : NamesAnOwner (matches_of command_line words)
