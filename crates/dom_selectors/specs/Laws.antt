-- The laws that tie the grammar of selectors to the reader of the definitions.
use Rattle.std.specs.Prelude.{◌≡◌, List, Some}
use Rattle.dom_model.specs.Names.{DomString}
use Rattle.dom_model.specs.Selectors.{Complex}
use Rattle.dom_model.specs.SelectorText.{parse_selectors}
use Rattle.dom_selectors.specs.Grammar.{IsSelector}

-- what is read is in the grammar (own rule)
abbrev pub SaysWhatIsRead : Type 0
SaysWhatIsRead = (text : DomString) (s : List Complex) → parse_selectors text ≡ Some s → IsSelector text s

-- what is in the grammar is read (own rule)
abbrev pub ReadsWhatIsSaid : Type 0
ReadsWhatIsSaid = (text : DomString) (s : List Complex) → IsSelector text s → parse_selectors text ≡ Some s

-- a text is one selector at most (own rule)
abbrev pub SaysOneSelector : Type 0
SaysOneSelector = (text : DomString) (s t : List Complex) → IsSelector text s → IsSelector text t → s ≡ t
