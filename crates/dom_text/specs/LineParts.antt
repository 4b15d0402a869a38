-- The parts of a line: which texts may stand for each word of a command.
use Rattle.std.specs.Prelude.{ℕ, Bool, true, false, List, [], ◌∷◌, codes, ◌≡◌, Option, Some, None}
use Rattle.dom_base.specs.declared.Owner.{Owner}
use Rattle.dom_model.specs.Names.{Word, DomString}
use Rattle.dom_model.specs.Command.{NodeWord, Filter, ListenerWords, EventWords, ObserveWords}
use Rattle.dom_text.specs.Words.{action_word}
use Rattle.dom_text.specs.Tokens.{IsWord, IsString, IsNumber, IsNumbered, IsNode, IsLabel, IsShow, IsNameFilter, IsAttributeFilter}

-- A part of a line: the texts that may stand for it.
abbrev pub LinePart : Type 1
LinePart = List ℕ → Type 0

-- this very word
abbrev pub key : List ℕ → LinePart
key name text = text ≡ name

-- this word, of any kind
abbrev pub word : Word → LinePart
word name text = (text ≡ name) × IsWord name

-- this type of an event, or this label
abbrev pub label : Word → LinePart
label name text = (text ≡ name) × IsLabel name

-- this string
abbrev pub string : DomString → LinePart
string = IsString

-- this number
abbrev pub number : ℕ → LinePart
number = IsNumber

-- a node, as the owner names it
abbrev pub node : Owner → NodeWord → LinePart
node = IsNode

-- a range
abbrev pub range : ℕ → LinePart
range = IsNumbered (codes "r")

-- an iterator
abbrev pub iterator : ℕ → LinePart
iterator = IsNumbered (codes "i")

-- a walker
abbrev pub walker : ℕ → LinePart
walker = IsNumbered (codes "w")

-- an observer
abbrev pub observed : ℕ → LinePart
observed = IsNumbered (codes "o")

-- a word that stands before the others where it is chosen
abbrev pub flag : Bool → List ℕ → List LinePart → List LinePart
flag true name others = key name ∷ others
flag false name others = others

-- a part that stands where there is a value for it
abbrev pub perhaps : {A : Type 0} → (A → LinePart) → Option A → List LinePart
perhaps part None = []
perhaps part (Some x) = part x ∷ []

-- what a filter shows, and its name
abbrev pub filter_parts : Filter → List LinePart
filter_parts filter = IsShow filter.shown ∷ perhaps IsNameFilter filter.named

-- the words of `listen` behind the node
abbrev pub listener_parts : ListenerWords → List LinePart
listener_parts l = label l.event ∷ label l.label ∷ key (action_word l.action)
    ∷ flag l.capture (codes "capture") (flag l.once (codes "once") (flag l.passive (codes "passive") []))

-- the related node, if any
abbrev pub related_parts : Owner → Option NodeWord → List LinePart
related_parts o None = []
related_parts o (Some n) = key (codes "related") ∷ node o n ∷ []

-- the words of `dispatch` behind the node
abbrev pub event_parts : Owner → EventWords → Option NodeWord → List LinePart
event_parts o e related = label e.event
    ∷ flag e.bubbles (codes "bubbles") (flag e.cancelable (codes "cancelable") (flag e.composed (codes "composed") (related_parts o related)))

-- the words of `observe` behind the node
abbrev pub observe_parts : ObserveWords → List LinePart
observe_parts w = flag w.child_list (codes "childList")
    (flag w.attributes (codes "attributes") (flag w.character_data (codes "characterData") (flag w.subtree (codes "subtree")
    (flag w.attribute_old_value (codes "attributeOldValue")
    (flag w.character_data_old_value (codes "characterDataOldValue") (perhaps IsAttributeFilter w.filter))))))
