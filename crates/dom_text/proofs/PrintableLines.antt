-- Each byte of a line that says a command is one of text: 0x20 to 0x7E.
use Rattle.dom_base.proofs.Std.{◌≡◌, ℕ, Bool, true, false, List, [], ◌∷◌, Option, Some, None, arith, refl, codes, AllByRecursion, list_all, IsInRange}
use Rattle.dom_base.proofs.Std.{is_in_range, is_ascii_hexdigit, nat_tests}
use Rattle.dom_model.proofs.Model.{Owner, Move, Word, NodeWord, Filter, ListenerWords, EventWords, ObserveWords, Command, new_element, iterator_new, walker_new}
use Rattle.dom_model.proofs.Model.{listen, unlisten, dispatch, observe}
use Rattle.dom_text.specs.Definitions.{end_word, move_word, action_word, IsWord, IsNumbered, IsItem, itself, quote, backslash, by_digits, AreItems, LinePart}
use Rattle.dom_text.specs.Definitions.{key, word, string, flag, perhaps, filter_parts, listener_parts, related_parts, event_parts, observe_parts, Spells}
use Rattle.dom_text.specs.Definitions.{IsLine, parts}
use Rattle.dom_text.proofs.WordLaws.{in_range_is, each_from, list_all_each}
use Rattle.dom_text.proofs.NumberLaws.{each-append, number_says, numbered_says}
use Rattle.dom_text.proofs.NodeLaws.{node_says, owner_is_word}
use Rattle.dom_text.proofs.NameLaws.{label_says, show_says, name_filter_says, attribute_filter_says}
use Rattle.dom_text.proofs.CommandParts.{end_is_word, move_is_word, action_is_word}
use Rattle.dom_text.proofs.PartLaws.{SaysPart}

-- the bytes are those of text
abbrev pub IsPrintable : List ℕ → Type 0
IsPrintable bytes = AllByRecursion (IsInRange 0x20 0x7E) bytes

-- the texts that may stand for the part are text
abbrev PrintablePart : LinePart → Type 0
PrintablePart part = (text : List ℕ) → part text → IsPrintable text

-- so are those of each of the parts
abbrev PrintableParts : List LinePart → Type 0
PrintableParts [] = Unit {0}
PrintableParts (part ∷ others) = PrintablePart part × PrintableParts others

word_printable : (text : List ℕ) → IsWord text → IsPrintable text
word_printable [] h = tt
word_printable (b ∷ bytes) h = each_from (λ c p. (omega (arith, p), omega (arith, p))) (b ∷ bytes) h.1

printable_key : (name : List ℕ) → list_all (is_in_range 0x20 0x7E) name ≡ true → PrintablePart (key name)
printable_key name h text e = rw e (each_from (λ b p. in_range_is 0x20 0x7E b p) name (list_all_each (is_in_range 0x20 0x7E) name h))

printable_word : (name : Word) → PrintablePart (word name)
printable_word name text h = rw (h.0) (word_printable name h.1)

-- a part that words say
printable_said : {A : Type 0} {read : List ℕ → Option A} {part : A → LinePart} → SaysPart read part → (x : A) → PrintablePart (part x)
printable_said s x text h = word_printable text (s.is_word text x h)

-- a word of a table
printable_named : (name : List ℕ) → IsWord name → PrintablePart (key name)
printable_named name w text e = rw e (word_printable name w)

-- a part that may be left out
printable_perhaps : {A : Type 0} {part : A → LinePart} → ((x : A) → PrintablePart (part x)) → (o : Option A) → PrintableParts (perhaps part o)
printable_perhaps each None = tt
printable_perhaps each (Some x) = (each x, tt)

hex_printable : (b : ℕ) → is_ascii_hexdigit b ≡ true → IsInRange 0x20 0x7E b
hex_printable b h = grind (arith, nat_tests)

item_printable : (item : List ℕ) (unit : ℕ) → IsItem item unit → IsPrintable item
item_printable item unit (itself e h) = rw e (h.0, tt)
item_printable item unit (quote e h) = rw e ((omega arith, omega arith), ((omega arith, omega arith), tt))
item_printable item unit (backslash e h) = rw e ((omega arith, omega arith), ((omega arith, omega arith), tt))
item_printable item unit (by_digits a b c d e ha hb hc hd h) =
    rw e ((omega arith, omega arith), ((omega arith, omega arith), (hex_printable a ha, (hex_printable b hb, (hex_printable c hc, (hex_printable d hd, tt))))))

items_printable : (units items : List ℕ) → AreItems items units → IsPrintable items
items_printable [] items h = rw h tt
items_printable (unit ∷ units) items h = rw (h.4) (each-append (IsInRange 0x20 0x7E) h.0 h.1 (item_printable h.0 unit h.2) (items_printable units h.1 h.3))

printable_string : (units : List ℕ) → PrintablePart (string units)
printable_string units text h =
    let quoted : IsPrintable (34 ∷ []) = ((omega arith, omega arith), tt) in
    rw (h.2) ((omega arith, omega arith), each-append (IsInRange 0x20 0x7E) h.0 (34 ∷ []) (items_printable units h.0 h.1) quoted)

printable_flag : (b : Bool) (name : List ℕ) (others : List LinePart) → list_all (is_in_range 0x20 0x7E) name ≡ true → PrintableParts others →
    PrintableParts (flag b name others)
printable_flag true name others h rest = (printable_key name h, rest)
printable_flag false name others h rest = rest

printable_filter : (f : Filter) → PrintableParts (filter_parts f)
printable_filter f = (printable_said show_says f.shown, printable_perhaps (printable_said name_filter_says) f.named)

printable_listener : (l : ListenerWords) → PrintableParts (listener_parts l)
printable_listener l = (
  printable_said label_says l.event,
  (
    printable_said label_says l.label,
    (
      printable_named (action_word l.action) (action_is_word l.action),
      printable_flag l.capture (codes "capture") _ refl (printable_flag l.once (codes "once") _ refl (printable_flag l.passive (codes "passive") [] refl tt)),
    ),
  ),
)

printable_related : (o : Owner) (r : Option NodeWord) → PrintableParts (related_parts o r)
printable_related o None = tt
printable_related o (Some n) = (printable_key (codes "related") refl, (printable_said (node_says o) n, tt))

printable_event : (o : Owner) (e : EventWords) (r : Option NodeWord) → PrintableParts (event_parts o e r)
printable_event o e r = (
  printable_said label_says e.event,
  printable_flag e.bubbles (codes "bubbles") _ refl (printable_flag e.cancelable (codes "cancelable") _ refl
      (printable_flag e.composed (codes "composed") _ refl (printable_related o r))),
)

printable_observe : (w : ObserveWords) → PrintableParts (observe_parts w)
printable_observe w = printable_flag w.child_list (codes "childList") _ refl
    (printable_flag w.attributes (codes "attributes") _ refl (printable_flag w.character_data (codes "characterData") _ refl
    (printable_flag w.subtree (codes "subtree") _ refl (printable_flag w.attribute_old_value (codes "attributeOldValue") _ refl
    (printable_flag w.character_data_old_value (codes "characterDataOldValue") _ refl (printable_perhaps (printable_said attribute_filter_says) w.filter))))))

printable_parts : (o : Owner) (c : Command) → PrintableParts (parts o c)
printable_parts o (new_element name) = (printable_key (codes "new") refl, (printable_key (codes "element") refl, (printable_word name, tt)))
printable_parts o (iterator_new n filter) = (printable_key (codes "iter-new") refl, (printable_said (node_says o) n, printable_filter filter))
printable_parts o (walker_new n filter) = (printable_key (codes "walk-new") refl, (printable_said (node_says o) n, printable_filter filter))
printable_parts o (listen n l) = (printable_key (codes "listen") refl, (printable_said (node_says o) n, printable_listener l))
printable_parts o (unlisten n event l capture) = (
  printable_key (codes "unlisten") refl,
  (
    printable_said (node_says o) n,
    (printable_said label_says event, (printable_said label_says l, printable_flag capture (codes "capture") [] refl tt)),
  ),
)
printable_parts o (dispatch n e related) = (printable_key (codes "dispatch") refl, (printable_said (node_says o) n, printable_event o e related))
printable_parts o (observe b n w) = (
  printable_key (codes "observe") refl,
  (printable_said (numbered_says 111 (omega arith, omega arith)) b, (printable_said (node_says o) n, printable_observe w)),
)
printable_parts o c =
    let with_letter : (letter : ℕ) → IsInRange 35 126 letter → (n : ℕ) → PrintablePart (IsNumbered (letter ∷ []) n) =
    λ letter l. printable_said (numbered_says letter l) in
    search (
      printable_key,
      printable_word,
      printable_string,
      printable_said label_says,
      printable_said number_says,
      printable_said (node_says o),
      with_letter 114 (omega arith, omega arith),
      with_letter 105 (omega arith, omega arith),
      with_letter 119 (omega arith, omega arith),
      with_letter 111 (omega arith, omega arith),
      λ (b : Bool). printable_named (end_word b) (end_is_word b),
      λ (m : Move). printable_named (move_word m) (move_is_word m),
    )

spelled_printable : (those : List LinePart) (text : List ℕ) → PrintableParts those → Spells those text → IsPrintable text
spelled_printable [] text h s = rw s tt
spelled_printable (part ∷ others) text h s =
    rw (s.4) ((omega arith, omega arith), each-append (IsInRange 0x20 0x7E) s.0 s.1 (h.0 s.0 s.2) (spelled_printable others s.1 h.1 s.3))

-- A line that says a command has only bytes of text.
pub IsLine-printable : (line : List ℕ) (o : Owner) (c : Command) → IsLine line o c → IsPrintable line
IsLine-printable line o c h =
    rw (h.whole) (each-append (IsInRange 0x20 0x7E) h.name h.said (word_printable h.name (owner_is_word h.name o h.owned))
    (spelled_printable (parts o c) h.said (printable_parts o c) h.spelled))
