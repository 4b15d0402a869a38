-- What is read behind a keyword: the forms of commands with words of their own, from `new` to `unlisten`.
use Rattle.dom_base.proofs.Std.{eqb-false, eqb, ◌≡◌, ℕ, Bool, List, [], ◌∷◌, ◌++◌, Some, refl, subst, ◌≢◌, true, false, get_or, Option, None, sym, ap, ◌∙◌}
use Rattle.dom_base.proofs.Std.{codes, bytes_eq}
use Rattle.dom_base.specs.declared.Kind.TheVariants as kinds
use Rattle.dom_text.specs.Commands as keyword
use Rattle.dom_model.proofs.Model.{Owner, Page, Component, Kind, Move, Word, DomString, NodeWord, Filter, Command, new_element, new_text, new_comment}
use Rattle.dom_model.proofs.Model.{new_fragment, assigned, listen, unlisten, dispatch, observe}
use Rattle.dom_text.specs.Definitions.{Keyword, keyword_word, parts, kind_word, new_kinds, IsWord, IsShow, IsNameFilter, IsAttributeFilter, MayUse, Spells}
use Rattle.dom_text.specs.Definitions.{LinePart, key, node, flag, perhaps, related_parts, next_as, named, show_of, name_filter_of, attribute_filter_of, flag_at}
use Rattle.dom_text.specs.Definitions.{last_as, new_of, new_at, assigned_at, related_at}
use Rattle.dom_text.proofs.WordLaws.{bind_then, at_end_some}
use Rattle.dom_text.proofs.PartLaws.{ReadsPart, next_word_reads, next_as_reads, LineReader, part_then, one_part, next_string_reads}
use Rattle.dom_text.proofs.NameLaws.{word_by_test, named_sound, show_says, name_filter_says, attribute_filter_says}
use Rattle.dom_text.proofs.CommandParts.{avoids_nothing, flag_sound, flag_complete, last_sound, last_complete, node_reads, number_reads, range_reads}
use Rattle.dom_text.proofs.CommandParts.{iterator_reads, walker_reads, observer_reads, label_reads, action_reads, move_reads, end_reads, Avoids, avoids_word}
use Rattle.dom_text.proofs.CommandParts.{avoids_key, flag_then, no_flags, last_then}

-- ---- a command behind its keyword

-- the bytes say the command behind the keyword
abbrev pub IsBehind : Keyword → Owner → List ℕ → Command → Type 0
IsBehind k o bytes c = MayUse c o × Spells (parts o c) (32 ∷ keyword_word k ++ bytes)

-- the keyword and the parts behind it
abbrev pub Keyed : Keyword → List LinePart → List ℕ → Type 0
Keyed k others bytes = Spells (key (keyword_word k) ∷ others) (32 ∷ keyword_word k ++ bytes)

-- what a reader of lines reads behind the keyword is the command, where the keyword and the values' parts spell it
pub read_behind : {c : Command} (reader : LineReader Command) (k : Keyword) (o : Owner) (bytes : List ℕ) →
    ((x : reader.Values) → Keyed k (reader.parts x) bytes → IsBehind k o bytes (reader.makes x)) → reader.reads bytes ≡ Some c → IsBehind k o bytes c
read_behind {c} reader k o bytes is e =
    let s = reader.sound bytes c e in
    subst (IsBehind k o bytes) s.1 (is s.0 (keyword_word k, bytes, refl, s.2, refl))

-- ---- the forms with nodes and other parts in a fixed number

-- a node
abbrev pub a_node : Owner → (NodeWord → Command) → LineReader Command
a_node o makes = one_part (node_reads o) makes

-- two nodes
abbrev pub two_nodes : Owner → (NodeWord → NodeWord → Command) → LineReader Command
two_nodes o makes = part_then (node_reads o) λ a. a_node o (makes a)

-- three nodes
abbrev pub three_nodes : Owner → (NodeWord → NodeWord → NodeWord → Command) → LineReader Command
three_nodes o makes = part_then (node_reads o) λ a. two_nodes o (makes a)

-- a node and a word
abbrev pub node_and_word : Owner → (NodeWord → Word → Command) → LineReader Command
node_and_word o makes = part_then (node_reads o) λ a. one_part next_word_reads (makes a)

-- a node and a string
abbrev pub node_and_string : Owner → (NodeWord → DomString → Command) → LineReader Command
node_and_string o makes = part_then (node_reads o) λ a. one_part next_string_reads (makes a)

-- a node, a word and a string
abbrev pub node_word_string : Owner → (NodeWord → Word → DomString → Command) → LineReader Command
node_word_string o makes = part_then (node_reads o) λ a. part_then next_word_reads λ b. one_part next_string_reads (makes a b)

-- a node and a number
abbrev pub node_and_number : Owner → (NodeWord → ℕ → Command) → LineReader Command
node_and_number o makes = part_then (node_reads o) λ a. one_part number_reads (makes a)

-- a node, two numbers and a string
abbrev pub node_numbers_string : Owner → (NodeWord → ℕ → ℕ → DomString → Command) → LineReader Command
node_numbers_string o makes = part_then (node_reads o) λ a. part_then number_reads λ b. part_then number_reads λ d. one_part next_string_reads (makes a b d)

-- a range
abbrev pub a_range : (ℕ → Command) → LineReader Command
a_range makes = one_part range_reads makes

-- a range, a node and an offset
abbrev pub range_and_place : Owner → (ℕ → NodeWord → ℕ → Command) → LineReader Command
range_and_place o makes = part_then range_reads λ a. node_and_number o (makes a)

-- a range and one of its ends
abbrev pub range_and_end : (ℕ → Bool → Command) → LineReader Command
range_and_end makes = part_then range_reads λ a. one_part end_reads (makes a)

-- a range and a node
abbrev pub range_and_node : Owner → (ℕ → NodeWord → Command) → LineReader Command
range_and_node o makes = part_then range_reads λ a. a_node o (makes a)

-- an iterator
abbrev pub an_iterator : (ℕ → Command) → LineReader Command
an_iterator makes = one_part iterator_reads makes

-- a walker
abbrev pub a_walker : (ℕ → Command) → LineReader Command
a_walker makes = one_part walker_reads makes

-- a walker and a move
abbrev pub walker_and_move : (ℕ → Move → Command) → LineReader Command
walker_and_move makes = part_then walker_reads λ a. one_part move_reads (makes a)

-- a walker and a node
abbrev pub walker_and_node : Owner → (ℕ → NodeWord → Command) → LineReader Command
walker_and_node o makes = part_then walker_reads λ a. a_node o (makes a)

-- an observer
abbrev pub an_observer : (ℕ → Command) → LineReader Command
an_observer makes = one_part observer_reads makes

-- a label
abbrev pub a_label : (Word → Command) → LineReader Command
a_label makes = one_part label_reads makes

-- ---- the forms with words of their own

pub kind_is_word : (k : Kind) → IsWord (kind_word k)
kind_is_word kinds.Document = word_by_test (codes "document") refl refl
kind_is_word k = word_by_test (kind_word k) refl refl

-- the word of a kind that `new` makes
unfoldable pub new_kind : Kind → LinePart
new_kind k text = (text ≡ kind_word k) × (named kind_word new_kinds text ≡ Some k)

pub kind_reads : ReadsPart (next_as (named kind_word new_kinds)) new_kind
unfolding new_kind
kind_reads = next_as_reads (record {
  sound = λ w k e. (named_sound kind_word new_kinds w k e, e);
  complete = λ w k p. p.1;
  is_word = λ w k p. rw (p.0) (kind_is_word k);
})

pub new_of_sound : {bytes first : List ℕ} {c : Command} (k : Kind) (o : Owner) (rest : List ℕ) → first ≡ kind_word k → bytes ≡ 32 ∷ first ++ rest →
    new_of k rest ≡ Some c → IsBehind keyword.New o bytes c
new_of_sound {bytes} {first} {c} kinds.Element o rest f b e =
    let s = (one_part next_word_reads new_element).sound rest c e in
    subst (IsBehind keyword.New o bytes) s.1 (tt, (codes "new", bytes, refl, (first, rest, f, s.2, b), refl))
new_of_sound {bytes} {first} {c} kinds.Text o rest f b e =
    let s = (one_part next_string_reads new_text).sound rest c e in
    subst (IsBehind keyword.New o bytes) s.1 (tt, (codes "new", bytes, refl, (first, rest, f, s.2, b), refl))
new_of_sound {bytes} {first} {c} kinds.Comment o rest f b e =
    let s = (one_part next_string_reads new_comment).sound rest c e in
    subst (IsBehind keyword.New o bytes) s.1 (tt, (codes "new", bytes, refl, (first, rest, f, s.2, b), refl))
new_of_sound {bytes} {first} {c} kinds.Fragment o rest f b e =
    let s = at_end_some new_fragment c rest e in
    subst (IsBehind keyword.New o bytes) s.0 (tt, (codes "new", bytes, refl, (first, rest, f, s.1, b), refl))
new_of_sound kinds.Document o rest f b e = absurd cc
new_of_sound kinds.Shadow o rest f b e = absurd cc

pub new_behind : (o : Owner) (bytes : List ℕ) (c : Command) → new_at bytes ≡ Some c → IsBehind keyword.New o bytes c
unfolding new_kind
new_behind o bytes c e =
    bind_then (next_as (named kind_word new_kinds) bytes) (λ kind. new_of kind.0 kind.1) c e λ kind h k.
    let read = kind_reads.sound bytes kind.0 kind.1 h in
    new_of_sound kind.0 o kind.1 read.1.0 read.2 k

pub assigned_behind : (o : Owner) (bytes : List ℕ) (c : Command) → assigned_at o bytes ≡ Some c → IsBehind keyword.Assigned o bytes c
assigned_behind Page bytes c e = absurd cc
assigned_behind (Component q) bytes c e = read_behind (a_node (Component q) assigned) keyword.Assigned (Component q) bytes (λ x s. (tt, s)) e

pub show_reads : ReadsPart (next_as show_of) IsShow
show_reads = next_as_reads show_says

pub name_filter_reads : ReadsPart (next_as name_filter_of) IsNameFilter
name_filter_reads = next_as_reads name_filter_says

pub attribute_filter_reads : ReadsPart (next_as attribute_filter_of) IsAttributeFilter
attribute_filter_reads = next_as_reads attribute_filter_says

-- ---- the forms with words that may be left out

-- a node, which nodes are shown, and a filter
abbrev pub cursor : Owner → (NodeWord → Filter → Command) → LineReader Command
cursor o makes = part_then (node_reads o) λ root. part_then show_reads λ shown. last_then (last_as name_filter_of) (perhaps IsNameFilter)
    (last_sound name_filter_of name_filter_reads) (last_complete name_filter_of name_filter_reads) (λ f. makes root (record { shown = shown; named = f }))

-- a node, the words of a listener, and its flags
abbrev pub a_listener : Owner → LineReader Command
a_listener o = part_then (node_reads o) λ n. part_then label_reads λ event. part_then label_reads λ l. part_then action_reads λ a.
    (flag_then (codes "capture") (word_by_test (codes "capture") refl refl) (λ capture.
    flag_then (codes "once") (word_by_test (codes "once") refl refl) (λ once.
    flag_then (codes "passive") (word_by_test (codes "passive") refl refl) (λ passive.
    no_flags (listen n (record { event = event; label = l; action = a; capture = capture; once = once; passive = passive }))) refl) refl) refl).reader

-- a node, and which listener it loses
abbrev pub no_listener : Owner → LineReader Command
no_listener o = part_then (node_reads o) λ n. part_then label_reads λ event. part_then label_reads λ l.
    (flag_then (codes "capture") (word_by_test (codes "capture") refl refl) (λ capture. no_flags (unlisten n event l capture)) refl).reader

pub related_sound : (o : Owner) (bytes : List ℕ) (r : Option NodeWord) →
    related_at o (flag_at (codes "related") bytes).0 (flag_at (codes "related") bytes).1 ≡ Some r → Spells (related_parts o r) bytes
related_sound o bytes r e = go (flag_at (codes "related") bytes) e (λ behind s. flag_sound (codes "related") bytes behind s)
  where
    go : (f : Bool × List ℕ) → related_at o f.0 f.1 ≡ Some r →
        ((behind : List LinePart) → Spells behind f.1 → Spells (flag f.0 (codes "related") behind) bytes) → Spells (related_parts o r) bytes
    go (true, rest) k sound =
        let s = (one_part (node_reads o) Some).sound rest r k in
        subst (λ (x : Option NodeWord). Spells (related_parts o x) bytes) s.1 (sound (node o s.0.0 ∷ []) s.2)
    go (false, rest) k sound =
        let end = at_end_some None r rest k in
        subst (λ (x : Option NodeWord). Spells (related_parts o x) bytes) end.0 (sound [] end.1)

pub related_complete : (o : Owner) (r : Option NodeWord) (bytes : List ℕ) → Spells (related_parts o r) bytes →
    related_at o (flag_at (codes "related") bytes).0 (flag_at (codes "related") bytes).1 ≡ Some r
related_complete o None bytes s =
    let f = flag_complete false [] bytes (word_by_test (codes "related") refl refl) (λ q. avoids_nothing (codes "related")) s in
    rw (f.1, f.2) refl
related_complete o (Some n) bytes s =
    let f = flag_complete true (node o n ∷ []) bytes (word_by_test (codes "related") refl refl)
    (λ q. absurd cc) s in
    rw (f.1) ((one_part (node_reads o) Some).complete f.0 (n, tt) f.2)

pub avoids_related : (name : List ℕ) (o : Owner) (r : Option NodeWord) → bytes_eq (codes "related") name ≡ false → Avoids name (related_parts o r)
avoids_related name o None differs = avoids_nothing name
avoids_related name o (Some n) differs = avoids_key name (codes "related") (node o n ∷ []) (word_by_test (codes "related") refl refl) differs

-- the first part, if there is one, begins as an attribute filter does
pub avoids_attribute_filter : (name : List ℕ) (f : Option (List Word)) → get_or name 0 0 ≢ 102 → Avoids name (perhaps IsAttributeFilter f)
avoids_attribute_filter name None differs = avoids_nothing name
avoids_attribute_filter name (Some names) differs = avoids_word name (IsAttributeFilter names) [] λ text h.
    (attribute_filter_says.is_word text names h, λ e. differs (ap (λ (x : List ℕ). get_or x 0 0) (sym e ∙ h.2)))

-- a node, the words of an event, its flags, and the related node
abbrev pub an_event : Owner → LineReader Command
an_event o = part_then (node_reads o) λ n. part_then label_reads λ event.
    (flag_then (codes "bubbles") (word_by_test (codes "bubbles") refl refl) (λ bubbles.
    flag_then (codes "cancelable") (word_by_test (codes "cancelable") refl refl) (λ cancelable.
    flag_then (codes "composed") (word_by_test (codes "composed") refl refl) (λ composed. record {
      reader = last_then (λ bytes. related_at o (flag_at (codes "related") bytes).0 (flag_at (codes "related") bytes).1) (related_parts o)
          (related_sound o) (λ bytes r s. related_complete o r bytes s)
          (dispatch n (record { event = event; bubbles = bubbles; cancelable = cancelable; composed = composed }));
      begins = λ name. bytes_eq (codes "related") name;
      avoids = λ name h r. avoids_related name o r h;
    }) refl) refl) refl).reader

-- an observer, a node, and what is observed
abbrev pub observed_node : Owner → LineReader Command
observed_node o = part_then observer_reads λ k. part_then (node_reads o) λ n.
    (flag_then (codes "childList") (word_by_test (codes "childList") refl refl) (λ child_list.
    flag_then (codes "attributes") (word_by_test (codes "attributes") refl refl) (λ attributes.
    flag_then (codes "characterData") (word_by_test (codes "characterData") refl refl) (λ character_data.
    flag_then (codes "subtree") (word_by_test (codes "subtree") refl refl) (λ subtree.
    flag_then (codes "attributeOldValue") (word_by_test (codes "attributeOldValue") refl refl) (λ attribute_old_value.
    flag_then (codes "characterDataOldValue") (word_by_test (codes "characterDataOldValue") refl refl) (λ character_data_old_value. record {
      reader = last_then (last_as attribute_filter_of) (perhaps IsAttributeFilter) (last_sound attribute_filter_of attribute_filter_reads)
          (last_complete attribute_filter_of attribute_filter_reads) (λ f. observe k n (record {
            child_list = child_list;
            attributes = attributes;
            character_data = character_data;
            subtree = subtree;
            attribute_old_value = attribute_old_value;
            character_data_old_value = character_data_old_value;
            filter = f;
          }));
      begins = λ name. eqb (get_or name 0 0) 102;
      avoids = λ name h f. avoids_attribute_filter name f (eqb-false (get_or name 0 0) 102 h);
    }) refl) refl) refl) refl) refl) refl).reader
