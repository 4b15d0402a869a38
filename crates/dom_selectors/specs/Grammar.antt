-- The grammar of selectors, as a relation between texts and selectors (CSS Selectors Level 4, 4 and 18, in this project's part).
-- Unmarked: CSS Selectors Level 4.
use Rattle.std.specs.Prelude.{◌≡◌, ℕ, true, false, List, [], ◌∷◌, ◌++◌, map, fold, codes}
use Rattle.std.specs.List.{list_all}
use Rattle.dom_model.specs.Names.{Word, DomString, is_name, is_empty}
use Rattle.dom_model.specs.Selectors.{is_space, AttributeTest, Simple, CompoundPart, Combinator, Complex}
use Rattle.dom_model.specs.Selectors.{equals, has_word, begins_with_dash, begins, ends, holds, of_type, of_any_type, of_id, of_class, with_attribute}
use Rattle.dom_model.specs.Selectors.{with_value, first_child, last_child, simple, is_not, descendant, child, next, later, alone}
use Rattle.dom_model.specs.SelectorText.{may_stand_quoted, link}

-- a form: the texts of each value
abbrev pub Form : Type 0 → Type 1
Form A = DomString → A → Type 0

-- white space, or nothing
abbrev pub IsSpaces : DomString → Type 0
IsSpaces text = list_all is_space text ≡ true

-- NAME
abbrev pub IsName : Form Word
IsName text name = (text ≡ name) × (is_name name ≡ true)

-- a value between two of this quote, without it, a backslash and ends of lines
abbrev pub IsQuoted : ℕ → Form DomString
IsQuoted quote text value = (text ≡ quote ∷ value ++ quote ∷ []) × (list_all (may_stand_quoted quote) value ≡ true)

-- VALUE: a NAME, or quoted by `"` (34) or `'` (39)
pub data IsValue (text value : DomString) : Type 0 where
  plain : IsName text value → IsValue text value
  double : IsQuoted 34 text value → IsValue text value
  single : IsQuoted 39 text value → IsValue text value

-- op
abbrev pub sign : AttributeTest → DomString
sign equals = codes "="
sign has_word = codes "~="
sign begins_with_dash = codes "|="
sign begins = codes "^="
sign ends = codes "$="
sign holds = codes "*="

-- `[NAME]`, with white space anywhere in it
pub record IsBracketed (text : DomString) (name : Word) : Type 0 where
  pub before : DomString
  pub after : DomString
  pub spaces_before : IsSpaces before
  pub spaces_after : IsSpaces after
  pub named : is_name name ≡ true
  pub whole : text ≡ codes "[" ++ (before ++ (name ++ (after ++ codes "]")))

-- `[NAME op VALUE]`, with white space anywhere around its three parts
pub record IsTested (text : DomString) (name : Word) (test : AttributeTest) (value : DomString) : Type 0 where
  pub before : DomString
  pub between : DomString
  pub behind : DomString
  pub after : DomString
  pub said : DomString
  pub spaces_before : IsSpaces before
  pub spaces_between : IsSpaces between
  pub spaces_behind : IsSpaces behind
  pub spaces_after : IsSpaces after
  pub named : is_name name ≡ true
  pub valued : IsValue said value
  pub whole : text ≡ codes "[" ++ (before ++ (name ++ (between ++ (sign test ++ (behind ++ (said ++ (after ++ codes "]")))))))

-- `#NAME`, `.NAME`, `[..]`, `:first-child`, `:last-child`
abbrev pub IsSimple : Form Simple
IsSimple text (of_type name) = ⊥
IsSimple text of_any_type = ⊥
IsSimple text (of_id name) = (text ≡ codes "#" ++ name) × (is_name name ≡ true)
IsSimple text (of_class name) = (text ≡ codes "." ++ name) × (is_name name ≡ true)
IsSimple text (with_attribute name) = IsBracketed text name
IsSimple text (with_value name test value) = IsTested text name test value
IsSimple text first_child = text ≡ codes ":first-child"
IsSimple text last_child = text ≡ codes ":last-child"

-- NAME or `*`, or nothing
abbrev pub IsType : Form (List Simple)
IsType text [] = text ≡ []
IsType text (of_type name ∷ []) = IsName text name
IsType text (of_any_type ∷ []) = text ≡ codes "*"
IsType text _ = ⊥

-- one after another
abbrev pub AreEach : {A : Type 0} → Form A → Form (List A)
AreEach form text [] = text ≡ []
AreEach form text (x ∷ xs) = (first rest : DomString) × form first x × AreEach form rest xs × (text ≡ first ++ rest)

-- NAME or `*`, and then parts; at least one of all
pub record IsCompoundOf {A : Type 0} (part : Simple → A) (form : Form A) (text : DomString) (all : List A) : Type 0 where
  pub front : DomString
  pub back : DomString
  pub types : List Simple
  pub parts : List A
  pub typed : IsType front types
  pub each : AreEach form back parts
  pub joined : all ≡ map part types ++ parts
  pub some : is_empty all ≡ false
  pub whole : text ≡ front ++ back

-- `:not(C)` with C a compound without `:not`, and white space around C
pub record IsNegation (text : DomString) (simples : List Simple) : Type 0 where
  pub before : DomString
  pub inner : DomString
  pub after : DomString
  pub spaces_before : IsSpaces before
  pub spaces_after : IsSpaces after
  pub negated : IsCompoundOf (λ s. s) IsSimple inner simples
  pub whole : text ≡ codes ":not(" ++ (before ++ (inner ++ (after ++ codes ")")))

-- a part of a compound
abbrev pub IsPart : Form CompoundPart
IsPart text (simple s) = IsSimple text s
IsPart text (is_not ss) = IsNegation text ss

-- a compound
abbrev pub IsCompound : Form (List CompoundPart)
IsCompound = IsCompoundOf simple IsPart

-- this sign, with white space around it
pub record IsSpaced (text said : DomString) : Type 0 where
  pub before : DomString
  pub after : DomString
  pub spaces_before : IsSpaces before
  pub spaces_after : IsSpaces after
  pub whole : text ≡ before ++ (said ++ after)

-- white space, or `>`, `+` or `~` with white space around it
abbrev pub IsCombinator : Form Combinator
IsCombinator text descendant = IsSpaces text × (is_empty text ≡ false)
IsCombinator text child = IsSpaced text (codes ">")
IsCombinator text next = IsSpaced text (codes "+")
IsCombinator text later = IsSpaced text (codes "~")

-- a combinator and a compound
pub record IsLink (text : DomString) (l : Combinator × List CompoundPart) : Type 0 where
  pub front : DomString
  pub back : DomString
  pub combines : IsCombinator front l.0
  pub compound : IsCompound back l.1
  pub whole : text ≡ front ++ back

-- a compound, and then combinators with compounds
pub record IsComplex (text : DomString) (x : Complex) : Type 0 where
  pub front : DomString
  pub back : DomString
  pub first : List CompoundPart
  pub links : List (Combinator × List CompoundPart)
  pub compound : IsCompound front first
  pub linked : AreEach IsLink back links
  pub joined : x ≡ fold link (alone first) links
  pub whole : text ≡ front ++ back

-- a complex selector with white space around it
pub record IsItem (text : DomString) (x : Complex) : Type 0 where
  pub before : DomString
  pub inner : DomString
  pub after : DomString
  pub spaces_before : IsSpaces before
  pub spaces_after : IsSpaces after
  pub complex : IsComplex inner x
  pub whole : text ≡ before ++ (inner ++ after)

-- one complex selector or more, with `,` (44) between them
abbrev pub IsSelector : Form (List Complex)
IsSelector text [] = ⊥
IsSelector text (x ∷ []) = IsItem text x
IsSelector text (x ∷ y ∷ ys) = (front rest : DomString) × IsItem front x × IsSelector rest (y ∷ ys) × (text ≡ front ++ 44 ∷ rest)
