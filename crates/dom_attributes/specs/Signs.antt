-- Signs: a few bits for the local name, the attributes, the classes and the ID of a node. What a node has, its signs have; they may have more.
use Rattle.std.specs.Prelude.{◌≡◌, ◌*◌, ◌+◌, ◌/◌, ◌%◌, ◌^◌, ℕ, true, List, [], codes, fold, bit_or, Some}
use Rattle.std.specs.Int.{bit_at}
use Rattle.std.specs.List.{list_any}
use Rattle.dom_model.specs.Names.{Word, DomString, text_eq}
use Rattle.dom_model.specs.Selectors.{words_from}
use Rattle.dom_model.specs.Tree.{Attribute}
use Rattle.dom_attributes.specs.Attributes.{value_among}
use Rattle.dom_attributes.specs.declared.signs.Signs.{Signs}

-- a number for a list, from that of what stands before its last item
unfoldable pub mix : ℕ → ℕ → ℕ
mix number item = (number * 11400714819323198485 % 2 ^ 64 + item) % 2 ^ 64

-- one or two bits for a number
unfoldable pub bits_of : ℕ → ℕ
bits_of number = let mixed = number * 11400714819323198485 % 2 ^ 64 in bit_or (2 ^ (mixed / 2 ^ 59)) (2 ^ (mixed / 2 ^ 54 % 32))

-- the bits of a local name
abbrev pub element_bits : Word → ℕ
element_bits name = bits_of (fold mix 1 name)

-- the bits of the name of an attribute
abbrev pub attribute_bits : Word → ℕ
attribute_bits name = bits_of (fold mix 2 name)

-- the bits of a class
abbrev pub class_bits : DomString → ℕ
class_bits class = bits_of (fold mix 3 class)

-- the bits of an ID
abbrev pub id_bits : DomString → ℕ
id_bits id = bits_of (fold mix 4 id)

-- all bits of the second are among those of the first
abbrev pub HasBits : ℕ → ℕ → Type 0
HasBits bits those = (i : ℕ) → bit_at those i ≡ 1 → bit_at bits i ≡ 1

-- signs have the bits of a local name and of some attributes, and of the classes and the ID that these give
pub record Cover (s : Signs) (element : Word) (attributes : List Attribute) : Type 0 where
  pub named : HasBits s.bits (element_bits element)
  pub attributed : (a : Word) (v : DomString) → value_among a attributes ≡ Some v → HasBits s.bits (attribute_bits a)
  pub classed : (v w : DomString) → value_among (codes "class") attributes ≡ Some v → list_any (text_eq w) (words_from [] v) ≡ true →
      HasBits s.bits (class_bits w)
  pub identified : (v : DomString) → value_among (codes "id") attributes ≡ Some v → HasBits s.bits (id_bits v)

-- signs keep what they have, and have that of an attribute too
pub record Gains (old new : ℕ) (name : Word) (value : DomString) : Type 0 where
  pub kept : HasBits new old
  pub attributed : HasBits new (attribute_bits name)
  pub classed : text_eq name (codes "class") ≡ true → (w : DomString) → list_any (text_eq w) (words_from [] value) ≡ true → HasBits new (class_bits w)
  pub identified : text_eq name (codes "id") ≡ true → HasBits new (id_bits value)

-- all signs that cover a local name and some attributes have these bits
abbrev pub MustHave : Word → List Attribute → ℕ → Type 0
MustHave element attributes bits = (s : Signs) → Cover s element attributes → HasBits s.bits bits
