-- A node's attributes: their names, and the value under one.
use Rattle.std.specs.Prelude.{◌≡◌, ℕ, false, List, [], ◌∷◌, map, Option, Some, None, find, String, Vec}
use Rattle.std.specs.BTreeMap.{BTreeMap, get_by_text}
use Rattle.std.specs.Option.{option_map}
use Rattle.std.specs.List.{AllByRecursion, position}
use Rattle.std.specs.Str.{bytes_eq}
use Rattle.std.specs.String.{string_bytes}
use Rattle.std.specs.Rc.{rc_str_bytes}
use Rattle.std.specs.declared.alloc.Global.{Global}
use Rattle.std.specs.declared.boxed.Box.{Box}
use Rattle.std.specs.declared.rc.RcStr.{RcStr}
use Rattle.dom_model.specs.Names.{Word, DomString, text_eq}
use Rattle.dom_model.specs.Tree.{Attribute}

-- no attribute has the name of one in front of it (DOM Standard, concept: attribute list)
abbrev pub HaveOwnNames : List Attribute → Type 0
HaveOwnNames [] = Unit {0}
HaveOwnNames (b ∷ others) = AllByRecursion (λ c. text_eq c.name b.name ≡ false) others × HaveOwnNames others

-- the value of the attribute of this name (DOM Standard, concept: get an attribute by name)
abbrev pub value_among : Word → List Attribute → Option DomString
value_among a bs = option_map (λ b. b.value) (find (λ b. text_eq a b.name) bs)

-- attributes from the code's names, which many share, and values
abbrev pub attributes_under : List (RcStr Global × Vec ℕ Global) → List Attribute
attributes_under es = map (λ e. record { name = rc_str_bytes e.0; value = e.1.items }) es

-- an attribute from its name and its value
abbrev pub attribute_from : List ℕ → List ℕ → Attribute
attribute_from a v = record { name = a; value = v }

-- attributes from the entries of the code's map
abbrev pub attributes_from : List (String Global × Vec ℕ Global) → List Attribute
attributes_from es = map (λ e. attribute_from (string_bytes e.0) e.1.items) es

-- an index says of each name at which place the attribute of this name stands
abbrev pub IsIndexOf : BTreeMap (String Global) ℕ → List (RcStr Global × Vec ℕ Global) → Type 0
IsIndexOf m es = (t : Word) → get_by_text m t ≡ position (λ e. bytes_eq t (rc_str_bytes e.0)) es

-- so does one that is there
abbrev pub MayIndex : Option (Box (BTreeMap (String Global) ℕ) Global) → List (RcStr Global × Vec ℕ Global) → Type 0
MayIndex None es = Unit {0}
MayIndex (Some index) es = IsIndexOf index.value es

-- no two of some attributes have one name, and their index says where they stand
pub record AreIndexed (es : List (RcStr Global × Vec ℕ Global)) (index : Option (Box (BTreeMap (String Global) ℕ) Global)) : Type 0 where
  pub own : HaveOwnNames (attributes_under es)
  pub found : MayIndex index es
