-- What a query remembers of one node for the next.
use Rattle.std.specs.Prelude.{◌≡◌, ℕ, Bool, true, false, List, [], ◌∷◌, Option, None, Some, MatchOption}
use Rattle.std.specs.List.{list_any}
use Rattle.std.specs.Option.{option_map, ForSome}
use Rattle.dom_base.specs.declared.NodeName.{NodeName}
use Rattle.dom_model.specs.Names.{text_eq}
use Rattle.dom_model.specs.Tree.{Trees, ancestors, node_in, parent_of}
use Rattle.dom_model.specs.Selectors as model
use Rattle.dom_laws.specs.Within.{behind, from_node}
use Rattle.node_arena.specs.Spots.{Spot, key_in}
use Rattle.dom_tree.specs.Forest.{NamedTrees, name_of}
use Rattle.dom_selectors.specs.Search.{last_compound}
use Rattle.dom_selectors.specs.Views.{combinator_view, compound_view, complex_from, complex_view}
use Rattle.dom_selectors.specs.declared.above.Above.{Above}
use Rattle.dom_selectors.specs.declared.above.Known.{Known}
use Rattle.dom_selectors.specs.declared.above.Left.{Left}
use Rattle.dom_selectors.specs.declared.asking.Asked.{Asked}
use Rattle.dom_selectors.specs.declared.asking.Asked.TheVariants.{Nothing, Name}
use Rattle.dom_selectors.specs.declared.selector.CompoundPart.{CompoundPart}
use Rattle.dom_selectors.specs.declared.selector.Complex.{Complex}

-- it is said of a node, if of any, whether it or one above it matches (own rule)
abbrev pub IsKnown : NamedTrees → model.Complex → Option Above → Type 0
IsKnown f c known = ForSome known (λ a. a.matches ≡ list_any (model.complex_matches f.trees c) (name_of f a.parent ∷ ancestors f.trees (name_of f a.parent)))

-- what is left of a combinator matches at a node that stands to x as the combinator says (own rule)
abbrev pub left_matches : Trees → model.Complex → model.Combinator → NodeName → Bool
left_matches ts left how x = list_any (model.complex_matches ts left) (model.combined_with ts how x)

-- it is said of a node, if of any, whether what is left of a combinator matches at its children (own rule)
abbrev pub IsSaidBelow : NamedTrees → model.Complex → model.Combinator → Bool → Option ℕ → Type 0
IsSaidBelow f left how matches known =
    ForSome known (λ k. (x : NodeName) → parent_of f.trees x ≡ Some (name_of f k) → left_matches f.trees left how x ≡ matches)

-- what is remembered of what is left of a combinator holds (own rule)
pub record AreKnown (f : NamedTrees) (left : model.Complex) (how : model.Combinator) (known : Known) : Type 0 where
  pub failing : IsSaidBelow f left how false known.failing
  pub matching : IsSaidBelow f left how true known.matching
  pub above : IsKnown f left known.above

-- so of the last combinator of a complex selector; where it has none, no node is one at whose children it fails (own rule)
abbrev pub IsKnownOf : NamedTrees → model.Complex → Known → Type 0
IsKnownOf f (model.alone c) known = known.failing ≡ None
IsKnownOf f (model.joined left how c) known = AreKnown f left how known

-- so of the first of these complex selectors (own rule)
abbrev pub IsKnownOfFirst : NamedTrees → List Complex → Known → Type 0
IsKnownOfFirst f [] known = Unit {0}
IsKnownOfFirst f (c ∷ cs) known = IsKnownOf f (complex_view c) known

-- what is left of the last combinator of a complex selector (own rule)
abbrev pub IsLeft : model.Complex → Left → Type 0
IsLeft c l = (c ≡ model.joined (complex_from l.first.now l.links.now) (combinator_view l.combinator) (last_compound c)) ×
    (l.last.now ≡ last_compound (complex_from l.first.now l.links.now))

-- so where it has one (own rule)
abbrev pub IsLeftOf : model.Complex → Option Left → Type 0
IsLeftOf c left = MatchOption left (c ≡ model.alone (last_compound c)) (λ l. IsLeft c l)

-- so of the first of these complex selectors; anything where there is none (own rule)
abbrev pub IsLeftOfFirst : List Complex → Option Left → Type 0
IsLeftOfFirst [] left = Unit {0}
IsLeftOfFirst (c ∷ cs) left = IsLeftOf (complex_view c) left

-- `>` or white space (own rule)
abbrev pub IsUpward : model.Combinator → Type 0
IsUpward model.descendant = Unit {0}
IsUpward model.child = Unit {0}
IsUpward model.next = ⊥
IsUpward model.later = ⊥

-- the nodes that it leaves from a child of a node (own rule)
abbrev pub from_child : Trees → model.Combinator → NodeName → List NodeName
from_child ts model.descendant p = p ∷ ancestors ts p
from_child ts model.child p = p ∷ []
from_child ts model.next p = []
from_child ts model.later p = []

-- a node is no child of one given, if one is (own rule)
abbrev pub IsNoChild : NamedTrees → Option ℕ → NodeName → Type 0
IsNoChild f parent x = ForSome parent (λ k. parent_of f.trees x ≡ Some (name_of f k) → ⊥)

-- a node has what is asked for (own rule)
abbrev pub has_asked : Trees → NodeName → Asked → Bool
has_asked ts x Nothing = true
has_asked ts x (Name name) = text_eq (node_in ts x).element name.now

-- what is asked for is a local name (own rule)
abbrev pub is_named : Asked → Bool
is_named Nothing = false
is_named (Name name) = true

-- each node that matches a compound has it (own rule)
abbrev pub CompoundAsks : List model.CompoundPart → Asked → Type 0
CompoundAsks parts asked = (ts : Trees) (x : NodeName) → model.compound_matches ts parts x ≡ true → has_asked ts x asked ≡ true

-- each node that matches a selector has it (own rule)
abbrev pub SelectorAsks : List model.Complex → Asked → Type 0
SelectorAsks complexes asked = (ts : Trees) (x : NodeName) → model.selector_matches ts complexes x ≡ true → has_asked ts x asked ≡ true

-- of a compound these parts are left to be tried at a node that has what is asked for (own rule)
abbrev pub AreUnasked : List model.CompoundPart → List model.CompoundPart → Asked → Type 0
AreUnasked parts left asked = (ts : Trees) (x : NodeName) → has_asked ts x asked ≡ true → model.compound_matches ts left x ≡ model.compound_matches ts parts x

-- so of the compound on the right of the first of these complex selectors; anything where there is none (own rule)
abbrev pub IsFirstUnasked : List Complex → List CompoundPart → Asked → Type 0
IsFirstUnasked [] left asked = Unit {0}
IsFirstUnasked (c ∷ cs) left asked = AreUnasked (last_compound (complex_view c)) (compound_view left) asked

-- these parts are left of it at a node (own rule)
abbrev pub IsFirstLeft : Trees → NodeName → List Complex → List CompoundPart → Type 0
IsFirstLeft ts x [] left = Unit {0}
IsFirstLeft ts x (c ∷ cs) left = model.compound_matches ts (compound_view left) x ≡ model.compound_matches ts (last_compound (complex_view c)) x

-- the nodes of the tree of `top` from a node on, where it lies; none where there is no node (own rule)
abbrev pub nodes_from : NamedTrees → ℕ → Option (Spot NamedTrees) → List NodeName
nodes_from f top at = from_node f.trees (name_of f top) (option_map (name_of f) (key_in at))

-- the nodes of the tree of `top` behind a node (own rule)
abbrev pub nodes_behind : NamedTrees → ℕ → ℕ → List NodeName
nodes_behind f top k = behind f.trees (name_of f top) (name_of f k)
