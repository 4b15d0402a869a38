-- What a search from the right has come to, where a selector at a node is to be matched: a selector left of it at
-- another node that answers for it.
use Rattle.std.specs.Prelude.{◌≡◌, true, List, [], ◌∷◌, ◌++◌, Option, None}
use Rattle.std.specs.List.{list_any}
use Rattle.dom_base.specs.declared.NodeName.{NodeName}
use Rattle.dom_model.specs.Names.{last_of}
use Rattle.dom_model.specs.Tree.{Trees, ancestors, parent_of}
use Rattle.dom_model.specs.Selectors.{CompoundPart, Complex, alone, joined, Combinator, descendant, child, next, later}
use Rattle.dom_model.specs.Selectors.{compound_matches, complex_matches, elements_before}

-- the compound on the right of a complex selector (own rule)
abbrev pub last_compound : Complex → List CompoundPart
last_compound (alone c) = c
last_compound (joined left how c) = c

-- the elements before a node among its siblings, and the node (own rule)
abbrev pub elements_to : Trees → NodeName → List NodeName
elements_to ts x = elements_before ts x ++ x ∷ []

-- some node matches whose ancestors are those of x, all or from one on (own rule)
pub record MatchesAbove (ts : Trees) (c : Complex) (x : NodeName) : Type 0 where
  pub node : NodeName
  pub front : List NodeName
  pub above : ancestors ts x ≡ front ++ ancestors ts node
  pub matches : complex_matches ts c node ≡ true

-- white space (own rule)
abbrev pub IsDescendant : Combinator → Type 0
IsDescendant descendant = Unit {0}
IsDescendant child = ⊥
IsDescendant next = ⊥
IsDescendant later = ⊥

-- a combinator that leaves more than one node to try (own rule)
abbrev pub IsSearched : Combinator → Type 0
IsSearched descendant = Unit {0}
IsSearched child = ⊥
IsSearched next = ⊥
IsSearched later = Unit {0}

-- the one node that `>` or `+` leaves from a node, if it leaves one (own rule)
abbrev pub only_left : Trees → Combinator → NodeName → Option NodeName
only_left ts descendant x = None
only_left ts child x = parent_of ts x
only_left ts next x = last_of (elements_before ts x)
only_left ts later x = None

-- the last compound matches, and it is the first one or its combinator is such a one (own rule)
abbrev pub StopsAt : (Combinator → Type 0) → Trees → Complex → NodeName → Type 0
StopsAt How ts (alone c) x = compound_matches ts c x ≡ true
StopsAt How ts (joined left how c) x = How how × (compound_matches ts c x ≡ true)

-- d at z answers for c at x, and for c at the elements before x (own rule)
pub record ChainEnds (ts : Trees) (c : Complex) (x : NodeName) (d : Complex) (z : NodeName) : Type 0 where
  pub same : complex_matches ts c x ≡ complex_matches ts d z
  pub beside : list_any (complex_matches ts c) (elements_to ts x) ≡ true → complex_matches ts d z ≡ true
  pub above : MatchesAbove ts c x → MatchesAbove ts d z
  pub stops : StopsAt IsSearched ts d z

-- d at z answers for c at the elements before x (own rule)
pub record ChainIsBefore (ts : Trees) (c : Complex) (x : NodeName) (d : Complex) (z : NodeName) : Type 0 where
  pub same : list_any (complex_matches ts c) (elements_before ts x) ≡ complex_matches ts d z
  pub above : MatchesAbove ts c x → MatchesAbove ts d z
  pub stops : StopsAt IsSearched ts d z

-- d at z answers for c at x, and for c at the ancestors of x (own rule)
pub record SegmentEnds (ts : Trees) (c : Complex) (x : NodeName) (d : Complex) (z : NodeName) : Type 0 where
  pub same : complex_matches ts c x ≡ complex_matches ts d z
  pub above : MatchesAbove ts c x → complex_matches ts d z ≡ true
  pub stops : StopsAt IsDescendant ts d z

-- d at z answers for c at the ancestors of x (own rule)
pub record SegmentIsAbove (ts : Trees) (c : Complex) (x : NodeName) (d : Complex) (z : NodeName) : Type 0 where
  pub same : list_any (complex_matches ts c) (ancestors ts x) ≡ complex_matches ts d z
  pub stops : StopsAt IsDescendant ts d z
