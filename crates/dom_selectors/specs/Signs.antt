-- The signs that a node has where selectors match it.
use Rattle.std.specs.Prelude.{◌≡◌, ℕ, true, List}
use Rattle.std.specs.List.{list_all}
use Rattle.dom_base.specs.declared.NodeName.{NodeName}
use Rattle.dom_model.specs.Tree.{Trees, node_in}
use Rattle.dom_model.specs.Selectors.{Simple, CompoundPart, Complex, simple_matches, part_matches, compound_matches, selector_matches}
use Rattle.dom_attributes.specs.Signs.{MustHave}

-- a node has what these are signs of (own rule)
abbrev pub Shows : Trees → NodeName → ℕ → Type 0
Shows ts x bits = MustHave (node_in ts x).element (node_in ts x).attributes bits

-- each node that matches a simple selector shows these signs (own rule)
abbrev pub SimpleShows : Simple → ℕ → Type 0
SimpleShows simple bits = (ts : Trees) (x : NodeName) → simple_matches ts x simple ≡ true → Shows ts x bits

-- each node that matches all of some simple selectors shows these signs (own rule)
abbrev pub SimplesShow : List Simple → ℕ → Type 0
SimplesShow simples bits = (ts : Trees) (x : NodeName) → list_all (simple_matches ts x) simples ≡ true → Shows ts x bits

-- each node that matches a part of a compound shows these signs (own rule)
abbrev pub PartShows : CompoundPart → ℕ → Type 0
PartShows part bits = (ts : Trees) (x : NodeName) → part_matches ts x part ≡ true → Shows ts x bits

-- each node that matches all of some parts shows these signs (own rule)
abbrev pub PartsShow : List CompoundPart → ℕ → Type 0
PartsShow parts bits = (ts : Trees) (x : NodeName) → list_all (part_matches ts x) parts ≡ true → Shows ts x bits

-- each node that matches a compound shows these signs (own rule)
abbrev pub CompoundShows : List CompoundPart → ℕ → Type 0
CompoundShows parts bits = (ts : Trees) (x : NodeName) → compound_matches ts parts x ≡ true → Shows ts x bits

-- each node that matches a selector shows these signs (own rule)
abbrev pub SelectorShows : List Complex → ℕ → Type 0
SelectorShows complexes bits = (ts : Trees) (x : NodeName) → selector_matches ts complexes x ≡ true → Shows ts x bits
