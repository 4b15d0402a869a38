-- The names and the trees of a forest, as laws of dom_tree take them.
use Rattle.dom_query_commands.proofs.Cited.{◌≡◌, ℕ, ◌<◌, List, length, ◌∙◌, NodeName, Trees, times_in, times_count, NamedTrees, name_at, StandOnce}

-- names by their keys, and the trees in which they stand
abbrev pub named : List NodeName → Trees → NamedTrees
named names ts = record { names = names; trees = ts }

-- the number of times that a key's name stands there
pub times-key : (names : List NodeName) (ts : Trees) → StandOnce (named names ts) → (k : ℕ) → k < length names → times_in ts (name_at names k) ≡ 1
times-key names ts once k inside = times_count ts (name_at names k) ∙ once k inside
