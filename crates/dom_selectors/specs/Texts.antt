-- The texts that stand for places among siblings.
use Rattle.std.specs.Prelude.{codes, List, [], ◌∷◌}
use Rattle.dom_model.specs.Names.{DomString}
use Rattle.dom_model.specs.Selectors.{Simple, first_child, last_child, Combinator, child, next, later}

-- `:first-child`, `:last-child`, and what each means (CSS Selectors Level 4, 13.4)
abbrev pub places : List (DomString × Simple)
places = (codes ":first-child", first_child) ∷ (codes ":last-child", last_child) ∷ []

-- `>`, `+`, `~`, and what each means (CSS Selectors Level 4, combinator)
abbrev pub combinator_signs : List (DomString × Combinator)
combinator_signs = (codes ">", child) ∷ (codes "+", next) ∷ (codes "~", later) ∷ []
