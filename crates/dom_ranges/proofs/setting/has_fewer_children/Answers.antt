use Rattle.dom_ranges.proofs.Cited.{◌≡◌, ℕ, ◌+◌, ◌-◌, ◌<◌, ◌≤◌, Option, Some, None, List, length, nat_lt, is_some, refl, sym, ap, ◌∙◌, arith, ForSome, lt-ltb}
use Rattle.dom_ranges.proofs.Cited.{ltb-true, false_from_ne_true, NodeName, no_last, Once-forest, Has-forest}
use Rattle.dom_ranges.proofs.Siblings.{length-last}
use Rattle.dom_ranges.proofs.setting.has_fewer_children.Goals as goal

-- the index of the last child is less than a limit just if there are fewer children than the number behind it
counted : (o : Option ℕ) (number : ℕ) {index limit : ℕ} → limit ≡ number - 1 → ForSome o (λ i. (i ≡ index) × (i < limit)) → (o ≡ None → limit ≤ index) →
    is_some o ≡ nat_lt (index + 1) number
counted None number {index} one below none =
    sym (false_from_ne_true (nat_lt (index + 1) number) (λ l. omega (arith, one, none refl, ltb-true (index + 1) number l)))
counted (Some i) number {index} one below none = let b = below i refl in sym (lt-ltb (index + 1) number (omega (arith, one, b.0, b.1)))

pub returns-in-Some : goal.returns-in-Some
returns-in-Some c =
    let f = c.args.forest.now in
    let e = c.law_nodes_stand_once.ensures in
    let size = length-last f.trees (Once-forest f e.once e.only) _ _ (Has-forest f e.once c.args.node c.requires)
    (c.last.ensures.child c.in-Some.last c.in-Some.is) (sym c.in-Some.ensures.value) in
    c.is_some.ensures ∙ (counted c.index_below.result c.args.number c.saturating_sub.ensures c.index_below.ensures.below c.index_below.ensures.none
    ∙ ap (λ n. nat_lt n c.args.number) (sym size))

pub returns-in-None : goal.returns-in-None
returns-in-None c = ap (λ (xs : List NodeName). nat_lt (length xs) c.args.number) (sym (no_last _ (sym c.in-None.ensures.value)))
