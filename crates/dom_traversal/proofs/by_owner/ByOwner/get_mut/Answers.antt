use Rattle.dom_traversal.proofs.Cited.{◌≡◌, true, true≢false, refl, sym, ap, ◌∙◌, subst, is_some, KeyedTables, Writes}
use Rattle.dom_traversal.proofs.Owners.{put, in-map, none-in-map}
use Rattle.dom_traversal.proofs.by_owner.ByOwner.get_mut.Goals as goal

pub returns-then-is_empty : goal.returns-then-is_empty
returns-then-is_empty c =
    let none = none-in-map c.args.self.now c.args.owner.now c.in-Component.is (c.is_empty.ensures.0 c.if-is_empty.true) in
    ((refl, (λ w some. absurd (true≢false (sym (ap is_some none ∙ some)))), refl), record { lends = tt; value = none })

pub returns-else-is_empty : goal.returns-else-is_empty
returns-else-is_empty c =
    let q = c.args.self.now in
    let written : (w : KeyedTables) → Writes q c.args.owner.now (record q { components = c.get_mut.follows.lender w }) w =
    λ w some. put q (record q { components = c.get_mut.follows.lender w }) c.args.owner.now w c.in-Component.is refl
    ((c.get_mut.follows.holds w).3 (subst (λ o. is_some o ≡ true) (in-map q c.args.owner.now c.in-Component.is) some)).0 in (
      (refl, written, λ i. record q { components = c.get_mut.follows.holds-at-none i }),
      record { lends = tt; value = c.get_mut.ensures.value ∙ sym (in-map q c.args.owner.now c.in-Component.is) },
    )
