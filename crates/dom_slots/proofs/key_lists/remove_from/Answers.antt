use Rattle.dom_base.proofs.Std.{◌≡◌, ℕ, List, Option, position, sym, ap, ◌∙◌, nat_eq, arith, common_steps}
use Rattle.dom_slots.proofs.Leaving.{without-same}
use Rattle.dom_slots.proofs.Singles.{found-stands, found-taken, missed, shorter-without}
use Rattle.dom_slots.proofs.key_lists.remove_from.Goals as goal

-- what is found in the list
found : (n : ℕ) {xs ys : List ℕ} {r o : Option ℕ} → ys ≡ xs → r ≡ position (λ k. nat_eq k n) ys → r ≡ o → position (λ k. nat_eq k n) xs ≡ o
found n same told is = ap (position (λ k. nat_eq k n)) (sym same) ∙ (sym told ∙ is)

pub returns-then-length-le-FEW-clause-stood : goal.returns-then-length-le-FEW-clause-stood
returns-then-length-le-FEW-clause-stood c =
    (grind (arith, common_steps, c.len.ensures, c.len-length.ensures, c.remove_all_from.ensures)) ∙ shorter-without c.args.node c.args.list.now.items

pub returns-in-Some-clause-stood : goal.returns-in-Some-clause-stood
returns-in-Some-clause-stood c =
    sym (found-stands c.args.node c.args.list.now.items c.in-Some.at (found c.args.node c.deref.ensures.value c.position_of.ensures c.in-Some.is))

pub returns-in-Some-clause-list : goal.returns-in-Some-clause-list
returns-in-Some-clause-list c =
    c.remove.ensures.items
    ∙ found-taken c.args.node c.args.list.now.items c.requires c.in-Some.at (found c.args.node c.deref.ensures.value c.position_of.ensures c.in-Some.is)

pub returns-in-None-clause-stood : goal.returns-in-None-clause-stood
returns-in-None-clause-stood c = sym (missed c.args.node c.args.list.now.items (found c.args.node c.deref.ensures.value c.position_of.ensures c.in-None.is))

pub returns-in-None-clause-list : goal.returns-in-None-clause-list
returns-in-None-clause-list c =
    sym (without-same c.args.node c.args.list.now.items
    (missed c.args.node c.args.list.now.items (found c.args.node c.deref.ensures.value c.position_of.ensures c.in-None.is)))
