-- The one that is found for a complex selector is the one that was found before.
use Rattle.dom_selectors.proofs.Cited.{◌≡◌, ◌<◌, ℕ, Some, inl, inr, true, length, refl, sym, ap, subst, none-some, same_Some, Option, name_at}
use Rattle.dom_selectors.proofs.Cited.{HasId, MayBear, complex_matches, complex_view}
use Rattle.dom_selectors.specs.declared.selector.Complex.{Complex}
use Rattle.dom_selectors.proofs.IdQueries.{first_or_others, none_left}
use Rattle.dom_selectors.proofs.by_id.only_matching.Goals as goal

pub loop-rest-init : goal.loop-rest-init
loop-rest-init c = record { node = λ k e. absurd (none-some k e); kept = λ k node own e. inr e }

pub loop-rest-preserved-else-is_another : goal.loop-rest-preserved-else-is_another
loop-rest-preserved-else-is_another c =
    let f = c.args.forest.now in
    let bears = subst (λ (o : Option ℕ). (k : ℕ) → k < length f.names → (name_at f.names k).owner ≡ c.args.owner →
    HasId f.trees (name_at f.names k) c.in_ok-id.id.now → MayBear (Some o) k) c.in-Some.is c.in_ok-key.ensures.kept in
    record {
      node = λ k e. subst (λ j. j < length f.names) (same_Some c.in-Some.key k e) (c.in_ok-key.ensures.node c.in-Some.key (ap Some c.in-Some.is));
      kept = λ k node own e. elim (c.loop-rest.invariant.kept k node own e) [
        | inl was ↦ inl (ap Some (sym (c.is_another.ensures c.if-is_another.false k was)))
        | inr left ↦ elim (first_or_others f.trees (name_at f.names k) c.loop-rest.rest.now c.complex-item.result c.in-len1-up.len_at_least left) [
          | inl here ↦ inl (ap Some (bears k node own (c.in_ok-id.ensures f.trees (name_at f.names k)
              (subst (λ (d : Complex). complex_matches f.trees (complex_view d) (name_at f.names k) ≡ true) (sym c.complex-item.is) here))))
          | inr there ↦ inr there
        ]
      ];
    }

pub returns-clause-kept : goal.returns-clause-kept
returns-clause-kept c = λ k node own e.
    let f = c.args.forest.now in
    let is = none_left f.trees (name_at f.names k) c.loop-rest.rest.now c.in_default.len_below (c.loop-rest.invariant.kept k node own e) in
    subst (λ (o : Option ℕ). MayBear (Some o) k) (sym is) refl
