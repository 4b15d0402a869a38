use Rattle.dom_dispatch.proofs.Cited.{not, Some, refl, ap, subst, ◌∙◌, nat_eq, rules, tests, filter_same, IsSome}
use Rattle.dom_dispatch.proofs.Cited.{btree_map_updates_text}
use Rattle.std.specs.BTreeMap.{get_by_text}
use Rattle.dom_dispatch.proofs.Listing.{all_but, listed, list-changed, list-absent}
use Rattle.dom_dispatch.proofs.place_list.PlacesByType.remove.Goals as goal

pub returns-in-Some-clause-first : goal.returns-in-Some-clause-first
returns-in-Some-clause-first c = filter_same _ (λ j. not (nat_eq j c.args.place)) _ (λ x b q k. (search (rules, tests), search (rules, tests)))
    c.args.self.now.first.items c.retain.new.self.items c.retain.ensures.filtered

pub returns-in_default-clause-first : goal.returns-in_default-clause-first
returns-in_default-clause-first c = filter_same _ (λ j. not (nat_eq j c.args.place)) _ (λ x b q k. (search (rules, tests), search (rules, tests)))
    c.args.self.now.first.items c.retain.new.self.items c.retain.ensures.filtered

pub returns-in-Some-clause-rest : goal.returns-in-Some-clause-rest
returns-in-Some-clause-rest c =
    let old = c.args.self.now.rest in
    let new = c.retain-in-Some.new.self in
    let after = c.get_mut.follows.lender new in
    let updated = (c.get_mut.follows.holds new).3 (subst IsSome c.in-Some.ensures.value refl) in
    let kept = filter_same _ (λ j. not (nat_eq j c.args.place)) _ (λ x b q k. (search (rules, tests), search (rules, tests)))
    c.in-Some.places.now.items new.items c.retain-in-Some.ensures.filtered in
    list-changed (get_by_text old) (get_by_text after) c.args.event.now new (all_but c.args.place)
    (btree_map_updates_text c.args.event.now old after (Some new) updated) (kept ∙ ap (λ o. all_but c.args.place (listed o)) c.in-Some.ensures.value)

pub returns-in_default-clause-rest : goal.returns-in_default-clause-rest
returns-in_default-clause-rest c = λ t.
    ap (λ m. listed (get_by_text m t)) c.get_mut.follows.holds-at-none
    ∙ list-absent (get_by_text c.args.self.now.rest) c.args.event.now (all_but c.args.place) refl c.in_default.ensures.value t
