use Rattle.dom_dispatch.proofs.Cited.{ℕ, Vec, Global, not, nat_eq, ap, sym, ◌∙◌, rules, tests, filter_same, first_in}
use Rattle.dom_dispatch.proofs.Listing.{all_but}
use Rattle.dom_dispatch.proofs.place_list.PlaceList.remove.Goals as goal

pub returns-in-More-clause-first : goal.returns-in-More-clause-first
returns-in-More-clause-first c =
    filter_same _ (λ j. not (nat_eq j c.args.place)) _ (λ x b q k. (search (rules, tests), search (rules, tests))) c.deref_mut.result.now.items
    c.retain.new.self.items c.retain.ensures.filtered
    ∙ ap (λ (v : Vec ℕ Global). all_but c.args.place v.items) c.deref_mut.ensures.value ∙ ap (λ list. all_but c.args.place (first_in list)) (sym c.in-More.is)
