use Rattle.dom_dispatch.proofs.Cited.{◌≡◌, ℕ, ◌++◌, Bool, [], filter, ap, sym, ◌∙◌, on_ok_weaker, option_map_or, Listener, listeners_in, hears_at, is_of_type}
use Rattle.dom_dispatch.proofs.Cited.{passes_in, picked, places_at, places_from, places_in}
use Rattle.dom_dispatch.proofs.Placing.{hears-of, kept-append, listed-kept}
use Rattle.dom_dispatch.proofs.listeners.Listeners.heard.Goals as goal

pub returns-in_default : goal.returns-in_default
returns-in_default c =
    let es = c.self.inside.table.entries.items in
    let event = c.args.event.now in
    let p : Listener ℕ → Bool = hears_at c.args.node event c.args.capturing in
    let q : Listener ℕ → Bool = is_of_type c.args.node event in
    let none : places_at c.self.inside.table.places c.args.node event ≡ [] = ap (λ o. option_map_or (λ list. places_in list event) o [])
    (sym c.in_default.ensures) in
    let just : filter (passes_in q es) [] ≡ places_from q 0 es = ap (filter (passes_in q es)) (sym none) ∙
    c.self.invariant.indexed.listed c.args.node event in
    ap listeners_in c.clear.ensures.items ∙ listed-kept q p (hears-of c.args.node event c.args.capturing) es [] just ∙ ap (filter p) c.self.view_is

pub returns : goal.returns
returns c =
    let es = c.self.inside.table.entries.items in
    let event = c.args.event.now in
    let p : Listener ℕ → Bool = hears_at c.args.node event c.args.capturing in
    let q : Listener ℕ → Bool = is_of_type c.args.node event in
    let first = c.first.result.now in
    let rest = c.rest.result.now in
    let both : first ++ rest ≡ places_at c.self.inside.table.places c.args.node event = (λ j. c.first.ensures j ++ c.rest.ensures j) ∙
    ap (λ o. option_map_or (λ list. places_in list event) o []) c.in-Some.ensures in
    let just : filter (passes_in q es) (first ++ rest) ≡ places_from q 0 es = ap (filter (passes_in q es)) both ∙
    c.self.invariant.indexed.listed c.args.node event in
    on_ok_weaker c.hear-2.result (λ is.
    is
    ∙ ap (λ ls. ls ++ filter p (listeners_in (picked es rest)))
    (c.in_ok-hear.ensures ∙ ap (λ xs. listeners_in xs ++ filter p (listeners_in (picked es first))) c.clear.ensures.items)
    ∙ sym (kept-append p es first rest)
    ∙ listed-kept q p (hears-of c.args.node event c.args.capturing) es (first ++ rest) just
    ∙ ap (filter p) c.self.view_is) c.hear-2.ensures
