use Rattle.dom_dispatch.proofs.Cited.{◌≡◌, ℕ, ◌++◌, Bool, true, [], filter, find, find-append, is_some, IfSome, ap, sym, subst, ◌∙◌, nat_eq, option_map_or}
use Rattle.dom_dispatch.proofs.Cited.{option_or, Listener, is_listener, is_of_type, passes_in, places_at, places_from, places_in, rest_in}
use Rattle.dom_dispatch.proofs.Placing.{found-passes, listed-any, listens-of, node-any}
use Rattle.dom_dispatch.proofs.table.Table.find.Goals as goal

pub returns-in_err-places-clause-there : goal.returns-in_err-places-clause-there
returns-in_err-places-clause-there c =
    let es = c.args.self.now.entries.items in
    let event = c.args.event.now in
    let p : Listener ℕ → Bool = is_listener nat_eq c.args.node event c.args.label.now c.args.capture in
    let q : Listener ℕ → Bool = is_of_type c.args.node event in
    let none : places_at c.args.self.now.places c.args.node event ≡ [] = ap (λ o. option_map_or (λ list. places_in list event) o [])
    (sym c.in_err-places.ensures) in
    let just : filter (passes_in q es) [] ≡ places_from q 0 es = ap (filter (passes_in q es)) (sym none) ∙ c.requires.indexed.listed c.args.node event in
    ap is_some c.from_residual.ensures ∙ listed-any q p (listens-of c.args.node event c.args.label.now c.args.capture) es [] just

pub returns-in-Some-clause-there : goal.returns-in-Some-clause-there
returns-in-Some-clause-there c =
    let es = c.args.self.now.entries.items in
    let event = c.args.event.now in
    let test = passes_in (is_listener nat_eq c.args.node event c.args.label.now c.args.capture) es in
    let list = c.in_ok-places.places.now in
    sym (ap is_some (ap (λ js. find test (js ++ rest_in list event)) (sym c.first.ensures) ∙ find-append test c.first.result.now (rest_in list event)) ∙
    ap (λ o. is_some (option_or o (find test (rest_in list event)))) (sym c.in-Some.ensures))
    ∙ node-any c.args.self.now.places es c.requires.indexed c.args.node list c.in_ok-places.ensures event c.args.label.now c.args.capture

pub returns-in-Some-clause-found : goal.returns-in-Some-clause-found
returns-in-Some-clause-found c =
    let test = passes_in (is_listener nat_eq c.args.node c.args.event.now c.args.label.now c.args.capture) c.args.self.now.entries.items in
    subst (λ o. IfSome o (λ place. test place ≡ true)) (sym c.in-Some.ensures) (found-passes test c.first.result.now)

pub returns-in-None-clause-there : goal.returns-in-None-clause-there
returns-in-None-clause-there c =
    let es = c.args.self.now.entries.items in
    let event = c.args.event.now in
    let test = passes_in (is_listener nat_eq c.args.node event c.args.label.now c.args.capture) es in
    let list = c.in_ok-places.places.now in
    ap is_some (c.find_among-in-None.ensures ∙ ap (find test) c.rest.ensures)
    ∙ sym (ap is_some (ap (λ js. find test (js ++ rest_in list event)) (sym c.first.ensures) ∙ find-append test c.first.result.now (rest_in list event)) ∙
    ap (λ o. is_some (option_or o (find test (rest_in list event)))) (sym c.in-None.ensures))
    ∙ node-any c.args.self.now.places es c.requires.indexed c.args.node list c.in_ok-places.ensures event c.args.label.now c.args.capture

pub returns-in-None-clause-found : goal.returns-in-None-clause-found
returns-in-None-clause-found c =
    let test = passes_in (is_listener nat_eq c.args.node c.args.event.now c.args.label.now c.args.capture) c.args.self.now.entries.items in
    subst (λ o. IfSome o (λ place. test place ≡ true)) (sym c.find_among-in-None.ensures) (found-passes test c.rest.result.now)
