use Rattle.dom_base.proofs.Std.{true, map, sym, ap, ◌∙◌, rules, tests, string_bytes, option_map, option_map_or, YieldsList-from_slice, any_from_yields_List}
use Rattle.dom_model.proofs.Model.{text_eq, is_in}
use Rattle.dom_observers.proofs.Folds.{list_any_of_map}
use Rattle.dom_observers.proofs.options.Options.let_pass.Goals as goal

pub returns-in-Some : goal.returns-in-Some
returns-in-Some c =
    let names = c.in-Some.names.items in
    any_from_yields_List (λ n. text_eq c.args.name.now (string_bytes n)) _ _ _ c.any.ensures.ran (YieldsList-from_slice names cc)
    (λ x b q k. search (rules, tests))
    ∙ (sym (list_any_of_map (text_eq c.args.name.now) string_bytes names)
    ∙ ap (λ filter. option_map_or (is_in text_eq c.args.name.now) (option_map (λ list. map string_bytes list.items) filter) true) (sym c.in-Some.is))
