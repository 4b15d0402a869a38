use Rattle.dom_base.proofs.Std.{◌≡◌, ◌++◌, [], ℕ, map, filter, sym, ap, subst, ◌∙◌, option_to_list, option_map, filter-append}
use Rattle.dom_model.proofs.Model.{NodeName}
use Rattle.dom_tree.specs.Definitions.{name_at}
use Rattle.dom_slots.specs.Definitions.{AreRenewed, shadows, slot_at, step_node}
use Rattle.dom_slots.proofs.Signalled.{listed, listed-named}
use Rattle.dom_slots.proofs.slots.Slots.own_signals.Goals as goal

pub returns-clause-renewed : goal.returns-clause-renewed
returns-clause-renewed c =
    λ p old step is r.
    let f = c.args.forest.now in
    let hosts = c.args.self.now.hosts in
    let name : ℕ → NodeName = name_at f.names in
    let a = map name c.as_slice.result.now in
    let b = map name c.as_slice-2.result.now in
    let table = c.renew-2.new.self.table in
    let keys = c.renew-2.new.signals.items in
    let first : AreRenewed f hosts p old a (filter p a) c.renew.new.self.table c.renew.new.signals.items =
    c.in_ok-renew.ensures.renewed p old [] [] (subst (AreRenewed f hosts p old [] [] c.args.self.now.table) (sym c.new-signals.ensures.items) r) in
    let second : AreRenewed f c.renew.new.self.hosts p old (a ++ b) (filter p a ++ filter p b) table keys =
    c.in_ok-renew-2.ensures.renewed p old a (filter p a)
    (subst (λ hs. AreRenewed f hs p old a (filter p a) c.renew.new.self.table c.renew.new.signals.items) (sym c.in_ok-renew.ensures.hosts)
    first) in
    let both : AreRenewed f hosts p old (a ++ b) (filter p (a ++ b)) table keys =
    subst (λ hs. AreRenewed f hs p old (a ++ b) (filter p (a ++ b)) table keys) c.in_ok-renew.ensures.hosts
    (subst (λ xs. AreRenewed f c.renew.new.self.hosts p old (a ++ b) xs table keys) (sym (filter-append p a b)) second) in
    let own : a ++ b ≡ option_to_list (option_map name c.args.was) ++ option_to_list (slot_at (shadows f hosts) (name (step_node step))) =
    ap (λ xs. xs ++ b) (ap (map name) (listed c.args.was c.as_slice.result.now c.as_slice.ensures) ∙ listed-named f.names c.args.was)
    ∙ ap (λ xs. option_to_list (option_map name c.args.was) ++ xs)
    (ap (map name) (listed c.args.slot c.as_slice-2.result.now c.as_slice-2.ensures) ∙ (listed-named f.names c.args.slot
    ∙ (ap option_to_list c.requires.own ∙ ap (λ k. option_to_list (slot_at (shadows f hosts) (name k))) (sym is)))) in
    subst (λ xs. AreRenewed f hosts p old xs (filter p xs) table keys) own both
