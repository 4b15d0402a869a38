use Rattle.dom_base.proofs.Std.{◌≡◌, ◌&&◌, ◌++◌, Bool, true, List, [], ◌∷◌, sym, ap, subst, ◌∙◌, if◌then◌else◌}
use Rattle.dom_model.proofs.Model.{NodeName}
use Rattle.dom_tree.specs.Definitions.{name_at}
use Rattle.dom_slots.specs.Definitions.{AreRenewed, shadows, is_bare_at, is_move}
use Rattle.dom_slots.proofs.Renewing.{told-more}
use Rattle.dom_slots.proofs.slots.Slots.add_bare.Goals as goal

-- a choice by two tests
both : (xs : List NodeName) (m b : Bool) → m ≡ true → b ≡ true → xs ≡ (if m && b then xs else [])
both xs m b e f = ap (λ c. if c && true then xs else []) (sym e) ∙ ap (λ c. if m && c then xs else []) (sym f)

pub returns-in_ok-add_once : goal.returns-in_ok-add_once
returns-in_ok-add_once c =
    λ p old done told table r.
    let f = c.args.forest.now in
    let hosts = c.args.self.now.hosts in
    let y = name_at f.names c.args.around in
    let next = c.add_once.new.signals.items in
    subst (λ ys. AreRenewed f hosts p old done (told ++ ys) table next)
    (both (y ∷ []) (is_move c.args.step) (is_bare_at (shadows f hosts) y) (sym c.if-is_move.ensures) (sym c.in_ok-is_bare.ensures ∙ c.if-branch.true))
    (told-more r c.law_nodes_stand_once.ensures.distinct next c.args.around c.requires.around c.in_ok-add_once.ensures)
