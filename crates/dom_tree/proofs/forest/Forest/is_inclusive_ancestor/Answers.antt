use Rattle.dom_base.proofs.Std.{◌≡◌, Bool, true, false, true≢false, refl, sym, ◌∙◌, ◌↔◌, IsTrue, false_from_ne_true}
use Rattle.dom_tree.proofs.Walks.{shows_above}
use Rattle.dom_tree.proofs.forest.Forest.is_inclusive_ancestor.Goals as goal

-- two tests of which each holds where the other does
same_test : (a b : Bool) → IsTrue a ↔ IsTrue b → a ≡ b
same_test true b h = sym (h.0 refl)
same_test false b h = sym (false_from_ne_true b (λ e. true≢false (sym (h.1 e))))

pub returns : goal.returns
returns c =
    same_test _ _ c.is_inclusive_ancestor.ensures
    ∙ shows_above c.self.view_is c.self.invariant.kept c.args.above c.args.key c.requires.above_is_node c.requires.key_is_node
