use Rattle.dom_base.proofs.Std.{◌≡◌, ℕ, Option, Some, refl, sym, subst, same_Some}
use Rattle.dom_observers.specs.declared.marks.Marks.{Marks}
use Rattle.dom_observers.specs.declared.marks.Marks.TheVariants.{One}
use Rattle.dom_observers.specs.Definitions.{IsNearest}
use Rattle.dom_observers.proofs.Nearest.{near-alone}
use Rattle.dom_observers.proofs.marks.Marks.known_above.Goals as goal

pub returns : goal.returns
returns c = λ k e.
    let f = c.args.forest.now in
    let laws = c.law_nodes_stand_once.ensures in
    let known = c.if-not-is_known_above.ensures in
    let from : c.args.from ≡ Some c.in-Some.node = c.in-Some.is in
    let alone : c.args.self.now ≡ One c.in-One.only = c.in-One.is in
    subst (λ (j : ℕ). IsNearest f c.args.self.now c.args.from (Some j)) (same_Some c.in-One.only k e)
    (subst (λ (o : Option ℕ). IsNearest f c.args.self.now o (Some c.in-One.only)) (sym from)
    (subst (λ (m : Marks). IsNearest f m (Some c.in-Some.node) (Some c.in-One.only)) (sym alone)
    (near-alone laws.once laws.only c.in-One.only c.in-Some.node (c.requires c.in-Some.node c.in-Some.is) (known.node refl) (known.above refl))))
