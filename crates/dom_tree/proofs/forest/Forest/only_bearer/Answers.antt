use Rattle.dom_base.proofs.Std.{ap, sym, subst, ◌∙◌}
use Rattle.dom_tree.specs.Ids.{bearers_of, only_bearer, MayBear}
use Rattle.dom_tree.proofs.Noted.{may_bear, is_only, bearers_shown, bearer_node}
use Rattle.dom_tree.proofs.forest.Forest.only_bearer.Goals as goal

pub returns : goal.returns
returns c = record {
  kept = λ k node owner has. subst (λ b. MayBear b k)
      (sym (c.only_bearer.ensures ∙ ap (λ h. only_bearer (bearers_of c.self.inside.ids h)) c.id_code.ensures))
      (may_bear _ k (bearers_shown c.self.view_is c.self.invariant.kept c.self.invariant.ids c.args.owner c.args.id.now k node owner has));
  node = λ k only. bearer_node c.self.view_is c.self.invariant.kept c.self.invariant.ids c.id_code.result k
      (is_only _ k (sym c.only_bearer.ensures ∙ only));
}
