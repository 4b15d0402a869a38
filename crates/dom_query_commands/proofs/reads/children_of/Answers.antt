-- Each turn lists a child, until there is none.
use Rattle.dom_query_commands.proofs.Cited.{ℕ, ◌<◌, ◌++◌, ◌∷◌, [], length, sym, ap, ◌∙◌, arith, append_assoc, option_map, append-nil}
use Rattle.dom_query_commands.proofs.Cited.{from_sibling, map, map-append, name_at, NodeName, subst}
use Rattle.dom_base.proofs.Std.{All, All-nil, All-push}
use Rattle.dom_query_commands.proofs.Siblings.{begins, goes_on}
use Rattle.dom_query_commands.proofs.reads.children_of.Goals as goal

pub loop-at-init : goal.loop-at-init
loop-at-init c =
    let f = c.args.forest.now in
    let law = c.law_nodes_stand_once.ensures in
    let from = begins f.names f.trees law.once law.only c.args.node c.requires c.first-at.result c.first-at.ensures.value in
    let none = c.in_ok-children.ensures.items in
    record {
      node = c.first-at.ensures.node;
      child = from.1;
      nodes = subst (All (λ (k : ℕ). k < length f.names)) (sym none) (All-nil (λ (k : ℕ). k < length f.names));
      so_far = ap (λ items. map (name_at f.names) items ++ from_sibling f.trees (option_map (name_at f.names) c.first-at.result)) none ∙ from.0;
    }

pub loop-at-smaller : goal.loop-at-smaller
loop-at-smaller c =
    let law = c.law_nodes_stand_once.ensures in
    let from = goes_on _ _ law.once law.only (name_at c.args.forest.now.names c.args.node) (c.loop-at.invariant.node c.in-Some.child c.in-Some.is)
    c.next-at.result c.in-Some.is c.next-at.ensures.value c.loop-at.invariant.child in
    omega (arith, ap (length {A = NodeName}) from.0)

pub loop-at-preserved : goal.loop-at-preserved
loop-at-preserved c =
    let f = c.args.forest.now in
    let law = c.law_nodes_stand_once.ensures in
    let i = c.loop-at.invariant in
    let inside = i.node c.in-Some.child c.in-Some.is in
    let from = goes_on f.names f.trees law.once law.only (name_at f.names c.args.node) inside
    c.next-at.result c.in-Some.is c.next-at.ensures.value i.child in
    let rest = from_sibling f.trees (option_map (name_at f.names) c.next-at.result) in
    let so_far = c.loop-at.children.items in
    let named = map (name_at f.names) so_far in
    let pushed = c.in_ok-push.ensures.items in
    record {
      node = c.next-at.ensures.node;
      child = from.1;
      nodes = subst (All (λ (k : ℕ). k < length f.names)) (sym pushed)
          (All-push (λ (k : ℕ). k < length f.names) so_far c.in-Some.child i.nodes inside);
      so_far = ap (λ items. map (name_at f.names) items ++ rest) pushed
          ∙ ap (λ ys. ys ++ rest) (map-append (name_at f.names) so_far (c.in-Some.child ∷ []))
          ∙ append_assoc named (name_at f.names c.in-Some.child ∷ []) rest ∙ ap (λ ys. named ++ ys) (sym from.0) ∙ i.so_far;
    }

pub returns-clause-names : goal.returns-clause-names
returns-clause-names c =
    let f = c.args.forest.now in
    let named = map (name_at f.names) c.loop-at.children.items in
    sym (append-nil named) ∙ ap (λ o. named ++ from_sibling f.trees (option_map (name_at f.names) o))
    (sym c.in_default.is) ∙ c.loop-at.invariant.so_far
