-- The rows so far, and one more.
use Rattle.dom_base.proofs.Std.{ap, sym, subst, ◌∙◌, List, [], ◌∷◌, ◌++◌, length, map, map_more, take}
use Rattle.dom_text.specs.Text as text
use Rattle.dom_printer.specs.Steps.{step_view}
use Rattle.dom_printer.specs.declared.trees.TreeStep.{TreeStep}
use Rattle.dom_answers.specs.Arrays.{Adds, AreSound, Arrays, step_of}
use Rattle.dom_answers.proofs.Parts.{grows-same, grows-then}
use Rattle.dom_answers.proofs.Adding.{adds-nothing, rows-then}
use Rattle.dom_answers.proofs.pools.Pools.add_tree.Goals as goal

pub loop-step-init : goal.loop-step-init
loop-step-init c = record {
  grown = grows-same c.args.self.now;
  sound = subst AreSound c.self.view_is c.self.invariant;
  at = c.len-at.ensures ∙ c.self.inside.rows.ok.0 ∙ ap (λ (a : Arrays). length a.rows) c.self.view_is;
  added = adds-nothing (step_of c.args.self.now) c.args.self.now.rows;
}

pub loop-step-preserved : goal.loop-step-preserved
loop-step-preserved c =
    let start = c.args.self.now in
    let before = c.loop-step.self in
    let after = c.add_row.new.self in
    let so_far = c.loop-step.invariant in
    let one = c.in_ok-add_row.ensures in
    record {
      grown = grows-then start before after so_far.grown one.grown;
      sound = one.sound;
      at = so_far.at;
      added = subst (λ (said : List text.TreeStep). Adds (step_of after) start.rows after.rows said)
          (sym (map_more step_view c.args.steps.now c.loop-step.step-index c.step-item.result c.loop-step-test.true
          ∙ ap (λ (step : TreeStep). map step_view (take c.loop-step.step-index c.args.steps.now) ++ step_view step ∷ []) (sym c.step-item.is)))
          (rows-then start before after one.grown so_far.sound _ _ so_far.added one.ok);
    }
