-- The attributes so far, and one more.
use Rattle.dom_base.proofs.Std.{refl, ap, sym, subst, ◌∙◌, List, length, map_more}
use Rattle.dom_model.specs.Tree as model_tree
use Rattle.dom_printer.specs.Steps.{attribute_view}
use Rattle.dom_answers.specs.Arrays.{Adds, AreSound, Arrays, attribute_of}
use Rattle.dom_answers.proofs.Parts.{grows-same, grows-then}
use Rattle.dom_answers.proofs.Adding.{adds-nothing, attributes-then}
use Rattle.dom_answers.proofs.pools.Pools.add_attributes.Goals as goal

pub loop-attribute-init : goal.loop-attribute-init
loop-attribute-init c = record {
  grown = grows-same c.args.self.now;
  rows = refl;
  sound = subst AreSound c.self.view_is c.self.invariant;
  at = c.len-at.ensures ∙ c.self.inside.attributes.ok.0 ∙ ap (λ (a : Arrays). length a.attributes) c.self.view_is;
  added = adds-nothing (attribute_of c.args.self.now) c.args.self.now.attributes;
}

pub loop-attribute-preserved : goal.loop-attribute-preserved
loop-attribute-preserved c =
    let start = c.args.self.now in
    let before = c.loop-attribute.self in
    let after = c.add_attribute.new.self in
    let so_far = c.loop-attribute.invariant in
    let one = c.in_ok-add_attribute.ensures in
    record {
      grown = grows-then start before after so_far.grown one.grown;
      rows = one.rows ∙ so_far.rows;
      sound = one.sound;
      at = so_far.at;
      added = subst (λ (said : List model_tree.Attribute). Adds (attribute_of after) start.attributes after.attributes said)
          (sym (map_more attribute_view c.args.attributes.now c.loop-attribute.attribute-index _ c.loop-attribute-test.true))
          (attributes-then start before after one.grown so_far.sound _ _ so_far.added one.ok);
    }
