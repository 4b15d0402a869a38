use Rattle.dom_base.proofs.Std.{◌<◌, All, length, fold, map, Result, Ok, Err, refl, sym, ap, subst, ◌∙◌, OnOk}
use Rattle.dom_model.proofs.Model.{name_eq, append_once}
use Rattle.dom_tree.specs.Definitions.{name_at}
use Rattle.dom_mutation.specs.Signalled.{AreNames}
use Rattle.dom_mutation.proofs.NamesByKey.{are_named, names_signalled}
use Rattle.dom_mutation.proofs.node_trees.steps.NodeTrees.end_among_hosts.Goals as goal

-- what follows from two facts of a call that succeeds
on_two : {T E A B C : Type 0} (r : Result T E) → OnOk r A → OnOk r B → (A → B → C) → OnOk r C
on_two (Ok x) a b f = f a b
on_two (Err e) a b f = tt

pub returns : goal.returns
returns c was end =
    let names = c.args.self.now.forest.names in
    let same = c.as_slice.ensures in
    let told = ap (map (name_at names)) same ∙ c.in_ok-keys.ensures.value was end in
    let nodes = subst (All (λ k. k < length names)) (sym same) c.in_ok-keys.ensures.nodes in
    on_two c.signal_each.result c.signal_each.ensures.signalled c.signal_each.ensures.queue
    (λ more later. record {
      names = refl;
      trees = refl;
      left = c.args.change.left;
      is_left = end.begun.left;
      hosts = c.in_ok-keys.ensures.hosts;
      held = record {
        slots = c.in_ok-keys.ensures.slots;
        nodes = subst (AreNames names) (sym more) (names_signalled names c.args.self.now.signalled (map (name_at names) c.as_slice.result.now)
            c.requires.nodes (are_named names c.as_slice.result.now nodes));
      };
      signalled = more ∙ ap (fold (append_once name_eq) c.args.self.now.signalled) told;
      tasks = later ∙ ap (fold _ c.args.self.now.queue) told;
    })
