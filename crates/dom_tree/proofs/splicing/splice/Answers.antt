use Rattle.dom_base.proofs.Std.{◌≡◌, ℕ, List, ◌+◌, ◌++◌, append_assoc, drop, take, sym, ap, map-id, ◌∙◌, arith}
use Rattle.std.proofs.iter.Yields.{gives_Drains}
use Rattle.std.proofs.lemmas.Iterator.Adapters.{YieldsList-from_vec}
use Rattle.std.proofs.lemmas.List.{drop-drop}
use Rattle.std.specs.List.{splice}
use Rattle.std.specs.Vec.Iter.{into_iter_steps}
use Rattle.dom_tree.proofs.splicing.splice.Goals as goal

pub returns-clause-ok : goal.returns-clause-ok
returns-clause-ok c =
    let it = c.in_ok-splice.ensures.items in
    let old = c.args.text.now.items in
    let units = c.args.units.items in
    let given : it.1 ≡ units = sym (map-id it.1) ∙ gives_Drains into_iter_steps (λ x. x) it.1 units it.0
    (YieldsList-from_vec units it.2.0 (it.2.1 ∙ c.args.units.ok.0)).runs it.3 in
    -- what is behind the cut is not empty, so that nothing was clamped
    let n = c.len.ensures in
    let m = c.len-2.ensures in
    let l = c.len-3.ensures in
    let s = c.min-start.ensures in
    let k = c.min-cut.ensures in
    let some = c.if-start-cut.false in
    let start : c.min-start.result ≡ c.args.offset = omega (arith, n, m, l, s, k, some) in
    let cut : c.min-cut.result ≡ c.args.count = omega (arith, n, m, l, s, k, some) in
    it.4 ∙ ap (λ xs. splice old c.min-start.result (c.min-start.result + c.min-cut.result) xs) given
    ∙ ap (λ i. splice old i (i + c.min-cut.result) units) start ∙ ap (λ n. splice old c.args.offset (c.args.offset + n) units) cut
    ∙ ap (λ (ys : List ℕ). take c.args.offset old ++ (units ++ ys)) (sym (drop-drop c.args.count c.args.offset old))
    ∙ sym (append_assoc (take c.args.offset old) units (drop c.args.count (drop c.args.offset old)))
