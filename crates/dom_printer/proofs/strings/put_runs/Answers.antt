-- The run behind those that were put.
use Rattle.dom_base.proofs.Std.{◌≡◌, List, ℕ, ◌++◌, ap, sym, ◌∙◌, append_assoc, flat_map, flat_map-append}
use Rattle.dom_text.specs.Definitions.{unit_text}
use Rattle.dom_printer.proofs.PutLaws.{failed_put, last_put}
use Rattle.dom_printer.proofs.strings.put_runs.Goals as goal

pub returns-in_err-put_run : goal.returns-in_err-put_run
returns-in_err-put_run c =
    let r = c.from_residual in
    failed_put _ _ c.loop-rest.invariant.2 r.result _ _ r.ensures.0 c.in_err-put_run.ensures.err

pub loop-rest-preserved : goal.loop-rest-preserved
loop-rest-preserved c =
    let done = c.loop-rest.invariant.0 in
    let run = c.split_at.result.0.now in
    let old = c.args.out.now.items in
    let whole : c.args.units.now ≡ (done ++ run) ++ c.split_at.result.1.now =
    c.loop-rest.invariant.1 ∙ ap (λ (t : List ℕ). done ++ t) c.split_at.ensures.by_index.0 ∙ sym (append_assoc done run c.split_at.result.1.now) in
    let put : c.put_run.new.out.items ≡ old ++ flat_map unit_text (done ++ run) =
    c.in_ok-put_run.ensures.ok ∙ ap (λ (t : List ℕ). t ++ flat_map unit_text run) c.loop-rest.invariant.2
    ∙ append_assoc old (flat_map unit_text done) (flat_map unit_text run)
    ∙ ap (λ (t : List ℕ). old ++ t) (sym (flat_map-append unit_text done run)) in
    (done ++ run, whole, put)

pub returns : goal.returns
returns c =
    let done = c.loop-rest.invariant.0 in
    let left = c.loop-rest.rest.now in
    let old = c.args.out.now.items in
    rw (c.loop-rest.invariant.1, flat_map-append unit_text done left)
    (last_put old (flat_map unit_text done) c.loop-rest.invariant.2 c.put_each.result (flat_map unit_text left) _ c.put_each.ensures)
