-- A line is written where it begins with the prefix, and left where it does not.
use Rattle.dom_base.proofs.Std.{◌++◌, ◌∙◌, sym, ap, append-nil, append_assoc, subst, err_from_is_err_and}
use Rattle.dom_streams.specs.Writing.{Takes}
use Rattle.dom_streams.proofs.WriteLaws.{Takes-trans, stops_between, stops_as}
use Rattle.dom_streams.proofs.ViewLaws.{kept_by, kept_by-first, kept_by-later, kept_by-none}
use Rattle.dom_streams.proofs.view.write_lines_with.Goals as goal

pub loop-at-preserved : goal.loop-at-preserved
loop-at-preserved g c =
    let i = c.loop-at.invariant in
    let step = kept_by-later c.args.prefix.now c.loop-at.rest.now c.split_at.result.0.now c.split_at.result.1.now c.in-Some.at
    c.in-Some.ensures.some c.split_at.ensures.front c.split_at.ensures.back (sym c.starts_with.ensures.value ∙ c.if-starts_with.false) in
    (i.0, i.1 ∙ ap (λ x. i.0 ++ x) step, i.2, i.3)

pub loop-at-preserved-in_ok-write_all_to : goal.loop-at-preserved-in_ok-write_all_to
loop-at-preserved-in_ok-write_all_to g c =
    let i = c.loop-at.invariant in
    let line = c.split_at.result.0.now in
    let step = kept_by-first c.args.prefix.now c.loop-at.rest.now line c.split_at.result.1.now c.in-Some.at c.in-Some.ensures.some
    c.split_at.ensures.front c.split_at.ensures.back (sym c.starts_with.ensures.value ∙ c.if-starts_with.true) in (
      i.0 ++ line,
      i.1 ∙ ap (λ x. i.0 ++ x) step ∙ sym (append_assoc i.0 line _),
      Takes-trans _ _ _ i.0 line i.2 c.in_ok-write_all_to.ensures.1,
      c.in_ok-write_all_to.ensures.0 ∙ i.3,
    )

pub returns-in_err-write_all_to : goal.returns-in_err-write_all_to
returns-in_err-write_all_to g c =
    let i = c.loop-at.invariant in
    let line = c.split_at.result.0.now in
    let step = kept_by-first c.args.prefix.now c.loop-at.rest.now line c.split_at.result.1.now c.in-Some.at c.in-Some.ensures.some
    c.split_at.ensures.front c.split_at.ensures.back (sym c.starts_with.ensures.value ∙ c.if-starts_with.true) in
    let p = err_from_is_err_and c.from_residual.result c.from_residual.ensures.1 in
    rw (p.1, p.2)
    (stops_as _ _ _ _ (sym (i.1 ∙ ap (λ x. i.0 ++ x) step ∙ sym (append_assoc i.0 line _))) (λ (x : ⊥). x) _
    (stops_between (record { none_failed = i.3; takes = i.2 }) _ line (kept_by c.args.prefix.now c.split_at.result.1.now) _ _ ⊥
    c.in_err-write_all_to.ensures))

pub returns : goal.returns
returns g c =
    let i = c.loop-at.invariant in
    let all = i.1 ∙ ap (λ x. i.0 ++ x) (kept_by-none c.args.prefix.now c.loop-at.rest.now c.in_default.ensures.none) ∙ append-nil i.0 in (
      i.3,
      subst (Takes (g.W.Sink.contents c.args.sink.now, g.W.Sink.taken c.args.sink.now)
          (g.W.Sink.contents c.loop-at.sink, g.W.Sink.taken c.loop-at.sink)) (sym all) i.2,
    )
