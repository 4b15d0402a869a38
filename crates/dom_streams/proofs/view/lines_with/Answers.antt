-- A line is kept where it begins with the prefix, and left where it does not.
use Rattle.dom_base.proofs.Std.{◌++◌, ◌∙◌, sym, ap, append-nil, append_assoc}
use Rattle.dom_streams.proofs.ViewLaws.{kept_by, kept_by-first, kept_by-later, kept_by-none}
use Rattle.dom_streams.proofs.view.lines_with.Goals as goal

pub loop-at-preserved-in_ok-extend_from_slice : goal.loop-at-preserved-in_ok-extend_from_slice
loop-at-preserved-in_ok-extend_from_slice c =
    let line = c.split_at.result.0.now in
    let front = c.loop-at.lines.items in
    let step = kept_by-first c.args.prefix.now c.loop-at.rest.now line c.split_at.result.1.now c.in-Some.at c.in-Some.ensures.some
    c.split_at.ensures.front c.split_at.ensures.back (sym c.starts_with.ensures.value ∙ c.if-starts_with.true) in
    c.loop-at.invariant ∙ ap (λ x. front ++ x) step ∙ sym (append_assoc front line _) ∙
    ap (λ x. x ++ kept_by c.args.prefix.now c.split_at.result.1.now) (sym c.in_ok-extend_from_slice.ensures.items)

pub loop-at-preserved : goal.loop-at-preserved
loop-at-preserved c =
    let step = kept_by-later c.args.prefix.now c.loop-at.rest.now c.split_at.result.0.now c.split_at.result.1.now c.in-Some.at
    c.in-Some.ensures.some c.split_at.ensures.front c.split_at.ensures.back (sym c.starts_with.ensures.value ∙ c.if-starts_with.false) in
    c.loop-at.invariant ∙ ap (λ x. c.loop-at.lines.items ++ x) step

pub returns : goal.returns
returns c =
    let front = c.loop-at.lines.items in
    sym (c.loop-at.invariant ∙ ap (λ x. front ++ x) (kept_by-none c.args.prefix.now c.loop-at.rest.now c.in_default.ensures.none) ∙ append-nil front)
