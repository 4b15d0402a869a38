-- What is kept is what the text is.
use Rattle.dom_base.proofs.Std.{◌+◌, ◌-◌, length-append, rules, slice_get, vec_len}
use Rattle.std.proofs.lemmas.List.Elements.{All-set}
use Rattle.dom_selectors.proofs.Cited.{◌≡◌, ◌<◌, ◌∙◌, ◌++◌, ◌∷◌, [], All, All-push, ap, arith, length, List, parse_selectors, subst, sym}
use Rattle.dom_selectors.proofs.ParsedLaws.{behind, in_place}
use Rattle.dom_selectors.specs.Parsed.{IsParsed, selectors_in}
use Rattle.dom_selectors.specs.declared.parsed.Parsed.{Parsed}
use Rattle.dom_selectors.proofs.parsed.ParsedTexts.keep.Goals as goal

pub invariant_of-self-then-len-lt-MOST : goal.invariant_of-self-then-len-lt-MOST
invariant_of-self-then-len-lt-MOST c =
    let kept : Parsed = record { text = c.args.text; selector = c.in_ok-selector.selector } in
    let is : IsParsed kept = ap parse_selectors (sym c.deref.ensures.value) ∙ c.in_ok-selector.ensures.read in
    (subst (All IsParsed) (sym c.in_ok-push.ensures.items) (All-push IsParsed c.self.inside.kept.items kept c.self.invariant.0 is), c.self.invariant.1)

pub returns-then-len-lt-MOST-clause-read : goal.returns-then-len-lt-MOST-clause-read
returns-then-len-lt-MOST-clause-read c =
    let kept : Parsed = record { text = c.args.text; selector = c.in_ok-selector.selector } in
    let old = c.self.inside.kept.items in
    let new = c.push.new.self.items in
    let pushed : new ≡ old ++ kept ∷ [] = c.in_ok-push.ensures.items in
    let size : length new ≡ length old + 1 = ap length pushed ∙ length-append old (kept ∷ []) in
    let whole : vec_len c.push.new.self ≡ length new = search rules in
    let place : c.len-then-len-lt-MOST.result - 1 ≡ length old = omega (arith, c.len-then-len-lt-MOST.ensures, whole, size) in
    ap (slice_get (selectors_in new)) place ∙ ap (λ (ps : List Parsed). slice_get (selectors_in ps) (length old)) pushed
    ∙ behind old kept ∙ sym (ap parse_selectors (sym c.deref.ensures.value) ∙ c.in_ok-selector.ensures.read)

pub invariant_of-self-2 : goal.invariant_of-self-2
invariant_of-self-2 c =
    let kept : Parsed = record { text = c.args.text; selector = c.in_ok-selector.selector } in
    let is : IsParsed kept = ap parse_selectors (sym c.deref.ensures.value) ∙ c.in_ok-selector.ensures.read in
    (All-set IsParsed c.self.inside.kept.items c.self.inside.oldest kept is c.self.invariant.0, omega arith)

pub returns-clause-read : goal.returns-clause-read
returns-clause-read c =
    let kept : Parsed = record { text = c.args.text; selector = c.in_ok-selector.selector } in
    let within : c.self.inside.oldest < length c.self.inside.kept.items = search (rules, c.self.invariant.1) in
    in_place c.self.inside.kept.items kept c.self.inside.oldest within ∙ sym (ap parse_selectors (sym c.deref.ensures.value) ∙ c.in_ok-selector.ensures.read)
