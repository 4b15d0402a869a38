use Rattle.dom_dispatch.proofs.Cited.{◌≡◌, ℕ, Bool, [], ◌∷◌, ◌++◌, take, filter, Some, ap, sym, ◌∙◌, arith, slice_get, slice_index_or, map-append, append_assoc}
use Rattle.dom_dispatch.proofs.Cited.{take_all, slice_get-get_or, Listener, listener_of, listeners_in, hears_at, passes, picked}
use Rattle.dom_dispatch.proofs.Placing.{kept-next, kept-same}
use Rattle.dom_dispatch.proofs.table.Table.hear.Goals.{in-Some+then-hears+in_ok-copied+in_ok-push_back, in-Some+else-hears, in_default}
use Rattle.dom_dispatch.proofs.table.Table.hear.Goals as goal

pub loop-place-preserved : goal.loop-place-preserved
loop-place-preserved c =
    let es = c.args.self.now.entries.items in
    let p : Listener ℕ → Bool = hears_at c.args.node c.args.event.now c.args.capturing in
    let places = c.args.places.now in
    let i = c.loop-place.place-index in
    let place = slice_index_or places i 0 in
    let there : slice_get places i ≡ Some place = slice_get-get_or places i 0 c.loop-place-test.true in
    let start = listeners_in c.args.heard.now.items in
    let before = listeners_in c.loop-place.heard.items in
    let so_far = filter p (listeners_in (picked es (take i places))) in
    elim c.match-entry.branch [
      | in-Some+then-hears+in_ok-copied+in_ok-push_back w ↦
          ap (λ h. listeners_in h.items) w.heard-is
          ∙ ap listeners_in w.in_ok-push_back.ensures.items
          ∙ map-append listener_of c.loop-place.heard.items (w.in_ok-copied.field-0 ∷ [])
          ∙ ap (λ l. before ++ l ∷ []) w.in_ok-copied.ensures
          ∙ ap (λ ls. ls ++ listener_of w.in-Some.entry.now ∷ []) c.loop-place.invariant
          ∙ append_assoc start so_far (listener_of w.in-Some.entry.now ∷ [])
          ∙ ap (λ ls. start ++ ls) (sym (kept-next p es places i place there w.in-Some.entry.now (sym w.in-Some.ensures) (sym w.if-hears.ensures)))
      | in-Some+else-hears w ↦
          ap (λ h. listeners_in h.items) w.heard-is
          ∙ c.loop-place.invariant
          ∙ ap (λ ls. start ++ ls) (sym (kept-same p es places i place there (ap (passes p) (sym w.in-Some.ensures) ∙ sym w.if-hears.ensures)))
      | in_default w ↦
          ap (λ h. listeners_in h.items) w.heard-is
          ∙ c.loop-place.invariant
          ∙ ap (λ ls. start ++ ls) (sym (kept-same p es places i place there (ap (passes p) (sym w.in_default.ensures))))
    ]

pub returns : goal.returns
returns c =
    let es = c.args.self.now.entries.items in
    let p : Listener ℕ → Bool = hears_at c.args.node c.args.event.now c.args.capturing in
    c.loop-place.invariant
    ∙ ap (λ ps. listeners_in c.args.heard.now.items ++ filter p (listeners_in (picked es ps)))
    (take_all c.loop-place.place-index c.args.places.now (omega (arith, c.loop-place-test.false)))
