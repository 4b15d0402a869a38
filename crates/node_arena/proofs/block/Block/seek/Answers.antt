use Rattle.std.proofs.Common.{◌≡◌, inl, inr, length, Some, slice_get, refl, sym, ap, ◌∙◌, arith}
use Rattle.std.proofs.lemmas.Bool.{cases_lt}
use Rattle.std.proofs.lemmas.Option.{same_Some, slice_get_within, slice_get-get_or, get_or_from_slice_get}
use Rattle.node_arena.proofs.FirstKnown.{contains-none}
use Rattle.node_arena.proofs.BlockLists.{place_in-once}
use Rattle.node_arena.proofs.Indexes.{get-contains}
use Rattle.node_arena.proofs.block.Block.seek.Goals.{in-Some, in-None+in_ok-place-in-None}
use Rattle.node_arena.proofs.block.Block.seek.Goals as goal

pub returns-in_err-place-in-None-clause-absent : goal.returns-in_err-place-in-None-clause-absent
returns-in_err-place-in-None-clause-absent c none =
    let xs = c.args.self.now in
    contains-none xs c.args.key (λ i l here.
    let keys = c.keys-keys.ensures in
    let at : slice_get c.keys-keys.result.now i ≡ Some c.args.key =
    ap (λ ys. slice_get ys i) keys ∙ (slice_get-get_or xs i 0 l ∙ ap Some here) in
    elim (cases_lt i c.min-near.result) [
      | inl before ↦ c.in_err-place-in-None.ensures.absent refl i (omega arith) before at
      | inr behind ↦ c.in-None.ensures.absent refl i behind (omega (arith, l, ap (λ ys. length ys) keys)) at
    ])

-- what stands at the place that was found
at : (c : goal.After-set) → slice_get c.args.self.now c.match-place_among.place ≡ Some c.args.key
at c =
    let keys = c.keys-keys.result.now in
    let here : slice_get keys c.match-place_among.place ≡ Some c.args.key = elim c.match-place_among.branch [
      | in-Some w ↦ ap (slice_get keys) w.place-is ∙ w.in-Some.ensures.found w.in-Some.place refl
      | in-None+in_ok-place-in-None w ↦
          ap (slice_get keys) w.place-is ∙ w.in_ok-place-in-None.ensures.found w.in_ok-place-in-None.place refl
    ] in
    ap (λ ys. slice_get ys c.match-place_among.place) (sym c.keys-keys.ensures) ∙ here

pub returns-clause-found : goal.returns-clause-found
returns-clause-found c i is =
    let xs = c.args.self.now in
    let place = c.match-place_among.place in (
      get-contains xs place c.args.key (at c),
      sym (same_Some _ _ is) ∙ sym (place_in-once xs place c.args.key c.requires.once (slice_get_within xs place c.args.key (at c))
          (get_or_from_slice_get xs place c.args.key 0 (at c))),
    )

pub returns-clause-within : goal.returns-clause-within
returns-clause-within c i is =
    let within = slice_get_within c.args.self.now c.match-place_among.place c.args.key (at c) in
    omega (arith, same_Some _ _ is, within)
