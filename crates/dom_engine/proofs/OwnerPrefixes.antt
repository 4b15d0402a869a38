-- What an owner sees of what a run writes, where a run comes to its end and where a fault stops it: of the page, and of members of groups.
use Rattle.dom_base.proofs.Std.{◌≡◌, ℕ, ◌≤◌, ◌⊎◌, List, [], ◌++◌, length, take, drop, filter, Option, None, Some, refl, sym, ap, subst, ◌∙◌}
use Rattle.dom_base.proofs.Std.{append_assoc, append-nil, inl, inr, take-append-drop, take-append-le, filter-append, IsAtEnd}
use Rattle.dom_model.proofs.Model.{Owner, first_world}
use Rattle.dom_text.specs.Definitions.{Cut, cut_of, last_line, lines_of, begins_with, owner_prefix, text_of_lines}
use Rattle.dom_text.proofs.LineLaws.{lines_of-cut, cut_of-pieces, cut_of-append}
use Rattle.dom_text.proofs.OutputLaws.{text_of_lines-append}
use Rattle.dom_streams.specs.declared.fault.RunFault.{RunFault}
use Rattle.dom_streams.specs.declared.fault.RunFault.TheVariants.{Read, Write, Memory, InputLimit}
use Rattle.dom_streams.specs.Writing.{Taken, Takes}
use Rattle.dom_streams.specs.Views.{viewed}
use Rattle.dom_engine.specs.Run.{answers, answers_to_end, finished_text, run_text, RunsToEnd, StopsAtWrite, StopsRun}
use Rattle.dom_engine.specs.PageLaws.{lines_named, bytes_read, MayFollow, WritesWholeLines}
use Rattle.dom_engine.specs.GroupPrefixes.{HasView, seen_by, OwnerSees, OwnerSeesFront}

-- of what a view keeps of a text
seen-viewed : (o : Owner) (view : Option Owner) (text : List ℕ) → HasView o view → seen_by o view (viewed view text) ≡ viewed (Some o) text
seen-viewed o None text p = refl
seen-viewed o (Some viewer) text p = ap (λ a. viewed (Some a) text) p

-- of some first bytes
seen-front : (o : Owner) (view : Option Owner) (front back : List ℕ) → (rest : List ℕ) × (seen_by o view (front ++ back) ≡ seen_by o view front ++ rest)
seen-front o (Some viewer) front back = (back, refl)
seen-front o None front back =
    let keeps = begins_with (owner_prefix o) in
    let more = (cut_of ((cut_of front).rest ++ back)).finished in (
      text_of_lines (filter keeps more),
      ap (λ (cut : Cut). text_of_lines (filter keeps cut.finished)) (cut_of-pieces front back)
          ∙ ap text_of_lines (filter-append keeps (cut_of front).finished more)
          ∙ text_of_lines-append (filter keeps (cut_of front).finished) (filter keeps more),
    )

-- What is written of an owner for lines, without the ending and with it: of any lines that pass, it is what the owner sees; and more lines only add to it.
pub record AreTold (o : Owner) (so_far to_end : List (List ℕ) → List ℕ) (Passes : List (List ℕ) → Type 0) : Type 0 where
  pub answered : (lines : List (List ℕ)) → Passes lines → viewed (Some o) (answers first_world lines) ≡ so_far lines
  pub ended : (bytes : List ℕ) → Passes (lines_of bytes) → run_text (Some o) bytes ≡ to_end (lines_of bytes)
  pub first : (lines others : List (List ℕ)) → Passes (lines ++ others) → Passes lines
  pub goes_on : (lines others : List (List ℕ)) → (rest : List ℕ) × (to_end (lines ++ others) ≡ so_far lines ++ rest)

-- ---- what more bytes add

-- to some first lines
lines_of-taken : (count : ℕ) (bytes more : List ℕ) → (count ≤ length (cut_of bytes).finished) ⊎ (more ≡ [])
    → (others : List (List ℕ)) × (lines_of (bytes ++ more) ≡ take count (lines_of bytes) ++ others)
lines_of-taken count bytes more (inl few) =
    let ended = (cut_of bytes).finished in
    let later = lines_of ((cut_of bytes).rest ++ more) in
    let front = ap (take count) (lines_of-cut bytes) ∙ take-append-le count ended (last_line (cut_of bytes).rest) few in (
      drop count ended ++ later,
      cut_of-append bytes more
          ∙ ap (λ (ls : List (List ℕ)). ls ++ later) (sym (take-append-drop count ended))
          ∙ append_assoc (take count ended) (drop count ended) later
          ∙ ap (λ (ls : List (List ℕ)). ls ++ (drop count ended ++ later)) (sym front),
    )
lines_of-taken count bytes more (inr none) =
    (drop count (lines_of bytes), ap (λ x. lines_of (bytes ++ x)) none ∙ ap lines_of (append-nil bytes) ∙ sym (take-append-drop count (lines_of bytes)))

-- ---- faults

-- A view, what is written from one state of a sink to the next, and a text at the front of another one.
module _ (o : Owner) (view : Option Owner) (old new : Taken) (seen rest all : List ℕ) (e : all ≡ seen ++ rest) where
  -- what the owner sees is the one, so it is at the front of the other
  sees-front : OwnerSees o view old new seen → OwnerSeesFront o view old new all
  sees-front s = record { written = s.written; takes = s.takes; back = rest; split = e ∙ ap (λ (x : List ℕ). x ++ rest) (sym s.seen) }

  -- some first bytes of a text of which the owner sees the one
  sees-cut : {text : List ℕ} (front back : List ℕ) → text ≡ front ++ back → seen_by o view text ≡ seen → Takes old new front →
      OwnerSeesFront o view old new all
  sees-cut front back split is written =
      let cut = seen-front o view front back in
      record {
        written = front;
        takes = written;
        back = cut.0 ++ rest;
        split = e ∙ ap (λ (x : List ℕ). x ++ rest) (sym is ∙ ap (seen_by o view) split ∙ cut.1) ∙ append_assoc (seen_by o view front) cut.0 rest;
      }

-- Of lines that pass, with what is written of an owner for them.
module _ {o : Owner} {so_far to_end : List (List ℕ) → List ℕ} {Passes : List (List ℕ) → Type 0} (machines : AreTold o so_far to_end Passes) where
  -- of a run that has come to its end
  pub at-end : {view : Option Owner} {from to : Option (List ℕ)} {old new : Taken} (r : RunsToEnd view from to old new) → HasView o view →
      Passes (lines_of r.given) → OwnerSees o view old new (to_end (lines_of r.given))
  at-end {view = view} r p h =
      record {
        written = run_text view r.given;
        takes = r.written;
        seen = seen-viewed o view (answers_to_end (lines_of r.given)) p ∙ machines.ended r.given h;
      }

  -- lines, and more of them
  more-lines : (lines others all : List (List ℕ)) → all ≡ lines ++ others → (rest : List ℕ) × (to_end all ≡ so_far lines ++ rest)
  more-lines lines others all e = let on = machines.goes_on lines others in (on.0, ap to_end e ∙ on.1)

  -- lines that are ended, and more bytes
  more-bytes : (bytes more : List ℕ) → (rest : List ℕ) × (to_end (lines_of (bytes ++ more)) ≡ so_far (cut_of bytes).finished ++ rest)
  more-bytes bytes more = more-lines (cut_of bytes).finished (lines_of ((cut_of bytes).rest ++ more)) (lines_of (bytes ++ more)) (cut_of-append bytes more)

  -- A fault, where the lines named pass.
  module _ (view : Option Owner) (from to : Option (List ℕ)) (old new : Taken) where
    -- the lines named
    pub lines-named : (e : RunFault) (s : StopsRun e view from to old new) → HasView o view → WritesWholeLines e →
        Passes (lines_named view from to old new e s) → OwnerSees o view old new (so_far (lines_named view from to old new e s))
    lines-named Read s p whole h =
        record {
          written = finished_text view s.given;
          takes = s.written;
          seen = seen-viewed o view (answers first_world (cut_of s.given).finished) p ∙ machines.answered (cut_of s.given).finished h;
        }
    lines-named InputLimit s p whole h =
        record {
          written = finished_text view s.given;
          takes = s.written;
          seen = seen-viewed o view (answers first_world (cut_of s.given).finished) p ∙ machines.answered (cut_of s.given).finished h;
        }
    lines-named Memory s p whole h =
        let lines = take s.count (lines_of (s.early ++ s.late)) in
        record {
          written = viewed view (answers first_world lines);
          takes = s.written;
          seen = seen-viewed o view (answers first_world lines) p ∙ machines.answered lines h;
        }
    lines-named Write s p whole h = absurd whole

    -- A write failed: at lines that are ended, or at the end.
    write-prefix : (s : StopsAtWrite view from to old new) → HasView o view → Passes (lines_of (s.early ++ s.late)) → (more : List ℕ) →
        (IsAtEnd to → more ≡ []) → OwnerSeesFront o view old new (to_end (lines_of ((s.early ++ s.late) ++ more)))
    write-prefix s p h more end =
        let read = s.early ++ s.late in
        let ended = (cut_of read).finished in
        let front = finished_text view s.early ++ s.front in
        let whole = to_end (lines_of (read ++ more)) in
        elim s.split [
          | inl e ↦
              let passes = machines.first ended (last_line (cut_of read).rest) (subst Passes (lines_of-cut read) h) in
              let on = more-bytes read more in
              sees-cut o view old new (so_far ended) on.0 whole on.1 front s.back e
              (seen-viewed o view (answers first_world ended) p ∙ machines.answered ended passes) s.written
          | inr e ↦
              let alone = to_end (lines_of read) in
              sees-cut o view old new alone [] whole
              (ap (λ x. to_end (lines_of (read ++ x))) (end e.1) ∙ ap (λ x. to_end (lines_of x)) (append-nil read) ∙ sym (append-nil alone)) front s.back e.0
              (seen-viewed o view (answers_to_end (lines_of read)) p ∙ machines.ended read h) s.written
        ]

    -- The prefix.
    pub prefix-of : (e : RunFault) (s : StopsRun e view from to old new) → HasView o view → Passes (lines_named view from to old new e s) →
        (more : List ℕ) → MayFollow e to more → OwnerSeesFront o view old new (to_end (lines_of (bytes_read view from to old new e s ++ more)))
    prefix-of Read s p h more follows =
        let on = more-bytes s.given more in
        sees-front o view old new (so_far (cut_of s.given).finished) on.0 (to_end (lines_of (s.given ++ more))) on.1 (lines-named Read s p tt h)
    prefix-of InputLimit s p h more follows =
        let on = more-bytes s.given (s.more ++ more) in
        sees-front o view old new (so_far (cut_of s.given).finished) on.0 (to_end (lines_of ((s.given ++ s.more) ++ more)))
        (ap (λ x. to_end (lines_of x)) (append_assoc s.given s.more more) ∙ on.1) (lines-named InputLimit s p tt h)
    prefix-of Memory s p h more follows =
        let read = s.early ++ s.late in
        let known : (s.count ≤ length (cut_of read).finished) ⊎ (more ≡ []) = elim s.ended [ inl few ↦ inl few | inr end ↦ inr (follows end) ] in
        let others = lines_of-taken s.count read more known in
        let on = more-lines (take s.count (lines_of read)) others.0 (lines_of (read ++ more)) others.1 in
        sees-front o view old new (so_far (take s.count (lines_of read))) on.0 (to_end (lines_of (read ++ more))) on.1 (lines-named Memory s p tt h)
    prefix-of Write s p h more follows = write-prefix s p h more follows
