-- Laws of what a run has read, and of what stops it: a read, a flush, memory, the limit.
use Rattle.dom_base.proofs.Std.{◌≡◌, ℕ, ◌<◌, ◌≤◌, ◌⊎◌, List, [], ◌∷◌, ◌++◌, length, length-append, ◌+◌, take, map, Option, refl, sym, ap, subst, ◌∙◌}
use Rattle.dom_base.proofs.Std.{append_assoc, append-nil, arith, inl, inr, Result, Ok, Err, length-map, take-map, Consumes, IsAtEnd, Consumes-nil}
use Rattle.dom_base.proofs.Std.{Consumes-trans, None, Some, IfSome, OnOk}
use Rattle.dom_model.proofs.Model.{Owner, World, first_world}
use Rattle.dom_text.specs.Definitions.{cut_of, lines_of, last_line, kept_line}
use Rattle.dom_reader.specs.Streams.{fed, IsKept}
use Rattle.dom_reader.proofs.StreamLaws.{fed-none, fed-is_kept, lines_of-fed_all}
use Rattle.dom_streams.specs.declared.fault.RunFault.{RunFault}
use Rattle.dom_streams.specs.declared.fault.RunFault.TheVariants.{Read, Write, Memory, InputLimit}
use Rattle.dom_engine.specs.Run.{world_after, answers, ending, shown, finished_text, WritesSome, RunsToEnd, StopsRun, StopsAtRead, StopsAtWrite}
use Rattle.dom_engine.specs.Run.{StopsAtMemory, StopsAtLimit, run_text, read_size, input_limit, ReadsWithin}
use Rattle.dom_streams.specs.Writing.{Taken, Takes, TakesFront, StopsWriting}
use Rattle.dom_streams.proofs.WriteLaws.{Takes-nil, Takes-trans}
use Rattle.dom_streams.specs.Views.{viewed}
use Rattle.dom_engine.specs.Reading.{HasRead, StopsOneRead, MoreAt, LeavesMore, ReadsMore}
use Rattle.dom_engine.proofs.LineRuns.{world_after-append, world_after-kept, answers-kept, answers-ended, answers_to_end-split, viewed-append, shown-append}
use Rattle.dom_engine.proofs.LineRuns.{Behind, no_lines-behind, behind-none, shows-none, shown-behind, world-behind, lines_done, some_behind}
use Rattle.dom_engine.proofs.LineRuns.{fed-lines, fed-rest}

-- ---- what was read

-- no bytes are kept at the start
pub start-kept : IsKept []
start-kept = record { one_line = tt; short = omega arith }

-- nothing was read yet
pub read-none : {kept : List ℕ} {w : World} (view : Option Owner) (from : Option (List ℕ)) (old : Taken) → kept ≡ [] → w ≡ first_world →
    HasRead [] view from from old old kept w
read-none view from old k e =
    let none = fed-none [] start-kept in
    let no_lines = ap (λ cut. cut.finished) none in
    let at = behind-none view first_world _ no_lines in
    record {
      consumed = Consumes-nil from;
      kept_is = k ∙ sym (ap (λ cut. cut.rest) none);
      world_is = e ∙ at.world;
      written = shows-none old view first_world _ no_lines;
    }

-- ---- the texts of the bytes that were read

-- what is kept of the lines says what they say
finished-shown : (view : Option Owner) (bytes : List ℕ) → shown view first_world (fed [] bytes).finished ≡ finished_text view bytes
finished-shown view bytes = ap (viewed view) (answers-kept first_world (cut_of bytes).finished)

-- what is kept of all lines
all-kept : (bytes : List ℕ) → map kept_line (lines_of bytes) ≡ (fed [] bytes).finished ++ last_line (fed [] bytes).rest
all-kept bytes =
    ap (λ x. map kept_line (lines_of x)) (sym (append-nil bytes))
    ∙ lines_of-fed_all (bytes ∷ [])
    ∙ ap (λ x. x ++ last_line (fed [] bytes).rest) (sym (no_lines-behind (fed [] bytes).finished))

-- a run's text is that of the lines that are ended, and then of what is left at the end
run_text-split : (view : Option Owner) (given kept : List ℕ) (w : World) → kept ≡ (fed [] given).rest → w ≡ world_after first_world (fed [] given).finished
    → run_text view given ≡ shown view first_world (fed [] given).finished ++
    (shown view w (last_line kept) ++ viewed view (ending (world_after w (last_line kept))))
run_text-split view given kept w k e =
    let lines = lines_of given in
    let ended = (fed [] given).finished in
    let last = last_line kept in
    let rest_of : World → List ℕ = λ v. viewed view (ending v) in
    let split : map kept_line lines ≡ ended ++ last = all-kept given ∙ ap (λ r. ended ++ last_line r) (sym k) in
    ap (viewed view) (answers_to_end-split lines)
    ∙ viewed-append view (answers first_world lines) (ending (world_after first_world lines)) (answers-ended first_world lines)
    ∙ ap (λ x. viewed view x ++ rest_of (world_after first_world lines)) (sym (answers-kept first_world lines))
    ∙ ap (λ v. shown view first_world (map kept_line lines) ++ rest_of v) (sym (world_after-kept first_world lines))
    ∙ ap (λ x. shown view first_world x ++ rest_of (world_after first_world x)) split
    ∙ ap (λ x. x ++ rest_of (world_after first_world (ended ++ last))) (shown-append view first_world ended last)
    ∙ ap (λ v. (shown view first_world ended ++ shown view (world_after first_world ended) last) ++ rest_of v) (world_after-append first_world ended last)
    ∙ append_assoc (shown view first_world ended) (shown view (world_after first_world ended) last) (rest_of (world_after (world_after first_world ended) last))
    ∙ ap (λ v. shown view first_world ended ++ (shown view v last ++ rest_of (world_after v last))) (sym e)

-- bytes that came behind others by one read, and are with them no more than a run reads
record CameNext (given bytes : List ℕ) (mid to : Option (List ℕ)) : Type 0 where
  near : length bytes ≤ read_size
  few : length (given ++ bytes) ≤ input_limit
  consumed : Consumes mid to bytes

-- no bytes at all
nothing_next : {given : List ℕ} {mid : Option (List ℕ)} → length given ≤ input_limit → CameNext given [] mid mid
nothing_next {given} {mid} few = record { near = omega arith; few = omega (arith, few, length-append given []); consumed = Consumes-nil mid }

-- ---- behind bytes that were read

module _ {given : List ℕ} {view : Option Owner} {from mid : Option (List ℕ)} {old between : Taken} {kept : List ℕ} {w : World}
    (read : HasRead given view from mid old between kept w) where
  -- what is kept behind them
  pub read-kept : IsKept kept
  read-kept = subst IsKept (sym read.kept_is) (fed-is_kept [] given)

  -- a read fails
  pub stops-read : (to : Option (List ℕ)) (new : Taken) → length given ≤ input_limit → Consumes mid to [] → Takes between new [] →
      StopsAtRead view from to old new
  stops-read to new few consumed written = record {
    given = given;
    few = few;
    consumed = subst (Consumes from to) (append-nil given) (Consumes-trans from mid to given [] read.consumed consumed);
    written = subst (Takes old new) (append-nil _ ∙ finished-shown view given) (Takes-trans old between new _ [] read.written written);
  }

  -- there is more than a run reads
  pub stops-limit : (more : List ℕ) (to : Option (List ℕ)) → length given ≡ input_limit → (0 < length more) × (length more ≤ read_size) →
      Consumes mid to more → StopsAtLimit view from to old between
  stops-limit more to full over consumed = record {
    given = given;
    more = more;
    full = full;
    over = over.0;
    one_read = over.1;
    consumed = Consumes-trans from mid to given more read.consumed consumed;
    written = subst (Takes old between) (finished-shown view given) read.written;
  }

  -- One read more, behind all that a run reads, finds no end.
  pub stops-more : (e : RunFault) (more : List ℕ) (to : Option (List ℕ)) → length given ≡ input_limit → Consumes mid to more → MoreAt e more →
      StopsRun e view from to old between
  stops-more Read more to full consumed at = stops-read to between (omega (arith, full)) (subst (Consumes mid to) at consumed) (Takes-nil between)
  stops-more InputLimit more to full consumed at = stops-limit more to full at consumed
  stops-more Write more to full consumed at = absurd at
  stops-more Memory more to full consumed at = absurd at

  -- a write fails behind the lines of the bytes that were read
  stops-write : {bytes : List ℕ} {to : Option (List ℕ)} (new : Taken) (text : List ℕ) → CameNext given bytes mid to
      → (finished_text view (given ++ bytes) ≡ shown view first_world (fed [] given).finished ++ text)
      ⊎ ((run_text view (given ++ bytes) ≡ shown view first_world (fed [] given).finished ++ text) × IsAtEnd to)
      → TakesFront between new text → StopsAtWrite view from to old new
  stops-write {bytes} {to} new text next which part = record {
    early = given;
    late = bytes;
    near = next.near;
    few = next.few;
    consumed = Consumes-trans from mid to given bytes read.consumed next.consumed;
    front = part.front;
    back = part.back;
    split = elim which [ inl e ↦ inl (e ∙ behind) | inr e ↦ inr (e.0 ∙ behind, e.1) ];
    written = subst (Takes old new) (ap (λ x. x ++ part.front) (finished-shown view given))
        (Takes-trans old between new _ part.front read.written part.takes);
  }
    where
      behind : shown view first_world (fed [] given).finished ++ text ≡ (finished_text view given ++ part.front) ++ part.back
      behind =
          ap (λ x. shown view first_world (fed [] given).finished ++ x) part.split
          ∙ sym (append_assoc (shown view first_world (fed [] given).finished) part.front part.back)
          ∙ ap (λ x. (x ++ part.front) ++ part.back) (finished-shown view given)

  -- a flush fails
  pub stops-flush : (e : RunFault) (failed fails : ℕ) (new : Taken) → length given ≤ input_limit →
      StopsWriting e failed fails between new [] ⊥ → StopsRun e view from mid old new
  stops-flush Write failed fails new few stops =
      let shows = shown view first_world (fed [] given).finished in
      let text : finished_text view (given ++ []) ≡ shows ++ [] =
      ap (finished_text view) (append-nil given) ∙ (sym (finished-shown view given) ∙ sym (append-nil shows)) in
      stops-write new [] (nothing_next few) (inl text) stops.1
  stops-flush Memory failed fails new few stops = absurd stops.1
  stops-flush Read failed fails new few stops = absurd stops
  stops-flush InputLimit failed fails new few stops = absurd stops

  -- ---- while the run still shows the same owner's lines

  module _ {view' : Option Owner} (same : view' ≡ view) where
    -- the world and the lines that are shown are those behind the bytes that were read
    behind_read : Behind view first_world (fed [] given).finished view' w
    behind_read = record { same = same; world = read.world_is }

    -- Bytes come behind them.
    module _ (bytes : List ℕ) where
      -- the lines that are ended then
      lines-more : (fed [] (given ++ bytes)).finished ≡ (fed [] given).finished ++ (fed kept bytes).finished
      lines-more = fed-lines [] kept given bytes (given ++ bytes) read.kept_is refl

      -- they were read
      pub read-more : {kept' : List ℕ} {w' : World} (to : Option (List ℕ)) (new : Taken) → Consumes mid to bytes → kept' ≡ (fed kept bytes).rest →
          w' ≡ world_after w (fed kept bytes).finished → Takes between new (shown view' w (fed kept bytes).finished) →
          HasRead (given ++ bytes) view from to old new kept' w'
      read-more to new consumed k e written = record {
        consumed = Consumes-trans from mid to given bytes read.consumed consumed;
        kept_is = k ∙ sym (fed-rest [] kept given bytes (given ++ bytes) read.kept_is refl);
        world_is = world-behind behind_read _ lines-more e;
        written = lines_done behind_read _ lines-more old between new read.written written;
      }

    -- memory is refused to lines behind those of the bytes that were read
    stops-memory : {bytes : List ℕ} {to : Option (List ℕ)} {new : Taken} {more : List (List ℕ)} (rest : List (List ℕ)) → CameNext given bytes mid to
        → map kept_line (lines_of (given ++ bytes)) ≡ ((fed [] given).finished ++ more) ++ rest
        → (length ((fed [] given).finished ++ more) ≤ length (cut_of (given ++ bytes)).finished) ⊎ IsAtEnd to →
        WritesSome between new (shown view' w) more → StopsAtMemory view from to old new
    stops-memory {bytes} {to} {new} {more} rest next e ended some =
        let all = lines_of (given ++ bytes) in
        let found = some_behind behind_read more rest e old between new read.written some in
        let front : shown view first_world (take found.0.count (map kept_line all)) ≡ viewed view (answers first_world (take found.0.count all)) =
        ap (shown view first_world) (take-map kept_line found.0.count all) ∙ ap (viewed view) (answers-kept first_world (take found.0.count all)) in
        record {
          early = given;
          late = bytes;
          near = next.near;
          few = next.few;
          consumed = Consumes-trans from mid to given bytes read.consumed next.consumed;
          count = found.0.count;
          since = omega (arith, found.1, length-map (cut_of given).finished kept_line);
          within = omega (arith, found.0.within, length-map all kept_line);
          ended = elim ended [ inl few ↦ inl (omega (arith, few, found.2)) | inr end ↦ inr end ];
          written = subst (Takes old new) front found.0.takes;
        }

    -- There is so much room for one read more.
    module _ (room : ℕ) (one : room ≤ read_size) (most : length given + room ≤ input_limit) where
      -- it gives bytes
      came_next : {bytes : List ℕ} {to : Option (List ℕ)} → length bytes ≤ room → Consumes mid to bytes → CameNext given bytes mid to
      came_next {bytes} within consumed = record {
        near = omega (arith, within, one);
        few = omega (arith, within, most, length-append given bytes);
        consumed = consumed;
      }

      -- it meets a fault
      pub stops-one_read : (e : RunFault) (to : Option (List ℕ)) (new : Taken) (failed fails : ℕ)
          → StopsOneRead e room (shown view' w) kept mid to failed fails between new → StopsRun e view from to old new
      stops-one_read Read to new failed fails stops = stops-read to new (omega (arith, most)) stops.0 stops.1
      stops-one_read InputLimit to new failed fails stops = absurd stops
      stops-one_read Memory to new failed fails stops =
          let bytes = stops.0 in
          let next : CameNext given bytes mid to = came_next stops.1 stops.2 in
          let lines = lines-more bytes in
          let ended : length ((fed [] given).finished ++ (fed kept bytes).finished) ≤ length (cut_of (given ++ bytes)).finished =
          omega (arith, ap length lines, length-map (cut_of (given ++ bytes)).finished kept_line) in
          let last = last_line (fed [] (given ++ bytes)).rest in
          stops-memory last next (all-kept (given ++ bytes) ∙ ap (λ x. x ++ last) lines) (inl ended) stops.3.1
      stops-one_read Write to new failed fails stops =
          let bytes = stops.0 in
          let next : CameNext given bytes mid to = came_next stops.1 stops.2 in
          let text = sym (finished-shown view (given ++ bytes)) ∙ ap (shown view first_world) (lines-more bytes) ∙ shown-behind behind_read _ in
          stops-write new _ next (inl text) stops.3.1

    -- ---- at the end of the input

    module _ (end : IsAtEnd mid) (few : length given ≤ input_limit) where
      -- The run's text is written where what is left at the end is.
      pub ends-run : (new : Taken)
          → Takes between new (shown view' w (last_line kept) ++ viewed view' (ending (world_after w (last_line kept)))) → RunsToEnd view from mid old new
      ends-run new written =
          let at_view = subst (λ x. Takes between new (shown x w (last_line kept) ++ viewed x (ending (world_after w (last_line kept))))) same written in
          record {
            given = given;
            few = few;
            consumed = read.consumed;
            at_end = end;
            written = subst (Takes old new) (sym (run_text-split view given kept w read.kept_is read.world_is))
                (Takes-trans old between new _ _ read.written at_view);
          }

      -- A fault stops what is left at the end.
      pub stops-end : (e : RunFault) (new : Taken) (failed fails : ℕ)
          → StopsWriting e failed fails between new (shown view' w (last_line kept) ++ viewed view' (ending (world_after w (last_line kept))))
          (WritesSome between new (shown view' w) (last_line kept))
          → StopsRun e view from mid old new
      stops-end Read new failed fails stops = absurd stops
      stops-end InputLimit new failed fails stops = absurd stops
      stops-end Memory new failed fails stops =
          let whole = ap (λ x. map kept_line (lines_of x)) (append-nil given) ∙ all-kept given ∙ ap (λ r. (fed [] given).finished ++ last_line r)
          (sym read.kept_is) ∙ no_lines-behind _ in
          stops-memory [] (nothing_next few) whole (inr end) stops.1
      stops-end Write new failed fails stops =
          let text = ap (run_text view) (append-nil given) ∙ run_text-split view given kept w read.kept_is read.world_is in
          let at_view = subst (λ x. TakesFront between new (shown x w (last_line kept) ++ viewed x (ending (world_after w (last_line kept))))) same stops.1 in
          stops-write new _ (nothing_next few) (inr (text, end)) at_view

-- Memory is refused before anything is read.
pub stops-before : (view : Option Owner) (from : Option (List ℕ)) (old : Taken) → StopsAtMemory view from from old old
stops-before view from old = record {
  early = [];
  late = [];
  near = omega arith;
  few = omega arith;
  consumed = Consumes-nil from;
  count = 0;
  since = omega arith;
  within = omega arith;
  ended = inl (omega arith);
  written = shows-none old view first_world [] refl;
}

module _ (failed fails : ℕ) (old new : Taken) where
  -- some first bytes of nothing are some of any text
  front_of_any : (text front back : List ℕ) → [] ≡ front ++ back → Takes old new front → TakesFront old new text
  front_of_any text [] back e written = record { front = []; back = text; split = refl; takes = written }
  front_of_any text (x ∷ front) back e written = absurd cc

  -- a flush that fails stops the read, before which it comes, as a write of no bytes
  pub flush-stops : (e : RunFault) (room : ℕ) (text : List (List ℕ) → List ℕ) (kept : List ℕ) (from : Option (List ℕ)) →
      StopsWriting e failed fails old new [] ⊥ → StopsOneRead e room text kept from from failed fails old new
  flush-stops Write room text kept from h =
      ([], omega arith, Consumes-nil from, (h.0, front_of_any (text (fed kept []).finished) h.1.front h.1.back h.1.split h.1.takes))
  flush-stops Memory room text kept from h = absurd h.1
  flush-stops Read room text kept from h = absurd h
  flush-stops InputLimit room text kept from h = absurd h

  -- and no more is read
  pub flush-within : (e : RunFault) (n m : ℕ) → StopsWriting e failed fails old new [] ⊥ → m ≤ n + input_limit → ReadsWithin (Err e) n m
  flush-within InputLimit n m h few = absurd h
  flush-within e n m h few = few

-- what was read and written stays so behind a flush that went well
pub read-flushed : {given : List ℕ} {view : Option Owner} {from mid : Option (List ℕ)} {old between new : Taken} {kept : List ℕ} {w : World} →
    HasRead given view from mid old between kept w → Takes between new [] → HasRead given view from mid old new kept w
read-flushed {old} {between} {new} read flushed = record {
  consumed = read.consumed;
  kept_is = read.kept_is;
  world_is = read.world_is;
  written = subst (Takes old new) (append-nil _) (Takes-trans old between new _ [] read.written flushed);
}

-- ---- how many bytes were read

-- where a fault stops what is done for one read
module _ (room : ℕ) (text : List (List ℕ) → List ℕ) (kept : List ℕ) (from to : Option (List ℕ)) (failed fails : ℕ) (old new : Taken) where
  pub one_read-within : (e : RunFault) (n m : ℕ) → StopsOneRead e room text kept from to failed fails old new → m ≤ n + input_limit →
      ReadsWithin (Err e) n m
  one_read-within InputLimit n m h few = absurd h
  one_read-within e n m h few = few

-- where one read more was to find the end
pub more-within : (n m : ℕ) (r : Result (Unit {0}) RunFault) {room mid : ℕ} → room ≤ read_size → mid ≡ n + input_limit → ReadsMore r room mid m →
    ReadsWithin r n m
more-within n m (Ok x) small full more = omega (arith, more, full)
more-within n m (Err Read) small full more = omega (arith, more, full)
more-within n m (Err InputLimit) small full more = (omega (arith, more.0, full), omega (arith, more.1, full, small))
more-within n m (Err Write) small full more = absurd more
more-within n m (Err Memory) small full more = absurd more

-- ---- how many bytes were given

module _ (from to : Option (List ℕ)) (old new : ℕ) where
  -- what was read to the end are all bytes that there were
  pub read-whole : (given : List ℕ) → Consumes from to given → IsAtEnd to → new ≡ old + length given → IfSome from (λ bytes. new ≡ old + length bytes)
  read-whole given consumed end count = whole from to consumed end
    where
      whole : (from to : Option (List ℕ)) → Consumes from to given → IsAtEnd to → IfSome from (λ bytes. new ≡ old + length bytes)
      whole None to consumed end = tt
      whole (Some bytes) None consumed end = absurd consumed
      whole (Some bytes) (Some rest) consumed end =
          count ∙ ap (λ xs. old + length xs) (sym (consumed ∙ ap (λ ys. given ++ ys) end ∙ append-nil given))

  -- so it is where one more read finds the end
  module _ (mid : Option (List ℕ)) (given more : List ℕ) (room last : ℕ) where
    pub read-whole-more : (r : Result (Unit {0}) RunFault) → Consumes from mid given → Consumes mid to more → LeavesMore r more → OnOk r (IsAtEnd to) →
        (last ≡ old + length given) × ReadsMore r room last new → OnOk r (IfSome from (λ bytes. new ≡ old + length bytes))
    read-whole-more (Ok x) first then none end counts =
        read-whole (given ++ more) (Consumes-trans from mid to given more first then) end
        (counts.1 ∙ counts.0 ∙ ap (λ xs. old + length xs) (sym (append-nil given) ∙ ap (λ ys. given ++ ys) (sym none)))
    read-whole-more (Err e) first then none end counts = tt
