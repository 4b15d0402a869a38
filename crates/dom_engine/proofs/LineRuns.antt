-- The text of lines that are run one after another, and lines that are run behind other lines, as they come to a splitter piece by piece.
use Rattle.dom_base.proofs.Std.{◌≡◌, ℕ, ◌+◌, ◌<◌, ◌≤◌, List, [], ◌∷◌, ◌++◌, length, take, drop, get_or, map, Option, Result, refl, sym, ap, subst, ◌∙◌, arith}
use Rattle.dom_base.proofs.Std.{append-nil, length-append, filter, Some, None, append_assoc, map-append, take_more, take-append-le, take-append-drop}
use Rattle.dom_base.proofs.Std.{take-append-add, take-length, filter-append}
use Rattle.dom_model.proofs.Model.{Owner, World, Line, Run, run_then, run_each, first_world, step, run_lines, finish}
use Rattle.dom_streams.specs.declared.fault.RunFault.{RunFault}
use Rattle.dom_engine.specs.Run.{world_after, ending, shown, WritesSome, answers, answers_to_end}
use Rattle.dom_streams.specs.Views.{viewed}
use Rattle.dom_streams.specs.Writing.{Taken, Takes, EndsWriting, StopsWriting}
use Rattle.dom_streams.proofs.WriteLaws.{Takes-nil, Takes-trans, HasWritten, ends_behind, ends_as, stops_between, stops_as}
use Rattle.dom_text.specs.Definitions.{line_feed, cut_of, kept_line, text_of_lines, begins_with, owner_prefix, output_line, output_text, decode}
use Rattle.dom_text.proofs.LineLaws.{cut_of-pieces}
use Rattle.dom_text.proofs.DecodeLaws.{decode-kept}
use Rattle.dom_reader.proofs.StreamLaws.{cut_of-front, rest-one_line, fed-pieces}
use Rattle.dom_text.proofs.OutputLaws.{text_of_lines-append, output_text-append}
use Rattle.dom_isolation.proofs.PageTexts.{run_each-append}
use Rattle.dom_reader.specs.Streams.{fed}

-- ---- runs

-- ---- answers

pub answers-none : (w : World) → answers w [] ≡ []
unfolding answers
answers-none w = refl

pub world_after-none : (w : World) → world_after w [] ≡ w
unfolding world_after
world_after-none w = refl

-- more lines
pub run_more : (w : World) (xs ys : List (List ℕ)) →
    run_lines w (map decode (xs ++ ys)) ≡ run_then (run_lines w (map decode xs)) (λ v. run_lines v (map decode ys))
run_more w xs ys = ap (run_each step w) (map-append decode xs ys) ∙ run_each-append step w (map decode xs) (map decode ys)

-- the world behind more lines
pub world_after-append : (w : World) (xs ys : List (List ℕ)) → world_after w (xs ++ ys) ≡ world_after (world_after w xs) ys
unfolding world_after
world_after-append w xs ys = ap (λ (r : Run World). r.0) (run_more w xs ys)

-- the answers to more lines
pub answers-append : (w : World) (xs ys : List (List ℕ)) → answers w (xs ++ ys) ≡ answers w xs ++ answers (world_after w xs) ys
unfolding world_after answers
answers-append w xs ys =
    ap (λ (r : Run World). output_text r.1) (run_more w xs ys)
    ∙ output_text-append (run_lines w (map decode xs)).1 (run_lines (run_lines w (map decode xs)).0 (map decode ys)).1

-- one line
pub world_after-one : (w : World) (line : List ℕ) → world_after w (line ∷ []) ≡ (step w (decode line)).0
unfolding world_after
world_after-one w line = refl

pub answers-one : (w : World) (line : List ℕ) → answers w (line ∷ []) ≡ output_text (step w (decode line)).1
unfolding answers
answers-one w line = ap output_text (append-nil (step w (decode line)).1)

-- the answers to the lines and the ending
pub answers_to_end-split : (lines : List (List ℕ)) → answers_to_end lines ≡ answers first_world lines ++ ending (world_after first_world lines)
unfolding answers answers_to_end ending world_after
answers_to_end-split lines = output_text-append (run_lines first_world (map decode lines)).1 (finish (run_lines first_world (map decode lines)).0).1

pub ending-is : (w : World) → ending w ≡ output_text (finish w).1
unfolding ending
ending-is w = refl

-- lines say what is kept of them
read_kept : (lines : List (List ℕ)) → map decode (map kept_line lines) ≡ map decode lines
read_kept [] = refl
read_kept (line ∷ lines) = ap (λ (l : Line). l ∷ map decode (map kept_line lines)) (decode-kept line) ∙ ap (λ (ls : List Line). decode line ∷ ls)
    (read_kept lines)

pub answers-kept : (w : World) (lines : List (List ℕ)) → answers w (map kept_line lines) ≡ answers w lines
unfolding answers
answers-kept w lines = ap (λ (ls : List Line). output_text (run_lines w ls).1) (read_kept lines)

pub world_after-kept : (w : World) (lines : List (List ℕ)) → world_after w (map kept_line lines) ≡ world_after w lines
unfolding world_after
world_after-kept w lines = ap (λ (ls : List Line). (run_lines w ls).0) (read_kept lines)

-- ---- views

-- bytes with a line feed at their end have no rest
ended : (bytes : List ℕ) → (cut_of (bytes ++ line_feed ∷ [])).rest ≡ []
ended bytes =
    ap (λ cut. cut.rest) (cut_of-pieces bytes (line_feed ∷ []))
    ∙ ap (λ cut. cut.rest) (cut_of-front (cut_of bytes).rest (line_feed ∷ []) (rest-one_line bytes))

-- a text of lines has no rest
pub text-ended : (lines : List (List ℕ)) → (cut_of (text_of_lines lines)).rest ≡ []
text-ended [] = refl
text-ended (line ∷ lines) =
    let text = text_of_lines lines in
    ap (λ cut. cut.rest) (cut_of-pieces (line ++ line_feed ∷ []) text)
    ∙ ap (λ (r : List ℕ). (cut_of (r ++ text)).rest) (ended line)
    ∙ text-ended lines

pub answers-ended : (w : World) (lines : List (List ℕ)) → (cut_of (answers w lines)).rest ≡ []
unfolding answers
answers-ended w lines = text-ended (map output_line (run_lines w (map decode lines)).1)

-- what a view keeps of two texts
pub viewed-append : (view : Option Owner) (x y : List ℕ) → (cut_of x).rest ≡ [] → viewed view (x ++ y) ≡ viewed view x ++ viewed view y
viewed-append None x y e = refl
viewed-append (Some o) x y e =
    let keeps = begins_with (owner_prefix o) in
    ap (λ cut. text_of_lines (filter keeps cut.finished)) (cut_of-pieces x y)
    ∙ ap (λ (r : List ℕ). text_of_lines (filter keeps ((cut_of x).finished ++ (cut_of (r ++ y)).finished))) e
    ∙ ap text_of_lines (filter-append keeps (cut_of x).finished (cut_of y).finished)
    ∙ text_of_lines-append (filter keeps (cut_of x).finished) (filter keeps (cut_of y).finished)

pub shown-none : (view : Option Owner) (w : World) → shown view w [] ≡ []
shown-none None w = answers-none w
shown-none (Some o) w = ap (viewed (Some o)) (answers-none w)

pub shown-append : (view : Option Owner) (w : World) (xs ys : List (List ℕ)) → shown view w (xs ++ ys) ≡ shown view w xs ++ shown view (world_after w xs) ys
shown-append view w xs ys = ap (viewed view) (answers-append w xs ys) ∙ viewed-append view (answers w xs) (answers (world_after w xs) ys) (answers-ended w xs)

-- nothing is written of no line
pub none_written : (a : Taken) (view : Option Owner) (w : World) (lines : List (List ℕ)) → WritesSome a a (shown view w) lines
none_written a view w lines = record { count = 0; within = omega arith; takes = subst (Takes a a) (sym (shown-none view w)) (Takes-nil a) }

-- an owner whose lines are written, and a world, are what they were behind lines that were run
pub record Behind (view : Option Owner) (w : World) (done : List (List ℕ)) (view' : Option Owner) (w' : World) : Type 0 where
  pub same : view' ≡ view
  pub world : w' ≡ world_after w done

-- no lines behind some
pub no_lines-behind : (lines : List (List ℕ)) → lines ≡ lines ++ []
no_lines-behind [] = refl
no_lines-behind (line ∷ lines) = ap (λ (others : List (List ℕ)). line ∷ others) (no_lines-behind lines)

-- no lines were run yet
pub behind-none : (view : Option Owner) (w : World) (done : List (List ℕ)) → done ≡ [] → Behind view w done view w
behind-none view w done e = record { same = refl; world = sym (ap (world_after w) e ∙ world_after-none w) }

-- nothing is shown of no lines
pub shows-none : (a : Taken) (view : Option Owner) (w : World) (done : List (List ℕ)) → done ≡ [] → Takes a a (shown view w done)
shows-none a view w done e = subst (Takes a a) (sym (ap (shown view w) e ∙ shown-none view w)) (Takes-nil a)

-- ---- behind lines that were run

module _ {view view' : Option Owner} {w w' : World} {done : List (List ℕ)} (at : Behind view w done view' w') where
  -- what is shown of all lines is what is shown of the first, and then of the others
  pub shown-behind : (more : List (List ℕ)) → shown view w (done ++ more) ≡ shown view w done ++ shown view' w' more
  shown-behind more = rw (at.same, at.world) (shown-append view w done more)

  -- All lines are these, and then more.
  module _ (more : List (List ℕ)) {all : List (List ℕ)} (whole : all ≡ done ++ more) where
    -- the world behind them
    pub world-behind : {v : World} → v ≡ world_after w' more → v ≡ world_after w all
    world-behind h = h ∙ ap (λ x. world_after x more) at.world ∙ sym (world_after-append w done more) ∙ ap (world_after w) (sym whole)

    -- the text of these is written, and then that of the others
    pub lines_done : (a b c : Taken) → Takes a b (shown view w done) → Takes b c (shown view' w' more) → Takes a c (shown view w all)
    lines_done a b c before h =
        subst (Takes a c) (sym (ap (shown view w) whole ∙ shown-behind more))
        (Takes-trans a b c (shown view w done) (shown view' w' more) before h)

  -- All lines are these, more, and the rest. The text of these was written.
  module _ (more rest : List (List ℕ)) {all : List (List ℕ)} (whole : all ≡ (done ++ more) ++ rest) where
    -- some of the others are written, of which more were to come
    pub some_behind : (a b c : Taken) → Takes a b (shown view w done) → WritesSome b c (shown view' w') more →
        (some : WritesSome a c (shown view w) all) × (length done ≤ some.count) × (some.count ≤ length (done ++ more))
    some_behind a b c before h =
        let few : length done + h.count ≤ length (done ++ more) = omega (arith, length-append done more, h.within) in
        let front : take (length done + h.count) all ≡ done ++ take h.count more =
        ap (take (length done + h.count)) whole ∙ take-append-le (length done + h.count) (done ++ more) rest few ∙ take-append-add done more h.count in
        let all_shown = sym (ap (shown view w) front ∙ shown-behind (take h.count more)) in (
          record {
            count = length done + h.count;
            within = omega (arith, few, ap length whole, length-append (done ++ more) rest);
            takes = subst (Takes a c) all_shown (Takes-trans a b c (shown view w done) (shown view' w' (take h.count more)) before h.takes);
          },
          omega arith,
          few,
        )

    -- a fault stops them
    pub lines_between : {f₀ f₁ : ℕ} {a b : Taken} → HasWritten f₀ f₁ a b (shown view w done) → (e : RunFault) (f₂ : ℕ) (c : Taken) →
        StopsWriting e f₁ f₂ b c (shown view' w' more) (WritesSome b c (shown view' w') more) →
        StopsWriting e f₀ f₂ a c (shown view w all) (WritesSome a c (shown view w) all)
    lines_between {f₀ = f₀} {a = a} {b = b} before e f₂ c h =
        let later = shown view (world_after w (done ++ more)) rest in
        let split : shown view w all ≡ (shown view w done ++ shown view' w' more) ++ later =
        ap (shown view w) whole ∙ shown-append view w (done ++ more) rest ∙ ap (λ (x : List ℕ). x ++ later) (shown-behind more) in
        stops_as f₀ f₂ a c (sym split) (λ some. (some_behind a b c before.takes some).0) e
        (stops_between before c (shown view' w' more) later e f₂ (WritesSome b c (shown view' w') more) h)

  -- The ending behind these lines is written.
  pub ending_behind : {A : Type 0} {f₀ f₁ : ℕ} {a b : Taken} (before : HasWritten f₀ f₁ a b (shown view w done)) (r : Result A RunFault) (f₂ : ℕ)
      (c : Taken) → EndsWriting r f₁ f₂ b c (viewed view' (ending w')) (Takes b c []) →
      EndsWriting r f₀ f₂ a c (shown view w done ++ viewed view (ending (world_after w done))) (WritesSome a c (shown view w) done)
  ending_behind {f₀ = f₀} {f₁ = f₁} {a = a} {b = b} before r f₂ c h =
      ends_as f₀ f₂ a c (ap (λ (x : List ℕ). shown view w done ++ x) same_ending) all r
      (ends_behind before r f₂ c (viewed view' (ending w')) (Takes b c []) h)
    where
      same_ending : viewed view' (ending w') ≡ viewed view (ending (world_after w done))
      same_ending = rw (at.same, at.world) refl

      all : Takes b c [] → WritesSome a c (shown view w) done
      all none = record {
        count = length done;
        within = omega arith;
        takes = subst (Takes a c) (append-nil (shown view w done) ∙ sym (ap (shown view w) (take-length done)))
            (Takes-trans a b c (shown view w done) [] before.takes none);
      }

-- One of some lines, and its text.
module _ {V : Type 0} (bytes : V → List ℕ) (lines : List V) (i : ℕ) (line : V) (text : List ℕ) (within : i < length lines)
    (is : line ≡ get_or lines i line) (said : text ≡ bytes line) where
  -- the lines as far as it
  pub one_more : map bytes (take (i + 1) lines) ≡ map bytes (take i lines) ++ text ∷ []
  one_more =
      ap (map bytes) (take_more lines i line within) ∙ map-append bytes (take i lines) (get_or lines i line ∷ []) ∙
      ap (λ (x : List ℕ). map bytes (take i lines) ++ x ∷ []) (ap bytes (sym is) ∙ sym said)

  -- the lines around it
  pub around : map bytes lines ≡ (map bytes (take i lines) ++ text ∷ []) ++ map bytes (drop (i + 1) lines)
  around =
      ap (map bytes) (sym (take-append-drop (i + 1) lines)) ∙ map-append bytes (take (i + 1) lines) (drop (i + 1) lines)
      ∙ ap (λ (x : List (List ℕ)). x ++ map bytes (drop (i + 1) lines)) one_more

-- A piece that is fed behind others.
module _ (kept kept' passed piece all : List ℕ) (k : kept' ≡ (fed kept passed).rest) (e : all ≡ passed ++ piece) where
  -- the lines of bytes in two pieces
  pub fed-lines : (fed kept all).finished ≡ (fed kept passed).finished ++ (fed kept' piece).finished
  fed-lines =
      ap (λ x. (fed kept x).finished) e ∙ ap (λ cut. cut.finished) (fed-pieces kept passed piece) ∙
      ap (λ x. (fed kept passed).finished ++ (fed x piece).finished) (sym k)

  -- the unfinished line of bytes in two pieces
  pub fed-rest : (fed kept all).rest ≡ (fed kept' piece).rest
  fed-rest =
      ap (λ x. (fed kept x).rest) e ∙ ap (λ cut. cut.rest) (fed-pieces kept passed piece) ∙ ap (λ x. (fed x piece).rest) (sym k)

-- bytes of which a front of the rest more has passed
pub front-behind : {bytes rest : List ℕ} (passed front later : List ℕ) → bytes ≡ passed ++ rest → rest ≡ front ++ later → bytes ≡ (passed ++ front) ++ later
front-behind passed front later e cut = e ∙ ap (λ x. passed ++ x) cut ∙ sym (append_assoc passed front later)

-- the same of a front that was taken
pub piece-behind : {bytes piece later : List ℕ} (passed rest : List ℕ) (n : ℕ) → bytes ≡ passed ++ rest → piece ≡ take n rest → later ≡ drop n rest →
    bytes ≡ (passed ++ piece) ++ later
piece-behind {piece = piece} {later = later} passed rest n e here behind =
    front-behind passed piece later e (sym (take-append-drop n rest) ∙ ap (λ x. x ++ drop n rest) (sym here) ∙ ap (λ x. piece ++ x) (sym behind))

-- the lines of bytes around a piece
pub fed-around : {kept' bytes : List ℕ} (kept passed piece later : List ℕ) → kept' ≡ (fed kept passed).rest → bytes ≡ (passed ++ piece) ++ later
    → (fed kept bytes).finished ≡ ((fed kept passed).finished ++ (fed kept' piece).finished) ++ (fed (fed kept (passed ++ piece)).rest later).finished
fed-around {kept'} {bytes} kept passed piece later k e =
    fed-lines kept (fed kept (passed ++ piece)).rest (passed ++ piece) later bytes refl e
    ∙ ap (λ x. x ++ (fed (fed kept (passed ++ piece)).rest later).finished) (fed-lines kept kept' passed piece (passed ++ piece) k refl)
