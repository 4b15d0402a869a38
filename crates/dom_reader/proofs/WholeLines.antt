-- A line that lies whole in the bytes that came: what it is, and what feeding it would have made.
use Rattle.dom_base.proofs.Std.{◌≡◌, ℕ, ◌+◌, ◌<◌, List, [], ◌∷◌, ◌++◌, length, take, drop, min, sym, ap, ◌∙◌, append_assoc, length-append, arith}
use Rattle.memchr.specs.Find.{NoneBefore, Passes, is_byte}
use Rattle.dom_text.specs.Definitions.{line_feed, max_line}
use Rattle.dom_reader.specs.Streams.{fed, IsWholeLine}
use Rattle.dom_reader.proofs.Firsts.{cut_at_first}
use Rattle.dom_reader.proofs.StreamLaws.{kept_line-room}
use Rattle.dom_reader.proofs.FedPieces.{line_fed}

-- where nothing is kept, the first line feed ends a whole line
pub whole_line-at : {kept : List ℕ} {n : ℕ} (bytes : List ℕ) (k : ℕ) → kept ≡ [] →
    NoneBefore (Passes (is_byte 10) bytes) 0 (length bytes) k × Passes (is_byte 10) bytes k
    → n ≡ min (length (take k bytes)) (max_line + 1) → IsWholeLine kept bytes (take n (take k bytes)) (drop (k + 1) bytes)
whole_line-at {n = n} bytes k none at few =
    let cut = cut_at_first 10 bytes k at in
    record {
      fresh = none;
      whole = take k bytes;
      one_line = cut.0;
      split = cut.1;
      cut = kept_line-room [] (take k bytes) n (omega arith) few;
    }

-- the line and its line feed, fed as a piece, make it the one finished line, and leave nothing
pub whole_line-fed : {kept bytes line later : List ℕ} → IsWholeLine kept bytes line later →
    (front : List ℕ) × (bytes ≡ front ++ later) × (fed kept front ≡ record { finished = line ∷ []; rest = [] })
whole_line-fed h = (
  h.whole ++ line_feed ∷ [],
  h.split ∙ sym (append_assoc h.whole (line_feed ∷ []) _),
  ap (λ (x : List ℕ). fed x (h.whole ++ line_feed ∷ [])) h.fresh ∙ line_fed [] h.whole tt h.one_line
      ∙ ap (λ (x : List ℕ). record { finished = x ∷ []; rest = [] }) (sym h.cut),
)

-- fewer bytes stand behind it
pub whole_line-fewer : {kept bytes line later : List ℕ} → IsWholeLine kept bytes line later → length later < length bytes
whole_line-fewer {later = later} h = omega (arith, ap length h.split, length-append h.whole (line_feed ∷ later))
