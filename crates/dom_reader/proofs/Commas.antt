-- The parts of a text between bytes of one kind, one after the other.
use Rattle.dom_base.proofs.Std.{◌≡◌, ℕ, zero, suc, ◌+◌, Bool, false, eqb, List, [], ◌∷◌, ◌++◌, length, Option, Some, None, ap, ◌∙◌, arith, refl, All}
use Rattle.dom_base.proofs.Std.{AllByRecursion, slice_split, Bor, slice_split_at, slice_split_none, codes, ne_eqb, eq-eqb, length-slice_split}
use Rattle.dom_text.specs.Definitions.{between_commas, take_name, show_of_names}
use Rattle.dom_reader.proofs.Firsts.{Lacks}

-- a fact of each byte, by its place
each_at : (P : ℕ → Type 0) (xs : List ℕ) → AllByRecursion P xs → All P xs
each_at P [] h = λ k d l. absurd (omega arith)
each_at P (x ∷ xs) h = elim [
  | zero ↦ λ d l. h.0
  | suc k ↦ λ d l. each_at P xs h.1 k d (omega arith)
]

-- the part in front of the first byte of a kind, and the parts behind it
pub part_at : (c : ℕ) (text front rest : List ℕ) → Lacks c front × (text ≡ front ++ c ∷ rest) →
    slice_split (λ b. eqb b c) text ≡ front ∷ slice_split (λ b. eqb b c) rest
part_at c text front rest h =
    ap (slice_split (λ b. eqb b c)) h.1 ∙ slice_split_at (λ b. eqb b c) front c rest (each_at (λ b. eqb b c ≡ false) front h.0) (eq-eqb c c refl)

-- a text without such a byte is one part
pub part_without : (c : ℕ) (text : List ℕ) → Lacks c text → slice_split (λ b. eqb b c) text ≡ text ∷ []
part_without c text lacks = slice_split_none (λ b. eqb b c) text (each_at (λ b. eqb b c ≡ false) text lacks)

-- how much text is left, with the byte before it
abbrev pub parts_len : Option (Bor (List ℕ)) → ℕ
parts_len None = 0
parts_len (Some text) = length text.now + 1

-- where a text is left there is a part
text_left : (text : List ℕ) → eqb (length (between_commas text)) 0 ≡ false
text_left text = ne_eqb (length (between_commas text)) 0 (λ e. omega (arith, length-slice_split (λ b. eqb b 44) text))

-- the names of what is shown are taken from the front of the names one after the other, and those of a text are left
pub record LeavesNames (names text : List ℕ) : Type 0 where
  -- whether each name was taken, with the names behind it
  pub element : Bool × List (List ℕ)
  pub element_is : element ≡ take_name (codes "element") (between_commas names)
  pub of_data : Bool × List (List ℕ)
  pub of_data_is : of_data ≡ take_name (codes "text") element.1
  pub comment : Bool × List (List ℕ)
  pub comment_is : comment ≡ take_name (codes "comment") of_data.1
  pub document : Bool × List (List ℕ)
  pub document_is : document ≡ take_name (codes "document") comment.1
  pub fragment : Bool
  pub fragment_is : (fragment, between_commas text) ≡ take_name (codes "fragment") document.1

-- then nothing is shown
pub show_refused : {names text : List ℕ} → LeavesNames names text → None ≡ show_of_names (between_commas names)
show_refused {text = text} h = rw (← h.element_is, ← h.of_data_is, ← h.comment_is, ← h.document_is, ← h.fragment_is, text_left text) refl
