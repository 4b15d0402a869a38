-- What is computed of a line is what the grammar says of it, and the grammar says one thing of each line.
use Rattle.dom_base.proofs.Std.{◌≡◌, ℕ, ◌+◌, ◌-◌, ◌<◌, ◌≤◌, Bool, true, false, ltb, eqb, List, [], ◌∷◌, ◌++◌, length, take, drop, Option, Some, None, refl, sym}
use Rattle.dom_base.proofs.Std.{ap, subst, ◌∙◌, append_assoc, arith, inl, inr, ltb-true, ltb-false, eqb-true, cases_lt, some_pair_parts, length-append}
use Rattle.dom_base.proofs.Std.{length-take, take_all, take-append-drop, take-append-add}
use Rattle.dom_model.proofs.Model.{Owner, Page, Component, Command, Line, no_owner, no_command, command}
use Rattle.dom_text.specs.Definitions.{max_line, IsOwner, Spells, IsLine, BelongsTo, Says, parts, command_behind, ◌>>=◌, word_at, next_as, owner_of, keyword_of}
use Rattle.dom_text.specs.Definitions.{command_at, before_space, owner_at, owned_line, said_by, line_of, decode}
use Rattle.dom_text.specs.Lines.{kept_line}
use Rattle.dom_text.proofs.WordLaws.{bind_then, some_is, only_if_some, word_at_sound, word_at_complete}
use Rattle.dom_text.proofs.PartLaws.{next_as_reads}
use Rattle.dom_text.proofs.NodeLaws.{component_short, owner_sound, owner_complete, owner_is_word}
use Rattle.dom_text.proofs.CommandParts.{keyword_says}
use Rattle.dom_text.proofs.CommandLaws.{command_sound, command_complete}

-- ---- the owner in front

before_space_sound : (o p : Owner) (bytes rest : List ℕ) → before_space o bytes ≡ Some (p, rest) → (o ≡ p) × (bytes ≡ rest) ×
    ((behind : List ℕ) × (rest ≡ 32 ∷ behind))
before_space_sound o p [] rest e = absurd cc
before_space_sound o p (b ∷ bytes) rest e =
    let h = only_if_some (eqb b 32) (o, b ∷ bytes) (p, rest) e in
    let same = some_pair_parts o p (b ∷ bytes) rest (ap Some h.1) in
    (same.0, same.1, (bytes, sym same.1 ∙ ap (λ (x : ℕ). x ∷ bytes) (eqb-true b 32 h.0)))

-- an owner that is found owns the line
pub owner_at_sound : (line : List ℕ) (o : Owner) (rest : List ℕ) → owner_at line ≡ Some (o, rest) → (name : List ℕ) × IsOwner o name ×
    (line ≡ name ++ rest) × ((behind : List ℕ) × (rest ≡ 32 ∷ behind))
owner_at_sound line o rest e =
    bind_then (word_at line) (λ found. owner_of found.0 >>= λ p. before_space p found.1) (o, rest) e λ found h₁ k₁.
    bind_then (owner_of found.0) (λ p. before_space p found.1) (o, rest) k₁ λ p h₂ k₂.
    let w = word_at_sound line found.0 found.1 h₁ in
    let b = before_space_sound p o found.1 rest k₂ in
    (found.0, subst (λ (x : Owner). IsOwner x found.0) b.0 (owner_sound found.0 p h₂), w.1 ∙ ap (λ (x : List ℕ). found.0 ++ x) b.1, b.2)

-- the owner of a line is found
pub owner_at_complete : (o : Owner) (name behind : List ℕ) → IsOwner o name → owner_at (name ++ 32 ∷ behind) ≡ Some (o, 32 ∷ behind)
owner_at_complete o name behind h =
    let w = word_at_complete name (32 ∷ behind) (owner_is_word name o h) refl in
    let p = owner_complete name o h in
    rw (w, p) refl

belongs_at : (line : List ℕ) (o : Owner) → BelongsTo line o → (rest : List ℕ) × (owner_at line ≡ Some (o, rest))
belongs_at line o h = (32 ∷ h.1, ap owner_at h.3 ∙ owner_at_complete o h.0 h.1 h.2)

-- what a command says begins with a space
said_begins : (o : Owner) (c : Command) (said : List ℕ) → command_at o said ≡ Some c → (behind : List ℕ) × (said ≡ 32 ∷ behind)
said_begins o c said e =
    bind_then (next_as keyword_of said) (λ first. command_behind first.0 o first.1) c e λ first h k.
    let read = (next_as_reads keyword_says).sound said first.0 first.1 h in
    (read.0 ++ first.1, read.2)

line_at : (line : List ℕ) (o : Owner) (c : Command) → IsLine line o c → (said : List ℕ) × (owner_at line ≡ Some (o, said)) × (command_at o said ≡ Some c)
line_at line o c h =
    let e = command_complete o c h.said h.may_use h.spelled in
    let b = said_begins o c h.said e in
    let whole : line ≡ h.name ++ 32 ∷ b.0 = h.whole ∙ ap (λ (x : List ℕ). h.name ++ x) b.1 in
    (h.said, ap owner_at whole ∙ owner_at_complete o h.name b.0 h.owned ∙ ap (λ (x : List ℕ). Some (o, x)) (sym b.1), e)

-- ---- what is computed is said

decoded : (line : List ℕ) (o : Owner) (rest : List ℕ) → owner_at line ≡ Some (o, rest) → Says line (said_by (ltb max_line (length line)) o rest)
decoded line o rest e = go (ltb max_line (length line)) refl
  where
    belongs : BelongsTo line o
    belongs =
        let s = owner_at_sound line o rest e in
        (s.0, s.3.0, s.1, s.2 ∙ ap (λ (x : List ℕ). s.0 ++ x) s.3.1)

    same_rest : (said : List ℕ) → owner_at line ≡ Some (o, said) → rest ≡ said
    same_rest said k = (some_pair_parts o o rest said (sym e ∙ k)).1

    short : (r : Option Command) → command_at o rest ≡ r → length line ≤ max_line → Says line (owned_line o r)
    short None k fits = (
      belongs,
      λ c h.
          let at = line_at line o c h in
          let same = same_rest at.0 at.1 in
          let none : command_at o rest ≡ Some c = ap (command_at o) same ∙ at.2 in
          absurd (let clash = sym k ∙ none in cc),
    )
    short (Some c) k fits =
        let s = owner_at_sound line o rest e in
        bind_then (next_as keyword_of rest) (λ first. command_behind first.0 o first.1) c k λ first h₁ k₁.
        let read = (next_as_reads keyword_says).sound rest first.0 first.1 h₁ in
        let is = command_sound first.0 o first.1 c k₁ in
        let at = read.2 ∙ ap (λ (x : List ℕ). 32 ∷ x ++ first.1) read.1 in
        record { fits = fits; may_use = is.0; name = s.0; said = rest; owned = s.1; spelled = subst (Spells (parts o c)) (sym at) is.1; whole = s.2 }

    go : (t : Bool) → ltb max_line (length line) ≡ t → Says line (said_by t o rest)
    go true h = (belongs, λ c l. let fits = l.fits in let long = ltb-true max_line (length line) h in omega arith)
    go false h = short (command_at o rest) refl (ltb-false max_line (length line) h)

-- The line says what is computed of it.
pub decode_says : (line : List ℕ) → Says line (decode line)
decode_says line = go (owner_at line) refl
  where
    go : (r : Option (Owner × List ℕ)) → owner_at line ≡ r → Says line (line_of line r)
    go None e = λ o h. let at = belongs_at line o h in absurd (let clash = sym e ∙ at.1 in cc)
    go (Some found) e = decoded line found.0 found.1 e

-- ---- one thing is said

pub belongs_one : (line : List ℕ) (o p : Owner) → BelongsTo line o → BelongsTo line p → o ≡ p
belongs_one line o p h k =
    let at = belongs_at line o h in
    let at' = belongs_at line p k in
    (some_pair_parts o p at.0 at'.0 (sym at.1 ∙ at'.1)).0

pub line_belongs : (line : List ℕ) (o : Owner) (c : Command) → IsLine line o c → BelongsTo line o
line_belongs line o c h =
    let b = said_begins o c h.said (command_complete o c h.said h.may_use h.spelled) in
    (h.name, b.0, h.owned, h.whole ∙ ap (λ (x : List ℕ). h.name ++ x) b.1)

same_commands : {o p : Owner} {said said' : List ℕ} {c d : Command} → (o ≡ p) × (said ≡ said') → command_at o said ≡ Some c → command_at p said' ≡ Some d →
    command o c ≡ command p d
same_commands {p} {said'} {c} same e f =
    let g : command_at p said' ≡ Some c = rw (← same.0, ← same.1) e in
    let first = same.0 in
    let second = some_is (sym g ∙ f) in
    cc

-- A line has at most one owner and at most one command.
pub one_command : (line : List ℕ) (o p : Owner) {c d : Command} → IsLine line o c → IsLine line p d → command o c ≡ command p d
one_command line o p {c} {d} h k =
    let at = line_at line o c h in
    let at' = line_at line p d k in
    same_commands (some_pair_parts o p at.0 at'.0 (sym at.1 ∙ at'.1)) at.2 at'.2

says_one : (line : List ℕ) (l m : Line) → Says line l → Says line m → l ≡ m
says_one line no_owner no_owner h k = refl
says_one line no_owner (no_command p) h k = absurd (h p k.0)
says_one line no_owner (command p d) h k = absurd (h p (line_belongs line p d k))
says_one line (no_command o) no_owner h k = absurd (k o h.0)
says_one line (no_command o) (no_command p) h k = ap no_command (belongs_one line o p h.0 k.0)
says_one line (no_command o) (command p d) h k =
    let same = belongs_one line p o (line_belongs line p d k) h.0 in
    absurd (h.1 d (subst (λ (x : Owner). IsLine line x d) same k))
says_one line (command o c) no_owner h k = absurd (k o (line_belongs line o c h))
says_one line (command o c) (no_command p) h k =
    let same = belongs_one line o p (line_belongs line o c h) k.0 in
    absurd (k.1 c (subst (λ (x : Owner). IsLine line x c) same h))
says_one line (command o c) (command p d) h k = one_command line o p h k

-- What the line says is what is computed of it.
pub says_decode : (line : List ℕ) (l : Line) → Says line l → l ≡ decode line
says_decode line l h = says_one line l (decode line) h (decode_says line)

-- ---- what is kept of a long line

owner_short : (o : Owner) (name : List ℕ) → IsOwner o name → length name ≤ 81
owner_short Page name h = rw h (omega arith)
owner_short (Component q) name h = component_short q name h

-- the front of a list that is longer than its own front
take_longer : (n : ℕ) (xs ys : List ℕ) → length xs ≤ n → (more : List ℕ) × (take n (xs ++ ys) ≡ xs ++ more)
take_longer n xs ys h =
    let split : length xs + (n - length xs) ≡ n = omega arith in
    (take (n - length xs) ys, ap (λ (k : ℕ). take k (xs ++ ys)) (sym split) ∙ take-append-add xs ys (n - length xs))

belongs_take : (n : ℕ) (line : List ℕ) (o : Owner) → 82 ≤ n → BelongsTo line o → BelongsTo (take n line) o
belongs_take n line o long h =
    let front = h.0 ++ 32 ∷ [] in
    let fits : length front ≤ n = omega (arith, owner_short o h.0 h.2, length-append h.0 (32 ∷ [])) in
    let t = take_longer n front h.1 fits in
    let whole : line ≡ front ++ h.1 = h.3 ∙ sym (append_assoc h.0 (32 ∷ []) h.1) in
    (h.0, t.0, h.2, ap (take n) whole ∙ t.1 ∙ append_assoc h.0 (32 ∷ []) t.0)

take_belongs : (n : ℕ) (line : List ℕ) (o : Owner) → BelongsTo (take n line) o → BelongsTo line o
take_belongs n line o h =
    (h.0, h.1 ++ drop n line, h.2, sym (take-append-drop n line) ∙ ap (λ (x : List ℕ). x ++ drop n line) h.3 ∙ append_assoc h.0 (32 ∷ h.1) (drop n line))

-- what a line that is too long says, its front says too
says_take : (n : ℕ) (line : List ℕ) (l : Line) → max_line < n → n ≤ length line → Says line l → Says (take n line) l
says_take n line no_owner long fits h = λ o k. h o (take_belongs n line o k)
says_take n line (no_command o) long fits h =
    (belongs_take n line o (omega (arith, long)) h.0, λ c k. let short = k.fits in absurd (omega (arith, length-take n line)))
says_take n line (command o c) long fits h = absurd (let short = h.fits in omega arith)

-- What is kept of a line says what the line says.
pub decode-kept : (line : List ℕ) → decode (kept_line line) ≡ decode line
unfolding kept_line
decode-kept line = kept (max_line + 1) line (omega arith)
  where
    kept : (n : ℕ) (bytes : List ℕ) → max_line < n → decode (take n bytes) ≡ decode bytes
    kept n bytes long = elim (cases_lt (length bytes) n) [
      | inl lt ↦ ap decode (take_all n bytes (omega arith))
      | inr le ↦ sym (says_decode (take n bytes) (decode bytes) (says_take n bytes (decode bytes) long le (decode_says bytes)))
    ]
