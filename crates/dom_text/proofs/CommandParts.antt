-- The readers of the parts of commands: what they read is the part, and each part is read. Words may be left out.
use Rattle.dom_base.proofs.Std.{◌||◌, ◌≡◌, Bool, true, false, [], ◌∷◌, Some, refl, arith, ◌≢◌, ℕ, cond, List, Option, None, sym, ap, subst, ◌∙◌, codes}
use Rattle.dom_base.proofs.Std.{bytes_eq, or_parts, false_from_ne_true, other_text}
use Rattle.dom_model.proofs.Model.{Owner, Move, Action, Word}
use Rattle.dom_base.specs.declared.Move.TheVariants as moves
use Rattle.dom_base.specs.declared.Action.TheVariants as actions
use Rattle.dom_text.specs.Definitions.{Keyword, keyword_word, keywords, action_word, actions_listed, move_word, moves_listed, end_word, IsWord, Spells, key}
use Rattle.dom_text.specs.Definitions.{label, number, node, range, iterator, walker, observed, LinePart, flag, perhaps, ◌>>=◌, named, next_word, next_as}
use Rattle.dom_text.specs.Definitions.{flag_found, flag_at, last_as, node_at, range_number_at, iterator_number_at, walker_number_at, observer_number_at}
use Rattle.dom_text.specs.Definitions.{number_at, label_at, to_start_at, action_at, move_at}
use Rattle.dom_text.specs.Commands as keyword
use Rattle.dom_text.specs.Decode.{keyword_of}
use Rattle.dom_text.proofs.PartLaws.{LineReader, ended, SaysPart, ReadsPart, next_as_reads, next_word_reads, Spells-ends, one_part}
use Rattle.dom_text.proofs.NumberLaws.{number_says, numbered_says, bytes_eq-true, eq-bytes_eq}
use Rattle.dom_text.proofs.NodeLaws.{node_says}
use Rattle.dom_text.proofs.NameLaws.{word_by_test, named_says, label_says}
use Rattle.dom_text.proofs.WordLaws.{bind_then, some_is}

-- ---- what is found

flag_found_sound : (name bytes : List ℕ) (o : Option (Word × List ℕ)) → next_word bytes ≡ o → (others : List LinePart) →
    Spells others (flag_found name bytes o).1 → Spells (flag (flag_found name bytes o).0 name others) bytes
flag_found_sound name bytes None e others s = s
flag_found_sound name bytes (Some found) e others s = go (bytes_eq found.0 name) refl s
  where
    go : (t : Bool) → bytes_eq found.0 name ≡ t → Spells others (cond {A = Bool × List ℕ} t (true, found.1) (false, bytes)).1 →
        Spells (flag (cond {A = Bool × List ℕ} t (true, found.1) (false, bytes)).0 name others) bytes
    go true h k =
        let read = next_word_reads.sound bytes found.0 found.1 e in
        (read.0, found.1, read.1.0 ∙ bytes_eq-true found.0 name h, k, read.2)
    go false h k = k

-- where the others are spelled behind the word, so are the word, if it was found, and the others
pub flag_sound : (name bytes : List ℕ) (others : List LinePart) → Spells others (flag_at name bytes).1 → Spells (flag (flag_at name bytes).0 name others) bytes
flag_sound name bytes others s = flag_found_sound name bytes (next_word bytes) refl others s

-- ---- what is there is found

-- no line of these parts has this word first
pub record Avoids (name : List ℕ) (parts : List LinePart) : Type 0 where
  pub avoids : (bytes rest : List ℕ) → Spells parts bytes → next_word bytes ≡ Some (name, rest) → ⊥

pub avoids_nothing : (name : List ℕ) → Avoids name []
avoids_nothing name = record {
  avoids = λ bytes rest s e. absurd
      (let no' : next_word [] ≡ Some (name, rest) = subst (λ (x : List ℕ). next_word x ≡ Some (name, rest)) s e in cc);
}

-- parts of which the first is another word
pub avoids_word : (name : List ℕ) (part : LinePart) (others : List LinePart) → ((text : List ℕ) → part text → IsWord text × (text ≢ name)) →
    Avoids name (part ∷ others)
avoids_word name part others differs = record {
  avoids = λ bytes rest s e.
      let d = differs s.0 s.2 in
      let read : next_word bytes ≡ Some (s.0, s.1) = rw (s.4) (next_word_reads.complete s.0 s.1 s.0 (refl, d.0) (Spells-ends others s.1 s.3)) in
      d.1 (ap (λ (x : Word × List ℕ). x.0) (some_is (sym read ∙ e)));
}

-- the first part is this other word
pub avoids_key : (name other : List ℕ) (others : List LinePart) → IsWord other → bytes_eq other name ≡ false → Avoids name (key other ∷ others)
avoids_key name other others w differs = avoids_word name (key other) others (λ text e. rw e (w, other_text other name (sym differs)))

pub flag_complete : {name : List ℕ} (b : Bool) (others : List LinePart) (bytes : List ℕ) → IsWord name → (b ≡ false → Avoids name others) →
    Spells (flag b name others) bytes →
    (rest : List ℕ) × (flag_at name bytes ≡ (b, rest)) × Spells others rest
flag_complete {name} true others bytes w a s =
    let read : next_word bytes ≡ Some (name, s.1) = rw (s.4) (next_word_reads.complete s.0 s.1 name (s.2, w) (Spells-ends others s.1 s.3)) in
    (s.1, rw (read, eq-bytes_eq name) refl, s.3)
flag_complete {name} false others bytes w a s = (bytes, go (next_word bytes) refl, s)
  where
    go : (o : Option (Word × List ℕ)) → next_word bytes ≡ o → flag_found name bytes o ≡ (false, bytes)
    go None e = refl
    go (Some found) e = rw (false_from_ne_true (bytes_eq found.0 name)
        (λ h. (a refl).avoids bytes found.1 s (e ∙ ap (λ (x : List ℕ). Some (x, found.1)) (bytes_eq-true found.0 name h)))) refl

-- ---- readers of such words

-- a reader of the rest of a line, and which words may come first in it
pub record FlagReader (C : Type 0) : Type 1 where
  pub reader : LineReader C
  pub begins : List ℕ → Bool
  pub avoids : (name : List ℕ) → begins name ≡ false → (x : reader.Values) → Avoids name (reader.parts x)

-- nothing follows
abbrev pub no_flags : {C : Type 0} → C → FlagReader C
no_flags c = record { reader = ended c; begins = λ name. false; avoids = λ name h x. avoids_nothing name }

-- a word that may be left out, and the rest, in which it does not come first
module _ {C : Type 0} (name : List ℕ) (w : IsWord name) (next : Bool → FlagReader C) (differs : (next false).begins name ≡ false) where
  pub then_avoids : (other : List ℕ) → (bytes_eq name other || (next false).begins other) ≡ false → (x : (b : Bool) × (next b).reader.Values) →
      Avoids other (flag x.0 name ((next x.0).reader.parts x.1))
  then_avoids other h (true, x) =
      avoids_key other name ((next true).reader.parts x) w (or_parts (bytes_eq name other) ((next false).begins other) h).0
  then_avoids other h (false, x) = (next false).avoids other (or_parts (bytes_eq name other) ((next false).begins other) h).1 x

  pub then_reads : (bytes : List ℕ) (x : (b : Bool) × (next b).reader.Values) → Spells (flag x.0 name ((next x.0).reader.parts x.1)) bytes →
      (next (flag_at name bytes).0).reader.reads (flag_at name bytes).1 ≡ Some ((next x.0).reader.makes x.1)
  then_reads bytes (true, x) s =
      let f = flag_complete true ((next true).reader.parts x) bytes w (λ e. absurd cc) s in
      rw (f.1) ((next true).reader.complete f.0 x f.2)
  then_reads bytes (false, x) s =
      let f = flag_complete false ((next false).reader.parts x) bytes w (λ e. (next false).avoids name differs x) s in
      rw (f.1) ((next false).reader.complete f.0 x f.2)

  abbrev pub flag_then : FlagReader C
  flag_then = record {
    reader = record {
      reads = λ bytes. (next (flag_at name bytes).0).reader.reads (flag_at name bytes).1;
      Values = (b : Bool) × (next b).reader.Values;
      makes = λ x. (next x.0).reader.makes x.1;
      parts = λ x. flag x.0 name ((next x.0).reader.parts x.1);
      sound = λ bytes c e.
          let f = flag_at name bytes in
          let s = (next f.0).reader.sound f.1 c e in
          ((f.0, s.0), s.1, flag_sound name bytes ((next f.0).reader.parts s.0) s.2);
      complete = then_reads;
    };
    begins = λ other. bytes_eq name other || (next false).begins other;
    avoids = then_avoids;
  }

-- ---- the last word

pub last_sound : {A : Type 0} (says : List ℕ → Option A) {P : A → LinePart} → ReadsPart (next_as says) P → (bytes : List ℕ) (o : Option A) →
    last_as says bytes ≡ Some o → Spells (perhaps P o) bytes
last_sound {A} says {P} reads [] o e = subst (λ (x : Option A). Spells (perhaps P x) []) (some_is e) refl
last_sound {A} says {P} reads (b ∷ bytes) o e =
    let s = (one_part reads Some).sound (b ∷ bytes) o e in
    subst (λ (x : Option A). Spells (perhaps P x) (b ∷ bytes)) s.1 s.2

pub last_complete : {A : Type 0} (says : List ℕ → Option A) {P : A → LinePart} → ReadsPart (next_as says) P → (bytes : List ℕ) (o : Option A) →
    Spells (perhaps P o) bytes → last_as says bytes ≡ Some o
last_complete says reads [] None s = refl
last_complete says reads (b ∷ bytes) None s = absurd cc
last_complete says reads [] (Some x) s = absurd (let e = s.4 in cc)
last_complete says reads (b ∷ bytes) (Some x) s = (one_part reads Some).complete (b ∷ bytes) (x, tt) s

-- ---- the readers of the parts

pub node_reads : (o : Owner) → ReadsPart (node_at o) (node o)
node_reads o = next_as_reads (node_says o)

pub number_reads : ReadsPart number_at number
number_reads = next_as_reads number_says

pub range_reads : ReadsPart range_number_at range
range_reads = next_as_reads (numbered_says 114 (omega arith, omega arith))

pub iterator_reads : ReadsPart iterator_number_at iterator
iterator_reads = next_as_reads (numbered_says 105 (omega arith, omega arith))

pub walker_reads : ReadsPart walker_number_at walker
walker_reads = next_as_reads (numbered_says 119 (omega arith, omega arith))

pub observer_reads : ReadsPart observer_number_at observed
observer_reads = next_as_reads (numbered_says 111 (omega arith, omega arith))

pub label_reads : ReadsPart label_at label
label_reads = next_as_reads label_says

pub move_found : (m : Move) → named move_word moves_listed (move_word m) ≡ Some m
move_found moves.Parent = refl
move_found m = refl

pub move_is_word : (m : Move) → IsWord (move_word m)
move_is_word moves.Parent = word_by_test (codes "parent") refl refl
move_is_word m = word_by_test (move_word m) refl refl

pub move_reads : ReadsPart move_at (λ m. key (move_word m))
move_reads = next_as_reads (named_says move_word moves_listed move_found move_is_word)

pub action_found : (a : Action) → named action_word actions_listed (action_word a) ≡ Some a
action_found actions.Log = refl
action_found a = refl

pub action_is_word : (a : Action) → IsWord (action_word a)
action_is_word actions.Log = word_by_test (codes "log") refl refl
action_is_word a = word_by_test (action_word a) refl refl

pub action_reads : ReadsPart action_at (λ a. key (action_word a))
action_reads = next_as_reads (named_says action_word actions_listed action_found action_is_word)

pub end_found : (b : Bool) → named end_word (true ∷ false ∷ []) (end_word b) ≡ Some b
end_found true = refl
end_found false = refl

pub end_is_word : (b : Bool) → IsWord (end_word b)
end_is_word true = word_by_test (codes "start") refl refl
end_is_word false = word_by_test (codes "end") refl refl

pub end_reads : ReadsPart to_start_at (λ b. key (end_word b))
end_reads = next_as_reads (named_says end_word (true ∷ false ∷ []) end_found end_is_word)

pub keyword_found : (k : Keyword) → keyword_of (keyword_word k) ≡ Some k
unfolding keyword_of
keyword_found keyword.New = refl
keyword_found k = refl

pub keyword_is_word : (k : Keyword) → IsWord (keyword_word k)
keyword_is_word keyword.New = word_by_test (codes "new") refl refl
keyword_is_word k = word_by_test (keyword_word k) refl refl

pub keyword_says : SaysPart keyword_of (λ k. key (keyword_word k))
unfolding keyword_of
keyword_says = named_says keyword_word keywords keyword_found keyword_is_word

-- a last part that may be left out, of which something is made
module _ {A C : Type 0} (given : List ℕ → Option A) (said : A → List LinePart)
    (is_said : (bytes : List ℕ) (x : A) → given bytes ≡ Some x → Spells (said x) bytes)
    (is_given : (bytes : List ℕ) (x : A) → Spells (said x) bytes → given bytes ≡ Some x) where
  abbrev pub last_then : (A → C) → LineReader C
  last_then makes = record {
    reads = λ bytes. given bytes >>= λ x. Some (makes x);
    Values = A;
    makes = makes;
    parts = said;
    sound = λ bytes c e. bind_then (given bytes) (λ x. Some (makes x)) c e λ x h k. (x, some_is k, is_said bytes x h);
    complete = λ bytes x s. rw (is_given bytes x s) refl;
  }
