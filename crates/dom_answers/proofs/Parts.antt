-- Parts of arrays that grow.
use Rattle.dom_base.proofs.Std.{◌≡◌, ℕ, ◌+◌, ◌≤◌, suc, zero, List, [], ◌∷◌, ◌++◌, length, take, drop, map, refl, ap, sym, ◌∙◌, subst, arith, common_steps}
use Rattle.dom_base.proofs.Std.{drop-append-le, take-append-le, length-append, take_all}
use Rattle.std.proofs.Math.Seq.{drop-append_seam}
use Rattle.dom_base.proofs.Std.{IfSome, Option, slice_get}
use Rattle.std.specs.List.{AllByRecursion}
use Rattle.dom_answers.specs.declared.items.AttributeSpans.{AttributeSpans}
use Rattle.dom_answers.specs.declared.items.Row.{Row}
use Rattle.dom_answers.specs.declared.items.Span.{Span}
use Rattle.dom_answers.specs.Arrays.{Arrays, Grows, Holds, Keeps}
use Rattle.dom_answers.specs.Parts.{part}

-- ---- one array

-- an array keeps its own parts
pub keeps-same : {X : Type 0} (xs : List X) → Keeps xs xs
keeps-same xs span inside = (inside, refl)

-- parts that are kept twice
pub keeps-then : {X : Type 0} (xs ys zs : List X) → Keeps xs ys → Keeps ys zs → Keeps xs zs
keeps-then xs ys zs first second span inside =
    let one = first span inside in
    let two = second span one.0 in
    (two.0, two.1 ∙ one.1)

-- what a part holds is kept
pub holds-then : {X : Type 0} (xs ys : List X) (span : Span) (items : List X) → Holds xs span items → Keeps xs ys → Holds ys span items
holds-then xs ys span items held kept = let later = kept span held.0 in (later.0, later.1 ∙ held.1)

-- where a part begins, how long it is, and what is left there
begins_inside : (k n m : ℕ) → k + n ≤ m → k ≤ m
begins_inside k n m h = omega arith

inside_longer : (k n m l : ℕ) → k + n ≤ m → k + n ≤ m + l
inside_longer k n m l h = omega arith

itself : (n : ℕ) → n ≤ n
itself n = omega arith

room_left : {X : Type 0} (xs : List X) (k n : ℕ) → k + n ≤ length xs → n ≤ length (drop k xs)
room_left xs k n h = grind (arith, common_steps)

-- an array with more things after its own keeps its parts
pub keeps-append : {X : Type 0} (xs more : List X) → Keeps xs (xs ++ more)
keeps-append {X = X} xs more span inside = (
  subst (λ (n : ℕ). span.at + span.count ≤ n) (sym (length-append xs more)) (inside_longer span.at span.count (length xs) (length more) inside),
  ap (take span.count) (drop-append-le span.at xs more (begins_inside span.at span.count (length xs) inside))
      ∙ take-append-le span.count (drop span.at xs) more (room_left xs span.at span.count inside),
)

-- the part that the things after an array's own are
pub holds-new : {X : Type 0} (xs more : List X) → Holds (xs ++ more) (record { at = length xs; count = length more }) more
holds-new {X = X} xs more = (
  subst (λ (n : ℕ). length xs + length more ≤ n) (sym (length-append xs more)) (itself (length xs + length more)),
  ap (take (length more)) (drop-append_seam xs more) ∙ take_all (length more) more (omega arith),
)

-- the part of this beginning and length
pub holds-at : {X : Type 0} (xs ys more : List X) (span : Span) → ys ≡ xs ++ more → span ≡ record { at = length xs; count = length more } → Holds ys span more
holds-at {X = X} xs ys more span e f =
    subst (λ (s : Span). Holds ys s more) (sym f)
    (subst (λ (zs : List X). Holds zs (record { at = length xs; count = length more }) more) (sym e) (holds-new xs more))

-- ---- facts of each thing

module _ {X : Type 0} (P : X → Type 0) where
  -- after some
  pub all-drop : (n : ℕ) (xs : List X) → AllByRecursion P xs → AllByRecursion P (drop n xs)
  all-drop zero xs h = h
  all-drop (suc n) [] h = tt
  all-drop (suc n) (x ∷ xs) h = all-drop n xs h.1

  -- the first of them
  pub all-take : (n : ℕ) (xs : List X) → AllByRecursion P xs → AllByRecursion P (take n xs)
  all-take zero xs h = tt
  all-take (suc n) [] h = tt
  all-take (suc n) (x ∷ xs) h = (h.0, all-take n xs h.1)

  -- those of a part
  pub all-part : (xs : List X) (span : Span) → AllByRecursion P xs → AllByRecursion P (part xs span)
  all-part xs span h = all-take span.count (drop span.at xs) (all-drop span.at xs h)

  -- the one at a place, if there is one
  one-there : (xs : List X) (k : ℕ) → AllByRecursion P xs → IfSome (slice_get xs k) P
  one-there [] k h = tt
  one-there (x ∷ xs) zero h = h.0
  one-there (x ∷ xs) (suc k) h = one-there xs k h.1

  pub all-get : (xs : List X) (k : ℕ) (found : Option X) → found ≡ slice_get xs k → AllByRecursion P xs → IfSome found P
  all-get xs k found e h = subst (λ (o : Option X). IfSome o P) (sym e) (one-there xs k h)

  -- of two lists, one after the other
  pub all-append : (xs ys : List X) → AllByRecursion P xs → AllByRecursion P ys → AllByRecursion P (xs ++ ys)
  all-append [] ys h k = k
  all-append (x ∷ xs) ys h k = (h.0, all-append xs ys h.1 k)

  -- of the second of them
  pub all-second : (xs ys : List X) → AllByRecursion P (xs ++ ys) → AllByRecursion P ys
  all-second [] ys h = h
  all-second (x ∷ xs) ys h = all-second xs ys h.1

-- a fact that follows from another one
pub all-weaker : {X : Type 0} (P Q : X → Type 0) → ((x : X) → P x → Q x) → (xs : List X) → AllByRecursion P xs → AllByRecursion Q xs
all-weaker P Q f [] h = tt
all-weaker P Q f (x ∷ xs) h = (f x h.0, all-weaker P Q f xs h.1)

-- two views that are alike for each thing
pub map-alike : {X Y : Type 0} (f g : X → Y) (P : X → Type 0) → ((x : X) → P x → f x ≡ g x) → (xs : List X) → AllByRecursion P xs → map f xs ≡ map g xs
map-alike f g P e [] h = refl
map-alike {X = X} {Y = Y} f g P e (x ∷ xs) h = ap (λ (y : Y). y ∷ map f xs) (e x h.0) ∙ ap (λ (ys : List Y). g x ∷ ys) (map-alike f g P e xs h.1)

-- ---- all arrays

-- arrays keep their own parts
pub grows-same : (a : Arrays) → Grows a a
grows-same a = record {
  nodes = keeps-same a.nodes;
  units = keeps-same a.units;
  bytes = keeps-same a.bytes;
  rows = keeps-same a.rows;
  attributes = keeps-same a.attributes;
}

-- arrays that grew twice
pub grows-then : (a b c : Arrays) → Grows a b → Grows b c → Grows a c
grows-then a b c first second = record {
  nodes = keeps-then a.nodes b.nodes c.nodes first.nodes second.nodes;
  units = keeps-then a.units b.units c.units first.units second.units;
  bytes = keeps-then a.bytes b.bytes c.bytes first.bytes second.bytes;
  rows = keeps-then a.rows b.rows c.rows first.rows second.rows;
  attributes = keeps-then a.attributes b.attributes c.attributes first.attributes second.attributes;
}

-- arrays with more rows
pub grows-rows : (a b : Arrays) (more : List Row) → b ≡ record a { rows = a.rows ++ more } → Grows a b
grows-rows a b more e = subst (λ (c : Arrays). Grows a c) (sym e) (record {
  nodes = keeps-same a.nodes;
  units = keeps-same a.units;
  bytes = keeps-same a.bytes;
  rows = keeps-append a.rows more;
  attributes = keeps-same a.attributes;
})

-- with more attributes
pub grows-attributes : (a b : Arrays) (more : List AttributeSpans) → b ≡ record a { attributes = a.attributes ++ more } → Grows a b
grows-attributes a b more e = subst (λ (c : Arrays). Grows a c) (sym e) (record {
  nodes = keeps-same a.nodes;
  units = keeps-same a.units;
  bytes = keeps-same a.bytes;
  rows = keeps-same a.rows;
  attributes = keeps-append a.attributes more;
})

-- the part that more bytes are
pub bytes-held : (a b : Arrays) (more : List ℕ) (span : Span) → b ≡ record a { bytes = a.bytes ++ more }
    → span ≡ record { at = length a.bytes; count = length more }
    → Holds b.bytes span more
bytes-held a b more span e f = holds-at a.bytes b.bytes more span (ap (λ (x : Arrays). x.bytes) e) f

-- what `search` joins growths by
pub ruleset growing = (grows-then, grows-same)
