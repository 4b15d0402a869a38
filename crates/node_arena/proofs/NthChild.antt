-- The child at an index, and the steps from one sibling to the next.
use Rattle.std.proofs.Common.{◌≡◌, ℕ, zero, suc, ◌+◌, ◌<◌, ◌≤◌, false, eqb, List, [], ◌∷◌, ◌++◌, length, take, Some, None, refl, sym, ap, ◌∙◌, arith}
use Rattle.std.proofs.Common.{length-append}
use Rattle.std.specs.Prelude.{slice_get}
use Rattle.std.specs.List.{concat}
use Rattle.std.specs.Option.{option_and_then}
use Rattle.std.proofs.lemmas.Bool.{eq-eqb, eqb-true, both_ways, false_from_ne_true}
use Rattle.std.proofs.lemmas.Option.{same_Some, none-some, slice_get_past, slice_get_within}
use Rattle.node_arena.specs.Nodes.{Nodes, children_of, contains, parent_of, head_of, next_in, next_of, IsOnce, IsForest, IsSound}
use Rattle.node_arena.specs.Blocks.{block_of}
use Rattle.node_arena.specs.Known.{AreFirst}
use Rattle.node_arena.proofs.Forests.{parent_of_is}
use Rattle.node_arena.proofs.Indexes.{get-contains}

-- ---- what stands at a place

-- where nothing stands the list has ended
pub not-there : {X : Type 0} (xs : List X) (i : ℕ) → ((x : X) → slice_get xs i ≡ Some x → ⊥) → length xs ≤ i
not-there [] i other = omega arith
not-there (x ∷ xs) zero other = absurd (other x refl)
not-there (x ∷ xs) (suc i) other = omega (arith, not-there xs i other)

get-front : {X : Type 0} (xs ys : List X) (i : ℕ) → i < length xs → slice_get (xs ++ ys) i ≡ slice_get xs i
get-front [] ys i within = absurd (omega arith)
get-front (x ∷ xs) ys zero within = refl
get-front (x ∷ xs) ys (suc i) within = get-front xs ys i (omega arith)

get-behind : {X : Type 0} (xs ys : List X) (i : ℕ) → slice_get (xs ++ ys) (length xs + i) ≡ slice_get ys i
get-behind [] ys i = ap (slice_get ys) (omega arith)
get-behind (x ∷ xs) ys i =
    let further : length (x ∷ xs) + i ≡ suc (length xs + i) = omega arith in
    ap (slice_get (x ∷ xs ++ ys)) further ∙ get-behind xs ys i

-- a key of a block stands in the whole list behind those of the blocks before
pub get-concat : (blocks : List (List ℕ)) (n i : ℕ) → n < length blocks → i < length (block_of blocks n) →
    slice_get (concat blocks) (length (concat (take n blocks)) + i) ≡ slice_get (block_of blocks n) i
get-concat [] n i within here = absurd (omega arith)
get-concat (x ∷ xs) zero i within here =
    let first : length (concat (take 0 (x ∷ xs))) + i ≡ i = omega arith in
    ap (slice_get (x ++ concat xs)) first ∙ get-front x (concat xs) i here
get-concat (x ∷ xs) (suc n) i within here =
    ap (slice_get (x ++ concat xs)) (omega (arith, length-append x (concat (take n xs))))
    ∙ (get-behind x (concat xs) (length (concat (take n xs)) + i) ∙ get-concat xs n i (omega arith) here)

-- what stands among the first of a list
pub get-first : (xs : List ℕ) {list : List ℕ} (i : ℕ) {k : ℕ} → AreFirst xs list → slice_get xs i ≡ Some k → slice_get list i ≡ Some k
get-first xs i {k} first e =
    ap (λ ys. slice_get ys i) first.1 ∙ (get-front xs first.0 i (slice_get_within xs i k e) ∙ e)

pub get-head : (xs : List ℕ) → slice_get xs 0 ≡ head_of xs
get-head [] = refl
get-head (x ∷ xs) = refl

-- what stands at a place among the children of a node is a node, and a child of that one
pub nth-node : {T : Type 0} (s : Nodes T) (p i : ℕ) {k : ℕ} → IsSound s → slice_get (children_of s.children p) i ≡ Some k → k < length s.payloads
nth-node s p i {k} sound e = omega (arith, sound.paired, sound.forest.nodes p k (get-contains (children_of s.children p) i k e))

pub nth-child : {T : Type 0} (s : Nodes T) (p i : ℕ) {k : ℕ} → IsSound s → slice_get (children_of s.children p) i ≡ Some k →
    parent_of s.children k ≡ Some p
nth-child s p i {k} sound e = parent_of_is s.children sound.forest.one_list p k (get-contains (children_of s.children p) i k e)

-- ---- the next sibling

next-at : (xs : List ℕ) (i k : ℕ) → IsOnce xs → slice_get xs i ≡ Some k → next_in xs k ≡ slice_get xs (suc i)
next-at [] i k once e = absurd (none-some k e)
next-at (x ∷ xs) zero k once e = rw (eq-eqb x k (same_Some x k e)) (sym (get-head xs))
next-at (x ∷ xs) (suc i) k once e =
    let apart : eqb x k ≡ false =
    false_from_ne_true _ (λ same. both_ways _ once.0 (ap (contains xs) (eqb-true x k same) ∙ get-contains xs i k e)) in
    rw apart (next-at xs i k once.1 e)

-- the next sibling of the child at an index is the child at the next one
pub next_child-at : {lists : List (List ℕ)} → IsForest lists → (p i k : ℕ) → slice_get (children_of lists p) i ≡ Some k →
    next_of lists k ≡ slice_get (children_of lists p) (suc i)
next_child-at {lists} forest p i k e =
    ap (option_and_then (λ q. next_in (children_of lists q) k)) (parent_of_is lists forest.one_list p k (get-contains (children_of lists p) i k e))
    ∙ next-at (children_of lists p) i k (forest.once p) e

-- nor is there one further behind, where there is no next sibling
pub none-behind : (xs : List ℕ) (i n : ℕ) → slice_get xs i ≡ None → i ≤ n → slice_get xs n ≡ None
none-behind xs i n none behind =
    let ended : length xs ≤ i = not-there xs i (λ x e. none-some x (sym none ∙ e)) in
    slice_get_past xs n (omega (arith, ended, behind))
