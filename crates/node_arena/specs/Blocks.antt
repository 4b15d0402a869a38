-- Keys in blocks, one behind the other, and the number of the block of each key.
use Rattle.std.specs.Prelude.{◌≡◌, ◌≢◌, ◌⊎◌, ℕ, ◌+◌, ◌^◌, ◌<◌, true, false, List, ◌∷◌, ◌++◌, length, slice_get, slice_index_or, Some, []}
use Rattle.std.specs.List.{concat}
use Rattle.node_arena.specs.Nodes.{contains, IsOnce}

-- the keys of a block, none where no block is
abbrev pub block_of : List (List ℕ) → ℕ → List ℕ
block_of blocks n = slice_index_or blocks n []

-- block n is there, and a key at place i in it
abbrev pub IsThere : List (List ℕ) → ℕ → ℕ → Type 0
IsThere blocks n i = (n < length blocks) × (i < length (block_of blocks n))

-- no key is in two blocks
abbrev pub AreApart : List (List ℕ) → Type 0
AreApart blocks = (a b k : ℕ) → contains (block_of blocks a) k ≡ true → contains (block_of blocks b) k ≡ true → a ≡ b

-- each key has the number of its block, which has it once
pub record IsNumbered (blocks : List (List ℕ)) (numbers : List ℕ) : Type 0 where
  pub numbered : (b k : ℕ) → contains (block_of blocks b) k ≡ true → slice_get numbers k ≡ Some b
  pub once : (b : ℕ) → IsOnce (block_of blocks b)

-- those of the first blocks are written, and there is room to write those of the others
pub record IsNumberedBelow (blocks : List (List ℕ)) (numbers : List ℕ) (count : ℕ) : Type 0 where
  pub apart : AreApart blocks
  pub within : (b k : ℕ) → contains (block_of blocks b) k ≡ true → k < length numbers
  pub numbered : (b k : ℕ) → b < count → contains (block_of blocks b) k ≡ true → slice_get numbers k ≡ Some b

-- block n has a key, and no other block has it
pub record IsOnly (blocks : List (List ℕ)) (n key : ℕ) : Type 0 where
  pub found : contains (block_of blocks n) key ≡ true
  pub others : (b : ℕ) → contains (block_of blocks b) key ≡ true → b ≡ n

-- each of the keys has the number, and others have theirs
pub record AreWritten (old new keys : List ℕ) (number : ℕ) : Type 0 where
  pub written : (k : ℕ) → contains keys k ≡ true → slice_get new k ≡ Some number
  pub others : (k : ℕ) → contains keys k ≡ false → slice_get new k ≡ slice_get old k
  pub size : length new ≡ length old

-- no block is empty
abbrev pub AreFilled : List (List ℕ) → Type 0
AreFilled blocks = (b : ℕ) → b < length blocks → 0 < length (block_of blocks b)

-- the numbers, and how many keys there are
pub record IsOrdered (blocks : List (List ℕ)) (numbers : List ℕ) (count : ℕ) : Type 0 where
  pub are_numbered : IsNumbered blocks numbers
  pub filled : AreFilled blocks
  pub counted : count ≡ length (concat blocks)
  pub few : count < 2 ^ 64

-- block n has got a key, and is not empty any more
pub record IsGained (old new : List (List ℕ)) (n key : ℕ) : Type 0 where
  pub front : List ℕ
  pub back : List ℕ
  pub was : block_of old n ≡ front ++ back
  pub is : block_of new n ≡ front ++ key ∷ back
  pub others : (b : ℕ) → b ≢ n → block_of new b ≡ block_of old b
  pub size : (b : ℕ) → b < length new → (b ≡ n) ⊎ (b < length old)

-- block n has become two, of which none is empty, and those behind it have moved up; the keys are the same in the same order
pub record IsSplit (old new : List (List ℕ)) (n : ℕ) : Type 0 where
  pub keys : concat new ≡ concat old
  pub before : (b : ℕ) → b < n → block_of new b ≡ block_of old b
  pub halves : block_of old n ≡ block_of new n ++ block_of new (n + 1)
  pub behind : (b : ℕ) → n < b → block_of new (b + 1) ≡ block_of old b
  pub left : 0 < length (block_of new n)
  pub right : 0 < length (block_of new (n + 1))
  pub size : length new ≡ length old + 1
  pub within : n < length old
