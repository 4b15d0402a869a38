-- Owners: the test of equality, how deep they are, and whom an owner's attaches make. All own rules.
use Rattle.std.specs.Prelude.{◌≡◌, IsTrue, ℕ, zero, suc, Bool, true, false, ◌&&◌, ◌==◌, nat_le, nat_lt, List, [], ◌∷◌, length, take, drop, slice_get, slice_set}
use Rattle.std.specs.Prelude.{Option, Some, None, if◌then◌else◌}
use Rattle.std.specs.List.{flat_map, list_all}
use Rattle.std.specs.Hash as fed
use Rattle.std.proofs.Common.{ap, sym, ◌∙◌}
use Rattle.std.proofs.lemmas.Bool.{and_parts, eqb-true}
use Rattle.std.specs.Option.{option_and_then}
use Rattle.std.specs.Cmp.Lexicographic.{pointwise, same_text}
use Rattle.dom_base.specs.declared.Owner.{Owner}
use Rattle.dom_base.specs.declared.Owner.TheVariants.{Page, Component}
use Rattle.dom_base.specs.declared.OwnerPath.{OwnerPath}
use Rattle.dom_base.specs.declared.TheConstants.{MAX_DEPTH}

-- whether two paths are the same
abbrev pub path_eq : OwnerPath → OwnerPath → Bool
path_eq p q = (p.depth == q.depth) && pointwise ◌==◌ p.parts q.parts

-- two paths that the test finds the same are one
pub path_eq-true : (p q : OwnerPath) → path_eq p q ≡ true → p ≡ q
path_eq-true p q e =
    let both = and_parts (p.depth == q.depth) (pointwise ◌==◌ p.parts q.parts) e in
    let joined : ℕ → List ℕ → OwnerPath = λ d parts. record { depth = d; parts = parts } in
    ap (λ d. joined d p.parts) (eqb-true p.depth q.depth both.0) ∙ ap (joined q.depth) (same_text p.parts q.parts (sym both.1))

-- what is fed to the hash of a path: its numbers, without the zeros behind them
abbrev pub path_hash : OwnerPath → List (List ℕ)
path_hash path = flat_map fed.u32 (take path.depth path.parts)

-- paths that are the same feed it alike
pub same_paths_hash_alike : (p q : OwnerPath) → IsTrue (path_eq p q) → path_hash p ≡ path_hash q
same_paths_hash_alike p q same = ap path_hash (path_eq-true p q same)

-- whether two owners are the same: every test of owners is this one
abbrev pub owner_eq : Owner → Owner → Bool
owner_eq Page Page = true
owner_eq (Component p) (Component q) = path_eq p q
owner_eq _ _ = false

-- the path of the page, which has no number
abbrev pub no_path : OwnerPath
no_path = record { depth = 0; parts = 0 ∷ 0 ∷ 0 ∷ 0 ∷ 0 ∷ 0 ∷ 0 ∷ 0 ∷ [] }

-- an owner's path
abbrev pub path_of : Owner → OwnerPath
path_of Page = no_path
path_of (Component q) = q

-- how many closed shadow roots lie between the page and an owner's nodes: as many as its word has numbers
abbrev pub owner_depth : Owner → ℕ
owner_depth o = (path_of o).depth

-- the most there can be
unfoldable pub max_depth : ℕ
max_depth = MAX_DEPTH

-- a path with one number more
abbrev pub longer_path : OwnerPath → ℕ → OwnerPath
longer_path q n = record { depth = suc q.depth; parts = slice_set q.parts q.depth n }

-- Whoever attaches is numbered from 0 on by each of its attaches: who then owns the shadow root. Its word is that of its maker with
-- one number more, which counts from 1 on.
abbrev pub component_made : Owner → ℕ → Owner
component_made maker k = Component (longer_path (path_of maker) (suc k))

-- whether a path is that of a component's word: one number or more, none of them 0, and zeros behind them
abbrev pub is_path : OwnerPath → Bool
is_path q =
    nat_le 1 q.depth && (nat_le q.depth max_depth && ((length q.parts == max_depth)
    && (list_all (nat_le 1) (take q.depth q.parts) && list_all (λ n. n == 0) (drop q.depth q.parts))))

-- whether an owner has a word
abbrev pub has_word : Owner → Bool
has_word Page = true
has_word (Component q) = is_path q

-- whether an owner may attach shadow roots: its word has room for one number more
abbrev pub may_attach : Owner → Bool
may_attach o = has_word o && nat_lt (owner_depth o) max_depth

-- the owner whose word has so many numbers: the page, where it has none
abbrev pub owner_at : ℕ → List ℕ → Owner
owner_at zero parts = Page
owner_at (suc depth) parts = Component (record { depth = suc depth; parts = parts })

-- a value, if so
abbrev pub some_if : {X : Type 0} → Bool → X → Option X
some_if b x = if b then Some x else None

-- the maker and the attach's number behind the last number of a path, where this attach makes a component of that path
abbrev pub made_as : OwnerPath → Owner → ℕ → Option (Owner × ℕ)
made_as q maker zero = None
made_as q maker (suc k) = some_if (owner_eq (component_made maker k) (Component q)) (maker, k)

-- the maker and the attach's number behind a path's first numbers, so many of them: its maker's is the path without the last one
abbrev pub made_at : OwnerPath → ℕ → Option (Owner × ℕ)
made_at q zero = None
made_at q (suc depth) = option_and_then (made_as q (owner_at depth (slice_set q.parts depth 0))) (slice_get q.parts depth)

-- who attached an owner's shadow root, and as which one of its attaches: nobody the page's, nor that of a path that no attach makes
abbrev pub made_by : Owner → Option (Owner × ℕ)
made_by Page = None
made_by (Component q) = made_at q q.depth
