-- No owner has more nodes than it may, and when there is no room for one more.
use Rattle.dom_mutation.proofs.Cited.{◌≡◌, ℕ, ◌+◌, ◌≤◌, inl, inr, true, false, List, sym, ap, subst, ◌∙◌, arith, ◌↔◌, cases_Bool, false_from_ne_true, NodeName}
use Rattle.dom_mutation.proofs.Cited.{Owner, Trees, part_of, is_there, Part, past_limit, NamedTrees, count_of, AllTables, DocState, contents, world_from}
use Rattle.dom_mutation.proofs.Cited.{state_from, IsDoc}
use borrow.Author.Tests.{ltb-true}
use Rattle.dom_mutation.proofs.Worlds.{part_at, part_off}

pub limit_count : (n m : ℕ) → m ≡ n → n ≤ 1000000 → (n ≡ 1000000) ↔ (past_limit m 1 ≡ true)
limit_count n m same few = (
  λ e. ap (λ k. past_limit k 1) (same ∙ e),
  λ h. let more = ltb-true 1000000 (n + 1) (ap (λ k. past_limit k 1) (sym same) ∙ h) in omega arith,
)

-- when there is no room for one node more
limit_at : (names : List NodeName) (ts : Trees) (tables : AllTables) → IsDoc names ts tables → (o : Owner) → is_there (world_from names ts tables) o ≡ true
    → (count_of o names ≡ 1000000) ↔ (past_limit (part_of (world_from names ts tables) o).node_count 1 ≡ true)
limit_at names ts tables held o there =
    let count : (part_of (world_from names ts tables) o).node_count ≡ count_of o names =
    ap (λ (p : Part). p.node_count) (part_at (contents names ts tables) o there) in
    limit_count (count_of o names) (part_of (world_from names ts tables) o).node_count count (held.limited o)

-- no owner has more nodes than it may
pub within_limit : (names : List NodeName) (ts : Trees) {tables : AllTables} → IsDoc names ts tables → (o : Owner) →
    past_limit (part_of (world_from names ts tables) o).node_count 0 ≡ false
within_limit names ts {tables} held o = elim (cases_Bool (is_there (world_from names ts tables) o)) [
  | inl there ↦
      let count : (part_of (world_from names ts tables) o).node_count ≡ count_of o names =
      ap (λ (p : Part). p.node_count) (part_at (contents names ts tables) o there) in
      let few = held.limited o in
      false_from_ne_true _ (λ h. let more = ltb-true 1000000 (count_of o names + 0) (ap (λ n. past_limit n 0) (sym count) ∙ h) in omega arith)
  | inr off ↦ ap (λ (p : Part). past_limit p.node_count 0) (part_off (contents names ts tables) o off)
]

pub limit_held : (f : NamedTrees) {tables : AllTables} {d : DocState} → state_from f.names f.trees tables ≡ d → IsDoc f.names f.trees tables →
    (o : Owner) → is_there d.world o ≡ true
    → {P : Type 0} → (P ↔ (count_of o f.names ≡ 1000000)) → P ↔ (past_limit (part_of d.world o).node_count 1 ≡ true)
limit_held f {tables} is_d held o there {P} limit =
    subst (λ (e : DocState). is_there e.world o ≡ true → P ↔ (past_limit (part_of e.world o).node_count 1 ≡ true)) is_d
    (λ h. let both = limit_at f.names f.trees tables held o h in (λ p. both.0 (limit.0 p), λ e. limit.1 (both.1 e))) there
