-- What passed the tests of an insertion or a replacement.
use Rattle.dom_base.proofs.Std.{◌≡◌, Bool, true, false, not, List, drop, filter, Option, None, refl, sym, true≢false, not-false, option_map_or}
use Rattle.dom_model.proofs.Model.{Kind, Shadow, NodeName, Hierarchy, NotFound, name_eq, first_refusal, placing_tests, pre_insert_refusal}
use Rattle.dom_model.proofs.Model.{replace_refusal, has_parent, may_be_parent, may_be_inserted, has_data, is_shadow, parent-open, is_inclusive_ancestor}
use Rattle.dom_model.proofs.Model.{child_nodes, kind_of, Trees, Node}
use Rattle.dom_worlds.proofs.Effects.{next-test}

-- the node is not above the parent, which takes children, and is none that only stands on top
pub record IsPlaceable (ts : Trees) (parent x : NodeName) : Type 0 where
  pub apart : is_inclusive_ancestor ts x parent ≡ false
  pub opened : has_data (kind_of ts parent) ≡ false
  pub inserted : may_be_inserted (kind_of ts x) ≡ true
  pub plain : is_shadow (kind_of ts x) ≡ false

inserted-plain : (k : Kind) → may_be_inserted k ≡ true → is_shadow k ≡ false
inserted-plain Shadow h = absurd (true≢false (sym h))
inserted-plain k h = refl

-- by the tests
tested : (ts : Trees) (parent x : NodeName) (is_lost : Bool) (others : List Node) →
    first_refusal (placing_tests ts parent x is_lost others) ≡ None → IsPlaceable ts parent x
tested ts parent x is_lost others h =
    let tests = placing_tests ts parent x is_lost others in
    let a = next-test (not (may_be_parent (kind_of ts parent))) Hierarchy (drop 1 tests) h in
    let b = next-test (is_inclusive_ancestor ts x parent) Hierarchy (drop 2 tests) a.1 in
    let c = next-test is_lost NotFound (drop 3 tests) b.1 in
    let d = not-false (may_be_inserted (kind_of ts x)) (next-test (not (may_be_inserted (kind_of ts x))) Hierarchy (drop 4 tests) c.1).0 in
    record {
      apart = b.0;
      opened = parent-open (kind_of ts parent) (not-false (may_be_parent (kind_of ts parent)) a.0);
      inserted = d;
      plain = inserted-plain (kind_of ts x) d;
    }

-- of an insertion and a replacement
pub insertion-tested : (ts : Trees) (parent x : NodeName) (child : Option NodeName) → pre_insert_refusal ts parent x child ≡ None → IsPlaceable ts parent x
insertion-tested ts parent x child h = tested ts parent x (option_map_or (λ c. not (has_parent ts parent c)) child false) (child_nodes ts parent) h

pub replacement-tested : (ts : Trees) (parent x child : NodeName) → replace_refusal ts parent x child ≡ None → IsPlaceable ts parent x
replacement-tested ts parent x child h =
    tested ts parent x (not (has_parent ts parent child)) (filter (λ (n : Node). not (name_eq n.name child)) (child_nodes ts parent)) h
