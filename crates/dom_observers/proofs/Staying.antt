-- Registrations stay on nodes of their owner, and records go on naming them.
use Rattle.dom_base.proofs.Std.{◌≡◌, ℕ, ◌<◌, Bool, true, false, List, ◌++◌, length, arith, refl, sym, ap, subst, ◌∙◌, nat_eq, if◌then◌else◌, get_or-append}
use Rattle.dom_base.proofs.Std.{length-append}
use Rattle.dom_model.proofs.Model.{NodeName, Owner, Page, owner_eq, node_of, owner_eq-true}
use Rattle.dom_observers.specs.Definitions.{AreAll, IsChangeAt, SpeaksOf, tables_of, ChangesTables, IsOwnKey, AreOwnTables, NoneStay, SameStay, MoreStay}
use Rattle.dom_observers.specs.Definitions.{KeysStay, RecordsStay, MadeStay, ObservingStay, DisconnectedStay, EmptiedStay, ToldStay, LeftStay, NotifiedStay}
use Rattle.dom_observers.specs.Definitions.{NonePendingStay, TellingStay}
use Rattle.dom_observers.specs.Definitions.{TablesOf, disconnected, TablesByOwner}
use Rattle.dom_observers.proofs.Speaking.{all_got, speaks_none, speaks_made, speaks_observing, speaks_disconnected, speaks_emptied, speaks_told}
use Rattle.dom_observers.proofs.Speaking.{speaks_left, speaks_notified, speaks_none_pending, speaks_telling, speaks_more}

-- one owner's tables are new
module _ (names : List NodeName) (was now : TablesByOwner) (o : Owner) (own : AreOwnTables names was) where
  own-changed : (t : TablesOf ℕ) → SpeaksOf (IsOwnKey names o) t → ChangesTables o t was now → AreOwnTables names now
  own-changed t new change p = subst (SpeaksOf (IsOwnKey names p)) (sym (change p)) (by (owner_eq o p) refl)
    where
      by : (b : Bool) → owner_eq o p ≡ b → SpeaksOf (IsOwnKey names p) (if b then t else tables_of was p)
      by true e = subst (λ (q : Owner). SpeaksOf (IsOwnKey names q) t) (owner_eq-true o p e) new
      by false e = own p

pub none-stay : NoneStay
none-stay names all e o = subst (SpeaksOf (IsOwnKey names o)) (sym (e o)) (speaks_none (IsOwnKey names o))

pub same-stay : SameStay
same-stay names was now own same o = subst (SpeaksOf (IsOwnKey names o)) (sym (same o)) (own o)

pub more-stay : MoreStay
more-stay names more all own o = speaks_more (IsOwnKey names o) (IsOwnKey (names ++ more) o) longer (tables_of all o) (own o)
  where
    longer : (k : ℕ) → IsOwnKey names o k → IsOwnKey (names ++ more) o k
    longer k h = record {
      node = let n = h.node in let e = length-append names more in omega arith;
      owner = ap (λ (x : NodeName). x.owner) (get_or-append names more (node_of Page 0) k h.node) ∙ h.owner;
    }

pub keys-stay : KeysStay
keys-stay names all own o = speaks_more (IsOwnKey names o) (λ k. k < length names) (λ k h. h.node) (tables_of all o) (own o)

pub records-stay : RecordsStay
records-stay names all own o k records e = all_got (AreAll (IsChangeAt (IsOwnKey names o))) (tables_of all o).record_queues k records (own o).records e

pub made-stay : MadeStay
made-stay names was now o own = own-changed names was now o own _ (speaks_made (IsOwnKey names o) (tables_of was o) (own o))

pub observing-stay : ObservingStay
observing-stay names was now o k x w own at =
    own-changed names was now o own _ (speaks_observing (IsOwnKey names o) nat_eq k x w (tables_of was o) (own o) at)

pub disconnected-stay : DisconnectedStay
disconnected-stay names was now o k there own = own-changed names was now o own _ (by there)
  where
    by : (b : Bool) → SpeaksOf (IsOwnKey names o) (if b then disconnected k (tables_of was o) else tables_of was o)
    by true = speaks_disconnected (IsOwnKey names o) k (tables_of was o) (own o)
    by false = own o

pub emptied-stay : EmptiedStay
emptied-stay names was now o k own = own-changed names was now o own _ (speaks_emptied (IsOwnKey names o) k (tables_of was o) (own o))

pub told-stay : ToldStay
told-stay names was now o path c own at = own-changed names was now o own _ (speaks_told (IsOwnKey names o) nat_eq path c (tables_of was o) (own o) at)

pub left-stay : LeftStay
left-stay names was now o x path own at = own-changed names was now o own _ (speaks_left (IsOwnKey names o) nat_eq x path (tables_of was o) (own o) at)

pub notified-stay : NotifiedStay
notified-stay names was now o own = own-changed names was now o own _ (speaks_notified (IsOwnKey names o) (tables_of was o) (own o))

pub none-pending-stay : NonePendingStay
none-pending-stay names was now o own = own-changed names was now o own _ (speaks_none_pending (IsOwnKey names o) (tables_of was o) (own o))

pub telling-stay : TellingStay
telling-stay names was now o k own = own-changed names was now o own _ (speaks_telling (IsOwnKey names o) k (tables_of was o) (own o))
