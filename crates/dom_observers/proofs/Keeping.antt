-- What is kept beside an owner's registrations, where some come or go.
use Rattle.dom_base.proofs.Std.{◌≡◌, ℕ, ◌+◌, ◌≤◌, true, not, eqb, List, ◌++◌, length, map, filter, Some, sym, ap, ◌∙◌, subst, arith, length-append, length-map}
use Rattle.dom_base.proofs.Std.{filter_map-append}
use Rattle.dom_model.proofs.Model.{is_in, Registration}
use Rattle.dom_observers.specs.declared.registered.Registered.{Registered}
use Rattle.dom_observers.specs.declared.removal.Removal.{Removal}
use Rattle.dom_observers.specs.declared.watched.Watched.{Watched}
use Rattle.dom_observers.specs.Definitions.{registration_of, unless_gone, those_there, there_in, AreThere, goes, HaveLeft, among, AreNoted, AreKept}
use Rattle.dom_observers.proofs.Leaving.{left-all}
use Rattle.dom_observers.proofs.Once.{AreOnce, once-filter}
use Rattle.dom_observers.proofs.Watching.{noted-append, noted-left, found-all}

-- others behind them
pub kept-append : {w : Watched} {gone : ℕ} {rs : List Registered} → AreKept w gone rs → (more : List Registered) → AreThere more
    → AreOnce (those_there rs ++ map registration_of more) → AreKept w gone (rs ++ more)
kept-append {w = w} {gone = gone} {rs = rs} kept more there once =
    let all : those_there (rs ++ more) ≡ those_there rs ++ map registration_of more =
    filter_map-append unless_gone rs more ∙ ap (λ ts. those_there rs ++ ts) there in
    record {
      noted = noted-append kept.noted more;
      counted =
          let views = ap (length {A = Registration ℕ}) all ∙ length-append (those_there rs) (map registration_of more) in
          let same = length-map more registration_of in
          let items = length-append rs more in
          omega (arith, kept.counted, views, same, items);
      once = subst AreOnce (sym all) once;
    }

-- those that go taken away
pub kept-left : {w v : Watched} {gone : ℕ} {rs ss : List Registered} {removal : Removal} {places : List ℕ} {went : ℕ} → AreKept w gone rs
    → HaveLeft removal places went rs ss → those_there ss ≡ filter (λ t. not (goes removal t)) (those_there rs) → AreNoted v ss
    → AreKept v (gone + went) ss
kept-left {rs = rs} {ss = ss} {removal = removal} kept left all noted = record {
  noted = noted;
  counted =
      let long = length-map rs registration_of in
      let short = length-map ss registration_of in
      let even = ap (length {A = Registration ℕ}) left.same in
      omega (arith, kept.counted, left.counted, long, short, even);
  once = subst AreOnce (sym all) (once-filter (λ t. not (goes removal t)) (those_there rs) kept.once);
}

-- Where all are noted, those that go were looked for in the places among which they are.
module _ {u w : Watched} {gone went : ℕ} {rs ss : List Registered} {removal : Removal} {places : List ℕ} (kept : AreKept u gone rs)
    (noted : AreNoted w rs) (all : length rs ≤ w.noted) (is : places ≡ among w.owned removal) (left : HaveLeft removal places went rs ss) where
  found : (i : ℕ) (t : Registration ℕ) → there_in rs i ≡ Some t → goes removal t ≡ true → is_in eqb i places ≡ true
  found i t e g = subst (λ ps. is_in eqb i ps ≡ true) (sym is) (found-all noted all removal i t e g)

  -- the others are there
  pub removed-all : those_there ss ≡ filter (λ t. not (goes removal t)) (those_there rs)
  removed-all = left-all left found

  -- what is noted stays so
  pub removed-noted : AreNoted w ss
  removed-noted = noted-left noted ss left.same left.fewer

  -- and what is kept beside them
  pub removed-kept : {v : Watched} → AreNoted v ss → AreKept v (gone + went) ss
  removed-kept now = kept-left {w = u} kept left removed-all now
