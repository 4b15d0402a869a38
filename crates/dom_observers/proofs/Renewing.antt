-- A registration that gets new options.
use Rattle.dom_base.proofs.Std.{◌≡◌, ℕ, zero, suc, ◌+◌, ◌≤◌, Bool, true, false, not, ◌&&◌, cond, eqb, List, [], ◌∷◌, ◌++◌, length, map, set, Option, Some, None}
use Rattle.dom_base.proofs.Std.{take, refl, sym, ap, ◌∙◌, subst, arith, slice_get, is_some, list_any, filter, cons_option, option_map_or, cond-true, cond-false}
use Rattle.dom_base.proofs.Std.{eqb-true, or_parts, or_from, or_left, or_right, and_left, and_right, true≢false, false≢true, none-some, same_Some, length-map}
use Rattle.dom_base.proofs.Std.{length-set, map-append, filter_map-append}
use Rattle.dom_model.proofs.Model.{ObserveWords, Registration, asked_for, is_transient, is_asked_for, stems_from, with_options, with_registration}
use Rattle.dom_observers.specs.declared.registered.Registered.{Registered}
use Rattle.dom_observers.specs.declared.removal.Removal.{Removal}
use Rattle.dom_observers.specs.declared.removal.Removal.TheVariants.{Of}
use Rattle.dom_observers.specs.declared.watched.Watched.{Watched}
use Rattle.dom_observers.specs.Definitions.{registration_of, unless_gone, those_there, there_in, goes, places_at, places_from, is_marked, is_above, AreThinned}
use Rattle.dom_observers.specs.Definitions.{AreNoted, AreKept}
use Rattle.dom_observers.proofs.Leaving.{IsThere, IsParted, parted, parted-set, unless-there, there-got, there-set}
use Rattle.dom_observers.proofs.Watching.{second}
use Rattle.dom_observers.proofs.Thinning.{thinned-left}
use Rattle.dom_observers.proofs.Once.{AreOnce, once-options, one_if, asked, asked-next, asked-append}

-- none gets other options where none is asked for
options-none : (k x : ℕ) (o : ObserveWords) (rs : List (Registration ℕ)) → asked k x rs ≡ 0 → map (with_options eqb k x o) rs ≡ rs
options-none k x o [] e = refl
options-none k x o (r ∷ rs) e = by (is_asked_for eqb k x r) refl (asked-next k x r rs) (λ h. options-none k x o rs h)
  where
    by : (b : Bool) → is_asked_for eqb k x r ≡ b → asked k x (r ∷ rs) ≡ one_if (is_asked_for eqb k x r) + asked k x rs
        → (asked k x rs ≡ 0 → map (with_options eqb k x o) rs ≡ rs) → map (with_options eqb k x o) (r ∷ rs) ≡ r ∷ rs
    by true g many rest = let one : one_if (is_asked_for eqb k x r) ≡ 1 = ap one_if g in absurd (omega (arith, e, many, one))
    by false g many rest =
        ap (λ t. t ∷ map (with_options eqb k x o) rs) (cond-false (is_asked_for eqb k x r) (record r { options = o }) r g)
        ∙ ap (λ ts. r ∷ ts) (rest (omega (arith, e, many)))

-- The one that an observer asked for on a node, in its place, and what stands there then: the same with other options.
pub record IsRenewal (k x : ℕ) (rs : List Registered) (i : ℕ) (r s : Registered) (o : ObserveWords) : Type 0 where
  pub one : IsThere (is_asked_for eqb k x) rs i r
  pub still : s.has_gone ≡ false
  pub new : registration_of s ≡ record (registration_of r) { options = o }

-- it gets them, and no other
options-set : {k x i : ℕ} {rs : List Registered} {r s : Registered} {o : ObserveWords} → IsRenewal k x rs i r s o → AreOnce (those_there rs)
    → those_there (set rs i s) ≡ map (with_options eqb k x o) (those_there rs)
options-set {k = k} {x = x} {i = i} {rs = rs} {r = r} {s = s} {o = o} n once =
    ap those_there (parted-set p s)
    ∙ (filter_map-append unless_gone p.before (s ∷ p.after)
    ∙ (ap (λ t. those_there p.before ++ cons_option t (those_there p.after)) (unless-there s n.still)
    ∙ ((λ j. sym front j ++ (n.new ∙ sym given) j ∷ sym back j)
    ∙ (sym (map-append g (those_there p.before) (registration_of r ∷ those_there p.after)) ∙ ap (map g) (sym whole)))))
  where
    p : IsParted rs i r
    p = parted rs i r n.one.at

    g : Registration ℕ → Registration ℕ
    g = with_options eqb k x o

    whole : those_there rs ≡ those_there p.before ++ registration_of r ∷ those_there p.after
    whole =
        ap those_there p.whole ∙ (filter_map-append unless_gone p.before (r ∷ p.after)
        ∙ ap (λ t. those_there p.before ++ cons_option t (those_there p.after)) (unless-there r n.one.there))

    given : g (registration_of r) ≡ record (registration_of r) { options = o }
    given = cond-true (is_asked_for eqb k x (registration_of r)) (record (registration_of r) { options = o }) (registration_of r) n.one.passes

    many : asked k x (those_there p.before) + (1 + asked k x (those_there p.after)) ≤ 1
    many =
        let most = once k x in
        let all = ap (asked k x) whole ∙ asked-append k x (those_there p.before) (registration_of r ∷ those_there p.after) in
        let next = asked-next k x (registration_of r) (those_there p.after) in
        let here : one_if (is_asked_for eqb k x (registration_of r)) ≡ 1 = ap one_if n.one.passes in
        omega (arith, most, all, next, here)

    front : map g (those_there p.before) ≡ those_there p.before
    front = options-none k x o (those_there p.before) (omega (arith, many))

    back : map g (those_there p.after) ≡ those_there p.after
    back = options-none k x o (those_there p.after) (omega (arith, many))

-- the transient copies of it are the same before and after it gets them
pub options-filter : (k x : ℕ) (o : ObserveWords) (rs : List (Registration ℕ))
    → filter (λ r. not (eqb r.observer k && stems_from eqb x r.source)) (map (with_options eqb k x o) rs)
    ≡ map (with_options eqb k x o) (filter (λ r. not (eqb r.observer k && stems_from eqb x r.source)) rs)
options-filter k x o [] = refl
options-filter k x o (r ∷ rs) = by (p r) refl (options-filter k x o rs)
  where
    p : Registration ℕ → Bool
    p t = not (eqb t.observer k && stems_from eqb x t.source)

    g : Registration ℕ → Registration ℕ
    g = with_options eqb k x o

    same : p (g r) ≡ p r
    same = kept (is_asked_for eqb k x r)
      where
        kept : (b : Bool) → p (cond b (record r { options = o }) r) ≡ p r
        kept true = refl
        kept false = refl

    by : (b : Bool) → p r ≡ b → filter p (map g rs) ≡ map g (filter p rs) → filter p (map g (r ∷ rs)) ≡ map g (filter p (r ∷ rs))
    by true e rest =
        cond-true (p (g r)) (g r ∷ filter p (map g rs)) (filter p (map g rs)) (same ∙ e)
        ∙ (ap (λ ts. g r ∷ ts) rest ∙ sym (ap (map g) (cond-true (p r) (r ∷ filter p rs) (filter p rs) e)))
    by false e rest =
        cond-false (p (g r)) (g r ∷ filter p (map g rs)) (filter p (map g rs)) (same ∙ e)
        ∙ (rest ∙ sym (ap (map g) (cond-false (p r) (r ∷ filter p rs) (filter p rs) e)))

-- one that is there and passes a test is one of those that are there
pub any-at : (p : Registration ℕ → Bool) (rs : List Registered) (i : ℕ) → option_map_or p (there_in rs i) false ≡ true → list_any p (those_there rs) ≡ true
any-at p [] i e = absurd (false≢true e)
any-at p (r ∷ rs) zero e = by (unless_gone r) e
  where
    by : (o : Option (Registration ℕ)) → option_map_or p o false ≡ true → list_any p (cons_option o (those_there rs)) ≡ true
    by None h = absurd (false≢true h)
    by (Some t) h = or_left (p t) (list_any p (those_there rs)) h
any-at p (r ∷ rs) (suc i) e = by (unless_gone r) (any-at p rs i e)
  where
    by : (o : Option (Registration ℕ)) → list_any p (those_there rs) ≡ true → list_any p (cons_option o (those_there rs)) ≡ true
    by None rest = rest
    by (Some t) rest = or_right (p t) (list_any p (those_there rs)) rest

-- ---- what is noted

-- one goes as before
goes-options : (removal : Removal) (t : Registration ℕ) (o : ObserveWords) → goes removal (record t { options = o }) ≡ goes removal t
goes-options (Of k) t o = refl
goes-options removal t o = refl

-- Another one on the same node stands in a place.
module _ (x : ℕ) (r s : Registered) (node : s.node ≡ r.node) where
  -- the places stay
  places-set : (rs : List Registered) (i n m : ℕ) → slice_get rs i ≡ Some r
      → places_from x m (take n (map registration_of (set rs i s))) ≡ places_from x m (take n (map registration_of rs))
  places-set [] i n m at = absurd (none-some r at)
  places-set (t ∷ ts) i zero m at = refl
  places-set (t ∷ ts) zero (suc n) m at =
      ap (λ y. cond (eqb y x) (m ∷ places_from x (m + 1) (take n (map registration_of ts))) (places_from x (m + 1) (take n (map registration_of ts))))
      (node ∙ ap (λ (u : Registered). u.node) (sym (same_Some t r at)))
  places-set (t ∷ ts) (suc i) (suc n) m at = ap (λ ps. cond (eqb t.node x) (m ∷ ps) ps) (places-set ts i n (m + 1) at)

  -- if it observes nothing below, none does where none did
  above-set : is_above x (registration_of s) ≡ false → (rs : List Registered) (i n : ℕ) → slice_get rs i ≡ Some r
      → list_any (is_above x) (take n (map registration_of rs)) ≡ false → list_any (is_above x) (take n (map registration_of (set rs i s))) ≡ false
  above-set off [] i n at none = absurd (none-some r at)
  above-set off (t ∷ ts) i zero at none = refl
  above-set off (t ∷ ts) zero (suc n) at none =
      let parts = or_parts (is_above x (registration_of t)) (list_any (is_above x) (take n (map registration_of ts))) none in
      or_from (is_above x (registration_of s)) (list_any (is_above x) (take n (map registration_of ts))) off parts.1
  above-set off (t ∷ ts) (suc i) (suc n) at none =
      let parts = or_parts (is_above x (registration_of t)) (list_any (is_above x) (take n (map registration_of ts))) none in
      or_from (is_above x (registration_of t)) (list_any (is_above x) (take n (map registration_of (set ts i s)))) parts.0 (above-set off ts i n at parts.1)

-- what is noted stays, if the node is one of those above where what is below it is observed
noted-options : {k x i : ℕ} {rs : List Registered} {r s : Registered} {o : ObserveWords} {w : Watched} → IsRenewal k x rs i r s o → AreNoted w rs
    → (o.subtree ≡ true → is_marked w.above x ≡ true) → AreNoted w (set rs i s)
noted-options {k = k} {x = z} {i = i} {rs = rs} {r = r} {s = s} {o = o} {w = w} n noted covered = record {
  within = let same = length-set rs i s in omega (arith, same, noted.within);
  places = λ x. subst (λ ps. AreThinned (set rs i s) ps (places_at w x)) (sym (places-set x r s node rs i w.noted 0 n.one.at))
      (thinned-left (noted.places x) (λ j in_it is. still_there j (eqb j i) refl (ap is_some (sym (there-set rs i r s n.one.at j)) ∙ is)));
  above = λ x off. above-set x r s node (not_above x off) rs i w.noted n.one.at (noted.above x off);
  found = λ removal j t below e is.
      let was = went j (eqb j i) refl (sym (there-set rs i r s n.one.at j) ∙ e) removal is in
      noted.found removal j was.0 below was.1 was.2;
}
  where
    node : s.node ≡ r.node
    node = ap (λ (t : Registration ℕ). t.node) n.new

    on : s.node ≡ z
    on = node ∙ eqb-true r.node z (second (eqb r.observer k) (eqb r.node z) (not (is_transient (registration_of r).source)) n.one.passes)

    still_there : (j : ℕ) (b : Bool) → eqb j i ≡ b → is_some (cond b (unless_gone s) (there_in rs j)) ≡ true → is_some (there_in rs j) ≡ true
    still_there j true e is = ap is_some (ap (there_in rs) (eqb-true j i e) ∙ (there-got rs i r n.one.at ∙ unless-there r n.one.there))
    still_there j false e is = is

    not_above : (x : ℕ) → is_marked w.above x ≡ false → is_above x (registration_of s) ≡ false
    not_above x off = both (eqb s.node x) refl o.subtree refl
      where
        below : (b : Bool) → o.subtree ≡ b → (registration_of s).options.subtree ≡ b
        below b e = ap (λ (t : Registration ℕ). t.options.subtree) n.new ∙ e

        both : (b : Bool) → eqb s.node x ≡ b → (d : Bool) → o.subtree ≡ d → is_above x (registration_of s) ≡ false
        both b e false g = and_right (eqb s.node x) (registration_of s).options.subtree (below false g)
        both false e d g = and_left (eqb s.node x) (registration_of s).options.subtree e
        both true e true g =
            absurd (true≢false (sym (subst (λ y. is_marked w.above y ≡ true) (sym on ∙ eqb-true s.node x e) (covered g)) ∙ off))

    -- what goes from a place went from it before
    went : (j : ℕ) {t : Registration ℕ} (b : Bool) → eqb j i ≡ b → cond b (unless_gone s) (there_in rs j) ≡ Some t
        → (removal : Removal) → goes removal t ≡ true → (u : Registration ℕ) × (there_in rs j ≡ Some u) × (goes removal u ≡ true)
    went j {t = t} false g e removal is = (t, e, is)
    went j {t = t} true g e removal is =
        let same : t ≡ record (registration_of r) { options = o } = same_Some t _ (sym e ∙ (unless-there s n.still ∙ ap Some n.new)) in (
          registration_of r,
          ap (there_in rs) (eqb-true j i g) ∙ (there-got rs i r n.one.at ∙ unless-there r n.one.there),
          sym (goes-options removal (registration_of r) o) ∙ (ap (goes removal) (sym same) ∙ is),
        )

-- ---- the one that an observer asked for on a node gets new options

module _ {k x i : ℕ} {rs : List Registered} {r s : Registered} {o : ObserveWords} (n : IsRenewal k x rs i r s o) (once : AreOnce (those_there rs)) where
  -- the copies of it go
  pub renewed : filter (λ t. not (eqb t.observer k && stems_from eqb x t.source)) (those_there (set rs i s)) ≡ with_registration eqb k x o (those_there rs)
  renewed =
      let p = is_asked_for eqb k x in
      let q = λ (t : Registration ℕ). not (eqb t.observer k && stems_from eqb x t.source) in
      let there : option_map_or p (there_in rs i) false ≡ true =
      ap (λ t. option_map_or p t false) (there-got rs i r n.one.at ∙ unless-there r n.one.there) ∙ n.one.passes in
      ap (filter q) (options-set n once)
      ∙ (options-filter k x o (those_there rs)
      ∙ sym (cond-true (list_any p (those_there rs)) (map (with_options eqb k x o) (filter q (those_there rs)))
      (those_there rs ++ record { node = x; observer = k; options = o; source = asked_for } ∷ []) (any-at p rs i there)))

  pub kept-renewed : {u w : Watched} {gone : ℕ} → AreKept u gone rs → AreNoted w rs → (o.subtree ≡ true → is_marked w.above x ≡ true)
      → AreKept w gone (set rs i s)
  kept-renewed kept noted covered = record {
    noted = noted-options n noted covered;
    counted =
        let views = ap (length {A = Registration ℕ}) (options-set n once) ∙ length-map (those_there rs) (with_options eqb k x o) in
        let items = length-set rs i s in
        omega (arith, kept.counted, views, items);
    once = subst AreOnce (sym (options-set n once)) (once-options k x o (those_there rs) once);
  }
