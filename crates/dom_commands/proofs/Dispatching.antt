-- What a change of listeners, and a dispatch, leave of a world with listeners.
use Rattle.dom_commands.proofs.Cited.{◌≡◌, ◌≢◌, true, false, List, [], Option, refl, sym, ap, subst, ◌∙◌, is_some, IsReached, owners_in, people-dispatch}
use Rattle.dom_commands.proofs.Cited.{AreOnce, owners-put, once-in, by_cases, rest-visits, heard}
use Rattle.dom_model.proofs.Model.{NodeName, Owner, EventWords, dispatch_in, visits_of, Listener, begun, owner_eq, name_eq, Part, views, World, find_part}
use Rattle.dom_model.proofs.Model.{part_of, with_part, is_there, owner_eq-true, owner_eq-false, owner-part_of, part_of-with_part, part_of-with_part-other}
use Rattle.dom_commands.proofs.ListenerWorlds.{FitsIn, part-heard, there-heard, owners-heard}
use Rattle.dom_commands.proofs.SameWorlds.{worlds-same}

module _ (old new : Owner → List (Listener NodeName)) (w : World) (fits : FitsIn old w) (fits_now : FitsIn new w)
    (reached : IsReached false (heard old w)) where
  -- the same owners, whose parts have other listeners alone
  pub heard-same : (v : World) → owners_in v ≡ owners_in (heard old w) →
      ((o : Owner) → part_of v o ≡ record (part_of (heard old w) o) { listeners = new o }) → record v { parts = [] } ≡ record w { parts = [] } →
      v ≡ heard new w
  heard-same v owners parts rest =
      worlds-same v (heard new w) (subst AreOnce (owners-heard old w ∙ sym (owners-heard new w))
      (once-in (heard old w) reached.world.makers reached.owners)) (owners ∙ owners-heard old w ∙ sym (owners-heard new w))
      (λ o. parts o ∙ ap (λ (p : Part). record p { listeners = new o }) (part-heard old w fits o) ∙
      ap (λ (a : Owner). record (part_of w o) { listeners = new a }) (sym (owner-part_of w o)) ∙ sym (part-heard new w fits_now o))
      rest

  -- one owner's part has other listeners
  pub written-heard : (o : Owner) → is_there w o ≡ true → (ls : List (Listener NodeName)) → new o ≡ ls → ((q : Owner) → o ≢ q → new q ≡ old q) →
      with_part (heard old w) (record (part_of (heard old w) o) { listeners = ls }) ≡ heard new w
  written-heard o there ls is others =
      let all = heard old w in
      let p : Part = record (part_of all o) { listeners = ls } in
      let mine : p.owner ≡ o = owner-part_of all o in
      heard-same (with_part all p)
      (owners-put all.parts p (ap is_some (ap (find_part all.parts) mine) ∙ there-heard old w o ∙ there))
      (λ q. by_cases (owner_eq o q)
      (λ e. let same = owner_eq-true o q e in
      part_of-with_part all p q (mine ∙ same) ∙ (λ j. record (part_of all (same j)) { listeners = (sym is ∙ ap new same) j }))
      (λ e. let other = owner_eq-false o q e in
      part_of-with_part-other all p q (λ s. other (sym mine ∙ s))
      ∙ part-heard old w fits q ∙ ap (λ (a : Owner). record (part_of w q) { listeners = old a }) (owner-part_of w q) ∙
      ap (λ (l : List (Listener NodeName)). record (part_of w q) { listeners = l }) (sym (others q other))
      ∙ ap (λ (u : Part). record u { listeners = new q }) (sym (part-heard old w fits q))))
      refl

  -- a dispatch
  pub dispatched-heard : (x : NodeName) (related : Option NodeName) (e : EventWords) →
      ((o : Owner) → part_of (dispatch_in (heard old w) x related e).run.0 o ≡ record (part_of (heard old w) o) { listeners = new o }) →
      (dispatch_in (heard old w) x related e).run.0 ≡ heard new w
  dispatched-heard x related e parts =
      let all = heard old w in
      let end = (dispatch_in all x related e).run.0 in
      heard-same end
      (people-dispatch all reached.world x related e)
      parts (rest-visits e (visits_of name_eq e.bubbles (views all x related e.composed)) (all, begun []))
