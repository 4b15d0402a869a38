-- A dispatch of a component outside a group visits no node of the group, or the nodes that its outward event visits.
use Rattle.dom_base.proofs.Std.{◌≡◌, Bool, true, false, filter, Option, Some, None, option_map, sym, ap, ◌∙◌, ◌⊎◌, inl, inr}
use Rattle.dom_model.proofs.Model.{Owner, Page, Component, ComponentName, NodeName, Command, NodeWord, EventWords, named, World, part_of, owner-part_of}
use Rattle.dom_model.proofs.Model.{visits_of, views, name_eq, outward_dispatch, outward_words, outward_of, OutwardEvent, KeepsMakers}
use Rattle.dom_worlds.proofs.OwnerLemmas.{owner-named}
use Rattle.dom_worlds.proofs.CommandLemmas.{accepted-facts}
use Rattle.dom_isolation.proofs.OwnVisits.{group_visits, in_view}
use Rattle.dom_isolation.proofs.GroupDispatches.{comes_to, StaysAway, GoesOut, outward_at}
use Rattle.dom_isolation.proofs.ComponentCommands.{related-same_root, outward-same}
use Rattle.dom_live.specs.Documents.{Documents, world_visits}
use Rattle.dom_live.specs.Groups.{is_own_visit}
use Rattle.dom_live.proofs.OtherLines.{Takes, Shows}
use Rattle.dom_live.proofs.Turned.{turned, views-turned, outward-turned}

-- nothing is not something
none-some : {A : Type 0} (x : A) → None ≡ Some x → ⊥
none-some x h = cc

-- what is something is that alone
pub same-some : {A : Type 0} (x y : A) → Some x ≡ Some y → x ≡ y
same-some x y h = cc

-- the visits at nodes of a group, by views
pub own-visits : (g : Owner → Bool) (w : World) (y : NodeName) (near : Option NodeName) (words : EventWords) →
    filter (is_own_visit g) (world_visits w y near words)
    ≡ visits_of name_eq words.bubbles (filter (in_view g) (views (turned w (Some Page)) y near words.composed))
own-visits g w y near words =
    group_visits g words.bubbles (views w y near words.composed)
    ∙ ap (λ vs. visits_of name_eq words.bubbles (filter (in_view g) vs)) (sym (views-turned w (Some Page) y near words.composed))

-- An accepted dispatch of a component outside a group.
module _ {g : Owner → Bool} (closed : KeepsMakers g) (w : World) (k : ComponentName) (x : NodeWord) (words : EventWords) (r : Option NodeWord)
    (t : Takes g false w (Component k) (Command.dispatch x words r)) where
  -- its target
  abbrev target : NodeName
  target = named (part_of w (Component k)) x

  -- and its related node
  abbrev near : Option NodeName
  near = option_map (named (part_of w (Component k))) r

  -- it goes out, or stays
  goes_or_stays : StaysAway g closed (turned w (Some Page)) target near words ⊎ GoesOut g closed (turned w (Some Page)) target near words
  goes_or_stays =
      let known = accepted-facts w (Component k) (Command.dispatch x words r) t.accepted in
      comes_to g closed t.stands.world target near words
      (ap g (owner-named (part_of w (Component k)) x ∙ owner-part_of w (Component k)) ∙ t.stands.side)
      (related-same_root (turned w (Some Page)) k x words r known.part)

  -- its outward event
  told : outward_at g (turned w (Some Page)) target words near ≡ outward_dispatch g w (Component k) (Command.dispatch x words r)
  told = outward-turned w (Some Page) g target words near ∙ outward-same g w t.stands.side x words r

  -- The law, where it is known what an event at a node of the group visits.
  pub dispatch-shows : {V : Type 0} {view : World → V} (e : Documents V) → ((host : NodeName) → g host.owner ≡ true → (words : EventWords) →
      filter (is_own_visit g) (world_visits w host None words) ≡ e.visits (view w) host None words) → Shows g view e w (Component k) x words r
  dispatch-shows {V} {view} e at_host = elim goes_or_stays [ inl j ↦ stays j | inr j ↦ sends j ]
    where
      stays : StaysAway g closed (turned w (Some Page)) target near words → Shows g view e w (Component k) x words r
      stays j = record {
        stays = λ n. own-visits g w target near words ∙ ap (visits_of name_eq words.bubbles) j.unseen;
        sends = λ out n. absurd (none-some out (sym j.none ∙ told ∙ n));
      }

      sends : GoesOut g closed (turned w (Some Page)) target near words → Shows g view e w (Component k) x words r
      sends j = record {
        stays = λ n. absurd (none-some (outward_of words j.host) (sym n ∙ sym told ∙ j.event));
        sends = λ out n. let same : outward_of words j.host ≡ out = same-some (outward_of words j.host) out (sym j.event ∙ told ∙ n) in
            let all : words ≡ outward_words out = j.words ∙ ap outward_words same in (
              all,
              own-visits g w target near words ∙ ap (visits_of name_eq words.bubbles) j.shown ∙ sym (own-visits g w j.host None words)
                  ∙ at_host j.host j.inside words ∙ ap (e.visits (view w) j.host None) all
                  ∙ ap (λ (o : OutwardEvent). e.visits (view w) o.host None (outward_words out)) same,
            );
      }
