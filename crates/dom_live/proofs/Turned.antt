-- Paths and views do not depend on the open turn.
use Rattle.dom_base.proofs.Std.{◌≡◌, ℕ, Bool, Option, None, Some, refl}
use Rattle.dom_model.proofs.Model.{Owner, NodeName, World, views, hosts_from, is_connected, EventWords}
use Rattle.dom_isolation.proofs.GroupDispatches.{outward_at}
use Rattle.dom_live.proofs.Rested.{hosts-rested, views-rested, connected-rested}

module _ (w : World) (t : Option Owner) where
  -- the world in another turn
  abbrev pub turned : World
  turned = record w { turn = t }

  -- chains of hosts
  hosts-at : (n : ℕ) (x : NodeName) → hosts_from n turned x ≡ hosts_from n w x
  hosts-at n x = hosts-rested w w.tasks t n x

  -- views
  pub views-turned : (x : NodeName) (r : Option NodeName) (composed : Bool) → views turned x r composed ≡ views w x r composed
  views-turned x r composed = views-rested w w.tasks t x r composed

  -- whether a node is connected
  pub connected-turned : (x : NodeName) → is_connected turned x ≡ is_connected w x
  connected-turned x = connected-rested w w.tasks t x

  -- the outward event of a dispatch
  pub outward-turned : (g : Owner → Bool) (x : NodeName) (e : EventWords) (r : Option NodeName) → outward_at g turned x e r ≡ outward_at g w x e r
  outward-turned g x e None = simp hosts-at
  outward-turned g x e (Some y) = refl
