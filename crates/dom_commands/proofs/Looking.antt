-- What a look tells of a machine's documents it tells of its world, which has the listeners as well.
use Rattle.dom_commands.proofs.Cited.{◌≡◌, ℕ, List, None, sym, ap, subst, ◌∙◌, refl, DocState, hearing, own_listeners, MachineNow, machine_now}
use Rattle.dom_commands.proofs.Cited.{AreAtNodes}
use Rattle.dom_model.proofs.Model.{Owner, NodeName, Command, Listener, Part, Trees, named, part_of}
use Rattle.dom_model.specs.Command.{NodeWord, own, foreign}
use Rattle.dom_commands.proofs.HeardCommands.{refusal-heard}
use Rattle.dom_commands.proofs.ListenerWorlds.{FitsIn, part-heard}
use Rattle.dom_commands.proofs.Listening.{OwnersAreThere, fits-own}
use Rattle.dom_query_commands.specs.Looks.{look_refusal, seen_at}

-- a node is named in a part that hears as in the part
named-hearing : (of : Owner → List (Listener NodeName)) (p : Part) (x : NodeWord) → named (hearing of p) x ≡ named p x
named-hearing of p (own k) = refl
named-hearing of p foreign = refl

-- Documents and listeners at nodes, in a machine, and a look of an owner at a node.
module _ (s : DocState) (ls : List (Listener ℕ)) (m : MachineNow) (seen : machine_now s ls ≡ m) (at : AreAtNodes m)
    (there : OwnersAreThere s.names s.world) where
  abbrev of : Owner → List (Listener NodeName)
  of = own_listeners s.names ls

  fits : FitsIn of s.world
  fits = fits-own s.names s.world there ls (subst AreAtNodes (sym seen) at)

  -- it is refused alike
  pub refused_alike : (o : Owner) (x : NodeWord) → look_refusal s.world o x ≡ look_refusal m.world o x
  refused_alike o x =
      sym (refusal-heard of (record s.world { turn = None }) fits o (Command.parent x)) ∙ ap (λ (n : MachineNow). look_refusal n.world o x) seen

  -- and reads the same
  pub seen_alike : {X : Type 0} (read : Trees → NodeName → X) (o : Owner) (x : NodeWord) → seen_at read s.world o x ≡ seen_at read m.world o x
  seen_alike read o x =
      sym (ap (λ (p : Part). read p.trees (named p x)) (part-heard of s.world fits o)
      ∙ ap (read (part_of s.world o).trees) (named-hearing of (part_of s.world o) x))
      ∙ ap (λ (n : MachineNow). seen_at read n.world o x) seen
