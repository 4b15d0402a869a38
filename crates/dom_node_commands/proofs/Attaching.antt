-- Attaching shadow roots: with an open turn as without.
use Rattle.dom_base.proofs.Std.{◌≡◌, List, [], ◌∷◌, Option, None, Result, sym, ap, ◌∙◌, length}
use Rattle.dom_model.proofs.Model.{Fault, Owner, Command, NodeWord, own_refusal, named, attaching, says, replied, a_component, Output, Run, opening_turn, World}
use Rattle.dom_model.proofs.Model.{part_of, component_made}
use Rattle.dom_mutation.specs.Definitions.{DocState}
use Rattle.dom_admission.specs.Handled.{IsDone, IsHandled}
use Rattle.dom_admission.specs.Turned.{with_turn, turned}
use Rattle.dom_admission.proofs.Handling.{MayAct, in_state, finished, opened}

-- In a state with these documents, a component is made and answered.
module _ {S : Type 0} (adds : S → List Output → S → Type 0) (t : Option Owner) (d s : DocState) (seen : turned t d ≡ s) {o : Owner} {x : NodeWord}
    (may : MayAct s.world o (Command.attach x)) (new : World) (before after : S) (r : Result (Unit {0}) Fault) where
  pub attaches : {mid : World} {q : Owner} → own_refusal (part_of d.world o) (Command.attach x) ≡ None →
      mid ≡ (attaching d.world o (named (part_of d.world o) x)).0 → q ≡ component_made o (length (part_of d.world o).attached) →
      IsDone adds None (opening_turn (with_turn t mid) o, says o (replied (a_component q)) ∷ []) (with_turn t mid) new before after r →
      IsHandled adds o (Command.attach x) s.world new before after r
  attaches {mid = mid} {q = q} none made is done =
      let run : Owner → World → Run World = λ c u. (u, says o (replied (a_component c)) ∷ []) in
      let attached = (attaching d.world o (named (part_of d.world o) x)).0 in
      in_state adds t d s seen may new before after r
      (finished adds new before after r (with_turn t d.world) (with_turn t mid) none
      (ap (λ (u : World). run q (opening_turn (with_turn t u) o)) made ∙ ap (λ (c : Owner). run c (opening_turn (with_turn t attached) o)) is
      ∙ ap (run (component_made o (length (part_of d.world o).attached))) (opened t attached o)
      ∙ sym (ap (λ (u : World). attaching u o (named (part_of u o) x)) (opened t d.world o)))
      done)
