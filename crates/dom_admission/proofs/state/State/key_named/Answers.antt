use Rattle.dom_admission.proofs.Cited.{◌≡◌, ◌∙◌, true, ap, subst, sym, word_view}
use Rattle.dom_model.proofs.Model.{Owner, NodeName, is_there, part_of}
use Rattle.dom_admission.proofs.Finding.{owner-named}
use Rattle.dom_admission.proofs.Admitting.{name_of_word, there_by_word}
use Rattle.dom_admission.proofs.state.State.key_named.Goals as goal

pub returns-clause-node : goal.returns-clause-node
returns-clause-node c = λ k e. (c.find.ensures.found k e).0

pub returns-clause-looked : goal.returns-clause-looked
returns-clause-looked c =
    let w = c.args.self.now.world in
    let x = c.unwrap.result in
    let is = sym c.node.ensures ∙ c.unwrap.ensures in
    record {
      there = c.find.ensures.presence ∙ sym (there_by_word (part_of w c.args.owner) _ x is);
      found = λ k e. let f = c.find.ensures.found k e in record {
        node = f.0;
        name = f.1 ∙ sym (name_of_word (part_of w c.args.owner) _ x is);
        owner = subst (λ (o : Owner). is_there w o ≡ true) (ap (λ (y : NodeName). y.owner) f.1 ∙ owner-named w c.args.owner (word_view x))
            (c.law_names_tell_nodes.ensures.there k f.0);
      };
    }
