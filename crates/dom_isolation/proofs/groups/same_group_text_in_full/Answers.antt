use Rattle.dom_isolation.proofs.GroupTexts.{same-group_text_in_full, same-family_text_in_full, same-component_text_in_full, same-around_text_in_full}
use Rattle.dom_isolation.proofs.groups.same_group_text_in_full.Goals as goal

pub returns : goal.returns
returns c = record {
  member = λ read owners plain. same-group_text_in_full read owners plain;
  family = λ read owners plain. same-family_text_in_full read owners plain;
  component = λ read owners plain. same-component_text_in_full read owners plain;
  around = λ read owners plain. same-around_text_in_full read owners plain;
}
