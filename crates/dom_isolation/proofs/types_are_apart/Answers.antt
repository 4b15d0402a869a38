use Rattle.dom_isolation.proofs.QuietTypes.{others-log_after, nothing-touches_type, nothing-touches_slots, nothing-touches_types}
use Rattle.dom_isolation.proofs.QuietPages.{nothing-touches_page_types, page-sees_its_typed_trace, same-page_by_types}
use Rattle.dom_isolation.proofs.types_are_apart.Goals as goal

pub returns : goal.returns
returns c = record {
  after = λ read. others-log_after read;
  event = λ read. nothing-touches_type read;
  slots = λ read. nothing-touches_slots read;
  group = λ read. nothing-touches_types read;
  page = λ read. nothing-touches_page_types read;
  output = λ read. page-sees_its_typed_trace read;
  same_page = λ read. same-page_by_types read;
}
