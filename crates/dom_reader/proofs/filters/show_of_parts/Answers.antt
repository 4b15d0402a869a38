-- Where a part is left, nothing is shown.
use Rattle.dom_reader.specs.Filters.{parts_view}
use Rattle.dom_reader.proofs.Commas.{LeavesNames, show_refused}
use Rattle.dom_reader.proofs.filters.show_of_parts.Goals as goal

pub returns-in-Some : goal.returns-in-Some
returns-in-Some c =
    let element = c.take_name-element.result in
    let text = c.take_name-text.result in
    let comment = c.take_name-comment.result in
    let document = c.take_name-document.result in
    let left : LeavesNames c.args.word.now c.in-Some.field-0.now = record {
      element = (element.0, parts_view 44 element.1);
      element_is = c.take_name-element.ensures;
      of_data = (text.0, parts_view 44 text.1);
      of_data_is = c.take_name-text.ensures;
      comment = (comment.0, parts_view 44 comment.1);
      comment_is = c.take_name-comment.ensures;
      document = (document.0, parts_view 44 document.1);
      document_is = c.take_name-document.ensures;
      fragment = c.take_name-fragment.result.0;
      fragment_is = rw c.in-Some.is at c.take_name-fragment.ensures;
    } in
    show_refused left
