use Rattle.dom_base.proofs.Std.{sym}
use Rattle.dom_reader.proofs.StreamLaws.{fed_all-fed, lines_of-fed_all}
use Rattle.dom_reader.proofs.laws.law_pieces.Goals as goal

pub returns-clause-stream : goal.returns-clause-stream
returns-clause-stream c = fed_all-fed

pub returns-clause-lines : goal.returns-clause-lines
returns-clause-lines c = λ pieces. sym (lines_of-fed_all pieces)
