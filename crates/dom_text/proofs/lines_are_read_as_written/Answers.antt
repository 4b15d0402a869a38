use Rattle.dom_text.proofs.LineLaws.{lines_of-text_of_lines}
use Rattle.dom_text.proofs.lines_are_read_as_written.Goals as goal

pub returns : goal.returns
returns c = lines_of-text_of_lines
