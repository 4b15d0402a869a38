use Rattle.dom_isolation.proofs.SeenLines.{line-names_seen, finish-names_seen, script-names_seen}
use Rattle.dom_isolation.proofs.no_line_names_hidden.Goals as goal

pub returns : goal.returns
returns c = record { line = line-names_seen; finish = finish-names_seen; script = λ read. script-names_seen read }
