-- The word is sought among those with its first byte.
use Rattle.dom_base.proofs.Std.{sym, ◌∙◌, arith}
use Rattle.dom_reader.proofs.KeywordLaws.{named_with, none_empty}
use Rattle.dom_reader.proofs.keywords.keyword_of.Goals as goal

pub returns-in-empty : goal.returns-in-empty
returns-in-empty c = sym (none_empty c.args.word.now (omega arith))

pub returns-in-len1-up : goal.returns-in-len1-up
returns-in-len1-up c = c.beginning_with.ensures ∙ named_with c.args.word.now (omega (arith, c.in-len1-up.len_at_least))
