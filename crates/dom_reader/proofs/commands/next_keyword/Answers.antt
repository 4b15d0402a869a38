-- A frequent word is sought among all.
use Rattle.dom_text.specs.Decode.{keyword_of}
use Rattle.dom_reader.proofs.commands.next_keyword.Goals as goal

pub returns-in-Some : goal.returns-in-Some
unfolding keyword_of
returns-in-Some c = c.in-Some.ensures.some
