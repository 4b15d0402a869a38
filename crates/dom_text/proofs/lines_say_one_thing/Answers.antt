use Rattle.dom_text.proofs.DecodeLaws.{one_command, decode_says, says_decode, decode-kept}
use Rattle.dom_text.proofs.lines_say_one_thing.Goals as goal

pub returns : goal.returns
returns c = record { command = λ line o p c d h k. one_command line o p h k; decoded = decode_says; only = says_decode; kept = decode-kept }
