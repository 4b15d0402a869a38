-- What a line asks of a thing that it names by its number alone, and what it has made at a root.
use Rattle.std.specs.Prelude.{ℕ, length}
use Rattle.dom_model.specs.Command.{Command, NodeWord, Filter}
use Rattle.dom_model.specs.Part.{Part}
use Rattle.dom_admission.specs.declared.admission.Operand.{Operand}
use Rattle.dom_admission.specs.declared.admission.Operand.TheVariants.{Iterator, Walker, Observer, Range}
use Rattle.dom_query_commands.specs.declared.cursors.Cursor.{Cursor}
use Rattle.dom_query_commands.specs.declared.cursors.Cursor.TheVariants as cursors
use Rattle.dom_query_commands.specs.declared.things.Request.{Request}
use Rattle.dom_query_commands.specs.declared.things.Request.TheVariants as asks

-- the command
abbrev pub command_of : Request → ℕ → Command
command_of asks.Next k = Command.iterator_next k
command_of asks.Previous k = Command.iterator_previous k
command_of asks.Reference k = Command.iterator_at k
command_of (asks.Walk move) k = Command.walk k move
command_of asks.Current k = Command.walker_at k
command_of asks.Disconnect k = Command.disconnect k
command_of (asks.Collapse to_start) k = Command.range_collapse k to_start
command_of asks.Drop k = Command.range_drop k
command_of asks.Ends k = Command.range_get k

-- the thing
abbrev pub thing_of : Request → ℕ → Operand
thing_of asks.Next k = Iterator k
thing_of asks.Previous k = Iterator k
thing_of asks.Reference k = Iterator k
thing_of (asks.Walk move) k = Walker k
thing_of asks.Current k = Walker k
thing_of asks.Disconnect k = Observer k
thing_of (asks.Collapse to_start) k = Range k
thing_of asks.Drop k = Range k
thing_of asks.Ends k = Range k

-- the command that makes an iterator or a walker
abbrev pub cursor_new : Cursor → NodeWord → Filter → Command
cursor_new cursors.Iterator x f = Command.iterator_new x f
cursor_new cursors.Walker x f = Command.walker_new x f

-- how many of them an owner has made
abbrev pub cursor_count : Cursor → Part → ℕ
cursor_count cursors.Iterator p = length p.iterators
cursor_count cursors.Walker p = length p.walkers
