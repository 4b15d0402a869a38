-- What the buffer of the output has handed on (own rule).
use Rattle.std.specs.Io.Buffered.{writer_inner}
use Rattle.std.specs.declared.io.traits.Write as writing
use Rattle.dom_program.specs.declared.buffers.Output.{Output}

-- the writer that output is handed on to
abbrev pub handed_to : {W : Type 0} {writes : writing.Ghosts W} → Output W writes → W
handed_to output = writer_inner output.kept
