-- The lines so far were told, and the path is ready of the line that it was made ready for, which is one of the lines.
use Rattle.dom_commands.proofs.Cited.{ℕ, List, map, take, AllByRecursion, HasPathOf, line_shown, path_named}
use Rattle.dom_commands.proofs.calls.put_lines.Given as goal

abbrev pub invariant-loop-line : goal.invariant-loop-line
invariant-loop-line g l = record {
  told : g.A.Answers.adds l.fn.out (map (line_shown l.forest.names) (take l.line-index l.lines)) l.out;
  ready : g.A.Answers.shows l.out l.path l.shown.owner (path_named l.forest.names l.shown);
  numbered : (paths : ℕ → List ℕ) → AllByRecursion (HasPathOf paths) l.lines → HasPathOf paths l.shown;
}
