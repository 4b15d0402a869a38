use Rattle.dom_worlds.proofs.Reached.{first-is_reached, step-keeps_reached, ending-keeps_reached, finish-keeps_reached, scripts-reach, quiet_scripts-reach}
use Rattle.dom_worlds.proofs.Reached.{sound, assigned-are_siblings, shadow_roots-are_roots, no_other_shadow_roots, attached-are_there, owners-have_words}
use Rattle.dom_worlds.proofs.Reached.{hosts-are_theirs}
use Rattle.dom_worlds.proofs.reached_worlds.Goals as goal

pub returns : goal.returns
returns c =
    record {
      first = first-is_reached;
      kept = step-keeps_reached;
      ending = ending-keeps_reached;
      finish = finish-keeps_reached;
      script = λ read. scripts-reach read;
      quiet_script = λ read. quiet_scripts-reach read;
      quiet = λ w r. sound w r;
      roots = shadow_roots-are_roots;
      no_others = no_other_shadow_roots;
      there = attached-are_there;
      words = owners-have_words;
      hosts = hosts-are_theirs;
      assigned = assigned-are_siblings;
    }
