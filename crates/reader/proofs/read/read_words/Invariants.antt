use Rattle.std.proofs.Common.{◌≡◌, length}
use Rattle.words.specs.Words.{rest, text_of}
use Rattle.values.specs.Naming.{held}
use Rattle.rules.specs.Declarations.{classes_of}
use Rattle.reader.specs.Machine.{turned}
use Rattle.languages.specs.Machines.{run}
use Rattle.reader.specs.Meaning.{state_of}
use Rattle.languages.specs.Naming.{Grows}
use Rattle.reader.proofs.read.read_words.Given as goal

-- the words that are left decide
abbrev pub invariant-loop-word : goal.invariant-loop-word
invariant-loop-word l =
    record {
      runs : run (turned (classes_of l.classes)) (state_of (held l.names) l.state) (rest l.words) ≡ run (turned (classes_of l.classes)) (state_of (held l.initial.names) l.initial.state) (rest l.initial.words);
      grows : Grows (held l.initial.names) (held l.names);
      text : text_of l.words ≡ text_of l.initial.words;
    }

abbrev pub decreases-loop-word : goal.decreases-loop-word
decreases-loop-word l = length (rest l.words)
