use Rattle.std.proofs.Common.{◌≡◌, ◌≤◌}
use Rattle.words.specs.Words.{rest, text_of}
use Rattle.words.proofs.Scans.{left, begun}
use Rattle.words.proofs.text.Words.next.Given as goal

-- the bytes that are left decide
abbrev pub invariant-loop-at : goal.invariant-loop-at
invariant-loop-at l = record {
  left : left l.text l.at l.state ≡ rest l.initial.self;
  begun : begun l.state ≤ l.at;
  text : text_of l.self ≡ text_of l.initial.self;
}
