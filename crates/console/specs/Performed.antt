-- What each command does to working memory, and what it prints. Assumes nothing.
use Rattle.std.specs.Prelude.{◌≡◌, ℕ, cond, List, [], ℤ, pos, negsuc, Ok, Err, Result, ◌==◌}
use Rattle.facts.specs.declared.refusal.MemoryRefusal.{MemoryRefusal}
use Rattle.facts.specs.declared.refusal.MemoryRefusal.TheVariants.{NoSuchTag}
use Rattle.facts.specs.Model.{Model, answer_add, after_add, answer_remove, after_remove, after_clear}
use Rattle.rules.specs.Attributes.{Declared}
use Rattle.reader.specs.declared.form.Command.{Command}
use Rattle.reader.specs.declared.form.Command.TheVariants.{Make, Remove, RemoveAll, ListMemory}
use Rattle.console.specs.Printed.{memory_refused}
use Rattle.console.specs.Listings.{Lists}

-- what removing by a written number answers: a number below 1 counts as a tag that no element has
abbrev pub answer_removing : Model → ℤ → Result (Unit {0}) MemoryRefusal
answer_removing m (pos n) = cond (n == 0) (Err NoSuchTag) (answer_remove m n)
answer_removing m (negsuc n) = Err NoSuchTag

-- the memory after that
abbrev pub after_removing : Model → ℤ → Model
after_removing m (pos n) = cond (n == 0) m (after_remove m n)
after_removing m (negsuc n) = m

-- what a command leaves
abbrev pub after_command : Model → Command → Model
after_command m (Make e) = after_add m e
after_command m (Remove n) = after_removing m n
after_command m RemoveAll = after_clear m
after_command m ListMemory = m

-- a memory's refusal prints its line, and any other answer prints nothing
abbrev pub answer_text : {X : Type 0} → Result X MemoryRefusal → List ℕ
answer_text (Ok x) = []
answer_text (Err refusal) = memory_refused refusal

-- the bytes are what a command prints, with the memory as it was before it
abbrev pub Prints : List (List ℕ) → List Declared → Model → Command → List ℕ → Type 0
Prints names classes m (Make e) bytes = bytes ≡ answer_text (answer_add m)
Prints names classes m (Remove n) bytes = bytes ≡ answer_text (answer_removing m n)
Prints names classes m RemoveAll bytes = bytes ≡ []
Prints names classes m ListMemory bytes = Lists names classes m.facts bytes
