-- From the outcome of a reading to the answer of the call. Assumes nothing.
use Rattle.std.proofs.Common.{◌≡◌, ℕ, ◌≤◌, true, false, List, Ok, Err, sym, ap, ◌∙◌, subst}
use Rattle.words.specs.Words.{Lexeme}
use Rattle.rules.specs.Attributes.{Declared}
use Rattle.rules.specs.Bases.{after_enter}
use Rattle.rules.specs.Rules.{Rule}
use Rattle.rules.specs.Sizes.{size_of_all, excessive}
use Rattle.languages.specs.Languages.{Takes, longest}
use Rattle.languages.specs.Machines.{run}
use Rattle.productions.specs.declared.draft.Draft.{Draft}
use Rattle.productions.specs.declared.trouble.Trouble.{Trouble}
use Rattle.productions.specs.declared.trouble.Trouble.TheVariants.{Refused, NoMemory}
use Rattle.productions.specs.Machine.{at_opening, turned}
use Rattle.productions.specs.Reading.{produces_next, ReadsProduction, Ran, Drafted}
use Rattle.productions.specs.Spelling.{production_script}
use Rattle.productions.proofs.Rests.{none, broken}
use Rattle.productions.proofs.Fit.{Fit, fit}

-- a draft that was not read, where the names and the words are as they were
pub not_drafted : (cs : List Declared) (rs : List Rule) (ns ms os : List (List ℕ)) (ls after left : List Lexeme) (end : ℕ) (d : Draft) (t : Trouble) → Ran end (Err t) ms d after (run (turned cs rs) (at_opening ns) ls) → os ≡ ns → left ≡ ls → Drafted end cs rs ns ls (Err t) os left
not_drafted cs rs ns ms os ls after left end d (Refused x) r n a =
    (n, a, none cs rs ns ls r.0 x.cause r.1, broken cs rs ns ls r.0 end x.cause x.place r.1 r.2)
not_drafted cs rs ns ms os ls after left end d NoMemory r n a = (n, a)

-- a production that was read is fit, and there is room for it
pub taken-fit : (cs : List Declared) (rs : List Rule) (ns ms : List (List ℕ)) (ls after : List Lexeme) (r : Rule) → excessive (size_of_all rs) ≡ false → Takes (production_script cs rs ns) ls (r, ms) after → Fit rs r
taken-fit cs rs ns ms ls after r room t = subst (Fit rs) (sym (ap (λ x. x.0) t.asked)) (fit cs rs ns t.form room t.clear)

pub production_taken : (end : ℕ) (cs : List Declared) (rs ts : List Rule) (ns ms : List (List ℕ)) (ls after : List Lexeme) (r : Rule) → end ≤ longest → produces_next ls ≡ true → excessive (size_of_all rs) ≡ false → Takes (production_script cs rs ns) ls (r, ms) after → ts ≡ after_enter rs r → ReadsProduction end cs rs ns ls (Ok true) ts ms after
production_taken end cs rs ts ns ms ls after r short comes room t e = (short, comes, (r, t, e ∙ (taken-fit cs rs ns ms ls after r room t).entered))
