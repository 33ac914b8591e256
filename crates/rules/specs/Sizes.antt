-- How much of the limits of a base a rule uses. Assumes nothing.
use Rattle.std.specs.Prelude.{ℕ, ◌+◌, Bool, ◌||◌, List, [], ◌∷◌, length, nat_lt}
use Rattle.rules.specs.Rules.{Test, plain, compared, choice, FieldTest, Condition, Action, makes, modifies, removes, halts, Rule}
use Rattle.rules.specs.declared.size.Size.{Size as RustSize}

-- how many tests, constants of choices and settings there are
pub record Size : Type 0 where
  pub tests : ℕ
  pub constants : ℕ
  pub settings : ℕ

abbrev pub size : ℕ → ℕ → ℕ → Size
size t c s = record { tests = t; constants = c; settings = s }

-- what a size of the code means
abbrev pub size_meant : RustSize → Size
size_meant s = size s.tests s.constants s.settings

-- the tests of conditions; the class counts as one
abbrev pub tests_in : List Condition → ℕ
tests_in [] = 0
tests_in (c ∷ cs) = (1 + length c.tests) + tests_in cs

-- the constants of a choice
abbrev pub test_constants : Test → ℕ
test_constants (plain t) = 0
test_constants (compared p t) = 0
test_constants (choice vs) = length vs

abbrev pub tests_constants : List FieldTest → ℕ
tests_constants [] = 0
tests_constants (t ∷ ts) = test_constants t.test + tests_constants ts

abbrev pub constants_in : List Condition → ℕ
constants_in [] = 0
constants_in (c ∷ cs) = tests_constants c.tests + constants_in cs

abbrev pub action_settings : Action → ℕ
action_settings (makes c ss) = length ss
action_settings (modifies k ss) = length ss
action_settings (removes k) = 0
action_settings halts = 0

abbrev pub settings_in : List Action → ℕ
settings_in [] = 0
settings_in (a ∷ as') = action_settings a + settings_in as'

abbrev pub size_of : Rule → Size
size_of r = size (tests_in r.conditions) (constants_in r.conditions) (settings_in r.actions)

-- two sizes together
abbrev pub together : Size → Size → Size
together a b = size (a.tests + b.tests) (a.constants + b.constants) (a.settings + b.settings)

-- the size of all rules of a base
abbrev pub size_of_all : List Rule → Size
size_of_all [] = size 0 0 0
size_of_all (r ∷ rs) = together (size_of r) (size_of_all rs)

-- more than a base may have: 512 tests, 256 constants of choices or 256 settings
abbrev pub excessive : Size → Bool
excessive s = nat_lt 512 s.tests || (nat_lt 256 s.constants || nat_lt 256 s.settings)
