-- How specific a rule is. Assumes nothing.
use Rattle.std.specs.Prelude.{◌≡◌, ℕ, ◌+◌, false, cond, List, [], ◌∷◌, length}
use Rattle.values.specs.declared.value.Value.{Value}
use Rattle.rules.specs.Attributes.{Declared}
use Rattle.rules.specs.Carried.{carried, sum_along}
use Rattle.rules.specs.Fitness.{has, also_test}
use Rattle.rules.specs.Rules.{Term, constant, variable, Test, plain, compared, choice, Condition}

-- under no predicate, a constant counts one, and so does a variable that was met before
abbrev pub term_counts : List ℕ → Term → ℕ
term_counts met (constant v) = 1
term_counts met (variable x) = cond (has met x) 1 0

-- a choice counts one for each of its constants
abbrev pub choice_counts : List Value → ℕ
choice_counts vs = length vs

-- a predicate counts one, whatever it compares with
abbrev pub test_counts : List ℕ → Test → ℕ
test_counts met (plain t) = term_counts met t
test_counts met (compared p t) = 1
test_counts met (choice vs) = choice_counts vs

-- a condition counts one for its class, and then its tests
abbrev pub condition_counts : List ℕ → Condition → ℕ
condition_counts met c = 1 + sum_along (λ k t. test_counts k t.test) also_test met c.tests

-- the variables met after a condition, negated or not
abbrev pub met_after : List ℕ → Condition → List ℕ
met_after met c = carried also_test met c.tests

-- the specificity of a rule with these conditions: all of them count, negated ones too
abbrev pub specificity_of : List Condition → ℕ
specificity_of cs = sum_along condition_counts met_after [] cs

-- a choice of two constants counts two, and with its class the only condition counts three
abbrev pub TwoConstants : Type 0
TwoConstants = (c : Declared) (f : ℕ) (v w : Value) → specificity_of (record { negated = false; class = c; tests = record { field = f; test = choice (v ∷ w ∷ []) } ∷ [] } ∷ []) ≡ 3
