-- Looking up attributes, classes and rules. Assumes nothing.
use Rattle.std.proofs.Common.{◌≡◌, ℕ, ◌≤◌, Bool, true, false, cond, ◌||◌, eqb, List, [], ◌∷◌, map, length, is_some, Some, None, Option, refl, ap, arith}
use Rattle.std.proofs.lemmas.List.{length-take}
use Rattle.std.specs.List.{find, list_any}
use Rattle.std.specs.Option.{option_map}
use Rattle.rules.specs.Attributes.{declared}
use Rattle.rules.specs.Declarations.{find_class}
use Rattle.rules.specs.Ruled.{rules_of}
use Rattle.rules.specs.Bases.{rule_named}
use Rattle.rules.specs.declared.class.Class.{Class}
use Rattle.rules.specs.declared.rule.Rule.{Rule}

-- no class has more than fifteen attributes
pub fifteen : (c : Class) → length (declared c).attributes ≤ 15
fifteen c = omega (arith, c.attributes.short, length-take c.attributes.len c.attributes.bytes)

-- the declared class is there just where the class is
pub mapped_some : (o : Option Class) → is_some o ≡ is_some (option_map declared o)
mapped_some None = refl
mapped_some (Some c) = refl

-- looking through the code's classes is looking through the declared ones
pub found-class : (cs : List Class) (n : ℕ) → option_map declared (find (λ c. eqb c.name n) cs) ≡ find_class (map declared cs) n
found-class [] n = refl
found-class (c ∷ cs) n = go (eqb c.name n) (found-class cs n)
  where
    go : (b : Bool) → option_map declared (find (λ c. eqb c.name n) cs) ≡ find_class (map declared cs) n → option_map declared (cond b (Some c) (find (λ c. eqb c.name n) cs)) ≡ cond b (Some (declared c)) (find_class (map declared cs) n)
    go true e = refl
    go false e = e

-- and likewise the code's rules
pub rule_found : (rs : List Rule) (n : ℕ) → list_any (λ r. eqb r.name n) rs ≡ rule_named (rules_of rs) n
rule_found [] n = refl
rule_found (r ∷ rs) n = ap (λ b. eqb r.name n || b) (rule_found rs n)
