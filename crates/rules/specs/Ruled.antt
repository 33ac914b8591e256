-- What the rules of the code say. Assumes nothing.
use Rattle.std.specs.Prelude.{List, map, vec_items}
use Rattle.rules.specs.Rules.{Rule, conditions_of, actions_of}
use Rattle.rules.specs.declared.rule.Rule.{Rule as RustRule}

-- what a rule of the code says
abbrev pub rule_of : RustRule → Rule
rule_of r = record { name = r.name; conditions = conditions_of (vec_items r.conditions); actions = actions_of (vec_items r.actions) }

abbrev pub rules_of : List RustRule → List Rule
rules_of rs = map rule_of rs
