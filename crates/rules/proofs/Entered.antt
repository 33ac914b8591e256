-- The size of the rules of a base, and of one rule more. Assumes nothing.
use Rattle.std.proofs.Common.{◌≡◌, List, [], ◌∷◌, ◌++◌, sym, ap, ◌∙◌, arith}
use Rattle.std.proofs.lemmas.List.{map-append}
use Rattle.rules.specs.Rules.{Rule}
use Rattle.rules.specs.Ruled.{rule_of, rules_of}
use Rattle.rules.specs.Sizes.{Size, size_of, size_of_all, together}
use Rattle.rules.specs.declared.rule.Rule.{Rule as RustRule}

same_size : (a b : Size) → a.tests ≡ b.tests → a.constants ≡ b.constants → a.settings ≡ b.settings → a ≡ b
same_size a b t c s = λ k. record { tests = t k; constants = c k; settings = s k }

-- the size of one rule more
all_more : (rs : List Rule) (r : Rule) → size_of_all (rs ++ r ∷ []) ≡ together (size_of_all rs) (size_of r)
all_more [] r = same_size _ _ (omega arith) (omega arith) (omega arith)
all_more (q ∷ rs) r =
    let e = all_more rs r in
    same_size _ _ (omega (arith, ap (λ s. s.tests) e)) (omega (arith, ap (λ s. s.constants) e)) (omega (arith, ap (λ s. s.settings) e))

-- new: the size of the rules xs and of the rule x together
pub grown : (xs : List RustRule) (x : RustRule) (new : Size) → new ≡ together (size_of_all (rules_of xs)) (size_of (rule_of x)) → (ys : List RustRule) → ys ≡ xs ++ x ∷ [] → new ≡ size_of_all (rules_of ys)
grown xs x new is ys e = is ∙ sym (all_more (rules_of xs) (rule_of x)) ∙ ap size_of_all (sym (map-append rule_of xs (x ∷ []))) ∙ ap (λ l. size_of_all (rules_of l)) (sym e)
