-- The words of a declaration with what is wrong with each by the numbers of the attributes, and that this is the same up to the first that
-- breaks a rule. Assumes nothing.
use Rattle.std.proofs.Common.{◌≡◌, ℕ, List, [], ◌∷◌, ◌++◌, map, codes, sym, refl, ap, ◌∙◌}
use Rattle.words.specs.Kinds.{open', close', symbol}
use Rattle.values.specs.Naming.{after_intern}
use Rattle.rules.specs.Attributes.{Declared, new_class, with_attribute}
use Rattle.languages.specs.Naming.{numbered}
use Rattle.languages.specs.Scripts.{Script, then', asks, judge, fine, judged_in, asked_by}
use Rattle.languages.proofs.Alike.{Alike}
use Rattle.reader.specs.Forms.{DeclarationForm, declares, Asked, class_fault, attributes_script, class_script, declaration_script}
use Rattle.reader.specs.Machine.{attribute_fault_by_number}
use Rattle.reader.proofs.Matched.{Matched, same_fault, matched_more}

abbrev pub attributes_by_number : Declared → List (List ℕ) → List (List ℕ) → Script Asked
attributes_by_number c ns [] = then' (fine close') (asks (declares c, ns))
attributes_by_number c ns (x ∷ xs) =
    then' (judge (symbol x) (attribute_fault_by_number c ns x)) (attributes_by_number (with_attribute c (numbered ns x)) (after_intern ns x) xs)

abbrev pub class_by_number : List Declared → List (List ℕ) → DeclarationForm → Script Asked
class_by_number cs ns d =
    then' (judge (symbol d.class) (class_fault cs ns d.class))
    (attributes_by_number (new_class (numbered ns d.class)) (after_intern ns d.class) d.attributes)

abbrev pub declaration_by_number : List Declared → List (List ℕ) → DeclarationForm → Script Asked
declaration_by_number cs ns d = then' (fine open') (then' (fine (symbol (codes "literalize"))) (class_by_number cs ns d))

same-words : (xs ns seen : List (List ℕ)) (c : Declared) → map (λ j. j.word) (judged_in (attributes_by_number c ns xs)) ≡ map (λ j. j.word) (judged_in (attributes_script c ns seen xs))
same-words [] ns seen c = refl
same-words (x ∷ xs) ns seen c = ap (λ ws. symbol x ∷ ws) (same-words xs (after_intern ns x) (seen ++ x ∷ []) (with_attribute c (numbered ns x)))

same-asked : (xs ns seen : List (List ℕ)) (c : Declared) → asked_by (attributes_by_number c ns xs) ≡ asked_by (attributes_script c ns seen xs)
same-asked [] ns seen c = refl
same-asked (x ∷ xs) ns seen c = same-asked xs (after_intern ns x) (seen ++ x ∷ []) (with_attribute c (numbered ns x))

attributes-alike : (xs ns seen : List (List ℕ)) (c : Declared) → Matched ns seen c.attributes → Alike (judged_in (attributes_by_number c ns xs)) (judged_in (attributes_script c ns seen xs))
attributes-alike [] ns seen c m = (refl, refl, refl, λ _. tt)
attributes-alike (x ∷ xs) ns seen c m =
    let same = same_fault c ns seen x m in
    let more = with_attribute c (numbered ns x) in (
      refl,
      same,
      same-words xs (after_intern ns x) (seen ++ x ∷ []) more,
      λ e. attributes-alike xs (after_intern ns x) (seen ++ x ∷ []) more (matched_more c ns seen x m (sym same ∙ e)),
    )

-- from the class on
class-alike : (cs : List Declared) (ns : List (List ℕ)) (d : DeclarationForm) → Alike (judged_in (class_by_number cs ns d)) (judged_in (class_script cs ns d))
class-alike cs ns d =
    let ms = after_intern ns d.class in
    let c = new_class (numbered ns d.class) in
    (refl, refl, same-words d.attributes ms [] c, λ _. attributes-alike d.attributes ms [] c tt)

pub alike : (cs : List Declared) (ns : List (List ℕ)) (d : DeclarationForm) → Alike (judged_in (declaration_by_number cs ns d)) (judged_in (declaration_script cs ns d))
alike cs ns d =
    let ws = same-words d.attributes (after_intern ns d.class) [] (new_class (numbered ns d.class)) in
    (refl, refl, ap (λ w. symbol (codes "literalize") ∷ symbol d.class ∷ w) ws, λ _. (refl, refl, ap (λ w. symbol d.class ∷ w) ws, λ _. class-alike cs ns d))

pub asked-alike : (cs : List Declared) (ns : List (List ℕ)) (d : DeclarationForm) → asked_by (declaration_by_number cs ns d) ≡ asked_by (declaration_script cs ns d)
asked-alike cs ns d = same-asked d.attributes (after_intern ns d.class) [] (new_class (numbered ns d.class))
