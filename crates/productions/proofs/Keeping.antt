-- Nothing is wrong with the words of a production exactly where it keeps the rules. Assumes nothing.
use Rattle.std.proofs.Common.{◌≡◌, ℕ, ◌≤◌, false, ltb, leb, List, length, Some, None, ◌∙◌, arith, ltb-false, leb-false}
use borrow.Author.Tests.{lt-leb}
use Rattle.std.proofs.lemmas.Bool.{or_parts, or_from, cond-false}
use Rattle.values.specs.Naming.{answer_intern}
use Rattle.rules.specs.Attributes.{Declared}
use Rattle.rules.specs.Rules.{Rule}
use Rattle.rules.specs.Sizes.{Size, size_of_all, excessive}
use Rattle.languages.specs.Refusals.{wrong_name, over_limit}
use Rattle.languages.specs.Scripts.{judged_in, Faultless}
use Rattle.languages.specs.Naming.{unnameable}
use Rattle.productions.specs.Forms.{ProductionForm}
use Rattle.productions.specs.Sofar.{rule_at}
use Rattle.productions.specs.Spelling.{production_script}
use Rattle.productions.specs.Said.{production_symbols}
use Rattle.productions.specs.Kept.{Known, contents, unnegated_classes, variables_in, Keeps, RulesKept}
use Rattle.productions.proofs.Faults.{no_fault}
use Rattle.productions.proofs.Growing.{named-all, all_nameable}
use Rattle.productions.proofs.Owing.{all_room, room_all, production_holds}
use Rattle.productions.proofs.Occurring.{every_map, all_right, all_usable}

-- what is used up before is within the limits
record Small (s : Size) : Type 0 where
  tests : s.tests ≤ 512
  constants : s.constants ≤ 256
  settings : s.settings ≤ 256

small : (s : Size) → excessive s ≡ false → Small s
small s e =
    let p = or_parts (ltb 512 s.tests) _ e in
    let q = or_parts (ltb 256 s.constants) (ltb 256 s.settings) p.1 in
    record { tests = ltb-false 512 s.tests p.0; constants = ltb-false 256 s.constants q.0; settings = ltb-false 256 s.settings q.1 }

module _ (cs : List Declared) (rs : List Rule) (ns : List (List ℕ)) (f : ProductionForm) (known : Known cs ns) where
  kept : excessive (size_of_all rs) ≡ false → Faultless (judged_in (production_script cs rs ns f)) → Keeps cs rs ns f
  kept e h =
      let s = small (size_of_all rs) e in
      let p = (production_holds cs rs ns f known).to h in
      let b = p.1 in
      let n = no_fault (rule_at rs (answer_intern ns f.name)) wrong_name _ p.0 in
      let q = or_parts (leb 64 (length rs)) (unnameable ns f.name) (no_fault _ over_limit None n.1).0 in
      let v = (all_right (contents f).occurrences).to b.met in
      let acted = all_room 8 0 (length f.actions) (omega arith) b.besides.2 in
      let few = all_room 16 0 (length (variables_in (contents f).occurrences)) (omega arith) v.few in
      let matches = all_room 6 1 (length (unnegated_classes f.others)) (omega arith) b.besides.1 in
      record {
        name = n.0;
        rules = leb-false 64 (length rs) q.0;
        conditions = all_room 8 1 (length f.others) (omega arith) b.besides.0;
        unnegated = omega arith;
        actions = omega arith;
        classes = b.classes;
        attributes = b.attributes;
        met = v.met;
        used = every_map (contents f).used (λ w u. (all_usable (contents f).occurrences w).to u) b.used;
        variables = omega arith;
        long = v.long;
        ordinals = b.ordinals;
        symbols = named-all (production_symbols f) ns (q.1, b.symbols);
        tests = all_room 512 (size_of_all rs).tests (contents f).tests s.tests b.tests;
        constants = all_room 256 (size_of_all rs).constants (contents f).constants s.constants b.constants;
        settings = all_room 256 (size_of_all rs).settings (contents f).settings s.settings b.settings;
      }

  faultless : Keeps cs rs ns f → Faultless (judged_in (production_script cs rs ns f))
  faultless k =
      let n = all_nameable (production_symbols f) ns k.symbols in
      let most = k.unnegated in
      let acted = k.actions in
      let few = k.variables in
      (production_holds cs rs ns f known).back (
        cond-false (rule_at rs (answer_intern ns f.name)) _ _ k.name ∙ cond-false _ (Some over_limit) None (or_from (leb 64 (length rs)) (unnameable ns f.name) (lt-leb 64 (length rs) k.rules) n.0),
        record {
          besides = (room_all 8 1 (length f.others) k.conditions, room_all 6 1 (length (unnegated_classes f.others)) (omega arith), room_all 8 0 (length f.actions) (omega arith));
          symbols = n.1;
          met = (all_right (contents f).occurrences).back (record { met = k.met; few = room_all 16 0 (length (variables_in (contents f).occurrences)) (omega arith); long = k.long });
          used = every_map (contents f).used (λ w u. (all_usable (contents f).occurrences w).back u) k.used;
          tests = room_all 512 (size_of_all rs).tests (contents f).tests k.tests;
          constants = room_all 256 (size_of_all rs).constants (contents f).constants k.constants;
          settings = room_all 256 (size_of_all rs).settings (contents f).settings k.settings;
          classes = k.classes;
          attributes = k.attributes;
          ordinals = k.ordinals;
        },
      )

pub rules-kept : RulesKept
rules-kept = record { kept = λ cs rs ns f known e h. kept cs rs ns f known e h; faultless = λ cs rs ns f known k. faultless cs rs ns f known k }
