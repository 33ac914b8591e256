use Rattle.std.proofs.Common.{◌≡◌, ◌∷◌, Ok, Err, refl, subst, ◌∙◌, rules}
use Rattle.words.specs.Words.{lexeme, rest}
use Rattle.values.specs.Naming.{held}
use Rattle.rules.specs.Declarations.{classes_of}
use Rattle.languages.specs.Senses.{sense}
use Rattle.languages.proofs.Steps.{went_on, failed_at, grows_on}
use Rattle.reader.specs.declared.state.Step.TheVariants.{Onward}
use Rattle.reader.specs.Machine.{turned}
use Rattle.reader.specs.Meaning.{state_of, Steps}
use Rattle.reader.proofs.read.read_words.Goals as goal

pub loop-word-preserved : goal.loop-word-preserved
loop-word-preserved c =
    let before = held c.loop-word.names in
    let machine = turned (classes_of c.args.classes.now) in
    let state = state_of before c.loop-word.state in
    let e : c.turn.result ≡ Ok (Onward c.in-Onward.next) = search rules in
    let step = subst (λ r. Steps before r (held c.turn.new.names) (machine state (sense (lexeme c.in-Some.word).kind))) e c.turn.ensures in
    record {
      runs = went_on machine state (lexeme c.in-Some.word) _ (rest c.loop-word.words) _ c.in-Some.ensures.gave c.loop-word.invariant.runs (state_of (held c.turn.new.names) c.in-Onward.next) step.0;
      grows = grows_on (held c.args.names.now) before (held c.turn.new.names) c.loop-word.invariant.grows step.1;
      text = c.in-Some.ensures.text ∙ c.loop-word.invariant.text;
    }

pub returns-in-Err : goal.returns-in-Err
returns-in-Err c =
    let before = held c.loop-word.names in
    let machine = turned (classes_of c.args.classes.now) in
    let state = state_of before c.loop-word.state in
    let e : c.turn.result ≡ Err c.in-Err.cause = search rules in
    let step = subst (λ r. Steps before r (held c.turn.new.names) (machine state (sense (lexeme c.in-Some.word).kind))) e c.turn.ensures in
    let ran = failed_at machine state (lexeme c.in-Some.word) _ (rest c.loop-word.words) _ c.in-Some.ensures.gave c.loop-word.invariant.runs c.in-Err.cause step.0 in (
      (lexeme c.in-Some.word ∷ rest c.next.new.self, ran, refl),
      grows_on (held c.args.names.now) before (held c.turn.new.names) c.loop-word.invariant.grows step.1,
      c.in-Some.ensures.text ∙ c.loop-word.invariant.text,
    )
