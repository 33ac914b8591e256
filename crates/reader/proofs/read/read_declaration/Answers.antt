use Rattle.std.proofs.Common.{◌≡◌, length, Err, sym, refl, rules}
use Rattle.words.specs.Words.{rest, text_of}
use Rattle.values.specs.Naming.{held}
use Rattle.rules.specs.Bases.{declaring_classes}
use Rattle.rules.specs.Declarations.{classes_of}
use Rattle.reader.proofs.Answering.{declares_one, declared_taken, declared_well, declaration_refused}
use Rattle.reader.proofs.read.read_declaration.Goals as goal

pub returns-in_err-class-clause-reads : goal.returns-in_err-class-clause-reads
returns-in_err-class-clause-reads c =
    let e : c.from_residual-in_err-class.result ≡ Err c.in_err-class.field-0.0 = search rules in
    rw e (declaration_refused (length (text_of c.args.words.now)) (declaring_classes c.args.base.now) (classes_of c.classes.result.now) (held c.args.names.now) _ c.args.words.now _ c.in_err-class.field-0.0 refl c.in_ok-check_length.ensures (sym c.if-not-form_comes.ensures) c.classes.ensures c.in_err-class.ensures)

pub returns-clause-reads : goal.returns-clause-reads
returns-clause-reads c = (
  c.in_ok-check_length.ensures,
  sym c.if-not-form_comes.ensures,
  declared_taken (declaring_classes c.args.base.now) (classes_of c.classes.result.now) (held c.args.names.now) _ (rest c.args.words.now) _ c.in_ok-class.field-0 c.in-Declaration.class c.classes.ensures c.in_ok-class.ensures.0 c.in-Declaration.is _ c.declare.ensures.after,
)

pub unwrap-requires : goal.unwrap-requires
unwrap-requires c =
    let well = declared_well (declaring_classes c.args.base.now) (classes_of c.classes.result.now) (held c.args.names.now) _ (rest c.args.words.now) _ c.in_ok-class.field-0 c.in-Declaration.class c.classes.ensures c.in_ok-class.ensures.0 c.in-Declaration.is in
    search rules

pub unreachable-requires : goal.unreachable-requires
unreachable-requires c =
    declares_one (classes_of c.classes.result.now) (held c.args.names.now) _ (rest c.args.words.now) _ c.in_ok-class.field-0 c.in_default.field-0 c.in_ok-class.ensures.0 c.in_default.is
