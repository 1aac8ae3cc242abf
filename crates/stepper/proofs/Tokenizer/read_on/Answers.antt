-- What is read is answered, or the end, or the refusal.
use Rattle.std.specs.Prelude.{Ok, Err}
use Rattle.std.proofs.lemmas.Result.{err_from_is_err_and}
use Rattle.stepper.proofs.Answers.{answers-read}
use Rattle.stepper.proofs.Tokenizer.read_on.Goals as goal

pub returns-in_err-first : goal.returns-in_err-first
returns-in_err-first c =
    let p = err_from_is_err_and c.from_residual.result c.from_residual.ensures.1 in
    rw (p.1, p.2) (answers-read c.args.text.now c.args.self.now c.requires.0 c.requires.1 (Err _) (rw c.in_err-first.was at c.lex_at.ensures))

pub returns-in-Some : goal.returns-in-Some
returns-in-Some c =
    let e = rw c.in-Some.is at c.in_ok-first.was in
    answers-read c.args.text.now c.args.self.now c.requires.0 c.requires.1 (Ok _) (rw e at c.lex_at.ensures)

pub returns-in-None : goal.returns-in-None
returns-in-None c =
    let e = rw c.in-None.is at c.in_ok-first.was in
    answers-read c.args.text.now c.args.self.now c.requires.0 c.requires.1 (Ok _) (rw e at c.lex_at.ensures)
