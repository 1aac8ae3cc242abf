-- `closers_text`: what the tokenizer says of the text; then the pass over its list.
use mathlib.Core.Path.{refl, ap, ◌∙◌}
use Rattle.std.specs.Prelude.{Ok}
use Rattle.std.proofs.lemmas.Result.{err_from_is_err_and}
use Rattle.closers.proofs.Calls.{tokens-refused, tokens-many, list-accepted, others-are, enough, text-closed}
use Rattle.closers.proofs.closers_text.Goals as goal

pub pair_sized-requires : goal.pair_sized-requires
pair_sized-requires c =
    let a = c.args in
    let q = c.in_ok-tokenize_under.was ∙ ap Ok c.in-Tokens.is in
    record {
      table_value = list-accepted a.text.now a.table.now a.out.now _ _ _ c.tokenize_under.ensures refl _ _ q;
      others_value = others-are a.text.now a.table.now a.out.now _ _ _ c.tokenize_under.ensures refl _ _ q;
      others_in_bounds = enough a.text.now a.table.now a.out.now _ _ _ c.tokenize_under.ensures refl _ _ q;
    }

pub returns-in_err-tokenize_under : goal.returns-in_err-tokenize_under
returns-in_err-tokenize_under c =
    let a = c.args in
    let p = err_from_is_err_and c.from_residual.result c.from_residual.ensures.1 in
    rw (p.1, p.2) (tokens-refused a.text.now a.table.now a.out.now _ _ _ c.tokenize_under.ensures refl _ c.in_err-tokenize_under.was)

pub returns-in-Many : goal.returns-in-Many
returns-in-Many c = let a = c.args in tokens-many a.text.now a.table.now a.out.now _ _ _ c.tokenize_under.ensures refl _ (c.in_ok-tokenize_under.was ∙ ap Ok c.in-Many.is)

pub returns-in-Tokens : goal.returns-in-Tokens
returns-in-Tokens c = let a = c.args in text-closed a.text.now a.table.now a.out.now _ _ _ c.tokenize_under.ensures refl _ _ (c.in_ok-tokenize_under.was ∙ ap Ok c.in-Tokens.is) _ c.pair_sized.ensures
