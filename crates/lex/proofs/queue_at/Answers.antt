-- The three that wait, word by word.
use Rattle.lex.proofs.queue_at.Goals as goal

pub returns : goal.returns
returns c = λ i.
    record {
      count = c.args.count;
      first = c.spanned_at.ensures i;
      second = c.spanned_at-2.ensures i;
      third = c.spanned_at-3.ensures i;
    }
