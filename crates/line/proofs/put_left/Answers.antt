-- at and len, of a kind that has them
use Rattle.std.proofs.Common.{◌≡◌, get_or, arith}
use Rattle.writer.proofs.Puts.{then, put_as}
use Rattle.line.proofs.Fields.{left_both}
use Rattle.line.specs.Lines.{left_of}
use Rattle.line.proofs.put_left.Goals.{in_default-via-then-kind-lt17, in_default-via-else-kind-lt17+else-kind-lt19}
use Rattle.line.proofs.put_left.Goals as goal

pub returns-in_default : goal.returns-in_default
returns-in_default c =
    let own = c.args.own.now in
    let same : left_of c.args.kind c.word-start.result c.word-len.result ≡ left_of c.args.kind (get_or own 1 0) (get_or own 2 0) = rw (c.word-start.ensures, c.word-len.ensures) in
    let put = then c.put_number-end.ensures c.put_number.ensures in
    put_as same (put_as (left_both _ _ _ (λ e. grind arith) (λ e. grind arith) (λ e. grind arith) (λ e. grind arith)) put)
