-- By the kind of the byte, and by what the lookup finds.
use mathlib.Core.Path.{refl, sym, ◌∙◌}
use native.Mathlib.Omega.{arith}
use lib.ListN.{get_or}
use Rattle.tokens.specs.Lexeme.{lexeme}
use Rattle.lexer.proofs.Adding.{added-read}
use Rattle.lexer.proofs.Lookup.{none_is, found-longer}
use Rattle.lexer.proofs.RuleCases.{read-row}
use Rattle.lexer.proofs.ByteKinds.{ascii-byte, kind-blank, kind-other, kind-digit, kind-operator, read_plain_lem, lone}
use Rattle.lexer.proofs.FoundWords.{kind-of_byte, longer-row_read, byte-row_read, blank-longer, placed-found, read_found}
use Rattle.lexer.proofs.rules.read_token.Goals as goal

pub byte_word-found-requires : goal.byte_word-found-requires
byte_word-found-requires c = let text = c.args.text.now in
    let at = c.args.p.next in
    omega (arith, ascii-byte text at c.requires.1 (omega arith))

pub strip_blanks-requires : goal.strip_blanks-requires
strip_blanks-requires c = let text = c.args.text.now in
    let at = c.args.p.next in
    let w = c.byte_word-found.ensures in
    let k = kind-of_byte (get_or text at 0) w c.kind_in-kind.ensures in
    (placed-found text c.args.p _ c.requires.0, (kind-blank (get_or text at 0) (sym k ∙ c.if-kind.true)))

pub returns-then-kind : goal.returns-then-kind
returns-then-kind c = let text = c.args.text.now in
    let at = c.args.p.next in
    let w = c.byte_word-found.ensures in
    let k = kind-of_byte (get_or text at 0) w c.kind_in-kind.ensures in
    let b = kind-blank (get_or text at 0) (sym k ∙ c.if-kind.true) in
    let h = c.requires.0.inside in
    read_found text c.args.p _ c.strip_blanks.ensures refl (byte-row_read text at h (blank-longer text at h b) w)

pub longer_row-requires : goal.longer_row-requires
longer_row-requires c = let text = c.args.text.now in
    let at = c.args.p.next in
    (omega arith, ascii-byte text at c.requires.1 (omega arith))

pub strip_spelling-requires : goal.strip_spelling-requires
strip_spelling-requires c = let text = c.args.text.now in
    let at = c.args.p.next in
    let row = c.in-Some.row in
    let l = sym c.in-Some.is ∙ c.longer_row.ensures in
    let v = found-longer text at row l in
    (placed-found text c.args.p _ c.requires.0, v.2)

pub returns-in-Some : goal.returns-in-Some
returns-in-Some c = let text = c.args.text.now in
    let at = c.args.p.next in
    let w = c.byte_word-found.ensures in
    let k = kind-of_byte (get_or text at 0) w c.kind_in-kind.ensures in
    let row = c.in-Some.row in
    let l = sym c.in-Some.is ∙ c.longer_row.ensures in
    let v = found-longer text at row l in
    let b = kind-other (get_or text at 0) (λ z. c.if-kind.false (k ∙ z)) in
    read_found text c.args.p _ c.strip_spelling.ensures (read-row text at b row v.0 v.1)
    (c.word_of-found.ensures ∙ longer-row_read text at row l)

pub strip_number-requires : goal.strip_number-requires
strip_number-requires c = let text = c.args.text.now in
    let at = c.args.p.next in
    let w = c.byte_word-found.ensures in
    let k = kind-of_byte (get_or text at 0) w c.kind_in-kind.ensures in
    (placed-found text c.args.p _ c.requires.0, (kind-operator (get_or text at 0) (sym k ∙ c.if-kind-2.true)).1)

pub returns-then-kind-2 : goal.returns-then-kind-2
returns-then-kind-2 c = let text = c.args.text.now in
    let at = c.args.p.next in
    let w = c.byte_word-found.ensures in
    let k = kind-of_byte (get_or text at 0) w c.kind_in-kind.ensures in
    let z = sym c.longer_row.ensures ∙ none_is _ c.in_default.not-Some in
    let h = c.requires.0.inside in
    let b = (kind-operator (get_or text at 0) (sym k ∙ c.if-kind-2.true)).0 in
    read_found text c.args.p _ c.strip_number.ensures (read_plain_lem text at h z (λ y. c.if-kind.false (k ∙ y)) b)
    (byte-row_read text at h z w)

pub strip_digits-requires : goal.strip_digits-requires
strip_digits-requires c = let text = c.args.text.now in
    let at = c.args.p.next in
    let w = c.byte_word-found.ensures in
    let k = kind-of_byte (get_or text at 0) w c.kind_in-kind.ensures in
    (placed-found text c.args.p _ c.requires.0, (kind-digit (get_or text at 0) (sym k ∙ c.if-kind-3.true)).1)

pub returns-then-kind-3 : goal.returns-then-kind-3
returns-then-kind-3 c = let text = c.args.text.now in
    let at = c.args.p.next in
    let w = c.byte_word-found.ensures in
    let k = kind-of_byte (get_or text at 0) w c.kind_in-kind.ensures in
    let z = sym c.longer_row.ensures ∙ none_is _ c.in_default.not-Some in
    let h = c.requires.0.inside in
    let b = (kind-digit (get_or text at 0) (sym k ∙ c.if-kind-3.true)).0 in
    read_found text c.args.p _ c.strip_digits.ensures (read_plain_lem text at h z (λ y. c.if-kind.false (k ∙ y)) b)
    (byte-row_read text at h z w)

pub returns : goal.returns
returns c = let text = c.args.text.now in
    let at = c.args.p.next in
    let w = c.byte_word-found.ensures in
    let k = kind-of_byte (get_or text at 0) w c.kind_in-kind.ensures in
    let z = sym c.longer_row.ensures ∙ none_is _ c.in_default.not-Some in
    let h = c.requires.0.inside in
    let v = lone text at h z (λ y. c.if-kind.false (k ∙ y)) (λ y. c.if-kind-3.false (k ∙ y)) (λ y. c.if-kind-2.false (k ∙ y)) in
    let a = added-read (lexeme at 1 v.token) v.no_space v.read_is c.put_other.ensures.0
    (rw (k ∙ sym v.kind-is) at c.put_other.ensures.1) in
    read_found text c.args.p _ a refl (byte-row_read text at h z w)
