-- A short text by its key; a longer one is compared with each long spelling that has a form. Written by tools/make_mathml_forms.py.
use mathlib.Core.Path.{◌≡◌, refl, sym, ap, ◌∙◌}
use Rattle.tokens.specs.Bytes.{bytes, same}
use Rattle.mathml_rules.specs.Utf8.{encoded, utf8}
use Rattle.mathml_rules.specs.Forms.{forms}
use Rattle.mathml_forms.specs.Words.{packed, form_word_by, form_word, key_word}
use Rattle.mathml_forms.proofs.Words.{long, short-is, is_row, no_long}
use Rattle.mathml_forms.proofs.forms.form_word.Goals as goal

word-1 : 31623060 ≡ form_word (bytes "Leftrightarrow")
unfolding form_word form_word_by forms same packed utf8 encoded
word-1 = refl

word-2 : 31623058 ≡ form_word (bytes "Rightarrow")
unfolding form_word form_word_by forms same packed utf8 encoded
word-2 = refl

word-3 : 31622804 ≡ form_word (bytes "leftrightarrow")
unfolding form_word form_word_by forms same packed utf8 encoded
word-3 = refl

word-4 : 31623816 ≡ form_word (bytes "notsubseteq")
unfolding form_word form_word_by forms same packed utf8 encoded
word-4 = refl

word-5 : 31623817 ≡ form_word (bytes "notsupseteq")
unfolding form_word form_word_by forms same packed utf8 encoded
word-5 = refl

word-6 : 31622802 ≡ form_word (bytes "rightarrow")
unfolding form_word form_word_by forms same packed utf8 encoded
word-6 = refl

word-7 : 31622819 ≡ form_word (bytes "rightarrowtail")
unfolding form_word form_word_by forms same packed utf8 encoded
word-7 = refl

word-8 : 31623052 ≡ form_word (bytes "rightleftharpoons")
unfolding form_word form_word_by forms same packed utf8 encoded
word-8 = refl

word-9 : 31622816 ≡ form_word (bytes "twoheadrightarrow")
unfolding form_word form_word_by forms same packed utf8 encoded
word-9 = refl

word-10 : 31630486 ≡ form_word (bytes "twoheadrightarrowtail")
unfolding form_word form_word_by forms same packed utf8 encoded
word-10 = refl

word-11 : 118709 ≡ form_word (bytes "varepsilon")
unfolding form_word form_word_by forms same packed utf8 encoded
word-11 = refl

pub returns-then-s-le-MOST_WITH_KEY : goal.returns-then-s-le-MOST_WITH_KEY
returns-then-s-le-MOST_WITH_KEY c = c.short_word.ensures ∙ ap key_word c.key_of.ensures ∙ sym (short-is _ c.if-s-le-MOST_WITH_KEY.true)

pub returns-then-same_bytes : goal.returns-then-same_bytes
returns-then-same_bytes c = is_row _ _ word-1 c.same_bytes.ensures c.if-same_bytes.true

pub returns-then-same_bytes-2 : goal.returns-then-same_bytes-2
returns-then-same_bytes-2 c = is_row _ _ word-2 c.same_bytes-2.ensures c.if-same_bytes-2.true

pub returns-then-same_bytes-3 : goal.returns-then-same_bytes-3
returns-then-same_bytes-3 c = is_row _ _ word-3 c.same_bytes-3.ensures c.if-same_bytes-3.true

pub returns-then-same_bytes-4 : goal.returns-then-same_bytes-4
returns-then-same_bytes-4 c = is_row _ _ word-4 c.same_bytes-4.ensures c.if-same_bytes-4.true

pub returns-then-same_bytes-5 : goal.returns-then-same_bytes-5
returns-then-same_bytes-5 c = is_row _ _ word-5 c.same_bytes-5.ensures c.if-same_bytes-5.true

pub returns-then-same_bytes-6 : goal.returns-then-same_bytes-6
returns-then-same_bytes-6 c = is_row _ _ word-6 c.same_bytes-6.ensures c.if-same_bytes-6.true

pub returns-then-same_bytes-7 : goal.returns-then-same_bytes-7
returns-then-same_bytes-7 c = is_row _ _ word-7 c.same_bytes-7.ensures c.if-same_bytes-7.true

pub returns-then-same_bytes-8 : goal.returns-then-same_bytes-8
returns-then-same_bytes-8 c = is_row _ _ word-8 c.same_bytes-8.ensures c.if-same_bytes-8.true

pub returns-then-same_bytes-9 : goal.returns-then-same_bytes-9
returns-then-same_bytes-9 c = is_row _ _ word-9 c.same_bytes-9.ensures c.if-same_bytes-9.true

pub returns-then-same_bytes-10 : goal.returns-then-same_bytes-10
returns-then-same_bytes-10 c = is_row _ _ word-10 c.same_bytes-10.ensures c.if-same_bytes-10.true

pub returns-then-same_bytes-11 : goal.returns-then-same_bytes-11
returns-then-same_bytes-11 c = is_row _ _ word-11 c.same_bytes-11.ensures c.if-same_bytes-11.true

pub returns : goal.returns
unfolding long forms
returns c = no_long _ c.if-s-le-MOST_WITH_KEY.false
    (sym c.same_bytes.ensures ∙ c.if-same_bytes.false, (sym c.same_bytes-2.ensures ∙ c.if-same_bytes-2.false, (sym c.same_bytes-3.ensures ∙ c.if-same_bytes-3.false, (sym c.same_bytes-4.ensures ∙ c.if-same_bytes-4.false, (sym c.same_bytes-5.ensures ∙ c.if-same_bytes-5.false, (sym c.same_bytes-6.ensures ∙ c.if-same_bytes-6.false, (sym c.same_bytes-7.ensures ∙ c.if-same_bytes-7.false, (sym c.same_bytes-8.ensures ∙ c.if-same_bytes-8.false, (sym c.same_bytes-9.ensures ∙ c.if-same_bytes-9.false, (sym c.same_bytes-10.ensures ∙ c.if-same_bytes-10.false, (sym c.same_bytes-11.ensures ∙ c.if-same_bytes-11.false, tt)))))))))))
