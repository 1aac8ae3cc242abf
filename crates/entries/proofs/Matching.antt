-- The stack of open brackets against the definition: what closes a bracket with `depth` others open in it, and the Sep directly
-- in it, one entry after the other.
use Prim.Native.Nat.{ℕ, zero, suc, ◌+◌, ◌≤◌, ◌<◌}
use mathlib.Core.Path.{◌≡◌, refl, sym, ap, ◌∙◌}
use mathlib.Core.Bool.{Bool, true, false, cond, and-false}
use mathlib.Core.List.{List, [], ◌∷◌}
use mathlib.Core.Option.{Option, none, some}
use native.Mathlib.Omega.{arith}
use lib.Dec.{eqb}
use borrow.Author.Tests.{eq-eqb, ne_eqb}
use Rattle.tokens.specs.declared.token.Token.TheVariants as token
use Rattle.reading.specs.Entries.{Entry, is, close_after, has_sep}
use Rattle.tokens.proofs.Cases.{by_eq}
use Rattle.entries.specs.Prepared.{close_from, of_bracket}
use Rattle.entries.specs.Open.{Chain}

-- The law over depth: what closes a bracket before e ∷ es, and the Sep in it, by what does so before es.
module _ (n : ℕ) (e : Entry) (es : List Entry) where
  one_on : (o : Option ℕ) → ◌≡◌ {A = ℕ} (elim (elim o as (λ _. Option ℕ) [ none ↦ none | some k ↦ some (suc k) ]) as (λ _. ℕ) [ none ↦ 0 | some k ↦ suc (n + k) ]) (elim o as (λ _. ℕ) [ none ↦ 0 | some k ↦ suc (suc n + k) ])
  one_on none = refl
  one_on (some k) = omega arith

  module _ (o : is token.OpenBracket e ≡ true) where
    pub close-opened : (d : ℕ) → close_from d n (e ∷ es) ≡ close_from (suc d) (suc n) es
    unfolding close_from close_after
    close-opened d = rw (close_from, close_after, o) (one_on (close_after (suc d) es))

    pub sep-opened : (d : ℕ) → has_sep d (e ∷ es) ≡ has_sep (suc d) es
    unfolding has_sep
    sep-opened d = rw (has_sep, o)

  module _ (o : is token.OpenBracket e ≡ false) (c : is token.CloseBracket e ≡ true) where
    pub close-closed : close_from zero n (e ∷ es) ≡ suc n
    unfolding close_from close_after
    close-closed = rw (close_from, close_after, o, c) (omega arith)

    pub close-inner : (d : ℕ) → close_from (suc d) n (e ∷ es) ≡ close_from d (suc n) es
    unfolding close_from close_after
    close-inner d = rw (close_from, close_after, o, c) (one_on (close_after d es))

    pub sep-closed : has_sep zero (e ∷ es) ≡ false
    unfolding has_sep
    sep-closed = rw (has_sep, o, c)

    pub sep-inner : (d : ℕ) → has_sep (suc d) (e ∷ es) ≡ has_sep d es
    unfolding has_sep
    sep-inner d = rw (has_sep, o, c)

  module _ (o : is token.OpenBracket e ≡ false) (c : is token.CloseBracket e ≡ false) where
    pub close_other : (d : ℕ) → close_from d n (e ∷ es) ≡ close_from d (suc n) es
    unfolding close_from close_after
    close_other d = rw (close_from, close_after, o, c) (one_on (close_after d es))

    pub sep-direct : is token.Sep e ≡ true → has_sep zero (e ∷ es) ≡ true
    unfolding has_sep
    sep-direct s = rw (has_sep, o, c, s)

    pub sep-deeper : (d : ℕ) → has_sep (suc d) (e ∷ es) ≡ has_sep (suc d) es
    unfolding has_sep
    sep-deeper d = rw (has_sep, o, c, ne_eqb (suc d) 0 (λ z. omega arith), and-false)

    pub sep-other : is token.Sep e ≡ false → (d : ℕ) → has_sep d (e ∷ es) ≡ has_sep d es
    unfolding has_sep
    sep-other s d = rw (has_sep, o, c, s)

-- What the field of an entry comes to in the end: f of its depth, if its bracket is open, else itself.
abbrev pub comes : (ℕ → ℕ → ℕ) → ℕ → List ℕ → ℕ → ℕ → ℕ
comes f d [] i w = w
comes f d (s ∷ st) i w = cond (eqb i s) (f d w) (comes f (suc d) st i w)

abbrev pub closing : ℕ → List Entry → ℕ → ℕ → ℕ
closing n es d w = close_from d n es

abbrev pub parting : List Entry → ℕ → ℕ → ℕ
parting es d w = cond (has_sep d es) 1 w

module _ (f g : ℕ → ℕ → ℕ) (i w : ℕ) where
  -- the same from one depth further in, and one further out
  pub comes-deeper : ((d : ℕ) → f d w ≡ g (suc d) w) → (d : ℕ) (st : List ℕ) → comes f d st i w ≡ comes g (suc d) st i w
  comes-deeper h d [] = refl
  comes-deeper h d (s ∷ st) = rw (h d, comes-deeper h (suc d) st)

  pub comes-inner : ((d : ℕ) → f (suc d) w ≡ g (suc d) w) → (d : ℕ) (st : List ℕ) → comes f (suc d) st i w ≡ comes g (suc d) st i w
  comes-inner h d [] = refl
  comes-inner h d (s ∷ st) = rw (h d, comes-inner h (suc d) st)

  pub comes-same : ((d : ℕ) → f d w ≡ g d w) → (d : ℕ) (st : List ℕ) → comes f d st i w ≡ comes g d st i w
  comes-same h d [] = refl
  comes-same h d (s ∷ st) = rw (h d, comes-same h (suc d) st)

pub pick_same : (b : Bool) (x : ℕ) → cond b x x ≡ x
pick_same true x = refl
pick_same false x = refl

-- y is x but for v at b
picked : (x y : ℕ → ℕ) (b i : ℕ) {v : ℕ} → y b ≡ v → ((i ≡ b → ⊥) → y i ≡ x i) → cond (eqb i b) v (x i) ≡ y i
picked x y b i p q = by_eq i b (λ e. rw (eq-eqb i b e, e) (sym p)) (λ e. rw (ne_eqb i b e) (sym (q e)))

-- Every number below suc n is below n or n.
pub up_to : (P : ℕ → Type 0) (n : ℕ) → ((i : ℕ) → i < n → P i) → P n → (i : ℕ) → i < suc n → P i
up_to P n h p i l = by_eq i n (λ e. rw e p) (λ d. h i (omega arith))

-- the stack without its last bracket o
pub record Popped (c : ℕ → ℕ) (b o : ℕ) (st : List ℕ) : Type 0 where
  pub rest : List ℕ
  pub whole : st ≡ o ∷ rest
  pub below : o < b
  pub chain : Chain c o rest (c o)

module _ {c : ℕ → ℕ} where
  pub chain-top : {b top : ℕ} {st : List ℕ} → Chain c b st top → top ≤ b
  chain-top Chain.none = omega arith
  chain-top (Chain.more l p) = l

  pub chain-wider : {b d top : ℕ} {st : List ℕ} → b ≤ d → Chain c b st top → Chain c d st top
  chain-wider h Chain.none = Chain.none
  chain-wider {d = d} h (Chain.more {s = s} l p) = let k : s < d = omega arith in Chain.more k p

  -- an entry that is not below b is not open
  pub chain-out : (f : ℕ → ℕ → ℕ) (d w : ℕ) {b i top : ℕ} {st : List ℕ} → Chain c b st top → b ≤ i → comes f d st i w ≡ w
  chain-out f d w Chain.none h = refl
  chain-out f d w {b} {i} (Chain.more {s = s} l p) h =
      rw (ne_eqb i s (λ e. omega arith)) (chain-out f (suc d) w p (omega arith))

  pub chain-kept : {c' : ℕ → ℕ} {b top : ℕ} {st : List ℕ} → ((i : ℕ) → i < b → c' i ≡ c i) → Chain c b st top → Chain c' b st top
  chain-kept h Chain.none = Chain.none
  chain-kept {c'} h (Chain.more {s = s} {st = st} l p) =
      let q : Chain c' s st (c' s) = rw (h s l) (chain-kept (λ i k. h i (omega arith)) p) in
      Chain.more l q

  pub chain-none : {b : ℕ} {st : List ℕ} → Chain c b st zero → st ≡ []
  chain-none Chain.none = refl

  pub popped : {b o : ℕ} {st : List ℕ} → Chain c b st (suc o) → Popped c b o st
  popped (Chain.more {st = st} l p) = record { rest = st; whole = refl; below = l; chain = p }

  -- the last bracket o is open no more: its field is what it comes to
  pub comes-popped : (f g : ℕ → ℕ → ℕ) (i w : ℕ) {o top : ℕ} {st : List ℕ} → Chain c o st top → ((d : ℕ) → g d w ≡ f (suc d) w)
      → comes f 0 (o ∷ st) i w ≡ comes g 0 st i (cond (eqb i o) (f 0 w) w)
  comes-popped f g i w {o} {top} {st} p h =
      by_eq i o
      (λ e. rw (eq-eqb i o e) (sym (chain-out g 0 (f 0 w) p (omega arith))))
      (λ e. rw (ne_eqb i o e) (sym (comes-deeper g f i w h 0 st)))

-- n entries are matched by the fields c and s, and es are to come: each field comes to what it has to be, fc and fs.
pub record Matching (fc fs c s : ℕ → ℕ) (n top : ℕ) (es : List Entry) : Type 0 where
  pub stack : List ℕ
  pub chain : Chain c n stack top
  pub close : (i : ℕ) → i < n → fc i ≡ comes (closing n es) 0 stack i (c i)
  pub sep : (i : ℕ) → i < n → fs i ≡ comes (parting es) 0 stack i (s i)

module _ (fc fs c s : ℕ → ℕ) where
  pub matching-none : (es : List Entry) → Matching fc fs c s 0 0 es
  matching-none es = record { stack = []; chain = Chain.none; close = λ i l. absurd (omega arith); sep = λ i l. absurd (omega arith) }

  pub matching-kept : (c' s' : ℕ → ℕ) (n : ℕ) {top : ℕ} {es : List Entry} → ((i : ℕ) → i < n → c' i ≡ c i) → ((i : ℕ) → i < n → s' i ≡ s i)
      → Matching fc fs c s n top es → Matching fc fs c' s' n top es
  matching-kept c' s' n hc hs m =
      record {
        stack = m.stack;
        chain = chain-kept hc m.chain;
        close = λ i l. rw (hc i l) (m.close i l);
        sep = λ i l. rw (hs i l) (m.sep i l);
      }

  -- One entry more, e, whose fields are what the definition says.
  module _ (n top : ℕ) (e : Entry) (es : List Entry) (m : Matching fc fs c s n top (e ∷ es))
      (fcn : fc n ≡ of_bracket e (close_from zero (suc n) es)) (fsn : fs n ≡ of_bracket e (cond (has_sep zero es) 1 0)) (cn : c n ≡ 0) (sn : s n ≡ 0)
    where
      pub opened : (c' : ℕ → ℕ) → is token.OpenBracket e ≡ true → ((i : ℕ) → i < n → c' i ≡ c i) → c' n ≡ top → Matching fc fs c' s (suc n) (suc n) es
      unfolding of_bracket
      opened c' o hc t =
          record {
            stack = n ∷ m.stack;
            chain = let k : n < suc n = omega arith in let q : Chain c' n m.stack (c' n) = rw t (chain-kept hc m.chain) in Chain.more k q;
            close = up_to _ n
                (λ i l. m.close i l ∙ comes-deeper (closing n (e ∷ es)) (closing (suc n) es) i (c i) (close-opened n e es o) 0 m.stack ∙ rw (ne_eqb i n (λ z. omega arith), hc i l))
                (fcn ∙ rw (o, eq-eqb n n refl));
            sep = up_to _ n
                (λ i l. m.sep i l ∙ comes-deeper (parting (e ∷ es)) (parting es) i (s i) (λ d. rw (sep-opened n e es o d)) 0 m.stack ∙ rw (ne_eqb i n (λ z. omega arith)))
                (fsn ∙ rw (o, eq-eqb n n refl, sn));
          }

      module _ (o : is token.OpenBracket e ≡ false) where
        none-close : fc n ≡ 0
        unfolding of_bracket
        none-close = fcn ∙ rw o

        none-sep : fs n ≡ 0
        unfolding of_bracket
        none-sep = fsn ∙ rw o

        pub alone : top ≡ 0 → Matching fc fs c s (suc n) 0 es
        alone t =
            let e = chain-none (rw t at m.chain) in
            record {
              stack = [];
              chain = Chain.none;
              close = up_to _ n (λ i l. rw e at (m.close i l)) (none-close ∙ sym cn);
              sep = up_to _ n (λ i l. rw e at (m.sep i l)) (none-sep ∙ sym sn);
            }

        pub closed : (c' : ℕ → ℕ) (b : ℕ) → is token.CloseBracket e ≡ true → top ≡ suc b → c' b ≡ suc n → ((i : ℕ) → i < suc n → (i ≡ b → ⊥) → c' i ≡ c i)
            → Matching fc fs c' s (suc n) (c b) es
        closed c' b k t cb co =
            let q = popped (rw t at m.chain) in
            record {
              stack = q.rest;
              chain = chain-wider (omega (arith, q.below)) (chain-kept (λ i l. co i (omega (arith, q.below)) (λ z. omega arith)) q.chain);
              close = up_to _ n
                  (λ i l.
                  rw q.whole at (m.close i l)
                  ∙ comes-popped (closing n (e ∷ es)) (closing (suc n) es) i (c i) q.chain (λ d. sym (close-inner n e es o k d))
                  ∙ ap (comes (closing (suc n) es) 0 q.rest i) (picked c c' b i (cb ∙ sym (close-closed n e es o k)) (co i (omega arith))))
                  (none-close ∙ sym (co n (omega arith) (λ z. omega (arith, q.below)) ∙ cn) ∙ sym (chain-out (closing (suc n) es) 0 (c' n) q.chain (omega (arith, q.below))));
              sep = up_to _ n
                  (λ i l.
                  rw q.whole at (m.sep i l)
                  ∙ comes-popped (parting (e ∷ es)) (parting es) i (s i) q.chain (λ d. rw (sep-inner n e es o k d))
                  ∙ ap (comes (parting es) 0 q.rest i) (rw (sep-closed n e es o k) (pick_same (eqb i b) (s i))))
                  (none-sep ∙ sym sn ∙ sym (chain-out (parting es) 0 (s n) q.chain (omega (arith, q.below))));
            }

        module _ (k : is token.CloseBracket e ≡ false) where
          close_passed : (i : ℕ) → i < suc n → fc i ≡ comes (closing (suc n) es) 0 m.stack i (c i)
          close_passed =
              up_to _ n
              (λ i l. m.close i l ∙ comes-same (closing n (e ∷ es)) (closing (suc n) es) i (c i) (close_other n e es o k) 0 m.stack)
              (none-close ∙ sym cn ∙ sym (chain-out (closing (suc n) es) 0 (c n) m.chain (omega arith)))

          pub parted : (s' : ℕ → ℕ) (b : ℕ) → is token.Sep e ≡ true → top ≡ suc b → s' b ≡ 1 → ((i : ℕ) → i < suc n → (i ≡ b → ⊥) → s' i ≡ s i)
              → Matching fc fs c s' (suc n) top es
          parted s' b p t sb so =
              let q = popped (rw t at m.chain) in
              record {
                stack = m.stack;
                chain = chain-wider (omega arith) m.chain;
                close = close_passed;
                sep = up_to _ n
                    (λ i l.
                    m.sep i l
                    ∙ rw q.whole
                    (by_eq i b
                    (λ z. rw (eq-eqb i b z, sep-direct n e es o k p, z, sb) (sym (pick_same (has_sep 0 es) 1)))
                    (λ z. rw (ne_eqb i b z, so i (omega arith) z) (comes-inner (parting (e ∷ es)) (parting es) i (s i) (λ d. rw (sep-deeper n e es o k d)) 0 q.rest))))
                    (none-sep ∙ sym (so n (omega arith) (λ z. omega (arith, q.below)) ∙ sn) ∙ sym (chain-out (parting es) 0 (s' n) m.chain (omega arith)));
              }

          pub passed : is token.Sep e ≡ false → Matching fc fs c s (suc n) top es
          passed p =
              record {
                stack = m.stack;
                chain = chain-wider (omega arith) m.chain;
                close = close_passed;
                sep = up_to _ n
                    (λ i l. m.sep i l ∙ comes-same (parting (e ∷ es)) (parting es) i (s i) (λ d. rw (sep-other n e es o k p d)) 0 m.stack)
                    (none-sep ∙ sym sn ∙ sym (chain-out (parting es) 0 (s n) m.chain (omega arith)));
              }
