-- Words drawn one after the other.
use Rattle.std.proofs.Common.{◌≡◌, ℕ, zero, suc, ◌+◌, refl, ap, sym, ◌∙◌, subst, arith}
use Rattle.rand_pcg.specs.Lcg.{Lcg, next_state, state_after}
use Rattle.rand_pcg.specs.Pcg.{multiplier_64}
use Rattle.seed_words.specs.Words.{after, word}

state_after_add : (i m n s : ℕ)
    → state_after 64 multiplier_64 i n (state_after 64 multiplier_64 i m s)
    ≡ state_after 64 multiplier_64 i (m + n) s
unfolding state_after
state_after_add i zero n s =
    let e : n ≡ 0 + n = omega arith in
    ap (λ k. state_after 64 multiplier_64 i k s) e
state_after_add i (suc m) n s =
    let e : suc (m + n) ≡ suc m + n = omega arith in
    state_after_add i m n (next_state 64 multiplier_64 i s) ∙ ap (λ k. state_after 64 multiplier_64 i k s) e

pub after_after : (m n k : ℕ) (g : Lcg) → m + n ≡ k → after n (after m g) ≡ after k g
after_after m n k g e =
    let P : ℕ → Lcg = λ s. record { state = s; increment = g.increment } in
    ap P (state_after_add g.increment m n g.state ∙ ap (λ j. state_after 64 multiplier_64 g.increment j g.state) e)

pub after_none : (g : Lcg) → after 0 g ≡ g
unfolding state_after
after_none g = refl

pub word_after : (m n k : ℕ) (g : Lcg) → m + n ≡ k → word (after m g) n ≡ word g k
unfolding word state_after
word_after m n k g e = ap (λ (h : Lcg). word h 0) (after_after m n k g e)

-- the next word, after k others
pub word_here : (k : ℕ) (g h : Lcg) → h ≡ after k g → word h 0 ≡ word g k
word_here k g h e =
    let P : Lcg → Type 0 = λ u. word u 0 ≡ word g k in
    subst P (sym e) (word_after k 0 k g (omega arith))

pub after_next : (m n k : ℕ) (g h : Lcg) → h ≡ after m g → m + n ≡ k → after n h ≡ after k g
after_next m n k g h e sum =
    let P : Lcg → Type 0 = λ u. after n u ≡ after k g in
    subst P (sym e) (after_after m n k g sum)
