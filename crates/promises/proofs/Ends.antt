-- The failed ends are as many, read forward or backward. Nothing here knows the machine.
use Rattle.std.proofs.Common.{◌≡◌, ℕ, ◌+◌, Bool, true, false, cond, eqb, List, [], ◌∷◌, sym, refl, ap, ◌∙◌, arith}
use mathlib.Core.Path.{fun_ext}
use Rattle.packet.specs.Requests.{RequestParts}
use Rattle.std.proofs.lemmas.Bool.Decides.{nat_tests}
use Rattle.promises.specs.Grants.{end_in, fail_in, failed_ends, in_time, is_of, next_for, next_in, next_of_packet, one_if, onto}
use Rattle.promises.specs.Record.{Mark, Owner, Told, mark}
use Rattle.promises.specs.Record.Mark.{scan, grant, success, failure}
use Rattle.promises.specs.Record.Owner.{nobody, owner}
use Rattle.promises.proofs.Counts.{failed, open_for, open_of, stands}

-- which packets have an open grant
abbrev Open : Type 0
Open = ℕ → Bool

abbrev at : Open → Owner → Bool
at g nobody = false
at g (owner p r) = g p

abbrev hits : List Told → Open → ℕ
hits [] g = 0
hits (u ∷ us) g = fail_in (mark u.out.code) (at g u.of) + hits us (λ p. stands (mark u.out.code) (is_of p u.of) (g p))

abbrev none : Open
none p = false

at_open : (w : Owner) (ts : List Told) → at (λ p. open_of p ts) w ≡ open_for w ts
at_open nobody ts = refl
at_open (owner p r) ts = refl

backward : (us ts : List Told) → failed (onto us ts) ≡ failed ts + hits us (λ p. open_of p ts)
backward [] ts = omega arith
backward (u ∷ us) ts = omega (arith, backward us (u ∷ ts), ap (fail_in (mark u.out.code)) (at_open u.of ts))

-- tests that exclude one another, or are the same
swap : (v b z x y : Bool) → (x ≡ true → y ≡ true → ⊥) → cond x v (cond y b z) ≡ cond y b (cond x v z)
swap v b z true true h = absurd (h refl refl)
swap v b z true false h = refl
swap v b z false true h = refl
swap v b z false false h = refl

cover : (v z x y : Bool) → x ≡ y → cond x v (cond y true z) ≡ cond x v (cond y false z)
cover v z true y h = refl
cover v z false true h = absurd (let e : ◌≡◌ {A = ℕ} 0 1 = cc in omega arith)
cover v z false false h = refl

not-both : (n q p : ℕ) → eqb n q ≡ false → eqb n p ≡ true → eqb q p ≡ true → ⊥
not-both n q p a b c = grind (arith, nat_tests)

is-it : (n q : ℕ) → eqb n q ≡ true → n ≡ q
is-it n q h = grind (arith, nat_tests)

turned : (n q : ℕ) (b : Bool) → eqb n q ≡ b → eqb q n ≡ b
turned n q true h = grind (arith, nat_tests)
turned n q false h = grind (arith, nat_tests)

abbrev put : ℕ → Bool → Open → Open
put q b g = λ p. cond (eqb q p) b (g p)

put-put : (n q : ℕ) (v b : Bool) (g : Open) → eqb n q ≡ false → put n v (put q b g) ≡ put q b (put n v g)
put-put n q v b g h = fun_ext (λ p. swap v b (g p) (eqb n p) (eqb q p) (not-both n q p h))

put-over : (n q : ℕ) (v : Bool) (g : Open) → eqb n q ≡ true → put n v (put q true g) ≡ put n v (put q false g)
put-over n q v g h = fun_ext (λ p. cover v (g p) (eqb n p) (eqb q p) (ap (λ z. eqb z p) (is-it n q h)))

put-none : (q : ℕ) → put q false none ≡ none
put-none q = fun_ext (λ p. either (eqb q p))
  where
    either : (b : Bool) → cond b false false ≡ false
    either true = refl
    either false = refl

-- one more open grant is one more hit, if its end failed
one_more : (q : ℕ) (us : List Told) (g : Open) → hits us (put q true g) ≡ hits us (put q false g) + fail_in (next_of_packet q us) true
one_more q [] g = omega arith
one_more q (u ∷ us) g = go (mark u.out.code) u.of (one_more q us)
  where
    Goal : Mark → Owner → Type 0
    Goal m w = fail_in m (at (put q true g) w) + hits us (λ p. stands m (is_of p w) (put q true g p))
        ≡ fail_in m (at (put q false g) w) + hits us (λ p. stands m (is_of p w) (put q false g p))
        + fail_in (next_in m (is_of q w) (next_of_packet q us)) true

    Ih : Type 0
    Ih = (g : Open) → hits us (put q true g) ≡ hits us (put q false g) + fail_in (next_of_packet q us) true

    -- an outcome that sets the packet `n` to `v`
    set : Ih → (n : ℕ) (v : Bool) → eqb n q ≡ false
        → hits us (put n v (put q true g)) ≡ hits us (put n v (put q false g)) + fail_in (next_of_packet q us) true
    set ih n v h =
        ap (hits us) (put-put n q v true g h) ∙ ih (put n v g)
        ∙ ap (λ f. hits us f + fail_in (next_of_packet q us) true) (sym (put-put n q v false g h))

    own : (n : ℕ) (v : Bool) → eqb n q ≡ true → hits us (put n v (put q true g)) ≡ hits us (put n v (put q false g))
    own n v h = ap (hits us) (put-over n q v g h)

    end : (m : Mark) (b : Bool) (n : ℕ) → eqb n q ≡ b
        → fail_in (next_in m (eqb n q) (next_of_packet q us)) true ≡ fail_in (next_in m b (next_of_packet q us)) true
    end m b n h = ap (λ z. fail_in (next_in m z (next_of_packet q us)) true) h

    was : (n : ℕ) (v b : Bool) → eqb n q ≡ b → one_if (cond (eqb q n) v (g n)) ≡ one_if (cond b v (g n))
    was n v b h = ap (λ z. one_if (cond z v (g n))) (turned n q b h)

    at-owner : Ih → (m : Mark) (n : ℕ) (r : RequestParts) (b : Bool) → eqb n q ≡ b → Goal m (owner n r)
    at-owner ih scan n r b h = omega (arith, ih g)
    at-owner ih grant n r true h = omega (arith, own n true h, end grant true n h)
    at-owner ih grant n r false h = omega (arith, set ih n true h, end grant false n h)
    at-owner ih success n r true h = omega (arith, own n false h, end success true n h)
    at-owner ih success n r false h = omega (arith, set ih n false h, end success false n h)
    at-owner ih failure n r true h = omega (arith, own n false h, end failure true n h, was n true true h, was n false true h)
    at-owner ih failure n r false h = omega (arith, set ih n false h, end failure false n h, was n true false h, was n false false h)

    go : (m : Mark) (w : Owner) → Ih → Goal m w
    go scan nobody ih = omega (arith, ih g)
    go grant nobody ih = omega (arith, ih g)
    go success nobody ih = omega (arith, ih g)
    go failure nobody ih = omega (arith, ih g)
    go scan (owner n r) ih = omega (arith, ih g)
    go grant (owner n r) ih = at-owner ih grant n r (eqb n q) refl
    go success (owner n r) ih = at-owner ih success n r (eqb n q) refl
    go failure (owner n r) ih = at-owner ih failure n r (eqb n q) refl

cleared : (w : Owner) → (λ p. cond (is_of p w) false false) ≡ none
cleared nobody = refl
cleared (owner n r) = put-none n

forward : (us : List Told) → hits us none ≡ failed_ends us
forward [] = refl
forward (u ∷ us) = go (mark u.out.code) u.of (forward us)
  where
    go : (m : Mark) (w : Owner) → hits us none ≡ failed_ends us
        → fail_in m (at none w) + hits us (λ p. stands m (is_of p w) (none p)) ≡ end_in m (next_for w us) + failed_ends us
    go scan w ih = omega (arith, ih)
    go grant nobody ih = omega (arith, ih)
    go grant (owner n r) ih = omega (arith, one_more n us none, ap (hits us) (put-none n), ih)
    go success w ih = omega (arith, ap (hits us) (cleared w), ih)
    go failure nobody ih = omega (arith, ih)
    go failure (owner n r) ih = omega (arith, ap (hits us) (put-none n), ih)

onto-onto : (ts us : List Told) → onto (onto ts us) [] ≡ onto us ts
onto-onto [] us = refl
onto-onto (t ∷ ts) us = onto-onto ts (t ∷ us)

pub same_ends : (ts : List Told) → failed ts ≡ failed_ends (in_time ts)
same_ends ts = omega (arith, ap failed (onto-onto ts []), backward (in_time ts) [], forward (in_time ts))
