-- From counts to places: each SUCCESS of ESA and DSA has one grant, and no two share one. Nothing here knows the machine.
use Rattle.std.proofs.Common.{◌≡◌, ℕ, ◌+◌, ◌<◌, Bool, true, false, cond, eqb, List, [], ◌∷◌, length, sym, refl, ap, ◌∙◌}
use Rattle.std.proofs.Common.{subst, inl, inr, arith}
use Rattle.codes.specs.declared.command.Command.{Command}
use Rattle.codes.specs.declared.numbered.Coded.{Coded}
use Rattle.std.proofs.lemmas.Bool.Decides.{nat_tests}
use Rattle.promises.specs.Grants.{Each, GrantAt, Pays, UseAt, UsedAt, grant_in, is_of, needs_grant, one_if, use_in}
use Rattle.promises.specs.Record.{Mark, Owner, Told, mark}
use Rattle.promises.specs.Record.Mark.{scan, grant, success, failure}
use Rattle.promises.specs.Record.Owner.{nobody, owner}
use Rattle.promises.proofs.Counts.{First, One, OnUse, When, granted, grants_of, unshared, uses_of}

same-owner : (w : Owner) (p q : ℕ) → is_of p w ≡ true → is_of q w ≡ true → p ≡ q
same-owner nobody p q a b = absurd (let z : ◌≡◌ {A = ℕ} 0 1 = cc in omega arith)
same-owner (owner n r) p q a b = grind (arith, nat_tests)

grant-below : (p j : ℕ) (ts : List Told) → GrantAt p j ts → j < length ts
grant-below p j [] g = absurd g
grant-below p j (t ∷ ts) (inl g) = omega (arith, g.0)
grant-below p j (t ∷ ts) (inr g) = omega (arith, grant-below p j ts g)

use-below : (p k : ℕ) (ts : List Told) → UseAt p k ts → k < length ts
use-below p k [] u = absurd u
use-below p k (t ∷ ts) (inl u) = omega (arith, u.0)
use-below p k (t ∷ ts) (inr u) = omega (arith, use-below p k ts u)

grant-counts : (p j : ℕ) (ts : List Told) → GrantAt p j ts → 0 < grants_of p ts
grant-counts p j [] g = absurd g
grant-counts p j (t ∷ ts) (inl g) =
    let e : grant_in (mark t.out.code) (is_of p t.of) ≡ 1 = ap (λ m. grant_in m (is_of p t.of)) g.2 ∙ ap one_if g.1 in
    omega arith
grant-counts p j (t ∷ ts) (inr g) = omega (arith, grant-counts p j ts g)

use-counts : (p k : ℕ) (ts : List Told) → UseAt p k ts → 0 < uses_of p ts
use-counts p k [] u = absurd u
use-counts p k (t ∷ ts) (inl u) =
    let b : Bool = is_of p t.of in
    let e : use_in (mark t.out.code) t.out.command b ≡ 1
    = ap (λ m. use_in m t.out.command b) u.2 ∙ ap (λ g. cond g (one_if b) 0) u.3 ∙ ap one_if u.1 in
    omega arith
use-counts p k (t ∷ ts) (inr u) = omega (arith, use-counts p k ts u)

grant-owner : (p q j : ℕ) (ts : List Told) → GrantAt p j ts → GrantAt q j ts → p ≡ q
grant-owner p q j [] g h = absurd g
grant-owner p q j (t ∷ ts) (inl g) (inl h) = same-owner t.of p q g.1 h.1
grant-owner p q j (t ∷ ts) (inl g) (inr h) = absurd (omega (arith, g.0, grant-below q j ts h))
grant-owner p q j (t ∷ ts) (inr g) (inl h) = absurd (omega (arith, h.0, grant-below p j ts g))
grant-owner p q j (t ∷ ts) (inr g) (inr h) = grant-owner p q j ts g h

use-owner : (p q k : ℕ) (ts : List Told) → UseAt p k ts → UseAt q k ts → p ≡ q
use-owner p q k [] g h = absurd g
use-owner p q k (t ∷ ts) (inl g) (inl h) = same-owner t.of p q g.1 h.1
use-owner p q k (t ∷ ts) (inl g) (inr h) = absurd (omega (arith, g.0, use-below q k ts h))
use-owner p q k (t ∷ ts) (inr g) (inl h) = absurd (omega (arith, h.0, use-below p k ts g))
use-owner p q k (t ∷ ts) (inr g) (inr h) = use-owner p q k ts g h

-- a count of one is one place
abbrev Only : ℕ → List Told → Type 0
Only p ts = (j : ℕ) × GrantAt p j ts × ((i : ℕ) → GrantAt p i ts → i ≡ j)

only_one : (p : ℕ) (ts : List Told) → grants_of p ts ≡ 1 → Only p ts
only_one p [] e = absurd (omega arith)
only_one p (t ∷ ts) e = at (mark t.out.code) refl (is_of p t.of) refl e (only_one p ts)
  where
    older : (is_of p t.of ≡ true → mark t.out.code ≡ grant → ⊥) → Only p ts → Only p (t ∷ ts)
    older n o = (o.0, inr o.1, λ i g. elim g [ inl a ↦ absurd (n a.1 a.2) | inr b ↦ o.2 i b ])

    at : (m : Mark) → mark t.out.code ≡ m → (b : Bool) → is_of p t.of ≡ b → grant_in m b + grants_of p ts ≡ 1
        → (grants_of p ts ≡ 1 → Only p ts) → Only p (t ∷ ts)
    at scan x b y c f = older (λ h k. let z : ◌≡◌ {A = ℕ} 0 1 = cc in omega arith) (f (omega arith))
    at grant x true y c f = (
      length ts,
      inl (refl, y, x),
      λ i g. elim g [ inl a ↦ a.0 | inr b ↦ absurd (omega (arith, grant-counts p i ts b)) ],
    )
    at grant x false y c f = older (λ h k. let z : ◌≡◌ {A = ℕ} 0 1 = cc in omega arith) (f (omega arith))
    at success x b y c f = older (λ h k. let z : ◌≡◌ {A = ℕ} 0 1 = cc in omega arith) (f (omega arith))
    at failure x b y c f = older (λ h k. let z : ◌≡◌ {A = ℕ} 0 1 = cc in omega arith) (f (omega arith))

on-use : (m : Mark) (c : Coded Command) (P : Type 0) → m ≡ success → needs_grant c ≡ true → OnUse m c P → P
on-use m c P e g h = let k : OnUse success c P = subst (λ z. OnUse z c P) e h in subst (λ b. When b P) g k

same_place : (n p : ℕ) → eqb n p ≡ true → n ≡ p
same_place n p h = grind (arith, nat_tests)

one_of : (p : ℕ) (w : Owner) (ts : List Told) → is_of p w ≡ true → One w ts → grants_of p ts ≡ 1
one_of p nobody ts e h = absurd h
one_of p (owner n r) ts e h = subst (λ z. grants_of z ts ≡ 1) (same_place n p e) h

first_of : (p : ℕ) (w : Owner) (ts : List Told) → is_of p w ≡ true → First w ts → uses_of p ts ≡ 0
first_of p nobody ts e h = absurd h
first_of p (owner n r) ts e h = subst (λ z. uses_of z ts ≡ 0) (same_place n p e) h

-- a SUCCESS has one grant before it
paid : (p k : ℕ) (ts : List Told) → Each granted ts → UseAt p k ts
    → (j : ℕ) × GrantAt p j ts × (j < k) × ((i : ℕ) → GrantAt p i ts → i < k → i ≡ j)
paid p k [] e u = absurd u
paid p k (t ∷ ts) e (inl u) =
    let o : Only p ts = only_one p ts (one_of p t.of ts u.1 (on-use _ _ (One t.of ts) u.2 u.3 e.0)) in (
      o.0,
      inr o.1,
      omega (arith, u.0, grant-below p o.0 ts o.1),
      λ i g b. elim g [ inl a ↦ absurd (omega (arith, a.0, u.0)) | inr c ↦ o.2 i c ],
    )
paid p k (t ∷ ts) e (inr u) =
    let o = paid p k ts e.1 u in (
      o.0,
      inr o.1,
      o.2,
      λ i g b. elim g [ inl a ↦ absurd (omega (arith, a.0, use-below p k ts u)) | inr c ↦ o.3 i c b ],
    )

-- a SUCCESS of a packet is its only one
no-use : (p : ℕ) (t : Told) (ts : List Told) → unshared t ts → is_of p t.of ≡ true → mark t.out.code ≡ success
    → needs_grant t.out.command ≡ true → uses_of p ts ≡ 0
no-use p t ts e o m c = first_of p t.of ts o (on-use _ _ (First t.of ts) m c e)

alone : (p k l : ℕ) (ts : List Told) → Each unshared ts → UseAt p k ts → UseAt p l ts → k ≡ l
alone p k l [] e u v = absurd u
alone p k l (t ∷ ts) e (inl u) (inl v) = u.0 ∙ sym v.0
alone p k l (t ∷ ts) e (inl u) (inr v) = absurd (omega (arith, use-counts p l ts v, no-use p t ts e.0 u.1 u.2 u.3))
alone p k l (t ∷ ts) e (inr u) (inl v) = absurd (omega (arith, use-counts p k ts u, no-use p t ts e.0 v.1 v.2 v.3))
alone p k l (t ∷ ts) e (inr u) (inr v) = alone p k l ts e.1 u v

-- a SUCCESS that was granted is of some packet
itself : (n : ℕ) → eqb n n ≡ true
itself n = grind (arith, nat_tests)

of-whom : (w : Owner) (ts : List Told) → One w ts → (p : ℕ) × (is_of p w ≡ true)
of-whom nobody ts h = absurd h
of-whom (owner n r) ts h = (n, itself n)

use-of : (k : ℕ) (ts : List Told) → Each granted ts → UsedAt k ts → (p : ℕ) × UseAt p k ts
use-of k [] e u = absurd u
use-of k (t ∷ ts) e (inl u) =
    let o = of-whom t.of ts (on-use _ _ (One t.of ts) u.1 u.2 e.0) in (o.0, inl (u.0, o.1, u.1, u.2))
use-of k (t ∷ ts) e (inr u) = let o = use-of k ts e.1 u in (o.0, inr o.1)

pub one_grant : (ts : List Told) → Each granted ts → (k : ℕ) → UsedAt k ts
    → (j : ℕ) × Pays ts j k × ((i : ℕ) → Pays ts i k → i ≡ j)
one_grant ts g k used =
    let w = use-of k ts g used in
    let o = paid w.0 k ts g w.1 in (
      o.0,
      record { request = w.0; granted = o.1; used = w.1; before = o.2 },
      λ i y. o.3 i (subst (λ z. GrantAt z i ts) (use-owner y.request w.0 k ts y.used w.1) y.granted) y.before,
    )

pub spent_once : (ts : List Told) → Each unshared ts → (j k l : ℕ) → Pays ts j k → Pays ts j l → k ≡ l
spent_once ts f j k l x y =
    let e : x.request ≡ y.request = grant-owner x.request y.request j ts x.granted y.granted in
    alone y.request k l ts f (subst (λ z. UseAt z k ts) e x.used) y.used
