-- What one more outcome does to the ledger of grants. Nothing here knows the commands' work.
use Rattle.std.proofs.Common.{◌≡◌, ℕ, suc, ◌+◌, ◌≤◌, Bool, true, false, cond, eqb, List, ◌∷◌, Some, None, Option, sym}
use Rattle.std.proofs.Common.{refl, ap, ◌∙◌, subst, arith}
use Rattle.codes.specs.declared.code.Code.{Code}
use Rattle.codes.specs.declared.code.Code.TheVariants.{Success, ScanSuccess, Continue}
use Rattle.codes.specs.declared.command.Command.{Command}
use Rattle.codes.specs.declared.numbered.Coded.{Coded}
use Rattle.codes.specs.declared.numbered.Coded.TheVariants.{Known}
use Rattle.packet.specs.Requests.{RequestParts}
use Rattle.packet.specs.declared.response.Outcome.{Outcome}
use Rattle.std.proofs.lemmas.Bool.Decides.{nat_tests}
use Rattle.machine.specs.Answers.{outcome}
use Rattle.machine.specs.State.{Phase, Waiting, command_of}
use Rattle.promises.specs.Grants.{Each, fail_in, grant_held, grant_in, grants, holds_grant, named, needs_grant, one_if, use_in, uses}
use Rattle.promises.specs.Record.{Mark, Owner, Told, mark}
use Rattle.promises.specs.Record.Mark.{scan, grant, success, failure}
use Rattle.promises.specs.Record.Owner.{nobody, owner}
use Rattle.promises.proofs.Counts.{OnUse, When, failed, granted, grants_of, open_of, stands, unshared, uses_of}
use Rattle.promises.proofs.Pending.{Awaits, Detail, Pending, Stands}

abbrev pub note : Owner → Outcome → Told
note w o = record { of = w; out = o }

-- after `n` calls, where `w` is the waiting packet, `ts` the outcomes and `x` what the module waits for
pub record Ledger (n : ℕ) (w : Owner) (ts : List Told) (x : Option Waiting) : Type 0 where
  pub fresh : (p : ℕ) → n ≤ p → Stands p false ts
  pub pending : Pending n x w ts
  pub balance : grants ts ≡ uses ts + failed ts + one_if (grant_held x)
  pub owned : Each named ts
  pub one : Each granted ts
  pub first : Each unshared ts

apart : (a b : ℕ) → (a ≡ b → ⊥) → eqb a b ≡ false
apart a b h = grind (arith, nat_tests)

alike : (a : ℕ) → eqb a a ≡ true
alike a = grind (arith, nat_tests)

no-grant : (m : Mark) → grant_in m false ≡ 0
no-grant scan = refl
no-grant grant = refl
no-grant success = refl
no-grant failure = refl

zero-either : (b : Bool) → cond {A = ℕ} b 0 0 ≡ 0
zero-either true = refl
zero-either false = refl

no-use : (m : Mark) (c : Coded Command) → use_in m c false ≡ 0
no-use scan c = refl
no-use grant c = refl
no-use success c = zero-either (needs_grant c)
no-use failure c = refl

no-stand : (m : Mark) (g : Bool) → stands m false g ≡ g
no-stand scan g = refl
no-stand grant g = refl
no-stand success g = refl
no-stand failure g = refl

no-fail : (m : Mark) → fail_in m false ≡ 0
no-fail scan = refl
no-fail grant = refl
no-fail success = refl
no-fail failure = refl

-- an outcome of another packet
other : (p a : ℕ) (q : RequestParts) (o : Outcome) {b : Bool} {ts : List Told} → (a ≡ p → ⊥) → Stands p b ts
    → Stands p b (note (owner a q) o ∷ ts)
other p a q o {b} {ts} ne s =
    let m : Mark = mark o.code in
    let e : eqb a p ≡ false = apart a p ne in
    let g : grant_in m (eqb a p) ≡ 0 = ap (grant_in m) e ∙ no-grant m in
    let u : use_in m o.command (eqb a p) ≡ 0 = ap (use_in m o.command) e ∙ no-use m o.command in
    record {
      granted = omega (arith, g, s.granted);
      unused = omega (arith, u, s.unused);
      opened = ap (λ z. stands m z (open_of p ts)) e ∙ no-stand m (open_of p ts) ∙ s.opened;
    }

pending-other : (n : ℕ) (x : Option Waiting) (w : Owner) (ts : List Told) (q : RequestParts) (o : Outcome)
    → Pending n x w ts → Pending (suc n) x w (note (owner n q) o ∷ ts)
pending-other n None w ts q o h = tt
pending-other n (Some x) nobody ts q o h = absurd h
pending-other n (Some x) (owner p r) ts q o h = record {
  place = omega (arith, h.place);
  command = h.command;
  detail = h.detail;
  stands = other p n q o (λ e. omega (arith, h.place)) h.stands;
}

pending-later : (n : ℕ) (x : Option Waiting) (w : Owner) (ts : List Told) → Pending n x w ts → Pending (suc n) x w ts
pending-later n None w ts h = tt
pending-later n (Some x) nobody ts h = absurd h
pending-later n (Some x) (owner p r) ts h = record {
  place = omega (arith, h.place);
  command = h.command;
  detail = h.detail;
  stands = h.stands;
}

-- a call is over
pub tick : {n : ℕ} {w : Owner} {ts : List Told} {x : Option Waiting} → Ledger n w ts x → Ledger (suc n) w ts x
tick {n} {w} {ts} {x} l = record {
  fresh = λ p h. l.fresh p (omega arith);
  pending = pending-later n x w ts l.pending;
  balance = l.balance;
  owned = l.owned;
  one = l.one;
  first = l.first;
}

-- a packet is answered at once
pub answers : {n : ℕ} {w : Owner} {ts : List Told} {x : Option Waiting} → Ledger n w ts x → (q : RequestParts) (o : Outcome)
    → ((b : Bool) → grant_in (mark o.code) b ≡ 0) → ((b : Bool) → use_in (mark o.code) o.command b ≡ 0)
    → ((P : Type 0) → OnUse (mark o.code) o.command P) → q.command ≡ o.command
    → Ledger (suc n) w (note (owner n q) o ∷ ts) x
answers {n} {w} {ts} {x} l q o g u k c =
    let m : Mark = mark o.code in
    let f : fail_in m (open_of n ts) ≡ 0 = ap (fail_in m) (l.fresh n (omega arith)).opened ∙ no-fail m in
    record {
      fresh = λ p h. other p n q o (λ e. omega arith) (l.fresh p (omega arith));
      pending = pending-other n x w ts q o l.pending;
      balance = omega (arith, g true, u true, f, l.balance);
      owned = (c, l.owned);
      one = (k _, l.one);
      first = (k _, l.first);
    }

-- a packet begins to wait
pub asks : {n : ℕ} {w : Owner} {ts : List Told} → Ledger n w ts None → (q : RequestParts) (x : Waiting)
    → q.command ≡ Known (command_of x.phase)
    → Detail q x.phase → holds_grant x.phase ≡ false → Ledger (suc n) (owner n q) ts (Some x)
asks {n} {w} {ts} l q x c d a = record {
  fresh = λ p h. l.fresh p (omega arith);
  pending = record {
    place = omega arith;
    command = c;
    detail = d;
    stands = (let P : Bool → Type 0 = λ b. Stands n b ts in subst P (sym a) (l.fresh n (omega arith)));
  };
  balance = l.balance ∙ ap (λ b. uses ts + failed ts + one_if b) (sym a);
  owned = l.owned;
  one = l.one;
  first = l.first;
}

-- the phase `b` may follow the phase `a` of a request, the grant kept
pub record Follows (a b : Phase) : Type 0 where
  pub command : command_of b ≡ command_of a
  pub detail : (q : RequestParts) → Detail q a → Detail q b
  pub kept : holds_grant b ≡ holds_grant a

pub stays : (a : Phase) → Follows a a
stays a = record { command = refl; detail = λ q d. d; kept = refl }

-- the wait goes on, with no outcome
pub calm : {n : ℕ} {ts : List Told} (w : Owner) (x y : Waiting) → Ledger n w ts (Some x) → Follows x.phase y.phase → Ledger n w ts (Some y)
calm nobody x y l f = absurd l.pending
calm {n} {ts} (owner p q) x y l f =
    let h : Awaits n p q x.phase ts = l.pending in
    record {
      fresh = l.fresh;
      pending = record {
        place = h.place;
        command = h.command ∙ ap Known (sym f.command);
        detail = f.detail q h.detail;
        stands = (let P : Bool → Type 0 = λ b. Stands p b ts in subst P (sym f.kept) h.stands);
      };
      balance = l.balance ∙ ap (λ b. uses ts + failed ts + one_if b) (sym f.kept);
      owned = l.owned;
      one = l.one;
      first = l.first;
    }

-- an outcome of the request that waits
abbrev pub says : Waiting → ℕ → ℕ → Code → Outcome
says x param size code = outcome (Known (command_of x.phase)) param size code

-- SCAN_SUCCESS
pub scans : {n : ℕ} {ts : List Told} (w : Owner) (x y : Waiting) (param size : ℕ) → Ledger n w ts (Some x) → Follows x.phase y.phase
    → Ledger n w (note w (says x param size ScanSuccess) ∷ ts) (Some y)
scans nobody x y param size l f = absurd l.pending
scans {n} {ts} (owner p q) x y param size l f =
    let h : Awaits n p q x.phase ts = l.pending in
    let s : Stands p (holds_grant y.phase) ts = (let P : Bool → Type 0 = λ b. Stands p b ts in subst P (sym f.kept) h.stands) in
    let o : Outcome = says x param size ScanSuccess in
    record {
      fresh = λ z y. other z p q o (λ e. omega (arith, h.place)) (l.fresh z y);
      pending = record {
        place = h.place;
        command = h.command ∙ ap Known (sym f.command);
        detail = f.detail q h.detail;
        stands = record { granted = omega (arith, s.granted); unused = omega (arith, s.unused); opened = s.opened };
      };
      balance = omega (arith, l.balance, ap one_if f.kept);
      owned = (h.command, l.owned);
      one = (tt, l.one);
      first = (tt, l.first);
    }

-- CONTINUE
pub continues : {n : ℕ} {ts : List Told} (w : Owner) (x y : Waiting) (param size : ℕ) → Ledger n w ts (Some x)
    → command_of y.phase ≡ command_of x.phase → ((q : RequestParts) → Detail q x.phase → Detail q y.phase) → holds_grant x.phase ≡ false
    → ((q : RequestParts) → Detail q x.phase → holds_grant y.phase ≡ true)
    → Ledger n w (note w (says x param size Continue) ∷ ts) (Some y)
continues nobody x y param size l c d a b = absurd l.pending
continues {n} {ts} (owner p q) x y param size l c d a b =
    let h : Awaits n p q x.phase ts = l.pending in
    let s : Stands p (holds_grant x.phase) ts = h.stands in
    let o : Outcome = says x param size Continue in
    let i : eqb p p ≡ true = alike p in
    let j : holds_grant y.phase ≡ true = b q h.detail in
    let z : Stands p true (note (owner p q) o ∷ ts) = record {
      granted = omega (arith, s.granted, ap one_if a, ap one_if i);
      unused = omega (arith, s.unused);
      opened = ap (λ v. cond v true (open_of p ts)) i;
    } in
    record {
      fresh = λ z y. other z p q o (λ e. omega (arith, h.place)) (l.fresh z y);
      pending = record {
        place = h.place;
        command = h.command ∙ ap Known (sym c);
        detail = d q h.detail;
        stands = (let P : Bool → Type 0 = λ v. Stands p v (note (owner p q) o ∷ ts) in subst P (sym j) z);
      };
      balance = omega (arith, l.balance, ap one_if a, ap one_if j);
      owned = (h.command, l.owned);
      one = (tt, l.one);
      first = (tt, l.first);
    }

-- a SUCCESS that uses a grant
pub spends : {n : ℕ} {ts : List Told} (w : Owner) (x : Waiting) (param size : ℕ) → Ledger n w ts (Some x) → holds_grant x.phase ≡ true
    → needs_grant (Known (command_of x.phase)) ≡ true → Ledger n w (note w (says x param size Success) ∷ ts) None
spends nobody x param size l a g = absurd l.pending
spends {n} {ts} (owner p q) x param size l a g =
    let h : Awaits n p q x.phase ts = l.pending in
    let s : Stands p (holds_grant x.phase) ts = h.stands in
    let o : Outcome = says x param size Success in
    let u : cond (needs_grant (Known (command_of x.phase))) (one_if true) 0 ≡ 1 = ap (λ v. cond v 1 0) g in
    let P : Bool → Type 0 = λ v. When v (grants_of p ts ≡ 1) in
    let Q : Bool → Type 0 = λ v. When v (uses_of p ts ≡ 0) in
    record {
      fresh = λ z y. other z p q o (λ e. omega (arith, h.place)) (l.fresh z y);
      pending = tt;
      balance = omega (arith, l.balance, ap one_if a, u);
      owned = (h.command, l.owned);
      one = (subst P (sym g) (s.granted ∙ ap one_if a), l.one);
      first = (subst Q (sym g) s.unused, l.first);
    }

-- a SUCCESS that needs none
pub succeeds : {n : ℕ} {ts : List Told} (w : Owner) (x : Waiting) (param size : ℕ) → Ledger n w ts (Some x) → holds_grant x.phase ≡ false
    → needs_grant (Known (command_of x.phase)) ≡ false → Ledger n w (note w (says x param size Success) ∷ ts) None
succeeds nobody x param size l a g = absurd l.pending
succeeds {n} {ts} (owner p q) x param size l a g =
    let h : Awaits n p q x.phase ts = l.pending in
    let o : Outcome = says x param size Success in
    let u : cond (needs_grant (Known (command_of x.phase))) (one_if true) 0 ≡ 0 = ap (λ v. cond v 1 0) g in
    let P : Bool → Type 0 = λ v. When v (grants_of p ts ≡ 1) in
    let Q : Bool → Type 0 = λ v. When v (uses_of p ts ≡ 0) in
    record {
      fresh = λ z y. other z p q o (λ e. omega (arith, h.place)) (l.fresh z y);
      pending = tt;
      balance = omega (arith, l.balance, ap one_if a, u);
      owned = (h.command, l.owned);
      one = (subst P (sym g) tt, l.one);
      first = (subst Q (sym g) tt, l.first);
    }

-- a SUCCESS, where a grant is held just if one is needed
pub ends : {n : ℕ} {ts : List Told} (w : Owner) (x : Waiting) (param size : ℕ) → Ledger n w ts (Some x)
    → (b : Bool) → holds_grant x.phase ≡ b → needs_grant (Known (command_of x.phase)) ≡ b
    → Ledger n w (note w (says x param size Success) ∷ ts) None
ends w x param size l true a g = spends w x param size l a g
ends w x param size l false a g = succeeds w x param size l a g

-- a failed end
pub fails : {n : ℕ} {ts : List Told} (w : Owner) (x : Waiting) (param size : ℕ) (code : Code) → Ledger n w ts (Some x) → mark code ≡ failure
    → Ledger n w (note w (says x param size code) ∷ ts) None
fails nobody x param size code l e = absurd l.pending
fails {n} {ts} (owner p q) x param size code l e =
    let h : Awaits n p q x.phase ts = l.pending in
    let o : Outcome = says x param size code in
    let c : Coded Command = Known (command_of x.phase) in
    let g : grant_in (mark code) true ≡ 0 = ap (λ m. grant_in m true) e in
    let u : use_in (mark code) c true ≡ 0 = ap (λ m. use_in m c true) e in
    let f : fail_in (mark code) (open_of p ts) ≡ one_if (holds_grant x.phase) = ap (λ m. fail_in m (open_of p ts)) e
    ∙ ap one_if h.stands.opened in
    let P : Mark → Type 0 = λ m. OnUse m c (grants_of p ts ≡ 1) in
    let Q : Mark → Type 0 = λ m. OnUse m c (uses_of p ts ≡ 0) in
    record {
      fresh = λ z y. other z p q o (λ e. omega (arith, h.place)) (l.fresh z y);
      pending = tt;
      balance = omega (arith, l.balance, g, u, f);
      owned = (h.command, l.owned);
      one = (subst P (sym e) tt, l.one);
      first = (subst Q (sym e) tt, l.first);
    }
