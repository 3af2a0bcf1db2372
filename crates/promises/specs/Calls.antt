-- What a public call's contract carries of the laws of runs.
use Rattle.std.specs.Prelude.{◌≡◌, ℕ, Bool, true, List, ◌∷◌, None}
use Rattle.machine.specs.Machine.{Call, after}
use Rattle.machine.specs.State.{State, fresh}
use Rattle.promises.specs.Locked.{shown_locked}
use Rattle.promises.specs.Promises.{Promised}
use Rattle.promises.specs.Record.{Entry, record_of, told}

-- a run of a module: over some matcher and memory it was made with a number, the calls came, the newest first, `x` is
-- their record, and now it is `v`
pub record Run (x : List Entry) (v : State) : Type 0 where
  pub agree : List ℕ → List ℕ → ℕ → Bool
  pub size : ℕ
  pub room : ℕ
  pub own : ℕ
  pub calls : List Call
  pub noted : x ≡ record_of (fresh agree size room own) calls
  pub led : v ≡ after (fresh agree size room own) calls

-- the module as it was made
abbrev pub making : {x : List Entry} {v : State} → Run x v → State
making r = fresh r.agree r.size r.room r.own

-- two locked modules with equal password, number and Network Mode
pub record Twins (a b : State) : Type 0 where
  pub first_locked : a.locked ≡ true
  pub second_locked : b.locked ≡ true
  pub password : a.password ≡ b.password
  pub own : a.own ≡ b.own
  pub network : a.settings.network ≡ b.settings.network

-- what a call keeps: every run that led to the module goes on with it, and of the longer run every promise holds
pub record Keeps (v : State) (e : Entry) (w : State) : Type 0 where
  pub goes_on : (x : List Entry) → Run x v → Run (e ∷ x) w
  -- it is the same run, one call longer
  pub same_making : (x : List Entry) (r : Run x v) → making (goes_on x r) ≡ making r
  pub one_longer : (x : List Entry) (r : Run x v) → (goes_on x r).calls ≡ e.call ∷ r.calls
  pub promised : (x : List Entry) (r : Run x v) → Promised (making r) (e ∷ x) (told r.own (e ∷ x)) w
  -- locked, it awaits nothing
  pub idle : (x : List Entry) → Run x v → w.locked ≡ true → w.waiting ≡ None
  -- and cannot be told apart from any other that has a run and is locked alike
  pub alike : (x : List Entry) → Run x v → (y : List Entry) (b : State) → Run y b → Twins w b
      → (cs : List Call) → shown_locked w cs ≡ shown_locked b cs
