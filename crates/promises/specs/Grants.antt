-- Grants: each CONTINUE, its end, and the SUCCESS that it is spent on.
use Rattle.std.specs.Prelude.{◌≡◌, ℕ, ◌+◌, ◌<◌, ◌==◌, Bool, true, false, cond, ◌⊎◌, List, [], ◌∷◌, length}
use Rattle.std.specs.Prelude.{Option, Some, None}
use Rattle.codes.specs.Commands.{command_number}
use Rattle.codes.specs.declared.command.Command.{Command}
use Rattle.codes.specs.declared.command.Command.TheVariants.{EnrollByAdministrator, DeleteByAdministrator}
use Rattle.codes.specs.declared.numbered.Coded.{Coded}
use Rattle.packet.specs.Data.{known_among}
use Rattle.machine.specs.State.{Phase, Waiting}
use Rattle.machine.specs.State.Phase.{
  grant_to_enroll,
  grant_to_delete,
  first_finger,
  second_finger,
  person_to_verify,
  person_to_identify,
  person_to_delete,
}
use Rattle.machine.specs.declared.enrollment.Enroller.{Enroller}
use Rattle.machine.specs.declared.enrollment.Enroller.TheVariants.{Host, Administrator}
use Rattle.promises.specs.Record.{Mark, Owner, Told, mark}
use Rattle.promises.specs.Record.Mark.{scan, grant, success, failure}
use Rattle.promises.specs.Record.Owner.{nobody, owner}

abbrev pub one_if : Bool → ℕ
one_if true = 1
one_if false = 0

-- the commands that need a grant: ESA and DSA
abbrev pub needs_grant : Coded Command → Bool
needs_grant command = known_among command_number (EnrollByAdministrator ∷ DeleteByAdministrator ∷ []) command

-- an outcome is of the packet at a place
abbrev pub is_of : ℕ → Owner → Bool
is_of p nobody = false
is_of p (owner n q) = n == p

-- how many CONTINUEs there are, and how many SUCCESSes of ESA and DSA
abbrev pub grant_in : Mark → Bool → ℕ
grant_in scan b = 0
grant_in grant b = one_if b
grant_in success b = 0
grant_in failure b = 0

abbrev pub grants : List Told → ℕ
grants [] = 0
grants (t ∷ ts) = grant_in (mark t.out.code) true + grants ts

abbrev pub use_in : Mark → Coded Command → Bool → ℕ
use_in scan c b = 0
use_in grant c b = 0
use_in success c b = cond (needs_grant c) (one_if b) 0
use_in failure c b = 0

abbrev pub uses : List Told → ℕ
uses [] = 0
uses (t ∷ ts) = use_in (mark t.out.code) t.out.command true + uses ts

-- the next outcome of the packet at `p` other than SCAN_SUCCESS (`scan`: there is none); here the order is that of time
abbrev pub next_in : Mark → Bool → Mark → Mark
next_in scan b m = m
next_in grant b m = cond b grant m
next_in success b m = cond b success m
next_in failure b m = cond b failure m

abbrev pub next_of_packet : ℕ → List Told → Mark
next_of_packet p [] = scan
next_of_packet p (t ∷ later) = next_in (mark t.out.code) (is_of p t.of) (next_of_packet p later)

abbrev pub next_for : Owner → List Told → Mark
next_for nobody later = scan
next_for (owner p q) later = next_of_packet p later

-- a grant's end is failed if it is neither SUCCESS nor CONTINUE
abbrev pub fail_in : Mark → Bool → ℕ
fail_in scan b = 0
fail_in grant b = 0
fail_in success b = 0
fail_in failure b = one_if b

abbrev pub end_in : Mark → Mark → ℕ
end_in scan e = 0
end_in grant e = fail_in e true
end_in success e = 0
end_in failure e = 0

abbrev pub failed_ends : List Told → ℕ
failed_ends [] = 0
failed_ends (t ∷ later) = end_in (mark t.out.code) (next_for t.of later) + failed_ends later

abbrev pub onto : List Told → List Told → List Told
onto [] us = us
onto (t ∷ ts) us = onto ts (t ∷ us)

-- the outcomes in the order of time
abbrev pub in_time : List Told → List Told
in_time ts = onto ts []

-- ESA's first finger, ESA's second finger, DSA's person
abbrev pub by_grant : Enroller → Bool
by_grant Host = false
by_grant Administrator = true

abbrev pub holds_grant : Phase → Bool
holds_grant (grant_to_enroll e) = false
holds_grant (grant_to_delete range) = false
holds_grant (first_finger e) = by_grant e.by
holds_grant (second_finger e one quality) = by_grant e.by
holds_grant (person_to_verify id) = false
holds_grant (person_to_identify range) = false
holds_grant (person_to_delete range) = true

abbrev pub grant_held : Option Waiting → Bool
grant_held None = false
grant_held (Some w) = holds_grant w.phase

-- what holds of each outcome and those before it
abbrev pub Each : (Told → List Told → Type 0) → List Told → Type 0
Each P [] = Unit {0}
Each P (t ∷ ts) = P t ts × Each P ts

-- an outcome belongs to a packet of the record, and its command is that packet's
abbrev pub Named : Owner → Coded Command → Type 0
Named nobody c = ⊥
Named (owner p q) c = q.command ≡ c

abbrev pub named : Told → List Told → Type 0
named t before = Named t.of t.out.command

-- at the place `j` of the outcomes stands a CONTINUE of the packet at `p`
abbrev pub GrantAt : ℕ → ℕ → List Told → Type 0
GrantAt p j [] = ⊥
GrantAt p j (t ∷ ts) = ((j ≡ length ts) × (is_of p t.of ≡ true) × (mark t.out.code ≡ grant)) ⊎ GrantAt p j ts

-- at `k` stands a SUCCESS of ESA or DSA of the packet at `p`
abbrev pub UseAt : ℕ → ℕ → List Told → Type 0
UseAt p k [] = ⊥
UseAt p k (t ∷ ts) =
    ((k ≡ length ts) × (is_of p t.of ≡ true) × (mark t.out.code ≡ success) × (needs_grant t.out.command ≡ true))
    ⊎ UseAt p k ts

-- at `k` stands a SUCCESS of ESA or DSA, of whatever request
abbrev pub UsedAt : ℕ → List Told → Type 0
UsedAt k [] = ⊥
UsedAt k (t ∷ ts) = ((k ≡ length ts) × (mark t.out.code ≡ success) × (needs_grant t.out.command ≡ true)) ⊎ UsedAt k ts

-- the CONTINUE at `j` is a grant of the SUCCESS at `k`
pub record Pays (ts : List Told) (j k : ℕ) : Type 0 where
  pub request : ℕ
  pub granted : GrantAt request j ts
  pub used : UseAt request k ts
  pub before : j < k
