-- The grants of one packet, counted: what the induction over a run keeps.
use Rattle.std.proofs.Common.{◌≡◌, ℕ, ◌+◌, Bool, true, false, cond, List, [], ◌∷◌}
use Rattle.codes.specs.declared.command.Command.{Command}
use Rattle.codes.specs.declared.numbered.Coded.{Coded}
use Rattle.promises.specs.Grants.{fail_in, grant_in, is_of, needs_grant, use_in}
use Rattle.promises.specs.Record.{Mark, Owner, Told, mark}
use Rattle.promises.specs.Record.Mark.{scan, grant, success, failure}
use Rattle.promises.specs.Record.Owner.{nobody, owner}

-- how many CONTINUEs, and SUCCESSes of ESA and DSA, are of the packet at `p`
abbrev pub grants_of : ℕ → List Told → ℕ
grants_of p [] = 0
grants_of p (t ∷ ts) = grant_in (mark t.out.code) (is_of p t.of) + grants_of p ts

abbrev pub uses_of : ℕ → List Told → ℕ
uses_of p [] = 0
uses_of p (t ∷ ts) = use_in (mark t.out.code) t.out.command (is_of p t.of) + uses_of p ts

-- whether the latest outcome of the packet at `p`, other than SCAN_SUCCESS, is a CONTINUE: the next one is then its end
abbrev pub stands : Mark → Bool → Bool → Bool
stands scan b g = g
stands grant b g = cond b true g
stands success b g = cond b false g
stands failure b g = cond b false g

abbrev pub open_of : ℕ → List Told → Bool
open_of p [] = false
open_of p (t ∷ ts) = stands (mark t.out.code) (is_of p t.of) (open_of p ts)

abbrev pub open_for : Owner → List Told → Bool
open_for nobody ts = false
open_for (owner p q) ts = open_of p ts

-- the failed ends, looking back
abbrev pub failed : List Told → ℕ
failed [] = 0
failed (t ∷ ts) = fail_in (mark t.out.code) (open_for t.of ts) + failed ts

abbrev pub When : Bool → Type 0 → Type 0
When true P = P
When false P = Unit {0}

-- what holds of a SUCCESS of ESA or DSA
abbrev pub OnUse : Mark → Coded Command → Type 0 → Type 0
OnUse scan c P = Unit {0}
OnUse grant c P = Unit {0}
OnUse success c P = When (needs_grant c) P
OnUse failure c P = Unit {0}

-- one CONTINUE of its packet before it, and no SUCCESS
abbrev pub One : Owner → List Told → Type 0
One nobody before = ⊥
One (owner p q) before = grants_of p before ≡ 1

abbrev pub First : Owner → List Told → Type 0
First nobody before = ⊥
First (owner p q) before = uses_of p before ≡ 0

abbrev pub granted : Told → List Told → Type 0
granted t before = OnUse (mark t.out.code) t.out.command (One t.of before)

abbrev pub unshared : Told → List Told → Type 0
unshared t before = OnUse (mark t.out.code) t.out.command (First t.of before)
