-- MP: two passwords, each with its sum behind it.
use Rattle.std.proofs.Common.{◌≡◌, ℕ, Bool, true, false, cond, not, ◌&&◌, List, length, take, drop, Ok, Err, ◌∙◌, arith}
use Rattle.codes.specs.declared.code.Code.{Code}
use Rattle.codes.specs.declared.code.Code.TheVariants.{NotMatch, Success, TryAgain}
use Rattle.machine.specs.Answers.{Step, just}
use Rattle.machine.specs.Requests.{change_password, password_at, sum_right}
use Rattle.machine.specs.State.{State, guarded}
use Rattle.packet.specs.Requests.{RequestParts}
use Rattle.requests.specs.Passwords.{password_in}
use Rattle.requests.specs.Sizes.{sized}
use Rattle.std.proofs.lemmas.Bool.{eq-eqb}
use Rattle.std.proofs.lemmas.List.{get_or-drop, get_or-take, length-drop, length-take-le, take-take}
use Rattle.std.specs.Str.{bytes_eq}

module _ (s : State) (q : RequestParts) (whole : length q.«data» ≡ 36)
    (front back : List ℕ) (f : front ≡ take 18 q.«data») (b : back ≡ drop 18 q.«data») where
  abbrev bs : List ℕ
  bs = q.«data»

  first-password : password_in front ≡ cond (sum_right 0 bs) (Ok (password_at 0 bs)) (Err TryAgain)
  first-password =
      let n = eq-eqb _ 18 (length-take-le 18 bs (omega arith)) in
      rw (f, n, get_or-take 18 bs 16 0 (omega arith), get_or-take 18 bs 17 0 (omega arith), take-take 16 18 bs (omega arith))

  second-password : password_in back ≡ cond (sum_right 18 bs) (Ok (password_at 18 bs)) (Err TryAgain)
  second-password =
      let n = eq-eqb (length (drop 18 bs)) 18 (omega (arith, length-drop 18 bs)) in
      rw (b, n, get_or-drop 18 bs 16 0, get_or-drop 18 bs 17 0)

  -- by whether the sums are right
  abbrev step : Bool → Bool → Step
  step a b =
      cond (not (a && b)) (just s q TryAgain)
      (cond (bytes_eq (password_at 0 bs) s.password) (just (guarded s (password_at 18 bs)) q Success) (just s q NotMatch))

  steps : step (sum_right 0 bs) (sum_right 18 bs) ≡ change_password s (sized q)
  steps = let n = eq-eqb (length bs) 36 whole in rw n

  pub first-fails : (code : Code) → Err code ≡ password_in front → just s q code ≡ change_password s (sized q)
  first-fails code e = at _ _ (e ∙ first-password) ∙ steps
    where
      at : (a b : Bool) → Err code ≡ cond a (Ok (password_at 0 bs)) (Err TryAgain) → just s q code ≡ step a b
      at true b e = cc
      at false b e = cc

  module _ (own : List ℕ) (e : Ok own ≡ password_in front) where
    pub second-fails : (code : Code) → Err code ≡ password_in back → just s q code ≡ change_password s (sized q)
    second-fails code k = at _ _ (e ∙ first-password) (k ∙ second-password) ∙ steps
      where
        at : (a b : Bool) → Ok own ≡ cond a (Ok (password_at 0 bs)) (Err TryAgain)
            → Err code ≡ cond b (Ok (password_at 18 bs)) (Err TryAgain) → just s q code ≡ step a b
        at true true e k = cc
        at true false e k = cc
        at false b e k = cc

    -- and the first is the module's own, or differs
    pub both-right : (new : List ℕ) → Ok new ≡ password_in back → (differs : Bool) → differs ≡ not (bytes_eq own s.password)
        → cond differs (just s q NotMatch) (just (guarded s new) q Success) ≡ change_password s (sized q)
    both-right new k differs d = turned _ _ differs _ d ∙ at _ _ (e ∙ first-password) (k ∙ second-password) ∙ steps
      where
        turned : (x y : Step) (r b : Bool) → r ≡ not b → cond r x y ≡ cond b y x
        turned x y r true d = rw d
        turned x y r false d = rw d

        at : (a b : Bool) → Ok own ≡ cond a (Ok (password_at 0 bs)) (Err TryAgain) → Ok new ≡ cond b (Ok (password_at 18 bs)) (Err TryAgain)
            → cond (bytes_eq own s.password) (just (guarded s new) q Success) (just s q NotMatch) ≡ step a b
        at true true e k = cc
        at true false e k = cc
        at false b e k = cc
