use Rattle.std.proofs.Common.{refl}
use Rattle.machine.specs.State.Phase.{
  grant_to_enroll,
  grant_to_delete,
  first_finger,
  person_to_verify,
  person_to_identify,
  person_to_delete,
}
use Rattle.phases.proofs.Waits.{presses}
use Rattle.phases.proofs.deciding.match_awaited.Goals as goal

pub returns-in-GrantToEnroll-Finger-clause-value : goal.returns-in-GrantToEnroll-Finger-clause-value
returns-in-GrantToEnroll-Finger-clause-value g c = λ fits.
    let d = c.args.device.now in
    let k = c.in-GrantToEnroll-Finger in
    let asked = rw c.to_enroll.ensures at c.ask_administrator.ensures in
    presses g.M.Matcher g.S.Memory d _ k.scan _ (grant_to_enroll k.enrollment) _ k.is-1 k.is-0 refl
    (asked (grant_to_enroll k.enrollment) (first_finger k.enrollment) refl refl)

pub returns-in-GrantToDelete-Finger-clause-value : goal.returns-in-GrantToDelete-Finger-clause-value
returns-in-GrantToDelete-Finger-clause-value g c = λ fits.
    let d = c.args.device.now in
    let k = c.in-GrantToDelete-Finger in
    let asked = rw c.to_delete.ensures at c.ask_administrator-in-GrantToDelete-Finger.ensures in
    presses g.M.Matcher g.S.Memory d _ k.scan _ (grant_to_delete k.range) _ k.is-1 k.is-0 refl
    (asked (grant_to_delete k.range) (person_to_delete k.range) refl refl)

pub returns-in-PersonToVerify-Finger-clause-value : goal.returns-in-PersonToVerify-Finger-clause-value
returns-in-PersonToVerify-Finger-clause-value g c = λ fits.
    let d = c.args.device.now in
    let k = c.in-PersonToVerify-Finger in
    let p = person_to_verify k.id in
    presses g.M.Matcher g.S.Memory d _ k.scan _ p _ k.is-1 k.is-0 refl (c.recognize.ensures p refl)

pub returns-in-PersonToIdentify-Finger-clause-value : goal.returns-in-PersonToIdentify-Finger-clause-value
returns-in-PersonToIdentify-Finger-clause-value g c = λ fits.
    let d = c.args.device.now in
    let k = c.in-PersonToIdentify-Finger in
    let p = person_to_identify k.range in
    presses g.M.Matcher g.S.Memory d _ k.scan _ p _ k.is-1 k.is-0 refl (c.recognize-in-PersonToIdentify-Finger.ensures p refl)
