use Rattle.std.proofs.Common.{ap}
use Rattle.device.specs.View.{view}
use Rattle.device.proofs.AnyHeld.{any-enough, any_value}
use Rattle.device.proofs.keeping.Device.any_agrees.Goals as goal

pub returns : goal.returns
returns g c =
    let s = view g.M.Matcher g.S.Memory c.args.self.now in
    let all = ap g.S.Memory.held c.search.ensures.memory in
    record {
      value = any_value s _ _ _ _ _ _ c.any_agrees.ensures c.search.ensures.asks all;
      enough = any-enough s _ _ _ _ _ _ c.any_agrees.ensures c.search.ensures.asks all g.met.S.Memory.sized.1;
    }
