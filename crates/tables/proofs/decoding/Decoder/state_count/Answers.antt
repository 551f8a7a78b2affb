use Rattle.std.proofs.Common.{arith, ◌≡◌}
use Rattle.tables.proofs.Known.{ready}
use Rattle.tables.proofs.Tails.{state_counted}
use Rattle.tables.proofs.decoding.Decoder.state_count.Goals as goal

pub returns : goal.returns
returns c = let e : c.loop-k.k ≡ 0 = omega arith in state_counted _ _ _ _ (ready c.args.self.now) (rw e at c.loop-k.invariant.1)
