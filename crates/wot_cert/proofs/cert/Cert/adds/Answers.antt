use Rattle.std.proofs.Common.{ℕ, ◌≤◌, ◌<◌, arith}
use Rattle.wot_component.proofs.TextSize.{size_less}
use Rattle.wot_cert.proofs.cert.Cert.adds.Goals as goal

below : (n m p : ℕ) → n ≤ m → m < p → n < p
below n m p h k = omega arith

pub added-requires : goal.added-requires
added-requires c = below _ _ _ (size_less c.args.self.now c.args.other.now) c.requires.sizes
