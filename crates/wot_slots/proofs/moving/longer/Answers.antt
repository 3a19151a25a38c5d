use Rattle.std.proofs.Common.{refl}
use Rattle.wot_slots.proofs.moving.longer.Goals as goal

pub returns-in_default-clause-whole : goal.returns-in_default-clause-whole
returns-in_default-clause-whole g c = λ n. refl
