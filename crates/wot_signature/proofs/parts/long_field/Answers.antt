use Rattle.std.proofs.Common.{take, drop, length, ◌-◌}
use Rattle.wot_signature.proofs.Slices.{slice_of_slice, slice_of_take, slice_of_middle}
use Rattle.wot_signature.proofs.parts.long_field.Goals as goal

pub returns-clause-slice : goal.returns-clause-slice
returns-clause-slice c =
    slice_of_slice _ (take (length c.args.octets.now - 4) (drop 4 c.args.octets.now)) c.args.octets.now
    (slice_of_take c.from_be_bytes-size.result (take (length c.args.octets.now - 4) (drop 4 c.args.octets.now)))
    (slice_of_middle 4 (length c.args.octets.now - 4) c.args.octets.now)
