-- The parts of a reader of lines as they lie in memory, and their invariants.
use Rattle.std.specs.Prelude.{◌≡◌, ◌-◌, ◌≤◌, ◌^◌, drop, take, vec_len, vec_capacity}
use Rattle.wot_io.specs.declared.buffer.Buffer.TheInside as buffer
use Rattle.wot_io.specs.declared.intake.Intake.TheInside as intake
use Rattle.wot_io.specs.ReaderState.{Holding, Taking}

abbrev pub holding_of : buffer.Inside → Holding
holding_of a = record {
  held = drop a.start a.octets.items;
  text = take (a.text_end - a.text_start) (drop a.text_start a.octets.items);
}

pub record IsBuffer (a : buffer.Inside) : Type 0 where
  pub capacity : 16842752 ≤ vec_capacity a.octets
  pub start : a.start ≤ vec_len a.octets
  pub text_start : a.text_start ≤ a.text_end
  pub text_end : a.text_end ≤ vec_len a.octets

abbrev pub taking_of : intake.Inside → Taking
taking_of a = record { taken = a.taken; piece = take a.len a.octets.items }

pub record IsIntake (a : intake.Inside) : Type 0 where
  pub room : vec_len a.octets ≡ 65536
  pub len : a.len ≤ 65536
  pub within : a.taken ≤ 2 ^ 30
