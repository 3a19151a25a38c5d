-- How the text of a certificate is read.
use Rattle.std.specs.Prelude.{◌≡◌, List, [], ◌∷◌, None, Ok}
use Rattle.wot_packet.specs.Spelling.{AreShort, Spelled, Spells}
use Rattle.wot_packet.specs.Reading.{packets_of}
use Rattle.wot_cert.specs.Assembly.{certificates_of, skipped_in}
use Rattle.wot_component.specs.Certificate.{Certificate, unmarked}
use Rattle.wot_cert.specs.Fault.{first_fault}
use Rattle.wot_component.specs.Text.{text_of}

-- The text spells packets, and the plain reader returns them. They have no fault, no key is skipped, and exactly this
-- certificate is assembled from them, without marks.
pub record ReadBack (c : Certificate) : Type 0 where
  pub packets : List Spelled
  pub spelled : Spells (text_of c) packets
  pub reader : packets_of (text_of c) ≡ Ok packets
  pub short : AreShort packets
  pub fault : first_fault packets ≡ None
  pub certificates : certificates_of packets ≡ unmarked c ∷ []
  pub skipped : skipped_in packets ≡ 0
