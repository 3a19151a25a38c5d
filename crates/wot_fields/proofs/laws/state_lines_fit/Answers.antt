use Rattle.wot_fields.proofs.ImportFits.{fits_line}
use Rattle.wot_fields.proofs.laws.state_lines_fit.Goals as goal

pub returns : goal.returns
returns c = fits_line
