use Rattle.wot_fields.proofs.LineParts.{length-view_name}
use Rattle.wot_reply_lines.proofs.laws.names_fit.Goals as goal

pub returns : goal.returns
returns c = length-view_name c.args.name.now c.octets-octets.ensures.name
